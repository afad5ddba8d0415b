-- Lists that are compared element by element.
use Rattle.std.proofs.Common.{◌≡◌, ℕ, zero, suc, ◌+◌, ◌<◌, List, [], ◌∷◌, length, get_or, map, Some, None, Option, refl, sym, ap, ap₂, ◌∙◌, arith}
use Rattle.std.specs.List.{slice_get}
use Rattle.sqlite_schema.specs.declared.schema.Index.{Index}
use Rattle.fax_layout.specs.Shape.{Passes, PassesIndex, Remains, indexes_from, tables_from}
use Rattle.fax_layout.specs.declared.recognize.Left.{Left}
use Rattle.fax_layout.specs.declared.shape.Part.{Part}

-- lists of one length are the same where each of their elements is
pub same_each : {A B : Type 0} (f : A → B) (xs : List B) (ns : List A) → length xs ≡ length ns → ((k : ℕ) → k < length xs → slice_get xs k ≡ slice_get (map f ns) k) → xs ≡ map f ns
same_each f [] [] long each = refl
same_each f [] (n ∷ ns) long each = absurd (omega arith)
same_each f (x ∷ xs) [] long each = absurd (omega arith)
same_each f (x ∷ xs) (n ∷ ns) long each =
    let first : x ≡ f n = (let e = each 0 (omega arith) in cc) in
    ap₂ ◌∷◌ first (same_each f xs ns (omega arith) (λ k low. each (suc k) (omega arith)))

-- and so are those whose elements are all this one
pub all_alike : {A B : Type 0} (d : B) (xs : List B) (ns : List A) → length xs ≡ length ns → ((k : ℕ) → k < length xs → get_or xs k d ≡ d) → xs ≡ map (λ _. d) ns
all_alike d [] [] long each = refl
all_alike d [] (n ∷ ns) long each = absurd (omega arith)
all_alike d (x ∷ xs) [] long each = absurd (omega arith)
all_alike d (x ∷ xs) (n ∷ ns) long each = ap₂ (λ h t. h ∷ t) (each 0 (omega arith)) (all_alike d xs ns (omega arith) (λ k low. each (suc k) (omega arith)))

-- where all elements are this one, each place has it, or it is the default
pub each_alike : {A B : Type 0} (d : B) (xs : List B) (ns : List A) (i : ℕ) → xs ≡ map (λ _. d) ns → get_or xs i d ≡ d
each_alike d xs ns i same = ap (λ ys. get_or ys i d) same ∙ of_all ns i
  where
    of_all : {A : Type 0} (ns : List A) (i : ℕ) → get_or (map (λ _. d) ns) i d ≡ d
    of_all [] i = refl
    of_all (n ∷ ns) zero = refl
    of_all (n ∷ ns) (suc i) = of_all ns i

-- ---- part by part

same_tail : {X : Type 0} {x : X} {xs ys : List X} → x ∷ xs ≡ x ∷ ys → xs ≡ ys
same_tail e = cc

-- where the first of some parts is an index, what is left behind it is the others
pub passes_index : (left : Left) (first : Part) (index : Index) (behind : Option Left) → ((parts : List Part) → tables_from left.tree (first ∷ parts) ≡ tables_from (left.tree + 1) parts)
    → ((parts : List Part) → indexes_from left.tree left.table (first ∷ parts) ≡ index ∷ indexes_from (left.tree + 1) left.table parts) → PassesIndex left index behind → Passes left first behind
passes_index left first index None tables indexes none parts = (λ remains. none _ (remains.indexes ∙ indexes parts), λ no. absurd no)
passes_index left first index (Some l) tables indexes it parts = (of, to)
  where
    others : indexes_from l.tree l.table parts ≡ indexes_from (left.tree + 1) left.table parts
    others = ap₂ (λ tree table. indexes_from tree table parts) it.tree it.table

    of : Remains left (first ∷ parts) → Remains l parts
    of remains = record {
      tables = it.tables ∙ remains.tables ∙ tables parts ∙ ap (λ tree. tables_from tree parts) (sym it.tree);
      indexes = same_tail (sym it.indexes ∙ remains.indexes ∙ indexes parts) ∙ sym others;
    }

    to : Remains l parts → Remains left (first ∷ parts)
    to remains = record {
      tables = sym it.tables ∙ remains.tables ∙ ap (λ tree. tables_from tree parts) it.tree ∙ sym (tables parts);
      indexes = it.indexes ∙ ap (λ rest. index ∷ rest) (remains.indexes ∙ others) ∙ sym (indexes parts);
    }
