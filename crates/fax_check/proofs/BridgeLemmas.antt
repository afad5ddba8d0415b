-- A row is as it has to be just where it shows what it has to.
use Rattle.std.proofs.Common.{◌≡◌, inl, inr, ℕ, suc, ◌+◌, ◌<◌, List, [], ◌∷◌, map, filter, drop, take, length, get_or, All, true, refl, sym, ap, subst, ◌∙◌}
use Rattle.std.specs.List.{AllByRecursion}
use Rattle.std.specs.List.Sorted.{IsPermutation}
use Rattle.std.proofs.lemmas.List.Elements.{All-append, All-cons, All-from_recursion, All-nil, recursion_from_All}
use Rattle.std.proofs.lemmas.List.{take_more}
use Rattle.std.proofs.lemmas.List.Sorted.{All-permutation}
use Rattle.sqlite.specs.Effect.{Database}
use Rattle.sqlite.specs.Order.{Row, column}
use Rattle.sqlite.specs.Program.{overlay}
use Rattle.sqlite.specs.State.{State, Shown}
use Rattle.sqlite.specs.declared.types.Value.{Value}
use Rattle.sqlite.specs.declared.types.Value.TheVariants.{Null}
use Rattle.sqlite.proofs.Callers.{reads_as}
use Rattle.sqlite_rules.specs.Lists.{Has}
use Rattle.sqlite_rules.proofs.ListLemmas.{all_has, has_at}
use Rattle.sqlite_rules.proofs.ProbeLemmas.{mapped_has}
use Rattle.sqlite_sql.specs.Term.{Term}
use Rattle.sqlite_trees.specs.Tree.{Trees}
use Rattle.sqlite_trees.proofs.ListLemmas.{all_of, filter_all}
use Rattle.fax_check.specs.Whole.{Each}
use Rattle.fax_layout.proofs.EditLemmas.{has_mapped, has_permuted}
use Rattle.fax_layout.proofs.SelectLemmas.{answers, passes, show}
use Rattle.fax_schema.proofs.StatementForms.{Selects}
use Rattle.fax_schema.specs.Schema.{our_tables}

-- a row as a job's stands, of one as it is shown
abbrev pub unshown_job : Row → Row
unshown_job s =
    column s 0 ∷ Null ∷ column s 1 ∷ column s 2 ∷ column s 3 ∷ column s 4 ∷ column s 19 ∷ column s 5 ∷ column s 6 ∷ column s 7 ∷ column s 8 ∷ column s 9 ∷ column s 10 ∷ column s 11 ∷ column s 12
    ∷ column s 13 ∷ column s 14 ∷ column s 15 ∷ column s 16 ∷ column s 17 ∷ column s 18 ∷ []

-- the same of a grant's
abbrev pub unshown_grant : Row → Row
unshown_grant s = column s 0 ∷ Null ∷ column s 1 ∷ column s 2 ∷ column s 3 ∷ column s 4 ∷ column s 5 ∷ column s 6 ∷ column s 7 ∷ []

-- values that are these, as lists
pub two : {a b c d : Value} → a ≡ c → b ≡ d → a ∷ b ∷ [] ≡ c ∷ d ∷ []
two e f = rw (e, f) refl

pub five : {a b c d e a₂ b₂ c₂ d₂ e₂ : Value} → a ≡ a₂ → b ≡ b₂ → c ≡ c₂ → d ≡ d₂ → e ≡ e₂ → a ∷ b ∷ c ∷ d ∷ e ∷ [] ≡ a₂ ∷ b₂ ∷ c₂ ∷ d₂ ∷ e₂ ∷ []
five p q r s t = rw (p, q, r, s, t) refl

-- a column of a row whose columns behind the rowid are these
pub at_is : (r : Row) (at : ℕ) (values : Row) → drop 1 r ≡ values → column r (suc at) ≡ column values at
at_is [] at values is = ap (λ c. column c at) is
at_is (v ∷ r) at values is = ap (λ c. column c at) is

-- what holds of each element holds of all
pub of_all : {X : Type 0} (P : X → Type 0) (xs : List X) → ((x : X) → Has xs x → P x) → All P xs
of_all P xs each = All-from_recursion P xs (by xs each)
  where
    by : (ys : List _) → ((x : _) → Has ys x → P x) → AllByRecursion P ys
    by [] each = tt
    by (y ∷ ys) each = (each y (inl refl), by ys (λ x has. each x (inr has)))

-- and of all, of one of them
pub at_all : {X : Type 0} (P : X → Type 0) (xs : List X) (i : ℕ) (x : X) → i < length xs → x ≡ get_or xs i x → All P xs → P x
at_all P xs i x low is all = all_has P xs x (recursion_from_All P xs all) (has_at xs i x low is)

-- so it holds of one more
pub all_taken : {X : Type 0} (P : X → Type 0) (xs : List X) (i : ℕ) (d : X) → i < length xs → All P (take i xs) → P (get_or xs i d) → All P (take (i + 1) xs)
all_taken P xs i d low all one = subst (All P) (sym (take_more xs i d low)) (All-append P (take i xs) (get_or xs i d ∷ []) all (All-cons P (get_or xs i d) [] one (All-nil P)))

pub all_grown : {X : Type 0} (P : X → Type 0) (xs : List X) (i : ℕ) (x : X) → i < length xs → x ≡ get_or xs i x → All P (take i xs) → P x → All P (take (i + 1) xs)
all_grown P xs i x low is all one = all_taken P xs i x low all (subst P is one)

-- ---- all rows of a table, as they are shown

module _ (sql : List ℕ) (tree : ℕ) (tests project : List Term) (names : List (List ℕ)) (selects : Selects sql tree tests project names) (plain : (trees : Trees) → overlay trees [] tree ≡ trees tree)
    (params : Row) (old new : State) (db : Database) (ours : db.schema ≡ our_tables) (now : old.now ≡ db) where
  -- what is shown is of the rows that pass, in any order
  pub shows : (rows : List Row) → Shown sql params old new rows → IsPermutation (map (show tree tests project params) (filter (passes tree tests project params) (db.trees tree))) rows
  shows rows h =
      subst (λ (d : Database). IsPermutation (map (show tree tests project params) (filter (passes tree tests project params) (d.trees tree))) rows) now
      (answers tree tests project params old.now (old.now.trees tree) (plain old.now.trees) names rows
      (reads_as sql params old new our_tables (ap (λ (d : Database). d.schema) now ∙ ours) _ selects.command selects.plain selects.unlisted rows h))

module _ (sql : List ℕ) (tree : ℕ) (project : List Term) (names : List (List ℕ)) (selects : Selects sql tree [] project names) (plain : (trees : Trees) → overlay trees [] tree ≡ trees tree)
    (old new : State) (db : Database) (ours : db.schema ≡ our_tables) (now : old.now ≡ db) (rows : List Row) (shown : Shown sql [] old new rows) where
  abbrev of : Row → Row
  of r = show tree [] project [] r

  -- each row is shown once, in some order
  pub all_shown : IsPermutation (map of (db.trees tree)) rows
  all_shown =
      let all : filter (passes tree [] project []) (db.trees tree) ≡ db.trees tree = filter_all (passes tree [] project []) (db.trees tree) (all_of (λ r. passes tree [] project [] r ≡ true) (λ r. refl) (db.trees tree)) in
      subst (λ (rs : List Row). IsPermutation (map of rs) rows) all (shows sql tree [] project names selects plain [] old new db ours now rows shown)

  -- what holds of all that is shown holds of each row as it is shown
  pub each_shown : (P : Row → Type 0) → All P rows → Each db tree (λ r. P (of r))
  each_shown P all r has = all_has P rows (of r) (recursion_from_All P rows all) (has_permuted (map of (db.trees tree)) rows (of r) all_shown (mapped_has of (db.trees tree) r has))

  -- and the other way round
  pub all_each : (P : Row → Type 0) → Each db tree (λ r. P (of r)) → All P rows
  all_each P each = All-permutation P (map of (db.trees tree)) rows all_shown (of_all P (map of (db.trees tree)) (λ s has. let it = has_mapped of (db.trees tree) s has in subst P (sym it.2) (each it.0 it.1)))
