-- What holds of each of some tables: of one by its tree, of some of them, and of all.
use Rattle.std.proofs.Common.{◌≡◌, ◌≢◌, inl, inr, ℕ, Bool, List, [], ◌∷◌, ◌++◌, ◌==◌, true, false, not, refl, sym, subst, ◌∙◌, arith}
use Rattle.std.specs.List.{AllByRecursion, list_all, list_any}
use Rattle.std.proofs.lemmas.Bool.{and_from, and_parts, cases_Bool, eqb-true, not-true}
use Rattle.std.proofs.lemmas.Bool.Decides.{nat_tests}
use Rattle.sqlite_catalog.specs.Change.{KeepsRows}
pub use Rattle.sqlite_rules.proofs.ListLemmas.{has_got as listed_at}
use Rattle.sqlite_schema.specs.declared.schema.Table.{Table}
use Rattle.sqlite_trees.proofs.ListLemmas.{all_of, all_weaker}
pub use Rattle.sqlite_trees.proofs.ListLemmas.{all-append as all_both}
use Rattle.sqlite_trees.specs.Tree.{Trees}

-- ---- of lists

pub all_front : {X : Type 0} (P : X → Type 0) (xs ys : List X) → AllByRecursion P (xs ++ ys) → AllByRecursion P xs
all_front P [] ys all = tt
all_front P (x ∷ xs) ys all = (all.0, all_front P xs ys all.1)

pub all_behind : {X : Type 0} (P : X → Type 0) (xs ys : List X) → AllByRecursion P (xs ++ ys) → AllByRecursion P ys
all_behind P [] ys all = all
all_behind P (x ∷ xs) ys all = all_behind P xs ys all.1

-- what follows of each holds of all
pub all_mapped : {X : Type 0} (P Q : X → Type 0) (xs : List X) → ((x : X) → P x → Q x) → AllByRecursion P xs → AllByRecursion Q xs
all_mapped P Q xs each = all_weaker P Q each xs

pub all_given : {X : Type 0} (P : X → Type 0) (xs : List X) → ((x : X) → P x) → AllByRecursion P xs
all_given P xs each = all_of P each xs

-- ---- of trees

-- what holds of the trees of all tables holds of the tree of one
pub at_tree : (P : ℕ → Type 0) (tables : List Table) (tree : ℕ) → list_any (λ t. t.tree == tree) tables ≡ true → AllByRecursion (λ t. P t.tree) tables → P tree
at_tree P [] tree there all = absurd cc
at_tree P (t ∷ ts) tree there all = elim (cases_Bool (t.tree == tree)) [
  | inl on ↦ subst P (eqb-true t.tree tree on) all.0
  | inr off ↦ at_tree P ts tree (rw off at there) all.1
]

-- tables that don't have this tree keep their rows where all others do
pub others_kept : (tables : List Table) (tree : ℕ) (old new : Trees) → list_all (λ t. not (t.tree == tree)) tables ≡ true → AllByRecursion (λ t. t.tree ≢ tree → new t.tree ≡ old t.tree) tables
    → KeepsRows tables old new
others_kept [] tree old new apart all = tt
others_kept (t ∷ ts) tree old new apart all =
    let parts = and_parts (not (t.tree == tree)) _ apart in
    let off : (t.tree == tree) ≡ false = not-true _ parts.0 in
    (all.0 (λ is. let on : (t.tree == tree) ≡ true = grind (arith, nat_tests) in cc), others_kept ts tree old new parts.1 all.1)

-- rows that were kept twice are kept
pub kept_rows : (tables : List Table) (a b c : Trees) → KeepsRows tables a b → KeepsRows tables b c → KeepsRows tables a c
kept_rows [] a b c first next = tt
kept_rows (t ∷ ts) a b c first next = (next.0 ∙ first.0, kept_rows ts a b c first.1 next.1)

-- and the other way round
pub kept_back : (tables : List Table) (a b : Trees) → KeepsRows tables a b → KeepsRows tables b a
kept_back [] a b kept = tt
kept_back (t ∷ ts) a b kept = (sym kept.0, kept_back ts a b kept.1)

-- ---- whether a tree is that of some table

-- of one of these
abbrev pub is_in : List Table → ℕ → Bool
is_in tables tree = list_any (λ t. t.tree == tree) tables

-- each of some tables has the tree of one of these
abbrev pub are_in : List Table → List Table → Bool
are_in tables some = list_all (λ t. is_in tables t.tree) some

-- one more among these makes no difference
in_more : (x : Table) (all some : List Table) → are_in all some ≡ true → are_in (x ∷ all) some ≡ true
in_more x all [] there = refl
in_more x all (t ∷ ts) there =
    let parts = and_parts (is_in all t.tree) _ there in
    and_from _ _ (elim (cases_Bool (x.tree == t.tree)) [ inl on ↦ rw on refl | inr off ↦ rw off parts.0 ]) (in_more x all ts parts.1)

pub are_self : (tables : List Table) → are_in tables tables ≡ true
are_self [] = refl
are_self (t ∷ ts) = let on : (t.tree == t.tree) ≡ true = grind (arith, nat_tests) in and_from _ _ (rw on refl) (in_more t ts ts (are_self ts))
