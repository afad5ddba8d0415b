-- What a query of one table shows: of each row that passes its tests, some columns.
use Rattle.std.proofs.Common.{◌≡◌, inl, inr, ℕ, pos, negsuc, List, [], ◌∷◌, map, filter, flat_map, Bool, true, false, cond, Option, Some, None, MatchOption, refl, sym, ap, subst, ◌∙◌}
use Rattle.std.specs.List.{list_all}
use Rattle.std.specs.List.Sorted.{IsPermutation, IsSorted}
use Rattle.std.proofs.lemmas.Bool.{cases_Bool}
use Rattle.std.proofs.lemmas.List.Sorted.{IsPermutation-map}
use Rattle.sqlite.specs.Order.{Row}
use Rattle.sqlite.specs.Effect.{Database, Reads}
use Rattle.sqlite.specs.Command.TheVariants.{Select}
use Rattle.sqlite.specs.Query.{Query, inner, end, IsAnswer, output, output_cmp, Output}
use Rattle.sqlite.specs.Program.{overlay}
use Rattle.sqlite.proofs.Callers.{one_permutation}
use Rattle.sqlite.specs.declared.types.Value.TheVariants.{Null, Int}
use Rattle.sqlite_sql.specs.Term.{Term, lit, eval_all, holds}
use Rattle.sqlite_trees.proofs.ListLemmas.{map-map, pull_back}
use Rattle.sqlite_value.specs.declared.keys.Key.{Key}
use Rattle.sqlite_rules.specs.Lists.{Has}

-- the rows of one table for which each test holds, with these terms of each, in the order of these
abbrev pub rows_by : ℕ → List Term → List Term → List (Term × Key) → Query
rows_by tree filter project order = record {
  from = inner tree end;
  filter = filter;
  group = None;
  project = project;
  distinct = false;
  collations = [];
  order = order;
  limit = lit (Int (negsuc 0));
  offset = lit (Int (pos 0));
}

-- in any order
abbrev pub rows_where : ℕ → List Term → List Term → Query
rows_where tree filter project = rows_by tree filter project []

-- a function of the elements that pass a test
pub each_passing : {A B : Type 0} (p : A → Bool) (f : A → B) (xs : List A) → flat_map (λ x. cond (p x) (f x ∷ []) []) xs ≡ map f (filter p xs)
each_passing p f [] = refl
each_passing p f (x ∷ xs) = elim (cases_Bool (p x)) [ inl holds_here ↦ rw (holds_here, each_passing p f xs) refl | inr off ↦ rw (off, each_passing p f xs) refl ]

module _ (tree : ℕ) (tests project : List Term) (params : Row) where
  abbrev pub passes : Row → Bool
  passes r = list_all (holds (params ∷ r ∷ [])) tests

  abbrev pub show : Row → Row
  show r = eval_all project (params ∷ r ∷ [])

  -- what a row is sorted by, and what it shows
  abbrev pub put_out : List (Term × Key) → Row → Output
  put_out order r = output (rows_by tree tests project order) (params ∷ r ∷ [])

  -- the one row of a table, which passes, is shown alone
  pub only_row : (row : Row) (rows : List Row) → passes row ≡ true → IsPermutation (map show (filter passes (row ∷ []))) rows → rows ≡ show row ∷ []
  only_row row rows on same = one_permutation (show row) rows (rw on at same)

  module _ (db : Database) (table : List Row) (is : overlay db.trees [] tree ≡ table) where
    -- rows that pass are shown, each once, in the order that is asked for
    pub in_order : (order : List (Term × Key)) (names : List (List ℕ)) (rows : List Row) → Reads (Select (record { lets = []; body = rows_by tree tests project order }) names) db params rows
        → (to : List Row) × IsPermutation (filter passes table) to × (rows ≡ map show to) × IsSorted (output_cmp (rows_by tree tests project order)) (map (put_out order) to)
    in_order order names rows h =
        let query = rows_by tree tests project order in
        let a : IsAnswer query (overlay db.trees []) params rows = h.answer Null in
        let env = λ (r : Row). params ∷ r ∷ [] in
        let staged = a.grouped ∙ ap (flat_map (λ r. cond (passes r) (env r ∷ []) [])) is ∙ each_passing passes env table in
        let kept : a.kept ≡ map (put_out order) (filter passes table) = a.distinct ∙ ap (map (output query)) staged ∙ map-map _ _ _ in
        let back = pull_back (put_out order) a.kept a.ordered a.same (filter passes table) kept in
        (back.0, back.1, a.shown ∙ ap (map (λ (o : Output). o.1)) back.2 ∙ map-map _ _ _, subst (IsSorted (output_cmp query)) back.2 a.sorted)

    -- rows that pass are shown, each once, in any order
    pub answers : (names : List (List ℕ)) (rows : List Row) → Reads (Select (record { lets = []; body = rows_where tree tests project }) names) db params rows → IsPermutation (map show (filter passes table)) rows
    answers names rows h =
        let shown = in_order [] names rows h in
        subst (IsPermutation (map show (filter passes table))) (sym shown.2) (IsPermutation-map show (filter passes table) shown.0 shown.1)

-- what is found in an answer of one row
pub only_found : (x : Row) (rows : List Row) (found : Option Row) → rows ≡ x ∷ [] → MatchOption found (rows ≡ []) (Has rows) → found ≡ Some x
only_found x rows None one none = absurd (let e = none in let f = one in cc)
only_found x rows (Some y) one has = elim (rw one at has) [ inl is ↦ ap Some is | inr none ↦ absurd none ]
