-- What a query of two tables shows, the second joined by its rowid to a column of the first: of each row of the first, and of the second's row of that rowid or of NULLs where there is none, some columns.
use Rattle.std.proofs.Common.{◌≡◌, inl, inr, ℕ, List, [], ◌∷◌, All, map, filter, flat_map, true, ◌&&◌, IsTrue, refl, sym, ap, ap₂, subst, ◌∙◌}
use Rattle.std.specs.List.{list_all}
use Rattle.std.specs.List.Sorted.{IsPermutation}
use Rattle.std.proofs.lemmas.Bool.{and_parts}
use Rattle.std.proofs.lemmas.Cmp.{tied_itself}
use Rattle.std.proofs.lemmas.Map.Lookups.{exact_signed}
use Rattle.std.proofs.lemmas.List.Elements.{recursion_from_All}
use Rattle.std.proofs.lemmas.List.Sorted.{IsPermutation-map, IsPermutation-sym}
use Rattle.std.specs.Ordering.{is_eq}
use Rattle.std.specs.declared.cmp.Ordering.TheVariants.{Equal}
use Rattle.sqlite.proofs.Callers.{reads_as}
use Rattle.sqlite.specs.Effect.{Database}
use Rattle.sqlite.specs.Order.{Row, column}
use Rattle.sqlite.specs.Program.{overlay}
use Rattle.sqlite.specs.Query.{Query, IsAnswer, Output, end, inner, left, or_nulls, output}
use Rattle.sqlite.specs.State.{State, Shown}
use Rattle.sqlite.specs.Tree.{rowid}
use Rattle.sqlite.specs.Edit.{id_in}
use Rattle.sqlite.specs.View.{is_int}
use Rattle.sqlite.specs.declared.types.Value.{Value}
use Rattle.sqlite.specs.declared.types.Value.TheVariants.{Null, Int}
use Rattle.sqlite_rules.specs.Lists.{Has}
use Rattle.sqlite_rules.proofs.ListLemmas.{all_has, has_either, has_filtered, has_kept, has_left, has_right}
use Rattle.sqlite_rules.proofs.PlaceLemmas.{tied_same}
use Rattle.sqlite_rules.proofs.ProbeLemmas.{mapped_has}
use Rattle.sqlite_rules.proofs.TableLemmas.{int_is}
use Rattle.sqlite_sql.specs.Ops.{is_null}
use Rattle.sqlite_sql.specs.Term.{Env, Term, col, eval_all, holds}
use Rattle.sqlite_sql.specs.declared.ops.CompareOp.TheVariants.{Eq}
use Rattle.sqlite_trees.specs.Tree.{Trees}
use Rattle.sqlite_trees.proofs.ListLemmas.{map-map}
use Rattle.sqlite_value.specs.Order.{value_cmp}
use Rattle.sqlite_value.proofs.OrderLemmas.{value_cmp-Int, value_cmp_total}
use Rattle.fax_check.proofs.LookLemmas.{equal_is}
use Rattle.fax_layout.specs.ByRowid.{IsByRowid}
use Rattle.fax_schema.specs.Schema.{our_tables}
use Rattle.fax_layout.proofs.CompareLemmas.{are_equal, compared}
use Rattle.fax_layout.proofs.EditLemmas.{has_mapped, has_permuted}
use Rattle.fax_layout.proofs.SelectLemmas.{rows_by}
use Rattle.fax_schema.proofs.StatementForms.{SelectsAll, equals}

-- by the rowid of the second and this column of the first
abbrev pub joined_on : ℕ → List Term
joined_on at = equals (col 2 0) (col 1 at) ∷ []

abbrev pub joined_query : ℕ → ℕ → ℕ → List Term → Query
joined_query at first second project = record (rows_by first [] project []) { from = inner first (left second (joined_on at) end) }

-- ---- what is joined to a row

abbrev pub partners : ℕ → List Row → Row → List Row
partners at others r = filter (λ s. list_all (holds ([] ∷ r ∷ s ∷ [])) (joined_on at)) others

abbrev joined : ℕ → List Row → Row → List Env
joined at others r = flat_map (λ s. ([] ∷ r ∷ s ∷ []) ∷ []) (or_nulls (partners at others r))

-- a list that was made of parts has what is in one of them
has_part : {A B : Type 0} (f : A → List B) (xs : List A) (y : B) → Has (flat_map f xs) y → (x : A) × Has xs x × Has (f x) y
has_part f [] y has = absurd has
has_part f (x ∷ xs) y has = elim (has_either (f x) (flat_map f xs) y has) [ inl here ↦ (x, inl refl, here) | inr more ↦ (let it = has_part f xs y more in (it.0, inr it.1, it.2)) ]

part_has : {A B : Type 0} (f : A → List B) (xs : List A) (x : A) (y : B) → Has xs x → Has (f x) y → Has (flat_map f xs) y
part_has f [] x y has of = absurd has
part_has f (z ∷ xs) x y (inl is) of = has_left (f z) (flat_map f xs) y (subst (λ a. Has (f a) y) is of)
part_has f (z ∷ xs) x y (inr more) of = has_right (f z) (flat_map f xs) y (part_has f xs x y more of)

-- ---- rowids

-- integers are equal where they compare so
equal_ints : (a b : Value) → IsTrue (is_int a) → IsTrue (is_int b) → are_equal a b ≡ is_eq (value_cmp a b)
equal_ints a b int other = compared Eq a b (ap is_null (int_is a int)) (ap is_null (int_is b other))

-- and then they are the same
same_int : (a b : Value) → IsTrue (is_int a) → IsTrue (is_int b) → value_cmp a b ≡ Equal → a ≡ b
same_int a b int other tie =
    let left = int_is a int in
    let right = int_is b other in
    left ∙ ap Int (exact_signed (id_in a) (id_in b) (sym (value_cmp-Int (id_in a) (id_in b)) ∙ sym (ap₂ value_cmp left right) ∙ tie)) ∙ sym right

module _ (at : ℕ) (others : List Row) (by : IsByRowid others) (r : Row) (int : IsTrue (is_int (column r at))) where
  keyed : (s : Row) → Has others s → IsTrue (is_int (rowid s))
  keyed s has = all_has (λ x. IsTrue (is_int (rowid x))) others s by.integers has

  -- what is joined has the row's value for its rowid
  pub partner_there : (s : Row) → Has (partners at others r) s → Has others s × (rowid s ≡ column r at)
  partner_there s has =
      let it = has_filtered (λ s. list_all (holds ([] ∷ r ∷ s ∷ [])) (joined_on at)) others s has in
      let on : are_equal (rowid s) (column r at) ≡ true = (and_parts (are_equal (rowid s) (column r at)) true it.1).0 in
      (it.0, same_int (rowid s) (column r at) (keyed s it.0) int (equal_is _ (sym (equal_ints (rowid s) (column r at) (keyed s it.0) int) ∙ on)))

  -- what has it is joined
  there_partner : (s : Row) → Has others s → rowid s ≡ column r at → Has (partners at others r) s
  there_partner s has is =
      let tied : value_cmp (rowid s) (column r at) ≡ Equal = ap (λ v. value_cmp v (column r at)) is ∙ tied_itself value_cmp_total (column r at) in
      let on : are_equal (rowid s) (column r at) ≡ true = equal_ints (rowid s) (column r at) (keyed s has) int ∙ ap is_eq tied in
      has_kept (λ s. list_all (holds ([] ∷ r ∷ s ∷ [])) (joined_on at)) others s has (ap (λ b. b && true) on)

  -- and nothing else is, nor NULLs
  pub only_partner : (s : Row) → Has others s → rowid s ≡ column r at → (t : Row) → Has (or_nulls (partners at others r)) t → t ≡ s
  only_partner s has is t with_it = by_list (partners at others r) refl with_it
    where
      same : Has (partners at others r) t → t ≡ s
      same among = let it = partner_there t among in tied_same others t s by.rise it.0 has (ap (value_cmp (rowid t)) is ∙ ap (λ v. value_cmp v (column r at)) it.1 ∙ tied_itself value_cmp_total (column r at))

      by_list : (found : List Row) → partners at others r ≡ found → Has (or_nulls found) t → t ≡ s
      by_list [] none nulls = absurd (subst (λ all. Has all s) none (there_partner s has is))
      by_list (x ∷ more) are among = same (subst (λ all. Has all t) (sym are) among)

-- ---- what is shown

module _ (sql : List ℕ) (at first second : ℕ) (project : List Term) (names : List (List ℕ)) (selects : SelectsAll sql (joined_query at first second project) names)
    (plain_first : (trees : Trees) → overlay trees [] first ≡ trees first) (plain_second : (trees : Trees) → overlay trees [] second ≡ trees second)
    (old new : State) (db : Database) (ours : db.schema ≡ our_tables) (now : old.now ≡ db) (rows : List Row) (shown : Shown sql [] old new rows) where
  abbrev pairs : Database → List Env
  pairs d = flat_map (joined at (d.trees second)) (d.trees first)

  -- of each pair, in any order
  pairs_shown : IsPermutation (map (eval_all project) (pairs db)) rows
  pairs_shown =
      let query = joined_query at first second project in
      let read = reads_as sql [] old new our_tables (ap (λ (d : Database). d.schema) now ∙ ours) _ selects.command selects.plain selects.unlisted rows shown in
      let a : IsAnswer query (overlay old.now.trees []) [] rows = read.answer Null in
      let staged : a.staged ≡ pairs old.now = a.grouped ∙ ap₂ (λ (others mine : List Row). flat_map (joined at others) mine) (plain_second old.now.trees) (plain_first old.now.trees) in
      let kept : map (λ (o : Output). o.1) a.kept ≡ map (eval_all project) (pairs db) =
      ap (map (λ (o : Output). o.1)) (a.distinct ∙ ap (map (output query)) staged) ∙ map-map _ _ _ ∙ ap (λ d. map (eval_all project) (pairs d)) now in
      subst (IsPermutation (map (eval_all project) (pairs db))) (sym a.shown)
      (subst (λ all. IsPermutation all (map (λ (o : Output). o.1) a.ordered)) kept (IsPermutation-map (λ (o : Output). o.1) a.kept a.ordered a.same))

  -- what holds of all that is shown holds of each row with each that is joined to it
  pub each_joined : (P : Row → Type 0) → All P rows → (r s : Row) → Has (db.trees first) r → Has (or_nulls (partners at (db.trees second) r)) s → P (eval_all project ([] ∷ r ∷ s ∷ []))
  each_joined P all r s has with_it =
      let env : Env = [] ∷ r ∷ s ∷ [] in
      let pair = part_has (joined at (db.trees second)) (db.trees first) r env has (part_has (λ s. ([] ∷ r ∷ s ∷ []) ∷ []) (or_nulls (partners at (db.trees second) r)) s env with_it (inl refl)) in
      all_has P rows (eval_all project env) (recursion_from_All P rows all) (has_permuted (map (eval_all project) (pairs db)) rows (eval_all project env) pairs_shown (mapped_has (eval_all project) (pairs db) env pair))

  -- each row that is shown is one of the first with one that is joined to it
  pub row_joined : (x : Row) → Has rows x → (r : Row) × Has (db.trees first) r × (s : Row) × Has (or_nulls (partners at (db.trees second) r)) s × (x ≡ eval_all project ([] ∷ r ∷ s ∷ []))
  row_joined x has =
      let made = has_mapped (eval_all project) (pairs db) x (has_permuted rows (map (eval_all project) (pairs db)) x (IsPermutation-sym (map (eval_all project) (pairs db)) rows pairs_shown) has) in
      let of = has_part (joined at (db.trees second)) (db.trees first) made.0 made.1 in
      let with_it = has_part (λ s. ([] ∷ of.0 ∷ s ∷ []) ∷ []) (or_nulls (partners at (db.trees second) of.0)) made.0 of.2 in
      let is : made.0 ≡ [] ∷ of.0 ∷ with_it.0 ∷ [] = elim with_it.2 [ inl same ↦ same | inr none ↦ absurd none ] in
      (of.0, of.1, with_it.0, with_it.1, made.2 ∙ ap (eval_all project) is)
