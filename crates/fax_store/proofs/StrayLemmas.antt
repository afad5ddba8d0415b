-- What the texts show and leave by which a store drops the grants whose job isn't there.
use Rattle.std.proofs.Common.{◌≡◌, inl, inr, List, [], ◌∷◌, ◌++◌, map, filter, flat_map, Bool, true, false, cond, not, ◌&&◌, ◌||◌, IsTrue, IsPermutation, refl, sym, ap, ap₂, subst, ◌∙◌, arith}
use Rattle.std.specs.List.{list_all}
use Rattle.std.specs.Ordering.{is_eq}
use Rattle.std.specs.declared.cmp.Ordering.{Ordering}
use Rattle.std.specs.declared.cmp.Ordering.TheVariants.{Less, Equal, Greater}
use Rattle.std.proofs.Math.Bool.{and-true, or-false}
use Rattle.std.proofs.Math.Path.{fun_ext}
use Rattle.std.proofs.lemmas.Bool.{both_ways, cases_Bool, false_from_ne_true}
use Rattle.std.proofs.lemmas.Cmp.{tied_itself}
use Rattle.std.proofs.lemmas.List.Folds.{list_any-append}
use Rattle.std.proofs.lemmas.List.Sorted.{IsPermutation-map}
use Rattle.sqlite.proofs.Callers.{reads_as, runs_as}
use Rattle.sqlite.specs.Collation.TheVariants.{Binary}
use Rattle.sqlite.specs.Effect.{Database}
use Rattle.sqlite.specs.Order.{Row, column}
use Rattle.sqlite.specs.Program.{overlay}
use Rattle.sqlite.specs.Query.{IsAnswer, output, Output}
use Rattle.sqlite.specs.State.{State, Shown}
use Rattle.sqlite.specs.Tree.{rowid}
use Rattle.sqlite.specs.View.{is_int}
use Rattle.sqlite.specs.Edit.{id_in}
use Rattle.sqlite.specs.Values.{bound_value}
use Rattle.sqlite.specs.declared.types.Value.{Value}
use Rattle.sqlite.specs.declared.types.Value.TheVariants.{Null, Int}
use Rattle.sqlite_rules.specs.Lists.{Has}
use Rattle.sqlite_rules.proofs.ListLemmas.{all_from, all_has, some_from, some_has}
use Rattle.sqlite_rules.proofs.PlaceLemmas.{tied_same}
use Rattle.sqlite_rules.proofs.TableLemmas.{int_is}
use Rattle.sqlite_schema.specs.Rules.{equal}
use Rattle.sqlite_sql.specs.Term.{Env, holds}
use Rattle.sqlite_sql.specs.declared.ops.CompareOp.TheVariants.{Eq}
use Rattle.fax_layout.proofs.RowsLemmas.{all_behind, all_front}
use Rattle.sqlite_trees.proofs.ListLemmas.{all_of, filter_all, filter_none, filter_same, map-map}
use Rattle.sqlite_value.specs.Order.{value_cmp}
use Rattle.sqlite_value.proofs.OrderLemmas.{value_cmp_total}
use Rattle.fax_layout.proofs.ColumnLemmas.{none_holds}
use Rattle.fax_layout.proofs.CompareLemmas.{compared}
use Rattle.fax_layout.proofs.EditLemmas.{fewer_by, one_shown, shown_one}
use Rattle.fax_layout.proofs.SelectLemmas.{each_passing}
use Rattle.fax_schema.proofs.StatementTexts.{job_tests, lost_on}
use Rattle.fax_schema.proofs.TimesTexts.{delete_grant, select_strays, strays_query}
use Rattle.fax_schema.proofs.UpdateLemmas.{deleted, gone_project, program_of}
use Rattle.fax_layout.proofs.WriteLemmas.{KeepsOthers, deletes}
use Rattle.fax_schema.proofs.OursLemmas.{unreferred}
use Rattle.fax_layout.specs.ByRowid.{IsByRowid}
use Rattle.fax_schema.specs.Schema as schema
use Rattle.fax_schema.specs.Schema.{grants_tree, jobs_tree, our_tables}
use Rattle.fax_schema.specs.declared.statements.TheConstants.{DELETE_GRANT, SELECT_STRAYS}
use Rattle.fax_store.proofs.HeldLemmas.{its, lost, lost_value, is_lost, not_there}
use Rattle.fax_store.proofs.TurnLemmas.{Leaves, leaves_by, only_by, only_then}
use Rattle.fax_store.specs.Adopt.{AreDropped, AreNumbered, ChangesOnly, HasNoStrays, HasNone, is_listed}
use Rattle.fax_store.specs.Store.{HasRun}
use Rattle.fax_tables.specs.Tables.{is_job}

-- ---- the grants that are shown

-- the job of a grant isn't among these
abbrev is_stray : List Row → Row → Bool
is_stray jobs grant = not (is_job jobs (column grant 2))

abbrev number_of : Row → Row
number_of grant = column grant 0 ∷ []

module _ (jobs : List Row) (grant : Row) where
  abbrev shown_with : Env
  shown_with = [] ∷ grant ∷ [] ∷ []

  -- a stray shows one row, and another none
  shows : lost jobs grant (its jobs grant) ≡ cond (is_stray jobs grant) (shown_with ∷ []) []
  shows = elim (cases_Bool (is_job jobs (column grant 2))) [
    | inl there ↦
        (let job = some_has (λ row. equal Binary (column row 0) (column grant 2)) jobs there in
        not_there jobs grant (its jobs grant) refl job.0 job.1 job.2 ∙ ap (λ b. cond (not b) (shown_with ∷ []) []) (sym there))
    | inr off ↦
        (let none : its jobs grant ≡ [] =
        filter_none (λ s. list_all (holds ([] ∷ grant ∷ s ∷ [])) lost_on) jobs (all_from _ jobs (λ s has. ap (λ b. b && true) (false_from_ne_true (equal Binary (column s 0) (column grant 2)) (λ on. both_ways _ off (some_from (λ row. equal Binary (column row 0) (column grant 2)) jobs s has on))))) in
        let on : (lost_value Null && true) ≡ true = ap (λ b. b && true) (is_lost Null) in
        ap (lost jobs grant) none ∙ ap (λ b. cond b (shown_with ∷ []) [] ++ []) on ∙ ap (λ b. cond (not b) (shown_with ∷ []) []) (sym off))
  ]

module _ (old new : State) (has : old.now.schema ≡ our_tables) (rows : List Row) (shown : Shown SELECT_STRAYS.now [] old new rows) where
  abbrev jobs : List Row
  jobs = old.now.trees jobs_tree

  abbrev grants : List Row
  grants = old.now.trees grants_tree

  -- the text shows the number of each grant whose job isn't there
  pub strays_shown : IsPermutation (map number_of (filter (is_stray jobs) grants)) rows
  strays_shown =
      let read = reads_as SELECT_STRAYS.now [] old new our_tables has _ select_strays.command select_strays.plain select_strays.unlisted rows shown in
      let a : IsAnswer strays_query (overlay old.now.trees []) [] rows = read.answer Null in
      let staged : a.staged ≡ map (shown_with jobs) (filter (is_stray jobs) grants) =
      a.grouped ∙ ap (λ f. flat_map f grants) (fun_ext (shows jobs)) ∙ each_passing (is_stray jobs) (shown_with jobs) grants in
      let kept : map (λ (o : Output). o.1) a.kept ≡ map number_of (filter (is_stray jobs) grants) =
      ap (map (λ (o : Output). o.1)) (a.distinct ∙ ap (map (output strays_query)) staged ∙ map-map _ _ _) ∙ map-map _ _ _ in
      subst (IsPermutation (map number_of (filter (is_stray jobs) grants))) (sym a.shown)
      (subst (λ all. IsPermutation all (map (λ (o : Output). o.1) a.ordered)) kept (IsPermutation-map (λ (o : Output). o.1) a.kept a.ordered a.same))

-- ---- numbers of grants

-- an order that tests as equal is Equal
same_order : (o : Ordering) → is_eq o ≡ true → o ≡ Equal
same_order Less h = absurd cc
same_order Equal h = refl
same_order Greater h = absurd cc

-- integers are equal where they compare so
equal_ints : (a b : Value) → IsTrue (is_int a) → IsTrue (is_int b) → equal Binary a b ≡ is_eq (value_cmp a b)
equal_ints a b int other =
    let left = int_is a int in
    let right = int_is b other in
    ap₂ (equal Binary) left right ∙ compared Eq (Int (id_in a)) (Int (id_in b)) refl refl ∙ ap₂ (λ x y. is_eq (value_cmp x y)) (sym left) (sym right)

equal_itself : (a : Value) → IsTrue (is_int a) → equal Binary a a ≡ true
equal_itself a int = equal_ints a a int int ∙ ap is_eq (tied_itself value_cmp_total a)

-- ---- what is left

module _ (jobs grants rows : List Row) (by : IsByRowid grants) (shown : IsPermutation (map number_of (filter (is_stray jobs) grants)) rows) where
  keyed : (grant : Row) → Has grants grant → IsTrue (is_int (rowid grant))
  keyed grant has = all_has (λ r. IsTrue (is_int (rowid r))) grants grant by.integers has

  -- the rows shown begin with integers
  pub strays_numbered : AreNumbered rows
  strays_numbered = all_from (λ row. IsTrue (is_int (column row 0))) rows (λ row has.
      let it = shown_one (is_stray jobs) number_of grants rows shown row has in
      subst (λ r. IsTrue (is_int (column r 0))) (sym it.3) (keyed it.0 it.1))

  -- a grant is listed where it is a stray
  listed : (grant : Row) → Has grants grant → not (is_listed rows grant) ≡ is_job jobs (column grant 2)
  listed grant has = elim (cases_Bool (is_job jobs (column grant 2))) [
    | inl there ↦ ap not (none_holds (λ row. equal Binary (column grant 0) (column row 0)) rows (λ row among. false_from_ne_true _ (λ on. other there row among on))) ∙ sym there
    | inr off ↦
        (let among = one_shown (is_stray jobs) number_of grants rows shown grant has (ap not off) in
        ap not (some_from (λ row. equal Binary (column grant 0) (column row 0)) rows (number_of grant) among (equal_itself (column grant 0) (keyed grant has))) ∙ sym off)
  ]
    where
      other : is_job jobs (column grant 2) ≡ true → (row : Row) → Has rows row → equal Binary (column grant 0) (column row 0) ≡ true → ⊥
      other there row among on =
          let it = shown_one (is_stray jobs) number_of grants rows shown row among in
          let same : equal Binary (column grant 0) (column it.0 0) ≡ true = subst (λ r. equal Binary (column grant 0) (column r 0) ≡ true) it.3 on in
          let tied = same_order _ (sym (equal_ints (column grant 0) (column it.0 0) (keyed grant has) (keyed it.0 it.1)) ∙ same) in
          let one : grant ≡ it.0 = tied_same grants grant it.0 by.rise has it.1 tied in
          let stray : is_stray jobs grant ≡ true = subst (λ r. is_stray jobs r ≡ true) (sym one) it.2 in
          both_ways _ (ap not there) stray

  -- without those shown, those with their job are left
  pub strays_gone : filter (λ grant. not (is_listed rows grant)) grants ≡ filter (λ grant. is_job jobs (column grant 2)) grants
  strays_gone = filter_same (λ grant. not (is_listed rows grant)) (λ grant. is_job jobs (column grant 2)) grants (all_from _ grants listed)

-- so the strays are gone
pub strays_dropped : (old new : State) (rows : List Row) (after : Database) → HasNone old → Shown SELECT_STRAYS.now [] old new rows → AreDropped rows old.now after → HasNoStrays old.now after
strays_dropped old new rows after was shown dropped =
    let strays = strays_shown old new was.schema_is rows shown in
    record {
      only = dropped.only;
      left = λ by. dropped.left (strays_numbered _ _ rows by strays) by ∙ strays_gone (old.now.trees jobs_tree) (old.now.trees grants_tree) rows by strays;
    }

-- ---- a grant that is dropped

-- a list is left with those that pass both tests
twice : {A : Type 0} (p q : A → Bool) (xs : List A) → filter q (filter p xs) ≡ filter (λ x. p x && q x) xs
twice p q [] = refl
twice p q (x ∷ xs) = elim (cases_Bool (p x)) [
  | inl on ↦ rw on (elim (cases_Bool (q x)) [ inl kept ↦ rw (kept, twice p q xs) refl | inr out ↦ rw (out, twice p q xs) refl ])
  | inr off ↦ rw (off, twice p q xs) refl
]

not_or : (a b : Bool) → not (a || b) ≡ (not a && not b)
not_or true b = refl
not_or false b = refl

-- no grant is dropped by no rows
pub none_dropped : (db : Database) → ChangesOnly grants_tree db db → AreDropped [] db db
none_dropped db only = record { only = only; left = λ _ _. sym (filter_all (λ _. true) (db.trees grants_tree) (all_of _ (λ _. refl) (db.trees grants_tree))) }

-- dropping grants counts no call
pub dropped_leaves : (rows : List Row) → Leaves HasNone (AreDropped rows) HasNone
dropped_leaves rows = leaves_by grants_tree (λ e. absurd (omega arith)) (λ a b dropped. dropped.only)

-- rows and one more drop the grants of the rows, and its own
pub dropped_more : (rows : List Row) (row : Row) (a b c : Database) → AreDropped rows a b → AreDropped (row ∷ []) b c → AreDropped (rows ++ row ∷ []) a c
dropped_more rows row a b c first next = record {
  only = only_then grants_tree a b c first.only next.only;
  left = λ numbered by.
      let was = all_front (λ r. IsTrue (is_int (column r 0))) rows (row ∷ []) numbered in
      let is = all_behind (λ r. IsTrue (is_int (column r 0))) rows (row ∷ []) numbered in
      let before = first.left was by in
      let gone = λ (grant : Row). not (is_listed rows grant) in
      next.left is (subst IsByRowid (sym before) (fewer_by gone (a.trees grants_tree) by)) ∙ ap (filter (λ grant. not (is_listed (row ∷ []) grant))) before
      ∙ twice gone (λ grant. not (is_listed (row ∷ []) grant)) (a.trees grants_tree)
      ∙ filter_same _ _ (a.trees grants_tree) (all_of _ (λ grant. sym (ap not (list_any-append (λ r. equal Binary (column grant 0) (column r 0)) rows (row ∷ [])) ∙ not_or _ _)) (a.trees grants_tree));
}

-- the text takes out the grant of this number, and touches grants alone
pub grant_dropped : (row : Row) (value : Value) (old new : State) → HasNone old → value ≡ column row 0 → HasRun DELETE_GRANT.now (bound_value value ∷ []) old new → KeepsOthers our_tables grants_tree old new × AreDropped (row ∷ []) old.now new.now
grant_dropped row value old new was is ran =
    let params = bound_value value ∷ [] in
    let did = runs_as DELETE_GRANT.now params old new our_tables was.schema_is _ delete_grant.is delete_grant.plain ran.0 ran.1 in
    let done = deletes our_tables unreferred schema.grants.name grants_tree schema.grants.columns schema.grants.key schema.grants.primary schema.grants.uniques schema.grants.orders schema.grants.checks 1 refl old new was.schema_is params _ ran.0 (program_of grants_tree job_tests gone_project) did in (
      done.2,
      record {
        only = only_by grants_tree old new done.2;
        left = λ numbered by.
            let left = deleted schema.grants.name grants_tree schema.grants.columns schema.grants.key schema.grants.primary schema.grants.uniques schema.grants.orders schema.grants.checks 1 refl old new was.schema_is refl by job_tests gone_project params (λ r. refl) _ ran.0 did in
            let same : bound_value value ≡ column row 0 = ap bound_value is ∙ bound_int (column row 0) numbered.0 in
            left.1 ∙ filter_same _ _ (old.now.trees grants_tree) (all_of _ (λ grant. ap not (and-true (equal Binary (column grant 0) (bound_value value)) ∙ ap (equal Binary (column grant 0)) same ∙ sym (or-false (equal Binary (column grant 0) (column row 0))))) (old.now.trees grants_tree));
      },
    )
  where
    bound_int : (v : Value) → IsTrue (is_int v) → bound_value v ≡ v
    bound_int v int = ap bound_value (int_is v int) ∙ sym (int_is v int)
