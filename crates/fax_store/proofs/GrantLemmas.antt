-- What the texts on grants and holds read and write.
use Rattle.std.proofs.Common.{◌≡◌, ℕ, [], ◌∷◌, Option, Some, None, drop, refl, ◌≤◌, inl, inr, pos, List, ◌++◌, map, filter, Bool, true, false, not, ◌&&◌, Err, if◌then◌else◌, IsTrue, cond, sym, ap, ap₂, subst, ◌∙◌, ◌+◌, ◌-◌, arith, option_map, ◌==◌, find, IsPermutation, bytes_eq}
use Rattle.sqlite.specs.Effect.{Database, IsDatabase}
use Rattle.sqlite.specs.Order.{Row, column}
use Rattle.sqlite.specs.State.{State, Executes}
use Rattle.sqlite.proofs.Callers.{reads_as, runs_as}
use Rattle.sqlite_trees.specs.declared.store.Store.{Ghosts}
use Rattle.fax_core.specs.Ledger.{Ledger}
use Rattle.fax_core.specs.Queue.{Queue, grant_numbered, open_grants, job_numbered}
use Rattle.fax_core.specs.declared.grants.Grant.{Grant}
use Rattle.fax_schema.specs.declared.statements.TheConstants.{SELECT_GRANT, INSERT_GRANT, INSERT_HOLD, UPDATE_REPORT, SHUT_GRANT, DELETE_HOLD, SELECT_HOLD}
use Rattle.fax_tables.specs.Grant.{grant_shown, held_shown, hold_shown}
use Rattle.fax_tables.specs.Row.{HasValues, number, grant_row, call_number, hold_columns}
use Rattle.fax_schema.specs.Schema.{our_tables, grants_tree, holds_tree}
use Rattle.fax_store.specs.Grant.{GrantStands, HasGrantRow, IsNewGrant, IsSameGrant, IsReport, SetsCalls, with_count, with_placed, with_shut, with_closed, HasHoldRow, HoldStands}
use Rattle.fax_store.specs.Calls.{shown}
use Rattle.fax_store.specs.Store.{FindsRow, HasRun}
use Rattle.fax_store.specs.declared.store.Store.{Store}
use Rattle.fax_tables.specs.Tables.{IsLawfulGrant, TablesMean, HaveJobs}
use Rattle.fax_layout.proofs.CompareLemmas.{number_same, are_equal, equal_texts, is_number, same_row, cast_int, cast_null}
use Rattle.fax_schema.proofs.GrantTexts.{grant_names, grant_tests, grant_project, select_grant, grant_terms, report_project, shut_project, held_tests, hold_terms, insert_grant, insert_hold, update_report, shut_grant, delete_hold, hold_tests, hold_project, select_hold}
use Rattle.fax_store.proofs.FoundLemmas.{agree_at, none_keyed, one_numbered, Keys, key_of, one_passes, none_passes, row_passes, text_same, with_id}
use Rattle.fax_tables.proofs.KeyLemmas.{found_holds, numbered_found, only_numbered, asked_is, not_asked, row_placed, all_placed, placed_permuted, free_of}
use Rattle.fax_layout.proofs.SelectLemmas.{passes, show, answers}
use Rattle.std.proofs.lemmas.Option.{same_Some}
use Rattle.std.proofs.Math.Bool.{and-true}
use Rattle.std.proofs.lemmas.Bool.{cases_Bool, eqb-true, eq-eqb, false_from_ne_true, cond_both, and_parts, not-true}
use Rattle.std.proofs.lemmas.List.Sorted.{IsPermutation-sym, IsPermutation-trans, IsPermutation-cons, IsPermutation-to_front, IsPermutation-map}
use Rattle.sqlite.specs.Cast.{cast_row}
use Rattle.sqlite.specs.Edit.{is_taken, with_rowid, next_rowid}
use Rattle.sqlite.specs.Rowids.TheVariants.{Chosen}
use Rattle.sqlite.specs.Tree.{rowid, put_row, IsTable}
use Rattle.sqlite.specs.declared.types.Value.TheVariants.{Null, Int, Text}
use Rattle.sqlite_rules.specs.Lists.{Has}
use Rattle.sqlite_rules.proofs.ListLemmas.{has_filtered, has_found, has_kept, all_has}
use Rattle.sqlite_trees.proofs.ListLemmas.{IsPermutation-filter, filter_same, all_of}
use Rattle.fax_core.specs.Machine.{with_grant, held_by}
use Rattle.fax_core.specs.Job.{Job}
use Rattle.fax_core.specs.State.{is_of_number}
use Rattle.fax_tables.specs.Place.{placed}
use Rattle.fax_schema.specs.Schema as schema
use Rattle.fax_layout.specs.ByRowid.{IsByRowid}
use Rattle.fax_layout.proofs.AppendLemmas.{appended}
use Rattle.fax_store.proofs.NumberedLemmas.{all_mapped}
use Rattle.fax_store.proofs.CountLemmas.{calls_reported, closed_count, has_placed, jobs_reported, jobs_shut, one, one_less, one_more, placed_count, shut as shut_at, unmoved}
use Rattle.fax_layout.proofs.ColumnLemmas.{kept_permuted, record_of, all_kept, row_of}
use Rattle.fax_tables.proofs.FreeLemmas.{free_row, none_found}
use Rattle.fax_tables.proofs.RefusalLemmas.{no_rule_broken}
use Rattle.fax_tables.proofs.StandLemmas.{hold_may, grant_may}
use Rattle.fax_tables.specs.Fault.{fault_of}
use Rattle.fax_tables.specs.declared.fault.StoreFault.TheVariants.{Unavailable}
use Rattle.sqlite.specs.declared.error.Error.{Error}
use Rattle.sqlite_schema.specs.Rules.{Keeps, equal, clashes}
use Rattle.sqlite_value.specs.Keys.{plain}
use Rattle.fax_tables.proofs.TablesLemmas.{AreRecords, AreHeld, Parts, grants, holds, parts_of, means_of, calls_as, calls_changed, calls_of, held_as, grants_changed, holds_changed, by_rowid_put}
use Rattle.fax_schema.proofs.UpdateLemmas.{gone_project, updated, deleted}
use Rattle.fax_layout.proofs.WriteLemmas.{KeepsOthers, inserts}
use Rattle.fax_schema.proofs.OursLemmas.{unreferred}
use Rattle.fax_store.proofs.KeptLemmas.{find_none, find_some, one_row}
use Rattle.std.proofs.lemmas.Slice.Eq.{bytes_eq-Decides}
use Rattle.sqlite.specs.Collation.TheVariants.{Binary}
use Rattle.sqlite_schema.specs.declared.schema.Constraint.TheVariants.{Unique}
use Rattle.sqlite_sql.specs.Term.{Term}
use Rattle.sqlite_value.proofs.KeyLemmas.{first_key-plain}
use Rattle.fax_tables.specs.declared.grants.Hold.{Hold}

module _ (n : ℕ) where
  abbrev pub params : Row
  params = number n ∷ []

  module _ (old new : State) (db : Database) (ours : db.schema ≡ our_tables) (now : old.now ≡ db) where
    -- the grant that is read of the row that is found stands in a row
    pub grant_stands : (row : Row) (g : Grant) → FindsRow SELECT_GRANT.now params old new (Some row) → HasValues row 0 (grant_shown g) → GrantStands db n g
    grant_stands row g =
        one_numbered SELECT_GRANT.now grants_tree grant_tests grant_project grant_names select_grant (λ trees. refl) params old new db ours now
        n (2 ∷ 3 ∷ 4 ∷ 5 ∷ 6 ∷ 7 ∷ 8 ∷ []) (λ r. refl) row g.number (drop 1 (grant_shown g)) (λ r. refl)

module _ {S : Type 0} (g : Ghosts S) (n : ℕ) (old new : Store S) where
  -- a grant is looked up by its number
  pub grant_keys : Keys g old new SELECT_GRANT.now (params n) (grant_numbered n) grant_shown IsLawfulGrant (λ db. HasGrantRow db n)
  grant_keys = record {
    found = λ m k means found h.
        numbered_found grant_row (λ (g : Grant). g.number) (λ g. refl) n (passes grants_tree grant_tests grant_project (params n)) (λ r. refl) m.grants
        ((shown g old).now.trees grants_tree) h.0 means.grants means.ordered.grants.rise (show grants_tree grant_tests grant_project (params n))
        (answers grants_tree grant_tests grant_project (params n) (shown g old).now ((shown g old).now.trees grants_tree) refl [] h.0 (reads_as SELECT_GRANT.now (params n) (shown g old) (shown g new) our_tables means.schema _ select_grant.command select_grant.plain select_grant.unlisted h.0 h.1))
        found h.2;
    lawful = λ m k means one. found_holds IsLawfulGrant (λ (other : Grant). other.number == n) m.grants one means.lawful.grants;
    none = λ db ours now.
        none_keyed SELECT_GRANT.now grants_tree grant_tests grant_project grant_names select_grant (λ trees. refl) (params n) (shown g old) (shown g new) db
        ours now
        0 (number n) (λ r. refl) (number_same n);
  }

-- the row of a grant is stored as it is
stored_grant : (g : Grant) → cast_row schema.grants (grant_row g) ≡ grant_row g
stored_grant g =
    let n = λ (x : ℕ). cast_int (pos x) in
    same_row (n _) (same_row cast_null (same_row (n _) (same_row refl (same_row (n _) (same_row (n _) (same_row (n _) (same_row (n _) (same_row (n _) refl))))))))

-- ---- one more grant

module _ (g : Grant) where
  abbrev pub hold_params : Row
  hold_params = Text g.modem ∷ number g.job ∷ number g.number ∷ []

  abbrev pub grant_params : Row
  grant_params = number g.number ∷ number g.job ∷ Text g.modem ∷ number g.first_page ∷ number g.last_page ∷ number (call_number g.call) ∷ number g.confirmed ∷ []

  -- the row of a hold is stored as it is
  stored_hold : cast_row schema.holds (Null ∷ hold_columns g) ≡ Null ∷ hold_columns g
  stored_hold = same_row cast_null (same_row refl (same_row (cast_int (pos g.job)) (same_row (cast_int (pos g.number)) refl)))

  -- the row of an open grant ends with a 0
  open_row : IsTrue g.is_open → grant_row g ≡ number g.number ∷ Null ∷ number g.job ∷ Text g.modem ∷ number g.first_page ∷ number g.last_page ∷ number (call_number g.call) ∷ number g.confirmed ∷ number 0 ∷ []
  open_row is_open = rw is_open refl

  module _ (old mid : State) (m : Queue) (k : Ledger) (means : TablesMean old.now m k) where
    -- the text that holds inserts the grant's hold, with the next rowid: its modem and its job hold it, and it is to be put yet
    held : HasRun INSERT_HOLD.now hold_params old mid → Parts mid.now m (g ∷ open_grants m) (calls_of m) k
    held h =
        let ran = runs_as INSERT_HOLD.now hold_params old mid our_tables means.schema _ insert_hold.is insert_hold.plain h.0 h.1 in
        let done = inserts our_tables unreferred schema.holds.name 2 schema.holds.columns schema.holds.key schema.holds.primary schema.holds.uniques schema.holds.orders schema.holds.checks 2 refl old mid means.schema hold_params _ h.0
        hold_terms 4 (Null ∷ hold_columns g) (Int (next_rowid (old.now.trees holds_tree)) ∷ hold_columns g) refl (ap (with_rowid Chosen (old.now.trees holds_tree)) stored_hold) ran in
        let by = means.ordered.holds in
        let columns = map (drop 1) (old.now.trees holds_tree) in
        let more : IsPermutation (hold_columns g ∷ map hold_columns (open_grants m)) (columns ++ hold_columns g ∷ []) =
        IsPermutation-trans (hold_columns g ∷ map hold_columns (open_grants m)) (hold_columns g ∷ columns) (columns ++ hold_columns g ∷ []) (IsPermutation-cons (hold_columns g) (map hold_columns (open_grants m)) columns means.holds)
        (IsPermutation-sym (columns ++ hold_columns g ∷ []) (hold_columns g ∷ columns) (IsPermutation-to_front columns (hold_columns g))) in
        let now : AreHeld (mid.now.trees holds_tree) (g ∷ open_grants m) = record {
          is = subst (IsPermutation (hold_columns g ∷ map hold_columns (open_grants m))) (sym (ap (map (drop 1)) done.rows ∙ appended (old.now.trees holds_tree) (hold_columns g) by.integers by.rise)) more;
          ordered = subst IsByRowid (sym done.rows) (by_rowid_put (Int (next_rowid (old.now.trees holds_tree)) ∷ hold_columns g) (old.now.trees holds_tree) refl by);
        } in
        holds_changed old mid m (open_grants m) (calls_of m) k (parts_of old.now m k means) done.keeps (g ∷ open_grants m) now

    -- the grant too, and its call is to be counted yet
    pub grant_put : (new : State) → IsTrue g.is_open → IsLawfulGrant g → HasRun INSERT_HOLD.now hold_params old mid → HasRun INSERT_GRANT.now grant_params mid new → Parts new.now (with_placed g m) (open_grants (with_placed g m)) (calls_of m) k
    grant_put new is_open lawful h more =
        let was = held h in
        let row = open_row is_open in
        let ran = runs_as INSERT_GRANT.now grant_params mid new our_tables was.schema _ insert_grant.is insert_grant.plain more.0 more.1 in
        let done = inserts our_tables unreferred schema.grants.name 1 schema.grants.columns schema.grants.key schema.grants.primary schema.grants.uniques schema.grants.orders schema.grants.checks 1 refl mid new was.schema grant_params _ more.0
        grant_terms 9 (grant_row g) (grant_row g) (ap (λ r. r ∷ []) (sym row)) (ap (with_rowid Chosen (mid.now.trees grants_tree)) (stored_grant g)) ran in
        let free = subst (λ rows. is_taken rows (grant_row g) ≡ false) (was.says grants).is (free_of (mid.now.trees grants_tree) (grant_row g) done.fresh) in
        let now : AreRecords grant_row IsLawfulGrant (new.now.trees grants_tree) (placed (λ (x : Grant). x.number) g m.grants) = record {
          is = done.rows ∙ ap (put_row (grant_row g)) (was.says grants).is ∙ row_placed grant_row (λ (x : Grant). x.number) (λ x. refl) g m.grants free;
          ordered = subst IsByRowid (sym done.rows) (by_rowid_put (grant_row g) (mid.now.trees grants_tree) refl (was.says grants).ordered);
          lawful = all_placed grant_row (λ (x : Grant). x.number) (λ x. refl) IsLawfulGrant g m.grants lawful (was.says grants).lawful;
        } in
        let after = grants_changed mid new m (g ∷ open_grants m) (calls_of m) k was done.keeps (placed (λ (x : Grant). x.number) g m.grants) now in
        let both = IsPermutation-filter (λ (x : Grant). x.is_open) (g ∷ m.grants) (placed (λ (x : Grant). x.number) g m.grants)
        (placed_permuted grant_row (λ (x : Grant). x.number) (λ x. refl) g m.grants) in
        let opened = subst (λ (b : Bool). IsPermutation (if b then g ∷ open_grants m else open_grants m) (open_grants (with_placed g m))) is_open both in
        let stand : AreHeld (new.now.trees holds_tree) (open_grants (with_placed g m)) = record {
          is = IsPermutation-trans (map hold_columns (open_grants (with_placed g m))) (map hold_columns (g ∷ open_grants m)) (map (drop 1) (new.now.trees holds_tree))
              (IsPermutation-map hold_columns (open_grants (with_placed g m)) (g ∷ open_grants m) (IsPermutation-sym (g ∷ open_grants m) (open_grants (with_placed g m)) opened)) (after.says holds).is;
          ordered = (after.says holds).ordered;
        } in
        held_as new.now (with_placed g m) (g ∷ open_grants m) (open_grants (with_placed g m)) (calls_of m) k stand after

    -- a hold of a modem and a job that hold none breaks no rule
    pub hold_goes : IsNewGrant g m → (e : Error) → Executes INSERT_HOLD.now hold_params old mid (Err e) → fault_of e ≡ Unavailable
    hold_goes free =
        let rows = old.now.trees holds_tree in
        let id = next_rowid rows in
        let by = λ (r : Row) (has : Has rows r). record_of hold_columns rows (open_grants m) means.holds r has in
        let same_at = λ (at : ℕ) (r : Row) (h : Grant) (is : drop 1 r ≡ hold_columns h). agree_at at r (Int id ∷ hold_columns g)
        ∙ ap (λ r. are_equal (column r at) (column (Int id ∷ hold_columns g) at)) (with_id r _ _ is) in
        let may = hold_may old.now means.schema means.sound g means.ordered.holds
        (λ r has. let it = by r has in same_at 1 r it.0 it.2 ∙ equal_texts it.0.modem g.modem
        ∙ none_found (λ (h : Grant). bytes_eq h.modem g.modem) (open_grants m) it.0 free.modem it.1)
        (λ r has. let it = by r has in same_at 2 r it.0 it.2 ∙ is_number it.0.job g.job
        ∙ false_from_ne_true _ (λ same. free.job it.0 it.1 (eqb-true it.0.job g.job same)))
        (λ r has. let it = by r has in same_at 3 r it.0 it.2 ∙ is_number it.0.number g.number
        ∙ none_found (λ (h : Grant). h.number == g.number) m.grants it.0 free.number (has_filtered (λ (h : Grant). h.is_open) m.grants it.0 it.1).0) in
        no_rule_broken schema.holds.name 2 schema.holds.columns schema.holds.key schema.holds.primary schema.holds.uniques schema.holds.orders schema.holds.checks 2 refl old means.schema hold_params hold_terms 4 (Null ∷ hold_columns g)
        (Int id ∷ hold_columns g) refl (ap (with_rowid Chosen rows) stored_hold) may INSERT_HOLD.now insert_hold mid

    -- and then its grant, of a number that none has
    pub grant_goes : (new : State) → IsTrue g.is_open → IsNewGrant g m → HasRun INSERT_HOLD.now hold_params old mid → (e : Error) → Executes INSERT_GRANT.now grant_params mid new (Err e) → fault_of e ≡ Unavailable
    grant_goes new is_open free h =
        let was = held h in
        let untaken = free_row grant_row (λ (x : Grant). x.number) (λ x. refl) g m.grants free.number in
        let may = grant_may mid.now was.schema was.sound g (subst (λ rows. is_taken rows (grant_row g) ≡ false) (sym (was.says grants).is) untaken) in
        no_rule_broken schema.grants.name 1 schema.grants.columns schema.grants.key schema.grants.primary schema.grants.uniques schema.grants.orders schema.grants.checks 1 refl mid was.schema grant_params grant_terms 9 (grant_row g) (grant_row g)
        (ap (λ r. r ∷ []) (sym (open_row is_open))) (ap (with_rowid Chosen (mid.now.trees grants_tree)) (stored_grant g)) may INSERT_GRANT.now insert_grant new

  module _ (m : Queue) (have : HaveJobs m) where
    -- once the calls to each number are counted with this one, the tables mean the queue with the grant
    pub grant_counted : (new last : State) (k : Ledger) (j : Job) → job_numbered g.job m ≡ Some j → IsTrue g.is_open → Parts new.now (with_placed g m)
        (open_grants (with_placed g m)) (calls_of m) k → SetsCalls new last (with_count j.dial (calls_of m j.dial + 1) (calls_of m))
        → TablesMean last.now (with_placed g m) k
    grant_counted new last k j there is_open was set =
        let after = with_placed g m in
        let counts = one_more j.dial (calls_of m) (calls_of after) (λ dial. placed_count (λ x. is_of_number dial (job_numbered x.job m)) g m.grants
        ∙ ap₂ (λ b o. one (b && is_of_number dial o) + calls_of m dial) is_open there) in
        means_of last.now after k jobs
        (calls_as last.now after (open_grants after) (with_count j.dial (calls_of m j.dial + 1) (calls_of m)) (calls_of after) k counts
        (calls_changed new last after (open_grants after) (calls_of m) k was set.schema_is set.sound set.rows (with_count j.dial (calls_of m j.dial + 1) (calls_of m)) set.calls))
      where
        jobs : HaveJobs (with_placed g m)
        jobs h has =
            let kept = has_filtered (λ (x : Grant). x.is_open) (placed (λ (x : Grant). x.number) g m.grants) h has in
            elim (has_placed g h m.grants kept.0) [
              | inl is ↦ (j, ap (λ (x : Grant). job_numbered x.job m) is ∙ there)
              | inr among ↦ have h (has_kept (λ (x : Grant). x.is_open) m.grants h among kept.1)
            ]

-- ---- a report

-- grants that changed in neither modem, job nor number, nor in being open
held_mapped : (f : Grant → Grant) (gs : List Grant) → ((x : Grant) → Has gs x → ((f x).is_open ≡ x.is_open) × (hold_columns (f x) ≡ hold_columns x))
    → map hold_columns (filter (λ x. x.is_open) (map f gs)) ≡ map hold_columns (filter (λ x. x.is_open) gs)
held_mapped f [] same = refl
held_mapped f (x ∷ xs) same =
    let first = same x (inl refl) in
    let rest = held_mapped f xs (λ y has. same y (inr has)) in
    let those = λ (ys : List Grant). filter (λ y. y.is_open) ys in
    subst (λ b. map hold_columns (cond b (f x ∷ those (map f xs)) (those (map f xs))) ≡ map hold_columns (cond x.is_open (x ∷ those xs) (those xs)))
    (sym first.0)
    (elim x.is_open as (λ b. map hold_columns (cond b (f x ∷ those (map f xs)) (those (map f xs))) ≡ map hold_columns (cond b (x ∷ those xs) (those xs)))
    [ true ↦ ap₂ ◌∷◌ first.1 rest | false ↦ rest ])

module _ (g : Grant) where
  abbrev pub report_params : Row
  report_params = number g.number ∷ number (call_number g.call) ∷ number g.confirmed ∷ []

  abbrev put : Grant → Grant
  put x = if x.number == g.number then g else x

  -- a report writes the row of the grant as it then is
  reported : (x : Grant) → x.number ≡ g.number → IsSameGrant x g → cast_row schema.grants (drop 1 (show grants_tree grant_tests report_project report_params (grant_row x))) ≡ grant_row g
  reported x is same = rw (is, same.job, same.modem, same.first_page, same.last_page, same.is_open) (stored_grant g)

  -- each grant stays lawful, whether it is the one reported, with at most 9999 pages, or not
  put_lawful : g.confirmed ≤ 9999 → (x : Grant) → (x.number ≡ g.number → IsSameGrant x g) → IsLawfulGrant x → IsLawfulGrant (put x)
  put_lawful few x same was = cond_both (x.number == g.number) g x IsLawfulGrant
      (λ here. let is = eqb-true x.number g.number here in let as_it = same is in
      record { limits = omega (arith, was.limits); modem = rw as_it.modem at was.modem }) (λ _. was)

  -- each stays open or shut, with the same columns of a hold
  put_held : (x : Grant) → (x.number ≡ g.number → IsSameGrant x g) → ((put x).is_open ≡ x.is_open) × (hold_columns (put x) ≡ hold_columns x)
  put_held x same = cond_both (x.number == g.number) g x (λ y. (y.is_open ≡ x.is_open) × (hold_columns y ≡ hold_columns x))
      (λ here. let is = eqb-true x.number g.number here in let as_it = same is in (sym as_it.is_open, rw (is, as_it.modem, as_it.job) refl))
      (λ _. (refl, refl))

  module _ (old new : State) (m : Queue) (k : Ledger) (means : TablesMean old.now m k) where
    -- the queue's grant of this number is the same but for what a report tells
    same_grant : IsReport g m → (x : Grant) → Has m.grants x → x.number ≡ g.number → IsSameGrant x g
    same_grant report x has is =
        report x (subst (λ n. find (λ (y : Grant). y.number == n) m.grants ≡ Some x) is (only_numbered grant_row (λ (y : Grant). y.number) (λ y. refl) m.grants x (subst IsTable means.grants means.ordered.grants.rise) has))

    -- the text that reports makes the report, and touches grants alone
    pub grant_reported : IsReport g m → g.confirmed ≤ 9999 → HasRun UPDATE_REPORT.now report_params old new → TablesMean new.now (with_grant g m) k × KeepsOthers our_tables grants_tree old new
    grant_reported report few h =
        let is_number = asked_is grant_row (λ (y : Grant). y.number) (λ y. refl) g.number (passes grants_tree grant_tests report_project report_params) (λ r. refl) in
        let is_other = not_asked grant_row (λ (y : Grant). y.number) (λ y. refl) g.number (passes grants_tree grant_tests report_project report_params) (λ r. refl) in
        let ran = runs_as UPDATE_REPORT.now report_params old new our_tables means.schema _ update_report.is update_report.plain h.0 h.1 in
        let done = updated schema.grants.name 1 schema.grants.columns schema.grants.key schema.grants.primary schema.grants.uniques schema.grants.orders schema.grants.checks 1 refl old new means.schema refl means.ordered.grants
        grant_tests report_project report_params (λ r. refl) _ h.0 grant_row put m.grants means.grants
        (λ x. cond_both (x.number == g.number) g x (λ y. rowid (grant_row y) ≡ rowid (grant_row x))
        (λ here. ap number (sym (eqb-true x.number g.number here))) (λ _. refl))
        (λ x has on. let is = is_number x on in reported x is (same_grant report x has is) ∙ rw (eq-eqb x.number g.number is) refl)
        (λ x has off. rw (is_other x off) refl)
        ran in
        let now : AreRecords grant_row IsLawfulGrant (new.now.trees grants_tree) (map put m.grants) = record { is = done.1; ordered = done.2; lawful = all_mapped IsLawfulGrant put m.grants (λ x has. put_lawful few x (same_grant report x has)) means.lawful.grants } in
        let after = grants_changed old new m (open_grants m) (calls_of m) k (parts_of old.now m k means) done.0 (map put m.grants) now in
        let as_it = λ (x : Grant) (has : Has m.grants x). put_held x (same_grant report x has) in
        let stand : AreHeld (new.now.trees holds_tree) (open_grants (with_grant g m)) = record {
          is = subst (λ columns. IsPermutation columns (map (drop 1) (new.now.trees holds_tree))) (sym (held_mapped put m.grants as_it)) (after.says holds).is;
          ordered = (after.says holds).ordered;
        } in
        let moved = with_grant g m in (
          means_of new.now moved k (jobs_reported put m as_it means.held)
              (calls_as new.now moved (open_grants moved) (calls_of m) (calls_of moved) k (calls_reported put m as_it) (held_as new.now moved (open_grants m) (open_grants moved) (calls_of m) k stand after)),
          done.0,
        )

-- ---- a grant that is closed

map_same : {X : Type 0} (f g : X → X) (xs : List X) → ((x : X) → Has xs x → f x ≡ g x) → map f xs ≡ map g xs
map_same f g [] same = refl
map_same f g (x ∷ xs) same = ap₂ ◌∷◌ (same x (inl refl)) (map_same f g xs (λ y has. same y (inr has)))

module _ (n : ℕ) where
  abbrev pub close_params : Row
  close_params = number n ∷ []

  abbrev closed : Grant → Grant
  closed x = record x { is_open = false }

  abbrev shut : Grant → Grant
  shut = shut_at n

  abbrev but_this : List Grant → List Grant
  but_this = filter (λ x. not (x.number == n))

  -- the open grants but this one
  open_shut : (gs : List Grant) → filter (λ x. x.is_open) (map shut gs) ≡ but_this (filter (λ x. x.is_open) gs)
  open_shut [] = refl
  open_shut (x ∷ xs) =
      let open_ones = filter (λ (y : Grant). y.is_open) xs in
      let rest = but_this open_ones in
      rw (open_shut xs) (elim (cases_Bool (x.number == n)) [
        | inl here ↦ rw here (elim x.is_open as (λ o. rest ≡ but_this (cond o (x ∷ open_ones) open_ones)) [ true ↦ rw here refl | false ↦ refl ])
        | inr off ↦ rw off (elim x.is_open as (λ o. cond o (x ∷ rest) rest ≡ but_this (cond o (x ∷ open_ones) open_ones))
            [ true ↦ rw off refl | false ↦ refl ])
      ])

  module _ (m : Queue) (rise : IsTable (map grant_row m.grants)) where
    -- a grant of this number is the one that the number finds
    only : (x : Grant) → Has m.grants x → x.number ≡ n → grant_numbered n m ≡ Some x
    only x has is = subst (λ i. find (λ (y : Grant). y.number == i) m.grants ≡ Some x) is (only_numbered grant_row (λ (y : Grant). y.number) (λ y. refl) m.grants x rise has)

    -- shutting each grant of the number shuts the one that the number finds, if any
    closed_by : (o : Option Grant) → grant_numbered n m ≡ o → record m { grants = map shut m.grants } ≡ with_shut o m
    closed_by None none =
        ap (λ gs. record m { grants = gs }) (unmoved shut m.grants (λ x has. cond_both (x.number == n) (closed x) x (λ y. y ≡ x)
        (λ here. absurd (let no = sym none ∙ only x has (eqb-true x.number n here) in cc)) (λ _. refl)))
    closed_by (Some g) its =
        let is = eqb-true g.number n (has_found (λ (y : Grant). y.number == n) m.grants g its).1 in
        ap (λ gs. record m { grants = gs }) (map_same shut (λ x. if x.number == g.number then closed g else x) m.grants (λ x has.
        let same : (x.number == g.number) ≡ (x.number == n) = ap (λ i. x.number == i) is in
        rw same (elim (cases_Bool (x.number == n)) [
          | inl here ↦ rw here (ap closed (same_Some x g (sym (only x has (eqb-true x.number n here)) ∙ its)))
          | inr off ↦ rw off refl
        ])))

    -- shutting each grant of the number is closing it
    pub closed_is : record m { grants = map shut m.grants } ≡ with_closed n m
    closed_is = closed_by (grant_numbered n m) refl

  abbrev pub after : Queue → Queue
  after m = record m { grants = map shut m.grants }

  module _ (old mid new : State) (m : Queue) (k : Ledger) (means : TablesMean old.now m k) where
    -- a hold passes where its grant is the one of this number
    is_held : (r : Row) → passes holds_tree held_tests gone_project close_params r ≡ (are_equal (column (drop 1 r) 2) (number n) && true)
    is_held [] = refl
    is_held (v ∷ r) = refl

    -- the text that shuts a grant shuts the one of the number; it is held no more, and its call is to be taken off yet
    pub grant_closed : HasRun SHUT_GRANT.now close_params old mid → HasRun DELETE_HOLD.now close_params mid new → Parts new.now (after m) (open_grants (after m)) (calls_of m) k
    grant_closed h more =
        let is_one = asked_is grant_row (λ (y : Grant). y.number) (λ y. refl) n (passes grants_tree grant_tests shut_project close_params) (λ r. refl) in
        let is_other = not_asked grant_row (λ (y : Grant). y.number) (λ y. refl) n (passes grants_tree grant_tests shut_project close_params) (λ r. refl) in
        let shuts = runs_as SHUT_GRANT.now close_params old mid our_tables means.schema _ shut_grant.is shut_grant.plain h.0 h.1 in
        let first = updated schema.grants.name 1 schema.grants.columns schema.grants.key schema.grants.primary schema.grants.uniques schema.grants.orders schema.grants.checks 1 refl old mid means.schema refl means.ordered.grants
        grant_tests shut_project close_params (λ r. refl) _ h.0 grant_row shut m.grants means.grants
        (λ x. cond_both (x.number == n) (closed x) x (λ y. rowid (grant_row y) ≡ rowid (grant_row x)) (λ _. refl) (λ _. refl))
        (λ x has on. stored_grant (closed x) ∙ rw (eq-eqb x.number n (is_one x on)) refl)
        (λ x has off. rw (is_other x off) refl)
        shuts in
        let now_shut : AreRecords grant_row IsLawfulGrant (mid.now.trees grants_tree) (map shut m.grants) =
        record {
          is = first.1;
          ordered = first.2;
          lawful = all_mapped IsLawfulGrant shut m.grants (λ x has was. cond_both (x.number == n) (closed x) x IsLawfulGrant
              (λ _. record { limits = record { number = was.limits.number; job = was.limits.job; pages = was.limits.pages }; modem = was.modem }) (λ _. was))
              means.lawful.grants;
        } in
        let was = grants_changed old mid m (open_grants m) (calls_of m) k (parts_of old.now m k means) first.0 (map shut m.grants) now_shut in
        let ran = runs_as DELETE_HOLD.now close_params mid new our_tables was.schema _ delete_hold.is delete_hold.plain more.0 more.1 in
        let done = deleted schema.holds.name 2 schema.holds.columns schema.holds.key schema.holds.primary schema.holds.uniques schema.holds.orders schema.holds.checks 2 refl mid new was.schema refl (was.says holds).ordered
        held_tests gone_project close_params (λ r. refl) _ more.0 ran in
        let others = λ (columns : Row). not (are_equal (column columns 2) (number n) && true) in
        let left : filter (λ x. others (hold_columns x)) (open_grants m) ≡ open_grants (after m) =
        filter_same (λ x. others (hold_columns x)) (λ x. not (x.number == n)) (open_grants m) (all_of (λ x. others (hold_columns x) ≡ not (x.number == n)) (λ x. ap not (and-true (are_equal (number x.number) (number n)) ∙ is_number x.number n)) (open_grants m))
        ∙ sym (open_shut m.grants) in
        let kept = kept_permuted hold_columns (λ r. not (passes holds_tree held_tests gone_project close_params r)) others (λ r. ap not (is_held r)) (mid.now.trees holds_tree) (open_grants m) (was.says holds).is in
        let now : AreHeld (new.now.trees holds_tree) (open_grants (after m)) = record {
          is = subst (λ rows. IsPermutation (map hold_columns (open_grants (after m))) (map (drop 1) rows)) (sym done.1) (subst (λ gs. IsPermutation (map hold_columns gs) (map (drop 1) (filter (λ r. not (passes holds_tree held_tests gone_project close_params r)) (mid.now.trees holds_tree)))) left kept);
          ordered = done.2;
        } in
        holds_changed mid new (after m) (open_grants m) (calls_of m) k was done.0 (open_grants (after m)) now

  module _ (db : Database) (m : Queue) (k : Ledger) (means : TablesMean db m k) where
    -- once it is taken off, the calls to each number are without this one, and the tables mean the queue without the hold
    pub close_counted : (new last : State) (g : Grant) (j : Job) → grant_numbered n m ≡ Some g → g.is_open ≡ true → job_numbered g.job m ≡ Some j
        → Parts new.now (after m) (open_grants (after m)) (calls_of m) k → SetsCalls new last
        (with_count j.dial (calls_of m j.dial - 1) (calls_of m)) → TablesMean last.now (with_closed n m) k
    close_counted new last g j found on there was set =
        let counts = one_less j.dial (calls_of m) (calls_of (after m)) (λ dial. ap (λ o. calls_of (after m) dial + one (is_of_number dial o)) (sym there)
        ∙ closed_count n (λ x. is_of_number dial (job_numbered x.job m)) g m.grants (subst IsTable means.grants means.ordered.grants.rise) found on) in
        subst (λ it. TablesMean last.now it k) (closed_is m (subst IsTable means.grants means.ordered.grants.rise))
        (means_of last.now (after m) k (jobs_shut n m means.held)
        (calls_as last.now (after m) (open_grants (after m)) (with_count j.dial (calls_of m j.dial - 1) (calls_of m)) (calls_of (after m)) k counts
        (calls_changed new last (after m) (open_grants (after m)) (calls_of m) k was set.schema_is set.sound set.rows (with_count j.dial (calls_of m j.dial - 1) (calls_of m)) set.calls)))

-- a grant that is open no more changes nothing where it is closed
pub closed_already : (n : ℕ) (g : Grant) (m : Queue) → IsTable (map grant_row m.grants) → grant_numbered n m ≡ Some g → g.is_open ≡ false → with_closed n m ≡ m
closed_already n g m rise found off = sym (closed_is n m rise) ∙ ap (λ gs. record m { grants = gs }) (unmoved (shut_at n) m.grants each)
  where
    each : (x : Grant) → Has m.grants x → shut_at n x ≡ x
    each x has = cond_both (x.number == n) (closed n x) x (λ y. y ≡ x)
        (λ here. let it = same_Some x g (sym (only n m rise x has (eqb-true x.number n here)) ∙ found) in
        let shut : x.is_open ≡ false = ap (λ (y : Grant). y.is_open) it ∙ off in rw (← shut) refl) (λ _. refl)

-- ---- a modem stands in one row

module _ (db : Database) (has : db.schema ≡ our_tables) (sound : IsDatabase db) (by : IsByRowid (db.trees holds_tree)) where
  -- no row of holds clashes with another in its modem, so a modem stands in one row
  pub one_of_modem : (modem : List ℕ) (r s : Row) → Has (db.trees holds_tree) r → Has (db.trees holds_tree) s → column r 1 ≡ Text modem → column s 1 ≡ Text modem → s ≡ r
  one_of_modem modem r s there also of_r of_s =
      let keeps : Keeps Unique our_tables db.trees = subst (λ s. Keeps Unique s db.trees) has (sound.obeys.rules Unique) in
      let alone = not-true _ (and_parts (not (clashes plain (1 ∷ []) (db.trees holds_tree) r)) _ (all_has _ (db.trees holds_tree) r keeps.1.1.0 there)).0 in
      one_row (db.trees holds_tree) by (1 ∷ []) r s there also alone
      (ap (λ key. equal key.collation (column s 1) (column r 1) && true) first_key-plain
      ∙ ap₂ (λ a b. equal Binary a b && true) of_s of_r ∙ ap (λ b. b && true) (equal_texts modem modem ∙ (bytes_eq-Decides modem modem).1 refl))

-- ---- the hold of a modem

module _ (modem : List ℕ) where
  abbrev pub modem_params : Row
  modem_params = Text modem ∷ []

  -- the row that passes is that of the grant which the modem holds
  is_asked : (project : List Term) (r : Row) (g : Grant) → drop 1 r ≡ hold_columns g → passes holds_tree hold_tests project modem_params r ≡ bytes_eq g.modem modem
  is_asked project r g is = ap (passes holds_tree hold_tests project modem_params) (with_id r _ _ is) ∙ and-true (are_equal (Text g.modem) (Text modem)) ∙ equal_texts g.modem modem

  -- the row of a grant of this modem names it
  modem_of : (r : Row) (g : Grant) → drop 1 r ≡ hold_columns g → bytes_eq g.modem modem ≡ true → column r 1 ≡ Text modem
  modem_of r g is same = ap (λ r. column r 1) (with_id r _ _ is) ∙ ap Text ((bytes_eq-Decides g.modem modem).0 same)

  module _ (old new : State) (m : Queue) (k : Ledger) (means : TablesMean old.now m k) where
    -- what the text on holds finds is the grant and job that the modem holds, or nothing
    pub hold_found : (found : Option Row) → FindsRow SELECT_HOLD.now modem_params old new found → found ≡ option_map hold_shown (held_by modem m)
    hold_found None h = sym (ap (option_map hold_shown) (find_none (λ (g : Grant). bytes_eq g.modem modem) (open_grants m) (λ g has.
        let it = row_of hold_columns (old.now.trees holds_tree) (open_grants m) means.holds g has in
        sym (is_asked hold_project it.0 g it.2)
        ∙ none_passes SELECT_HOLD.now holds_tree hold_tests hold_project _ select_hold (λ trees. refl) modem_params old new old.now means.schema refl h it.0 it.1)))
    hold_found (Some row) h =
        let shown = row_passes SELECT_HOLD.now holds_tree hold_tests hold_project _ select_hold (λ trees. refl) modem_params old new old.now means.schema refl row h in
        let it = record_of hold_columns (old.now.trees holds_tree) (open_grants m) means.holds shown.0 shown.1 in
        let on = sym (is_asked hold_project shown.0 it.0 it.2) ∙ shown.2 in
        let one = find_some (λ (g : Grant). bytes_eq g.modem modem) (open_grants m) it.0 it.1 on in
        let held = has_found (λ (g : Grant). bytes_eq g.modem modem) (open_grants m) one.0 one.1 in
        let its = row_of hold_columns (old.now.trees holds_tree) (open_grants m) means.holds one.0 held.0 in
        let same = one_of_modem old.now means.schema means.sound means.ordered.holds modem its.0 shown.0 its.1 shown.1 (modem_of its.0 one.0 its.2 held.1) (modem_of shown.0 it.0 it.2 on) in
        ap Some (shown.3 ∙ ap (show holds_tree hold_tests hold_project modem_params) (with_id shown.0 _ _ (ap (drop 1) same ∙ its.2)))
        ∙ sym (ap (option_map hold_shown) one.1)

  module _ (old new : State) (db : Database) (ours : db.schema ≡ our_tables) (now : old.now ≡ db) where
    -- the hold that is read of the row that is found stands in a row
    pub hold_stands : (row : Row) (h : Hold) → FindsRow SELECT_HOLD.now modem_params old new (Some row) → HasValues row 0 (held_shown h) → HoldStands db modem h
    hold_stands row h found has =
        let it = one_passes SELECT_HOLD.now holds_tree hold_tests hold_project _ select_hold (λ trees. refl) modem_params old new db ours now row (held_shown h) found has in
        let equal = key_of SELECT_HOLD.now holds_tree hold_tests hold_project _ select_hold (λ trees. refl) modem_params old new db ours now 1 (Text modem) (λ r. refl) it.0 it.2 in
        record { row = it.0; has = it.1; is = ap₂ ◌∷◌ (text_same (column it.0 1) modem equal) it.3 }

module _ {S : Type 0} (g : Ghosts S) (modem : List ℕ) (old new : Store S) where
  -- what a modem holds is looked up
  pub hold_keys : Keys g old new SELECT_HOLD.now (modem_params modem) (held_by modem) hold_shown IsLawfulGrant (λ db. HasHoldRow db modem)
  hold_keys = record {
    found = hold_found modem (shown g old) (shown g new);
    lawful = λ m k means held. found_holds IsLawfulGrant (λ (one : Grant). bytes_eq one.modem modem) (open_grants m) held (all_kept IsLawfulGrant (λ (one : Grant). one.is_open) m.grants means.lawful.grants);
    none = λ db ours now.
        none_keyed SELECT_HOLD.now holds_tree hold_tests hold_project _ select_hold (λ trees. refl) (modem_params modem) (shown g old) (shown g new) db ours
        now 1 (Text modem) (λ r. refl) (equal_texts modem modem ∙ (bytes_eq-Decides modem modem).1 refl);
  }
