-- What the texts on jobs read and write.
use Rattle.std.proofs.Common.{IsPermutation, filter, ◌≡◌, ℕ, zero, suc, pos, ◌+◌, ◌-◌, ◌≤◌, List, [], ◌∷◌, ◌++◌, map, arith, false, Option, Some, None, Err, drop, refl, sym, ap, ap₂, subst, ◌∙◌, ◌<◌, inl, inr, Bool, true, ◌&&◌, ◌||◌, unwrap_or, if◌then◌else◌, option_map, ◌==◌, IsTrue, find, nat_le, IsUtf8}
use Rattle.std.specs.List.{range_with_len}
use Rattle.std.proofs.lemmas.List.FromFn.{length-range_with_len}
use Rattle.sqlite.specs.Effect.{Database}
use Rattle.sqlite.specs.Order.{Row}
use Rattle.sqlite.specs.State.{State, Executes, Shown}
use Rattle.sqlite.specs.Tree.{put_row, rowid, IsTable}
use Rattle.sqlite.specs.Cast.{cast_row}
use Rattle.sqlite.specs.Edit.{is_taken, with_rowid}
use Rattle.sqlite.specs.Rowids.TheVariants.{Chosen}
use Rattle.sqlite.proofs.Callers.{runs_as, reads_as}
use Rattle.sqlite_rules.specs.Lists.{Has}
use Rattle.sqlite_trees.specs.declared.store.Store.{Ghosts}
use Rattle.fax_core.specs.Job.{Job, job_of, fields_of, pages_to}
use Rattle.fax_core.specs.Ledger.{Ledger}
use Rattle.fax_core.specs.Queue.{Queue, job_numbered, open_grants}
use Rattle.fax_job.specs.Job.{IsLawful}
use Rattle.fax_job.specs.declared.job.JobFields.{JobFields}
use Rattle.fax_schema.specs.declared.statements.TheConstants.{SELECT_JOB, SELECT_BRIEF, INSERT_JOB, UPDATE_JOB, SELECT_EXPIRED, EXPIRE_JOBS}
use Rattle.fax_schema.specs.Schema as schema
use Rattle.fax_schema.specs.Schema.{our_tables, jobs_tree}
use Rattle.fax_tables.specs.Place.{placed}
use Rattle.fax_tables.specs.Row.{HasValues, number, job_row, phase_number}
use Rattle.fax_tables.specs.Job.{IsFormed, IsLawfulJob, brief_shown, job_shown, IsText}
use Rattle.fax_store.specs.Job.{HasJobRow, JobStands, BriefStands, brief_places, job_places, with_placed, IsSameOrder, IsChange, expired_in, lines_of, with_set, with_expired, with_expired_in, with_failed_in}
use Rattle.fax_store.specs.Times.{is_among, is_expired, with_ends}
use Rattle.fax_store.proofs.NumberedLemmas.{all_mapped, both_ways_equal, number_first, numbered_rows, numbers_in}
use Rattle.fax_core.specs.Stamp.{ended_where, ends, stamp}
use Rattle.fax_core.specs.declared.times.Times.{Times}
use Rattle.fax_core.proofs.DecisionLemmas.{aged_number}
use Rattle.fax_core.proofs.PlaceLemmas.{find_map, length_map, number_found}
use Rattle.fax_core.proofs.StampLemmas.{ends_as, ends_none, ends_twice, times_after}
use Rattle.fax_tables.specs.Tables.{TablesMean}
use Rattle.fax_layout.specs.ByRowid.{IsByRowid}
use Rattle.fax_store.specs.Calls.{shown}
use Rattle.fax_store.specs.Store.{FindsRow, HasRun}
use Rattle.fax_store.specs.declared.store.Store.{Store}
use Rattle.fax_layout.proofs.CompareLemmas.{same_row, cast_int, cast_null, number_same, at_most, at_least, is_number}
use Rattle.fax_tables.proofs.FreeLemmas.{free_row, untaken}
use Rattle.fax_tables.proofs.RefusalLemmas.{no_rule_broken}
use Rattle.fax_tables.proofs.StandLemmas.{job_may}
use Rattle.fax_tables.specs.Fault.{fault_of}
use Rattle.fax_tables.specs.declared.fault.StoreFault.TheVariants.{Unavailable}
use Rattle.sqlite.specs.declared.error.Error.{Error}
use Rattle.fax_store.proofs.FoundLemmas.{Keys, none_keyed, one_numbered}
use Rattle.fax_tables.proofs.KeyLemmas.{found_holds, numbered_found, free_of, row_placed, all_placed, only_numbered, asked_is, not_asked}
use Rattle.fax_tables.proofs.TablesLemmas.{AreRecords, row_of, parts_of, means_of, calls_as, calls_of, jobs_changed, by_rowid_put}
use Rattle.fax_store.proofs.CountLemmas.{calls_placed, jobs_placed, calls_mapped, jobs_mapped, unmoved}
use Rattle.fax_tables.proofs.RowLemmas.{sent_low, change_params}
use Rattle.fax_layout.proofs.WriteLemmas.{KeepsOthers, inserts}
use Rattle.fax_schema.proofs.OursLemmas.{unreferred}
use Rattle.fax_layout.proofs.SelectLemmas.{passes, show, answers}
use Rattle.fax_schema.proofs.StatementForms.{Selects}
use Rattle.sqlite_sql.specs.Term.{Term}
use Rattle.fax_schema.proofs.StatementTexts.{brief_names, brief_project, job_names, job_project, job_terms, job_tests, select_brief, select_job, insert_job, change_project, update_job, expired_tests, expired_project, expire_jobs, number_project, select_expired}
use Rattle.std.proofs.Math.Bool.{and-true}
use Rattle.std.proofs.lemmas.Bool.{and_parts, eqb-true, eq-eqb, cond_both, cases_Bool}
use Rattle.sqlite_rules.proofs.ListLemmas.{has_found, some_from, some_has}
use Rattle.sqlite_rules.proofs.ProbeLemmas.{mapped_has}
use Rattle.fax_core.specs.Ageing.{aged_job, expires, is_past}
use Rattle.fax_value.specs.Status.{kill_time_expired}
use Rattle.fax_job.specs.declared.job.Phase.{Phase}
use Rattle.fax_job.specs.declared.job.Phase.TheVariants.{Held, Waiting, Granted, Done, Failed}
use Rattle.fax_value.specs.Dial.{IsCanonical}
use Rattle.fax_value.specs.JobTag.{IsJobTag}
use Rattle.fax_value.specs.Name.{IsName}
use Rattle.fax_job.specs.Pair.{Pair, ArePairs, are_unknown}
use Rattle.fax_value.specs.Value.{IsStatus}
use Rattle.fax_layout.proofs.EditLemmas.{has_mapped, one_shown, shown_one}
use Rattle.fax_schema.proofs.UpdateLemmas.{updated}

module _ (n : ℕ) where
  abbrev pub params : Row
  params = number n ∷ []

  module _ (old new : State) (m : Queue) (k : Ledger) (means : TablesMean old.now m k) where
    -- the row that passes is that of the job of this number
    row_found : (sql : List ℕ) (project : List Term) (names : List (List ℕ)) → Selects sql jobs_tree job_tests project names
        → (found : Option Row) → FindsRow sql params old new found → found ≡ option_map (λ j. show jobs_tree job_tests project params (row_of j)) (job_numbered n m)
    row_found sql project names selects found h =
        numbered_found row_of (λ j. j.number) (λ j. refl) n (passes jobs_tree job_tests project params) (λ r. refl) m.jobs (old.now.trees jobs_tree) h.0 means.jobs means.ordered.jobs.rise (show jobs_tree job_tests project params)
        (answers jobs_tree job_tests project params old.now (old.now.trees jobs_tree) refl names h.0 (reads_as sql params old new our_tables means.schema _ selects.command selects.plain selects.unlisted h.0 h.1))
        found h.2

  module _ (old new : State) (db : Database) (ours : db.schema ≡ our_tables) (now : old.now ≡ db) where
    -- whatever the rows say, where none is found there is no job of this number
    none_found : (sql : List ℕ) (project : List Term) (names : List (List ℕ)) → Selects sql jobs_tree job_tests project names → FindsRow sql params old new None → ¬ HasJobRow db n
    none_found sql project names selects =
        none_keyed sql jobs_tree job_tests project names selects (λ trees. refl) params old new db ours now 0 (number n) (λ r. refl) (number_same n)

    -- the job that is read of the row that is found stands in a row
    pub job_stands : (row : Row) (f : JobFields) → FindsRow SELECT_JOB.now params old new (Some row) → HasValues row 0 (job_shown f) → JobStands db n f
    job_stands row f =
        one_numbered SELECT_JOB.now jobs_tree job_tests job_project job_names select_job (λ trees. refl) params old new db ours now
        n (drop 1 job_places) (λ r. refl) row f.job (drop 1 (job_shown f)) (λ r. refl)

    -- so does the job in brief
    pub brief_stands : (row : Row) (f : JobFields) → FindsRow SELECT_BRIEF.now params old new (Some row) → HasValues row 0 (brief_shown f) × (f.extra ≡ []) → BriefStands db n f
    brief_stands row f h has =
        let it =
        one_numbered SELECT_BRIEF.now jobs_tree job_tests brief_project brief_names select_brief (λ trees. refl) params old new db ours now
        n (drop 1 brief_places) (λ r. refl) row f.job (drop 1 (brief_shown f)) (λ r. refl) h has.0 in
        (it.0, has.1, it.1)

-- ---- looked up

module _ {S : Type 0} (g : Ghosts S) (n : ℕ) (old new : Store S) where
  -- a job that is found is lawful
  job_lawful : (m : Queue) (k : Ledger) → TablesMean (shown g old).now m k → (j : Job) → job_numbered n m ≡ Some j → IsLawfulJob j
  job_lawful m k means j = found_holds IsLawfulJob (λ (i : Job). i.number == n) m.jobs j means.lawful.jobs

  pub job_keys : Keys g old new SELECT_JOB.now (params n) (job_numbered n) (λ j. job_shown (fields_of j)) IsLawfulJob (λ db. HasJobRow db n)
  job_keys = record {
    found = λ m k means. row_found n (shown g old) (shown g new) m k means SELECT_JOB.now job_project job_names select_job;
    lawful = job_lawful;
    none = λ db ours now. none_found n (shown g old) (shown g new) db ours now SELECT_JOB.now job_project job_names select_job;
  }

  pub brief_keys : Keys g old new SELECT_BRIEF.now (params n) (job_numbered n) (λ j. brief_shown (fields_of j)) IsLawfulJob (λ db. HasJobRow db n)
  brief_keys = record {
    found = λ m k means. row_found n (shown g old) (shown g new) m k means SELECT_BRIEF.now brief_project brief_names select_brief;
    lawful = job_lawful;
    none = λ db ours now. none_found n (shown g old) (shown g new) db ours now SELECT_BRIEF.now brief_project brief_names select_brief;
  }

-- ---- one more row

-- a record of code is what its job is written as
pub fields_back : (f : JobFields) → fields_of (job_of f) ≡ f
fields_back f = ap (λ n. record f { npages = n }) (length-range_with_len 1 f.npages)

-- a range and the range behind it are one range
range_split : (a m n : ℕ) → range_with_len a m ++ range_with_len (a + m) n ≡ range_with_len a (m + n)
range_split a zero n =
    let from : a + 0 ≡ a = omega arith in
    let count : 0 + n ≡ n = omega arith in
    ap (λ x. range_with_len x n) from ∙ sym (ap (range_with_len a) count)
range_split a (suc m) n =
    let from : a + suc m ≡ (a + 1) + m = omega arith in
    let count : suc m + n ≡ suc (m + n) = omega arith in
    ap (λ rest. a ∷ rest) (ap (λ x. range_with_len (a + 1) m ++ range_with_len x n) from ∙ range_split (a + 1) m n) ∙ sym (ap (range_with_len a) count)

-- the row of a job is stored as it is
pub stored_job : (f : JobFields) → cast_row schema.jobs (job_row f) ≡ job_row f
stored_job f =
    let n = λ (x : ℕ). cast_int (pos x) in
    same_row (n _) (same_row cast_null (same_row refl (same_row refl (same_row refl (same_row refl (same_row refl
    (same_row (n _) (same_row (n _) (same_row (n _) (same_row (n _) (same_row (n _) (same_row (n _) (same_row (n _) (same_row (n _)
    (same_row (n _) (same_row (n _) (same_row (n _) (same_row (n _) (same_row (n _) (same_row (n _) refl))))))))))))))))))))

module _ (old new : State) (m : Queue) (k : Ledger) (means : TablesMean old.now m k) (f : JobFields) where
  -- the text that adds a lawful job inserts its row: it puts the job into the queue, and touches jobs alone
  pub job_put : IsLawfulJob (job_of f) → HasRun INSERT_JOB.now (job_shown f) old new → TablesMean new.now (with_placed (job_of f) m) k × KeepsOthers our_tables jobs_tree old new
  job_put lawful h =
      let ran = runs_as INSERT_JOB.now (job_shown f) old new our_tables means.schema _ insert_job.is insert_job.plain h.0 h.1 in
      let done = inserts our_tables unreferred schema.jobs.name 0 schema.jobs.columns schema.jobs.key schema.jobs.primary schema.jobs.uniques schema.jobs.orders schema.jobs.checks 0 refl old new means.schema (job_shown f) _ h.0
      job_terms 21 (job_row f) (job_row f) refl (ap (with_rowid Chosen (old.now.trees jobs_tree)) (stored_job f)) ran in
      let row : row_of (job_of f) ≡ job_row f = ap job_row (fields_back f) in
      let free : is_taken (map row_of m.jobs) (row_of (job_of f)) ≡ false =
      subst (λ r. is_taken (map row_of m.jobs) r ≡ false) (sym row) (subst (λ rows. is_taken rows (job_row f) ≡ false) means.jobs (free_of (old.now.trees jobs_tree) (job_row f) done.fresh)) in
      let now : AreRecords row_of IsLawfulJob (new.now.trees jobs_tree) (placed (λ (j : Job). j.number) (job_of f) m.jobs) = record {
        is = done.rows ∙ ap₂ put_row (sym row) means.jobs ∙ row_placed row_of (λ (j : Job). j.number) (λ j. refl) (job_of f) m.jobs free;
        ordered = subst IsByRowid (sym done.rows) (by_rowid_put (job_row f) (old.now.trees jobs_tree) refl means.ordered.jobs);
        lawful = all_placed row_of (λ (j : Job). j.number) (λ j. refl) IsLawfulJob (job_of f) m.jobs lawful means.lawful.jobs;
      } in
      let apart = λ (y : Job) (has : Has m.jobs y). untaken row_of (λ (j : Job). j.number) (λ j. refl) (job_of f) m.jobs free y has in
      let put = jobs_changed old new m (open_grants m) (calls_of m) k (parts_of old.now m k means) done.keeps (placed (λ (j : Job). j.number) (job_of f) m.jobs) now in
      let after = with_placed (job_of f) m in (
        means_of new.now after k (jobs_placed (job_of f) m means.held apart)
            (calls_as new.now after (open_grants after) (calls_of m) (calls_of after) k (λ dial. calls_placed (job_of f) m means.held apart dial) put),
        done.keeps,
      )

  -- a job of a number that none has breaks no rule
  pub job_goes : job_numbered f.job m ≡ None → (e : Error) → Executes INSERT_JOB.now (job_shown f) old new (Err e) → fault_of e ≡ Unavailable
  job_goes free =
      let row : row_of (job_of f) ≡ job_row f = ap job_row (fields_back f) in
      let unused : is_taken (map row_of m.jobs) (row_of (job_of f)) ≡ false = free_row row_of (λ (j : Job). j.number) (λ j. refl) (job_of f) m.jobs free in
      let may = job_may old.now means.schema means.sound f (subst (λ rows. is_taken rows (job_row f) ≡ false) (sym means.jobs) (subst (λ r. is_taken (map row_of m.jobs) r ≡ false) row unused)) in
      no_rule_broken schema.jobs.name 0 schema.jobs.columns schema.jobs.key schema.jobs.primary schema.jobs.uniques schema.jobs.orders schema.jobs.checks 0 refl old means.schema (job_shown f) job_terms 21 (job_row f) (job_row f) refl
      (ap (with_rowid Chosen (old.now.trees jobs_tree)) (stored_job f)) may INSERT_JOB.now insert_job new

-- the job of a lawful record
pub lawful_of_fields : (f : JobFields) → IsLawful f → IsFormed f → IsLawfulJob (job_of f)
lawful_of_fields f limits formed = record {
  formed = subst IsFormed (sym (fields_back f)) formed;
  limits = subst IsLawful (sym (fields_back f)) limits;
  pages = let low = sent_low f limits in
      ap (λ from. pages_to f.npages ++ range_with_len from (f.totpages - f.npages)) (let e : f.npages + 1 ≡ 1 + f.npages = omega arith in e)
      ∙ range_split 1 f.npages (f.totpages - f.npages)
      ∙ ap (range_with_len 1) (let e : f.npages + (f.totpages - f.npages) ≡ f.totpages = omega arith in e);
}

-- ---- one job

-- what a change sets is of its form, and the numbers are within their limits
pub record IsFormedChange (f : JobFields) : Type 0 where
  pub modem : IsText IsName f.modem
  pub jobtag : IsText IsJobTag f.jobtag
  pub status : IsText IsStatus f.status
  pub tts : f.tts ≤ 4102444800
  pub killtime : unwrap_or f.killtime 0 ≤ 4102444800
  pub priority : f.priority < 256
  pub limits : IsLawful f

-- The job of these fields and lines: in the place of the one with its number, which is of the same order.
module _ (f : JobFields) (lines : List Pair) where
  abbrev whole : JobFields
  whole = record f { extra = lines }

  abbrev put : Job → Job
  put x = if x.number == f.job then job_of whole else x

  record KeepsOrder (x : Job) : Type 0 where
    pub order : IsSameOrder x (job_of f)
    pub extra : x.extra ≡ lines

  -- the row of a job of the same order, as it is written
  written : (x : Job) → x.number ≡ f.job → KeepsOrder x → cast_row schema.jobs (drop 1 (show jobs_tree job_tests change_project (change_params f) (row_of x))) ≡ job_row whole
  written x is same = rw (is, same.order.dial, same.order.totpages, same.extra) (stored_job whole)

  -- a job that is put in place keeps its number
  same_number : (x : Job) → (put x).number ≡ x.number
  same_number x = cond_both (x.number == f.job) (job_of whole) x (λ y. y.number ≡ x.number) (λ same. sym (eqb-true x.number f.job same)) (λ _. refl)

  -- each job stays lawful under a change of its form, whether it changes or not
  put_lawful : IsFormedChange f → (x : Job) → (x.number ≡ f.job → KeepsOrder x) → IsLawfulJob x → IsLawfulJob (put x)
  put_lawful lawful x keeps was = cond_both (x.number == f.job) (job_of whole) x IsLawfulJob (λ here.
      let same = keeps (eqb-true x.number f.job here) in
      lawful_of_fields whole (ap₂ ◌&&◌ (and_parts _ _ lawful.limits).0 (subst (λ e. IsTrue (are_unknown e)) same.extra (and_parts _ _ was.limits).1)) (record {
        dial = subst (IsText IsCanonical) same.order.dial was.formed.dial;
        modem = lawful.modem;
        jobtag = lawful.jobtag;
        status = lawful.status;
        extra = subst ArePairs same.extra was.formed.extra;
        tts = lawful.tts;
        killtime = lawful.killtime;
        priority = lawful.priority;
      })) (λ _. was)

module _ (f : JobFields) (old new : State) (m : Queue) (k : Ledger) (means : TablesMean old.now m k) where
  abbrev its_lines : List Pair
  its_lines = lines_of (job_numbered f.job m)

  -- the queue's job of this number is of the same order as the change, with the same lines
  keeps_order : IsChange (job_of f) m → (x : Job) → Has m.jobs x → x.number ≡ f.job → KeepsOrder f its_lines x
  keeps_order change x has is =
      let there = subst (λ n. find (λ (j : Job). j.number == n) m.jobs ≡ Some x) is (only_numbered row_of (λ (j : Job). j.number) (λ j. refl) m.jobs x (subst IsTable means.jobs means.ordered.jobs.rise) has) in
      record { order = change x there; extra = sym (ap lines_of there) }

  -- the text that updates a job makes the change, and touches jobs alone
  pub job_changed : IsChange (job_of f) m → IsFormedChange f → HasRun UPDATE_JOB.now (change_params f) old new → TablesMean new.now (with_set (job_of f) m) k × KeepsOthers our_tables jobs_tree old new
  job_changed change lawful h =
      let same = keeps_order change in
      let placed = put f its_lines in
      let is_number = asked_is row_of (λ (j : Job). j.number) (λ j. refl) f.job (passes jobs_tree job_tests change_project (change_params f)) (λ r. refl) in
      let is_other = not_asked row_of (λ (j : Job). j.number) (λ j. refl) f.job (passes jobs_tree job_tests change_project (change_params f)) (λ r. refl) in
      let done = updated schema.jobs.name 0 schema.jobs.columns schema.jobs.key schema.jobs.primary schema.jobs.uniques schema.jobs.orders schema.jobs.checks 0 refl old new means.schema refl means.ordered.jobs
      job_tests change_project (change_params f) (λ r. refl) _ h.0 row_of placed m.jobs means.jobs (λ x. ap number (same_number f its_lines x))
      (λ x has on. let is = is_number x on in written f its_lines x is (same x has is)
      ∙ rw (eq-eqb x.number f.job is) (sym (ap job_row (fields_back (whole f its_lines)))))
      (λ x has off. rw (is_other x off) refl)
      (runs_as UPDATE_JOB.now (change_params f) old new our_tables means.schema _ update_job.is update_job.plain h.0 h.1) in
      let now : AreRecords row_of IsLawfulJob (new.now.trees jobs_tree) (map placed m.jobs) = record { is = done.1; ordered = done.2; lawful = all_mapped IsLawfulJob placed m.jobs (λ x has. put_lawful f its_lines lawful x (same x has)) means.lawful.jobs } in
      let after = with_set (job_of f) m in
      let moved = jobs_changed old new m (open_grants m) (calls_of m) k (parts_of old.now m k means) done.0 (map placed m.jobs) now in (
        means_of new.now after k (jobs_mapped placed m (same_number f its_lines) means.held)
            (calls_as new.now after (open_grants after) (calls_of m) (calls_of after) k
            (λ dial. calls_mapped placed m (same_number f its_lines) dial
            (λ x has. cond_both (x.number == f.job) (job_of (whole f its_lines)) x (λ y. y.dial ≡ x.dial)
            (λ here. sym (same x has (eqb-true x.number f.job here)).order.dial) (λ _. refl))) moved),
        done.0,
      )

-- ---- all jobs of a phase whose kill time is past

module _ (phase : Phase) (t : ℕ) where
  abbrev pub expired_params : Row
  expired_params = number t ∷ number (phase_number phase) ∷ []

  -- a kill time is past where it is not 0 and at most this moment
  past : (killtime : Option ℕ) → (nat_le 1 (unwrap_or killtime 0) && (nat_le (unwrap_or killtime 0) t && true)) ≡ is_past killtime t
  past None = refl
  past (Some s) = ap (λ b. nat_le 1 s && b) (and-true (nat_le s t))

  abbrev expires_here : Job → Bool
  expires_here j = is_expired phase t (Some j)

  -- the jobs that pass are those that expire
  expiring : (j : Job) → passes jobs_tree expired_tests expired_project expired_params (row_of j) ≡ expires_here j
  expiring j =
      ap₂ ◌&&◌ (is_number (phase_number j.phase) (phase_number phase))
      (ap₂ ◌&&◌ (at_least (unwrap_or j.killtime 0) 1) (ap (λ b. b && true) (at_most (unwrap_or j.killtime 0) t)) ∙ past j.killtime)

  abbrev expired : Job → Job
  expired j = record j { phase = Failed; status = kill_time_expired }

  -- a job keeps its number, whether it expires or not
  number_kept : (j : Job) → (expired_in phase t j).number ≡ j.number
  number_kept j = cond_both (expires_here j) (expired j) j (λ i. i.number ≡ j.number) (λ _. refl) (λ _. refl)

  -- the status of a job whose kill time is past is UTF-8
  expired_text : IsUtf8 kill_time_expired
  unfolding lib.Utf8.encode
  expired_text = (kill_time_expired, (refl, refl))

  -- a lawful job stays lawful, whether it expires or not
  expired_lawful : (j : Job) → IsLawfulJob j → IsLawfulJob (expired_in phase t j)
  expired_lawful j was = cond_both (expires_here j) (expired j) j IsLawfulJob (λ _. record {
    formed = record {
      dial = was.formed.dial;
      modem = was.formed.modem;
      jobtag = was.formed.jobtag;
      status = record { formed = refl; utf8 = expired_text };
      extra = was.formed.extra;
      tts = was.formed.tts;
      killtime = was.formed.killtime;
      priority = was.formed.priority;
    };
    limits = was.limits;
    pages = was.pages;
  }) (λ _. was)

  module _ (old new : State) (m : Queue) (k : Ledger) (means : TablesMean old.now m k) where
    module _ (rows : List Row) (h : Shown SELECT_EXPIRED.now expired_params old new rows) where
      abbrev pub asks : Row → Bool
      asks = passes jobs_tree expired_tests number_project expired_params

      abbrev pub tells : Row → Row
      tells = show jobs_tree expired_tests number_project expired_params

      -- the rows that are shown are those of jobs that expire
      shows : IsPermutation (map tells (filter asks (old.now.trees jobs_tree))) rows
      shows = answers jobs_tree expired_tests number_project expired_params old.now (old.now.trees jobs_tree) refl [] rows
          (reads_as SELECT_EXPIRED.now expired_params old new our_tables means.schema _ select_expired.command select_expired.plain select_expired.unlisted rows h)

      -- each is the number of such a job
      of_job : (r : Row) → Has rows r → (j : Job) × Has m.jobs j × (expires_here j ≡ true) × (r ≡ number j.number ∷ [])
      of_job r has =
          let one = shown_one asks tells (old.now.trees jobs_tree) rows shows r has in
          let it = has_mapped row_of m.jobs one.0 (subst (λ table. Has table one.0) means.jobs one.1) in
          (it.0, it.1, sym (expiring it.0) ∙ subst (λ s. asks s ≡ true) it.2 one.2, one.3 ∙ ap tells it.2)

      abbrev pub their_numbers : List ℕ
      their_numbers = numbers_in rows

      -- one of the numbers is that of a job that expires
      among_expires : (n : ℕ) → is_among their_numbers n ≡ true → is_expired phase t (job_numbered n m) ≡ true
      among_expires n on =
          let found = some_has (λ other. n == other) their_numbers on in
          let row = has_mapped number_first rows found.0 found.1 in
          let job = of_job row.0 row.1 in
          let same : n ≡ (job.0).number = eqb-true n found.0 found.2 ∙ row.2 ∙ ap number_first job.3 in
          let there = only_numbered row_of (λ (j : Job). j.number) (λ j. refl) m.jobs job.0 (subst IsTable means.jobs means.ordered.jobs.rise) job.1 in
          subst (λ (o : Option Job). is_expired phase t o ≡ true) (sym (subst (λ (i : ℕ). job_numbered i m ≡ Some job.0) (sym same) there)) job.2

      -- and that of each job that expires is one of them
      expires_among : (n : ℕ) (o : Option Job) → job_numbered n m ≡ o → is_expired phase t o ≡ true → is_among their_numbers n ≡ true
      expires_among n None is on = cc
      expires_among n (Some j) is on =
          let has = (has_found (λ (k : Job). k.number == n) m.jobs j is).0 in
          let table = subst (λ table. Has table (row_of j)) (sym means.jobs) (mapped_has row_of m.jobs j has) in
          let shown_row = one_shown asks tells (old.now.trees jobs_tree) rows shows (row_of j) table (expiring j ∙ on) in
          some_from (λ other. n == other) their_numbers j.number (mapped_has number_first rows (tells (row_of j)) shown_row)
          (eq-eqb n j.number (sym (number_found (λ (k : Job). k.number) n m.jobs j is)))

      -- so the numbers that are shown are those of the jobs that expire
      pub expired_shown : (numbers : List ℕ) × (rows ≡ map (λ n. number n ∷ []) numbers) × ((n : ℕ) → is_among numbers n ≡ is_expired phase t (job_numbered n m))
      expired_shown = (
        their_numbers,
        numbered_rows rows (λ r has. let it = of_job r has in ((it.0).number, it.3)),
        λ n. both_ways_equal (is_among their_numbers n) (is_expired phase t (job_numbered n m)) (among_expires n) (expires_among n (job_numbered n m) refl),
      )

    -- where no job of a number expires, none does
    pub none_expired : ((n : ℕ) → is_expired phase t (job_numbered n m) ≡ false) → with_expired_in phase t m ≡ m
    none_expired none =
        ap₂ (λ (jobs : List Job) (times : List Times). record m { jobs = jobs; times = times })
        (unmoved (expired_in phase t) m.jobs (λ j has.
        let there = only_numbered row_of (λ (k : Job). k.number) (λ k. refl) m.jobs j (subst IsTable means.jobs means.ordered.jobs.rise) has in
        let off : expires_here j ≡ false = ap (is_expired phase t) (sym there) ∙ none j.number in
        ap (λ b. if b then expired j else j) off))
        (ends_none t (λ n. is_expired phase t (job_numbered n m)) m.times none)

    -- the text that expires jobs of a phase does so to each, and touches jobs alone
    pub jobs_expired : HasRun EXPIRE_JOBS.now expired_params old new → TablesMean new.now (with_failed_in phase t m) k × KeepsOthers our_tables jobs_tree old new
    jobs_expired h =
        let ran = runs_as EXPIRE_JOBS.now expired_params old new our_tables means.schema _ expire_jobs.is expire_jobs.plain h.0 h.1 in
        let done = updated schema.jobs.name 0 schema.jobs.columns schema.jobs.key schema.jobs.primary schema.jobs.uniques schema.jobs.orders schema.jobs.checks 0 refl old new means.schema refl means.ordered.jobs
        expired_tests expired_project expired_params (λ r. refl) _ h.0 row_of (expired_in phase t) m.jobs means.jobs
        (λ j. cond_both (expires_here j) (expired j) j (λ i. rowid (row_of i) ≡ rowid (row_of j)) (λ _. refl) (λ _. refl))
        (λ j has on. stored_job (fields_of (expired j)) ∙ rw (sym (expiring j) ∙ on) refl)
        (λ j has off. rw (sym (expiring j) ∙ off) refl)
        ran in
        let now : AreRecords row_of IsLawfulJob (new.now.trees jobs_tree) (map (expired_in phase t) m.jobs) = record { is = done.1; ordered = done.2; lawful = all_mapped IsLawfulJob (expired_in phase t) m.jobs (λ j has. expired_lawful j) means.lawful.jobs } in
        let after = with_failed_in phase t m in
        let moved = jobs_changed old new m (open_grants m) (calls_of m) k (parts_of old.now m k means) done.0 (map (expired_in phase t) m.jobs) now in (
          means_of new.now after k (jobs_mapped (expired_in phase t) m number_kept means.held)
              (calls_as new.now after (open_grants after) (calls_of m) (calls_of after) k (λ dial. calls_mapped (expired_in phase t) m number_kept dial (λ j has. cond_both (expires_here j) (expired j) j (λ i. i.dial ≡ j.dial) (λ _. refl) (λ _. refl))) moved),
          done.0,
        )

  -- where those that expire have ended, they fail
  pub expired_by : (m : Queue) (numbers : List ℕ) → ((n : ℕ) → is_among numbers n ≡ is_expired phase t (job_numbered n m)) → with_failed_in phase t (with_ends t (is_among numbers) m) ≡ with_expired_in phase t m
  expired_by m numbers same =
      ap (λ (xs : List Times). with_failed_in phase t (record m { times = xs })) (ends_as t (is_among numbers) (λ n. is_expired phase t (job_numbered n m)) m.times same)

-- ---- the jobs that are held, and then those that wait, are all that expire

-- what ages is in one of the two phases
either : (phase : Phase) (past : Bool) → (expires phase && past) ≡ ((phase_number phase == 0 && past) || (phase_number phase == 1 && past))
either Held true = refl
either Held false = refl
either _ past = refl

-- expired while held and then while it waits, a job has aged by the moment
expired_once : (t : ℕ) (j : Job) → expired_in Waiting t (expired_in Held t j) ≡ aged_job t j
expired_once t j = elim (cases_Bool (phase_number j.phase == 0 && is_past j.killtime t))
    [ inl e ↦ rw (either j.phase (is_past j.killtime t), e) refl | inr e ↦ rw (either j.phase (is_past j.killtime t), e) refl ]

-- a job that expires in one of them, ends
ends_by : (t : ℕ) (j : Job) (p : Phase) (b : Bool) → j.phase ≡ p → is_past j.killtime t ≡ b
    → (is_expired Held t (Some j) || is_expired Waiting t (Some (expired_in Held t j))) ≡ ends (Some j) (Some (aged_job t j))
ends_by t j Held true is on = rw (is, on) refl
ends_by t j Held false is on = rw (is, on) refl
ends_by t j Waiting true is on = rw (is, on) refl
ends_by t j Waiting false is on = rw (is, on) refl
ends_by t j Granted b is on = rw is refl
ends_by t j Done b is on = rw is refl
ends_by t j Failed b is on = rw is refl

ends_so : (t : ℕ) (o : Option Job) → (is_expired Held t o || is_expired Waiting t (option_map (expired_in Held t) o)) ≡ ends o (option_map (aged_job t) o)
ends_so t None = refl
ends_so t (Some j) = ends_by t j j.phase (is_past j.killtime t) refl refl

-- expired while held and then while they wait, all jobs have expired that do
pub expired_in_turn : (t : ℕ) (m : Queue) → with_expired_in Waiting t (with_expired_in Held t m) ≡ with_expired t m
expired_in_turn t m = ap₂ (λ (jobs : List Job) (times : List Times). record m { jobs = jobs; times = times }) (all m.jobs) times
  where
    all : (jobs : List Job) → map (expired_in Waiting t) (map (expired_in Held t) jobs) ≡ map (aged_job t) jobs
    all [] = refl
    all (j ∷ jobs) = ap₂ (λ i is. i ∷ is) (expired_once t j) (all jobs)

    after : Queue
    after = record m { jobs = map (aged_job t) m.jobs }

    held : Queue
    held = with_expired_in Held t m

    first : (n : ℕ) → job_numbered n held ≡ option_map (expired_in Held t) (job_numbered n m)
    first n = find_map (λ (j : Job). j.number == n) (expired_in Held t) (λ j. ap (λ (a : ℕ). a == n) (number_kept Held t j)) m.jobs

    last : (n : ℕ) → job_numbered n after ≡ option_map (aged_job t) (job_numbered n m)
    last n = find_map (λ (j : Job). j.number == n) (aged_job t) (λ j. ap (λ (a : ℕ). a == n) (aged_number t j)) m.jobs

    times : map (ended_where t (λ n. is_expired Waiting t (job_numbered n held))) (map (ended_where t (λ n. is_expired Held t (job_numbered n m))) m.times) ≡ (stamp t m after).times
    times =
        ends_twice t (λ n. is_expired Held t (job_numbered n m)) (λ n. is_expired Waiting t (job_numbered n held)) m.times
        ∙ sym (times_after t m after (λ n. is_expired Held t (job_numbered n m) || is_expired Waiting t (job_numbered n held)) (length_map (aged_job t) m.jobs)
        (λ n. ap (ends (job_numbered n m)) (last n) ∙ sym (ends_so t (job_numbered n m)) ∙ ap (λ (o : Option Job). is_expired Held t (job_numbered n m) || is_expired Waiting t o) (sym (first n))))
