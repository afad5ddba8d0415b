-- What the queries mean, and what a pass over their rows decides: a row is as it has to be just where it shows what it has to.
use Rattle.std.proofs.Common.{◌≡◌, ℕ, ℤ, List, [], ◌∷◌, All, Option, Some, None, drop, map, IsTrue, inl, refl, sym, ap, ap₂, subst, ◌∙◌, arith, codes}
use Rattle.std.proofs.lemmas.List.Sorted.{IsPermutation-sym}
use Rattle.sqlite.specs.Effect.{Database}
use Rattle.sqlite.specs.Edit.{id_in}
use Rattle.sqlite.specs.Order.{Row, column}
use Rattle.sqlite.specs.Program.{overlay}
use Rattle.sqlite.specs.State.{State, Shown}
use Rattle.sqlite.specs.Query.{or_nulls}
use Rattle.sqlite.specs.Tree.{rowid}
use Rattle.sqlite.specs.View.{is_int}
use Rattle.sqlite.specs.declared.types.Value.TheVariants.{Int, Null, Text}
use Rattle.sqlite_rules.specs.Lists.{Has}
use Rattle.sqlite_rules.proofs.ListLemmas.{all_has, has_right}
use Rattle.sqlite_rules.proofs.TableLemmas.{int_is}
use Rattle.sqlite_sql.specs.Term.{Term, col, eval_all}
use Rattle.sqlite_trees.specs.Tree.{Trees}
use Rattle.fax_check.specs.Check.{AreChecked, IsTableChecked, flaw_in}
use Rattle.fax_check.specs.Pass.{IsPassed, Names, rowid_at}
use Rattle.fax_check.specs.Whole.{Holder, IsCallRow, IsDownRow, IsFloorRow, IsGrantRow, IsJobRow, IsOwned, IsReplyRow, IsTimed, IsTimesRow, HasInteger, IsRightRow, Shows, ShowsCall, ShowsFloor, ShowsGrant, ShowsJob, ShowsName, ShowsReply, ShowsTimes, table_of, text_of}
use Rattle.fax_check.specs.Sound.{IsStored}
use Rattle.fax_check.specs.declared.tables.Query.{Query}
use Rattle.fax_check.specs.declared.tables.Query.TheVariants.{Calls, Down, Floors, Grants, Jobs, Owned, Replies, Timed, Times}
use Rattle.fax_check.proofs.BridgeLemmas as bridge
use Rattle.fax_check.proofs.BridgeLemmas.{at_is, five, two, unshown_grant, unshown_job}
use Rattle.fax_check.proofs.FieldLemmas.{numbers}
use Rattle.fax_check.proofs.JoinLemmas.{each_joined, joined_query, only_partner, partner_there, partners, row_joined}
use Rattle.fax_check.proofs.ShapeLemmas as shape
use Rattle.fax_schema.proofs.GrantTexts.{grant_names, grant_project}
use Rattle.fax_layout.proofs.EditLemmas.{has_mapped, has_permuted}
use Rattle.fax_layout.proofs.SelectLemmas.{show}
use Rattle.fax_layout.specs.ByRowid.{IsByRowid}
use Rattle.fax_schema.proofs.StatementForms.{Selects, SelectsAll}
use Rattle.fax_schema.proofs.StatementTexts.{job_names, job_project}
use Rattle.fax_schema.specs.Schema as schema
use Rattle.fax_schema.specs.Schema.{calls_tree, down_tree, floors_tree, grants_tree, jobs_tree, replies_tree, holds_tree, times_tree}
use Rattle.fax_tables.specs.Row.{HasValue, entry_columns, number}
use Rattle.fax_tables.specs.declared.meta.Meta.{Meta}
use Rattle.fax_core.specs.Queue.{Entry}
use Rattle.sqlite.specs.Listing.{understood}
use Rattle.sqlite_tied.specs.Compute.{everything}
use Rattle.fax_check.specs.declared.tables.TheConstants.{SELECT_ALL_JOBS, SELECT_ALL_GRANTS, SELECT_ALL_HOLDS, SELECT_ALL_DOWN, SELECT_ALL_REPLIES, SELECT_ALL_FLOORS, SELECT_ALL_CALLS, SELECT_ALL_TIMES, SELECT_ALL_TIMED, SELECT_ALL_OWNED}
use Rattle.fax_store.specs.Store.{IsQueryText}

-- ---- what the queries mean

pub select_all_jobs : Selects SELECT_ALL_JOBS.now jobs_tree [] job_project job_names
unfolding understood everything
select_all_jobs = record { command = refl; plain = (refl, refl); unlisted = refl }

pub select_all_grants : Selects SELECT_ALL_GRANTS.now grants_tree [] grant_project grant_names
unfolding understood everything
select_all_grants = record { command = refl; plain = (refl, refl); unlisted = refl }

abbrev pub all_holds_project : List Term
all_holds_project = col 1 1 ∷ col 1 2 ∷ col 1 3 ∷ col 1 0 ∷ []

pub select_all_holds : Selects SELECT_ALL_HOLDS.now holds_tree [] all_holds_project (codes "modem" ∷ codes "job" ∷ codes "id" ∷ codes "rowid" ∷ [])
unfolding understood everything
select_all_holds = record { command = refl; plain = (refl, refl); unlisted = refl }

abbrev pub all_down_project : List Term
all_down_project = col 1 1 ∷ col 1 0 ∷ []

pub select_all_down : Selects SELECT_ALL_DOWN.now down_tree [] all_down_project (codes "modem" ∷ codes "rowid" ∷ [])
unfolding understood everything
select_all_down = record { command = refl; plain = (refl, refl); unlisted = refl }

abbrev pub all_replies_project : List Term
all_replies_project = col 1 1 ∷ col 1 2 ∷ col 1 3 ∷ col 1 4 ∷ col 1 5 ∷ col 1 0 ∷ []

pub select_all_replies : Selects SELECT_ALL_REPLIES.now replies_tree [] all_replies_project (codes "client" ∷ codes "number" ∷ codes "said" ∷ codes "status" ∷ codes "body" ∷ codes "rowid" ∷ [])
unfolding understood everything
select_all_replies = record { command = refl; plain = (refl, refl); unlisted = refl }

abbrev pub all_floors_project : List Term
all_floors_project = col 1 1 ∷ col 1 2 ∷ col 1 0 ∷ []

pub select_all_floors : Selects SELECT_ALL_FLOORS.now floors_tree [] all_floors_project (codes "client" ∷ codes "upto" ∷ codes "rowid" ∷ [])
unfolding understood everything
select_all_floors = record { command = refl; plain = (refl, refl); unlisted = refl }

abbrev pub all_calls_project : List Term
all_calls_project = col 1 1 ∷ col 1 2 ∷ col 1 0 ∷ []

pub select_all_calls : Selects SELECT_ALL_CALLS.now calls_tree [] all_calls_project (codes "dial" ∷ codes "open" ∷ codes "rowid" ∷ [])
unfolding understood everything
select_all_calls = record { command = refl; plain = (refl, refl); unlisted = refl }

abbrev pub all_times_project : List Term
all_times_project = col 1 0 ∷ col 1 2 ∷ col 1 3 ∷ col 2 18 ∷ []

pub select_all_times : SelectsAll SELECT_ALL_TIMES.now (joined_query 0 times_tree jobs_tree all_times_project) (codes "job" ∷ codes "submitted" ∷ codes "ended" ∷ codes "phase" ∷ [])
unfolding understood everything
select_all_times = record { command = refl; plain = (refl, refl); unlisted = refl }

abbrev pub all_timed_project : List Term
all_timed_project = col 1 0 ∷ col 2 0 ∷ []

pub select_all_timed : SelectsAll SELECT_ALL_TIMED.now (joined_query 0 jobs_tree times_tree all_timed_project) (codes "job" ∷ codes "job" ∷ [])
unfolding understood everything
select_all_timed = record { command = refl; plain = (refl, refl); unlisted = refl }

abbrev pub all_owned_project : List Term
all_owned_project = col 1 0 ∷ col 2 0 ∷ []

pub select_all_owned : SelectsAll SELECT_ALL_OWNED.now (joined_query 2 grants_tree jobs_tree all_owned_project) (codes "id" ∷ codes "job" ∷ [])
unfolding understood everything
select_all_owned = record { command = refl; plain = (refl, refl); unlisted = refl }

-- each query only reads
pub is_query : (query : Query) → IsQueryText (text_of query)
is_query Jobs = select_all_jobs.plain
is_query Grants = select_all_grants.plain
is_query Times = select_all_times.plain
is_query Timed = select_all_timed.plain
is_query Owned = select_all_owned.plain
is_query Down = select_all_down.plain
is_query Replies = select_all_replies.plain
is_query Floors = select_all_floors.plain
is_query Calls = select_all_calls.plain

-- ---- a row of each table

module _ (db : Database) (stored : IsStored db) (meta : Meta) (held : List Holder) (r : Row) where
  -- a job's
  pub job_is : Has (db.trees jobs_tree) r → ShowsJob meta held (show jobs_tree [] job_project [] r) → IsJobRow meta held r
  job_is has it = record { job = it.job; is = shape.job_columns_of db stored r has ∙ ap unshown_job it.is; lawful = it.lawful; before = it.before; stands = it.stands }

  pub job_shows : IsJobRow meta held r → ShowsJob meta held (show jobs_tree [] job_project [] r)
  job_shows it = record { job = it.job; is = ap (show jobs_tree [] job_project []) it.is; lawful = it.lawful; before = it.before; stands = it.stands }

  -- a grant's
  pub grant_is : Has (db.trees grants_tree) r → ShowsGrant meta held (show grants_tree [] grant_project [] r) → IsGrantRow meta held r
  grant_is has it = record { grant = it.grant; is = shape.grant_columns_of db stored r has ∙ ap unshown_grant it.is; lawful = it.lawful; before = it.before; is_held = it.is_held }

  pub grant_shows : IsGrantRow meta held r → ShowsGrant meta held (show grants_tree [] grant_project [] r)
  grant_shows it = record { grant = it.grant; is = ap (show grants_tree [] grant_project []) it.is; lawful = it.lawful; before = it.before; is_held = it.is_held }

  -- that of a modem that is down
  pub down_is : Has (db.trees down_tree) r → ShowsName (show down_tree [] all_down_project [] r) 0 → IsDownRow r
  down_is has it = (it.0, ap (drop 1) (shape.free_columns db stored r schema.down 3 refl refl (omega arith) refl has) ∙ ap (λ v. v ∷ []) it.1.is, it.2)

  pub down_shows : IsDownRow r → ShowsName (show down_tree [] all_down_project [] r) 0
  down_shows it = (it.0, record { within = omega arith; is = at_is r 0 (Text it.0 ∷ []) it.1 }, it.2)

  -- a reply's
  pub reply_is : Has (db.trees replies_tree) r → ShowsReply (show replies_tree [] all_replies_project [] r) → IsReplyRow r
  reply_is has it =
      let blobs = shape.reply_blobs db stored r has in
      let e : Entry = record { client = it.client.0; number = it.number.0; said = blobs.0; status = it.status.0; body = blobs.1 } in (
        e,
        ap (drop 1) (shape.reply_columns_of db stored r has) ∙ five it.client.1.is it.number.1.is blobs.2 it.status.1.is blobs.3,
        record { client = it.client.2; number = (it.number.2, it.number.3); status = it.status.2 },
      )

  pub reply_shows : IsReplyRow r → ShowsReply (show replies_tree [] all_replies_project [] r)
  reply_shows it = record {
    client = (it.0.client, record { within = omega arith; is = at_is r 0 (entry_columns it.0) it.1 }, it.2.client);
    number = (it.0.number, record { within = omega arith; is = at_is r 1 (entry_columns it.0) it.1 }, it.2.number.0, it.2.number.1);
    status = (it.0.status, record { within = omega arith; is = at_is r 3 (entry_columns it.0) it.1 }, it.2.status);
  }

  -- a floor's
  pub floor_is : Has (db.trees floors_tree) r → ShowsFloor (show floors_tree [] all_floors_project [] r) → IsFloorRow r
  floor_is has it = (it.client.0, it.upto.0, ap (drop 1) (shape.free_columns db stored r schema.floors 6 refl refl (omega arith) refl has) ∙ two it.client.1.is it.upto.1.is, it.client.2, it.upto.2, it.upto.3)

  pub floor_shows : IsFloorRow r → ShowsFloor (show floors_tree [] all_floors_project [] r)
  floor_shows it = record {
    client = (it.0, record { within = omega arith; is = at_is r 0 (Text it.0 ∷ number it.1 ∷ []) it.2 }, it.3);
    upto = (it.1, record { within = omega arith; is = at_is r 1 (Text it.0 ∷ number it.1 ∷ []) it.2 }, it.4, it.5);
  }

  -- and that of a number that is dialed
  pub call_is : Has (db.trees calls_tree) r → ShowsCall held (show calls_tree [] all_calls_project [] r) → IsCallRow held r
  call_is has it = (it.0, it.1, ap (drop 1) (shape.call_columns_of db stored r has) ∙ two it.2.is it.3.is)

  pub call_shows : IsCallRow held r → ShowsCall held (show calls_tree [] all_calls_project [] r)
  call_shows it = (it.0, it.1, record { within = omega arith; is = at_is r 0 _ it.2 }, record { within = omega arith; is = at_is r 1 _ it.2 })

-- ---- times and jobs

module _ (db : Database) (stored : IsStored db) (meta : Meta) (r : Row) where
  of_times : Has (db.trees times_tree) r → IsTrue (is_int (rowid r))
  of_times has = all_has (λ x. IsTrue (is_int (rowid x))) (db.trees times_tree) r stored.ordered.times.integers has

  -- times, with the job that is joined to them
  times_are : Has (db.trees times_tree) r → (found : List Row) → partners 0 (db.trees jobs_tree) r ≡ found → ((s : Row) → Has (or_nulls found) s → ShowsTimes meta (eval_all all_times_project ([] ∷ r ∷ s ∷ []))) → IsTimesRow meta db r
  times_are has [] none shows = absurd (let it = (shows [] (inl refl)).ended.in_phase.is in cc)
  times_are has (s ∷ more) are shows =
      let it = shows s (inl refl) in
      let job = partner_there 0 (db.trees jobs_tree) stored.ordered.jobs r (of_times has) s (subst (λ all. Has all s) (sym are) (inl refl)) in
      record {
        submitted = it.submitted.0;
        ended = it.ended.ended.0;
        is = shape.times_columns_of db stored r has ∙ ap₂ (λ a b. column r 0 ∷ Null ∷ a ∷ b ∷ []) it.submitted.1.is it.ended.ended.1.is;
        past = (it.submitted.2, it.ended.ended.2);
        job = s;
        has_job = job.0;
        its = job.1;
        phase = it.ended.phase;
        in_phase = it.ended.in_phase.is;
        not_over = λ low. numbers it.ended.ended.0 0 (sym it.ended.ended.1.is ∙ (it.ended.not_over low).is);
      }

  pub times_is : Has (db.trees times_tree) r → ((s : Row) → Has (or_nulls (partners 0 (db.trees jobs_tree) r)) s → ShowsTimes meta (eval_all all_times_project ([] ∷ r ∷ s ∷ []))) → IsTimesRow meta db r
  times_is has shows = times_are has (partners 0 (db.trees jobs_tree) r) refl shows

  pub times_shows : Has (db.trees times_tree) r → IsTimesRow meta db r → (s : Row) → Has (or_nulls (partners 0 (db.trees jobs_tree) r)) s → ShowsTimes meta (eval_all all_times_project ([] ∷ r ∷ s ∷ []))
  times_shows has it s joined =
      let same = only_partner 0 (db.trees jobs_tree) stored.ordered.jobs r (of_times has) it.job it.has_job it.its s joined in
      let ended : column r 3 ≡ number it.ended = ap (λ row. column row 3) it.is in
      record {
        submitted = (it.submitted, record { within = omega arith; is = ap (λ row. column row 2) it.is }, it.past.0);
        ended = record {
          ended = (it.ended, record { within = omega arith; is = ended }, it.past.1);
          phase = it.phase;
          in_phase = record { within = omega arith; is = ap (λ row. column row 18) same ∙ it.in_phase };
          not_over = λ low. record { within = omega arith; is = ended ∙ ap number (it.not_over low) };
        };
      }

-- ---- jobs and times, grants and jobs

module _ (db : Database) (stored : IsStored db) (r : Row) where
  of_jobs : Has (db.trees jobs_tree) r → IsTrue (is_int (rowid r))
  of_jobs has = all_has (λ x. IsTrue (is_int (rowid x))) (db.trees jobs_tree) r stored.ordered.jobs.integers has

  -- a job, with the times that are joined to it
  timed_by : Has (db.trees jobs_tree) r → (found : List Row) → partners 0 (db.trees times_tree) r ≡ found → ((s : Row) → Has (or_nulls found) s → HasInteger (eval_all all_timed_project ([] ∷ r ∷ s ∷ [])) 1) → IsTimed db r
  timed_by has [] none shows = absurd (let it = (shows [] (inl refl)).1.is in cc)
  timed_by has (s ∷ more) are shows =
      let times = partner_there 0 (db.trees times_tree) stored.ordered.times r (of_jobs has) s (subst (λ all. Has all s) (sym are) (inl refl)) in
      (s, times.0, times.1)

  pub timed_is : Has (db.trees jobs_tree) r → ((s : Row) → Has (or_nulls (partners 0 (db.trees times_tree) r)) s → HasInteger (eval_all all_timed_project ([] ∷ r ∷ s ∷ [])) 1) → IsTimed db r
  timed_is has shows = timed_by has (partners 0 (db.trees times_tree) r) refl shows

  pub timed_shows : Has (db.trees jobs_tree) r → IsTimed db r → (s : Row) → Has (or_nulls (partners 0 (db.trees times_tree) r)) s → HasInteger (eval_all all_timed_project ([] ∷ r ∷ s ∷ [])) 1
  timed_shows has it s joined =
      let same = only_partner 0 (db.trees times_tree) stored.ordered.times r (of_jobs has) it.0 it.1 it.2 s joined in
      (id_in (rowid r), record { within = omega arith; is = ap (λ row. column row 0) same ∙ it.2 ∙ int_is (rowid r) (of_jobs has) })

  -- the number of a grant's job is an integer
  of_grants : Has (db.trees grants_tree) r → IsTrue (is_int (column r 2))
  of_grants has = shape.grant_job db stored r has

  -- a grant, with the job that is joined to it
  owned_by : Has (db.trees grants_tree) r → (found : List Row) → partners 2 (db.trees jobs_tree) r ≡ found → ((s : Row) → Has (or_nulls found) s → HasInteger (eval_all all_owned_project ([] ∷ r ∷ s ∷ [])) 1) → IsOwned db r
  owned_by has [] none shows = absurd (let it = (shows [] (inl refl)).1.is in cc)
  owned_by has (s ∷ more) are shows =
      let job = partner_there 2 (db.trees jobs_tree) stored.ordered.jobs r (of_grants has) s (subst (λ all. Has all s) (sym are) (inl refl)) in
      (s, job.0, job.1)

  pub owned_is : Has (db.trees grants_tree) r → ((s : Row) → Has (or_nulls (partners 2 (db.trees jobs_tree) r)) s → HasInteger (eval_all all_owned_project ([] ∷ r ∷ s ∷ [])) 1) → IsOwned db r
  owned_is has shows = owned_by has (partners 2 (db.trees jobs_tree) r) refl shows

  pub owned_shows : Has (db.trees grants_tree) r → IsOwned db r → (s : Row) → Has (or_nulls (partners 2 (db.trees jobs_tree) r)) s → HasInteger (eval_all all_owned_project ([] ∷ r ∷ s ∷ [])) 1
  owned_shows has it s joined =
      let same = only_partner 2 (db.trees jobs_tree) stored.ordered.jobs r (of_grants has) it.0 it.1 it.2 s joined in
      (id_in (column r 2), record { within = omega arith; is = ap (λ row. column row 0) same ∙ it.2 ∙ int_is (column r 2) (of_grants has) })

-- ---- what a pass decides

-- where each row that is shown comes of one of the table, whose rowid it has, and shows what it has to where that is right
passed_checked : (rows table : List Row) (P Q : Row → Type 0) (query : Query) → IsByRowid table → (All P rows → (r : Row) → Has table r → Q r)
    → ((s : Row) → Has rows s → (r : Row) × Has table r × ((n : ℤ) → rowid r ≡ Int n → HasValue s (rowid_at query s) (Int n)) × (Q r → P s))
    → (found : Option ℤ) → IsPassed P (Names query) rows found → AreChecked table Q (table_of query) (flaw_in query found)
passed_checked rows table P Q query by whole comes None all = whole all
passed_checked rows table P Q query by whole comes (Some id) it =
    let from = comes it.first (subst (λ rs. Has rs it.first) (sym it.parts) (has_right it.before (it.first ∷ it.behind) it.first (inl refl))) in
    let int = int_is (rowid from.0) (all_has (λ x. IsTrue (is_int (rowid x))) table from.0 by.integers from.1) in
    (id, refl, record { row = from.0; has = from.1; has_id = int ∙ ap Int (sym (it.named _ (from.2 _ int))); wrong = λ right. it.wrong (from.3 right) })

module _ (old new : State) (db : Database) (stored : IsStored db) (now : old.now ≡ db) (meta : Meta) (held : List Holder) (rows : List Row) where
  module _ (sql : List ℕ) (tree : ℕ) (project : List Term) (names : List (List ℕ)) (selects : Selects sql tree [] project names) (plain : (trees : Trees) → overlay trees [] tree ≡ trees tree)
      (P Q : Row → Type 0) (is : (r : Row) → Has (db.trees tree) r → P (show tree [] project [] r) → Q r) (shows : (r : Row) → Q r → P (show tree [] project [] r)) (shown : Shown sql [] old new rows) where
    of_shown : (s : Row) → Has rows s → (r : Row) × Has (db.trees tree) r × (s ≡ show tree [] project [] r)
    of_shown s has = has_mapped (show tree [] project []) (db.trees tree) s (has_permuted rows (map (show tree [] project []) (db.trees tree)) s
        (IsPermutation-sym (map (show tree [] project []) (db.trees tree)) rows (bridge.all_shown sql tree project names selects plain old new db stored.schema_is now rows shown)) has)

    checked : (query : Query) → ((r : Row) (n : ℤ) → rowid r ≡ Int n → HasValue (show tree [] project [] r) (rowid_at query (show tree [] project [] r)) (Int n)) → IsByRowid (db.trees tree)
        → (found : Option ℤ) → IsPassed P (Names query) rows found → AreChecked (db.trees tree) Q (table_of query) (flaw_in query found)
    checked query at by = passed_checked rows (db.trees tree) P Q query by
        (λ all r has. is r has (bridge.each_shown sql tree project names selects plain old new db stored.schema_is now rows shown P all r has))
        (λ s has. let it = of_shown s has in (it.0, it.1, (λ n int. subst (λ x. HasValue x (rowid_at query x) (Int n)) (sym it.2) (at it.0 n int)), (λ right. subst P (sym it.2) (shows it.0 right))))

  -- what a query checks is as it has to be, or it is told which row isn't
  pub table_checked : (query : Query) (found : Option ℤ) → Shown (text_of query) [] old new rows → IsPassed (Shows meta held query) (Names query) rows found
      → IsTableChecked meta held query db (flaw_in query found)
  table_checked Jobs found shown t =
      checked (text_of Jobs) jobs_tree job_project job_names select_all_jobs (λ trees. refl) (Shows meta held Jobs) (IsRightRow meta held db Jobs) (job_is db stored meta held) (job_shows db stored meta held) shown Jobs
      (λ r n int. record { within = omega arith; is = int }) stored.ordered.jobs found t
  table_checked Grants found shown t =
      checked (text_of Grants) grants_tree grant_project grant_names select_all_grants (λ trees. refl) (Shows meta held Grants) (IsRightRow meta held db Grants) (grant_is db stored meta held) (grant_shows db stored meta held) shown Grants
      (λ r n int. record { within = omega arith; is = int }) stored.ordered.grants found t
  table_checked Down found shown t =
      checked (text_of Down) down_tree all_down_project _ select_all_down (λ trees. refl) (Shows meta held Down) (IsRightRow meta held db Down) (down_is db stored meta held) (down_shows db stored meta held) shown Down
      (λ r n int. record { within = omega arith; is = int }) stored.ordered.down found t
  table_checked Replies found shown t =
      checked (text_of Replies) replies_tree all_replies_project _ select_all_replies (λ trees. refl) (Shows meta held Replies) (IsRightRow meta held db Replies) (reply_is db stored meta held) (reply_shows db stored meta held) shown Replies
      (λ r n int. record { within = omega arith; is = int }) stored.ordered.replies found t
  table_checked Floors found shown t =
      checked (text_of Floors) floors_tree all_floors_project _ select_all_floors (λ trees. refl) (Shows meta held Floors) (IsRightRow meta held db Floors) (floor_is db stored meta held) (floor_shows db stored meta held) shown Floors
      (λ r n int. record { within = omega arith; is = int }) stored.ordered.floors found t
  table_checked Calls found shown t =
      checked (text_of Calls) calls_tree all_calls_project _ select_all_calls (λ trees. refl) (Shows meta held Calls) (IsRightRow meta held db Calls) (call_is db stored meta held) (call_shows db stored meta held) shown Calls
      (λ r n int. record { within = omega arith; is = int }) stored.ordered.calls found t
  table_checked Times found shown t =
      passed_checked rows (db.trees times_tree) (ShowsTimes meta) (IsRightRow meta held db Times) Times stored.ordered.times
      (λ all r has. times_is db stored meta r has (λ s joined. each_joined (text_of Times) 0 times_tree jobs_tree all_times_project _ select_all_times (λ trees. refl) (λ trees. refl) old new db stored.schema_is now rows shown (ShowsTimes meta) all r s has joined))
      (λ x has.
      let it = row_joined (text_of Times) 0 times_tree jobs_tree all_times_project _ select_all_times (λ trees. refl) (λ trees. refl) old new db stored.schema_is now rows shown x has in
      (it.0, it.1, (λ n int. subst (λ y. HasValue y (rowid_at Times y) (Int n)) (sym it.4) (record { within = omega arith; is = int })), (λ right. subst (ShowsTimes meta) (sym it.4) (times_shows db stored meta it.0 it.1 right it.2 it.3))))
      found t
  table_checked Timed found shown t =
      passed_checked rows (db.trees jobs_tree) (λ row. HasInteger row 1) (IsRightRow meta held db Timed) Timed stored.ordered.jobs
      (λ all r has. timed_is db stored r has (λ s joined. each_joined (text_of Timed) 0 jobs_tree times_tree all_timed_project _ select_all_timed (λ trees. refl) (λ trees. refl) old new db stored.schema_is now rows shown (λ row. HasInteger row 1) all r s has joined))
      (λ x has.
      let it = row_joined (text_of Timed) 0 jobs_tree times_tree all_timed_project _ select_all_timed (λ trees. refl) (λ trees. refl) old new db stored.schema_is now rows shown x has in
      (it.0, it.1, (λ n int. subst (λ y. HasValue y (rowid_at Timed y) (Int n)) (sym it.4) (record { within = omega arith; is = int })), (λ right. subst (λ row. HasInteger row 1) (sym it.4) (timed_shows db stored it.0 it.1 right it.2 it.3))))
      found t
  table_checked Owned found shown t =
      passed_checked rows (db.trees grants_tree) (λ row. HasInteger row 1) (IsRightRow meta held db Owned) Owned stored.ordered.grants
      (λ all r has. owned_is db stored r has (λ s joined. each_joined (text_of Owned) 2 grants_tree jobs_tree all_owned_project _ select_all_owned (λ trees. refl) (λ trees. refl) old new db stored.schema_is now rows shown (λ row. HasInteger row 1) all r s has joined))
      (λ x has.
      let it = row_joined (text_of Owned) 2 grants_tree jobs_tree all_owned_project _ select_all_owned (λ trees. refl) (λ trees. refl) old new db stored.schema_is now rows shown x has in
      (it.0, it.1, (λ n int. subst (λ y. HasValue y (rowid_at Owned y) (Int n)) (sym it.4) (record { within = omega arith; is = int })), (λ right. subst (λ row. HasInteger row 1) (sym it.4) (owned_shows db stored it.0 it.1 right it.2 it.3))))
      found t
