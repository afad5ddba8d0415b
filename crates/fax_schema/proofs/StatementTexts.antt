-- What the texts mean that make jobs, kept replies and meta, and that read and write them.
use Rattle.std.proofs.Common.{◌≡◌, ℕ, pos, List, [], ◌∷◌, ◌++◌, codes, refl}
use Rattle.sqlite.specs.Collation.TheVariants.{Binary}
use Rattle.sqlite.specs.declared.types.Value.TheVariants.{Null, Int, Text}
use Rattle.sqlite_sql.specs.Term.{Term, lit, col, op1, op2}
use Rattle.sqlite_sql.specs.declared.ops.UnaryOp.TheVariants.{Not}
use Rattle.sqlite_sql.specs.declared.ops.BinaryOp.TheVariants.{Compare, Is, Or}
use Rattle.sqlite_sql.specs.declared.ops.CompareOp.TheVariants.{Le, Ge, Gt}
use Rattle.sqlite.specs.Query.{Query, end, inner, left}
use Rattle.sqlite.specs.Source.TheVariants.{Values}
use Rattle.sqlite.specs.Command.TheVariants.{Insert, Update}
use Rattle.sqlite.specs.Listing.{understood}
use Rattle.sqlite_catalog.specs.Change.{created}
use Rattle.sqlite_tied.specs.Compute.{everything}
use Rattle.sqlite_value.specs.Keys.{ascending}
use Rattle.sqlite_value.specs.declared.keys.Key.{Key}
use Rattle.fax_value.specs.Status.{kill_time_expired}
use Rattle.fax_schema.specs.declared.statements.TheConstants.{SELECT_DIAL, SELECT_HELD, SELECT_HOLDERS, SELECT_LOST, SELECT_VERSION, UPDATE_VERSION}
use Rattle.fax_schema.specs.declared.statements.TheConstants.{CREATE_JOBS, CREATE_REPLIES, CREATE_META, INSERT_META}
use Rattle.fax_schema.specs.declared.statements.TheConstants.{SELECT_META, UPDATE_META}
use Rattle.fax_schema.specs.declared.statements.TheConstants.{SELECT_REPLY, INSERT_REPLY}
use Rattle.fax_schema.specs.declared.statements.TheConstants.{SELECT_FIRST, SELECT_BEHIND_NUMBER, SELECT_BEHIND_TIME, SELECT_BEHIND_PRIORITY}
use Rattle.fax_schema.specs.declared.statements.TheConstants.{SELECT_JOB, SELECT_BRIEF, INSERT_JOB, UPDATE_JOB, SELECT_EXPIRED, EXPIRE_JOBS, SELECT_BRIEFS, SELECT_BRIEFS_FROM}
use Rattle.fax_layout.proofs.SelectLemmas.{rows_by, rows_where}
use Rattle.fax_schema.proofs.UpdateLemmas.{program_of}
use Rattle.fax_schema.proofs.StatementForms.{equals, Makes, Selects, SelectsAll, SelectsBy, Commands}
use Rattle.fax_schema.specs.Schema.{no_tables, with_jobs, with_down, with_replies, first_bare, jobs, replies, meta, holds_tree, jobs_tree, meta_tree, replies_tree}

-- CREATE_JOBS makes the table of jobs in a database without tables
pub makes_jobs : Makes no_tables CREATE_JOBS.now jobs
unfolding understood everything
makes_jobs = record { command = refl; statement = refl; defined = refl; plain = (refl, refl) }

-- and leaves it with that table
pub created_jobs : created no_tables jobs ≡ with_jobs
unfolding everything
created_jobs = refl

-- CREATE_REPLIES makes that of the kept replies
pub makes_replies : Makes with_down CREATE_REPLIES.now replies
unfolding understood everything
makes_replies = record { command = refl; statement = refl; defined = refl; plain = (refl, refl) }

-- and leaves these five
pub created_replies : created with_down replies ≡ with_replies
unfolding everything
created_replies = refl

-- CREATE_META makes that of the clock and next numbers
pub makes_meta : Makes with_replies CREATE_META.now meta
unfolding understood everything
makes_meta = record { command = refl; statement = refl; defined = refl; plain = (refl, refl) }

-- and leaves the six tables of the first version
pub created_meta : created with_replies meta ≡ first_bare
unfolding everything
created_meta = refl

abbrev pub meta_tests : List Term
meta_tests = equals (col 1 0) (lit (Int (pos 1))) ∷ []

abbrev pub meta_project : List Term
meta_project = col 1 2 ∷ col 1 3 ∷ col 1 4 ∷ []

-- SELECT_META reads the clock and the next numbers
pub select_meta : Selects SELECT_META.now meta_tree meta_tests meta_project (codes "clock" ∷ codes "next_job" ∷ codes "next_grant" ∷ [])
unfolding understood everything
select_meta = record { command = refl; plain = (refl, refl); unlisted = refl }

abbrev pub version_project : List Term
version_project = col 1 5 ∷ []

-- SELECT_VERSION reads the version of each row of meta
pub select_version : Selects SELECT_VERSION.now meta_tree [] version_project (codes "version" ∷ [])
unfolding understood everything
select_version = record { command = refl; plain = (refl, refl); unlisted = refl }

abbrev pub raise_project : List Term
raise_project = col 1 0 ∷ col 1 0 ∷ lit Null ∷ col 1 2 ∷ col 1 3 ∷ col 1 4 ∷ lit (Int (pos 3)) ∷ []

-- UPDATE_VERSION sets it to 3 in each
pub update_version : Commands UPDATE_VERSION.now (Update 5 (program_of meta_tree [] raise_project))
unfolding understood everything
update_version = record { is = refl; plain = (refl, refl) }

abbrev pub job_tests : List Term
job_tests = equals (col 1 0) (col 0 0) ∷ []

abbrev pub lost_on : List Term
lost_on = equals (col 2 0) (col 1 2) ∷ []

abbrev pub lost_tests : List Term
lost_tests = op2 (Is Binary) (col 2 0) (lit Null) ∷ []

abbrev pub lost_query : Query
lost_query = record (rows_by holds_tree lost_tests (col 1 3 ∷ []) []) { from = inner holds_tree (left jobs_tree lost_on end) }

-- SELECT_LOST reads the holds whose job isn't there
pub select_lost : SelectsAll SELECT_LOST.now lost_query (codes "id" ∷ [])
unfolding understood everything
select_lost = record { command = refl; plain = (refl, refl); unlisted = refl }

abbrev pub held_project : List Term
held_project = col 1 2 ∷ []

-- SELECT_HELD reads the job of each hold
pub select_held : Selects SELECT_HELD.now holds_tree [] held_project (codes "job" ∷ [])
unfolding understood everything
select_held = record { command = refl; plain = (refl, refl); unlisted = refl }

abbrev pub holders_project : List Term
holders_project = col 1 1 ∷ []

-- SELECT_HOLDERS reads the modem of each hold
pub select_holders : Selects SELECT_HOLDERS.now holds_tree [] holders_project (codes "modem" ∷ [])
unfolding understood everything
select_holders = record { command = refl; plain = (refl, refl); unlisted = refl }

abbrev pub dial_project : List Term
dial_project = col 1 2 ∷ []

-- SELECT_DIAL reads the number to dial of a job
pub select_dial : Selects SELECT_DIAL.now jobs_tree job_tests dial_project (codes "dial" ∷ [])
unfolding understood everything
select_dial = record { command = refl; plain = (refl, refl); unlisted = refl }

abbrev pub update_project : List Term
update_project = col 1 0 ∷ col 1 0 ∷ lit Null ∷ col 0 0 ∷ col 0 1 ∷ col 0 2 ∷ col 1 5 ∷ []

-- UPDATE_META sets the clock and the next numbers
pub update_meta : Commands UPDATE_META.now (Update 5 (record { lets = []; body = rows_where meta_tree meta_tests update_project }))
unfolding understood everything
update_meta = record { is = refl; plain = (refl, refl) }

abbrev pub reply_tests : List Term
reply_tests = equals (col 1 1) (col 0 0) ∷ equals (col 1 2) (col 0 1) ∷ []

abbrev pub reply_project : List Term
reply_project = col 1 3 ∷ col 1 4 ∷ col 1 5 ∷ []

-- SELECT_REPLY reads the reply to a client's number
pub select_reply : Selects SELECT_REPLY.now replies_tree reply_tests reply_project (codes "said" ∷ codes "status" ∷ codes "body" ∷ [])
unfolding understood everything
select_reply = record { command = refl; plain = (refl, refl); unlisted = refl }

abbrev pub reply_terms : List Term
reply_terms = lit Null ∷ col 0 0 ∷ col 0 1 ∷ col 0 2 ∷ col 0 3 ∷ col 0 4 ∷ []

-- INSERT_REPLY puts one in
pub insert_reply : Commands INSERT_REPLY.now (Insert 4 (Values reply_terms 6))
unfolding understood everything
insert_reply = record { is = refl; plain = (refl, refl) }

abbrev pub brief_project : List Term
brief_project =
    col 1 0 ∷ col 1 2 ∷ col 1 3 ∷ col 1 4 ∷ col 1 5 ∷ col 1 7 ∷ col 1 8 ∷ col 1 9 ∷ col 1 10 ∷ col 1 11 ∷ col 1 12 ∷ col 1 13 ∷ col 1 14 ∷ col 1 15 ∷ col 1 16 ∷ col 1 17 ∷ col 1 18 ∷ col 1 19 ∷ col 1 20 ∷ []

abbrev pub job_project : List Term
job_project = brief_project ++ col 1 6 ∷ []

abbrev pub brief_names : List (List ℕ)
brief_names =
    codes "job" ∷ codes "dial" ∷ codes "modem" ∷ codes "jobtag" ∷ codes "status" ∷ codes "tts" ∷ codes "killtime" ∷ codes "priority" ∷ codes "npages"
    ∷ codes "totpages" ∷ codes "ntries" ∷ codes "tottries" ∷ codes "maxtries" ∷ codes "ndials" ∷ codes "totdials" ∷ codes "maxdials" ∷ codes "phase" ∷ codes "wish" ∷ codes "next" ∷ []

abbrev pub job_names : List (List ℕ)
job_names = brief_names ++ codes "extra" ∷ []

-- SELECT_JOB reads the job of a number, whole
pub select_job : Selects SELECT_JOB.now jobs_tree job_tests job_project job_names
unfolding understood everything
select_job = record { command = refl; plain = (refl, refl); unlisted = refl }

-- SELECT_BRIEF reads it without its extra lines
pub select_brief : Selects SELECT_BRIEF.now jobs_tree job_tests brief_project brief_names
unfolding understood everything
select_brief = record { command = refl; plain = (refl, refl); unlisted = refl }

abbrev pub job_terms : List Term
job_terms =
    col 0 0 ∷ lit Null ∷ col 0 1 ∷ col 0 2 ∷ col 0 3 ∷ col 0 4 ∷ col 0 19 ∷ col 0 5 ∷ col 0 6 ∷ col 0 7 ∷ col 0 8 ∷ col 0 9 ∷ col 0 10 ∷ col 0 11 ∷ col 0 12 ∷ col 0 13 ∷ col 0 14 ∷ col 0 15 ∷ col 0 16 ∷ col 0 17 ∷ col 0 18 ∷ []

-- INSERT_JOB puts a job in
pub insert_job : Commands INSERT_JOB.now (Insert 0 (Values job_terms 21))
unfolding understood everything
insert_job = record { is = refl; plain = (refl, refl) }

abbrev pub change_project : List Term
change_project =
    col 1 0 ∷ col 1 0 ∷ lit Null ∷ col 1 2 ∷ col 0 1 ∷ col 0 2 ∷ col 0 3 ∷ col 1 6 ∷ col 0 4 ∷ col 0 5 ∷ col 0 6 ∷ col 0 7 ∷ col 1 11 ∷ col 0 8 ∷ col 0 9 ∷ col 0 10 ∷ col 0 11 ∷ col 0 12 ∷ col 0 13 ∷ col 0 14 ∷ col 0 15 ∷ col 0 16 ∷ []

-- UPDATE_JOB sets what a change may set of the job of a number
pub update_job : Commands UPDATE_JOB.now (Update 0 (record { lets = []; body = rows_where jobs_tree job_tests change_project }))
unfolding understood everything
update_job = record { is = refl; plain = (refl, refl) }

abbrev pub expired_tests : List Term
expired_tests = equals (col 1 18) (col 0 1) ∷ op2 (Compare Ge Binary) (col 1 8) (lit (Int (pos 1))) ∷ op2 (Compare Le Binary) (col 1 8) (col 0 0) ∷ []

abbrev pub number_project : List Term
number_project = col 1 0 ∷ []

-- SELECT_EXPIRED reads the numbers of jobs of a phase whose kill times are past
pub select_expired : Selects SELECT_EXPIRED.now jobs_tree expired_tests number_project (codes "job" ∷ [])
unfolding understood everything
select_expired = record { command = refl; plain = (refl, refl); unlisted = refl }

abbrev pub expired_project : List Term
expired_project =
    col 1 0 ∷ col 1 0 ∷ lit Null ∷ col 1 2 ∷ col 1 3 ∷ col 1 4 ∷ lit (Text kill_time_expired) ∷ col 1 6 ∷ col 1 7 ∷ col 1 8 ∷ col 1 9 ∷ col 1 10 ∷ col 1 11 ∷ col 1 12 ∷ col 1 13 ∷ col 1 14 ∷ col 1 15 ∷ col 1 16 ∷ col 1 17 ∷ lit (Int (pos 4)) ∷ col 1 19 ∷ col 1 20 ∷ []

-- EXPIRE_JOBS sets these to failed
pub expire_jobs : Commands EXPIRE_JOBS.now (Update 0 (record { lets = []; body = rows_where jobs_tree expired_tests expired_project }))
unfolding understood everything
expire_jobs = record { is = refl; plain = (refl, refl) }

abbrev pub waiting_tests : List Term
waiting_tests =
    equals (col 1 18) (lit (Int (pos 1))) ∷ op2 (Compare Le Binary) (col 1 7) (col 0 0) ∷ op2 (Compare Le Binary) (col 1 20) (col 0 0)
    ∷ op2 Or (equals (col 1 8) (lit (Int (pos 0)))) (op2 (Compare Gt Binary) (col 1 8) (col 0 0)) ∷ []

abbrev pub waiting_order : List (Term × Key)
waiting_order = (col 1 9, ascending Binary) ∷ (col 1 7, ascending Binary) ∷ (col 1 0, ascending Binary) ∷ []

-- what the choice asks of a job that waits
abbrev pub prospect_project : List Term
prospect_project = col 1 0 ∷ col 1 2 ∷ col 1 3 ∷ col 1 9 ∷ col 1 7 ∷ []

abbrev pub prospect_names : List (List ℕ)
prospect_names = codes "job" ∷ codes "dial" ∷ codes "modem" ∷ codes "priority" ∷ codes "tts" ∷ []

-- to another number than the third parameter
abbrev pub other_tests : List Term
other_tests = op1 Not (op2 (Is Binary) (col 1 2) (col 0 2)) ∷ []

-- the jobs that wait and pass these tests; the second parameter is the most rows
abbrev pub page_query : List Term → Query
page_query tests = record (rows_by jobs_tree (waiting_tests ++ tests) prospect_project waiting_order) { limit = col 0 1 }

abbrev pub SelectsPage : List ℕ → List Term → Type 0
SelectsPage sql tests = SelectsAll sql (page_query tests) prospect_names

-- SELECT_FIRST reads the first page of them
pub select_first : SelectsPage SELECT_FIRST.now other_tests
unfolding understood everything
select_first = record { command = refl; plain = (refl, refl); unlisted = refl }

abbrev pub number_tests : List Term
number_tests = other_tests ++ equals (col 1 9) (col 0 3) ∷ equals (col 1 7) (col 0 4) ∷ op2 (Compare Gt Binary) (col 1 0) (col 0 5) ∷ []

-- SELECT_BEHIND_NUMBER reads those of the same priority and time, behind a number
pub select_behind_number : SelectsPage SELECT_BEHIND_NUMBER.now number_tests
unfolding understood everything
select_behind_number = record { command = refl; plain = (refl, refl); unlisted = refl }

abbrev pub time_tests : List Term
time_tests = other_tests ++ equals (col 1 9) (col 0 3) ∷ op2 (Compare Ge Binary) (col 1 7) (col 0 4) ∷ []

-- SELECT_BEHIND_TIME reads those of the same priority, from a time on
pub select_behind_time : SelectsPage SELECT_BEHIND_TIME.now time_tests
unfolding understood everything
select_behind_time = record { command = refl; plain = (refl, refl); unlisted = refl }

abbrev pub priority_tests : List Term
priority_tests = other_tests ++ op2 (Compare Ge Binary) (col 1 9) (col 0 3) ∷ []

-- SELECT_BEHIND_PRIORITY reads those from a priority on
pub select_behind_priority : SelectsPage SELECT_BEHIND_PRIORITY.now priority_tests
unfolding understood everything
select_behind_priority = record { command = refl; plain = (refl, refl); unlisted = refl }

abbrev pub jobs_order : List (Term × Key)
jobs_order = (col 1 0, ascending Binary) ∷ []

-- SELECT_BRIEFS reads all jobs by number, without their extra lines
pub select_briefs : SelectsBy SELECT_BRIEFS.now jobs_tree [] brief_project jobs_order brief_names
unfolding understood everything
select_briefs = record { command = refl; plain = (refl, refl); unlisted = refl }

abbrev pub from_tests : List Term
from_tests = op2 (Compare Ge Binary) (col 1 0) (col 0 0) ∷ []

-- SELECT_BRIEFS_FROM reads those from a number on
pub select_briefs_from : SelectsBy SELECT_BRIEFS_FROM.now jobs_tree from_tests brief_project jobs_order brief_names
unfolding understood everything
select_briefs_from = record { command = refl; plain = (refl, refl); unlisted = refl }

-- INSERT_META puts the row of an empty store into meta
pub insert_meta : Commands INSERT_META.now
    (Insert 5 (Values (lit (Int (pos 1)) ∷ lit Null ∷ lit (Int (pos 0)) ∷ lit (Int (pos 1)) ∷ lit (Int (pos 1)) ∷ lit (Int (pos 3)) ∷ []) 6))
unfolding understood everything
insert_meta = record { is = refl; plain = (refl, refl) }
