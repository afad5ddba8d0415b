-- What the texts mean by which jobs leave that are over.
use Rattle.std.proofs.Common.{pos, List, [], ◌∷◌, codes, refl}
use Rattle.sqlite.specs.Collation.TheVariants.{Binary}
use Rattle.sqlite.specs.declared.types.Value.TheVariants.{Int}
use Rattle.sqlite.specs.Command.TheVariants.{Delete}
use Rattle.sqlite.specs.Listing.{understood}
use Rattle.sqlite.specs.Query.{Query, end, inner}
use Rattle.sqlite.proofs.Callers.{IsPlain}
use Rattle.sqlite_sql.specs.Term.{Term, lit, col, op2}
use Rattle.sqlite_sql.specs.declared.ops.BinaryOp.TheVariants.{Compare}
use Rattle.sqlite_sql.specs.declared.ops.CompareOp.TheVariants.{Ge, Gt, Le, Lt}
use Rattle.sqlite_tied.specs.Compute.{everything}
use Rattle.sqlite_value.specs.Keys.{ascending}
use Rattle.fax_schema.specs.declared.statements.TheConstants.{DELETE_GRANTS, DELETE_JOB, DELETE_TIMES, SELECT_ENDED_AT_0, SELECT_LEAVING, SELECT_LEAVING_OVER, SELECT_MANY_NOT_OVER, SELECT_MANY_OVER}
use Rattle.fax_layout.proofs.SelectLemmas.{rows_by, rows_where}
use Rattle.fax_schema.proofs.StatementForms.{equals, Commands, SelectsAll}
use Rattle.fax_schema.proofs.StatementTexts.{job_tests}
use Rattle.fax_schema.proofs.UpdateLemmas.{program_of, gone_project}
use Rattle.fax_schema.specs.Schema.{grants_tree, jobs_tree, our_tables, times_tree}

abbrev pub leaving_tests : List Term
leaving_tests =
    equals (col 2 0) (col 1 0) ∷ op2 (Compare Ge Binary) (col 1 3) (col 0 1) ∷ op2 (Compare Lt Binary) (col 1 3) (col 0 0) ∷ op2 (Compare Gt Binary) (col 2 18) (lit (Int (pos 2)))
    ∷ op2 (Compare Lt Binary) (col 2 18) (lit (Int (pos 5))) ∷ []

abbrev pub leaving_query : Query
leaving_query = record (rows_by times_tree leaving_tests (col 1 0 ∷ []) ((col 1 0, ascending Binary) ∷ [])) { from = inner times_tree (inner jobs_tree end); limit = lit (Int (pos 1000)) }

-- SELECT_LEAVING reads the first of the jobs that are over and ended between two moments
pub select_leaving : SelectsAll SELECT_LEAVING.now leaving_query (codes "job" ∷ [])
unfolding understood everything
select_leaving = record { command = refl; plain = (refl, refl); unlisted = refl }

-- these show rows and write none
pub select_many_not_over : IsPlain (understood our_tables SELECT_MANY_NOT_OVER.now)
unfolding understood everything
select_many_not_over = (refl, refl)

pub select_many_over : IsPlain (understood our_tables SELECT_MANY_OVER.now)
unfolding understood everything
select_many_over = (refl, refl)

abbrev pub over_tests : List Term
over_tests =
    equals (col 2 0) (col 1 0) ∷ op2 (Compare Gt Binary) (col 1 18) (lit (Int (pos 2))) ∷ op2 (Compare Lt Binary) (col 1 18) (lit (Int (pos 5))) ∷ op2 (Compare Lt Binary) (col 2 3) (col 0 0) ∷ []

abbrev pub over_query : Query
over_query = record (rows_by jobs_tree over_tests (col 2 0 ∷ []) ((col 2 0, ascending Binary) ∷ [])) { from = inner jobs_tree (inner times_tree end); limit = lit (Int (pos 1000)) }

-- SELECT_LEAVING_OVER reads the first of the jobs that are over and ended before a moment
pub select_leaving_over : SelectsAll SELECT_LEAVING_OVER.now over_query (codes "job" ∷ [])
unfolding understood everything
select_leaving_over = record { command = refl; plain = (refl, refl); unlisted = refl }

abbrev pub early_tests : List Term
early_tests =
    equals (col 2 0) (col 1 0) ∷ op2 (Compare Gt Binary) (col 1 18) (lit (Int (pos 2))) ∷ op2 (Compare Lt Binary) (col 1 18) (lit (Int (pos 5))) ∷ op2 (Compare Le Binary) (col 1 0) (col 0 0)
    ∷ op2 (Compare Lt Binary) (col 2 3) (lit (Int (pos 1))) ∷ []

abbrev pub early_query : Query
early_query = record (rows_where jobs_tree early_tests (col 1 0 ∷ [])) { from = inner jobs_tree (inner times_tree end); limit = lit (Int (pos 1)) }

-- SELECT_ENDED_AT_0 reads one of the jobs up to a number that are over and ended at the moment 0
pub select_ended_at_0 : SelectsAll SELECT_ENDED_AT_0.now early_query (codes "job" ∷ [])
unfolding understood everything
select_ended_at_0 = record { command = refl; plain = (refl, refl); unlisted = refl }

-- DELETE_JOB takes the job of a number away
pub delete_job : Commands DELETE_JOB.now (Delete 0 (program_of jobs_tree job_tests gone_project))
unfolding understood everything
delete_job = record { is = refl; plain = (refl, refl) }

-- DELETE_TIMES takes its times away
pub delete_times : Commands DELETE_TIMES.now (Delete 7 (program_of times_tree job_tests gone_project))
unfolding understood everything
delete_times = record { is = refl; plain = (refl, refl) }

abbrev pub grants_tests : List Term
grants_tests = equals (col 1 2) (col 0 0) ∷ []

-- DELETE_GRANTS takes its grants away
pub delete_grants : Commands DELETE_GRANTS.now (Delete 1 (program_of grants_tree grants_tests gone_project))
unfolding understood everything
delete_grants = record { is = refl; plain = (refl, refl) }
