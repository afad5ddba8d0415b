-- What the texts on the times of jobs mean, and those by which adopting makes them.
use Rattle.std.proofs.Common.{ℕ, List, [], ◌∷◌, codes, refl}
use Rattle.sqlite.specs.declared.types.Value.TheVariants.{Null}
use Rattle.sqlite.specs.Command.TheVariants.{Insert, Update, Delete}
use Rattle.sqlite.specs.Listing.{understood}
use Rattle.sqlite.specs.Query.{Query, end, inner, left}
use Rattle.sqlite.specs.Source.TheVariants.{Values}
use Rattle.sqlite_sql.specs.Term.{Term, lit, col}
use Rattle.sqlite_tied.specs.Compute.{everything}
use Rattle.fax_schema.specs.declared.statements.TheConstants.{DELETE_GRANT, END_TIMES, INSERT_TIMES, SELECT_PHASES, SELECT_STRAYS, SELECT_TIMES}
use Rattle.fax_layout.proofs.SelectLemmas.{rows_by}
use Rattle.fax_schema.proofs.StatementForms.{Selects, SelectsAll, Commands}
use Rattle.fax_schema.proofs.StatementTexts.{job_tests, lost_on, lost_tests}
use Rattle.fax_schema.proofs.UpdateLemmas.{program_of, gone_project}
use Rattle.fax_schema.specs.Schema.{grants_tree, jobs_tree, times_tree}

abbrev pub times_project : List Term
times_project = col 1 0 ∷ col 1 2 ∷ col 1 3 ∷ []

abbrev pub times_names : List (List ℕ)
times_names = codes "job" ∷ codes "submitted" ∷ codes "ended" ∷ []

-- SELECT_TIMES reads those of the job of a number
pub select_times : Selects SELECT_TIMES.now times_tree job_tests times_project times_names
unfolding understood everything
select_times = record { command = refl; plain = (refl, refl); unlisted = refl }

abbrev pub times_terms : List Term
times_terms = col 0 0 ∷ lit Null ∷ col 0 1 ∷ col 0 2 ∷ []

-- INSERT_TIMES puts those of a job in
pub insert_times : Commands INSERT_TIMES.now (Insert 7 (Values times_terms 4))
unfolding understood everything
insert_times = record { is = refl; plain = (refl, refl) }

abbrev pub end_project : List Term
end_project = col 1 0 ∷ col 1 0 ∷ lit Null ∷ col 1 2 ∷ col 0 1 ∷ []

-- END_TIMES sets when the job of a number ended
pub end_times : Commands END_TIMES.now (Update 7 (program_of times_tree job_tests end_project))
unfolding understood everything
end_times = record { is = refl; plain = (refl, refl) }

abbrev pub phases_project : List Term
phases_project = col 1 0 ∷ col 1 18 ∷ []

-- SELECT_PHASES reads the number and the phase of each job
pub select_phases : Selects SELECT_PHASES.now jobs_tree [] phases_project (codes "job" ∷ codes "phase" ∷ [])
unfolding understood everything
select_phases = record { command = refl; plain = (refl, refl); unlisted = refl }

abbrev pub strays_query : Query
strays_query = record (rows_by grants_tree lost_tests (col 1 0 ∷ []) []) { from = inner grants_tree (left jobs_tree lost_on end) }

-- SELECT_STRAYS reads the grants whose job isn't there
pub select_strays : SelectsAll SELECT_STRAYS.now strays_query (codes "id" ∷ [])
unfolding understood everything
select_strays = record { command = refl; plain = (refl, refl); unlisted = refl }

-- DELETE_GRANT takes the grant of a number away
pub delete_grant : Commands DELETE_GRANT.now (Delete 1 (program_of grants_tree job_tests gone_project))
unfolding understood everything
delete_grant = record { is = refl; plain = (refl, refl) }
