-- What the texts on grants, holds and calls mean.
use Rattle.std.proofs.Common.{◌≡◌, List, [], ◌∷◌, ℕ, pos, codes, refl}
use Rattle.sqlite.specs.Command.TheVariants.{Insert, Update, Delete}
use Rattle.sqlite.specs.Listing.{understood}
use Rattle.sqlite.specs.Source.TheVariants.{Values}
use Rattle.sqlite.specs.declared.types.Value.TheVariants.{Null, Int}
use Rattle.sqlite_sql.specs.Term.{Term, lit, col}
use Rattle.sqlite_catalog.specs.Change.{created}
use Rattle.sqlite_tied.specs.Compute.{everything}
use Rattle.fax_schema.specs.declared.statements.TheConstants.{CREATE_GRANTS, CREATE_HOLDS, CREATE_CALLS}
use Rattle.fax_schema.specs.declared.statements.TheConstants.{SELECT_GRANT, INSERT_GRANT, UPDATE_REPORT, SHUT_GRANT, SELECT_HOLD, INSERT_HOLD, DELETE_HOLD, SELECT_OPEN, DELETE_CALLS, INSERT_CALLS}
use Rattle.fax_schema.proofs.StatementForms.{equals, Makes, Selects, Commands}
use Rattle.fax_schema.proofs.UpdateLemmas.{program_of, gone_project}
use Rattle.fax_schema.specs.Schema.{with_jobs, with_grants, with_holds, core_tables, our_tables, grants, holds, calls, calls_place, calls_tree, grants_tree, holds_tree}

-- CREATE_GRANTS makes that of grants
pub makes_grants : Makes with_jobs CREATE_GRANTS.now grants
unfolding understood everything
makes_grants = record { command = refl; statement = refl; defined = refl; plain = (refl, refl) }

-- and leaves these two
pub created_grants : created with_jobs grants ≡ with_grants
unfolding everything
created_grants = refl

-- CREATE_HOLDS makes that of holds
pub makes_holds : Makes with_grants CREATE_HOLDS.now holds
unfolding understood everything
makes_holds = record { command = refl; statement = refl; defined = refl; plain = (refl, refl) }

-- and leaves these three
pub created_holds : created with_grants holds ≡ with_holds
unfolding everything
created_holds = refl

-- CREATE_CALLS makes the table of calls
pub makes_calls : Makes core_tables CREATE_CALLS.now calls
unfolding understood everything
makes_calls = record { command = refl; statement = refl; defined = refl; plain = (refl, refl) }

-- and leaves all tables of a store
pub created_calls : created core_tables calls ≡ our_tables
unfolding everything
created_calls = refl

abbrev pub grant_tests : List Term
grant_tests = equals (col 1 0) (col 0 0) ∷ []

abbrev pub grant_project : List Term
grant_project = col 1 0 ∷ col 1 2 ∷ col 1 3 ∷ col 1 4 ∷ col 1 5 ∷ col 1 6 ∷ col 1 7 ∷ col 1 8 ∷ []

abbrev pub grant_names : List (List ℕ)
grant_names = codes "id" ∷ codes "job" ∷ codes "modem" ∷ codes "first_page" ∷ codes "last_page" ∷ codes "call" ∷ codes "pages" ∷ codes "shut" ∷ []

-- SELECT_GRANT reads the grant of a number, whole
pub select_grant : Selects SELECT_GRANT.now grants_tree grant_tests grant_project grant_names
unfolding understood everything
select_grant = record { command = refl; plain = (refl, refl); unlisted = refl }

abbrev pub hold_tests : List Term
hold_tests = equals (col 1 1) (col 0 0) ∷ []

abbrev pub hold_project : List Term
hold_project = col 1 3 ∷ col 1 2 ∷ []

-- SELECT_HOLD reads the grant and job that a modem holds
pub select_hold : Selects SELECT_HOLD.now holds_tree hold_tests hold_project (codes "id" ∷ codes "job" ∷ [])
unfolding understood everything
select_hold = record { command = refl; plain = (refl, refl); unlisted = refl }

abbrev pub grant_terms : List Term
grant_terms = col 0 0 ∷ lit Null ∷ col 0 1 ∷ col 0 2 ∷ col 0 3 ∷ col 0 4 ∷ col 0 5 ∷ col 0 6 ∷ lit (Int (pos 0)) ∷ []

-- INSERT_GRANT puts in a grant that is open
pub insert_grant : Commands INSERT_GRANT.now (Insert 1 (Values grant_terms 9))
unfolding understood everything
insert_grant = record { is = refl; plain = (refl, refl) }

abbrev pub hold_terms : List Term
hold_terms = lit Null ∷ col 0 0 ∷ col 0 1 ∷ col 0 2 ∷ []

-- INSERT_HOLD puts in its hold
pub insert_hold : Commands INSERT_HOLD.now (Insert 2 (Values hold_terms 4))
unfolding understood everything
insert_hold = record { is = refl; plain = (refl, refl) }

abbrev pub report_project : List Term
report_project = col 1 0 ∷ col 1 0 ∷ lit Null ∷ col 1 2 ∷ col 1 3 ∷ col 1 4 ∷ col 1 5 ∷ col 0 1 ∷ col 0 2 ∷ col 1 8 ∷ []

-- UPDATE_REPORT sets the call and the confirmed pages of a grant
pub update_report : Commands UPDATE_REPORT.now (Update 1 (program_of grants_tree grant_tests report_project))
unfolding understood everything
update_report = record { is = refl; plain = (refl, refl) }

abbrev pub shut_project : List Term
shut_project = col 1 0 ∷ col 1 0 ∷ lit Null ∷ col 1 2 ∷ col 1 3 ∷ col 1 4 ∷ col 1 5 ∷ col 1 6 ∷ col 1 7 ∷ lit (Int (pos 1)) ∷ []

-- SHUT_GRANT sets a grant to be shut
pub shut_grant : Commands SHUT_GRANT.now (Update 1 (program_of grants_tree grant_tests shut_project))
unfolding understood everything
shut_grant = record { is = refl; plain = (refl, refl) }

abbrev pub held_tests : List Term
held_tests = equals (col 1 3) (col 0 0) ∷ []

-- DELETE_HOLD takes out the hold of a grant
pub delete_hold : Commands DELETE_HOLD.now (Delete 2 (program_of holds_tree held_tests gone_project))
unfolding understood everything
delete_hold = record { is = refl; plain = (refl, refl) }

abbrev pub call_tests : List Term
call_tests = equals (col 1 1) (col 0 0) ∷ []

abbrev pub call_project : List Term
call_project = col 1 2 ∷ []

-- SELECT_OPEN reads how many calls are open to a number
pub select_open : Selects SELECT_OPEN.now calls_tree call_tests call_project (codes "open" ∷ [])
unfolding understood everything
select_open = record { command = refl; plain = (refl, refl); unlisted = refl }

-- DELETE_CALLS takes out the row of a number
pub delete_calls : Commands DELETE_CALLS.now (Delete calls_place (program_of calls_tree call_tests gone_project))
unfolding understood everything
delete_calls = record { is = refl; plain = (refl, refl) }

abbrev pub call_terms : List Term
call_terms = lit Null ∷ col 0 0 ∷ col 0 1 ∷ []

-- INSERT_CALLS puts one in
pub insert_calls : Commands INSERT_CALLS.now (Insert calls_place (Values call_terms 3))
unfolding understood everything
insert_calls = record { is = refl; plain = (refl, refl) }
