-- What the texts on floors, and on the replies that a client gives up, mean.
use Rattle.std.proofs.Common.{◌≡◌, List, [], ◌∷◌, codes, refl}
use Rattle.sqlite.specs.Collation.TheVariants.{Binary}
use Rattle.sqlite.specs.Command.TheVariants.{Insert, Delete}
use Rattle.sqlite.specs.Listing.{understood}
use Rattle.sqlite.specs.Source.TheVariants.{Values}
use Rattle.sqlite.proofs.Callers.{IsPlain}
use Rattle.sqlite_sql.specs.Term.{Term, col, op2}
use Rattle.sqlite_sql.specs.declared.ops.BinaryOp.TheVariants.{Compare}
use Rattle.sqlite_sql.specs.declared.ops.CompareOp.TheVariants.{Le}
use Rattle.sqlite_catalog.specs.Change.{created}
use Rattle.sqlite_tied.specs.Compute.{everything}
use Rattle.fax_schema.specs.declared.statements.TheConstants.{CREATE_FLOORS, CREATE_TIMES, DELETE_REPLIES, SELECT_HUNDREDTH, SELECT_FLOOR, DELETE_FLOOR, INSERT_FLOOR}
use Rattle.fax_schema.proofs.GrantTexts.{call_tests, call_project, call_terms}
use Rattle.fax_schema.proofs.StatementForms.{equals, Makes, Selects, Commands}
use Rattle.fax_schema.proofs.UpdateLemmas.{program_of, gone_project}
use Rattle.fax_schema.specs.Schema.{first_bare, second_bare, bare_tables, floors, floors_tree, our_tables, replies_tree, times}

-- CREATE_FLOORS makes that of floors
pub makes_floors : Makes first_bare CREATE_FLOORS.now floors
unfolding understood everything
makes_floors = record { command = refl; statement = refl; defined = refl; plain = (refl, refl) }

-- and leaves the tables of the second version without the indexes of jobs
pub created_floors : created first_bare floors ≡ second_bare
unfolding everything
created_floors = refl

-- CREATE_TIMES makes that of times
pub makes_times : Makes second_bare CREATE_TIMES.now times
unfolding understood everything
makes_times = record { command = refl; statement = refl; defined = refl; plain = (refl, refl) }

-- and leaves those of the third
pub created_times : created second_bare times ≡ bare_tables
unfolding everything
created_times = refl

abbrev pub given_up_tests : List Term
given_up_tests = equals (col 1 1) (col 0 0) ∷ op2 (Compare Le Binary) (col 1 2) (col 0 1) ∷ []

pub delete_replies : Commands DELETE_REPLIES.now (Delete 4 (program_of replies_tree given_up_tests gone_project))
unfolding understood everything
delete_replies = record { is = refl; plain = (refl, refl) }

-- the text shows rows and writes none
pub select_hundredth : IsPlain (understood our_tables SELECT_HUNDREDTH.now)
unfolding understood everything
select_hundredth = (refl, refl)

-- floors stand as the counts of calls do
pub select_floor : Selects SELECT_FLOOR.now floors_tree call_tests call_project (codes "upto" ∷ [])
unfolding understood everything
select_floor = record { command = refl; plain = (refl, refl); unlisted = refl }

pub delete_floor : Commands DELETE_FLOOR.now (Delete 6 (program_of floors_tree call_tests gone_project))
unfolding understood everything
delete_floor = record { is = refl; plain = (refl, refl) }

pub insert_floor : Commands INSERT_FLOOR.now (Insert 6 (Values call_terms 3))
unfolding understood everything
insert_floor = record { is = refl; plain = (refl, refl) }
