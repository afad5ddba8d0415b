-- What the texts on the modems that are down mean.
use Rattle.std.proofs.Common.{◌≡◌, List, [], ◌∷◌, codes, refl}
use Rattle.sqlite.specs.Command.TheVariants.{Insert, Delete}
use Rattle.sqlite.specs.Listing.{understood}
use Rattle.sqlite.specs.Source.TheVariants.{Values}
use Rattle.sqlite.specs.declared.types.Value.TheVariants.{Null}
use Rattle.sqlite_sql.specs.Term.{Term, lit, col}
use Rattle.sqlite_catalog.specs.Change.{created}
use Rattle.sqlite_tied.specs.Compute.{everything}
use Rattle.fax_schema.specs.declared.statements.TheConstants.{CREATE_DOWN, SELECT_DOWN, INSERT_DOWN, DELETE_DOWN}
use Rattle.fax_schema.proofs.StatementForms.{equals, Makes, Selects, Commands}
use Rattle.fax_schema.proofs.UpdateLemmas.{program_of, gone_project}
use Rattle.fax_schema.specs.Schema.{with_holds, with_down, down, down_tree}

-- CREATE_DOWN makes that of the modems that are down
pub makes_down : Makes with_holds CREATE_DOWN.now down
unfolding understood everything
makes_down = record { command = refl; statement = refl; defined = refl; plain = (refl, refl) }

-- and leaves these four
pub created_down : created with_holds down ≡ with_down
unfolding everything
created_down = refl

abbrev pub down_tests : List Term
down_tests = equals (col 1 1) (col 0 0) ∷ []

abbrev pub down_project : List Term
down_project = col 1 1 ∷ []

-- SELECT_DOWN reads the mark of a modem
pub select_down : Selects SELECT_DOWN.now down_tree down_tests down_project (codes "modem" ∷ [])
unfolding understood everything
select_down = record { command = refl; plain = (refl, refl); unlisted = refl }

abbrev pub down_terms : List Term
down_terms = lit Null ∷ col 0 0 ∷ []

-- INSERT_DOWN puts in a mark
pub insert_down : Commands INSERT_DOWN.now (Insert 3 (Values down_terms 2))
unfolding understood everything
insert_down = record { is = refl; plain = (refl, refl) }

-- DELETE_DOWN takes out that of a modem
pub delete_down : Commands DELETE_DOWN.now (Delete 3 (program_of down_tree down_tests gone_project))
unfolding understood everything
delete_down = record { is = refl; plain = (refl, refl) }
