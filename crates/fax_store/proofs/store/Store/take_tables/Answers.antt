use Rattle.std.proofs.Common.{rules}
use Rattle.fax_store.proofs.AdoptLemmas.{founds_takes, ours_taken}
use Rattle.fax_store.proofs.store.Store.take_tables.Goals as goal

pub returns-then-has_no_tables : goal.returns-then-has_no_tables
returns-then-has_no_tables g c = founds_takes _ _ c.make_tables.result (search rules) c.make_tables.ensures

pub returns-in-Some : goal.returns-in-Some
returns-in-Some g c = ours_taken _ _ c.take_ours.result (search rules) c.take_ours.ensures
