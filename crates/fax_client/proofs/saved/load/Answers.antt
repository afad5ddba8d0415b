use Rattle.std.proofs.Common.{◌≡◌, IfOk, subst, sym}
use Rattle.fax_client.specs.Saved.{IsEntryOf}
use Rattle.fax_client.proofs.SavedLemmas.{fails, loads, untouched}
use Rattle.fax_client.proofs.saved.load.Goals as goal

pub returns-in_err-entry : goal.returns-in_err-entry
returns-in_err-entry g c entry kept rests =
    fails _ _ c.from_residual.result c.from_residual.ensures.0 (untouched entry kept _ _ (λ f. f ≡ entry) rests _ (c.in_err-entry.ensures entry kept))

pub returns-in-Some : goal.returns-in-Some
returns-in-Some g c entry kept rests =
    loads entry kept _ _ rests IsEntryOf c.in_ok-entry.field-0 c.worker_of.result (c.in_ok-entry.ensures entry kept)
    (subst (λ found. IfOk c.worker_of.result (λ w. IsEntryOf w found)) (sym c.in-Some.is) c.worker_of.ensures)

pub returns-in-None : goal.returns-in-None
returns-in-None g c entry kept rests =
    loads entry kept _ _ rests IsEntryOf c.in_ok-entry.field-0 c.new_worker.result (c.in_ok-entry.ensures entry kept)
    (subst (λ found. IfOk c.new_worker.result (λ w. IsEntryOf w found)) (sym c.in-None.is) c.new_worker.ensures)
