use Rattle.std.proofs.Common.{◌≡◌, IfOk, subst, sym}
use Rattle.fax_client.specs.Posting.{IsStored}
use Rattle.fax_client.proofs.SavedLemmas.{fails, loads, untouched}
use Rattle.fax_client.proofs.posting.load.Goals as goal

pub returns-in_err-entry-clause-loads : goal.returns-in_err-entry-clause-loads
returns-in_err-entry-clause-loads g c entry kept rests =
    fails _ _ c.from_residual.result c.from_residual.ensures.0 (untouched entry kept _ _ (λ f. f ≡ entry) rests _ (c.in_err-entry.ensures entry kept))

pub returns-in-Some-clause-loads : goal.returns-in-Some-clause-loads
returns-in-Some-clause-loads g c entry kept rests =
    loads entry kept _ _ rests IsStored c.in_ok-entry.field-0 c.if_own.result (c.in_ok-entry.ensures entry kept)
    (subst (λ found. IfOk c.if_own.result (λ e. IsStored e found)) (sym c.in-Some.is) c.if_own.ensures.same)

pub returns-in-None-clause-loads : goal.returns-in-None-clause-loads
returns-in-None-clause-loads g c entry kept rests =
    loads entry kept _ _ rests IsStored c.in_ok-entry.field-0 c.new_entry.result (c.in_ok-entry.ensures entry kept)
    (subst (λ found. IfOk c.new_entry.result (λ e. IsStored e found)) (sym c.in-None.is) c.new_entry.ensures.new)
