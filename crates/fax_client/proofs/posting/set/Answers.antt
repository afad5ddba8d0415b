use Rattle.std.proofs.Common.{Some, refl}
use Rattle.fax_client.specs.Posting.{IsStored}
use Rattle.fax_client.proofs.SavedLemmas.{fails, saved, unsaved}
use Rattle.fax_client.proofs.posting.set.Goals as goal

pub returns-in_err-set : goal.returns-in_err-set
returns-in_err-set g c kept before first is =
    fails _ _ c.from_residual.result c.from_residual.ensures.0
    (unsaved _ (IsStored before) (IsStored c.args.entry.now) kept kept _ _ _ is c.in_err-set.field-0.0 (λ entry. (Some c.args.entry.now, (λ _. refl), c.in_err-set.ensures.sets entry kept)))

pub returns : goal.returns
returns g c kept before first is =
    saved _ (IsStored before) (IsStored c.args.entry.now) kept kept _ _ _ is _ (λ entry. (Some c.args.entry.now, (λ _. refl), c.in_ok-set.ensures.sets entry kept))
