use Rattle.std.proofs.Common.{Some, ap, option_map, ◌∙◌}
use Rattle.fax_client.specs.Saved.{HasWorker, IsEntryOf, request_of}
use Rattle.fax_client.proofs.SavedLemmas.{fails, same_entry, saved, unsaved, unwritten}
use Rattle.fax_client.proofs.saved.save.Goals as goal

pub returns-in_err-unanswered-clause-saves : goal.returns-in_err-unanswered-clause-saves
returns-in_err-unanswered-clause-saves g c kept before first is =
    fails _ _ c.from_residual.result c.from_residual.ensures.0 (unwritten (HasWorker kept c.args.worker) _ _ is)

pub returns-in_err-set-clause-saves : goal.returns-in_err-set-clause-saves
returns-in_err-set-clause-saves g c kept before first is =
    let parts = c.into_parts-client.ensures in
    fails _ _ c.from_residual-in_err-set.result c.from_residual-in_err-set.ensures.0
    (unsaved _ (IsEntryOf before) (IsEntryOf c.args.worker) kept kept _ _ _ is c.in_err-set.field-0.0
    (λ entry. (Some _, (λ _. same_entry c.args.worker _ _ _ _ parts.client parts.last (c.in_ok-unanswered.ensures ∙ ap (option_map request_of) parts.unanswered) parts.held), c.in_err-set.ensures.sets entry kept)))

pub returns-clause-saves : goal.returns-clause-saves
returns-clause-saves g c kept before first is =
    let parts = c.into_parts-client.ensures in
    saved _ (IsEntryOf before) (IsEntryOf c.args.worker) kept kept _ _ _ is _
    (λ entry. (Some _, (λ _. same_entry c.args.worker _ _ _ _ parts.client parts.last (c.in_ok-unanswered.ensures ∙ ap (option_map request_of) parts.unanswered) parts.held), c.in_ok-set.ensures.sets entry kept))
