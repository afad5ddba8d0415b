use Rattle.fax_core.proofs.ChangeLemmas.{fields_changed}
use Rattle.fax_core.proofs.change.Change.fields_after.Goals as goal

pub returns : goal.returns
returns c =
    fields_changed c.args.self c.args.fields _ _ _ _ _ _ _ _ c.unwrap_or.ensures c.unwrap_or-2.ensures c.unwrap_or-3.ensures c.unwrap_or-4.ensures c.unwrap_or-5.ensures c.unwrap_or-6.ensures c.unwrap_or-7.ensures c.unwrap_or-8.ensures
