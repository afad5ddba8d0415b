use Rattle.std.proofs.Common.{◌∙◌, sym, ap}
use Rattle.fax_core.specs.Import.{brought}
use Rattle.fax_core.proofs.OldJobLemmas.{made_of, unmade}
use Rattle.fax_core.proofs.import.brought_job.Goals as goal

pub returns-in-Some : goal.returns-in-Some
returns-in-Some c = made_of _ _ _ (c.brought.ensures ∙ ap (brought c.args.import.state) c.old_fields.ensures) (sym c.new.ensures ∙ c.in-Some.is)

pub returns-in-None : goal.returns-in-None
returns-in-None c = unmade _ _ (c.brought.ensures ∙ ap (brought c.args.import.state) c.old_fields.ensures) (sym c.new.ensures ∙ c.in-None.is)
