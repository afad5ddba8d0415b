use Rattle.fax_value.specs.Value.{is_status}
use Rattle.fax_value.specs.declared.text_fault.TextFault.TheVariants.{Bad}
use Rattle.fax_tables.proofs.TextLemmas.{given_same}
use Rattle.fax_tables.proofs.jobs.status_of.Goals as goal

pub returns-clause-stands : goal.returns-clause-stands
returns-clause-stands c = given_same (is_status c.args.text.now) c.args.text.now c.in_ok-read.field-0 Bad c.in_ok-read.ensures.read
