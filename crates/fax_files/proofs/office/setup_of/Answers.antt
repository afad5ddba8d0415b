use Rattle.std.proofs.Common.{rules}
use Rattle.fax_files.proofs.office.setup_of.Goals as goal

pub returns-in-Ok : goal.returns-in-Ok
returns-in-Ok c = record { text = c.in-Ok.ensures.text; not_text = c.in-Ok.ensures.not_text }

pub returns-in-Err-2 : goal.returns-in-Err-2
returns-in-Err-2 c = (search rules, record { text = c.in-Err.ensures.text; not_text = c.in-Err.ensures.not_text })
