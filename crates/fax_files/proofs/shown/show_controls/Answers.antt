use Rattle.std.proofs.Common.{rules}
use Rattle.fax_files.proofs.shown.show_controls.Goals as goal

pub returns : goal.returns
returns c = ((c.in_ok-controls.controls, c.in_ok-controls.ensures), search rules)
