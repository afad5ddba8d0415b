use Rattle.std.proofs.Common.{rules}
use Rattle.fax_files.proofs.shown.show_setup.Goals as goal

pub returns : goal.returns
returns c = ((c.in_ok-setup.setup, c.in_ok-setup.ensures), search rules)
