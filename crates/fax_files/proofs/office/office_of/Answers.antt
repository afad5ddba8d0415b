use Rattle.std.proofs.Common.{inr}
use Rattle.fax_files.proofs.office.office_of.Goals as goal

pub returns : goal.returns
returns c = inr (c.in_ok-setup.setup, c.in_ok-setup.ensures, c.in-Err.ensures)
