use Rattle.std.proofs.Common.{rules}
use Rattle.fax_job.specs.Alter.{is_alterable}
use Rattle.fax_job.proofs.alter.is_alterable_tag.Goals as goal

pub returns : goal.returns
unfolding is_alterable
returns c = search rules
