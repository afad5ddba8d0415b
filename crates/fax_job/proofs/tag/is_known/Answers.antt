use Rattle.std.proofs.Common.{rules}
use Rattle.fax_job.specs.Tag.{is_known}
use Rattle.fax_job.proofs.tag.is_known.Goals as goal

pub returns : goal.returns
unfolding is_known
returns c = search rules
