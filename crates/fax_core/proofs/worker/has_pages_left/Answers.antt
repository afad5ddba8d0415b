use Rattle.fax_core.proofs.ReportLemmas.{pages_left}
use Rattle.fax_core.proofs.worker.has_pages_left.Goals as goal

pub returns : goal.returns
returns c = pages_left c.args.fields.now
