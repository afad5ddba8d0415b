use Rattle.fax_worker.proofs.AnswerLemmas.{sent_if}
use Rattle.fax_worker.proofs.OnlyLemmas.{only_if}
use Rattle.fax_worker.proofs.pending.Pending.read_answer.Goals as goal

pub returns-clause-sent : goal.returns-clause-sent
returns-clause-sent c = sent_if _ c.args.self.now.ask c.args.status c.args.body.now c.read.result c.ask.ensures.ask c.read.ensures

pub returns-clause-only : goal.returns-clause-only
returns-clause-only c = only_if _ c.args.self.now.ask c.args.status c.args.body.now c.read.result c.ask.ensures.ask c.read.ensures
