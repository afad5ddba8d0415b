use Rattle.fax_worker.proofs.AnswerLemmas.{answers_are_read}
use Rattle.fax_worker.proofs.OnlyLemmas.{only_answers_are_read}
use Rattle.fax_worker.proofs.laws.answers_are_read.Goals as goal

pub returns-clause-sent : goal.returns-clause-sent
returns-clause-sent c = answers_are_read

pub returns-clause-only : goal.returns-clause-only
returns-clause-only c = only_answers_are_read
