use Rattle.std.proofs.Common.{◌∙◌, List, ℕ, subst}
use Rattle.faxqd.specs.Saying.{Says}
use Rattle.faxqd.proofs.command.refuse_words.Goals as goal

pub returns-clause-fault : goal.returns-clause-fault
returns-clause-fault g c = λ other. (
  c.say_at_end.ensures.status ∙ c.failed.ensures.status,
  subst (λ (line : List ℕ). Says g.E.Write.contents c.args.err.now c.say_at_end.new.err line) c.failed.ensures.says c.say_at_end.ensures.says,
)
