use Rattle.std.proofs.Common.{ap, arith, ◌∙◌}
use Rattle.fax_core.proofs.KeepLemmas.{grants_few}
use Rattle.fax_ask.specs.Answer.{Replied}
use Rattle.fax_ask.specs.Response.{accepted_response}
use Rattle.fax_core.specs.Reply.{Given, Handed}
use Rattle.fax_decide.specs.declared.effect.Effect.TheVariants.{NewGrant}
use Rattle.fax_decide.proofs.DecisionLemmas.{taken_or}
use Rattle.fax_decide.proofs.GivenLemmas.{given_new}
use Rattle.fax_decide.proofs.KeptLemmas.{grant_within}
use Rattle.fax_decide.proofs.choice.given.Goals as goal

pub returns : goal.returns
returns c m t sound there n goes new keeps =
    taken_or (NewGrant c.in_ok-job.job c.args.grant) _ _ c.answered-reply.result _ c.take.ensures c.answered-reply.ensures (λ r told.
    given_new m t c.args.change c.args.job c.in_ok-job.job c.args.grant r sound there (cc) n c.in_ok-job.ensures.after goes
    (grant_within c.args.job c.args.grant c.in_ok-job.ensures.lawful new (omega (arith, n, grants_few m sound)))
    (λ q dial. told ∙ ap (λ (h : Handed). accepted_response (Replied (Given h))) (c.handed.ensures q dial)))

pub returns-in_err-job : goal.returns-in_err-job
returns-in_err-job c m t sound there n goes new keeps = absurd (let no = c.in_err-job.ensures.kept keeps in cc)
