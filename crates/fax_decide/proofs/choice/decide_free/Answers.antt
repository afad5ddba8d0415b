use Rattle.std.proofs.Common.{refl, sym, ap, option_map, ◌∙◌}
use Rattle.fax_core.specs.Job.{job_of}
use Rattle.fax_decide.specs.Decision.{Decides}
use Rattle.fax_decide.specs.Fault.{OrNoAnswer}
use Rattle.fax_decide.specs.Settings.{settings_of}
use Rattle.fax_core.specs.Reply.{NoneToSend}
use Rattle.fax_decide.specs.declared.effect.Effect.TheVariants.{Nothing}
use Rattle.fax_decide.proofs.DecisionLemmas.{nothing_taken, taken_or}
use Rattle.fax_decide.proofs.GivenLemmas.{best_given}
use Rattle.fax_decide.proofs.KeptLemmas.{best_waits}
use Rattle.fax_decide.proofs.LookingLemmas.{both, goes_on, stops}
use Rattle.fax_decide.proofs.choice.decide_free.Goals as goal

pub returns-in-Some : goal.returns-in-Some
returns-in-Some g c = goes_on (both c.in_ok-number.ensures c.in_ok-job.ensures.found) (λ m k at calls sound next.
    let s = settings_of c.args.office.now.setup c.args.office.now.controls in
    let is = sym (ap (option_map (λ f. job_of f)) c.in-Some.is) ∙ calls.1 s c.args.t c.args.modem sound (calls.0 sound) in
    best_given (λ step. OrNoAnswer c.give.result (Decides step m c.args.t)) s m c.args.t c.args.modem c.in-Some.job c.args.next_grant sound is next
    (λ there. c.give.ensures.decided m c.args.t sound there next (best_waits s m c.args.t c.args.modem c.in-Some.job sound is)))

pub returns-in-None : goal.returns-in-None
returns-in-None g c = goes_on (both c.in_ok-number.ensures c.in_ok-job.ensures.found) (λ m k at calls sound next.
    let s = settings_of c.args.office.now.setup c.args.office.now.controls in
    rw (← (sym (ap (option_map (λ f. job_of f)) c.in-None.is) ∙ calls.1 s c.args.t c.args.modem sound (calls.0 sound)))
    (taken_or Nothing _ _ c.answered.result _ c.take.ensures c.answered.ensures (λ r. nothing_taken m c.args.t NoneToSend r refl)))

pub returns-in_err-job : goal.returns-in_err-job
returns-in_err-job g c =
    stops c.from_residual-in_err-job.ensures.1 (both c.in_ok-number.ensures c.in_err-job.ensures.found) (λ m out calls sound next.
    let s = settings_of c.args.office.now.setup c.args.office.now.controls in
    out _ (calls.1 s c.args.t c.args.modem sound (calls.0 sound)))
