use Rattle.std.proofs.Common.{◌≡◌, ◌≤◌, true, refl, ap, subst, sym, arith, ltb-false}
use Rattle.fax_core.proofs.KeepLemmas.{jobs_few}
use Rattle.fax_core.specs.Ageing.{aged}
use Rattle.fax_core.specs.Decisions.{submit}
use Rattle.fax_core.specs.Job.{Job, job_of}
use Rattle.fax_core.specs.Machine.{submitted}
use Rattle.fax_core.specs.Submission.{rule_of}
use Rattle.fax_core.proofs.NewJobLemmas.{read_recorded}
use Rattle.fax_tables.specs.declared.meta.Meta.{Meta}
use Rattle.fax_decide.specs.Decision.{Decides}
use Rattle.fax_decide.specs.Fault.{OrNoAnswer}
use Rattle.fax_decide.specs.Settings.{have_moment, machine_rule, rule_for}
use Rattle.fax_decide.proofs.FaultLemmas.{both_sides}
use Rattle.fax_decide.proofs.JobLemmas.{recorded_ok}
use Rattle.fax_decide.proofs.NewJobLemmas.{refused_new, submit_is, submit_refused}
use Rattle.fax_decide.proofs.submission.decide_submission.Goals as goal

pub refused-requires-clause-notice : goal.refused-requires-clause-notice
refused-requires-clause-notice c = (submit_refused c.args.order
    (rule_of c.in_ok-rule.rule.now (λ _. true)) c.args.meta.now.next_job c.max_jobs.result c.args.t c.in-Err.refusal (c.in-Err.ensures (λ _. true))).rejects

pub refused-requires-clause-plain : goal.refused-requires-clause-plain
refused-requires-clause-plain c = (submit_refused c.args.order
    (rule_of c.in_ok-rule.rule.now (λ _. true)) c.args.meta.now.next_job c.max_jobs.result c.args.t c.in-Err.refusal (c.in-Err.ensures (λ _. true))).plain

pub returns-in-Ok : goal.returns-in-Ok
returns-in-Ok c m sound these =
    let rule = rule_for c.args.office.now.controls c.args.order.dial in
    let here = machine_rule c.args.office.now.setup rule in
    let hours = have_moment c.args.office.now.setup rule.hours in
    let is = recorded_ok (submit c.args.order here m.next_job c.args.office.now.setup.max_jobs c.args.t) (job_of c.in-Ok.job)
    (rw (c.in_ok-rule.ensures, these, c.max_jobs.ensures.number) at (c.in-Ok.ensures hours)) in
    both_sides c.taken.result _ (subst (λ r. OrNoAnswer c.taken.result (Decides (submitted (aged c.args.t m) here r) m c.args.t)) (sym is)
    (c.taken.ensures m c.args.t here sound (sym (ap (λ (j : Job). j.number) (submit_is c.args.order here m.next_job _ c.args.t (job_of c.in-Ok.job) is)))))

pub returns-in-Err : goal.returns-in-Err
returns-in-Err c m sound these =
    let next : c.args.meta.now.next_job ≡ m.next_job = ap (λ (x : Meta). x.next_job) these in
    let rule = rule_for c.args.office.now.controls c.args.order.dial in
    let here = machine_rule c.args.office.now.setup rule in
    let hours = have_moment c.args.office.now.setup rule.hours in
    let same = ap (λ r. rule_of r hours) c.in_ok-rule.ensures in
    let first : 1 ≤ c.args.meta.now.next_job = omega (arith, next, jobs_few m sound) in (
      refused_new (submitted (aged c.args.t m) here) _ c.in-Err.refusal c.in_ok-rule.rule.now here hours m c.args.t c.refused.result refl
          (rw (c.in_ok-rule.ensures, these, c.max_jobs.ensures.number) at (c.in-Err.ensures hours)) same c.refused.ensures.recorded (c.refused.ensures.reply hours),
      λ read. c.refused.ensures.cause ((submit_refused c.args.order
          (rule_of c.in_ok-rule.rule.now (λ _. true)) c.args.meta.now.next_job c.max_jobs.result c.args.t c.in-Err.refusal (c.in-Err.ensures (λ _. true))).known
          (λ few. read_recorded read.0 c.args.order c.args.meta.now.next_job c.args.t read.1 first
          (let low = ltb-false c.max_jobs.result c.args.meta.now.next_job few in let most = c.max_jobs.ensures.bounds.1 in omega (arith, low, most)))),
    )
