use Rattle.std.proofs.Common.{◌≡◌, ◌≤◌, true, refl, ap, subst, sym, arith, ltb-false}
use Rattle.std.proofs.lemmas.Bool.{and_parts}
use Rattle.fax_core.proofs.KeepLemmas.{jobs_few}
use Rattle.fax_core.specs.Ageing.{aged}
use Rattle.fax_core.specs.Import.{bring}
use Rattle.fax_core.specs.Job.{job_of}
use Rattle.fax_core.specs.Machine.{brought_in}
use Rattle.fax_core.specs.Submission.{rule_of}
use Rattle.fax_core.proofs.ImportLemmas.{bring_counts}
use Rattle.fax_core.proofs.ReadImportLemmas.{read_old_recorded}
use Rattle.fax_tables.specs.declared.meta.Meta.{Meta}
use Rattle.fax_decide.specs.Decision.{Decides}
use Rattle.fax_decide.specs.Fault.{OrNoAnswer}
use Rattle.fax_decide.specs.Settings.{have_moment, machine_rule, rule_for, settings_of}
use Rattle.fax_decide.proofs.FaultLemmas.{both_sides}
use Rattle.fax_decide.proofs.JobLemmas.{recorded_ok}
use Rattle.fax_decide.proofs.LookingLemmas.{decides, gives, goes_on, no_call}
use Rattle.fax_decide.proofs.NewJobLemmas.{bring_refused, refused_new}
use Rattle.fax_decide.proofs.import.decide_import.Goals as goal

pub refused-requires-clause-notice : goal.refused-requires-clause-notice
refused-requires-clause-notice g c named =
    (and_parts _ _ ((bring_refused c.args.import (rule_of c.in_ok-rule.rule.now (λ _. true)) c.args.meta.now.next_job c.max_jobs.result c.args.t
    c.in-Err.refusal (c.in-Err.ensures (λ _. true))).rejects named)).1

pub refused-requires-clause-plain : goal.refused-requires-clause-plain
refused-requires-clause-plain g c = (bring_refused c.args.import
    (rule_of c.in_ok-rule.rule.now (λ _. true)) c.args.meta.now.next_job c.max_jobs.result c.args.t c.in-Err.refusal (c.in-Err.ensures (λ _. true))).plain

pub returns-in-Ok : goal.returns-in-Ok
returns-in-Ok g c = decides (gives c.brought.ensures (λ m k at brought sound these.
    let s = settings_of c.args.office.now.setup c.args.office.now.controls in
    let rule = rule_for c.args.office.now.controls c.args.import.order.dial in
    let here = machine_rule c.args.office.now.setup rule in
    let hours = have_moment c.args.office.now.setup rule.hours in
    let is = recorded_ok (bring c.args.import here m.next_job c.args.office.now.setup.max_jobs c.args.t) (job_of c.in-Ok.job)
    (rw (c.in_ok-rule.ensures, these, c.max_jobs.ensures.number) at (c.in-Ok.ensures hours)) in
    both_sides c.brought.result _ (subst (λ r. OrNoAnswer c.brought.result (Decides (brought_in s (aged c.args.t m) c.args.t here r) m c.args.t)) (sym is)
    (brought here sound (bring_counts c.args.import here m.next_job _ c.args.t (job_of c.in-Ok.job) is).number))))

pub returns-in-Err : goal.returns-in-Err
returns-in-Err g c = decides (goes_on no_call (λ m k at none sound these.
    let s = settings_of c.args.office.now.setup c.args.office.now.controls in
    let next : c.args.meta.now.next_job ≡ m.next_job = ap (λ (x : Meta). x.next_job) these in
    let rule = rule_for c.args.office.now.controls c.args.import.order.dial in
    let here = machine_rule c.args.office.now.setup rule in
    let hours = have_moment c.args.office.now.setup rule.hours in
    let same = ap (λ r. rule_of r hours) c.in_ok-rule.ensures in
    let first : 1 ≤ c.args.meta.now.next_job = omega (arith, next, jobs_few m sound) in (
      refused_new (brought_in s (aged c.args.t m) c.args.t here) _ c.in-Err.refusal c.in_ok-rule.rule.now here hours m c.args.t c.refused.result refl
          (rw (c.in_ok-rule.ensures, these, c.max_jobs.ensures.number) at (c.in-Err.ensures hours)) same c.refused.ensures.recorded (c.refused.ensures.reply hours),
      λ read. c.refused.ensures.cause ((bring_refused c.args.import
          (rule_of c.in_ok-rule.rule.now (λ _. true)) c.args.meta.now.next_job c.max_jobs.result c.args.t c.in-Err.refusal (c.in-Err.ensures (λ _. true))).known
          (λ few. read_old_recorded read.0 c.args.import c.args.meta.now.next_job c.args.t read.1 first
          (let low = ltb-false c.max_jobs.result c.args.meta.now.next_job few in let most = c.max_jobs.ensures.bounds.1 in omega (arith, low, most)))),
    )))
