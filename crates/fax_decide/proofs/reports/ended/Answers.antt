use Rattle.fax_decide.specs.Settings.{settings_of}
use Rattle.fax_decide.proofs.LookingLemmas.{no_call, stops, takes}
use Rattle.fax_decide.specs.declared.effect.Effect.TheVariants.{Closed}
use Rattle.fax_decide.proofs.DecisionLemmas.{taken_or}
use Rattle.fax_decide.proofs.ReportLemmas.{outcome_taken}
use Rattle.fax_decide.proofs.reports.ended.Goals as goal

pub returns : goal.returns
returns g c =
    let effect = Closed c.in_ok-job.job c.args.grant.now.number in
    takes effect c.stands-reply.result _ c.take.ensures c.stands-reply.ensures
    (λ m told sound there is_open keeps. taken_or effect _ _ c.stands-reply.result _ c.take.ensures told (λ r told.
    outcome_taken (settings_of c.args.office.now.setup c.args.office.now.controls) m c.args.t c.args.change c.args.job c.in_ok-job.job
    c.args.grant.now r sound there is_open c.in_ok-job.ensures.after told))

pub returns-in_err-job : goal.returns-in_err-job
returns-in_err-job g c = stops c.from_residual.ensures.1 no_call (λ m out none sound there is_open keeps. absurd (let no = c.in_err-job.ensures.kept keeps in cc))
