use Rattle.fax_decide.specs.Settings.{settings_of}
use Rattle.fax_decide.proofs.LookingLemmas.{both, gives}
use Rattle.fax_decide.proofs.ViewLemmas.{job_viewed}
use Rattle.fax_decide.proofs.view.show_job.Goals as goal

pub returns-in-Some : goal.returns-in-Some
returns-in-Some g c = gives (both c.in_ok-job.ensures.consults c.shown.ensures) (λ m k at calls.
    rw (job_viewed (settings_of c.args.office.now.setup c.args.office.now.controls) m c.args.t c.args.number c.in-Some.job _ calls.0 c.in-Some.is) at calls.1)
