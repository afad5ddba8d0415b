use Rattle.std.proofs.Common.{◌≡◌, false, rules, subst, sym}
use Rattle.std.specs.Prelude.{Some}
use Rattle.fax_core.specs.Ageing.{is_past}
use Rattle.fax_core.specs.Job.{job_of}
use Rattle.fax_decide.specs.declared.effect.Effect.{Effect}
use Rattle.fax_once.proofs.KnownLemmas.{aged_with_new}
use Rattle.fax_once.specs.Known.{IsAgedAfter}
use Rattle.fax_once.proofs.known.aged_after.Goals as goal

pub returns-in-NewJob : goal.returns-in-NewJob
returns-in-NewJob c =
    let job = job_of c.in-NewJob.job in
    let is_new : c.is_past.result ≡ false = search rules in
    let off : is_past job.killtime c.args.t ≡ false = c.is_past.ensures is_new in
    subst (λ (e : Effect). IsAgedAfter e c.args.t (Some c.args.t)) (sym c.in-NewJob.is) (λ m. aged_with_new c.args.t job m off)
