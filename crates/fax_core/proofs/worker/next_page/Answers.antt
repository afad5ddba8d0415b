use Rattle.std.proofs.Common.{◌≡◌, ◌+◌, ◌<◌, Ok, Result, subst, arith}
use Rattle.fax_job.specs.declared.refusal.Refusal.{Refusal}
use Rattle.fax_core.specs.Change.{changed}
use Rattle.fax_core.specs.Decisions.{JobAndGrant, page_of}
use Rattle.fax_core.specs.Job.{job_of}
use Rattle.fax_core.proofs.ReportLemmas.{paged}
use Rattle.fax_core.proofs.worker.next_page.Goals as goal

pub returns : goal.returns
returns c g =
    let fields = c.fields-fields.result.now in
    let less : fields.npages < fields.totpages = omega (arith, c.if-fields.false) in
    let is : c.args.confirmed ≡ fields.npages + 1 = omega (arith, c.if-confirmed-fields.false) in
    subst (λ f. ◌≡◌ {A = Result JobAndGrant Refusal} (Ok (record { job = changed (record c.none.result { npages = c.args.confirmed; ntries = 0 }) (job_of f); grant = record g { confirmed = g.confirmed + 1 } })) (page_of (job_of f).left c.args.confirmed (job_of f) g))
    c.fields-fields.ensures.fields (paged fields c.args.confirmed c.none.result g c.none.ensures.fields less is)
