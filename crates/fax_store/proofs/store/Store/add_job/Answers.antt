use Rattle.fax_core.specs.Job.{job_of}
use Rattle.fax_store.specs.Job.{with_placed}
use Rattle.fax_store.proofs.FrameLemmas.{refused_as, runs_then, writes_if_refused}
use Rattle.fax_store.proofs.store.Store.add_job.Goals as goal

pub returns : goal.returns
returns g c =
    let first = c.in_ok-insert_job.ensures in
    let second = c.insert_times.ensures in
    let j = job_of c.args.job.now in
    record {
      leaves = runs_then g.S.Store first.leaves second.leaves;
      written = λ m₀ m k₀ k works s. second.written m₀ (with_placed j m) k₀ k (λ at. first.written m₀ m k₀ k works at) s;
      cause = λ m₀ m k₀ k works s fits. second.cause m₀ (with_placed j m) k₀ k (λ at. first.written m₀ m k₀ k works at) s fits.1;
    }

pub returns-in_err-insert_job : goal.returns-in_err-insert_job
returns-in_err-insert_job g c =
    let told = c.from_residual.ensures.1 in
    writes_if_refused g.S.Store _ told c.in_err-insert_job.ensures.leaves (λ m₀ m k₀ k works s fits.
    refused_as c.from_residual.result c.in_err-insert_job.field-0.0 told (c.in_err-insert_job.ensures.cause m₀ m k₀ k works s fits.0))
