use Rattle.std.proofs.Common.{◌≡◌, ◌-◌, Err, refl, sym, ap, ◌∙◌, option_map}
use Rattle.std.proofs.lemmas.Option.{none-some}
use Rattle.fax_core.specs.Job.{fields_of}
use Rattle.fax_core.specs.Queue.{job_numbered}
use Rattle.fax_core.specs.State.{calls_to}
use Rattle.fax_job.specs.declared.job.JobFields.{JobFields}
use Rattle.fax_store.specs.Grant.{IsCalled, with_closed}
use Rattle.fax_store.proofs.CountLemmas.{held_job}
use Rattle.fax_store.proofs.FrameLemmas.{goes_on, reads_on, refused_steps, runs_of, runs_then, there_as}
use Rattle.fax_store.proofs.store.Store.end_call.Goals as goal

pub returns-in_default-clause-written : goal.returns-in_default-clause-written
returns-in_default-clause-written g c m₀ m k₀ k works s held =
    let means = ((works (c.in_ok-job.ensures.leaves.served s)).goes_on refl).means in
    let found = c.in_ok-job.ensures.answers m k (λ _. means) s in
    let there = held_job m means.held c.args.number held.0 held.1 held.2 in
    absurd (none-some _ (sym c.in_default.is ∙ found ∙ ap (λ n. option_map fields_of (job_numbered n m)) (sym held.3) ∙ ap (option_map fields_of) there.1))

pub returns-clause-leaves : goal.returns-clause-leaves
returns-clause-leaves g c =
    runs_then g.S.Store (runs_then g.S.Store (runs_of g.S.Store c.in_ok-job.ensures.leaves) (runs_of g.S.Store c.in_ok-calls.ensures.leaves)) c.close_open.ensures.leaves

pub returns-clause-written : goal.returns-clause-written
returns-clause-written g c m₀ m k₀ k works s held =
    let at_then = c.close_open.ensures.leaves.served s in
    let first = reads_on g.S.Store c.in_ok-job.ensures.leaves c.in_ok-job.ensures.answers m₀ m k₀ k works (c.read_calls.ensures.leaves.served at_then) in
    let second = reads_on g.S.Store c.in_ok-calls.ensures.leaves c.in_ok-calls.ensures.answers m₀ m k₀ k (λ _. first.1) at_then in
    let it = there_as fields_of (job_numbered c.args.job m) c.in-Some.job (sym c.in-Some.is ∙ first.0) in
    let dial : c.in-Some.job.dial ≡ it.0.dial = ap (λ (f : JobFields). f.dial) it.2 in
    let of_first : c.fields.result.now.dial ≡ c.in-Some.job.dial = ap (λ (f : JobFields). f.dial) c.fields.ensures.fields in
    let of_second : c.fields-2.result.now.dial ≡ c.in-Some.job.dial = ap (λ (f : JobFields). f.dial) c.fields-2.ensures.fields in
    let called : IsCalled held.0.job c.fields-2.result.now.dial m = (it.0, ap (λ n. job_numbered n m) held.3 ∙ it.1, sym dial ∙ sym of_second) in
    c.close_open.ensures.written m₀ m k₀ k ((held.0, held.1, held.2, called), c.saturating_sub.ensures ∙ ap (λ n. n - 1) second.0 ∙ ap (λ d. calls_to d m - 1) (of_first ∙ sym of_second)) (λ _. second.1) s

pub returns-in_err-calls-clause-written : goal.returns-in_err-calls-clause-written
returns-in_err-calls-clause-written g c m₀ m k₀ k works s held =
    let calls = c.in_err-calls.ensures in
    let first = reads_on g.S.Store c.in_ok-job.ensures.leaves c.in_ok-job.ensures.answers m₀ m k₀ k works (calls.leaves.served s) in
    let second = goes_on _ _ calls.leaves.served (Err c.in_err-calls.field-0.0) calls.leaves.reads (λ m k calls. calls ≡ calls_to c.fields.result.now.dial m) calls.answers m₀ m k₀ k (λ _. first.1) s in
    refused_steps _ c.from_residual-in_err-calls.result c.in_err-calls.field-0.0 m₀ (with_closed c.args.number m) k₀ k c.from_residual-in_err-calls.ensures.1 second
