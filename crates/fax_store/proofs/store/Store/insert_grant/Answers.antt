use Rattle.std.proofs.Common.{◌≡◌, ◌+◌, ◌<◌, refl, sym, ap, ◌∙◌, arith, rules, option_map}
use Rattle.std.proofs.lemmas.Option.{none-some}
use Rattle.fax_core.specs.Job.{fields_of}
use Rattle.fax_core.specs.Queue.{job_numbered}
use Rattle.fax_core.specs.State.{calls_to}
use Rattle.fax_job.specs.declared.job.JobFields.{JobFields}
use Rattle.fax_store.proofs.CountLemmas.{calls_few}
use Rattle.fax_store.proofs.FrameLemmas.{reads_on, refused_as, runs_of, runs_then, there_as}
use Rattle.fax_store.proofs.store.Store.insert_grant.Goals as goal

pub returns-in_default : goal.returns-in_default
returns-in_default g c = record {
  leaves = search rules;
  written = search rules;
  cause = λ m₀ m k₀ k works s fit. let found = c.in_ok-job.ensures.answers m k (λ at. ((works at).goes_on refl).means) s in
      absurd (none-some _ (sym c.in_default.is ∙ found ∙ ap (option_map fields_of) fit.2.1));
}

pub returns-in_default-checked_add : goal.returns-in_default-checked_add
returns-in_default-checked_add g c = record {
  leaves = search rules;
  written = search rules;
  cause = λ m₀ m k₀ k works s fit. let means = ((works (c.job.ensures.leaves.served (c.read_calls.ensures.leaves.served s))).goes_on refl).means in
      let first = reads_on g.S.Store c.in_ok-job.ensures.leaves c.in_ok-job.ensures.answers m₀ m k₀ k works (c.read_calls.ensures.leaves.served s) in
      let counted = c.in_ok-calls.ensures.answers m k (λ _. (first.1.goes_on refl).means) s in
      let low : c.in_ok-calls.calls + 1 < 4294967296 = omega (arith, counted, calls_few _ m k means c.fields.result.now.dial) in
      absurd (c.in_default-checked_add.ensures low);
}

pub returns : goal.returns
returns g c =
    let read_job = reads_on g.S.Store c.in_ok-job.ensures.leaves c.in_ok-job.ensures.answers in
    let read_calls = reads_on g.S.Store c.in_ok-calls.ensures.leaves c.in_ok-calls.ensures.answers in
    record {
      leaves = runs_then g.S.Store (runs_then g.S.Store (runs_of g.S.Store c.in_ok-job.ensures.leaves) (runs_of g.S.Store c.in_ok-calls.ensures.leaves)) c.place_grant.ensures.leaves;
      written = λ m₀ m k₀ k fit works s. let at_then = c.place_grant.ensures.leaves.served s in
          let first = read_job m₀ m k₀ k works (c.read_calls.ensures.leaves.served at_then) in
          let second = read_calls m₀ m k₀ k (λ _. first.1) at_then in
          let it = there_as fields_of (job_numbered c.args.grant.now.job m) c.in-Some.job (sym c.in-Some.is ∙ first.0) in
          let dial : c.in-Some.job.dial ≡ it.0.dial = ap (λ (f : JobFields). f.dial) it.2 in
          let of_first : c.fields.result.now.dial ≡ c.in-Some.job.dial = ap (λ (f : JobFields). f.dial) c.fields.ensures.fields in
          let of_second : c.fields-2.result.now.dial ≡ c.in-Some.job.dial = ap (λ (f : JobFields). f.dial) c.fields-2.ensures.fields in
          let more : c.in-Some-checked_add.more ≡ c.in_ok-calls.calls + 1 = search rules in
          c.place_grant.ensures.written m₀ m k₀ k (fit, (it.0, it.1, sym dial ∙ sym of_second), more ∙ ap (λ n. n + 1) second.0 ∙ ap (λ d. calls_to d m + 1) (of_first ∙ sym of_second)) (λ _. second.1) s;
      cause = λ m₀ m k₀ k works s fit. let at_then = c.place_grant.ensures.leaves.served s in
          let first = read_job m₀ m k₀ k works (c.read_calls.ensures.leaves.served at_then) in
          c.place_grant.ensures.cause m₀ m k₀ k (λ _. (read_calls m₀ m k₀ k (λ _. first.1) at_then).1) s (fit.0, fit.1);
    }

pub returns-in_err-calls : goal.returns-in_err-calls
returns-in_err-calls g c = record {
  leaves = search rules;
  written = search rules;
  cause = λ m₀ m k₀ k works s fit. let first = reads_on g.S.Store c.in_ok-job.ensures.leaves c.in_ok-job.ensures.answers m₀ m k₀ k works (c.read_calls.ensures.leaves.served s) in
      refused_as c.from_residual-in_err-calls.result c.in_err-calls.field-0.0 c.from_residual-in_err-calls.ensures.1 (c.in_err-calls.ensures.answers m k (λ _. (first.1.goes_on refl).means) s);
}
