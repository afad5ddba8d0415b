use Rattle.std.proofs.Common.{◌≡◌, ◌∙◌, ap, sym, subst, true, false, [], ◌∷◌, Ok}
use Rattle.std.proofs.Math.Path.{fun_ext}
use Rattle.fax_core.specs.Job.{job_of}
use Rattle.fax_core.specs.Queue.{Queue}
use Rattle.fax_core.specs.Times.{has_ended}
use Rattle.fax_job.specs.declared.job.JobFields.{JobFields}
use Rattle.fax_store.specs.Calls.{Writes, WritesWhere, shown}
use Rattle.fax_store.specs.Job.{IsChange, with_set}
use Rattle.fax_store.specs.Times.{is_among, with_ends}
use Rattle.fax_store.specs.Work.{Steps}
use Rattle.fax_store.proofs.EndLemmas.{change_ends, change_goes}
use Rattle.fax_store.proofs.FrameLemmas.{runs_then}
use Rattle.fax_store.proofs.store.Store.write_change.Goals as goal

pub returns-then-not-has_ended : goal.returns-then-not-has_ended
returns-then-not-has_ended g c =
    let j = job_of c.args.job.now in
    let goes : has_ended j.phase ≡ false = ap (λ (f : JobFields). has_ended f.phase) (sym c.fields-fields.ensures.fields) ∙ sym c.has_ended.ensures ∙ c.if-not-has_ended.true in
    subst (λ (f : Queue → Queue). WritesWhere g.S.Store {A = Unit {0}} c.args.self.now c.set_job.new.self (Ok tt) (IsChange j) f (λ k. k)) (sym (fun_ext (change_goes c.args.t j goes))) c.in_ok-set_job.ensures

pub returns : goal.returns
returns g c =
    let j = job_of c.args.job.now in
    let fields = c.fields-fields.ensures.fields in
    let over : has_ended j.phase ≡ true = ap (λ (f : JobFields). has_ended f.phase) (sym fields) ∙ sym c.has_ended.ensures ∙ c.if-not-has_ended.false in
    let new = shown g.S.Store c.end_job.new.self in
    let ended = subst (λ n. Writes g.S.Store c.set_job.new.self c.end_job.new.self c.end_job.result (with_ends c.args.t (is_among (n ∷ []))) (λ k. k)) (ap (λ (f : JobFields). f.job) fields) c.end_job.ensures in
    record {
      leaves = runs_then g.S.Store c.in_ok-set_job.ensures.leaves ended.leaves;
      written = λ m₀ m k₀ k change works s.
          let first = c.in_ok-set_job.ensures.written m₀ m k₀ k change works (ended.leaves.served s) in
          subst (λ (after : Queue). Steps new c.end_job.result m₀ k₀ after k) (change_ends c.args.t j over m) (ended.written m₀ (with_set j m) k₀ k (λ _. first) s);
      cause = ended.cause;
    }
