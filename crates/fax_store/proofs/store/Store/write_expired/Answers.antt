use Rattle.std.proofs.Common.{subst}
use Rattle.sqlite.specs.Held.{state}
use Rattle.fax_store.specs.Job.{with_expired_in}
use Rattle.fax_job.specs.declared.job.Phase.TheVariants.{Held}
use Rattle.fax_store.specs.Work.{Steps}
use Rattle.fax_store.proofs.JobLemmas.{expired_in_turn}
use Rattle.fax_store.proofs.FrameLemmas.{runs_then, writes_refused}
use Rattle.fax_store.proofs.store.Store.write_expired.Goals as goal

pub returns : goal.returns
returns g c = record {
  leaves = runs_then g.S.Store c.in_ok-expire_in.ensures.leaves c.expire_in-2.ensures.leaves;
  written = λ m₀ m k₀ k works s. let new = state g.S.Store c.expire_in-2.new.self.conn in
      let first = c.in_ok-expire_in.ensures.written m₀ m k₀ k works (c.expire_in-2.ensures.leaves.served s) in
      subst (λ after. Steps new c.expire_in-2.result m₀ k₀ after k) (expired_in_turn c.args.t m) (c.expire_in-2.ensures.written m₀ (with_expired_in Held c.args.t m) k₀ k (λ _. first) s);
  cause = c.expire_in-2.ensures.cause;
}

pub returns-in_err-expire_in : goal.returns-in_err-expire_in
returns-in_err-expire_in g c =
    writes_refused g.S.Store _ c.from_residual.ensures.1 c.in_err-expire_in.ensures.leaves c.in_err-expire_in.ensures.cause
