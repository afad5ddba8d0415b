use Rattle.fax_store.specs.Purge.{without_grants, without_times}
use Rattle.fax_store.proofs.FrameLemmas.{runs_then, writes_where_refused}
use Rattle.fax_store.proofs.LeaveLemmas.{idle_still}
use Rattle.fax_store.proofs.store.Store.drop_job.Goals as goal

pub returns-in_err-drop_grants : goal.returns-in_err-drop_grants
returns-in_err-drop_grants g c =
    writes_where_refused g.S.Store _ c.from_residual.ensures.1 c.in_err-drop_grants.ensures.leaves c.in_err-drop_grants.ensures.cause

pub returns-in_err-drop_times : goal.returns-in_err-drop_times
returns-in_err-drop_times g c =
    writes_where_refused g.S.Store _ c.from_residual-in_err-drop_times.ensures.1 (runs_then g.S.Store c.in_ok-drop_grants.ensures.leaves c.in_err-drop_times.ensures.leaves) c.in_err-drop_times.ensures.cause

pub returns : goal.returns
returns g c =
    let n = c.args.job in record {
      leaves = runs_then g.S.Store (runs_then g.S.Store c.in_ok-drop_grants.ensures.leaves c.in_ok-drop_times.ensures.leaves) c.drop_one.ensures.leaves;
      written = λ m₀ m k₀ k idle works s.
          let at_end = c.drop_one.ensures.leaves.served s in
          let at_times = c.in_ok-drop_times.ensures.leaves.served at_end in
          let first = c.in_ok-drop_grants.ensures.written m₀ m k₀ k idle works at_times in
          let next = c.in_ok-drop_times.ensures.written m₀ (without_grants n m) k₀ k (λ _. first) at_end in
          c.drop_one.ensures.written m₀ (without_times n (without_grants n m)) k₀ k (idle_still n m idle) (λ _. next) s;
      cause = c.drop_one.ensures.cause;
    }
