use Rattle.fax_core.specs.Ledger.{without_replies}
use Rattle.fax_store.proofs.FrameLemmas.{runs_then, writes_where_refused}
use Rattle.fax_store.proofs.store.Store.put_floor.Goals as goal

pub returns : goal.returns
returns g c = record {
  leaves = runs_then g.S.Store c.in_ok-drop_replies.ensures.leaves c.write_floor.ensures.leaves;
  written = λ m₀ m k₀ k name works s. let first = c.in_ok-drop_replies.ensures.written m₀ m k₀ k works (c.write_floor.ensures.leaves.served s) in
      c.write_floor.ensures.written m₀ m k₀ (without_replies c.args.client.now c.args.floor k) name (λ _. first) s;
  cause = c.write_floor.ensures.cause;
}

pub returns-in_err-drop_replies : goal.returns-in_err-drop_replies
returns-in_err-drop_replies g c =
    writes_where_refused g.S.Store _ c.from_residual.ensures.1 c.in_err-drop_replies.ensures.leaves c.in_err-drop_replies.ensures.cause
