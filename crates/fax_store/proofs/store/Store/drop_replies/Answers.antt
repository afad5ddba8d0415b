use Rattle.std.proofs.Common.{subst, arith}
use Rattle.fax_store.specs.Calls.{shown}
use Rattle.fax_store.specs.Work.{Steps}
use Rattle.fax_store.proofs.FrameLemmas.{runs_then, writes_refused}
use Rattle.fax_store.proofs.store.Store.drop_replies.Goals as goal

pub returns : goal.returns
returns g c = record {
  leaves = runs_then g.S.Store c.in_ok-drop_hundreds.ensures.thins.leaves c.drop_through.ensures.leaves;
  written = λ m₀ m k₀ k works s. let first = c.in_ok-drop_hundreds.ensures.thins.written m₀ m k₀ k works (c.drop_through.ensures.leaves.served s) in
      subst (λ kept. Steps (shown g.S.Store c.drop_through.new.self) c.drop_through.result m₀ k₀ m kept) first.1
      (c.drop_through.ensures.written m₀ m k₀ first.0 (omega (arith, first.3)) (λ _. first.2) s);
  cause = c.drop_through.ensures.cause;
}

pub returns-in_err-drop_hundreds : goal.returns-in_err-drop_hundreds
returns-in_err-drop_hundreds g c =
    writes_refused g.S.Store _ c.from_residual.ensures.1 c.in_err-drop_hundreds.ensures.thins.leaves c.in_err-drop_hundreds.ensures.cause
