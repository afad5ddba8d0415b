use Rattle.std.proofs.Common.{subst, sym}
use Rattle.fax_core.specs.Queue.{Queue}
use Rattle.fax_store.proofs.FrameLemmas.{follows_at, follows_of}
use Rattle.fax_store.specs.Calls.{within}
use Rattle.fax_store.specs.Work.{Works}
use Rattle.fax_once.proofs.KnownLemmas.{aged_still, fails_where}
use Rattle.fax_once.proofs.accepting.age.Goals as goal

pub returns-then-is_aged : goal.returns-then-is_aged
returns-then-is_aged g c = record {
  leaves = follows_at g.S.Store c.args.work.now;
  fails = tt;
  changes = λ m₀ m k₀ k aged works.
      subst (λ (q : Queue). Works (within g.S.Store c.args.work.now) c.args.work.now.failed m₀ k₀ q k) (sym (aged_still c.args.t m (aged c.if-is_aged.true))) works;
  cause = λ m₀ m k₀ k works serves fits. tt;
}

pub returns : goal.returns
returns g c = record {
  leaves = follows_of g.S.Store _ _ _ c.expire_all.ensures.leaves;
  fails = fails_where c.expire_all.result _ c.expire_all.ensures.leaves.fails;
  changes = λ m₀ m k₀ k aged works. c.expire_all.ensures.changes m₀ m k₀ k works;
  cause = λ m₀ m k₀ k works serves fits. c.expire_all.ensures.cause;
}
