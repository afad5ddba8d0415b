use Rattle.std.proofs.Common.{arith}
use Rattle.fax_store.proofs.FloorLemmas.{goes_first, goes_on_by, thins_all, thins_failed, thins_few}
use Rattle.fax_store.proofs.store.Store.drop_hundreds.Goals as goal

pub loop-init : goal.loop-init
loop-init g c = goes_first g.S.Store _ _ _

pub returns-in_err-drop_hundred-clause-thins : goal.returns-in_err-drop_hundred-clause-thins
returns-in_err-drop_hundred-clause-thins g c =
    thins_failed g.S.Store _ _ c.loop.invariant c.from_residual.result c.from_residual.ensures.1 c.in_err-drop_hundred.ensures.takes

pub returns-then-not-branch-clause-thins : goal.returns-then-not-branch-clause-thins
returns-then-not-branch-clause-thins g c = thins_few g.S.Store _ _ c.loop.invariant (rw c.if-not-branch.true at c.in_ok-drop_hundred.ensures.takes)

pub loop-preserved : goal.loop-preserved
loop-preserved g c = goes_on_by g.S.Store _ _ c.loop.invariant (rw c.if-not-branch.false at c.in_ok-drop_hundred.ensures.takes)

pub returns-clause-thins : goal.returns-clause-thins
returns-clause-thins g c = thins_all g.S.Store _ _ c.loop.counter (omega (arith, c.loop-test.false, c.requires)) c.loop.invariant
