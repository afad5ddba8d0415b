use Rattle.std.proofs.Common.{◌≡◌, sym, subst, ◌∙◌}
use Rattle.sqlite.specs.Effect.{Database}
use Rattle.sqlite.specs.Held.{state}
use Rattle.fax_store.specs.Adopt.{HoldsCanBeCalled, IsSettled}
use Rattle.fax_store.proofs.AdoptLemmas.{none_still, settled_means, settled_none}
use Rattle.fax_store.proofs.HeldLemmas.{held_still}
use Rattle.fax_store.proofs.WorkLemmas.{given_ok, not_strange}
use Rattle.fax_store.proofs.store.Store.fill.Goals as goal

pub returns-clause-counted : goal.returns-clause-counted
returns-clause-counted g c m k has clean =
    let s0 = state g.S.Store c.args.self.now.conn in
    let s1 = state g.S.Store c.test_version.new.self.conn in
    let s2 = state g.S.Store c.test_holds.new.self.conn in
    let s3 = state g.S.Store c.settle_version.new.self.conn in
    let clean3 = c.count_holds.ensures.leaves.clean clean in
    let clean2 = c.in_ok-settle_version.ensures.leaves.clean clean3 in
    let clean1 = c.in_ok-test_holds.ensures.clean clean2 in
    let one = (c.in_ok-test_version.ensures.ours has.schema_is clean1).1 in
    let has1 = none_still s0 s1 has one in
    let two = (c.in_ok-test_holds.ensures.ours has1.schema_is clean2).1 in
    let has2 = none_still s1 s2 has1 two in
    let settled = c.in_ok-settle_version.ensures.leaves.goes clean3 has2 in
    let has3 = settled_none c.args.version s2 s3 has2 settled.0 settled.1 in
    let same : s2.now ≡ s0.now = two.0.now_is ∙ one.0.now_is in
    given_ok _ _ c.count_holds.result (λ mean. c.count_holds.ensures.counted m k has3 clean
    (settled_means c.args.version s0.now s3.now m k (subst (λ (d : Database). IsSettled c.args.version d s3.now) same settled.1) mean))

pub returns-clause-strange : goal.returns-clause-strange
returns-clause-strange g c clean is has version can =
    let s0 = state g.S.Store c.args.self.now.conn in
    let s1 = state g.S.Store c.test_version.new.self.conn in
    let s2 = state g.S.Store c.test_holds.new.self.conn in
    let s3 = state g.S.Store c.settle_version.new.self.conn in
    let clean3 = c.count_holds.ensures.leaves.clean clean in
    let clean2 = c.in_ok-settle_version.ensures.leaves.clean clean3 in
    let clean1 = c.in_ok-test_holds.ensures.clean clean2 in
    let one = (c.in_ok-test_version.ensures.ours has.schema_is clean1).1 in
    let has1 = none_still s0 s1 has one in
    let two = (c.in_ok-test_holds.ensures.ours has1.schema_is clean2).1 in
    let has2 = none_still s1 s2 has1 two in
    let settled = c.in_ok-settle_version.ensures.leaves.goes clean3 has2 in
    let has3 = settled_none c.args.version s2 s3 has2 settled.0 settled.1 in
    let same : s2.now ≡ s0.now = two.0.now_is ∙ one.0.now_is in
    not_strange c.count_holds.result (c.count_holds.ensures.cause has3 clean (held_still s2.now s3.now settled.1.0.rows (subst HoldsCanBeCalled (sym same) can))) is
