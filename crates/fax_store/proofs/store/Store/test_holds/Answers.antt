use Rattle.std.proofs.Common.{◌≡◌, [], length, ap, arith}
use Rattle.std.proofs.lemmas.List.{nil_from_length}
use Rattle.fax_store.proofs.HeldLemmas.{lost_none, none_lost}
use Rattle.fax_store.proofs.FrameLemmas.{tests_by}
use Rattle.fax_store.proofs.store.Store.test_holds.Goals as goal

pub returns : goal.returns
returns g c =
    let few = c.if-len-gt0.false in
    let none : c.in_ok-lost.lost.items ≡ [] = nil_from_length c.in_ok-lost.lost.items (omega (arith, few, c.len.ensures)) in
    tests_by g.S.Store _ c.in_ok-lost.ensures.leaves
    (λ tables clean. none_lost _ _ tables c.in_ok-lost.lost.items (c.in_ok-lost.ensures.found clean) none)

pub returns-then-len-gt0 : goal.returns-then-len-gt0
returns-then-len-gt0 g c =
    tests_by g.S.Store _ c.in_ok-lost.ensures.leaves (λ tables clean held.
    let none = ap length (lost_none _ _ tables c.in_ok-lost.lost.items (c.in_ok-lost.ensures.found clean) held) in
    omega (arith, none, c.if-len-gt0.true, c.len.ensures))
