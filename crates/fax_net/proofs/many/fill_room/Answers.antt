use Rattle.std.proofs.Common.{◌≡◌, ◌+◌, ◌≤◌, get_or, arith, rules}
use Rattle.std.proofs.lemmas.Bool.Decides.{nat_tests}
use Rattle.fax_net.specs.History.{room}
use Rattle.fax_net.specs.Link.{untaken_by, untaken_in}
use Rattle.fax_net.proofs.RoomLemmas.{front_untaken, next_untaken}
use Rattle.fax_net.proofs.many.fill_room.Goals as goal

pub loop-link-preserved : goal.loop-link-preserved
loop-link-preserved c =
    let links = c.args.links.now in
    let at = c.loop-link.link-index in
    let item = c.link-item.result in
    let more = next_untaken links at item (omega (arith, c.loop-link-test.true)) in
    let here : untaken_by (get_or links at item) ≡ untaken_by item = search rules in
    (omega (arith, more, here, c.loop-link.invariant.0, c.untaken-untaken.ensures, c.if-left-untaken.false), omega (arith, c.if-left-untaken.false))

pub returns-then-left-untaken : goal.returns-then-left-untaken
returns-then-left-untaken c =
    let links = c.args.links.now in
    let at = c.loop-link.link-index in
    let item = c.link-item.result in
    let more = next_untaken links at item (omega (arith, c.loop-link-test.true)) in
    let here : untaken_by (get_or links at item) ≡ untaken_by item = search rules in
    let front = front_untaken links (at + 1) in
    let filled : room ≤ untaken_in links = omega (arith, more, here, front, c.loop-link.invariant.0, c.untaken-untaken.ensures, c.if-left-untaken.true) in
    grind (arith, nat_tests)
