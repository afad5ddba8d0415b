use Rattle.std.proofs.Common.{◌≡◌, ◌≤◌, ap, get_or, length, rules, subst, sym, true, ◌∙◌, arith}
use Rattle.fax_dest.specs.Controls.{matches, place_of}
use Rattle.fax_dest.proofs.FinderLemmas.{first_at, searches_some}
use Rattle.fax_dest.proofs.finder.Finder.rule_of.Goals as goal

pub returns-then-is_for : goal.returns-then-is_for
unfolding place_of
returns-then-is_for c = λ controls is.
    let before = c.loop-place.invariant.finds controls is in
    let reached = c.in_ok-reach.ensures.finds controls before.0 in
    let some = searches_some controls c.reach.new.self reached in
    let next = c.in_ok-reach.ensures.reached in
    let found : (d : _) → matches c.args.dial.now (get_or controls.rules.items c.loop-place.place d) ≡ true = λ d.
    subst (λ number. matches number (get_or controls.rules.items c.loop-place.place d) ≡ true) c.text.ensures.text
    (sym (c.is_for.ensures.found controls d reached) ∙ c.if-is_for.true) in (
      c.is_for.ensures.finds controls reached,
      first_at c.args.dial.now controls.rules.items c.loop-place.place (omega (arith, some, next)) before.1 (λ d within. found d),
    )

pub returns : goal.returns
unfolding place_of
returns c = λ controls is.
    let before = c.loop-place.invariant.finds controls is in
    let n = length c.loop-place.self.rules.now in
    let all : n ≡ length controls.rules.items = ap length before.0.rules in
    let end : n ≤ c.loop-place.place = search rules in (
      before.0,
      first_at c.args.dial.now controls.rules.items n (omega (arith, all)) (λ k d less. before.1 k d (omega (arith, less, end))) (λ d less. absurd (omega (arith, less, all))),
    )
