use Rattle.std.proofs.Common.{rules, ◌≡◌, ◌≤◌, ◌-◌, drop, arith, sym, subst}
use borrow.Rule.Slice.PartMut.{mid_of}
use Rattle.std.proofs.lemmas.List.{length-drop, take_all}
use Rattle.sqlite_rules.specs.Lists.{Has}
use Rattle.sqlite_rules.proofs.ListLemmas.{all_has}
use Rattle.sqlite_rules.proofs.ProbeLemmas.{mapped_has}
use Rattle.fax_schema.specs.Schema.{AreOurs, core_tables}
use Rattle.fax_schema.specs.Way.{HasWay, Leads, layout_of}
use Rattle.fax_schema.specs.declared.way.TheConstants.{UPGRADES}
use Rattle.fax_schema.proofs.way.way_of.Goals as goal

pub returns-in_default : goal.returns-in_default
returns-in_default c = subst (λ all. Has all c.args.schema.now → ⊥) c.known_ways.ensures.layouts (rw c.in_default.is at c.in_ok-known.ensures)

pub slice_bounds-result-count : goal.slice_bounds-result-count
slice_bounds-result-count c = let it = rw c.in-Some.is at c.in_ok-known.ensures in (all_has HasWay c.known_ways.result.now c.in-Some.known.now c.known_ways.ensures.ways it.0).some

pub slice_bounds-result-start : goal.slice_bounds-result-start
slice_bounds-result-start c = let low : c.in-Some.known.now.2 ≤ 4 = slice_bounds-result-count c in search rules

pub returns : goal.returns
returns c =
    let it = rw c.in-Some.is at c.in_ok-known.ensures in
    let known = c.in-Some.known.now in
    let way : HasWay known = all_has HasWay c.known_ways.result.now known c.known_ways.ensures.ways it.0 in
    let gains : mid_of known.2 (4 - known.2) UPGRADES ≡ drop known.2 UPGRADES = take_all (4 - known.2) (drop known.2 UPGRADES) (omega (arith, length-drop known.2 UPGRADES)) in
    let ours : AreOurs (layout_of known) = subst (λ all. Has all (layout_of known)) c.known_ways.ensures.layouts (mapped_has layout_of c.known_ways.result.now known it.0) in (
      subst AreOurs (sym it.1) ours,
      (way.between, subst (λ s. Leads known.1.now s way.between) (sym it.1) way.loses, subst (λ steps. Leads steps way.between core_tables) (sym gains) way.gains),
    )
