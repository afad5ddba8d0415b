use Rattle.std.proofs.Common.{◌<◌, ◌≤◌, All, length, Ok, true, false, refl, subst, rules}
use Rattle.std.proofs.lemmas.List.{take_all}
use Rattle.sqlite.specs.Held.{state}
use Rattle.fax_check.specs.Check.{IsCalled}
use Rattle.fax_check.proofs.BridgeLemmas.{all_grown, at_all}
use Rattle.fax_check.proofs.TellsLemmas.{looks_since, looks_tells, since_tells, since_told}
use Rattle.fax_check.proofs.checking.is_called.Goals as goal

pub returns-then-not-branch : goal.returns-then-not-branch
returns-then-not-branch g c =
    let first = c.args.conn.now in
    let mid = c.loop-holder.conn in
    let db = (state g.S.Store first).now in
    let i = c.loop-holder.holder-index in
    let low : i < length c.args.held.now = search rules in
    looks_tells g.S.Store first mid c.is_counted.new.conn _ (Ok false) _ _ c.loop-holder.invariant.since c.in_ok-is_counted.ensures tt (λ x same. same)
    (λ stored clean is told. (λ no. absurd (let e = no in cc), λ all. absurd (let on = told.1 (subst (λ d. IsCalled d c.args.held.now c.holder-item.result) is (at_all (IsCalled db c.args.held.now) c.args.held.now i c.holder-item.result low c.holder-item.is all)) in let off = c.if-not-branch.true in cc)))

pub loop-holder-preserved : goal.loop-holder-preserved
loop-holder-preserved g c =
    let first = c.args.conn.now in
    let mid = c.loop-holder.conn in
    let db = (state g.S.Store first).now in
    let i = c.loop-holder.holder-index in
    let low : i < length c.args.held.now = search rules in
    record {
      since = since_tells g.S.Store first mid c.is_counted.new.conn _ _ c.loop-holder.invariant.since c.in_ok-is_counted.ensures;
      told = λ stored clean.
          let told = since_told g.S.Store first mid c.is_counted.new.conn _ _ c.loop-holder.invariant.since c.in_ok-is_counted.ensures stored clean in
          all_grown (IsCalled db c.args.held.now) c.args.held.now i c.holder-item.result low c.holder-item.is (c.loop-holder.invariant.told stored (c.in_ok-is_counted.ensures.clean clean)) (told.0 (search rules));
    }

pub returns : goal.returns
returns g c =
    let first = c.args.conn.now in
    let db = (state g.S.Store first).now in
    looks_since g.S.Store first c.loop-holder.conn true _ c.loop-holder.invariant.since (λ stored clean.
    let all : length c.args.held.now ≤ c.loop-holder.holder-index = search rules in
    (λ _. subst (All (IsCalled db c.args.held.now)) (take_all c.loop-holder.holder-index c.args.held.now all) (c.loop-holder.invariant.told stored clean), λ _. refl))
