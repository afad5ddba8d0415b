use Rattle.std.proofs.Common.{OnOk, ◌≡◌, ◌∙◌, ap, false, not, refl, rules, subst, sym}
use Rattle.fax_store.proofs.FrameLemmas.{looks_follow, looks_keep, looks_now}
use Rattle.fax_store.specs.Calls.{Looks, shown, within}
use Rattle.fax_store.specs.Store.{Serves, StaysOpen}
use Rattle.fax_once.proofs.AnsweringLemmas.{on_each, opens_by}
use Rattle.fax_once.proofs.acceptance.decide_within.Goals as goal

pub returns-then-check : goal.returns-then-check
returns-then-check g c =
    let old = c.args.work.now in
    let new = c.check.new.self in
    let result = c.decide_now-decided.result in
    let looked = c.decide_now-decided.ensures in
    let same : new.store.now ≡ c.decide_now-decided.new.store = c.check.ensures.same in
    let fails : new.failed ≡ not (within g.S.Store new).in_transaction =
    (rw c.requires at c.check.ensures.fails) ∙ ap (λ store. not (shown g.S.Store store).in_transaction) (sym same) in
    let on : new.failed ≡ false = search rules in
    let looks = subst (λ store. Looks g.S.Store old.store.now store result) (sym same) looked.leaves in
    let here = λ (serves : Serves (within g.S.Store new)). subst (λ store. Serves (shown g.S.Store store)) same serves in
    record {
      leaves = looks_follow g.S.Store old new c.requires c.check.ensures.same_reference looks fails;
      goes_on = on_each result on;
      keeps = looks_keep g.S.Store old new c.requires c.check.ensures.same_reference looks fails;
      opens = opens_by (within g.S.Store old) (within g.S.Store new) old.failed result c.requires looks.clean (subst (λ store. OnOk result (StaysOpen (within g.S.Store old) (shown g.S.Store store))) (sym same) looked.opens);
      decided = λ m₀ tables m k₀ k sound works known serves read.
          looked.decided tables m k sound (looks_now g.S.Store old new c.requires c.check.ensures.same_reference looks fails m₀ tables k₀ k works) known (here serves) read;
    }

pub returns-else-check : goal.returns-else-check
returns-else-check g c =
    let old = c.args.work.now in
    let new = c.check.new.self in
    let result = c.decide_now-decided.result in
    let same : new.store.now ≡ c.decide_now-decided.new.store = c.check.ensures.same in
    let fails : new.failed ≡ not (within g.S.Store new).in_transaction =
    (rw c.requires at c.check.ensures.fails) ∙ ap (λ store. not (shown g.S.Store store).in_transaction) (sym same) in
    let looks = subst (λ store. Looks g.S.Store old.store.now store result) (sym same) c.decide_now-decided.ensures.leaves in
    record {
      leaves = looks_follow g.S.Store old new c.requires c.check.ensures.same_reference looks fails;
      goes_on = tt;
      keeps = looks_keep g.S.Store old new c.requires c.check.ensures.same_reference looks fails;
      opens = tt;
      decided = λ m₀ tables m k₀ k sound works known serves read. refl;
    }
