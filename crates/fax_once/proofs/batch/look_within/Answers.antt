use Rattle.std.proofs.Common.{◌≡◌, ◌∙◌, IfOk, OnOk, ap, false, not, refl, rules, subst, sym}
use Rattle.fax_store.proofs.FrameLemmas.{looks_follow, looks_keep, looks_now}
use Rattle.fax_store.specs.Calls.{Looks, shown, within}
use Rattle.fax_store.specs.Store.{Serves, StaysOpen}
use Rattle.fax_decide.specs.Settings.{settings_of}
use Rattle.fax_once.proofs.AnsweringLemmas.{on_each, opens_by}
use Rattle.fax_once.proofs.BatchLemmas.{found_or_none}
use Rattle.fax_once.specs.Looking.{IsFound, IsFresh}
use Rattle.fax_once.proofs.batch.look_within.Goals as goal

pub returns-then-check : goal.returns-then-check
returns-then-check g c =
    let old = c.args.work.now in
    let new = c.check.new.self in
    let result = c.look_up-looked.result in
    let looked = c.look_up-looked.ensures in
    let a = c.args.arrival.now in
    let s = settings_of c.args.office.now.setup c.args.office.now.controls in
    let same : new.store.now ≡ c.look_up-looked.new.store = c.check.ensures.same in
    let fails : new.failed ≡ not (within g.S.Store new).in_transaction =
    (rw c.requires at c.check.ensures.fails) ∙ ap (λ store. not (shown g.S.Store store).in_transaction) (sym same) in
    let on : new.failed ≡ false = search rules in
    let looks = subst (λ store. Looks g.S.Store old.store.now store result) (sym same) looked.leaves in
    let here = λ (serves : Serves (within g.S.Store new)). subst (λ store. Serves (shown g.S.Store store)) same serves in
    record {
      leaves = looks_follow g.S.Store old new c.requires c.check.ensures.same_reference looks fails;
      goes_on = on_each result on;
      opens = opens_by (within g.S.Store old) (within g.S.Store new) old.failed result c.requires looks.clean
          (subst (λ store. OnOk result (StaysOpen (within g.S.Store old) (shown g.S.Store store))) (sym same) looked.opens);
      fresh = subst (λ store. IfOk result (IsFresh a (shown g.S.Store store))) (sym same) looked.fresh;
      found = λ m₀ tables m k₀ k sound sees works serves.
          let means = looks_now g.S.Store old new c.requires c.check.ensures.same_reference looks fails m₀ tables k₀ k works in
          found_or_none result _ (subst (λ store. IfOk result (IsFound s a m k (shown g.S.Store store))) (sym same) (looked.found tables m k sound sees means (here serves).clean))
          (looked.cause tables m k sound sees means (here serves));
      keeps = looks_keep g.S.Store old new c.requires c.check.ensures.same_reference looks fails;
    }

pub returns : goal.returns
returns g c =
    let old = c.args.work.now in
    let new = c.check.new.self in
    let result = c.look_up-looked.result in
    let looked = c.look_up-looked.ensures in
    let same : new.store.now ≡ c.look_up-looked.new.store = c.check.ensures.same in
    let fails : new.failed ≡ not (within g.S.Store new).in_transaction =
    (rw c.requires at c.check.ensures.fails) ∙ ap (λ store. not (shown g.S.Store store).in_transaction) (sym same) in
    let looks = subst (λ store. Looks g.S.Store old.store.now store result) (sym same) looked.leaves in
    record {
      leaves = looks_follow g.S.Store old new c.requires c.check.ensures.same_reference looks fails;
      goes_on = tt;
      opens = tt;
      fresh = tt;
      found = λ m₀ tables m k₀ k sound sees works serves. refl;
      keeps = looks_keep g.S.Store old new c.requires c.check.ensures.same_reference looks fails;
    }
