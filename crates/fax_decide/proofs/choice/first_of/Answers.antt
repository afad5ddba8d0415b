use Rattle.std.proofs.Common.{true≢false, ◌≤◌, ℕ, List, length, Ok, sym, subst, ap, ◌∙◌, arith}
use Rattle.std.specs.Prelude.{◌==◌}
use Rattle.std.specs.Vec.Iter.{into_iter_items}
use Rattle.fax_core.proofs.KeepLemmas.{jobs_few}
use Rattle.fax_store.specs.Candidates.{StandsAt}
use Rattle.fax_store.specs.declared.candidates.Asked.{Asked}
use Rattle.fax_decide.specs.Fault.{fault_of}
use Rattle.fax_decide.proofs.ChoiceLemmas.{few_given, next_given, none_left, none_more, this_went}
use Rattle.fax_decide.proofs.LookingLemmas.{both, by_step, goes_on, stops}
use Rattle.fax_decide.proofs.choice.first_of.Goals as goal

pub returns-in_err-prospect-clause-consults : goal.returns-in_err-prospect-clause-consults
returns-in_err-prospect-clause-consults g c =
    let calls = both c.loop.invariant.consults (by_step c.prospect.result c.prospect.ensures.leaves c.prospect.ensures.opens c.in_err-prospect.ensures.found) in
    stops c.from_residual.ensures.1 calls (λ m out calls sound same stands learned.
    let went = (calls.0 same stands learned).1 in
    out _ (ap fault_of (calls.1 went.given (subst (λ (x : Asked). StandsAt x m went.given
    (into_iter_items c.loop.candidates.page) c.loop.candidates.front c.loop.candidates.most) (sym c.loop.invariant.asked) went.stands))))

pub returns-in_default-clause-consults : goal.returns-in_default-clause-consults
returns-in_default-clause-consults g c = goes_on (both c.loop.invariant.consults (by_step (Ok c.in_ok-prospect.field-0) c.in_ok-prospect.ensures.leaves c.in_ok-prospect.ensures.opens c.in_ok-prospect.ensures.found)) (λ m k at calls sound same stands learned.
    let before = calls.0 same stands learned in
    let next = next_given _ _ _ _ (into_iter_items c.prospect.new.self.page) c.prospect.new.self.front c.prospect.new.self.most
    c.loop.invariant.asked c.in_default.is before.1 calls.1 in
    (before.0, λ free. none_left _ m _ _ next))

pub returns-in_err-goes-clause-consults : goal.returns-in_err-goes-clause-consults
returns-in_err-goes-clause-consults g c =
    let calls = both (both c.loop.invariant.consults (by_step (Ok c.in_ok-prospect.field-0) c.in_ok-prospect.ensures.leaves c.in_ok-prospect.ensures.opens c.in_ok-prospect.ensures.found)) c.in_err-goes.ensures.consults in
    stops c.from_residual-in_err-goes.ensures.1 calls (λ m out calls sound same stands learned. out _ (calls.1 (calls.0.0 same stands learned).0))

pub returns-then-branch-clause-consults : goal.returns-then-branch-clause-consults
returns-then-branch-clause-consults g c = goes_on (both (both c.loop.invariant.consults (by_step (Ok c.in_ok-prospect.field-0) c.in_ok-prospect.ensures.leaves c.in_ok-prospect.ensures.opens c.in_ok-prospect.ensures.found)) c.in_ok-goes.ensures.consults) (λ m k at calls sound same stands learned.
    let before = calls.0.0 same stands learned in
    let next = next_given _ _ _ _ (into_iter_items c.prospect.new.self.page) c.prospect.new.self.front c.prospect.new.self.most
    c.loop.invariant.asked c.in-Some.is before.1 calls.0.1 in
    let told = calls.1 before.0 in
    (told.1, λ free. this_went _ m _ _ next _ c.args.t same told.0 c.if-branch.true))

pub loop-preserved : goal.loop-preserved
loop-preserved g c = record {
  same_reference = c.goes.ensures.same_reference ∙ c.prospect.ensures.same_reference ∙ c.loop.invariant.same_reference;
  asked = c.goes.ensures.same.0 ∙ c.prospect.ensures.asked ∙ c.loop.invariant.asked;
  consults = goes_on (both (both c.loop.invariant.consults (by_step (Ok c.in_ok-prospect.field-0) c.in_ok-prospect.ensures.leaves c.in_ok-prospect.ensures.opens c.in_ok-prospect.ensures.found)) c.in_ok-goes.ensures.consults) (λ m k at calls same stands learned.
      let before = calls.0.0 same stands learned in
      let next = next_given _ _ _ _ (into_iter_items c.prospect.new.self.page) c.prospect.new.self.front c.prospect.new.self.most
      c.loop.invariant.asked c.in-Some.is before.1 calls.0.1 in
      let told = calls.1 before.0 in
      let went = none_more _ m _ _ next _ c.args.t same told.0 c.if-branch.false in
      let stood = c.goes.ensures.same in
      (told.1, rw (stood.1, stood.2, stood.3) went));
}

pub returns-then-not-is_empty-clause-consults : goal.returns-then-not-is_empty-clause-consults
returns-then-not-is_empty-clause-consults g c = goes_on (both (both c.loop.invariant.consults (by_step (Ok c.in_ok-prospect.field-0) c.in_ok-prospect.ensures.leaves c.in_ok-prospect.ensures.opens c.in_ok-prospect.ensures.found)) c.in_ok-goes.ensures.consults) (λ m k at calls sound same stands learned.
    ((calls.1 (calls.0.0 same stands learned).0).1, λ free. absurd (true≢false (sym (sym c.if-not-is_empty.true ∙ c.is_empty.ensures ∙ ap (λ (numbers : List (List ℕ)). length numbers == 0) (c.as_slice.ensures.value ∙ free c.if-ends_at_busy.true))))))

pub returns-clause-consults : goal.returns-clause-consults
returns-clause-consults g c = goes_on c.loop.invariant.consults (λ m k at went sound same stands learned.
    let none = (went same stands learned).1 in
    let few = few_given c.args.candidates.now.asked m none.given _ _ _ none.stands in
    let next = at.lawful.meta.next_job.1 in
    let counted = none.counted in
    let all : 1000000 ≤ c.loop.counter = omega arith in
    absurd (omega (arith, few, counted, next, jobs_few m sound, all)))
