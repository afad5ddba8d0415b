use Rattle.std.proofs.Common.{◌≡◌, ◌∙◌, [], subst, arith, rules}
use Rattle.std.specs.Vec.Iter.{into_iter_items}
use Rattle.std.proofs.lemmas.List.{nil_from_length}
use Rattle.fax_store.specs.Candidates.{AreAsked, StandsAt}
use Rattle.fax_store.specs.declared.candidates.Asked.{Asked}
use Rattle.fax_store.proofs.CandidateLemmas.{reaches_err}
use Rattle.fax_store.proofs.FrameLemmas.{looks_as, looks_then, means_on}
use Rattle.fax_store.proofs.candidates.Candidates+S.refill.Goals as goal

pub returns-in_err-read_on : goal.returns-in_err-read_on
returns-in_err-read_on g c =
    let was = c.loop-self.invariant in
    let read = c.read_on.ensures in
    reaches_err g.S.Store (read.same_reference ∙ was.same_reference) (read.asked ∙ was.asked) (looks_then g.S.Store was.leaves c.in_err-read_on.ensures.leaves)
    (λ m k given means serves stands. let before = into_iter_items c.loop-self.self.page in
    let empty : before ≡ [] = nil_from_length before (omega (arith, c.loop-self-test.true, c.loop-self.self.page.rest.ok.0, c.len.ensures)) in
    let stood = rw (← was.asked, empty) at (was.found m k given means (read.leaves.served serves) stands) in
    c.in_err-read_on.ensures.found m k given (means_on g.S.Store was.leaves m k means) serves stood)
    c.from_residual.result c.from_residual.ensures.1

pub returns-then-branch : goal.returns-then-branch
returns-then-branch g c = record {
  same_reference = search rules;
  leaves = looks_as g.S.Store (looks_then g.S.Store c.loop-self.invariant.leaves c.in_ok-read_on.ensures.leaves);
  opens = search rules;
  none = search rules;
  asked = search rules;
  found = λ m k given means serves stands. let before = into_iter_items c.loop-self.self.page in
      let empty : before ≡ [] = nil_from_length before (omega (arith, c.loop-self-test.true, c.loop-self.self.page.rest.ok.0, c.len.ensures)) in
      let stood = rw (← c.loop-self.invariant.asked, empty) at (c.loop-self.invariant.found m k given means (c.read_on.ensures.leaves.served serves) stands) in
      let found = c.in_ok-read_on.ensures.found m k given (means_on g.S.Store c.loop-self.invariant.leaves m k means) serves stood in (
        subst (λ (asked : Asked). StandsAt asked m given (into_iter_items c.read_on.new.self.page) c.read_on.new.self.front c.read_on.new.self.most) c.loop-self.invariant.asked found.0,
        λ empty. subst (λ (asked : Asked). AreAsked asked m given) c.loop-self.invariant.asked (found.1 empty c.if-branch.true),
      );
}

pub loop-self-preserved : goal.loop-self-preserved
loop-self-preserved g c = record {
  same_reference = c.read_on.ensures.same_reference ∙ c.loop-self.invariant.same_reference;
  asked = c.read_on.ensures.asked ∙ c.loop-self.invariant.asked;
  leaves = looks_as g.S.Store (looks_then g.S.Store c.loop-self.invariant.leaves c.in_ok-read_on.ensures.leaves);
  opens = λ clean serves. c.in_ok-read_on.ensures.opens clean;
  found = λ m k given means serves stands.
      let before = into_iter_items c.loop-self.self.page in
      let empty : before ≡ [] = nil_from_length before (omega (arith, c.loop-self-test.true, c.loop-self.self.page.rest.ok.0, c.len.ensures)) in
      let stood = rw (← c.loop-self.invariant.asked, empty) at (c.loop-self.invariant.found m k given means (c.read_on.ensures.leaves.served serves) stands) in
      subst (λ (asked : Asked). StandsAt asked m given (into_iter_items c.read_on.new.self.page) c.read_on.new.self.front c.read_on.new.self.most) c.loop-self.invariant.asked
      (c.in_ok-read_on.ensures.found m k given (means_on g.S.Store c.loop-self.invariant.leaves m k means) serves stood).0;
}
