use Rattle.std.proofs.Common.{◌≡◌, [], sym, ◌∙◌, rules}
use Rattle.std.specs.Vec.Iter.{into_iter_items}
use Rattle.std.proofs.lemmas.List.{nil_from_length}
use Rattle.fax_core.specs.Job.{fields_of}
use Rattle.fax_store.proofs.CandidateLemmas.{given_lawful, one_given, reaches_err}
use Rattle.fax_store.proofs.FrameLemmas.{looks_as}
use Rattle.fax_store.proofs.candidates.Candidates+S.prospect.Goals as goal

pub returns-in_err-refill : goal.returns-in_err-refill
returns-in_err-refill g c =
    let stopped = c.in_err-refill.ensures in
    reaches_err g.S.Store c.refill.ensures.same_reference c.refill.ensures.asked stopped.leaves stopped.found c.from_residual.result c.from_residual.ensures.1

pub returns-in_err-prospect_in-in-Some : goal.returns-in_err-prospect_in-in-Some
returns-in_err-prospect_in-in-Some g c =
    let filled = c.refill.ensures in
    reaches_err g.S.Store filled.same_reference filled.asked filled.leaves (λ m k given means serves stands.
    let it = one_given _ m given c.in-Some.row _ _ _ (rw c.in-Some.ensures.items at (c.in_ok-refill.ensures.found m k given means serves stands).0) in
    let lawful = given_lawful _ m k (means (filled.leaves.served serves)) c.args.self.now.asked given it.0 _ _ _ it.2 in
    c.in_err-prospect_in-in-Some.ensures.found (fields_of it.0) it.1 lawful.limits lawful.formed)
    c.from_residual-in_err-prospect_in-in-Some.result c.from_residual-in_err-prospect_in-in-Some.ensures.1

pub returns-in_ok-prospect_in-in-Some : goal.returns-in_ok-prospect_in-in-Some
returns-in_ok-prospect_in-in-Some g c = record {
  same_reference = search rules;
  leaves = looks_as g.S.Store c.in_ok-refill.ensures.leaves;
  opens = search rules;
  none = search rules;
  asked = search rules;
  found = λ m k given means serves stands. let it = one_given _ m given c.in-Some.row _ _ _
      (rw c.in-Some.ensures.items at (c.in_ok-refill.ensures.found m k given means serves stands).0) in
      let lawful = given_lawful _ m k (means (c.refill.ensures.leaves.served serves)) c.args.self.now.asked given it.0 _ _ _ it.2 in
      (it.0, c.in_ok-prospect_in-in-Some.ensures.found (fields_of it.0) it.1 lawful.limits lawful.formed, it.2);
}

pub returns-in-None : goal.returns-in-None
returns-in-None g c =
    let empty : into_iter_items c.refill.new.self.page ≡ [] = nil_from_length _ (sym c.refill.new.self.page.rest.ok.0 ∙ c.in-None.ensures.cases.0) in
    record {
      same_reference = search rules;
      leaves = looks_as g.S.Store c.in_ok-refill.ensures.leaves;
      opens = search rules;
      none = λ is. c.in_ok-refill.ensures.none empty;
      asked = search rules;
      found = λ m k given means serves stands. let found = c.in_ok-refill.ensures.found m k given means serves stands in
          (found.1 empty, rw c.in-None.ensures.items at found.0);
    }
