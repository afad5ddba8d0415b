-- An arrival says one thing at most, since a method, a path and a body ask for one thing, or have one fault. So it comes to one thing.
use Rattle.std.proofs.Common.{◌≡◌, inl, inr, ℕ, Option, Some, None, Ok, Err, refl, sym, ap, subst, ◌∙◌}
use Rattle.std.specs.Prelude.{Result, MatchOption, MatchResult}
use Rattle.fax_job.specs.declared.refusal.BodyFault.{BodyFault}
use Rattle.fax_job.specs.declared.refusal.Refusal.{Refusal}
use Rattle.fax_job.specs.declared.refusal.Refusal.TheVariants.{BadBody, NoRoute}
use Rattle.fax_ask.specs.declared.request.Request.{Request}
use Rattle.fax_ask.specs.declared.view.View.{View}
use Rattle.fax_ask.specs.Ask.{Asks, IsAsk, IsBodyRefusal, IsRefused}
use Rattle.fax_ask.specs.declared.ask.Ask.{Ask as Asked}
use Rattle.fax_ask.specs.declared.ask.Ask.TheVariants.{Step}
use Rattle.fax_ask.specs.Laws.{AskOrRefusal, OneAsk, OneFault}
use Rattle.fax_ask.specs.Request.{request_of}
use Rattle.fax_core.specs.declared.ask.Ask.{Ask}
use Rattle.fax_run.proofs.ReadingLemmas.{same_ask}
use Rattle.fax_run.specs.Arrival.{number_of}
use Rattle.fax_run.specs.Laws.{OneReading, OneVerdict}
use Rattle.fax_run.specs.Reading.{Reading, Faulty, Posts, Sees, post_of, seen_by, IsForBody, IsForRoute}
use Rattle.fax_run.specs.Verdict.{verdict}
use Rattle.fax_run.specs.declared.arrival.Arrival.{Arrival}

module _ (one_ask : OneAsk) (or_refusal : AskOrRefusal) (one_fault : OneFault) (a : Arrival) where
  -- what the route and the body ask for, the arrival asks for
  asks_for : (request : Request) (x : Asked) → request_of a.method a.path.now ≡ Some request → Asks request a.body.now x → IsAsk a.method a.path.now a.body.now x
  asks_for request x is asks = subst (λ (o : Option Request). MatchOption o ⊥ (λ r. Asks r a.body.now x)) (sym is) asks

  -- what refuses the body refuses the arrival
  refused_for : (request : Request) (e : Refusal) → request_of a.method a.path.now ≡ Some request → IsBodyRefusal request a.body.now e → IsRefused a.method a.path.now a.body.now e
  refused_for request e is refused = subst (λ (o : Option Request). MatchOption o (e ≡ NoRoute) (λ r. IsBodyRefusal r a.body.now e)) (sym is) refused

  -- a body under a number reads as one thing
  one_for_body : (number : ℕ) (request : Request) (v w : Reading) → request_of a.method a.path.now ≡ Some request → IsForBody a number request v → IsForBody a number request w → v ≡ w
  one_for_body number request v w is (inl x) (inl y) =
      x.2 ∙ ap (λ (ask : Ask). Posts (post_of a number ask)) (same_ask (one_ask a.method a.path.now a.body.now (Step x.0) (Step y.0) (asks_for request (Step x.0) is x.1) (asks_for request (Step y.0) is y.1))) ∙ sym y.2
  one_for_body number request v w is (inr x) (inr y) =
      x.2 ∙ ap (λ (f : BodyFault). Faulty (BadBody f)) (one_fault a.method a.path.now a.body.now x.0 y.0 (refused_for request (BadBody x.0) is x.1) (refused_for request (BadBody y.0) is y.1)) ∙ sym y.2
  one_for_body number request v w is (inl x) (inr y) =
      absurd (let no = or_refusal a.method a.path.now a.body.now (Step x.0) (BadBody y.0) (asks_for request (Step x.0) is x.1) (refused_for request (BadBody y.0) is y.1) in cc)
  one_for_body number request v w is (inr x) (inl y) =
      absurd (let no = or_refusal a.method a.path.now a.body.now (Step y.0) (BadBody x.0) (asks_for request (Step y.0) is y.1) (refused_for request (BadBody x.0) is x.1) in cc)

  -- so it does whether the sender is at fault or not
  one_by_number : (request : Request) (r : Result ℕ Refusal) (v w : Reading) → request_of a.method a.path.now ≡ Some request
      → MatchResult r (λ number. IsForBody a number request v) (λ refusal. v ≡ Faulty refusal)
      → MatchResult r (λ number. IsForBody a number request w) (λ refusal. w ≡ Faulty refusal) → v ≡ w
  one_by_number request (Ok number) v w is x y = one_for_body number request v w is x y
  one_by_number request (Err e) v w is x y = x ∙ sym y

  -- and whether a view is asked for or not
  one_for_request : (request : Request) (o : Option View) (v w : Reading) → request_of a.method a.path.now ≡ Some request
      → MatchOption o (MatchResult (number_of a) (λ number. IsForBody a number request v) (λ refusal. v ≡ Faulty refusal)) (λ what. v ≡ Sees a.moment what)
      → MatchOption o (MatchResult (number_of a) (λ number. IsForBody a number request w) (λ refusal. w ≡ Faulty refusal)) (λ what. w ≡ Sees a.moment what) → v ≡ w
  one_for_request request None v w is x y = one_by_number request (number_of a) v w is x y
  one_for_request request (Some what) v w is x y = x ∙ sym y

  -- and whether there is a route or not
  one_of : (o : Option Request) (v w : Reading) → request_of a.method a.path.now ≡ o → MatchOption o (v ≡ Faulty NoRoute) (IsForRoute a v) → MatchOption o (w ≡ Faulty NoRoute) (IsForRoute a w) → v ≡ w
  one_of None v w is x y = x ∙ sym y
  one_of (Some request) v w is x y = one_for_request request (seen_by request) v w is x y

pub one_reading : OneAsk → AskOrRefusal → OneFault → OneReading
one_reading one_ask or_refusal one_fault a v w x y = one_of one_ask or_refusal one_fault a (request_of a.method a.path.now) v w refl x y

pub one_verdict : OneAsk → AskOrRefusal → OneFault → OneVerdict
one_verdict one_ask or_refusal one_fault s a m k v w (r, is, v_is) (q, also, w_is) =
    v_is ∙ ap (verdict s m k) (one_reading one_ask or_refusal one_fault a r q is also) ∙ sym w_is
