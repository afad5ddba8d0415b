-- What an arrival says is one of three: a fault with its cause, what it asks to see, or a post.
use Rattle.std.proofs.Common.{◌≡◌, inl, inr, ℕ, Option, Some, None, Ok, Err, refl}
use Rattle.std.specs.Prelude.{Result, MatchOption, MatchResult}
use Rattle.fax_job.specs.declared.refusal.BodyFault.{BodyFault}
use Rattle.fax_job.specs.declared.refusal.Refusal.{Refusal}
use Rattle.fax_job.specs.declared.refusal.Refusal.TheVariants.{BadBody, NoRoute}
use Rattle.fax_ask.specs.Ask.{Asks}
use Rattle.fax_ask.specs.declared.view.View.{View}
use Rattle.fax_ask.specs.declared.ask.Ask.{Ask as Asked}
use Rattle.fax_ask.specs.declared.ask.Ask.TheVariants.{Step}
use Rattle.fax_ask.specs.declared.request.Request.{Request as Route}
use Rattle.fax_ask.specs.Request.{request_of}
use Rattle.fax_core.specs.declared.ask.Ask.{Ask}
use Rattle.fax_run.specs.Arrival.{number_of}
use Rattle.fax_run.specs.Reading.{Reading, Faulty, Sees, Posts, post_of, seen_by, IsForBody, IsForRoute, IsReading}
use Rattle.fax_run.specs.declared.arrival.Arrival.{Arrival}

-- steps that are the same ask for the same
pub same_ask : {a b : Ask} → ◌≡◌ {A = Asked} (Step a) (Step b) → a ≡ b
same_ask is = cc

-- what is at fault
pub data Cause (a : Arrival) (refusal : Refusal) : Type 0 where
  Of_route : refusal ≡ NoRoute → Cause a refusal
  Of_sender : number_of a ≡ Err refusal → Cause a refusal
  Of_body : (fault : BodyFault) → refusal ≡ BadBody fault → Cause a refusal

pub data Says (a : Arrival) (r : Reading) : Type 0 where
  Says_fault : (refusal : Refusal) → Cause a refusal → r ≡ Faulty refusal → Says a r
  Says_view : (what : View) → r ≡ Sees a.moment what → Says a r
  Says_post : (number : ℕ) (route : Route) (ask : Ask) → number_of a ≡ Ok number → Asks route a.body.now (Step ask) → r ≡ Posts (post_of a number ask) → Says a r

module _ (a : Arrival) (r : Reading) where
  -- what a body reads as under a number, the arrival says
  for_body : (number : ℕ) (route : Route) → number_of a ≡ Ok number → IsForBody a number route r → Says a r
  for_body number route its (inl (ask, asks, is)) = Says_post number route ask its asks is
  for_body number route its (inr (fault, refused, is)) = Says_fault (BadBody fault) (Of_body fault refl) is

  -- the same whether the sender is at fault or not
  by_number : (route : Route) (n : Result ℕ Refusal) → number_of a ≡ n → MatchResult n (λ number. IsForBody a number route r) (λ refusal. r ≡ Faulty refusal) → Says a r
  by_number route (Ok number) its h = for_body number route its h
  by_number route (Err refusal) its h = Says_fault refusal (Of_sender its) h

  -- the same whether a view is asked for or not
  for_route : (route : Route) (o : Option View)
      → MatchOption o (MatchResult (number_of a) (λ number. IsForBody a number route r) (λ refusal. r ≡ Faulty refusal)) (λ what. r ≡ Sees a.moment what) → Says a r
  for_route route None h = by_number route (number_of a) refl h
  for_route route (Some what) h = Says_view what h

  -- the same whether there is a route or not
  by_route : (o : Option Route) → MatchOption o (r ≡ Faulty NoRoute) (IsForRoute a r) → Says a r
  by_route None h = Says_fault NoRoute (Of_route refl) h
  by_route (Some route) h = for_route route (seen_by route) h

  -- what an arrival reads as, it says
  pub says : IsReading a r → Says a r
  says h = by_route (request_of a.method a.path.now) h
