-- Worked rows of what arrivals say.
use Rattle.std.proofs.Common.{◌≡◌, ◌∙◌, inl, inr, refl, ap, List, ℕ, [], ◌∷◌, ◌++◌}
use Rattle.std.specs.Prelude.{codes}
use Rattle.fax_job.specs.declared.refusal.BodyFault.{BodyFault}
use Rattle.fax_job.specs.declared.refusal.Refusal.TheVariants.{BadBody, BadClient, BadNumber, NoRoute}
use Rattle.fax_ask.specs.Ask.{Asks, IsBodyRefusal}
use Rattle.fax_ask.specs.Request.{request_of}
use Rattle.fax_ask.specs.declared.ask.Ask.TheVariants.{Step}
use Rattle.fax_ask.specs.declared.method.Method.{Method}
use Rattle.fax_ask.specs.declared.method.Method.TheVariants.{Get, Post}
use Rattle.fax_ask.specs.declared.request.Request.TheVariants.{Submit}
use Rattle.fax_ask.specs.declared.view.View.TheVariants.{Job}
use Rattle.fax_core.specs.declared.ask.Ask.{Ask}
use Rattle.fax_core.specs.Ledger.{Ledger}
use Rattle.fax_core.specs.Queue.{Queue}
use Rattle.fax_core.proofs.RowWords.{settings}
use Rattle.fax_run.proofs.RowsRuns.{desk, post}
use Rattle.fax_run.specs.Reading.{Faulty, IsReading, Sees}
use Rattle.fax_run.specs.Verdict.{Verdict, IsVerdict, denied, verdict}
use Rattle.fax_run.specs.declared.arrival.Arrival.{Arrival}

-- an arrival with this method and path, from this client, under this number
abbrev comes : Arrival → Method → List ℕ → List ℕ → List ℕ → Arrival
comes a method path client number = record a {
  method = method;
  path = record a.path { now = path };
  client = record a.client { now = client };
  number = record a.number { now = number };
}

-- the path comes first
no_route_row : (a : Arrival) → IsReading (comes a Post (codes "/nothing") [] []) (Faulty NoRoute)
unfolding request_of
no_route_row a = refl

-- so that is what it comes to, at any queue
no_route_verdict_row : (a : Arrival) (m : Queue) (k : Ledger) (v : Verdict) → IsVerdict settings (comes a Post (codes "/nothing") [] []) m k v → v ≡ denied NoRoute
unfolding request_of
no_route_verdict_row a m k v (r, reads, is) = is ∙ ap (verdict settings m k) reads

-- then the client, and then the number
no_client_row : (a : Arrival) → IsReading (comes a Post (codes "/jobs") [] []) (Faulty BadClient)
unfolding request_of
no_client_row a = refl

no_number_row : (a : Arrival) → IsReading (comes a Post (codes "/jobs") desk []) (Faulty BadNumber)
unfolding request_of
no_number_row a = refl

-- then the body
bad_body_row : (a : Arrival) (fault : BodyFault) → IsBodyRefusal Submit a.body.now (BadBody fault)
    → IsReading (comes a Post (codes "/jobs") desk (codes "7")) (Faulty (BadBody fault))
unfolding request_of
bad_body_row a fault is = inr (fault, is, refl)

-- the desk posts what the body asks for under number 7, at that moment, in these bytes
post_row : (a : Arrival) (ask : Ask) → Asks Submit a.body.now (Step ask)
    → IsReading (comes a Post (codes "/jobs") desk (codes "7")) (post desk 7 (codes "/jobs" ++ 10 ∷ a.body.now) a.moment ask)
unfolding request_of
post_row a ask is = inl (ask, is, refl)

-- a view needs no client and no number
view_row : (a : Arrival) → IsReading (comes a Get (codes "/jobs/1") [] []) (Sees a.moment (Job 1))
unfolding request_of
view_row a = refl
