-- What an arrival says, before the queue is asked.
use Rattle.std.specs.Prelude.{◌≡◌, ◌⊎◌, ℕ, List, Option, Some, None, MatchOption, MatchResult}
use Rattle.fax_job.specs.declared.refusal.BodyFault.{BodyFault}
use Rattle.fax_job.specs.declared.refusal.Refusal.{Refusal}
use Rattle.fax_job.specs.declared.refusal.Refusal.TheVariants.{BadBody, NoRoute}
use Rattle.fax_ask.specs.Ask.{Asks, IsBodyRefusal}
use Rattle.fax_ask.specs.Request.{request_of}
use Rattle.fax_ask.specs.declared.ask.Ask.TheVariants.{Step}
use Rattle.fax_ask.specs.declared.request.Request.{Request as Route}
use Rattle.fax_ask.specs.declared.request.Request.TheVariants.{Show}
use Rattle.fax_ask.specs.declared.view.View.{View}
use Rattle.fax_core.specs.declared.ask.Ask.{Ask}
use Rattle.fax_core.specs.Run.{Request}
use Rattle.fax_run.specs.Arrival.{number_of, said_of}
use Rattle.fax_run.specs.declared.arrival.Arrival.{Arrival}

-- a client asks for this under its request number, in these bytes, at this moment
pub record Post : Type 0 where
  pub client : List ℕ
  pub number : ℕ
  pub said : List ℕ
  pub request : Request

pub data Reading : Type 0 where
  -- it is refused, whatever the queue is
  Faulty : (refusal : Refusal) → Reading
  -- it asks to see a job, or all jobs
  Sees : (moment : ℕ) (view : View) → Reading
  Posts : (post : Post) → Reading

-- the client as it stands, the number that its digits write, and the bytes as they are kept
abbrev pub post_of : Arrival → ℕ → Ask → Post
post_of a number ask = record { client = a.client.now; number = number; said = said_of a; request = record { moment = a.moment; ask = ask } }

-- by what the body asks for under the number, or by its fault
abbrev pub IsForBody : Arrival → ℕ → Route → Reading → Type 0
IsForBody a number route r =
    ((ask : Ask) × Asks route a.body.now (Step ask) × (r ≡ Posts (post_of a number ask)))
    ⊎ ((fault : BodyFault) × IsBodyRefusal route a.body.now (BadBody fault) × (r ≡ Faulty (BadBody fault)))

-- what a request asks to see, if it does
abbrev pub seen_by : Route → Option View
seen_by (Show view) = Some view
seen_by other = None

-- a view needs no client and no number; for all else they come before the body
abbrev pub IsForRoute : Arrival → Reading → Route → Type 0
IsForRoute a r route =
    MatchOption (seen_by route)
    (MatchResult (number_of a) (λ number. IsForBody a number route r) (λ refusal. r ≡ Faulty refusal))
    (λ view. r ≡ Sees a.moment view)

-- the method and the path come first
abbrev pub IsReading : Arrival → Reading → Type 0
IsReading a r = MatchOption (request_of a.method a.path.now) (r ≡ Faulty NoRoute) (IsForRoute a r)
