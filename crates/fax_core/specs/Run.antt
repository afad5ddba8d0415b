-- Requests in a row. A refused one leaves the queue as it was.
use Rattle.std.specs.Prelude.{ℕ, List, [], ◌∷◌}
use Rattle.std.specs.List.{AllByRecursion}
use Rattle.fax_job.specs.declared.refusal.Refusal.{Refusal}
use Rattle.fax_core.specs.Ask.{IsLawfulAsk}
use Rattle.fax_core.specs.declared.ask.Ask.{Ask}
use Rattle.fax_core.specs.Clock.{decided_at}
use Rattle.fax_core.specs.Machine.{step}
use Rattle.fax_core.specs.Queue.{Queue}
use Rattle.fax_core.specs.Reply.{Reply, Keys, Step, Taken, Refused}
use Rattle.fax_core.specs.Settings.{Settings}

-- what is asked, and the moment at which it comes
pub record Request : Type 0 where
  pub moment : ℕ
  pub ask : Ask

-- what is told of a step
pub data Answer : Type 0 where
  Replied : (reply : Reply) → Answer
  Denied : (refusal : Refusal) (keys : Keys) → Answer

abbrev pub answer_of : Step → Answer
answer_of (Taken after reply) = Replied reply
answer_of (Refused refusal keys) = Denied refusal keys

-- the queue after a step
abbrev pub left_by : Queue → Step → Queue
left_by m (Taken after reply) = after
left_by m (Refused refusal keys) = m

-- a request, decided at the later of its moment and the clock
abbrev pub decided : Settings → Queue → Request → Step
decided s m r = step s m (decided_at m.clock r.moment) r.ask

-- the queue after the requests
abbrev pub queue_after : Settings → Queue → List Request → Queue
queue_after s m [] = m
queue_after s m (r ∷ rs) = queue_after s (left_by m (decided s m r)) rs

-- what is answered to each
abbrev pub answers : Settings → Queue → List Request → List Answer
answers s m [] = []
answers s m (r ∷ rs) = answer_of (decided s m r) ∷ answers s (left_by m (decided s m r)) rs

-- each is lawful
abbrev pub AreLawful : List Request → Type 0
AreLawful rs = AllByRecursion (λ r. IsLawfulAsk r.ask) rs
