-- The queue, and the replies that are kept.
use Rattle.std.specs.Prelude.{◌==◌, ℕ, List, [], Option}
use Rattle.std.specs.List.{filter, find}
use Rattle.fax_core.specs.declared.grants.Grant.{Grant}
use Rattle.fax_core.specs.Job.{Job}
use Rattle.fax_core.specs.declared.times.Times.{Times}

pub record Queue : Type 0 where
  -- all jobs and all grants, each by number
  pub jobs : List Job
  pub grants : List Grant
  -- the times of the jobs, in their order
  pub times : List Times
  -- the modems that are down
  pub down : List (List ℕ)
  pub clock : ℕ
  pub next_job : ℕ
  pub next_grant : ℕ

-- an open grant is what its modem and its job hold
abbrev pub open_grants : Queue → List Grant
open_grants m = filter (λ g. g.is_open) m.grants

-- the job, or the grant, of a number
abbrev pub job_numbered : ℕ → Queue → Option Job
job_numbered n m = find (λ j. j.number == n) m.jobs

abbrev pub grant_numbered : ℕ → Queue → Option Grant
grant_numbered n m = find (λ g. g.number == n) m.grants

-- the times of the job of a number
abbrev pub times_numbered : ℕ → Queue → Option Times
times_numbered n m = find (λ x. x.job == n) m.times

-- what a client said under a request number, and the reply that it got
pub record Entry : Type 0 where
  pub client : List ℕ
  pub number : ℕ
  pub said : List ℕ
  pub status : ℕ
  pub body : List ℕ

-- no jobs, grants or modems down, the clock at 0 and the next numbers 1
abbrev pub empty_queue : Queue
empty_queue = record { jobs = []; grants = []; times = []; down = []; clock = 0; next_job = 1; next_grant = 1 }
