-- What the queue replies.
use Rattle.std.specs.Prelude.{ℕ, Bool, List}
use Rattle.fax_job.specs.declared.refusal.Refusal.{Refusal}
use Rattle.fax_core.specs.Queue.{Queue}

-- a grant, as it is told to a worker
pub record Handed : Type 0 where
  pub grant : ℕ
  pub job : ℕ
  pub dial : List ℕ
  -- the first page and the last
  pub from : ℕ
  pub to : ℕ

pub data Reply : Type 0 where
  -- the new job's number
  Submitted : (job : ℕ) → Reply
  -- the number of the job that was brought in, and its state
  Brought : (job state : ℕ) → Reply
  -- the job's state from now on
  Stands : (job state : ℕ) → Reply
  -- whether the modem is down
  Marked : (down : Bool) → Reply
  -- no job may go to the modem
  NoneToSend : Reply
  Given : (handed : Handed) → Reply
  -- whether the worker is to stop
  Called : (stop : Bool) → Reply
  -- how many pages are confirmed, and whether the worker is to stop
  Confirmed : (npages : ℕ) (stop : Bool) → Reply
  -- through which number the client has given up its replies
  Floored : (floor : ℕ) → Reply
  -- how many jobs left
  Purged : (jobs : ℕ) → Reply

-- what is told with a refusal
pub data Keys : Type 0 where
  NoKeys : Keys
  -- why a number isn't served
  Notice : (text : List ℕ) → Keys
  -- whether a call was reported on the grant that the modem holds, and the grant
  HeldGrant : (called : Bool) (handed : Handed) → Keys
  -- how many pages are confirmed
  Pages : (npages : ℕ) → Keys

-- a request is taken, and leaves a queue, or is refused, and leaves the queue alone
pub data Step : Type 0 where
  Taken : (after : Queue) (reply : Reply) → Step
  Refused : (refusal : Refusal) (keys : Keys) → Step
