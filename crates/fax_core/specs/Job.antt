-- Jobs. The code keeps one number of pages; a job has two lists of them, those that are sent and those that are left.
use Rattle.std.specs.Prelude.{◌≡◌, ℕ, List, length, ◌++◌, ◌+◌, ◌-◌, Option}
use Rattle.std.specs.List.{range_with_len}
use Rattle.fax_job.specs.Pair.{Pair}
use Rattle.fax_job.specs.declared.job.JobFields.{JobFields}
use Rattle.fax_job.specs.declared.job.Phase.{Phase}
use Rattle.fax_job.specs.declared.job.Wish.{Wish}

pub record Job : Type 0 where
  -- ---- its order, by sendq(5)
  pub number : ℕ
  pub dial : List ℕ
  pub modem : List ℕ
  pub jobtag : List ℕ
  pub tts : ℕ
  pub killtime : Option ℕ
  pub priority : ℕ
  pub totpages : ℕ
  pub maxtries : ℕ
  pub maxdials : ℕ
  pub extra : List Pair
  -- ---- its pages, in order
  pub sent : List ℕ
  pub left : List ℕ
  -- ---- tries and dials, each in a row and in all
  pub ntries : ℕ
  pub tottries : ℕ
  pub ndials : ℕ
  pub totdials : ℕ
  -- ---- where it stands
  pub phase : Phase
  pub wish : Wish
  -- the moment from which it may be tried again
  pub next : ℕ
  pub status : List ℕ

-- [1..n]
abbrev pub pages_to : ℕ → List ℕ
pages_to n = range_with_len 1 n

-- the pages of the job are those sent and those left
abbrev pub HasPages : Job → Type 0
HasPages j = j.sent ++ j.left ≡ pages_to j.totpages

-- a record of code as a job
abbrev pub job_of : JobFields → Job
job_of f = record {
  number = f.job;
  dial = f.dial;
  modem = f.modem;
  jobtag = f.jobtag;
  tts = f.tts;
  killtime = f.killtime;
  priority = f.priority;
  totpages = f.totpages;
  maxtries = f.maxtries;
  maxdials = f.maxdials;
  extra = f.extra;
  sent = pages_to f.npages;
  left = range_with_len (f.npages + 1) (f.totpages - f.npages);
  ntries = f.ntries;
  tottries = f.tottries;
  ndials = f.ndials;
  totdials = f.totdials;
  phase = f.phase;
  wish = f.wish;
  next = f.next;
  status = f.status;
}

-- a job as a record of code
abbrev pub fields_of : Job → JobFields
fields_of j = record {
  job = j.number;
  dial = j.dial;
  modem = j.modem;
  jobtag = j.jobtag;
  tts = j.tts;
  killtime = j.killtime;
  priority = j.priority;
  npages = length j.sent;
  totpages = j.totpages;
  ntries = j.ntries;
  tottries = j.tottries;
  maxtries = j.maxtries;
  ndials = j.ndials;
  totdials = j.totdials;
  maxdials = j.maxdials;
  phase = j.phase;
  wish = j.wish;
  next = j.next;
  status = j.status;
  extra = j.extra;
}
