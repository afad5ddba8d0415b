-- Worked rows: records as they stand in the tables.
use Rattle.std.specs.Prelude.{◌≡◌, ◌==◌, ℕ, refl, true, false, pos, List, [], ◌∷◌, ◌++◌, map, codes, Some, None, if◌then◌else◌}
use Rattle.sqlite.specs.Effect.{Database}
use Rattle.sqlite.specs.Order.{Row}
use Rattle.sqlite.specs.declared.types.Value.TheVariants.{Null, Int, Text, Blob}
use Rattle.fax_core.specs.Queue.{empty_queue}
use Rattle.fax_core.specs.declared.grants.Grant.{Grant}
use Rattle.fax_job.specs.Pair.{pair}
use Rattle.fax_job.specs.declared.job.JobFields.{JobFields}
use Rattle.fax_job.specs.declared.job.Phase.{Phase}
use Rattle.fax_job.specs.declared.job.Phase.TheVariants.{Held, Waiting, Granted, Done, Failed}
use Rattle.fax_schema.specs.Schema.{second_tables, grants_tree, jobs_tree, meta_tree}
use Rattle.sqlite_sql.specs.Ops.{binary}
use Rattle.sqlite_value.specs.Order.{value_cmp}
use Rattle.fax_tables.specs.Tables.{grants_in, meta_in, times_in}
use Rattle.fax_job.specs.declared.job.Wish.TheVariants.{Go, Hold, Kill}
use Rattle.fax_job.specs.declared.job.Call.TheVariants.{Connected, Busy, NoAnswer, NoCarrier, Other}
use Rattle.fax_core.specs.Ledger.{entry}
use Rattle.fax_tables.specs.Row.{phase_number, wish_number, call_number, job_row, grant_row, hold_columns, down_columns, entry_columns, call_columns, floor_columns, meta_row, raised, times_row}

-- ---- numbers that stand for words

-- the phases have the numbers 0 to 4
phases : map phase_number (Held ∷ Waiting ∷ Granted ∷ Done ∷ Failed ∷ []) ≡ 0 ∷ 1 ∷ 2 ∷ 3 ∷ 4 ∷ []
phases = refl

-- the wishes have the numbers 0 to 2
wishes : map wish_number (Go ∷ Hold ∷ Kill ∷ []) ≡ 0 ∷ 1 ∷ 2 ∷ []
wishes = refl

-- the calls have the numbers 0 to 5, where 0 is none
calls : map call_number (None ∷ Some Connected ∷ Some Busy ∷ Some NoAnswer ∷ Some NoCarrier ∷ Some Other ∷ []) ≡ 0 ∷ 1 ∷ 2 ∷ 3 ∷ 4 ∷ 5 ∷ []
calls = refl

-- ---- rows of the tables

abbrev pub job : JobFields
job = record {
  job = 7;
  dial = codes "5550111";
  modem = codes "any";
  jobtag = codes "memo";
  tts = 1000;
  killtime = Some 5000;
  priority = 127;
  npages = 1;
  totpages = 3;
  ntries = 0;
  tottries = 2;
  maxtries = 4;
  ndials = 5;
  totdials = 6;
  maxdials = 12;
  phase = Granted;
  wish = Kill;
  next = 77;
  status = codes "Busy";
  extra = pair (codes "x-note") (codes "a b") ∷ [];
}

-- the job as its row: rowid, NULL, and its columns
job_stands : job_row job ≡
    Int (pos 7) ∷ Null ∷ Text (codes "5550111") ∷ Text (codes "any") ∷ Text (codes "memo") ∷ Text (codes "Busy") ∷ Text (codes "x-note:a b" ++ 10 ∷ []) ∷ Int (pos 1000) ∷ Int (pos 5000) ∷ Int (pos 127)
    ∷ Int (pos 1) ∷ Int (pos 3) ∷ Int (pos 0) ∷ Int (pos 2) ∷ Int (pos 4) ∷ Int (pos 5) ∷ Int (pos 6) ∷ Int (pos 12) ∷ Int (pos 2) ∷ Int (pos 2) ∷ Int (pos 77) ∷ []
job_stands = refl

abbrev pub grant : Grant
grant = record { number = 1; job = 7; modem = codes "ttyS0"; first_page = 2; last_page = 3; call = Some Connected; confirmed = 4; is_open = true }

abbrev pub closed : Grant
closed = record grant { is_open = false }

-- the open grant as its row, which ends with 0
grant_stands : grant_row grant ≡ Int (pos 1) ∷ Null ∷ Int (pos 7) ∷ Text (codes "ttyS0") ∷ Int (pos 2) ∷ Int (pos 3) ∷ Int (pos 1) ∷ Int (pos 4) ∷ Int (pos 0) ∷ []
grant_stands = refl

-- the closed grant as its row, which ends with 1
closed_stands : grant_row closed ≡ Int (pos 1) ∷ Null ∷ Int (pos 7) ∷ Text (codes "ttyS0") ∷ Int (pos 2) ∷ Int (pos 3) ∷ Int (pos 1) ∷ Int (pos 4) ∷ Int (pos 1) ∷ []
closed_stands = refl

-- its hold: modem, job and grant
hold_stands : hold_columns grant ≡ Text (codes "ttyS0") ∷ Int (pos 7) ∷ Int (pos 1) ∷ []
hold_stands = refl

-- a modem that is down
down_stands : down_columns (codes "ttyS1") ≡ Text (codes "ttyS1") ∷ []
down_stands = refl

-- a kept reply: client, number, what was said, status and body
reply_stands : entry_columns (entry (codes "ann") 9 (codes "/jobs") 201 (codes "{}")) ≡ Text (codes "ann") ∷ Int (pos 9) ∷ Blob (codes "/jobs") ∷ Int (pos 201) ∷ Blob (codes "{}") ∷ []
reply_stands = refl

-- meta: the clock, the next numbers and version 3
meta_stands : meta_row (record empty_queue { clock = 5; next_job = 8; next_grant = 3 }) ≡ Int (pos 1) ∷ Null ∷ Int (pos 5) ∷ Int (pos 8) ∷ Int (pos 3) ∷ Int (pos 3) ∷ []
meta_stands = refl

-- a number to dial, with two calls
call_stands : call_columns (codes "5550111") 2 ≡ Text (codes "5550111") ∷ Int (pos 2) ∷ []
call_stands = refl

-- a client with the floor 3
floor_stands : floor_columns (codes "desk") 3 ≡ Text (codes "desk") ∷ Int (pos 3) ∷ []
floor_stands = refl

-- a job's times: it came in at 1000 and ended at 1086
times_stand : times_row (record { job = 1; submitted = 1000; ended = 1086 }) ≡ Int (pos 1) ∷ Null ∷ Int (pos 1000) ∷ Int (pos 1086) ∷ []
times_stand = refl

-- a row of the first version
raised_stands : raised (Int (pos 1) ∷ Null ∷ Int (pos 5) ∷ Int (pos 8) ∷ Int (pos 3) ∷ Int (pos 1) ∷ []) ≡ meta_row (record empty_queue { clock = 5; next_job = 8; next_grant = 3 })
raised_stands = refl

-- ---- files of the second version, as the third has them

-- a file of these jobs and grants, whose clock is 1086
file : List Row → List Row → Database
file jobs grants = record {
  schema = second_tables;
  trees = λ tree. if tree == jobs_tree then jobs else if tree == grants_tree then grants else if tree == meta_tree then (Int (pos 1) ∷ Null ∷ Int (pos 1086) ∷ Int (pos 4) ∷ Int (pos 2) ∷ Int (pos 2) ∷ []) ∷ [] else [];
}

-- the row of a job of this number and phase
numbered : ℕ → Phase → Row
numbered number phase = job_row (record job { job = number; phase = phase })

-- a job that is over ended at the clock, and when it came in isn't known
over_timed : times_in (file (numbered 1 Done ∷ numbered 2 Failed ∷ numbered 3 Waiting ∷ []) []) ≡
    (Int (pos 1) ∷ Null ∷ Int (pos 0) ∷ Int (pos 1086) ∷ []) ∷ (Int (pos 2) ∷ Null ∷ Int (pos 0) ∷ Int (pos 1086) ∷ []) ∷ (Int (pos 3) ∷ Null ∷ Int (pos 0) ∷ Int (pos 0) ∷ []) ∷ []
unfolding file numbered
over_timed = refl

-- where job 1 was deleted with its grants, those that are there stay
strays_deleted : grants_in (file (numbered 2 Done ∷ numbered 3 Waiting ∷ []) (grant_row (record closed { number = 2; job = 2 }) ∷ [])) ≡ grant_row (record closed { number = 2; job = 2 }) ∷ []
unfolding file numbered binary value_cmp lib.Ieee.is_nan lib.Ieee.lt
strays_deleted = refl

-- where it was deleted without them, its closed grant doesn't
stray_left : grants_in (file (numbered 2 Done ∷ numbered 3 Waiting ∷ []) (grant_row (record closed { job = 1 }) ∷ grant_row (record closed { number = 2; job = 2 }) ∷ [])) ≡ grant_row (record closed { number = 2; job = 2 }) ∷ []
unfolding file numbered binary value_cmp lib.Ieee.is_nan lib.Ieee.lt
stray_left = refl

-- and meta has version 3
file_raised : meta_in (file [] []) ≡ (Int (pos 1) ∷ Null ∷ Int (pos 1086) ∷ Int (pos 4) ∷ Int (pos 2) ∷ Int (pos 3) ∷ []) ∷ []
unfolding file
file_raised = refl
