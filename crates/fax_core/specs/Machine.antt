-- The machine: what a request makes of the queue at t.
use Rattle.std.specs.Prelude.{ℕ, ◌+◌, ◌==◌, Bool, true, false, not, List, [], ◌∷◌, ◌++◌, length, map, filter, find, is_some, unwrap_or, Option, Some, None, Result, Ok, Err, if◌then◌else◌}
use Rattle.std.specs.List.{list_any}
use Rattle.std.specs.Str.{bytes_eq}
use Rattle.fax_job.specs.declared.refusal.Refusal.{Refusal}
use Rattle.fax_job.specs.declared.refusal.Refusal.TheVariants as refusal
use Rattle.fax_core.specs.declared.grants.Grant.{Grant}
use Rattle.fax_core.specs.Ageing.{aged}
use Rattle.fax_core.specs.declared.ask.Ask.{Ask}
use Rattle.fax_core.specs.declared.ask.Ask.TheVariants.{Submission, Bring, OnJob, Mark, Next, OnGrant, GiveUp, Purge}
use Rattle.fax_core.specs.declared.ask.JobAsk.{JobAsk}
use Rattle.fax_core.specs.declared.report.Report.{Report}
use Rattle.fax_core.specs.declared.report.Report.TheVariants.{Call, Page, Outcome}
use Rattle.fax_core.specs.Best.{best}
use Rattle.fax_core.specs.Decisions.{JobAndGrant, submit, job_asked, grant, grant_reported, stops}
use Rattle.fax_core.specs.Import.{bring}
use Rattle.fax_core.specs.Job.{Job}
use Rattle.fax_core.specs.Purge.{purged}
use Rattle.fax_core.specs.Queue.{Queue, open_grants, job_numbered, grant_numbered}
use Rattle.fax_core.specs.Reply.{Handed, Reply, Submitted, Brought, Stands, Marked, NoneToSend, Given, Called, Confirmed, Floored, Keys, NoKeys, Notice, HeldGrant, Pages, Step, Taken, Refused}
use Rattle.fax_core.specs.Settings.{Rule, Settings, has_modem}
use Rattle.fax_core.specs.Stamp.{stamp}
use Rattle.fax_core.specs.State.{state}

-- ---- places in the queue

-- the job stands in the place of the one with its number
abbrev pub with_job : Job → Queue → Queue
with_job j m = record m { jobs = map (λ k. if k.number == j.number then j else k) m.jobs }

-- the same for a grant
abbrev pub with_grant : Grant → Queue → Queue
with_grant g m = record m { grants = map (λ h. if h.number == g.number then g else h) m.grants }

-- both in their places
abbrev pub with_both : JobAndGrant → Queue → Queue
with_both b m = with_grant b.grant (with_job b.job m)

-- one more job
abbrev pub with_new_job : Job → Queue → Queue
with_new_job j m = record m { jobs = m.jobs ++ j ∷ []; next_job = m.next_job + 1 }

-- the granted job stands in its place, and the grant is new
abbrev pub with_new_grant : JobAndGrant → Queue → Queue
with_new_grant b m = record (with_job b.job m) { grants = m.grants ++ b.grant ∷ []; next_grant = m.next_grant + 1 }

-- the modem is marked as down
abbrev pub is_down : List ℕ → Queue → Bool
is_down modem m = list_any (bytes_eq modem) m.down

-- the mark is set or taken away; the names stand in the order in which they came
abbrev pub with_mark : List ℕ → Bool → Queue → Queue
with_mark modem true m = record m { down = if is_down modem m then m.down else m.down ++ modem ∷ [] }
with_mark modem false m = record m { down = filter (λ other. not (bytes_eq modem other)) m.down }

-- the open grant that a modem holds
abbrev pub held_by : List ℕ → Queue → Option Grant
held_by modem m = find (λ g. bytes_eq g.modem modem) (open_grants m)

-- ---- what is told

-- the number that is dialed
abbrev pub dial_of : Option Job → List ℕ
dial_of None = []
dial_of (Some j) = j.dial

-- a grant, as it is told
abbrev pub handed : Grant → Queue → Handed
handed g m = record { grant = g.number; job = g.job; dial = dial_of (job_numbered g.job m); from = g.first_page; to = g.last_page }

-- a rejected submission is told why
abbrev pub keys_of_rule : Refusal → Rule → Keys
keys_of_rule refusal.Rejected rule = Notice (unwrap_or rule.notice [])
keys_of_rule e rule = NoKeys

-- a page out of order is told how many pages are confirmed
abbrev pub keys_of_job : Refusal → Job → Keys
keys_of_job refusal.PageOrder j = Pages (length j.sent)
keys_of_job e j = NoKeys

-- ---- decisions, put into their places

-- the new job is put at the end
abbrev pub submitted : Queue → Rule → Result Job Refusal → Step
submitted m rule (Ok j) = Taken (with_new_job j m) (Submitted j.number)
submitted m rule (Err e) = Refused e (keys_of_rule e rule)

-- the job that is brought in is put at the end, and its state is told
abbrev pub brought_in : Settings → Queue → ℕ → Rule → Result Job Refusal → Step
brought_in s m t rule (Ok j) = Taken (with_new_job j m) (Brought j.number (state s (with_new_job j m) t j))
brought_in s m t rule (Err e) = Refused e (keys_of_rule e rule)

-- the changed job is put in its place, and its state is told
abbrev pub changed : Settings → Queue → ℕ → Result Job Refusal → Step
changed s m t (Ok j) = Taken (with_job j m) (Stands j.number (state s (with_job j m) t j))
changed s m t (Err e) = Refused e NoKeys

-- a client's request on a job, if it is there
abbrev pub on_job : Settings → Queue → ℕ → JobAsk → Option Job → Step
on_job s m t ask None = Refused refusal.NoJob NoKeys
on_job s m t ask (Some j) = changed s m t (job_asked ask t j)

-- the replies to reports
abbrev pub call_reply : ℕ → Queue → JobAndGrant → Reply
call_reply t m b = Called (stops b.job t)

abbrev pub page_reply : ℕ → Queue → JobAndGrant → Reply
page_reply t m b = Confirmed (length b.job.sent) (stops b.job t)

abbrev pub outcome_reply : Settings → ℕ → Queue → JobAndGrant → Reply
outcome_reply s t m b = Stands b.job.number (state s m t b.job)

abbrev pub report_reply : Settings → ℕ → Report → (Queue → JobAndGrant → Reply)
report_reply s t (Call c) = call_reply t
report_reply s t (Page p) = page_reply t
report_reply s t (Outcome o) = outcome_reply s t

-- job and grant are put in their places
abbrev pub reported : Queue → (Queue → JobAndGrant → Reply) → Job → Result JobAndGrant Refusal → Step
reported m reply j (Ok b) = Taken (with_both b m) (reply (with_both b m) b)
reported m reply j (Err e) = Refused e (keys_of_job e j)

-- an open grant whose job isn't there stands in no sound queue
abbrev pub without_job : Bool → Refusal
without_job true = refusal.Unavailable
without_job false = refusal.GrantClosed

-- a worker's report on a grant, with its job
abbrev pub on_both : Settings → Queue → ℕ → Report → Grant → Option Job → Step
on_both s m t r g None = Refused (without_job g.is_open) NoKeys
on_both s m t r g (Some j) = reported m (report_reply s t r) j (grant_reported r s.delay t j g)

-- a worker's report on a grant, if it is there
abbrev pub on_grant : Settings → Queue → ℕ → Report → Option Grant → Step
on_grant s m t r None = Refused refusal.NoGrant NoKeys
on_grant s m t r (Some g) = on_both s m t r g (job_numbered g.job m)

-- a modem of the setup is marked as down, or no more
abbrev pub marked : Settings → Queue → List ℕ → Bool → Step
marked s m modem down = if has_modem s modem then Taken (with_mark modem down m) (Marked down) else Refused refusal.NoModem NoKeys

-- the granted job is put in its place and the grant at the end
abbrev pub given : Queue → Result JobAndGrant Refusal → Step
given m (Ok b) = Taken (with_new_grant b m) (Given (handed b.grant (with_new_grant b m)))
given m (Err e) = Refused e NoKeys

-- the best job, if there is one
abbrev pub given_best : Settings → Queue → List ℕ → Option Job → Step
given_best s m modem None = Taken m NoneToSend
given_best s m modem (Some j) = given m (grant j modem m.next_grant s.max_grants)

-- a modem that holds a grant gets no other, and is told which it holds
abbrev pub given_free : Settings → Queue → ℕ → List ℕ → Option Grant → Step
given_free s m t modem (Some g) = Refused refusal.ModemBusy (HeldGrant (is_some g.call) (handed g m))
given_free s m t modem None = given_best s m modem (best s m t modem)

-- next
abbrev pub given_to : Settings → Queue → ℕ → List ℕ → Step
given_to s m t modem =
    if not (has_modem s modem) then Refused refusal.NoModem NoKeys
    else if is_down modem m then Refused refusal.ModemDown NoKeys
    else given_free s m t modem (held_by modem m)

-- ---- the machine

-- by cases on what is asked, over the aged queue
abbrev pub act : Settings → Queue → ℕ → Ask → Step
act s m t (Submission order) = submitted m (s.rule order.dial) (submit order (s.rule order.dial) m.next_job s.max_jobs t)
act s m t (Bring i) = brought_in s m t (s.rule i.order.dial) (bring i (s.rule i.order.dial) m.next_job s.max_jobs t)
act s m t (OnJob n ask) = on_job s m t ask (job_numbered n m)
act s m t (Mark modem down) = marked s m modem down
act s m t (Next modem) = given_to s m t modem
act s m t (OnGrant n report) = on_grant s m t report (grant_numbered n m)
act s m t (GiveUp floor) = Taken m (Floored floor)
act s m t (Purge before) = purged m t before

-- the times of the jobs follow a change
abbrev pub stamped : ℕ → Queue → Step → Step
stamped t m (Taken after reply) = Taken (stamp t m after) reply
stamped t m (Refused e keys) = Refused e keys

-- a request at t, on the queue as it is at t
abbrev pub step : Settings → Queue → ℕ → Ask → Step
step s m t ask = stamped t (aged t m) (act s (aged t m) t ask)
