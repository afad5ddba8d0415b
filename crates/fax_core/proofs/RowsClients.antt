-- Worked rows: submissions, and clients' requests on their jobs.
use Rattle.std.specs.Prelude.{◌≡◌, refl, ℕ, ◌+◌, ◌/◌, ◌%◌, Bool, true, ◌&&◌, List, [], ◌∷◌, ◌++◌, map, nat_le, nat_lt, codes, Some, None}
use Rattle.fax_job.specs.declared.job.Call.TheVariants.{Busy}
use Rattle.fax_job.specs.declared.refusal.Refusal.TheVariants.{JobOver, NotSuspended}
use Rattle.fax_core.specs.declared.report.Ending.TheVariants.{Retry}
use Rattle.fax_core.specs.Ageing.{aged}
use Rattle.fax_core.specs.declared.ask.Ask.TheVariants.{Submission, OnJob, Next, OnGrant}
use Rattle.fax_core.specs.declared.ask.JobAsk.TheVariants.{Suspend, Resume, Kill, Alter}
use Rattle.fax_core.specs.declared.report.Report.TheVariants.{Call, Outcome}
use Rattle.fax_core.specs.Reply.{Submitted, Stands, NoneToSend, NoKeys}
use Rattle.fax_core.specs.Run.{Request, Replied, Denied}
use Rattle.fax_core.specs.State.{state}
use Rattle.fax_core.specs.Settings.{Settings}
use Rattle.fax_core.proofs.RowWords.{ttyS0, settings, default_rule, order, no_change, report, ◌at◌, told, after, shown, statuses}
use Rattle.fax_core.proofs.RowsGrants.{long_number}

-- the second request comes at an earlier moment than the clock's
clock_kept_row : map (λ j. j.tts) (after (Submission (order long_number 3) at 1000 ∷ Submission (order (codes "5550111") 1) at 500 ∷ [])).jobs ≡ 1000 ∷ 1000 ∷ []
clock_kept_row = refl

abbrev mortal : List Request
mortal = Submission (record (order (codes "5550111") 1) { killtime = Some 1500 }) at 1000 ∷ []

-- from its kill time on a job gets no grant, and is over
kill_time_row : told (mortal ++ Next ttyS0 at 1500 ∷ OnJob 1 Kill at 1500 ∷ []) ≡ Replied (Submitted 1) ∷ Replied NoneToSend ∷ Denied JobOver NoKeys ∷ []
kill_time_row = refl

-- it is ready until then
kill_time_shown_before : shown (after mortal) 1499 ≡ 5 ∷ []
kill_time_shown_before = refl

-- and failed from then on
kill_time_shown : shown (after (mortal ++ Next ttyS0 at 1500 ∷ [])) 1500 ≡ 8 ∷ []
kill_time_shown = refl

-- with this status
kill_time_status : statuses (after (mortal ++ Next ttyS0 at 1500 ∷ [])) 1500 ≡ codes "Kill time expired" ∷ []
kill_time_status = refl

abbrev later_priority : Request
later_priority = OnJob 1 (Alter (record no_change { priority = Some 10 })) at 1001

-- a job is altered once it is suspended, and resumed once
alter_and_suspend_row : told (Submission (order long_number 3) at 1000 ∷ later_priority ∷ OnJob 1 Suspend at 1001 ∷ later_priority ∷ OnJob 1 Resume at 1001 ∷ OnJob 1 Resume at 1001 ∷ []) ≡
    Replied (Submitted 1) ∷ Denied NotSuspended NoKeys ∷ Replied (Stands 1 1) ∷ Replied (Stands 1 1) ∷ Replied (Stands 1 5) ∷ Denied NotSuspended NoKeys ∷ []
alter_and_suspend_row = refl

-- an alteration to a limit that is reached already changes nothing
alter_to_the_limit_row : map (λ j. j.maxdials) (after (Submission (order long_number 3) at 1000 ∷ Next ttyS0 at 1000 ∷ OnGrant 1 (Call Busy) at 1000
    ∷ OnGrant 1 (Outcome (report true Retry 0 [])) at 1000 ∷ OnJob 1 Suspend at 1000 ∷ OnJob 1 (Alter (record no_change { maxdials = Some 1 })) at 1000 ∷ [])).jobs ≡ 12 ∷ []
alter_to_the_limit_row = refl

-- a job that is suspended while it waits since its number was busy, and gets another time to send
abbrev busy_altered : List Request
busy_altered =
    Submission (order long_number 3) at 1000 ∷ Next ttyS0 at 1000 ∷ OnGrant 1 (Call Busy) at 1000 ∷ OnGrant 1 (Outcome (report true Retry 0 [])) at 1000
    ∷ OnJob 1 Suspend at 1001 ∷ OnJob 1 (Alter (record no_change { tts = Some (Some 5000) })) at 1002 ∷ []

alter_later_tts_row : map (λ j. j.tts) (after busy_altered).jobs ≡ 5000 ∷ []
alter_later_tts_row = refl

-- its next time stays
alter_leaves_next_row : map (λ j. j.next) (after busy_altered).jobs ≡ 1180 ∷ []
alter_leaves_next_row = refl

-- a time to send of 0, which a submission at moment 0 has, stays
abbrev suspended_at_0 : List Request
suspended_at_0 = Submission (order (codes "5550111") 1) at 0 ∷ OnJob 1 Suspend at 0 ∷ []

-- an alteration of another value leaves it
alter_leaves_tts_row : map (λ j. j.tts) (after (suspended_at_0 ++ OnJob 1 (Alter (record no_change { priority = Some 10 })) at 50 ∷ [])).jobs ≡ 0 ∷ []
alter_leaves_tts_row = refl

-- a time to send of none is the moment of the alteration
alter_sets_tts_row : map (λ j. j.tts) (after (suspended_at_0 ++ OnJob 1 (Alter (record no_change { tts = Some None })) at 50 ∷ [])).jobs ≡ 50 ∷ []
alter_sets_tts_row = refl

-- a moment may be in the hours or not: here from 8 to 17 o'clock, Monday to Friday, of a week that began on a Sunday at 345600
abbrev on_workdays : ℕ → Bool
on_workdays t = nat_le 1 ((t / 86400 + 4) % 7) && nat_le ((t / 86400 + 4) % 7) 5 && nat_le 28800 (t % 86400) && nat_lt (t % 86400) 61200

abbrev at_work : Settings
at_work = record settings { rule = λ dial. record default_rule { hours = on_workdays } }

-- a job to such a number is ready in the hours alone
time_of_day_row : map (λ t. map (state at_work (aged t (after (Submission (order (codes "5550111") 1) at 0 ∷ []))) t) (aged t (after (Submission (order (codes "5550111") 1) at 0 ∷ []))).jobs) (28799 ∷ 28800 ∷ 61199 ∷ 61200 ∷ []) ≡ (2 ∷ []) ∷ (5 ∷ []) ∷ (5 ∷ []) ∷ (2 ∷ []) ∷ []
time_of_day_row = refl

-- a job whose kill time is past can't be killed
kill_time_passed_row : told (mortal ++ OnJob 1 Kill at 1500 ∷ []) ≡ Replied (Submitted 1) ∷ Denied JobOver NoKeys ∷ []
kill_time_passed_row = refl
