-- Worked rows: each request of a client in each phase, and what comes of it when a grant ends.
use Rattle.std.specs.Prelude.{◌≡◌, refl, true, false, List, [], ◌∷◌, ◌++◌, map, codes, Some}
use Rattle.fax_job.specs.declared.job.Call.TheVariants.{Connected}
use Rattle.fax_job.specs.declared.job.Phase.{Phase}
use Rattle.fax_job.specs.declared.job.Phase.TheVariants as phase
use Rattle.fax_job.specs.declared.job.Wish.{Wish}
use Rattle.fax_job.specs.declared.job.Wish.TheVariants.{Go, Hold}
use Rattle.fax_job.specs.declared.job.Wish.TheVariants as wish
use Rattle.fax_job.specs.declared.refusal.Refusal.TheVariants.{JobOver, JobActive, NotSuspended}
use Rattle.fax_core.specs.declared.report.Ending.TheVariants.{Retry}
use Rattle.fax_core.specs.declared.ask.Ask.{Ask}
use Rattle.fax_core.specs.declared.ask.Ask.TheVariants.{Submission, OnJob, Mark, Next, OnGrant}
use Rattle.fax_core.specs.declared.ask.JobAsk.TheVariants.{Suspend, Resume, Kill, Alter}
use Rattle.fax_core.specs.declared.report.Report.TheVariants.{Call, Outcome}
use Rattle.fax_core.specs.Queue.{Queue, empty_queue}
use Rattle.fax_core.specs.Reply.{Submitted, Stands, Marked, NoneToSend, Given, Called, NoKeys}
use Rattle.fax_core.specs.Run.{Request, Answer, Replied, Denied, answer_of, left_by, decided, answers}
use Rattle.fax_core.proofs.RowWords.{ttyS0, ttyS1, settings, order, no_change, report, hand, ◌at◌, told, after, shown, statuses}
use Rattle.fax_core.proofs.RowsGrants.{long_number, first_grant}

-- ---- suspend, resume, kill and alter, each by itself after the same requests

abbrev four : List Ask
four = OnJob 1 Suspend ∷ OnJob 1 Resume ∷ OnJob 1 Kill ∷ OnJob 1 (Alter (record no_change { priority = Some 10 })) ∷ []

abbrev each_told : List Request → List Answer
each_told rs = map (λ ask. answer_of (decided settings (after rs) (ask at 1000))) four

abbrev each_left : List Request → List Queue
each_left rs = map (λ ask. left_by (after rs) (decided settings (after rs) (ask at 1000))) four

abbrev phases : List Request → List (List Phase)
phases rs = map (λ m. map (λ j. j.phase) m.jobs) (each_left rs)

abbrev wishes : List Request → List (List Wish)
wishes rs = map (λ m. map (λ j. j.wish) m.jobs) (each_left rs)

abbrev waiting : List Request
waiting = Submission (order long_number 3) at 1000 ∷ []

-- what each request of a held job is told
of_held : each_told (waiting ++ OnJob 1 Suspend at 1000 ∷ []) ≡ Replied (Stands 1 1) ∷ Replied (Stands 1 5) ∷ Replied (Stands 1 8) ∷ Replied (Stands 1 1) ∷ []
of_held = refl

-- and in which phase it leaves the job
held_becomes : phases (waiting ++ OnJob 1 Suspend at 1000 ∷ []) ≡ (phase.Held ∷ []) ∷ (phase.Waiting ∷ []) ∷ (phase.Failed ∷ []) ∷ (phase.Held ∷ []) ∷ []
held_becomes = refl

-- what each of a waiting job is told
of_waiting : each_told waiting ≡ Replied (Stands 1 1) ∷ Denied NotSuspended NoKeys ∷ Replied (Stands 1 8) ∷ Denied NotSuspended NoKeys ∷ []
of_waiting = refl

-- and in which phase it leaves the job
waiting_becomes : phases waiting ≡ (phase.Held ∷ []) ∷ (phase.Waiting ∷ []) ∷ (phase.Failed ∷ []) ∷ (phase.Waiting ∷ []) ∷ []
waiting_becomes = refl

-- what each of a granted job is told
of_granted : each_told first_grant ≡ Replied (Stands 1 6) ∷ Denied JobActive NoKeys ∷ Replied (Stands 1 6) ∷ Denied JobActive NoKeys ∷ []
of_granted = refl

-- and with which wish it leaves the job
granted_becomes : wishes first_grant ≡ (wish.Hold ∷ []) ∷ (wish.Go ∷ []) ∷ (wish.Kill ∷ []) ∷ (wish.Go ∷ []) ∷ []
granted_becomes = refl

-- what each of a granted job to be held is told
of_granted_to_hold : each_told (first_grant ++ OnJob 1 Suspend at 1000 ∷ []) ≡ Replied (Stands 1 6) ∷ Replied (Stands 1 6) ∷ Replied (Stands 1 6) ∷ Denied JobActive NoKeys ∷ []
of_granted_to_hold = refl

-- and with which wish it leaves the job
granted_to_hold_becomes : wishes (first_grant ++ OnJob 1 Suspend at 1000 ∷ []) ≡ (wish.Hold ∷ []) ∷ (wish.Go ∷ []) ∷ (wish.Kill ∷ []) ∷ (wish.Hold ∷ []) ∷ []
granted_to_hold_becomes = refl

-- what each of a granted job to be killed is told
of_granted_to_kill : each_told (first_grant ++ OnJob 1 Kill at 1000 ∷ []) ≡ Denied JobActive NoKeys ∷ Denied JobActive NoKeys ∷ Replied (Stands 1 6) ∷ Denied JobActive NoKeys ∷ []
of_granted_to_kill = refl

-- and the wish stays
granted_to_kill_becomes : wishes (first_grant ++ OnJob 1 Kill at 1000 ∷ []) ≡ (wish.Kill ∷ []) ∷ (wish.Kill ∷ []) ∷ (wish.Kill ∷ []) ∷ (wish.Kill ∷ []) ∷ []
granted_to_kill_becomes = refl

-- each of a job that is over is refused
of_over : each_told (waiting ++ OnJob 1 Kill at 1000 ∷ []) ≡ Denied JobOver NoKeys ∷ Denied JobOver NoKeys ∷ Denied JobOver NoKeys ∷ Denied JobOver NoKeys ∷ []
of_over = refl

-- ---- when a grant ends

-- suspended while it was granted: it is held, and when it is resumed it sleeps until its next time
suspended_while_granted : told (first_grant ++ OnJob 1 Suspend at 1005 ∷ OnGrant 1 (Call Connected) at 1006 ∷ OnGrant 1 (Outcome (report true Retry 0 [])) at 1007
    ∷ OnJob 1 Resume at 1066 ∷ OnJob 1 Suspend at 1066 ∷ OnJob 1 Resume at 1067 ∷ []) ≡
    Replied (Submitted 1) ∷ Replied (Given (hand 1 1 long_number 1 3))
    ∷ Replied (Stands 1 6) ∷ Replied (Called true) ∷ Replied (Stands 1 1) ∷ Replied (Stands 1 3) ∷ Replied (Stands 1 1) ∷ Replied (Stands 1 5) ∷ []
suspended_while_granted = refl

-- resumed while it was granted: it sleeps until its next time
resumed_while_granted : told (first_grant ++ OnJob 1 Suspend at 1005 ∷ OnJob 1 Resume at 1005 ∷ OnGrant 1 (Call Connected) at 1006 ∷ OnGrant 1 (Outcome (report true Retry 0 [])) at 1007 ∷ []) ≡
    Replied (Submitted 1) ∷ Replied (Given (hand 1 1 long_number 1 3))
    ∷ Replied (Stands 1 6) ∷ Replied (Stands 1 6) ∷ Replied (Called false) ∷ Replied (Stands 1 3) ∷ []
resumed_while_granted = refl

-- a kill time that comes while the job is granted stops the worker, and fails the job when the grant ends
abbrev expired_while_granted : List Request
expired_while_granted =
    Submission (record (order long_number 3) { killtime = Some 1500 }) at 1000
    ∷ Next ttyS0 at 1000 ∷ OnGrant 1 (Call Connected) at 1500 ∷ OnGrant 1 (Outcome (report true Retry 0 [])) at 1501 ∷ []

-- the worker is told to stop, and the job fails
expired_while_granted_row : told expired_while_granted ≡ Replied (Submitted 1) ∷ Replied (Given (hand 1 1 long_number 1 3)) ∷ Replied (Called true) ∷ Replied (Stands 1 8) ∷ []
expired_while_granted_row = refl

-- until then it is active
expired_while_granted_shown : shown (after (Submission (record (order long_number 3) { killtime = Some 1500 }) at 1000 ∷ Next ttyS0 at 1000 ∷ OnGrant 1 (Call Connected) at 1500 ∷ [])) 1500 ≡ 6 ∷ []
expired_while_granted_shown = refl

-- then its status tells why
expired_while_granted_status : statuses (after expired_while_granted) 1501 ≡ codes "Kill time expired" ∷ []
expired_while_granted_status = refl

-- with no call the delay is that of no call, and the reason is the status
abbrev no_call : List Request
no_call = first_grant ++ OnGrant 1 (Outcome (report false Retry 0 (codes "no dial tone"))) at 1010 ∷ []

-- the next time is 300 seconds later
no_call_next : map (λ j. j.next) (after no_call).jobs ≡ 1310 ∷ []
no_call_next = refl

-- the reason is the status
no_call_status : statuses (after no_call) 1010 ≡ codes "no dial tone" ∷ []
no_call_status = refl

-- a modem that is down goes on with its grant, and gets no other
down_with_a_grant : told (first_grant ++ Mark ttyS0 true at 1000 ∷ OnGrant 1 (Call Connected) at 1000 ∷ []) ≡
    Replied (Submitted 1) ∷ Replied (Given (hand 1 1 long_number 1 3)) ∷ Replied (Marked true) ∷ Replied (Called false) ∷ []
down_with_a_grant = refl

-- a refused request leaves the clock
refused_leaves_clock : map (λ j. j.tts) (after (OnJob 9 Kill at 5000 ∷ Submission (order long_number 3) at 500 ∷ [])).jobs ≡ 500 ∷ []
refused_leaves_clock = refl

-- no grant is full where no job would be granted
full_of_grants_but_nothing_to_send : answers (record settings { max_grants = 1 }) empty_queue (first_grant ++ Next ttyS1 at 1000 ∷ []) ≡ Replied (Submitted 1) ∷ Replied (Given (hand 1 1 long_number 1 3)) ∷ Replied NoneToSend ∷ []
full_of_grants_but_nothing_to_send = refl
