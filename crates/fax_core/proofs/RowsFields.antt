-- Worked rows: what stands in a job after a submission, an alteration and an outcome, and which modems are down.
use Rattle.std.specs.Prelude.{◌≡◌, refl, true, false, List, [], ◌∷◌, ◌++◌, map, codes, Some, None}
use Rattle.fax_job.specs.declared.alter.Alter as changes
use Rattle.fax_job.specs.declared.job.Phase.TheVariants.{Held, Waiting, Failed}
use Rattle.fax_job.specs.declared.job.Wish.TheVariants.{Go}
use Rattle.fax_job.specs.Pair.{Pair}
use Rattle.fax_job.specs.declared.order.Order.{Order}
use Rattle.fax_job.specs.declared.job.Call.TheVariants.{Connected}
use Rattle.fax_core.specs.declared.report.Ending.TheVariants.{Retry}
use Rattle.fax_core.specs.declared.ask.Ask.TheVariants.{Submission, OnJob, Mark, Next, OnGrant}
use Rattle.fax_core.specs.declared.ask.JobAsk.TheVariants.{Suspend, Resume, Kill, Alter}
use Rattle.fax_core.specs.declared.report.Report.TheVariants.{Call, Page, Outcome}
use Rattle.fax_core.specs.Job.{Job}
use Rattle.fax_core.specs.Queue.{empty_queue}
use Rattle.fax_core.specs.Reply.{Submitted, Stands, Given, NoneToSend}
use Rattle.fax_core.specs.Run.{Replied, answers}
use Rattle.fax_core.proofs.RowWords.{ttyS0, ttyS1, settings, default_rule, order, report, hand, ◌at◌, after, statuses}
use Rattle.fax_core.proofs.RowsGrants.{long_number, first_grant, outcome_before_page, retry_goes_on}

-- ---- a submission

abbrev sender : List Pair
sender = record { tag = codes "sender"; value = codes "A. Clerk" } ∷ []

abbrev whole : Order
whole = record { dial = long_number; modem = codes "fast"; jobtag = codes "Quarterly report"; tts = Some 2000; killtime = Some 9000; priority = 100; totpages = 3; maxtries = 4; maxdials = 5; extra = sender }

abbrev whole_job : Job
whole_job = record {
  number = 1;
  dial = long_number;
  modem = codes "fast";
  jobtag = codes "Quarterly report";
  tts = 2000;
  killtime = Some 9000;
  priority = 100;
  totpages = 3;
  maxtries = 4;
  maxdials = 5;
  extra = sender;
  sent = [];
  left = 1 ∷ 2 ∷ 3 ∷ [];
  ntries = 0;
  tottries = 0;
  ndials = 0;
  totdials = 0;
  phase = Waiting;
  wish = Go;
  next = 0;
  status = [];
}

-- a submission sets all that its order says
submission_sets : (after (Submission whole at 1000 ∷ [])).jobs ≡ whole_job ∷ []
submission_sets = refl

-- ---- an alteration

abbrev other : changes.Alter
other = record { modem = Some (codes "any"); jobtag = Some []; tts = Some (Some 3000); killtime = Some None; priority = Some 90; maxtries = Some 2; maxdials = Some 7 }

-- an alteration sets all that it says
alteration_sets : (after (Submission whole at 1000 ∷ OnJob 1 Suspend at 1000 ∷ OnJob 1 (Alter other) at 1000 ∷ [])).jobs ≡
    record whole_job { modem = codes "any"; jobtag = []; tts = 3000; killtime = None; priority = 90; maxtries = 2; maxdials = 7; phase = Held } ∷ []
alteration_sets = refl

-- one that says nothing leaves all
alteration_leaves : (after (Submission whole at 1000 ∷ OnJob 1 Suspend at 1000
    ∷ OnJob 1 (Alter (record { modem = None; jobtag = None; tts = None; killtime = None; priority = None; maxtries = None; maxdials = None })) at 1000 ∷ [])).jobs ≡
    record whole_job { phase = Held } ∷ []
alteration_leaves = refl

-- a kill sets the status
kill_sets : (after (Submission whole at 1000 ∷ OnJob 1 Kill at 1000 ∷ [])).jobs ≡ record whole_job { phase = Failed; status = codes "Killed" } ∷ []
kill_sets = refl

-- a held job's too
kill_sets_held : (after (Submission whole at 1000 ∷ OnJob 1 Suspend at 1000 ∷ OnJob 1 Kill at 1000 ∷ [])).jobs ≡ record whole_job { phase = Failed; status = codes "Killed" } ∷ []
kill_sets_held = refl

-- the status and the next time stay with a job that is suspended, resumed and granted again
suspension_leaves : after (outcome_before_page ++ OnJob 1 Suspend at 1022 ∷ OnJob 1 Resume at 1022 ∷ []) ≡ after outcome_before_page
suspension_leaves = refl

-- the status of the last grant stays with a job that is granted again
granted_again : map (λ j. j.status) (after (outcome_before_page ++ Next ttyS0 at 1082 ∷ [])).jobs ≡ codes "line dropped" ∷ []
granted_again = refl

-- ---- outcomes

-- with no delay a job may go at once: its own call is over
own_call_is_over : answers (record settings { delay = λ call. 0 }) empty_queue (first_grant ++ OnGrant 1 (Outcome (report false Retry 0 [])) at 1000
    ∷ []) ≡ Replied (Submitted 1) ∷ Replied (Given (hand 1 1 long_number 1 3)) ∷ Replied (Stands 1 5) ∷ []
own_call_is_over = refl

-- the reason of a retry is the status
retry_reason : statuses (after outcome_before_page) 1022 ≡ codes "line dropped" ∷ []
retry_reason = refl

-- a job that is done has no status, whatever it had before
done_status : statuses (after retry_goes_on) 1083 ≡ [] ∷ []
done_status = refl

-- a job that is done has the wish to go, though it was to be killed
done_wish : map (λ j. j.wish) (after (first_grant ++ OnJob 1 Kill at 1005 ∷ OnGrant 1 (Call Connected) at 1006 ∷ OnGrant 1 (Page 1) at 1007
    ∷ OnGrant 1 (Page 2) at 1007 ∷ OnGrant 1 (Page 3) at 1007 ∷ OnGrant 1 (Outcome (report true Retry 3 [])) at 1007 ∷ [])).jobs ≡ Go ∷ []
done_wish = refl

-- ---- modems

-- a modem is marked down once
down_once : (after (Mark ttyS0 true at 0 ∷ Mark ttyS1 true at 0 ∷ Mark ttyS0 true at 0 ∷ [])).down ≡ ttyS0 ∷ ttyS1 ∷ []
down_once = refl

-- a modem that is ready is down no more
ready_again : (after (Mark ttyS0 true at 0 ∷ Mark ttyS1 true at 0 ∷ Mark ttyS0 true at 0 ∷ Mark ttyS0 false at 0 ∷ [])).down ≡ ttyS1 ∷ []
ready_again = refl

-- ---- calls to one number

-- where a rule allows two calls, two jobs to one number go at a time, and no third
two_calls : answers (record settings { rule = λ dial. record default_rule { calls = 2 }; modems = ttyS0 ∷ ttyS1 ∷ codes "ttyS2" ∷ [] }) empty_queue (Submission (order long_number 1) at 0 ∷ Submission (order long_number 1) at 0 ∷ Submission (order long_number 1) at 0 ∷ Next ttyS0 at 0 ∷ Next ttyS1 at 0 ∷ Next (codes "ttyS2") at 0 ∷ []) ≡
    Replied (Submitted 1) ∷ Replied (Submitted 2) ∷ Replied (Submitted 3)
    ∷ Replied (Given (hand 1 1 long_number 1 1)) ∷ Replied (Given (hand 2 2 long_number 1 1)) ∷ Replied NoneToSend ∷ []
two_calls = refl
