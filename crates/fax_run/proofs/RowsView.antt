-- Worked rows: which jobs are the newest, and what is shown of modems and of a job's times.
use Rattle.std.specs.Prelude.{◌≡◌, ℕ, List, Some, true, [], ◌∷◌, codes, false, refl}
use Rattle.std.specs.Fmt.{digits}
use Rattle.std.specs.List.{range_with_len}
use Rattle.fax_job.specs.declared.job.Call.TheVariants.{Connected}
use Rattle.fax_core.specs.Queue.{Queue, empty_queue}
use Rattle.fax_job.specs.declared.refusal.Refusal.TheVariants.{NoJob}
use Rattle.fax_ask.specs.Response.{Response, refused_response}
use Rattle.fax_ask.specs.declared.view.View.TheVariants.{Times}
use Rattle.fax_core.specs.Reply.{NoKeys}
use Rattle.fax_core.specs.declared.ask.Ask.TheVariants.{Mark, Next, OnGrant, OnJob, Submission}
use Rattle.fax_core.specs.declared.ask.JobAsk.TheVariants.{Kill}
use Rattle.fax_core.specs.declared.report.Ending.TheVariants.{Fail, Retry}
use Rattle.fax_core.specs.declared.report.Report.TheVariants.{Call, Outcome, Page}
use Rattle.fax_core.proofs.RowsGrants.{long_number}
use Rattle.fax_core.proofs.RowWords.{◌at◌, after, order, report, settings, ttyS0, ttyS1}
use Rattle.fax_run.specs.Modems.{modem_names, modems_shown, with_names}
use Rattle.fax_run.specs.View.{newest, view}

-- of none, two and 200 all, and of 201 and 450 the last 200
none_row : newest {A = ℕ} [] ≡ []
none_row = refl

few_row : newest {A = ℕ} (3 ∷ 7 ∷ []) ≡ 3 ∷ 7 ∷ []
few_row = refl

all_row : newest (range_with_len 1 200) ≡ range_with_len 1 200
all_row = refl

more_row : newest (range_with_len 1 201) ≡ range_with_len 2 200
more_row = refl

many_row : newest (range_with_len 1 450) ≡ range_with_len 251 200
many_row = refl

-- ---- modems

-- capital letters come first, a name before those that go on after it, and each once
names_row : with_names (codes "ttyS1" ∷ codes "ttyS" ∷ codes "Modem" ∷ codes "ttyS1" ∷ codes "ttyS0" ∷ codes "ttyS10" ∷ []) []
    ≡ codes "Modem" ∷ codes "ttyS" ∷ codes "ttyS0" ∷ codes "ttyS1" ∷ codes "ttyS10" ∷ []
names_row = refl

idle_row : modems_shown settings empty_queue ≡ codes "ttyS0:up\nttyS1:up\n"
idle_row = refl

abbrev granted : Queue
granted = after (Submission (order long_number 3) at 1000 ∷ Next ttyS0 at 1000 ∷ [])

granted_row : modems_shown settings granted ≡ codes "ttyS0:up grant 1 job 1 number +14155550100 pages 1-3 call none confirmed 0\nttyS1:up\n"
unfolding digits
granted_row = refl

abbrev confirmed : Queue
confirmed =
    after (Submission (order long_number 3) at 1000 ∷ Next ttyS0 at 1000 ∷ Mark ttyS1 true at 1000 ∷ OnGrant 1 (Call Connected) at 1000
    ∷ OnGrant 1 (Page 1) at 1000 ∷ Mark ttyS0 true at 1000 ∷ [])

confirmed_row : modems_shown settings confirmed ≡ codes "ttyS0:down grant 1 job 1 number +14155550100 pages 1-3 call connected confirmed 1\nttyS1:down\n"
unfolding digits
confirmed_row = refl

abbrev closed : Queue
closed = after (Submission (order long_number 3) at 1000 ∷ Next ttyS0 at 1000 ∷ OnGrant 1 (Outcome (report false Fail 0 [])) at 1000 ∷ [])

abbrev second : Queue
second =
    after (Submission (order long_number 3) at 1000 ∷ Next ttyS0 at 1000 ∷ OnGrant 1 (Outcome (report false Retry 0 [])) at 1000
    ∷ Submission (order (codes "5550112") 1) at 2000 ∷ Next ttyS0 at 2000 ∷ OnGrant 2 (Outcome (report false Retry 0 [])) at 2000 ∷ Next ttyS0 at 2001 ∷ [])

-- a modem that the setup lacks is gone, and it is there while it holds a grant
gone_row : modems_shown (record settings { modems = ttyS1 ∷ [] }) confirmed ≡ codes "ttyS0:gone grant 1 job 1 number +14155550100 pages 1-3 call connected confirmed 1\nttyS1:down\n"
unfolding digits
gone_row = refl

lacking_row : modem_names (record settings { modems = ttyS1 ∷ ttyS1 ∷ [] }) empty_queue ≡ ttyS1 ∷ []
lacking_row = refl

-- a modem that the setup lacks isn't shown once its grant is closed
closed_row : modem_names (record settings { modems = ttyS1 ∷ [] }) closed ≡ ttyS1 ∷ []
closed_row = refl

-- a second grant, of a second job to another number
second_row : modems_shown settings second ≡ codes "ttyS0:up grant 3 job 2 number 5550112 pages 1-1 call none confirmed 0\nttyS1:up\n"
unfolding digits
second_row = refl

-- ---- times

-- the kill time of job 1 is 1500; job 2 was killed
abbrev two_jobs : Queue
two_jobs = after (
    Submission (record (order long_number 3) { killtime = Some 1500 }) at 1000
    ∷ Submission (order long_number 3) at 1001 ∷ OnJob 2 Kill at 1086 ∷ [])

-- what is shown of the times of a number at t
abbrev times_at : ℕ → ℕ → Response
times_at number t = view settings two_jobs t (Times number)

abbrev shown : List ℕ → Response
shown lines = record { status = 200; is_json = false; body = lines }

-- before its kill time a job has no end, and from then on the moment of the view
waiting_times_row : times_at 1 1499 ≡ shown (codes "submitted:1000\nended:0\n")
unfolding digits
waiting_times_row = refl

expired_times_row : times_at 1 1500 ≡ shown (codes "submitted:1000\nended:1500\n")
unfolding digits
expired_times_row = refl

later_times_row : times_at 1 1700 ≡ shown (codes "submitted:1000\nended:1700\n")
unfolding digits
later_times_row = refl

-- a job that is over has its end
killed_times_row : times_at 2 1700 ≡ shown (codes "submitted:1001\nended:1086\n")
unfolding digits
killed_times_row = refl

-- a job that isn't there is refused
no_times_row : times_at 3 1700 ≡ refused_response NoJob NoKeys
no_times_row = refl
