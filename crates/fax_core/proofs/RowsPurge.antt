-- Worked rows: which jobs a purge takes out, and what it leaves.
use Rattle.std.specs.Prelude.{◌≡◌, ◌+◌, refl, ℕ, true, false, List, [], ◌∷◌, ◌++◌, codes, map, Some, None}
use Rattle.std.specs.List.{range_with_len}
use Rattle.fax_job.specs.declared.import.Import.{Import}
use Rattle.fax_job.specs.declared.job.Call.TheVariants.{Busy, Connected}
use Rattle.fax_job.specs.declared.job.Phase.TheVariants as phase
use Rattle.fax_job.specs.declared.refusal.Refusal.TheVariants.{NoGrant, NoJob, PurgeHigh}
use Rattle.fax_core.specs.declared.ask.Ask.TheVariants.{Bring, Mark, Next, OnGrant, OnJob, Purge, Submission}
use Rattle.fax_core.specs.declared.ask.JobAsk.TheVariants.{Kill, Suspend}
use Rattle.fax_core.specs.declared.report.Ending.TheVariants.{Done, Retry}
use Rattle.fax_core.specs.declared.report.Report.TheVariants.{Call, Outcome, Page}
use Rattle.fax_core.specs.Ageing.{aged}
use Rattle.fax_core.specs.Decisions.{new_job}
use Rattle.fax_core.specs.Job.{Job}
use Rattle.fax_core.specs.Purge.{leaving}
use Rattle.fax_core.specs.Queue.{Queue, empty_queue, times_numbered}
use Rattle.fax_core.specs.Reply.{Called, Given, NoKeys, Purged, Submitted}
use Rattle.fax_core.specs.Run.{Answer, Denied, Replied, Request, answer_of, decided}
use Rattle.fax_core.specs.declared.times.Times.{Times}
use Rattle.fax_core.proofs.RowWords.{ttyS0, ttyS1, settings, order, report, hand, ◌at◌, after}
use Rattle.fax_core.proofs.RowsGrants.{long_number, retry_goes_on}

abbrev times : ℕ → ℕ → ℕ → Times
times job submitted ended = record { job = job; submitted = submitted; ended = ended }

abbrev jobs_of : Queue → List ℕ
jobs_of m = map (λ j. j.number) m.jobs

abbrev grants_of : Queue → List ℕ
grants_of m = map (λ g. g.number) m.grants

-- what a request is told behind others, and what it leaves
abbrev last_told : List Request → Request → Answer
last_told rs r = answer_of (decided settings (after rs) r)

-- ---- a job that was killed leaves

abbrev two_jobs : List Request
two_jobs = Submission (order (codes "5550111") 1) at 1000 ∷ Submission (order (codes "5550112") 1) at 1000 ∷ OnJob 1 Kill at 1100 ∷ []

-- not before a moment that is yet to come
high_row : last_told two_jobs (Purge 1201 at 1200) ≡ Denied PurgeHigh NoKeys
high_row = refl

-- nor before the moment at which it ended
end_itself_row : last_told two_jobs (Purge 1100 at 1200) ≡ Replied (Purged 0)
end_itself_row = refl

-- but before the next, and the other job stays
purged_row : last_told two_jobs (Purge 1101 at 1200) ≡ Replied (Purged 1)
purged_row = refl

abbrev one_left : List Request
one_left = two_jobs ++ Purge 1101 at 1200 ∷ []

one_left_row : jobs_of (after one_left) ≡ 2 ∷ []
one_left_row = refl

-- with it its times
times_left_row : (after one_left).times ≡ times 2 1000 0 ∷ []
times_left_row = refl

-- up to the moment of the request itself
now_row : last_told two_jobs (Purge 1200 at 1200) ≡ Replied (Purged 1)
now_row = refl

-- it leaves once
again_row : last_told one_left (Purge 1200 at 1200) ≡ Replied (Purged 0)
again_row = refl

-- then there is no such job
no_job_row : last_told one_left (OnJob 1 Kill at 1200) ≡ Denied NoJob NoKeys
no_job_row = refl

no_times_row : times_numbered 1 (aged 1200 (after one_left)) ≡ None
no_times_row = refl

-- and its number isn't given again, also where no job is left
next_number_row : last_told one_left (Submission (order (codes "5550113") 1) at 1200) ≡ Replied (Submitted 3)
next_number_row = refl

abbrev none_left : List Request
none_left = Submission (order long_number 1) at 1000 ∷ OnJob 1 Kill at 1000 ∷ Purge 1001 at 1200 ∷ []

none_left_row : after none_left ≡ record empty_queue { clock = 1200; next_job = 2 }
none_left_row = refl

second_number_row : last_told none_left (Submission (order long_number 1) at 1200) ≡ Replied (Submitted 2)
second_number_row = refl

-- ---- its grants leave with it

-- job 1 was sent by grants 1 and 2, and job 2 is granted by 3
abbrev granted_after : List Request
granted_after = retry_goes_on ++ Submission (order (codes "5550112") 1) at 1100 ∷ Next ttyS0 at 1100 ∷ []

abbrev after_both : List Request
after_both = granted_after ++ Purge 1100 at 1100 ∷ []

grants_row : last_told granted_after (Purge 1100 at 1100) ≡ Replied (Purged 1)
grants_row = refl

grant_left_row : grants_of (after after_both) ≡ 3 ∷ []
grant_left_row = refl

-- there is no grant of theirs
no_grant_row : last_told after_both (OnGrant 1 (Page 1) at 1100) ≡ Denied NoGrant NoKeys
no_grant_row = refl

no_second_grant_row : last_told after_both (OnGrant 2 (Call Busy) at 1100) ≡ Denied NoGrant NoKeys
no_second_grant_row = refl

-- that of job 2 goes on
abbrev sent_after : List Request
sent_after = after_both ++ OnGrant 3 (Call Connected) at 1101 ∷ OnGrant 3 (Page 1) at 1101 ∷ OnGrant 3 (Outcome (report true Done 1 [])) at 1101 ∷ []

goes_on_row : last_told after_both (OnGrant 3 (Call Connected) at 1101) ≡ Replied (Called false)
goes_on_row = refl

done_row : (after sent_after).times ≡ times 2 1100 1101 ∷ []
done_row = refl

-- and the next numbers are 3 and 4
new_job_row : last_told sent_after (Submission (order (codes "5550113") 1) at 1101) ≡ Replied (Submitted 3)
new_job_row = refl

new_grant_row : last_told (sent_after ++ Submission (order (codes "5550113") 1) at 1101 ∷ []) (Next ttyS0 at 1101) ≡ Replied (Given (hand 4 3 (codes "5550113") 1 1))
new_grant_row = refl

-- ---- what isn't over stays

abbrev import_done : Import
import_done = record { order = order (codes "5550114") 2; npages = 2; ntries = 0; tottries = 0; ndials = 0; totdials = 0; state = 7; status = [] }

-- job 1 is granted, and its kill time is 1500; 2 is held, 3 waits, and 4 came in as done
abbrev four_jobs : List Request
four_jobs =
    Submission (record (order (codes "5550111") 1) { killtime = Some 1500 }) at 1000
    ∷ Submission (order (codes "5550112") 1) at 1000 ∷ OnJob 2 Suspend at 1000
    ∷ Submission (order (codes "5550113") 1) at 1000 ∷ Next ttyS0 at 1000 ∷ Bring import_done at 1000 ∷ []

over_row : last_told four_jobs (Purge 1600 at 1600) ≡ Replied (Purged 1)
over_row = refl

abbrev three_left : List Request
three_left = four_jobs ++ Purge 1600 at 1600 ∷ []

three_left_row : jobs_of (after three_left) ≡ 1 ∷ 2 ∷ 3 ∷ []
three_left_row = refl

-- job 1 fails when its grant ends, and job 5 expires by the purge itself: it ends then, and stays
abbrev expires_then : List Request
expires_then =
    three_left ++ OnGrant 1 (Outcome (report false Retry 0 [])) at 1600
    ∷ Submission (record (order (codes "5550115") 1) { killtime = Some 1701 }) at 1700 ∷ []

failed_row : times_numbered 1 (after expires_then) ≡ Some (times 1 1000 1600)
failed_row = refl

expiring_row : last_told expires_then (Purge 1900 at 1900) ≡ Replied (Purged 1)
expiring_row = refl

expired_row : (after (expires_then ++ Purge 1900 at 1900 ∷ [])).times ≡ times 2 1000 0 ∷ times 3 1000 0 ∷ times 5 1700 1900 ∷ []
expired_row = refl

-- ---- at moment 0

-- a job that was over then has no end, and leaves; one that waits has none either, and stays
abbrev at_zero : List Request
at_zero = Submission (order long_number 1) at 0 ∷ Submission (order long_number 1) at 0 ∷ OnJob 2 Kill at 0 ∷ []

zero_row : jobs_of (after (at_zero ++ Purge 1 at 1 ∷ [])) ≡ 1 ∷ []
zero_row = refl

-- before moment 0 nothing ended
before_zero_row : last_told at_zero (Purge 0 at 1) ≡ Replied (Purged 0)
before_zero_row = refl

-- ---- a purge sets the clock, and marks of modems stay

clock_row : (after (Mark ttyS1 true at 1000 ∷ Purge 0 at 1200 ∷ [])) ≡ record empty_queue { clock = 1200; down = ttyS1 ∷ [] }
clock_row = refl

-- ---- a thousand at a time

abbrev failed_job : ℕ → Job
failed_job number = record (new_job (order long_number 1) number 0) { phase = phase.Failed }

-- so many jobs that failed at moment 5
abbrev failed_jobs : ℕ → Queue
failed_jobs many = record empty_queue {
  jobs = map failed_job (range_with_len 1 many);
  times = map (λ number. times number 0 5) (range_with_len 1 many);
  clock = 5;
  next_job = many + 1;
}

thousand_row : leaving 6 (failed_jobs 1001) ≡ range_with_len 1 1000
thousand_row = refl
