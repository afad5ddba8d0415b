-- Worked rows: when a job came in, and when it ended.
use Rattle.std.specs.Prelude.{◌≡◌, refl, ℕ, false, true, List, [], ◌∷◌, ◌++◌, Some, None}
use Rattle.fax_job.specs.declared.import.Import.{Import}
use Rattle.fax_core.specs.declared.ask.Ask.TheVariants.{Bring, Mark, OnGrant, OnJob, Submission}
use Rattle.fax_core.specs.declared.ask.JobAsk.TheVariants.{Kill, Resume, Suspend}
use Rattle.fax_core.specs.declared.report.Ending.TheVariants.{Fail, Retry}
use Rattle.fax_core.specs.declared.report.Report.TheVariants.{Outcome}
use Rattle.fax_core.specs.Ageing.{aged}
use Rattle.fax_core.specs.Queue.{times_numbered}
use Rattle.fax_core.specs.Run.{Request}
use Rattle.fax_core.specs.declared.times.Times.{Times}
use Rattle.fax_core.proofs.RowWords.{ttyS0, order, report, ◌at◌, after}
use Rattle.fax_core.proofs.RowsGrants.{long_number, first_grant, retry_goes_on}

abbrev times : ℕ → ℕ → ℕ → Times
times job submitted ended = record { job = job; submitted = submitted; ended = ended }

-- ---- a job comes in

abbrev one : List Request
one = Submission (order long_number 1) at 1000 ∷ []

-- a job that is submitted isn't over
submitted_row : (after one).times ≡ times 1 1000 0 ∷ []
submitted_row = refl

-- each job has its own times
second_row : (after (one ++ Submission (order long_number 1) at 1001 ∷ [])).times ≡ times 1 1000 0 ∷ times 2 1001 0 ∷ []
second_row = refl

abbrev import : ℕ → Import
import state = record { order = order long_number 2; npages = 0; ntries = 0; tottries = 0; ndials = 0; totdials = 0; state = state; status = [] }

-- an import of a job that was done has ended
done_import_row : (after (one ++ Bring (import 7) at 1002 ∷ [])).times ≡ times 1 1000 0 ∷ times 2 1002 1002 ∷ []
done_import_row = refl

-- so has one of a job that had failed
failed_import_row : (after (Bring (import 8) at 1002 ∷ [])).times ≡ times 1 1002 1002 ∷ []
failed_import_row = refl

-- and one whose pages were all sent
sent_import_row : (after (Bring (record (import 2) { npages = 2 }) at 1002 ∷ [])).times ≡ times 1 1002 1002 ∷ []
sent_import_row = refl

-- one of a job that wasn't over has not
waiting_import_row : (after (Bring (import 2) at 1002 ∷ [])).times ≡ times 1 1002 0 ∷ []
waiting_import_row = refl

-- ---- it ends

-- a job ends when it is killed
killed_row : (after (one ++ OnJob 1 Kill at 1086 ∷ [])).times ≡ times 1 1000 1086 ∷ []
killed_row = refl

-- and not again when a request on it is refused
refused_row : (after (one ++ OnJob 1 Kill at 1086 ∷ OnJob 1 Kill at 1090 ∷ [])).times ≡ times 1 1000 1086 ∷ []
refused_row = refl

-- nor by what is asked later of others
later_row : (after (one ++ OnJob 1 Kill at 1086 ∷ Submission (order long_number 1) at 1090 ∷ OnJob 2 Kill at 1091 ∷ [])).times ≡ times 1 1000 1086 ∷ times 2 1090 1091 ∷ []
later_row = refl

-- a job that is suspended and resumed isn't over
suspended_row : (after (one ++ OnJob 1 Suspend at 1001 ∷ OnJob 1 Resume at 1002 ∷ OnJob 1 Suspend at 1003 ∷ [])).times ≡ times 1 1000 0 ∷ []
suspended_row = refl

-- nor is one that is granted, while it is to be killed
granted_row : (after (first_grant ++ OnJob 1 Kill at 1005 ∷ [])).times ≡ times 1 1000 0 ∷ []
granted_row = refl

-- it ends with its grant
granted_killed_row : (after (first_grant ++ OnJob 1 Kill at 1005 ∷ OnGrant 1 (Outcome (report false Retry 0 [])) at 1007 ∷ [])).times ≡ times 1 1000 1007 ∷ []
granted_killed_row = refl

-- a retry isn't the end
retry_row : (after (first_grant ++ OnGrant 1 (Outcome (report false Retry 0 [])) at 1007 ∷ [])).times ≡ times 1 1000 0 ∷ []
retry_row = refl

-- all pages sent are
done_row : (after retry_goes_on).times ≡ times 1 1000 1083 ∷ []
done_row = refl

-- so is a failure
failed_row : (after (first_grant ++ OnGrant 1 (Outcome (report false Fail 0 [])) at 1007 ∷ [])).times ≡ times 1 1000 1007 ∷ []
failed_row = refl

-- a job that was over at moment 0 has no end, and gets none later
at_zero_row : (after (Submission (order long_number 1) at 0 ∷ OnJob 1 Kill at 0 ∷ Mark ttyS0 true at 5 ∷ [])).times ≡ times 1 0 0 ∷ []
at_zero_row = refl

-- ---- its kill time comes

abbrev with_killtime : List Request
with_killtime = Submission (record (order long_number 1) { killtime = Some 1500 }) at 1000 ∷ []

-- it ends at the moment of the next request that is accepted
expired_row : (after (with_killtime ++ Mark ttyS0 true at 1600 ∷ [])).times ≡ times 1 1000 1600 ∷ []
expired_row = refl

-- and not by one that is refused
refused_expiry_row : (after (with_killtime ++ OnJob 9 Kill at 1600 ∷ [])).times ≡ times 1 1000 0 ∷ []
refused_expiry_row = refl

-- nor before the kill time
unexpired_row : (after (with_killtime ++ Mark ttyS0 true at 1499 ∷ [])).times ≡ times 1 1000 0 ∷ []
unexpired_row = refl

-- a held job's comes too
held_expired_row : (after (with_killtime ++ OnJob 1 Suspend at 1000 ∷ Mark ttyS0 true at 1500 ∷ [])).times ≡ times 1 1000 1500 ∷ []
held_expired_row = refl

-- a job that came in with a kill time that was past ends with the request after
late_row : (after (Submission (record (order long_number 1) { killtime = Some 500 }) at 1000 ∷ [])).times ≡ times 1 1000 0 ∷ []
late_row = refl

-- a view of it has ended at the view's moment
viewed_row : times_numbered 1 (aged 1700 (after with_killtime)) ≡ Some (times 1 1000 1700)
viewed_row = refl

-- ---- the times of a number

-- the second job's, and none of a third
numbered_row : times_numbered 2 (after (one ++ Submission (order long_number 1) at 1001 ∷ [])) ≡ Some (times 2 1001 0)
numbered_row = refl

none_row : times_numbered 3 (after (one ++ Submission (order long_number 1) at 1001 ∷ [])) ≡ None
none_row = refl
