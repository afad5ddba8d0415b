-- Worked rows: one for each refusal, 8 to 26.
use Rattle.std.specs.Prelude.{◌≡◌, refl, true, false, List, [], ◌∷◌, ◌++◌, codes, Some, if◌then◌else◌}
use Rattle.std.specs.List.{starts_with}
use Rattle.std.specs.Prelude.{nat_eq}
use Rattle.fax_job.specs.declared.job.Call.TheVariants.{Connected, Busy}
use Rattle.fax_job.specs.declared.refusal.Refusal.TheVariants.{NoJob, NoModem, NoGrant, Rejected, TooManyPages, JobOver, JobActive, NotSuspended, LimitReached, ModemDown, ModemBusy, GrantClosed, CallKnown, NotConnected, PageOrder, CallMissing, PagesMismatch, PagesLeft, Full}
use Rattle.fax_core.specs.declared.report.Ending.TheVariants.{Done, Retry, Fail}
use Rattle.fax_core.specs.declared.ask.Ask.TheVariants.{Submission, OnJob, Mark, Next, OnGrant}
use Rattle.fax_core.specs.declared.ask.JobAsk.TheVariants.{Suspend, Resume, Kill, Alter}
use Rattle.fax_core.specs.declared.report.Report.TheVariants.{Call, Page, Outcome}
use Rattle.fax_core.specs.Queue.{empty_queue}
use Rattle.fax_core.specs.Reply.{Submitted, Stands, Marked, NoneToSend, Given, Called, Confirmed, NoKeys, Notice, HeldGrant, Pages}
use Rattle.fax_core.specs.Run.{Answer, Replied, Denied, answers}
use Rattle.fax_core.specs.Settings.{Settings}
use Rattle.fax_core.proofs.RowWords.{ttyS0, ttyS1, settings, default_rule, order, no_change, report, hand, ◌at◌, told, after, statuses}
use Rattle.fax_core.proofs.RowsGrants.{long_number, first_grant}

-- the answers to a row that begins with a submission and its grant
abbrev after_grant : List Answer → List Answer
after_grant rest = Replied (Submitted 1) ∷ Replied (Given (hand 1 1 long_number 1 3)) ∷ rest

-- a request on a job that isn't there
refused_8 : told (OnJob 9 Kill at 1000 ∷ []) ≡ Denied NoJob NoKeys ∷ []
refused_8 = refl

-- a modem that isn't in the setup
refused_9 : told (Mark (codes "ttyS9") false at 1000 ∷ []) ≡ Denied NoModem NoKeys ∷ []
refused_9 = refl

-- a report on a grant that isn't there
refused_10 : told (OnGrant 9 (Call Busy) at 1000 ∷ []) ≡ Denied NoGrant NoKeys ∷ []
refused_10 = refl

-- numbers that begin with 5559 aren't served, and to those that begin with 5558 two pages may be sent
abbrev controlled : Settings
controlled = record settings {
  rule = λ dial.
      if starts_with nat_eq dial (codes "5559") then record default_rule { notice = Some (codes "Number no longer served") }
      else if starts_with nat_eq dial (codes "5558") then record default_rule { pages = Some 2 }
      else default_rule;
}

-- a number that isn't served, with its notice
refused_11 : answers controlled empty_queue (Submission (order (codes "5559000") 1) at 1000 ∷ []) ≡ Denied Rejected (Notice (codes "Number no longer served")) ∷ []
refused_11 = refl

-- more pages than the rule allows
refused_12 : answers controlled empty_queue (Submission (order (codes "5558000") 3) at 1000 ∷ Submission (order (codes "5558000") 2) at 1000 ∷ []) ≡ Denied TooManyPages NoKeys ∷ Replied (Submitted 1) ∷ []
refused_12 = refl

-- each request on a job that is over
refused_13 : told (Submission (order long_number 3) at 1000 ∷ OnJob 1 Kill at 1000 ∷ OnJob 1 Suspend at 1000 ∷ OnJob 1 Resume at 1000 ∷ OnJob 1 Kill at 1000 ∷ OnJob 1 (Alter no_change) at 1000 ∷ []) ≡
    Replied (Submitted 1) ∷ Replied (Stands 1 8) ∷ Denied JobOver NoKeys ∷ Denied JobOver NoKeys ∷ Denied JobOver NoKeys ∷ Denied JobOver NoKeys ∷ []
refused_13 = refl

-- an alteration of a granted job
refused_14 : told (first_grant ++ OnJob 1 (Alter (record no_change { priority = Some 1 })) at 1000 ∷ []) ≡ after_grant (Denied JobActive NoKeys ∷ [])
refused_14 = refl

-- an alteration of a job that isn't suspended
refused_15 : told (Submission (order long_number 3) at 1000 ∷ OnJob 1 (Alter (record no_change { priority = Some 10 })) at 1001 ∷ []) ≡ Replied (Submitted 1) ∷ Denied NotSuspended NoKeys ∷ []
refused_15 = refl

-- a limit that is reached already
refused_16 : told (first_grant ++ OnGrant 1 (Call Busy) at 1000 ∷ OnGrant 1 (Outcome (report true Retry 0 [])) at 1000 ∷ OnJob 1 Suspend at 1000
    ∷ OnJob 1 (Alter (record no_change { maxdials = Some 1 })) at 1000 ∷ []) ≡
    after_grant (Replied (Called false) ∷ Replied (Stands 1 3) ∷ Replied (Stands 1 1) ∷ Denied LimitReached NoKeys ∷ [])
refused_16 = refl

-- a modem that is down, until it is ready
refused_17 : told (Mark ttyS0 true at 1000 ∷ Next ttyS0 at 1000 ∷ Mark ttyS0 false at 1000 ∷ Next ttyS0 at 1000 ∷ []) ≡
    Replied (Marked true) ∷ Denied ModemDown NoKeys ∷ Replied (Marked false) ∷ Replied NoneToSend ∷ []
refused_17 = refl

-- a modem that holds a grant, with it
refused_18 : told (first_grant ++ Next ttyS0 at 1100 ∷ []) ≡ after_grant (Denied ModemBusy (HeldGrant false (hand 1 1 long_number 1 3)) ∷ [])
refused_18 = refl

-- a report on a closed grant
refused_19 : told (first_grant ++ OnGrant 1 (Call Connected) at 1000 ∷ OnGrant 1 (Outcome (report true Fail 0 (codes "No fax tone"))) at 1000 ∷ OnGrant 1 (Call Connected) at 1000 ∷ []) ≡
    after_grant (Replied (Called false) ∷ Replied (Stands 1 8) ∷ Denied GrantClosed NoKeys ∷ [])
refused_19 = refl

-- a failure has its reason as its status
failed_by_reason : statuses (after (first_grant ++ OnGrant 1 (Call Connected) at 1000 ∷ OnGrant 1 (Outcome (report true Fail 0 (codes "No fax tone"))) at 1000 ∷ [])) 1000 ≡ codes "No fax tone" ∷ []
failed_by_reason = refl

-- a second call on a grant, and an outcome without it
refused_20 : told (first_grant ++ OnGrant 1 (Call Connected) at 1000 ∷ OnGrant 1 (Call Connected) at 1000 ∷ OnGrant 1 (Outcome (report false Retry 0 [])) at 1000 ∷ []) ≡
    after_grant (Replied (Called false) ∷ Denied CallKnown NoKeys ∷ Denied CallKnown NoKeys ∷ [])
refused_20 = refl

-- a page without a connection
refused_21 : told (first_grant ++ OnGrant 1 (Page 1) at 1010 ∷ []) ≡ after_grant (Denied NotConnected NoKeys ∷ [])
refused_21 = refl

-- a page out of order, with the number of those sent
refused_22 : told (first_grant ++ OnGrant 1 (Call Connected) at 1000 ∷ OnGrant 1 (Page 2) at 1000 ∷ []) ≡ after_grant (Replied (Called false) ∷ Denied PageOrder (Pages 0) ∷ [])
refused_22 = refl

-- an outcome of a call that wasn't reported
refused_23 : told (first_grant ++ OnGrant 1 (Outcome (report true Retry 0 [])) at 1000 ∷ []) ≡ after_grant (Denied CallMissing NoKeys ∷ [])
refused_23 = refl

-- an outcome of pages that weren't confirmed
refused_24 : told (first_grant ++ OnGrant 1 (Call Connected) at 1000
    ∷ OnGrant 1 (Outcome (report true Retry 2 [])) at 1000 ∷ []) ≡ after_grant (Replied (Called false) ∷ Denied PagesMismatch NoKeys ∷ [])
refused_24 = refl

-- a job that is done with pages left
refused_25 : told (first_grant ++ OnGrant 1 (Call Connected) at 1000 ∷ OnGrant 1 (Outcome (report true Done 0 [])) at 1000 ∷ []) ≡ after_grant (Replied (Called false) ∷ Denied PagesLeft NoKeys ∷ [])
refused_25 = refl

-- one job more than there may be
refused_26 : answers (record settings { max_jobs = 1 }) empty_queue (Submission (order long_number 3) at 1000 ∷ Submission (order (codes "5550111") 1) at 1000 ∷ []) ≡ Replied (Submitted 1) ∷ Denied Full NoKeys ∷ []
refused_26 = refl

-- only where a job would be granted
refused_26_of_grants : answers (record settings { max_grants = 1 }) empty_queue (Submission (order long_number 3) at 1000 ∷ Submission (order (codes "5550111") 1) at 1000 ∷ Next ttyS0 at 1000 ∷ Next ttyS1 at 1000 ∷ []) ≡
    Replied (Submitted 1) ∷ Replied (Submitted 2) ∷ Replied (Given (hand 1 1 long_number 1 3)) ∷ Denied Full NoKeys ∷ []
refused_26_of_grants = refl

-- ---- where several refusals apply the first is told

abbrev strict : Settings
strict = record settings { rule = λ dial. record default_rule { notice = Some (codes "closed"); pages = Some 2 }; max_jobs = 0 }

-- the notice of the rule comes first
submission_in_order : answers strict empty_queue (Submission (order long_number 3) at 1000 ∷ []) ≡ Denied Rejected (Notice (codes "closed")) ∷ []
submission_in_order = refl

-- then its pages, before the number of jobs
pages_before_full : answers (record strict { rule = λ dial. record default_rule { pages = Some 2 } }) empty_queue (Submission (order long_number 3) at 1000 ∷ []) ≡ Denied TooManyPages NoKeys ∷ []
pages_before_full = refl

-- a modem that is down comes before one that holds a grant
down_before_busy : told (first_grant ++ Mark ttyS0 true at 1000 ∷ Next ttyS0 at 1000 ∷ []) ≡ after_grant (Replied (Marked true) ∷ Denied ModemDown NoKeys ∷ [])
down_before_busy = refl

-- and that before the number of grants
busy_before_full : answers (record settings { max_grants = 1 }) empty_queue (first_grant ++ Submission (order (codes "5550111") 1) at 1000 ∷ Next ttyS0 at 1000 ∷ []) ≡
    after_grant (Replied (Submitted 2) ∷ Denied ModemBusy (HeldGrant false (hand 1 1 long_number 1 3)) ∷ [])
busy_before_full = refl

-- without a call: a page out of order isn't connected, and a call that is claimed is missing
without_a_call : told (first_grant ++ OnGrant 1 (Page 2) at 1000 ∷ OnGrant 1 (Outcome (report true Done 2 [])) at 1000
    ∷ OnGrant 1 (Outcome (report false Done 2 [])) at 1000 ∷ OnGrant 1 (Outcome (report false Done 0 [])) at 1000 ∷ []) ≡
    after_grant (Denied NotConnected NoKeys ∷ Denied CallMissing NoKeys ∷ Denied PagesMismatch NoKeys ∷ Denied PagesLeft NoKeys ∷ [])
without_a_call = refl

-- with a call: what is claimed of it is known, then pages and what is left of them
with_a_call : told (first_grant ++ OnGrant 1 (Call Connected) at 1000 ∷ OnGrant 1 (Outcome (report false Done 2 [])) at 1000
    ∷ OnGrant 1 (Outcome (report true Done 2 [])) at 1000 ∷ OnGrant 1 (Outcome (report true Done 0 [])) at 1000 ∷ []) ≡
    after_grant (Replied (Called false) ∷ Denied CallKnown NoKeys ∷ Denied PagesMismatch NoKeys ∷ Denied PagesLeft NoKeys ∷ [])
with_a_call = refl

-- on a closed grant: each report is refused as closed
on_a_closed_grant : told (first_grant ++ OnGrant 1 (Outcome (report false Retry 0 [])) at 1000 ∷ OnGrant 1 (Call Busy) at 1000 ∷ OnGrant 1 (Page 9) at 1000
    ∷ OnGrant 1 (Outcome (report true Done 9 [])) at 1000 ∷ []) ≡
    after_grant (Replied (Stands 1 3) ∷ Denied GrantClosed NoKeys ∷ Denied GrantClosed NoKeys ∷ Denied GrantClosed NoKeys ∷ [])
on_a_closed_grant = refl

-- each page is confirmed once, in its order
all_pages_confirmed : told (first_grant ++ OnGrant 1 (Call Connected) at 1000 ∷ OnGrant 1 (Page 1) at 1000 ∷ OnGrant 1 (Page 1) at 1000 ∷ OnGrant 1 (Page 2) at 1000
    ∷ OnGrant 1 (Page 3) at 1000 ∷ OnGrant 1 (Page 4) at 1000 ∷ []) ≡
    after_grant (Replied (Called false) ∷ Replied (Confirmed 1 false) ∷ Denied PageOrder (Pages 1) ∷ Replied (Confirmed 2 false) ∷ Replied (Confirmed 3 false) ∷ Denied PageOrder (Pages 3) ∷ [])
all_pages_confirmed = refl

-- ---- one grant, refused in every way

-- a grant of three pages, reported on in every wrong way
refusals_row : told (first_grant
    ++ OnJob 1 (Alter (record no_change { priority = Some 1 })) at 1000
    ∷ OnGrant 1 (Outcome (report true Retry 0 [])) at 1000
    ∷ OnGrant 1 (Call Connected) at 1000
    ∷ OnGrant 1 (Call Connected) at 1000
    ∷ OnGrant 1 (Outcome (report false Retry 0 [])) at 1000
    ∷ OnGrant 1 (Page 2) at 1000
    ∷ OnGrant 1 (Outcome (report true Done 0 [])) at 1000
    ∷ OnGrant 1 (Outcome (report true Fail 0 (codes "No fax tone"))) at 1000
    ∷ OnGrant 1 (Call Busy) at 1000 ∷ []) ≡
    after_grant (Denied JobActive NoKeys
    ∷ Denied CallMissing NoKeys
    ∷ Replied (Called false)
    ∷ Denied CallKnown NoKeys
    ∷ Denied CallKnown NoKeys
    ∷ Denied PageOrder (Pages 0)
    ∷ Denied PagesLeft NoKeys
    ∷ Replied (Stands 1 8)
    ∷ Denied GrantClosed NoKeys ∷ [])
refusals_row = refl
