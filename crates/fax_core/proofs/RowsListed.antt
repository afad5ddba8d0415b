-- Worked rows: that each refusal that is listed for a request is met, and what no run from the empty queue shows.
use Rattle.std.specs.Prelude.{◌≡◌, refl, ℕ, Bool, true, false, List, [], ◌∷◌, ◌++◌, map, codes, Some, None, if◌then◌else◌, nat_eq}
use Rattle.std.proofs.Common.{arith}
use Rattle.std.specs.List.{starts_with}
use Rattle.fax_job.specs.declared.job.Call.TheVariants.{Connected, Busy}
use Rattle.fax_job.specs.declared.job.Wish.TheVariants.{Kill as Killing}
use Rattle.fax_job.specs.declared.refusal.Refusal.TheVariants.{Unavailable, GrantClosed, NoModem}
use Rattle.fax_job.specs.Refusal.{refusal_number}
use Rattle.fax_rule.specs.declared.rule.Rule as dest
use Rattle.fax_core.specs.Ageing.{aged_job}
use Rattle.fax_core.specs.Job.{Job}
use Rattle.fax_core.specs.Submission.{rule_of}
use Rattle.fax_core.specs.declared.report.Ending.TheVariants.{Done, Retry, Fail}
use Rattle.fax_core.specs.Ask.{HasLimits}
use Rattle.fax_core.specs.declared.ask.Ask.{Ask}
use Rattle.fax_core.specs.declared.ask.Ask.TheVariants.{Submission, OnJob, Mark, Next, OnGrant}
use Rattle.fax_core.specs.declared.ask.JobAsk.TheVariants.{Suspend, Resume, Kill, Alter}
use Rattle.fax_core.specs.declared.report.Report.TheVariants.{Call, Page, Outcome}
use Rattle.fax_core.specs.Decisions.{new_job, retried}
use Rattle.fax_core.specs.Machine.{step}
use Rattle.fax_core.specs.Queue.{Queue, empty_queue}
use Rattle.fax_core.specs.Refusals.{refusals_of, goes_with}
use Rattle.fax_core.specs.Reply.{Step, Taken, Refused, NoKeys, Notice, HeldGrant, Pages}
use Rattle.fax_core.specs.Run.{Denied, answer_of, queue_after}
use Rattle.fax_core.specs.Settings.{Settings}
use Rattle.fax_core.proofs.RowWords.{ttyS0, ttyS1, settings, default_rule, order, no_change, report, hand, ◌at◌, after, statuses}
use Rattle.fax_core.proofs.RowsGrants.{outcome_before_page, retry_goes_on}

-- ---- each refusal that is listed

-- numbers that begin with 5559 aren't served, to those with 5558 one page may be sent, and there are five jobs and three grants at most
abbrev tight : Settings
tight = record settings {
  rule = λ dial.
      if starts_with nat_eq dial (codes "5559") then record default_rule { notice = Some (codes "closed") }
      else if starts_with nat_eq dial (codes "5558") then record default_rule { pages = Some 1 }
      else default_rule;
  modems = ttyS0 ∷ ttyS1 ∷ codes "ttyS2" ∷ codes "ttyS3" ∷ [];
  max_jobs = 5;
  max_grants = 3;
}

-- job 1 failed, and its grant is closed; 2 is to be killed, and its call connected; 3 is granted, with no call; 4 waits; 5 is held
abbrev five_jobs : Queue
five_jobs = queue_after tight empty_queue (
    Submission (order (codes "5550101") 2) at 0 ∷ Next ttyS0 at 0 ∷ OnGrant 1 (Outcome (report false Fail 0 [])) at 0
    ∷ Submission (order (codes "5550102") 2) at 0 ∷ Next ttyS0 at 0 ∷ OnGrant 2 (Call Connected) at 0 ∷ OnJob 2 Kill at 0
    ∷ Submission (order (codes "5550103") 2) at 0 ∷ Next ttyS1 at 0
    ∷ Submission (order (codes "5550104") 2) at 0 ∷ Submission (order (codes "5550105") 2) at 0 ∷ OnJob 5 Suspend at 0
    ∷ Mark (codes "ttyS2") true at 0 ∷ [])

abbrev number_told : Step → ℕ
number_told (Taken after reply) = 0
number_told (Refused refusal keys) = refusal_number refusal

abbrev refused_with : List Ask → List ℕ
refused_with asks = map (λ ask. number_told (step tight five_jobs 0 ask)) asks

-- a submission meets each refusal that is listed for it
submission_listed : refused_with (Submission (order (codes "5559000") 2) ∷ Submission (order (codes "5558000") 2) ∷ Submission (order (codes "5550106") 2) ∷ []) ≡ refusals_of (Submission (order [] 1))
submission_listed = refl

-- so does a suspension
suspend_listed : refused_with (OnJob 9 Suspend ∷ OnJob 1 Suspend ∷ OnJob 2 Suspend ∷ []) ≡ refusals_of (OnJob 1 Suspend)
suspend_listed = refl

-- and a resumption
resume_listed : refused_with (OnJob 9 Resume ∷ OnJob 1 Resume ∷ OnJob 2 Resume ∷ OnJob 4 Resume ∷ []) ≡ refusals_of (OnJob 1 Resume)
resume_listed = refl

-- and a kill
kill_listed : refused_with (OnJob 9 Kill ∷ OnJob 1 Kill ∷ []) ≡ refusals_of (OnJob 1 Kill)
kill_listed = refl

-- and an alteration
alteration_listed : refused_with (OnJob 9 (Alter no_change) ∷ OnJob 1 (Alter no_change) ∷ OnJob 2 (Alter no_change) ∷ OnJob 4 (Alter no_change)
    ∷ OnJob 5 (Alter (record no_change { maxtries = Some 0 })) ∷ []) ≡ refusals_of (OnJob 1 (Alter no_change))
alteration_listed = refl

-- and a modem that is ready
ready_listed : refused_with (Mark (codes "ttyS9") false ∷ []) ≡ refusals_of (Mark [] false)
ready_listed = refl

-- and one that is down
down_listed : refused_with (Mark (codes "ttyS9") true ∷ []) ≡ refusals_of (Mark [] true)
down_listed = refl

-- and a request for work
next_listed : refused_with (Next (codes "ttyS9") ∷ Next (codes "ttyS2") ∷ Next ttyS0 ∷ Next (codes "ttyS3") ∷ []) ≡ refusals_of (Next [])
next_listed = refl

-- and a report of a call
call_listed : refused_with (OnGrant 9 (Call Busy) ∷ OnGrant 1 (Call Busy) ∷ OnGrant 2 (Call Busy) ∷ []) ≡ refusals_of (OnGrant 1 (Call Busy))
call_listed = refl

-- and of a page
page_listed : refused_with (OnGrant 9 (Page 1) ∷ OnGrant 1 (Page 1) ∷ OnGrant 3 (Page 1) ∷ OnGrant 2 (Page 2) ∷ []) ≡ refusals_of (OnGrant 1 (Page 1))
page_listed = refl

-- and of an outcome
outcome_listed :
    refused_with (OnGrant 9 (Outcome (report false Retry 0 [])) ∷ OnGrant 1 (Outcome (report false Retry 0 [])) ∷ OnGrant 2 (Outcome (report false Retry 0 []))
    ∷ OnGrant 3 (Outcome (report true Retry 0 [])) ∷ OnGrant 2 (Outcome (report true Retry 1 [])) ∷ OnGrant 2 (Outcome (report true Done 0 [])) ∷ [])
    ≡ refusals_of (OnGrant 1 (Outcome (report false Retry 0 [])))
outcome_listed = refl

-- what is told with a refusal is left out with none that has it
no_keys_listed : map (goes_with NoKeys) (10 ∷ 11 ∷ 12 ∷ 17 ∷ 18 ∷ 19 ∷ 21 ∷ 22 ∷ 23 ∷ []) ≡ true ∷ false ∷ true ∷ true ∷ false ∷ true ∷ true ∷ false ∷ true ∷ []
no_keys_listed = refl

-- the notice, the held grant and the pages each go with one refusal
keys_listed : map (goes_with (Notice [])) (11 ∷ 18 ∷ 22 ∷ 12 ∷ []) ++ map (goes_with (HeldGrant true (hand 1 1 [] 1 1))) (11 ∷ 18 ∷ 22 ∷ 12 ∷ []) ++ map (goes_with (Pages 0)) (11 ∷ 18 ∷ 22 ∷ 12 ∷ [])
    ≡ true ∷ false ∷ false ∷ false ∷ false ∷ true ∷ false ∷ false ∷ false ∷ false ∷ true ∷ false ∷ []
keys_listed = refl

-- ---- orders that are lawful

-- one page, one try and one dial are enough
least_order : HasLimits (record (order [] 1) { maxtries = 1; maxdials = 1 })
least_order = record { pages = omega (arith); tries = omega (arith); dials = omega (arith) }

-- ---- queues that no run from the empty one makes

-- a grant of a job that isn't there
abbrev jobless : Bool → Queue
jobless is_open = record empty_queue { grants = record { number = 1; job = 1; modem = ttyS0; first_page = 1; last_page = 1; call = None; confirmed = 0; is_open = is_open } ∷ []; next_grant = 2 }

-- a report on an open grant without its job is unavailable, and on a closed one it is closed
without_a_job : map (λ is_open. answer_of (step settings (jobless is_open) 0 (OnGrant 1 (Call Busy)))) (true ∷ false ∷ []) ≡ Denied Unavailable NoKeys ∷ Denied GrantClosed NoKeys ∷ []
without_a_job = refl

-- a modem that is down and no more in the setup
gone_and_down : answer_of (step settings (record empty_queue { down = codes "ttyS9" ∷ [] }) 0 (Next (codes "ttyS9"))) ≡ Denied NoModem NoKeys
gone_and_down = refl

-- ---- what stays

abbrev plain : Job
plain = new_job (order (codes "5550111") 2) 1 0

-- a held job expires as a waiting one does
held_expires : statuses (after (Submission (record (order (codes "5550111") 1) { killtime = Some 1500 }) at 1000 ∷ OnJob 1 Suspend at 1000 ∷ [])) 1500 ≡ codes "Kill time expired" ∷ []
held_expires = refl

-- the next time stays with a job that expires, is killed or is done
next_of_expired : (aged_job 50 (record plain { killtime = Some 50; next = 20 })).next ≡ 20
next_of_expired = refl

-- it stays with one that is killed
next_of_killed : map (λ j. j.next) (after (outcome_before_page ++ OnJob 1 Kill at 1022 ∷ [])).jobs ≡ 1082 ∷ []
next_of_killed = refl

-- and with one that is done
next_of_done : map (λ j. j.next) (after retry_goes_on).jobs ≡ 1082 ∷ []
next_of_done = refl

-- the counters stay with a job that fails
counters_stay : map (λ j. j.ntries ∷ j.tottries ∷ j.ndials ∷ j.totdials ∷ []) (retried (record plain { wish = Killing; ntries = 1; tottries = 2; ndials = 3; totdials = 5 }) [] 180 50 ∷ []) ≡ (1 ∷ 2 ∷ 3 ∷ 5 ∷ []) ∷ []
counters_stay = refl

-- a grant that is closed says what was reported on it
closed_grant : (after outcome_before_page).grants ≡ record { number = 1; job = 1; modem = ttyS0; first_page = 1; last_page = 3; call = Some Connected; confirmed = 2; is_open = false } ∷ []
closed_grant = refl

-- ---- rules of the controls

-- the calls of a rule are those of the controls
calls_of_rule : (rule : dest.Rule) (hours : ℕ → Bool) → (rule_of rule hours).calls ≡ rule.calls
calls_of_rule rule hours = refl
