-- The request that a worker computes is the one that its action may begin.
use Rattle.std.proofs.Common.{◌≡◌, ◌<◌, ◌≤◌, ◌&&◌, ℕ, Bool, true, false, cond, List, Option, Some, None, refl}
use Rattle.std.proofs.lemmas.Bool.{and_parts, leb-true, leb-false}
use Rattle.std.specs.Prelude.{is_some}
use Rattle.fax_job.specs.declared.job.Call.{Call}
use Rattle.fax_job.specs.declared.job.Call.TheVariants.{Connected, Busy, NoAnswer, NoCarrier, Other}
use Rattle.fax_core.specs.declared.ask.Ask.{Ask}
use Rattle.fax_core.specs.declared.ask.Ask.TheVariants.{OnGrant}
use Rattle.fax_core.specs.declared.report.Ending.{Ending}
use Rattle.fax_core.specs.declared.report.Ending.TheVariants.{Done, Retry, Fail}
use Rattle.fax_core.specs.declared.report.Report.TheVariants as report
use Rattle.fax_worker.specs.declared.worker.Action.{Action as Act}
use Rattle.fax_worker.specs.declared.worker.Action.TheVariants as act
use Rattle.fax_worker.specs.Acting.{HasBegun, IsOf, has_page_left, is_connected, is_done, meant, outcome_report, page_report, request_of}
use Rattle.fax_worker.specs.Worker.{Held, IsRequest, Worker, next_page, outcome_of, with_request}

-- a report of a call
call_by : (ask made : Ask) (call : Option Call) → cond (is_some call) None (Some made) ≡ Some ask → (call ≡ None) × (ask ≡ made)
call_by ask made None e = (refl, cc)
call_by ask made (Some call) e = absurd (cc)

-- a call that is connected
connected : (call : Option Call) → is_connected call ≡ true → call ≡ Some Connected
connected None e = absurd (cc)
connected (Some Connected) e = refl
connected (Some Busy) e = absurd (cc)
connected (Some NoAnswer) e = absurd (cc)
connected (Some NoCarrier) e = absurd (cc)
connected (Some Other) e = absurd (cc)

-- what is made under a test
made_if : (test : Bool) (ask made : Ask) → cond test (Some made) None ≡ Some ask → (test ≡ true) × (ask ≡ made)
made_if true ask made e = (refl, cc)
made_if false ask made e = absurd (cc)

-- what is made unless a test holds
made_unless : (test : Bool) (ask made : Ask) → cond test None (Some made) ≡ Some ask → (test ≡ false) × (ask ≡ made)
made_unless true ask made e = absurd (cc)
made_unless false ask made e = (refl, cc)

-- a report of a page
page_by : (h : Held) (ask : Ask) → page_report h ≡ Some ask → (h.call ≡ Some Connected) × (next_page h ≤ h.last_page) × (ask ≡ OnGrant h.grant (report.Page (next_page h)))
page_by h ask e =
    let made = made_if (is_connected h.call && has_page_left h) ask _ e in
    let both = and_parts (is_connected h.call) (has_page_left h) made.0 in
    (connected h.call both.0, leb-true _ _ both.1, made.1)

-- a job is done once no page is left
done_by : (h : Held) (ending : Ending) → is_done ending && has_page_left h ≡ false → ending ≡ Done → h.last_page < next_page h
done_by h Done e is = leb-false _ _ e
done_by h Retry e is = absurd (cc)
done_by h Fail e is = absurd (cc)

-- a report of an outcome
outcome_by : (h : Held) (ending : Ending) (reason : List ℕ) (ask : Ask) → outcome_report h ending reason ≡ Some ask
    → (ending ≡ Done → h.last_page < next_page h) × (ask ≡ OnGrant h.grant (report.Outcome (outcome_of h ending reason)))
outcome_by h ending reason ask e =
    let made = made_unless (is_done ending && has_page_left h) ask _ e in
    (done_by h ending made.0, made.1)

-- the request that is computed is the action's
is_request : (modem : List ℕ) (last : ℕ) (action : Act) (held : Option Held) (ask : Ask) → IsOf modem action → request_of action last held ≡ Some ask
    → IsRequest modem last (meant action) held ask
is_request modem last (act.AsksForWork name) None ask of e = cc
is_request modem last (act.AsksForWork name) (Some h) ask of e = absurd (cc)
is_request modem last (act.ReportsCall call) None ask of e = absurd (cc)
is_request modem last (act.ReportsCall call) (Some h) ask of e = call_by ask _ h.call e
is_request modem last act.ReportsPage None ask of e = absurd (cc)
is_request modem last act.ReportsPage (Some h) ask of e = page_by h ask e
is_request modem last (act.ReportsOutcome ending reason) None ask of e = absurd (cc)
is_request modem last (act.ReportsOutcome ending reason) (Some h) ask of e = outcome_by h ending reason ask e
is_request modem last act.GivesUp held ask of e = cc

-- so it is begun
pub begun : (w : Worker) (action : Act) (number : ℕ) (ask : Ask) → w.unanswered ≡ None → w.last < number → request_of action w.last w.held ≡ Some ask
    → HasBegun w action number (with_request number ask w)
begun w action number ask answered new e = record {
  ask = ask;
  begins = λ modem of. record { answered = answered; new = new; request = is_request modem w.last action w.held ask of e; becomes = refl };
}
