-- Worked rows: what a worker may begin, and what it holds after an answer.
use Rattle.std.proofs.Common.{◌<◌, arith}
use Rattle.std.specs.Prelude.{◌≡◌, refl, ℕ, true, false, [], codes, Option, Some, None}
use Rattle.fax_job.specs.declared.job.Call.{Call as Result}
use Rattle.fax_job.specs.declared.job.Call.TheVariants.{Busy, Connected}
use Rattle.fax_job.specs.declared.refusal.Refusal.TheVariants.{GrantClosed, ModemBusy, ModemDown, NoGrant, PagesMismatch}
use Rattle.fax_core.specs.declared.ask.Ask.{Ask}
use Rattle.fax_core.specs.declared.ask.Ask.TheVariants.{GiveUp, Next, OnGrant}
use Rattle.fax_core.specs.declared.report.Ending.TheVariants.{Done, Retry}
use Rattle.fax_core.specs.declared.report.Report.TheVariants.{Call, Outcome, Page}
use Rattle.fax_core.specs.Reply.{Called, Confirmed, Given, HeldGrant, NoKeys, NoneToSend, Stands}
use Rattle.fax_core.specs.Run.{Replied, Denied}
use Rattle.fax_core.proofs.RowWords.{hand, report, ttyS0}
use Rattle.fax_worker.specs.Worker.{AsksForWork, GivesUp, Held, IsRequest, Look, ReportsCall, ReportsOutcome, ReportsPage, held_after}

-- grant 7 of job 3, pages 2 to 4
abbrev held : Option Result → ℕ → Held
held call pages = record { grant = 7; job = 3; dial = codes "5550111"; first_page = 2; last_page = 4; call = call; pages = pages }

abbrev nothing_seen : Look
nothing_seen = record { call = None; pages = 0 }

-- ---- what may begin

-- a free worker asks for work
next_row : IsRequest ttyS0 5 AsksForWork None (Next ttyS0)
next_row = refl

-- one with a grant doesn't
busy_row : (ask : Ask) → IsRequest ttyS0 5 AsksForWork (Some (held None 0)) ask → ⊥
busy_row ask h = h

-- it reports the call
call_row : IsRequest ttyS0 5 (ReportsCall Busy) (Some (held None 0)) (OnGrant 7 (Call Busy))
call_row = (refl, refl)

-- once
second_call_row : (ask : Ask) → IsRequest ttyS0 5 (ReportsCall Connected) (Some (held (Some Busy) 0)) ask → ⊥
second_call_row ask (none, is) = cc none

-- then the first page, which is page 2
page_row : IsRequest ttyS0 5 ReportsPage (Some (held (Some Connected) 0)) (OnGrant 7 (Page 2))
page_row = (refl, omega arith, refl)

-- no other
other_page_row : IsRequest ttyS0 5 ReportsPage (Some (held (Some Connected) 0)) (OnGrant 7 (Page 3)) → ⊥
other_page_row (on, left, is) = cc is

-- and none before the call connected
early_page_row : (ask : Ask) → IsRequest ttyS0 5 ReportsPage (Some (held (Some Busy) 0)) ask → ⊥
early_page_row ask (on, left, is) = cc on

-- nor past the last
past_row : (ask : Ask) → IsRequest ttyS0 5 ReportsPage (Some (held (Some Connected) 3)) ask → ⊥
past_row ask (on, left, is) = omega (arith, left)

-- an outcome states the call and the pages
outcome_row : IsRequest ttyS0 5 (ReportsOutcome Retry (codes "line dropped")) (Some (held (Some Connected) 1)) (OnGrant 7 (Outcome (report true Retry 1 (codes "line dropped"))))
outcome_row = (λ e. cc e, refl)

-- without a call too
undialed_row : IsRequest ttyS0 5 (ReportsOutcome Retry []) (Some (held None 0)) (OnGrant 7 (Outcome (report false Retry 0 [])))
undialed_row = (λ e. cc e, refl)

-- Done comes when no page is left
done_row : IsRequest ttyS0 5 (ReportsOutcome Done []) (Some (held (Some Connected) 3)) (OnGrant 7 (Outcome (report true Done 3 [])))
done_row = (λ e. omega arith, refl)

-- and not before
early_done_row : (ask : Ask) → IsRequest ttyS0 5 (ReportsOutcome Done []) (Some (held (Some Connected) 2)) ask → ⊥
early_done_row ask (done, is) = let over : 4 < 4 = done refl in omega (arith, over)

-- without a grant no report comes
free_call_row : (ask : Ask) → IsRequest ttyS0 5 (ReportsCall Busy) None ask → ⊥
free_call_row ask h = h

free_outcome_row : (ask : Ask) → IsRequest ttyS0 5 (ReportsOutcome Retry []) None ask → ⊥
free_outcome_row ask h = h

-- a worker gives up its numbers so far
floor_row : IsRequest ttyS0 5 GivesUp None (GiveUp 5)
floor_row = refl

-- ---- what is held after an answer

-- a grant that is given, with no call and no page
given_row : held_after (Next ttyS0) (Replied (Given (hand 7 3 (codes "5550111") 2 4))) nothing_seen None ≡ Some (held None 0)
given_row = refl

none_row : held_after (Next ttyS0) (Replied NoneToSend) nothing_seen None ≡ None
none_row = refl

down_row : held_after (Next ttyS0) (Denied ModemDown NoKeys) nothing_seen None ≡ None
down_row = refl

-- a grant that the modem holds already, not called yet: as it is shown
held_row : held_after (Next ttyS0) (Denied ModemBusy (HeldGrant false (hand 7 3 (codes "5550111") 2 4))) (record { call = Some Busy; pages = 9 }) None ≡ Some (held None 0)
held_row = refl

-- called already: as a look at it shows
called_row : held_after (Next ttyS0) (Denied ModemBusy (HeldGrant true (hand 7 3 (codes "5550111") 2 4))) (record { call = Some Connected; pages = 1 }) None ≡ Some (held (Some Connected) 1)
called_row = refl

-- a call, a page and an outcome that are accepted
call_accepted_row : held_after (OnGrant 7 (Call Busy)) (Replied (Called true)) nothing_seen (Some (held None 0)) ≡ Some (held (Some Busy) 0)
call_accepted_row = refl

page_accepted_row : held_after (OnGrant 7 (Page 3)) (Replied (Confirmed 3 false)) nothing_seen (Some (held (Some Connected) 1)) ≡ Some (held (Some Connected) 2)
page_accepted_row = refl

outcome_accepted_row : held_after (OnGrant 7 (Outcome (report true Done 3 []))) (Replied (Stands 3 7)) nothing_seen (Some (held (Some Connected) 3)) ≡ None
outcome_accepted_row = refl

-- a grant that is gone
gone_row : held_after (OnGrant 7 (Page 3)) (Denied NoGrant NoKeys) nothing_seen (Some (held (Some Connected) 1)) ≡ None
gone_row = refl

closed_row : held_after (OnGrant 7 (Page 3)) (Denied GrantClosed NoKeys) nothing_seen (Some (held (Some Connected) 1)) ≡ None
closed_row = refl

-- another refusal leaves it
refused_row : held_after (OnGrant 7 (Outcome (report true Done 3 []))) (Denied PagesMismatch NoKeys) nothing_seen (Some (held (Some Connected) 3)) ≡ Some (held (Some Connected) 3)
refused_row = refl
