-- No modem and no job is stuck but by its worker, its times or its number's rule.
use Rattle.std.proofs.Common.{◌≡◌, ℕ, ◌<◌, ◌≤◌, true, false, cond, not, ◌&&◌, eqb, List, [], Option, Some, None, Ok, Err, refl, sym, ap, ◌∙◌, arith}
use Rattle.std.specs.Prelude.{Result, is_none, is_some, nat_le, nat_lt}
use Rattle.std.proofs.lemmas.Bool.{eq-eqb}
use Rattle.std.proofs.lemmas.Bool.Decides.{nat_tests}
use Rattle.fax_job.specs.declared.job.Call.{Call}
use Rattle.fax_job.specs.declared.job.Phase.{Phase}
use Rattle.fax_job.specs.declared.refusal.Refusal.{Refusal}
use Rattle.fax_job.specs.declared.refusal.Refusal.TheVariants.{CallKnown, CallMissing, Full, GrantClosed, ModemDown, NoModem, PagesMismatch}
use Rattle.fax_core.specs.Ageing.{aged}
use Rattle.fax_core.specs.Best.{best}
use Rattle.fax_core.specs.Decisions.{JobAndGrant, ended, granted, outcome}
use Rattle.fax_core.specs.Job.{Job}
use Rattle.fax_core.specs.Machine.{given, given_best, given_free, handed, held_by, is_down, on_both, on_grant, outcome_reply, reported, step, with_both, with_new_grant, stamped}
use Rattle.fax_core.specs.Queue.{Queue, grant_numbered}
use Rattle.fax_core.specs.Reply.{Given, Handed, NoKeys, Refused, Taken}
use Rattle.fax_core.specs.Settings.{Settings}
use Rattle.fax_core.specs.State.{calls_to, state_in, state_number, waiting_state}
use Rattle.fax_core.specs.declared.ask.Ask.TheVariants.{Next}
use Rattle.fax_core.specs.declared.grants.Grant.{Grant}
use Rattle.fax_core.specs.declared.report.Ending.TheVariants.{Fail}
use Rattle.fax_core.specs.declared.report.Outcome.{Outcome}
use Rattle.fax_core.specs.declared.report.Report.TheVariants as report
use Rattle.fax_core.specs.declared.state.State.TheVariants as sendq
use Rattle.fax_core.proofs.BestLemmas.{none_goes}
use Rattle.fax_core.proofs.KeepLemmas.{numbered_grant}
use Rattle.fax_core.proofs.PlaceLemmas.{placed_here}
use Rattle.fax_core.proofs.StepLemmas.{aged_sound}
use Rattle.fax_run.specs.Progress.{BusyModemsFindTheirs, FreeModemsAreServed, IsUp, OpenGrantsCanEnd, WaitingJobsGetReady}
use Rattle.fax_core.specs.Stamp.{stamp}

-- ---- modems

-- what a modem that is up is given is by the grant that it holds, if any
asks_up : (s : Settings) (m : Queue) (t : ℕ) (modem : List ℕ) → IsUp s m modem → step s m t (Next modem) ≡ stamped t (aged t m) (given_free s (aged t m) t modem (held_by modem m))
asks_up s m t modem is =
    let free = given_free s (aged t m) t modem (held_by modem m) in
    ap (stamped t (aged t m)) (ap (λ b. cond (not b) (Refused NoModem NoKeys) (cond (is_down modem m) (Refused ModemDown NoKeys) free)) is.known
    ∙ ap (λ b. cond b (Refused ModemDown NoKeys) free) is.up)

-- a number that isn't past the greatest isn't refused as full
not_full : (n max : ℕ) → n ≤ max → nat_lt max n ≡ false
not_full n max few = grind (arith, nat_tests)

pub free_modems_are_served : FreeModemsAreServed
free_modems_are_served s m t modem j is free left goes =
    let served = by (best s (aged t m) t modem) refl in
    (stamp t (aged t m) served.0, served.1, asks_up s m t modem is ∙ ap (stamped t (aged t m)) (ap (given_free s (aged t m) t modem) free ∙ served.2))
  where
    given_new : (k : Job) → nat_lt s.max_grants m.next_grant ≡ false → (n : Queue) × (h : Handed) × (given_best s (aged t m) modem (Some k) ≡ Taken n (Given h))
    given_new k few =
        let both = granted k modem m.next_grant in
        let after = with_new_grant both (aged t m) in
        (after, handed both.grant after, ap (λ b. given (aged t m) (cond b (Err Full) (Ok both))) few)

    by : (o : Option Job) → best s (aged t m) t modem ≡ o → (n : Queue) × (h : Handed) × (given_best s (aged t m) modem (best s (aged t m) t modem) ≡ Taken n (Given h))
    by None is = absurd (none_goes s (aged t m) t modem is j goes)
    by (Some k) is =
        let new = given_new k (not_full m.next_grant s.max_grants left) in
        (new.0, new.1, ap (given_best s (aged t m) modem) is ∙ new.2)

pub busy_modems_find_theirs : BusyModemsFindTheirs
busy_modems_find_theirs s m t modem g is held = asks_up s m t modem is ∙ ap (stamped t (aged t m)) (ap (given_free s (aged t m) t modem) held)

-- ---- grants

-- whoever says just whether a call was reported is told neither that it is known nor that it is missing
said_so : (c : Option Call) → ((not (is_some c) && is_some c) ≡ false) × ((is_some c && is_none c) ≡ false)
said_so None = (refl, refl)
said_so (Some call) = (refl, refl)

-- the outcome that says that it failed, with what is known of the grant
failed : Grant → Outcome
failed g = record { dialed = is_some g.call; pages = g.confirmed; ending = Fail; reason = [] }

-- it is taken of an open grant
takes_failed : (j : Job) (g : Grant) (delay t : ℕ) → g.is_open ≡ true
    → outcome (failed g) j g delay t ≡ Ok (record { job = ended j.left (failed g) j delay t; grant = record g { is_open = false } })
unfolding failed
takes_failed j g delay t is =
    let made : Result JobAndGrant Refusal = Ok (record { job = ended j.left (failed g) j delay t; grant = record g { is_open = false } }) in
    let said = said_so g.call in
    ap (λ b. cond (not b) (Err GrantClosed) (cond (not (is_some g.call) && is_some g.call) (Err CallKnown) (cond (is_some g.call && is_none g.call) (Err CallMissing) (cond (not (eqb g.confirmed g.confirmed)) (Err PagesMismatch) made)))) is
    ∙ ap (λ b. cond b (Err CallKnown) (cond (is_some g.call && is_none g.call) (Err CallMissing) (cond (not (eqb g.confirmed g.confirmed)) (Err PagesMismatch) made))) said.0
    ∙ ap (λ b. cond b (Err CallMissing) (cond (not (eqb g.confirmed g.confirmed)) (Err PagesMismatch) made)) said.1
    ∙ ap (λ b. cond (not b) (Err PagesMismatch) made) (eq-eqb g.confirmed g.confirmed refl)

pub open_grants_can_end : OpenGrantsCanEnd
open_grants_can_end s m t number g sound is =
    let held = (aged_sound t m sound).held number g is in
    let j = held.0 in
    let closed : Grant = record g { is_open = false } in
    let both : JobAndGrant = record { job = ended j.left (failed g) j (s.delay g.call) t; grant = closed } in
    let after = with_both both (aged t m) in
    let taken = ap (on_grant s (aged t m) t (report.Outcome (failed g))) is.0
    ∙ ap (on_both s (aged t m) t (report.Outcome (failed g)) g) held.1
    ∙ ap (reported (aged t m) (outcome_reply s t) j) (takes_failed j g (s.delay g.call) t is.1) in
    let there : grant_numbered number after ≡ Some closed = placed_here (λ (x : Grant). x.number) number closed g m.grants is.0 (numbered_grant m number g is.0) in
    (failed g, stamp t (aged t m) after, outcome_reply s t after both, ap (stamped t (aged t m)) taken, λ h found. let same : closed ≡ h = (let both = sym there ∙ found in cc) in sym (ap (λ (x : Grant). x.is_open) same))

-- ---- jobs

-- a time that has come isn't ahead
has_come : (u t : ℕ) → u ≤ t → nat_lt t u ≡ false
has_come u t come = grind (arith, nat_tests)

-- fewer calls than the rule allows are not as many
is_fewer : (calls limit : ℕ) → calls < limit → nat_le limit calls ≡ false
is_fewer calls limit few = grind (arith, nat_tests)

pub waiting_jobs_get_ready : WaitingJobsGetReady
waiting_jobs_get_ready s m t j waits alive tts next hours few =
    let in_hours = (s.rule j.dial).hours t in
    let calls = calls_to j.dial m in
    let limit = (s.rule j.dial).calls in
    let two = state_number sendq.Pending in
    let three = state_number sendq.Sleeping in
    let four = state_number sendq.Blocked in
    let eight = state_number sendq.Failed in
    let five = state_number sendq.Ready in
    ap (λ (p : Phase). state_in p j in_hours calls limit t) waits
    ∙ ap (λ b. cond b eight (waiting_state j in_hours calls limit t)) alive
    ∙ ap (λ b. cond b two (cond (nat_lt t j.next) three (cond (not in_hours) two (cond (nat_le limit calls) four five)))) (has_come j.tts t tts)
    ∙ ap (λ b. cond b three (cond (not in_hours) two (cond (nat_le limit calls) four five))) (has_come j.next t next)
    ∙ ap (λ b. cond (not b) two (cond (nat_le limit calls) four five)) hours
    ∙ ap (λ b. cond b four five) (is_fewer calls limit few)
