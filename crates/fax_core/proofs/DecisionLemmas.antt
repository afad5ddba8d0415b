-- What each decision keeps of a job and its grant.
use Rattle.std.proofs.Common.{◌≡◌, ◌≢◌, ℕ, ◌+◌, ◌<◌, ◌≤◌, Bool, true, false, cond, not, ◌&&◌, ◌||◌, eqb, leb, List, [], ◌∷◌, ◌++◌, length, refl, sym, ap, subst, ◌∙◌, append_assoc, arith}
use Rattle.std.specs.Prelude.{Option, Some, None, Result, Ok, Err, is_some, is_none, nat_lt}
use Rattle.std.proofs.lemmas.Bool.{cond_both, cond-false, and_left, or_parts, eqb-true, leb-false, not-false}
use Rattle.std.proofs.lemmas.List.{append-nil, length-append}
use Rattle.std.proofs.lemmas.List.FromFn.{length-range_with_len}
use Rattle.fax_job.specs.declared.alter.Alter.{Alter}
use Rattle.fax_job.specs.declared.job.Call.{Call}
use Rattle.fax_job.specs.declared.job.Call.TheVariants.{Connected, Busy, NoAnswer, NoCarrier, Other}
use Rattle.fax_job.specs.declared.job.Phase.{Phase}
use Rattle.fax_job.specs.declared.job.Phase.TheVariants as phase
use Rattle.fax_job.specs.declared.job.Wish.{Wish}
use Rattle.fax_job.specs.declared.job.Wish.TheVariants as wish
use Rattle.fax_job.specs.declared.order.Order.{Order}
use Rattle.fax_job.specs.declared.refusal.Refusal.{Refusal}
use Rattle.fax_value.specs.Status.{killed, kill_time_expired, too_many_dials, too_many_tries, unable_to_transmit}
use Rattle.fax_core.specs.declared.ask.JobAsk.{JobAsk}
use Rattle.fax_core.specs.declared.ask.JobAsk.TheVariants as ask
use Rattle.fax_core.specs.declared.grants.Grant.{Grant}
use Rattle.fax_core.specs.declared.report.Ending.{Ending}
use Rattle.fax_core.specs.declared.report.Ending.TheVariants as ending
use Rattle.fax_core.specs.declared.report.Report.{Report}
use Rattle.fax_core.specs.declared.report.Report.TheVariants as report
use Rattle.fax_core.specs.Ageing.{is_past, expires, aged_job}
use Rattle.fax_core.specs.Ask.{HasLimits}
use Rattle.fax_core.specs.declared.report.Outcome.{Outcome}
use Rattle.fax_core.specs.Decisions.{JobAndGrant, is_over, new_job, submit, suspend_in, resume_in, kill_in, altered, alter_in, job_asked, granted, after_call, call, is_connected, page_of, page, is_kill, phase_after, failed, retried, ended_by, ended, is_done, is_empty, outcome, grant_reported}
use Rattle.fax_core.specs.Job.{Job}
use Rattle.fax_core.specs.Settings.{Rule}
use Rattle.fax_core.specs.Sound.{IsCounted, HasCallLeft, CanGoOn, FitsPhase, FitsFree, FitsGrant}
use Rattle.fax_core.specs.Times.{has_ended}
use Rattle.fax_core.proofs.KeepLemmas.{Reports}

-- ---- what isn't refused

abbrev Decided : Type 0 → Type 0
Decided A = Result A Refusal

-- what is decided as one is decided as that alone
pub ok_same : {A : Type 0} (x y : A) → Path (Decided A) (Ok x) (Ok y) → x ≡ y
ok_same x y e = cc

-- what was decided wasn't refused before
pub not_refused : {A : Type 0} (b : Bool) (e : Refusal) (r : Result A Refusal) (x : A) → cond b (Err e) r ≡ Ok x → (b ≡ false) × (r ≡ Ok x)
not_refused true e r x h = cc
not_refused false e r x h = (refl, h)

-- ---- a job moves to another phase, wish, next time and status

abbrev moved : Job → Phase → Wish → ℕ → List ℕ → Job
moved j p w t text = record j { phase = p; wish = w; next = t; status = text }

-- a job that moves keeps its counters
counted_moved : (j : Job) (p : Phase) (w : Wish) (t : ℕ) (text : List ℕ) → IsCounted j → IsCounted (moved j p w t text)
counted_moved j p w t text h = record { pages = h.pages; ndials = h.ndials; totdials = h.totdials; ntries = h.ntries; tottries = h.tottries }

-- it has a call left still
call_moved : (j : Job) (p : Phase) (w : Wish) (t : ℕ) (text : List ℕ) → HasCallLeft j → HasCallLeft (moved j p w t text)
call_moved j p w t text h = record { dials = h.dials; tries = h.tries }

-- it can go on still
goes_on_moved : (j : Job) (p : Phase) (w : Wish) (t : ℕ) (text : List ℕ) → CanGoOn j → CanGoOn (moved j p w t text)
goes_on_moved j p w t text h = record { page = h.page; call = call_moved j p w t text h.call }

-- with its phase, it fits its grant still
grant_moved : (j : Job) (g : Grant) (w : Wish) (t : ℕ) (text : List ℕ) → FitsGrant j g → FitsGrant (moved j j.phase w t text) g
grant_moved j g w t text h = record {
  counted = counted_moved j j.phase w t text h.counted;
  phase = h.phase;
  confirmed = h.confirmed;
  last_page = h.last_page;
  first_page = h.first_page;
  call = λ e. call_moved j j.phase w t text (h.call e);
}

-- ---- ageing

-- ageing leaves a job's number
pub aged_number : (t : ℕ) (j : Job) → (aged_job t j).number ≡ j.number
aged_number t j = cond_both (expires j.phase && is_past j.killtime t) (record j { phase = phase.Failed; status = kill_time_expired }) j (λ (k : Job). k.number ≡ j.number) (λ e. refl) (λ e. refl)

-- and its pages that are sent
pub aged_sent : (t : ℕ) (j : Job) → (aged_job t j).sent ≡ j.sent
aged_sent t j = cond_both (expires j.phase && is_past j.killtime t) (record j { phase = phase.Failed; status = kill_time_expired }) j (λ (k : Job). k.sent ≡ j.sent) (λ e. refl) (λ e. refl)

-- a job that is over stays so
pub aged_over : (t : ℕ) (j : Job) → has_ended (aged_job t j).phase ≡ false → has_ended j.phase ≡ false
aged_over t j =
    cond_both (expires j.phase && is_past j.killtime t) (record j { phase = phase.Failed; status = kill_time_expired }) j (λ (k : Job). has_ended k.phase ≡ false → has_ended j.phase ≡ false) (λ e q. cc) (λ e q. q)

-- an aged job fits without a grant, where it did
pub aged_free : (t : ℕ) (j : Job) → FitsFree j → FitsFree (aged_job t j)
aged_free t j h =
    cond_both (expires j.phase && is_past j.killtime t) (record j { phase = phase.Failed; status = kill_time_expired }) j FitsFree
    (λ e. record { counted = counted_moved j phase.Failed j.wish j.next kill_time_expired h.counted; wish = h.wish; phase = tt })
    (λ e. h)

-- and with one, where it did
pub aged_held : (t : ℕ) (j : Job) (g : Grant) → FitsGrant j g → FitsGrant (aged_job t j) g
aged_held t j g h =
    let kept : (expires j.phase && is_past j.killtime t) ≡ false = and_left (expires j.phase) (is_past j.killtime t) (ap expires h.phase) in
    subst (λ (k : Job). FitsGrant k g) (sym (cond-false (expires j.phase && is_past j.killtime t) (record j { phase = phase.Failed; status = kill_time_expired }) j kept)) h

-- ---- a client's requests

pub record Keeps (j k : Job) : Type 0 where
  pub number : k.number ≡ j.number
  pub sent : k.sent ≡ j.sent
  pub free : FitsFree j → FitsFree k
  pub held : (g : Grant) → FitsGrant j g → FitsGrant k g
  pub over : has_ended k.phase ≡ false → has_ended j.phase ≡ false

-- a job keeps what it has
keeps_itself : (j : Job) → Keeps j j
keeps_itself j = record { number = refl; sent = refl; free = λ h. h; held = λ g h. h; over = λ e. e }

-- a job that isn't granted goes to another phase
to_phase : (j : Job) (p : Phase) (text : List ℕ) → j.phase ≢ phase.Granted → has_ended j.phase ≡ false → (FitsPhase j.phase j → FitsPhase p (moved j p j.wish j.next text)) → Keeps j (moved j p j.wish j.next text)
to_phase j p text other goes fits = record {
  number = refl;
  sent = refl;
  free = λ h. record { counted = counted_moved j p j.wish j.next text h.counted; wish = h.wish; phase = fits h.phase };
  held = λ g h. absurd (other h.phase);
  over = λ q. goes;
}

-- a granted job gets another wish
to_wish : (j : Job) (w : Wish) → j.phase ≡ phase.Granted → Keeps j (record j { wish = w })
to_wish j w e = record {
  number = refl;
  sent = refl;
  free = λ h. absurd (subst (λ (p : Phase). FitsPhase p j) e h.phase);
  held = λ g h. grant_moved j g w j.next j.status h;
  over = λ q. q;
}

-- a suspended job keeps its number and pages, and fits
pub suspended_in : (p : Phase) (w : Wish) (j k : Job) → j.phase ≡ p → suspend_in p w j ≡ Ok k → Keeps j k
suspended_in phase.Held w j k e h = subst (Keeps j) (ok_same j k h) (keeps_itself j)
suspended_in phase.Waiting w j k e h =
    subst (Keeps j) (ok_same (record j { phase = phase.Held }) k h)
    (to_phase j phase.Held j.status (λ q. absurd (cc (e, q))) (ap has_ended e) (λ f. goes_on_moved j phase.Held j.wish j.next j.status (subst (λ (p : Phase). FitsPhase p j) e f)))
suspended_in phase.Granted wish.Go j k e h = subst (Keeps j) (ok_same (record j { wish = wish.Hold }) k h) (to_wish j wish.Hold e)
suspended_in phase.Granted wish.Hold j k e h = subst (Keeps j) (ok_same j k h) (keeps_itself j)
suspended_in phase.Granted wish.Kill j k e h = cc
suspended_in phase.Done w j k e h = cc
suspended_in phase.Failed w j k e h = cc

-- so does a resumed one
pub resumed_in : (p : Phase) (w : Wish) (j k : Job) → j.phase ≡ p → resume_in p w j ≡ Ok k → Keeps j k
resumed_in phase.Held w j k e h =
    subst (Keeps j) (ok_same (record j { phase = phase.Waiting }) k h)
    (to_phase j phase.Waiting j.status (λ q. absurd (cc (e, q))) (ap has_ended e) (λ f. goes_on_moved j phase.Waiting j.wish j.next j.status (subst (λ (p : Phase). FitsPhase p j) e f)))
resumed_in phase.Waiting w j k e h = cc
resumed_in phase.Granted wish.Go j k e h = cc
resumed_in phase.Granted wish.Hold j k e h = subst (Keeps j) (ok_same (record j { wish = wish.Go }) k h) (to_wish j wish.Go e)
resumed_in phase.Granted wish.Kill j k e h = cc
resumed_in phase.Done w j k e h = cc
resumed_in phase.Failed w j k e h = cc

-- and a killed one
pub killed_in : (p : Phase) (j k : Job) → j.phase ≡ p → kill_in p j ≡ Ok k → Keeps j k
killed_in phase.Held j k e h = subst (Keeps j) (ok_same (record j { phase = phase.Failed; status = killed }) k h) (to_phase j phase.Failed killed (λ q. absurd (cc (e, q))) (ap has_ended e) (λ f. tt))
killed_in phase.Waiting j k e h = subst (Keeps j) (ok_same (record j { phase = phase.Failed; status = killed }) k h) (to_phase j phase.Failed killed (λ q. absurd (cc (e, q))) (ap has_ended e) (λ f. tt))
killed_in phase.Granted j k e h = subst (Keeps j) (ok_same (record j { wish = wish.Kill }) k h) (to_wish j wish.Kill e)
killed_in phase.Done j k e h = cc
killed_in phase.Failed j k e h = cc

-- and an altered one with a dial and a try left
altered_keeps : (a : Alter) (j : Job) (t : ℕ) → j.phase ≡ phase.Held → j.totdials < (altered a j t).maxdials → j.tottries < (altered a j t).maxtries → Keeps j (altered a j t)
altered_keeps a j t e dials tries = record {
  number = refl;
  sent = refl;
  free = λ h. record {
    counted = record { pages = h.counted.pages; ndials = h.counted.ndials; totdials = omega arith; ntries = h.counted.ntries; tottries = omega arith };
    wish = h.wish;
    phase =
        let before : CanGoOn j = subst (λ (p : Phase). FitsPhase p j) e h.phase in
        let after : CanGoOn (altered a j t) = record { page = before.page; call = record { dials = dials; tries = tries } } in
        subst (λ (p : Phase). FitsPhase p (altered a j t)) (sym e) after;
  };
  held = λ g h. absurd (cc (e, h.phase));
  over = λ q. q;
}

-- so does a job that was altered
pub altered_in : (p : Phase) (a : Alter) (j k : Job) (t : ℕ) → j.phase ≡ p → alter_in p a j t ≡ Ok k → Keeps j k
altered_in phase.Held a j k t e h =
    let new = altered a j t in
    let ok = not_refused (leb new.maxdials new.totdials || leb new.maxtries new.tottries) _ (Ok new) k h in
    let parts = or_parts (leb new.maxdials new.totdials) (leb new.maxtries new.tottries) ok.0 in
    subst (Keeps j) (ok_same new k ok.1) (altered_keeps a j t e (leb-false new.maxdials new.totdials parts.0) (leb-false new.maxtries new.tottries parts.1))
altered_in phase.Waiting a j k t e h = cc
altered_in phase.Granted a j k t e h = cc
altered_in phase.Done a j k t e h = cc
altered_in phase.Failed a j k t e h = cc

-- what a client asks of a job leaves it where it may be
pub asked_in : (a : JobAsk) (t : ℕ) (j k : Job) → job_asked a t j ≡ Ok k → Keeps j k
asked_in ask.Suspend t j k h = suspended_in j.phase j.wish j k refl h
asked_in ask.Resume t j k h = resumed_in j.phase j.wish j k refl h
asked_in ask.Kill t j k h = killed_in j.phase j k refl h
asked_in (ask.Alter changes) t j k h = altered_in j.phase changes j k t refl h

-- a client's request is taken of a job that isn't over
suspended_goes : (p : Phase) (w : Wish) (j k : Job) → suspend_in p w j ≡ Ok k → has_ended p ≡ false
suspended_goes phase.Done w j k h = cc
suspended_goes phase.Failed w j k h = cc
suspended_goes _ w j k h = refl

resumed_goes : (p : Phase) (w : Wish) (j k : Job) → resume_in p w j ≡ Ok k → has_ended p ≡ false
resumed_goes phase.Done w j k h = cc
resumed_goes phase.Failed w j k h = cc
resumed_goes _ w j k h = refl

killed_goes : (p : Phase) (j k : Job) → kill_in p j ≡ Ok k → has_ended p ≡ false
killed_goes phase.Done j k h = cc
killed_goes phase.Failed j k h = cc
killed_goes _ j k h = refl

altered_goes : (p : Phase) (a : Alter) (j k : Job) (t : ℕ) → alter_in p a j t ≡ Ok k → has_ended p ≡ false
altered_goes phase.Done a j k t h = cc
altered_goes phase.Failed a j k t h = cc
altered_goes _ a j k t h = refl

pub asked_goes : (a : JobAsk) (t : ℕ) (j k : Job) → job_asked a t j ≡ Ok k → has_ended j.phase ≡ false
asked_goes ask.Suspend t j k h = suspended_goes j.phase j.wish j k h
asked_goes ask.Resume t j k h = resumed_goes j.phase j.wish j k h
asked_goes ask.Kill t j k h = killed_goes j.phase j k h
asked_goes (ask.Alter changes) t j k h = altered_goes j.phase changes j k t h

-- ---- submission

-- a new job of a lawful order fits without a grant
submitted_fits : (o : Order) (n t : ℕ) → HasLimits o → FitsFree (new_job o n t)
submitted_fits o n t h = record {
  counted = record { pages = refl; ndials = omega arith; totdials = omega arith; ntries = omega arith; tottries = omega arith };
  wish = refl;
  phase = record { page = omega (arith, h.pages, length-range_with_len 1 o.totpages); call = record { dials = h.dials; tries = h.tries } };
}

-- so does a job that was submitted, and it has the number it was given
pub submitted : (o : Order) (rule : Rule) (n max t : ℕ) (j : Job) → HasLimits o → submit o rule n max t ≡ Ok j → (j.number ≡ n) × FitsFree j
submitted o rule n max t j h e =
    let a = not_refused (is_some rule.notice) _ _ j e in
    let b = not_refused (is_over o.totpages rule.pages) _ _ j a.1 in
    let c = not_refused (nat_lt max n) _ (Ok (new_job o n t)) j b.1 in
    subst (λ (k : Job). (k.number ≡ n) × FitsFree k) (ok_same (new_job o n t) j c.1) (refl, submitted_fits o n t h)

-- ---- a grant

-- a waiting job that fits fits its new grant
pub granted_fits : (j : Job) (modem : List ℕ) (n : ℕ) → j.phase ≡ phase.Waiting → FitsFree j → FitsGrant (granted j modem n).job (granted j modem n).grant
granted_fits j modem n e h =
    let before : CanGoOn j = subst (λ (p : Phase). FitsPhase p j) e h.phase in
    let all : length j.sent + length j.left ≡ j.totpages = sym (length-append j.sent j.left) ∙ ap length h.counted.pages ∙ length-range_with_len 1 j.totpages in
    record {
      counted = counted_moved j phase.Granted wish.Go j.next j.status h.counted;
      phase = refl;
      confirmed = omega arith;
      last_page = refl;
      first_page = omega (arith, before.page);
      call = λ none. call_moved j phase.Granted wish.Go j.next j.status before.call;
    }

-- ---- reports

none_is : {A : Type 0} (o : Option A) → is_some o ≡ false → o ≡ None
none_is None e = refl
none_is (Some x) e = cc

-- one more dial without a connection leaves job and grant fitting
dialed_fits : (c : Call) (j : Job) (g : Grant) → FitsGrant j g → HasCallLeft j → FitsGrant (record j { totdials = j.totdials + 1; ndials = j.ndials + 1 }) (record g { call = Some c })
dialed_fits c j g h left = record {
  counted = record { pages = h.counted.pages; ndials = omega (arith, h.counted.ndials); totdials = omega (arith, left.dials); ntries = h.counted.ntries; tottries = h.counted.tottries };
  phase = h.phase;
  confirmed = h.confirmed;
  last_page = h.last_page;
  first_page = h.first_page;
  call = λ e. absurd (cc e);
}

-- so does any call
called_fits : (c : Call) (j : Job) (g : Grant) → FitsGrant j g → HasCallLeft j → FitsGrant (after_call c j) (record g { call = Some c })
called_fits Connected j g h left = record {
  counted = record { pages = h.counted.pages; ndials = omega arith; totdials = omega (arith, left.dials); ntries = omega (arith, h.counted.ntries); tottries = omega (arith, left.tries) };
  phase = h.phase;
  confirmed = h.confirmed;
  last_page = h.last_page;
  first_page = h.first_page;
  call = λ e. absurd (cc e);
}
called_fits Busy j g h left = dialed_fits Busy j g h left
called_fits NoAnswer j g h left = dialed_fits NoAnswer j g h left
called_fits NoCarrier j g h left = dialed_fits NoCarrier j g h left
called_fits Other j g h left = dialed_fits Other j g h left

-- a call leaves the job's number
called_number : (c : Call) (j : Job) → (after_call c j).number ≡ j.number
called_number Connected j = refl
called_number Busy j = refl
called_number NoAnswer j = refl
called_number NoCarrier j = refl
called_number Other j = refl

-- and its pages that are sent
called_sent : (c : Call) (j : Job) → (after_call c j).sent ≡ j.sent
called_sent Connected j = refl
called_sent Busy j = refl
called_sent NoAnswer j = refl
called_sent NoCarrier j = refl
called_sent Other j = refl

-- a report on an open grant: it keeps what fits, and takes no page out of those sent
pub record IsReport (j : Job) (g : Grant) (b : JobAndGrant) : Type 0 where
  pub was_open : g.is_open ≡ true
  pub number : b.job.number ≡ j.number
  pub reports : FitsGrant j g → Reports j g b
  pub more : List ℕ
  pub sent : b.job.sent ≡ j.sent ++ more

-- a report that leaves the numbers, the modem and the job, and the grant open, keeps what fits, where they do
open_still : (j : Job) (g : Grant) (b : JobAndGrant) → b.job.number ≡ j.number → b.grant.number ≡ g.number → b.grant.modem ≡ g.modem → b.grant.job ≡ g.job → b.grant.is_open ≡ g.is_open → g.is_open ≡ true → FitsGrant b.job b.grant → Reports j g b
open_still j g b number grant_number modem job same is fits = record {
  number = number;
  grant_number = grant_number;
  modem = modem;
  job = job;
  held = λ e. fits;
  free = λ e. absurd (cc (same, is, e));
}

-- a call that is taken is a report on an open grant
pub called : (c : Call) (j : Job) (g : Grant) (b : JobAndGrant) → call c j g ≡ Ok b → IsReport j g b
called c j g b e =
    let new : JobAndGrant = record { job = after_call c j; grant = record g { call = Some c } } in
    let p = not_refused (not g.is_open) _ _ b e in
    let q = not_refused (is_some g.call) _ (Ok new) b p.1 in
    let is : g.is_open ≡ true = not-false g.is_open p.0 in
    subst (IsReport j g) (ok_same new b q.1) (record {
      was_open = is;
      number = called_number c j;
      reports = λ h. open_still j g new (called_number c j) refl refl refl refl is (called_fits c j g h (h.call (none_is g.call q.0)));
      more = [];
      sent = called_sent c j ∙ sym (append-nil j.sent);
    })

-- one more page sent leaves job and grant fitting
paged_fits : (j : Job) (g : Grant) (p : ℕ) (rest : List ℕ) → j.left ≡ p ∷ rest → FitsGrant j g → FitsGrant (record j { sent = j.sent ++ p ∷ []; left = rest; ntries = 0 }) (record g { confirmed = g.confirmed + 1 })
paged_fits j g p rest e h = record {
  counted = record {
    pages = append_assoc j.sent (p ∷ []) rest ∙ ap (λ (ps : List ℕ). j.sent ++ ps) (sym e) ∙ h.counted.pages;
    ndials = h.counted.ndials;
    totdials = h.counted.totdials;
    ntries = omega arith;
    tottries = h.counted.tottries;
  };
  phase = h.phase;
  confirmed = omega (arith, h.confirmed, length-append j.sent (p ∷ []));
  last_page = h.last_page;
  first_page = h.first_page;
  call = λ none. let left = h.call none in record { dials = left.dials; tries = left.tries };
}

-- the first page that was left is the last that is sent
pub record IsPage (n : ℕ) (j : Job) (b : JobAndGrant) : Type 0 where
  pub rest : List ℕ
  pub left : j.left ≡ n ∷ rest
  pub job : b.job ≡ record j { sent = j.sent ++ n ∷ []; left = rest; ntries = 0 }

-- a page that is taken is one, of the first page left
pub page_is : (n : ℕ) (j : Job) (g : Grant) (b : JobAndGrant) (ps : List ℕ) → j.left ≡ ps → g.is_open ≡ true → page_of ps n j g ≡ Ok b → IsReport j g b × IsPage n j b
page_is n j g b [] e is h = cc
page_is n j g b (p ∷ rest) e is h =
    let new : JobAndGrant = record { job = record j { sent = j.sent ++ p ∷ []; left = rest; ntries = 0 }; grant = record g { confirmed = g.confirmed + 1 } } in
    let q = not_refused (not (eqb p n)) _ (Ok new) b h in
    let same : p ≡ n = eqb-true p n (not-false (eqb p n) q.0) in
    let made : new ≡ b = ok_same new b q.1 in (
      subst (IsReport j g) made (record {
        was_open = is;
        number = refl;
        reports = λ f. open_still j g new refl refl refl refl refl is (paged_fits j g p rest e f);
        more = p ∷ [];
        sent = refl;
      }),
      record { rest = rest; left = e ∙ ap (λ (x : ℕ). x ∷ rest) same; job = sym (ap (λ (c : JobAndGrant). c.job) made) ∙ ap (λ (x : ℕ). record j { sent = j.sent ++ x ∷ []; left = rest; ntries = 0 }) same },
    )

-- the same of a page report
pub paged : (n : ℕ) (j : Job) (g : Grant) (b : JobAndGrant) → page n j g ≡ Ok b → IsReport j g b × IsPage n j b
paged n j g b e =
    let p = not_refused (not g.is_open) _ _ b e in
    let q = not_refused (not (is_connected g.call)) _ (page_of j.left n j g) b p.1 in
    page_is n j g b j.left refl (not-false g.is_open p.0) q.1

-- what an outcome makes of a job
record IsOver (j k : Job) : Type 0 where
  number : k.number ≡ j.number
  sent : k.sent ≡ j.sent
  fits : IsCounted j → FitsFree k

-- a failed job keeps its number and pages, and fits without a grant
over_failed : (j : Job) (text : List ℕ) → IsOver j (failed j text)
over_failed j text = record { number = refl; sent = refl; fits = λ c. record { counted = counted_moved j phase.Failed wish.Go j.next text c; wish = refl; phase = tt } }

-- a job that can go on fits where its wish sends it
goes_back : (w : Wish) (k : Job) → CanGoOn k → FitsPhase (phase_after w) k
goes_back wish.Go k h = h
goes_back wish.Hold k h = h
goes_back wish.Kill k h = h

-- a job that is tried again keeps its number and pages too, and fits so, where a page is left
over_retried : (j : Job) (reason : List ℕ) (delay t : ℕ) → 1 ≤ length j.left → IsOver j (retried j reason delay t)
over_retried j reason delay t some =
    cond_both (is_kill j.wish) _ _ (IsOver j) (λ e. over_failed j killed) (λ e.
    cond_both (is_past j.killtime t) _ _ (IsOver j) (λ e. over_failed j kill_time_expired) (λ e.
    cond_both (leb j.maxdials j.totdials) _ _ (IsOver j) (λ e. over_failed j too_many_dials) (λ dials.
    cond_both (leb j.maxtries j.tottries) _ _ (IsOver j) (λ e. over_failed j too_many_tries) (λ tries.
    cond_both (leb 3 j.ntries) _ _ (IsOver j) (λ e. over_failed j unable_to_transmit) (λ e.
    record {
      number = refl;
      sent = refl;
      fits = λ c. record {
        counted = counted_moved j (phase_after j.wish) wish.Go (t + delay) reason c;
        wish = refl;
        phase = goes_back j.wish (moved j (phase_after j.wish) wish.Go (t + delay) reason) (record { page = some; call = record { dials = leb-false j.maxdials j.totdials dials; tries = leb-false j.maxtries j.tottries tries } });
      };
    })))))

-- and one that ended in any way, where a page is left
over_by : (e : Ending) (j : Job) (reason : List ℕ) (delay t : ℕ) → 1 ≤ length j.left → IsOver j (ended_by e j reason delay t)
over_by ending.Done j reason delay t some = over_failed j reason
over_by ending.Fail j reason delay t some = over_failed j reason
over_by ending.Retry j reason delay t some = over_retried j reason delay t some

-- and one whose grant ended in any way, whether a page is left or not
over : (ps : List ℕ) (o : Outcome) (j : Job) (delay t : ℕ) → j.left ≡ ps → IsOver j (ended ps o j delay t)
over [] o j delay t e = record { number = refl; sent = refl; fits = λ c. record { counted = counted_moved j phase.Done wish.Go j.next [] c; wish = refl; phase = tt } }
over (p ∷ rest) o j delay t e = over_by o.ending j o.reason delay t (omega (arith, ap length e))

-- an outcome that is taken is one
pub outcome_is : (o : Outcome) (j : Job) (g : Grant) (delay t : ℕ) (b : JobAndGrant) → outcome o j g delay t ≡ Ok b → IsReport j g b
outcome_is o j g delay t b h =
    let new : JobAndGrant = record { job = ended j.left o j delay t; grant = record g { is_open = false } } in
    let p = not_refused (not g.is_open) _ _ b h in
    let q = not_refused (not o.dialed && is_some g.call) _ _ b p.1 in
    let r = not_refused (o.dialed && is_none g.call) _ _ b q.1 in
    let s = not_refused (not (eqb o.pages g.confirmed)) _ _ b r.1 in
    let u = not_refused (is_done o.ending && not (is_empty j.left)) _ (Ok new) b s.1 in
    let k = over j.left o j delay t refl in
    subst (IsReport j g) (ok_same new b u.1) (record {
      was_open = not-false g.is_open p.0;
      number = k.number;
      reports = λ f. record {
        number = k.number;
        grant_number = refl;
        modem = refl;
        job = refl;
        held = λ e. absurd (cc e);
        free = λ e. k.fits f.counted;
      };
      more = [];
      sent = k.sent ∙ sym (append-nil j.sent);
    })

-- what a worker reports on a grant and is taken is one
pub reported_in : (r : Report) (delay : Option Call → ℕ) (t : ℕ) (j : Job) (g : Grant) (b : JobAndGrant) → grant_reported r delay t j g ≡ Ok b → IsReport j g b
reported_in (report.Call c) delay t j g b h = called c j g b h
reported_in (report.Page n) delay t j g b h = (paged n j g b h).0
reported_in (report.Outcome o) delay t j g b h = outcome_is o j g (delay g.call) t b h
