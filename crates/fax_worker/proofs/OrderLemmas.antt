-- Where nothing is disturbed the pages of a job are transmitted in order.
use Rattle.std.proofs.Common.{◌≡◌, ◌≢◌, ◌⊎◌, inl, inr, ℕ, ◌+◌, ◌-◌, ◌<◌, ◌≤◌, Bool, true, false, cond, eqb, List, [], ◌∷◌, ◌++◌, length, Option, Some, None, refl, sym, ap, subst, ◌∙◌, arith}
use Rattle.std.specs.List.{list_any, range_with_len}
use Rattle.std.specs.Str.{bytes_eq}
use Rattle.std.specs.Cmp.Lexicographic.{bytes_decides}
use Rattle.std.proofs.lemmas.Bool.{and_from, and_parts, cases_Bool, eq-eqb, eqb-false, eqb-true, true≢false}
use Rattle.std.proofs.lemmas.List.{append-nil, length-append}
use Rattle.std.proofs.lemmas.List.FromFn.{length-range_with_len}
use Rattle.fax_job.specs.declared.job.Phase.TheVariants as phase
use Rattle.fax_core.specs.declared.ask.Ask.{Ask}
use Rattle.fax_core.specs.declared.ask.Ask.TheVariants.{OnGrant}
use Rattle.fax_core.specs.declared.grants.Grant.{Grant}
use Rattle.fax_core.specs.declared.report.Report.TheVariants.{Page}
use Rattle.fax_core.specs.Clock.{decided_at}
use Rattle.fax_core.specs.Job.{HasPages, Job}
use Rattle.fax_core.specs.Laws.{IsGone}
use Rattle.fax_core.specs.Queue.{Queue, grant_numbered, job_numbered}
use Rattle.fax_core.specs.Reply.{Step}
use Rattle.fax_core.specs.Run.{Answer, left_by}
use Rattle.fax_core.specs.Settings.{Settings}
use Rattle.fax_core.specs.Sound.{IsJob, IsOpen, Sound}
use Rattle.fax_core.proofs.KeepLemmas.{same_job}
use Rattle.fax_core.proofs.PageLemmas.{KeepsSent, step_keeps}
use Rattle.fax_core.proofs.RangeLemmas.{joined}
use Rattle.fax_run.specs.Counts.{brought_with, brings, came_in, no_counters, takes_in}
use Rattle.fax_run.specs.Reading.{Post}
use Rattle.fax_run.specs.Run.{Fed, floors_after, is_of, is_taken, queue_after, under}
use Rattle.fax_worker.proofs.BoundLemmas.{agrees_of, good, job_of, one_modem, report_of}
use Rattle.fax_worker.proofs.JobLemmas.{Is_new, IsWhole, Made, NoPageOf, Paged, Was, not_both, step_brings, step_made, there_brings}
use Rattle.fax_worker.proofs.StandLemmas.{IsTaken, any_later, any_off, any_on, is_accepted, name, new_unused, taken_parts}
use Rattle.fax_worker.proofs.TraceLemmas.{at_both, sound, stands}
use Rattle.fax_worker.specs.Laws.{Agrees, DoneJobsAreSent, InOrderAtTheReceiver, PagesGoInOrder}
use Rattle.fax_worker.specs.Trace.{Answered, Begins, Dies, Event, Handles, Has, IsFirst, IsTrace, MayAnswer, MayBegin, MayHandle, MayTransmit, PageOf, ReportsIt, Transmits, World, begun, fed, queue_at, sent_answers, window, worker_at}
use Rattle.fax_worker.specs.Transmitted.{AreUndisturbed, IsUndisturbed, pages_after, pages_of, sent_before, sent_or}
use Rattle.fax_worker.specs.Worker.{Held, Look, Pending, Worker, with_answer, with_request}

-- ---- words

-- a worker has transmitted a page of the job, and the queue hasn't accepted the report
pub data WaitsFor (first : World) (worker : List ℕ → Worker) (win : List ℕ → Option PageOf) (fs : List Fed) (job : ℕ) : Type 0 where
  In_window : (modem : List ℕ) → first.has modem ≡ true → (page : ℕ) → win modem ≡ Some (record { job = job; page = page }) → WaitsFor first worker win fs job
  Unaccepted : (modem : List ℕ) → first.has modem ≡ true → (n grant page : ℕ) (h : Held) → (worker modem).unanswered ≡ Some (record { number = n; ask = OnGrant grant (Page page) })
      → (worker modem).held ≡ Some h → h.job ≡ job → is_accepted first modem fs n ≡ false → WaitsFor first worker win fs job

-- the job isn't there, or has left; or its pages are as many as are sent and none waits, or one more and it waits
pub data Ordered (first : World) (worker : List ℕ → Worker) (win : List ℕ → Option PageOf) (pages : List ℕ) (fs : List Fed) (job : ℕ) : Type 0 where
  No_job : job_numbered job (queue_after first.start.queue fs) ≡ None → job_numbered job first.start.queue ≡ None → (brought_with first.start.queue job fs).npages ≡ 0 → pages ≡ []
      → Ordered first worker win pages fs job
  Has_left : IsGone (queue_after first.start.queue fs) job → Ordered first worker win pages fs job
  Even : (j : Job) → IsJob (queue_after first.start.queue fs) job j → IsWhole j → sent_before first fs job ≤ length j.sent → pages ≡ pages_after (sent_before first fs job) (length j.sent)
      → (WaitsFor first worker win fs job → ⊥) → Ordered first worker win pages fs job
  Odd : (j : Job) → IsJob (queue_after first.start.queue fs) job j → IsWhole j → sent_before first fs job ≤ length j.sent → pages ≡ pages_after (sent_before first fs job) (length j.sent + 1)
      → WaitsFor first worker win fs job → Ordered first worker win pages fs job

-- where as much waits as before it is as before
ordered_same : (first : World) (worker later : List ℕ → Worker) (win after : List ℕ → Option PageOf) (pages : List ℕ) (fs : List Fed) (job : ℕ)
    → (WaitsFor first worker win fs job → WaitsFor first later after fs job) → (WaitsFor first later after fs job → WaitsFor first worker win fs job)
    → Ordered first worker win pages fs job → Ordered first later after pages fs job
ordered_same first worker later win after pages fs job on back (No_job none at brought is) = No_job none at brought is
ordered_same first worker later win after pages fs job on back (Has_left gone) = Has_left gone
ordered_same first worker later win after pages fs job on back (Even j there whole few is none) = Even j there whole few is (λ w. none (back w))
ordered_same first worker later win after pages fs job on back (Odd j there whole few is waits) = Odd j there whole few is (on waits)

some_same : {A : Type 0} (x y : A) → Path (Option A) (Some x) (Some y) → x ≡ y
some_same x y e = cc

-- one page more
one_more : (before sent page : ℕ) (pages : List ℕ) → before ≤ sent → pages ≡ pages_after before sent → page ≡ sent + 1 → pages ++ page ∷ [] ≡ pages_after before (sent + 1)
one_more before sent page pages few is next =
    let place : page ≡ before + 1 + (sent - before) = omega (arith, few, next) in
    let many : (sent - before) + 1 ≡ sent + 1 - before = omega (arith, few) in
    ap (λ (ps : List ℕ). ps ++ page ∷ []) is
    ∙ ap (λ (x : ℕ). range_with_len (before + 1) (sent - before) ++ x ∷ []) place
    ∙ joined (before + 1) (sent - before) 1
    ∙ ap (λ (k : ℕ). range_with_len (before + 1) k) many

-- none after all
no_more : (before sent : ℕ) → before ≡ sent → [] ≡ pages_after before sent
no_more before sent same = let none : sent - before ≡ 0 = omega (arith, same) in sym (ap (λ (k : ℕ). range_with_len (before + 1) k) none)

module _ (first : World) (earlier : List Event) (at : IsFirst first) (is : IsTrace first earlier) (job : ℕ) where
  abbrev m : Queue
  m = queue_at first earlier

  abbrev fs : List Fed
  fs = fed first.start earlier

  abbrev Waits : Type 0
  Waits = WaitsFor first (worker_at first earlier) (window earlier) fs job

  -- the modem of a worker that waits holds the job's open grant
  record Holder : Type 0 where
    modem : List ℕ
    works : first.has modem ≡ true
    h : Held
    agrees : Agrees m modem h
    of_job : h.job ≡ job
    cause : ((p : PageOf) × (window earlier modem ≡ Some p)) ⊎ ((p : Pending) × ((worker_at first earlier modem).unanswered ≡ Some p))

  holder : Waits → Holder
  holder (In_window modem works page win) =
      let it = (stands first modem works earlier at is).in_window _ win in
      record { modem = modem; works = works; h = it.held; agrees = agrees_of first earlier at is modem it.held works it.answered it.holds; of_job = it.of_job; cause = inl (_, win) }
  holder (Unaccepted modem works n grant page h waits holds of_job off) =
      let it = report_of first earlier at is modem n grant page works waits in
      let same_held : it.h ≡ h = (let both = sym it.holds ∙ holds in cc) in
      elim it.state [
        | inl waiting ↦ record { modem = modem; works = works; h = it.h; agrees = waiting.agrees; of_job = ap (λ (x : Held). x.job) same_held ∙ of_job; cause = inr (_, waits) }
        | inr arrived ↦ absurd (not_both _ off arrived.used)
      ]

  -- so the job is there
  waits_there : Waits → (j : Job) × IsJob m job j
  waits_there w =
      let it = holder w in
      let j = job_of m it.modem it.h (good first earlier at is) it.agrees in
      (j.0, subst (λ (i : ℕ). IsJob m i j.0) it.of_job j.1)

  -- no page of the job may be transmitted while one waits
  none_waits : (modem : List ℕ) (page : ℕ) → MayTransmit first earlier modem job page → Waits → ⊥
  none_waits modem page may w =
      let it = holder w in
      let a = agrees_of first earlier at is modem may.held may.works may.answered may.holds in
      let same = one_modem m modem it.modem may.held it.h (good first earlier at is) a it.agrees (may.of_job ∙ sym it.of_job) in
      elim it.cause [
        | inl (p, win) ↦ let none : window earlier it.modem ≡ None = subst (λ (x : List ℕ). window earlier x ≡ None) same may.reported in cc (none, win)
        | inr (p, waits) ↦ let none : (worker_at first earlier it.modem).unanswered ≡ None = subst (λ (x : List ℕ). (worker_at first earlier x).unanswered ≡ None) same may.answered in cc (none, waits)
      ]

  -- ---- a request begins

  begins_on : (modem : List ℕ) (k : ℕ) (ask : Ask) → MayBegin first earlier modem k ask → Waits → WaitsFor first (worker_at first (Begins modem k ask ∷ earlier)) (window (Begins modem k ask ∷ earlier)) fs job
  begins_on modem k ask may (In_window other works page win) = elim (cases_Bool (bytes_eq modem other)) [
    | inl on ↦
        let same = (bytes_decides modem other).0 on in
        let i = stands first other works earlier at is in
        let it = i.in_window _ win in
        let reports = subst (λ (o : Option PageOf). ReportsIt o ask) (ap (window earlier) same ∙ win) may.reports in
        let new : (worker_at first earlier other).last < k = subst (λ (x : List ℕ). (worker_at first earlier x).last < k) same may.begins.new in
        Unaccepted other works k reports.0 page it.held
        (ap (λ b. (cond b (with_request k ask (worker_at first earlier other)) (worker_at first earlier other)).unanswered) on ∙ ap (λ (a : Ask). Some (record { number = k; ask = a })) reports.1)
        (ap (λ b. (cond b (with_request k ask (worker_at first earlier other)) (worker_at first earlier other)).held) on ∙ it.holds)
        it.of_job
        (new_unused first other (worker_at first earlier other) fs (begun earlier other) (sent_answers first.start earlier (name first other)) (window earlier other) i k new)
    | inr off ↦ In_window other works page (ap (λ b. cond b None (window earlier other)) off ∙ win)
  ]
  begins_on modem k ask may (Unaccepted other works n grant page h waits holds of_job unused) = elim (cases_Bool (bytes_eq modem other)) [
    | inl on ↦
        let same = (bytes_decides modem other).0 on in
        let none : (worker_at first earlier other).unanswered ≡ None = subst (λ (x : List ℕ). (worker_at first earlier x).unanswered ≡ None) same may.begins.answered in
        absurd (cc (none, waits))
    | inr off ↦
        Unaccepted other works n grant page h
        (ap (λ b. (cond b (with_request k ask (worker_at first earlier other)) (worker_at first earlier other)).unanswered) off ∙ waits)
        (ap (λ b. (cond b (with_request k ask (worker_at first earlier other)) (worker_at first earlier other)).held) off ∙ holds)
        of_job unused
  ]

  begins_back : (modem : List ℕ) (k : ℕ) (ask : Ask) → MayBegin first earlier modem k ask → IsUndisturbed first earlier (Begins modem k ask)
      → WaitsFor first (worker_at first (Begins modem k ask ∷ earlier)) (window (Begins modem k ask ∷ earlier)) fs job → Waits
  begins_back modem k ask may u (In_window other works page win) = elim (cases_Bool (bytes_eq modem other)) [
    | inl on ↦ absurd (let none = sym (ap (λ b. cond b None (window earlier other)) on) ∙ win in cc)
    | inr off ↦ In_window other works page (sym (ap (λ b. cond b None (window earlier other)) off) ∙ win)
  ]
  begins_back modem k ask may u (Unaccepted other works n grant page h waits holds of_job unused) = elim (cases_Bool (bytes_eq modem other)) [
    | inl on ↦
        let same = (bytes_decides modem other).0 on in
        let w = worker_at first earlier other in
        let now : Path (Option Pending) (Some (record { number = k; ask = ask })) (Some (record { number = n; ask = OnGrant grant (Page page) })) = sym (ap (λ b. (cond b (with_request k ask w) w).unanswered) on) ∙ waits in
        let asks : ask ≡ OnGrant grant (Page page) = ap (λ (x : Pending). x.ask) (some_same _ _ now) in
        let sent = u grant page asks in
        let win : window earlier other ≡ Some sent.0 = sym (ap (window earlier) same) ∙ sent.1 in
        let it = (stands first other works earlier at is).in_window sent.0 win in
        let held : w.held ≡ Some h = sym (ap (λ b. (cond b (with_request k ask w) w).held) on) ∙ holds in
        let one : it.held ≡ h = (let both = sym it.holds ∙ held in cc) in
        let its : sent.0.job ≡ job = sym it.of_job ∙ ap (λ (x : Held). x.job) one ∙ of_job in
        In_window other works sent.0.page (win ∙ ap (λ (i : ℕ). Some (record { job = i; page = sent.0.page })) its)
    | inr off ↦
        Unaccepted other works n grant page h
        (sym (ap (λ b. (cond b (with_request k ask (worker_at first earlier other)) (worker_at first earlier other)).unanswered) off) ∙ waits)
        (sym (ap (λ b. (cond b (with_request k ask (worker_at first earlier other)) (worker_at first earlier other)).held) off) ∙ holds)
        of_job unused
  ]

  -- ---- a request is answered

  answered_on : (modem : List ℕ) (k : ℕ) (ask : Ask) (answer : Answer) (look : Look) → MayAnswer first earlier modem k ask answer look → Waits
      → WaitsFor first (worker_at first (Answered modem k ask answer look ∷ earlier)) (window (Answered modem k ask answer look ∷ earlier)) fs job
  answered_on modem k ask answer look may (In_window other works page win) = elim (cases_Bool (bytes_eq modem other)) [
    | inl on ↦
        let same = (bytes_decides modem other).0 on in
        let it = (stands first other works earlier at is).in_window _ win in
        let waits : (worker_at first earlier other).unanswered ≡ Some (record { number = k; ask = ask }) = subst (λ (x : List ℕ). (worker_at first earlier x).unanswered ≡ Some (record { number = k; ask = ask })) same may.answered.unanswered in
        absurd (let none = it.answered in cc)
    | inr off ↦ In_window other works page (ap (λ b. cond b None (window earlier other)) off ∙ win)
  ]
  answered_on modem k ask answer look may (Unaccepted other works n grant page h waits holds of_job unused) = elim (cases_Bool (bytes_eq modem other)) [
    | inl on ↦
        let same = (bytes_decides modem other).0 on in
        let its : (worker_at first earlier other).unanswered ≡ Some (record { number = k; ask = ask }) = subst (λ (x : List ℕ). (worker_at first earlier x).unanswered ≡ Some (record { number = k; ask = ask })) same may.answered.unanswered in
        let one : Path Pending (record { number = k; ask = ask }) (record { number = n; ask = OnGrant grant (Page page) }) = (let both = sym its ∙ waits in cc) in
        let sent : Has (record { number = k; ask = ask; answer = answer }) (sent_answers first.start earlier (name first other)) =
        subst (λ (x : List ℕ). Has (record { number = k; ask = ask; answer = answer }) (sent_answers first.start earlier (first.worker x).client)) same may.sent in
        let mine : Has (record { number = n; ask = OnGrant grant (Page page); answer = answer }) (sent_answers first.start earlier (name first other)) =
        subst (λ (x : Pending). Has (record { number = x.number; ask = x.ask; answer = answer }) (sent_answers first.start earlier (name first other))) one sent in
        let it = report_of first earlier at is other n grant page works waits in
        elim it.state [
          | inl waiting ↦ absurd (waiting.silent answer mine)
          | inr arrived ↦ absurd (not_both _ unused arrived.used)
        ]
    | inr off ↦
        Unaccepted other works n grant page h
        (ap (λ b. (cond b (with_answer ask answer look (worker_at first earlier other)) (worker_at first earlier other)).unanswered) off ∙ waits)
        (ap (λ b. (cond b (with_answer ask answer look (worker_at first earlier other)) (worker_at first earlier other)).held) off ∙ holds)
        of_job unused
  ]

  answered_back : (modem : List ℕ) (k : ℕ) (ask : Ask) (answer : Answer) (look : Look)
      → WaitsFor first (worker_at first (Answered modem k ask answer look ∷ earlier)) (window (Answered modem k ask answer look ∷ earlier)) fs job → Waits
  answered_back modem k ask answer look (In_window other works page win) = elim (cases_Bool (bytes_eq modem other)) [
    | inl on ↦ absurd (let none = sym (ap (λ b. cond b None (window earlier other)) on) ∙ win in cc)
    | inr off ↦ In_window other works page (sym (ap (λ b. cond b None (window earlier other)) off) ∙ win)
  ]
  answered_back modem k ask answer look (Unaccepted other works n grant page h waits holds of_job unused) = elim (cases_Bool (bytes_eq modem other)) [
    | inl on ↦ absurd (let none = sym (ap (λ b. (cond b (with_answer ask answer look (worker_at first earlier other)) (worker_at first earlier other)).unanswered) on) ∙ waits in cc)
    | inr off ↦
        Unaccepted other works n grant page h
        (sym (ap (λ b. (cond b (with_answer ask answer look (worker_at first earlier other)) (worker_at first earlier other)).unanswered) off) ∙ waits)
        (sym (ap (λ b. (cond b (with_answer ask answer look (worker_at first earlier other)) (worker_at first earlier other)).held) off) ∙ holds)
        of_job unused
  ]

  -- ---- a page of another job is transmitted, or a driver dies

  transmits_on : (modem : List ℕ) (j p : ℕ) → MayTransmit first earlier modem j p → Waits → WaitsFor first (worker_at first (Transmits modem j p ∷ earlier)) (window (Transmits modem j p ∷ earlier)) fs job
  transmits_on modem j p may (In_window other works page win) = elim (cases_Bool (bytes_eq modem other)) [
    | inl on ↦
        let none : window earlier other ≡ None = subst (λ (x : List ℕ). window earlier x ≡ None) ((bytes_decides modem other).0 on) may.reported in
        absurd (cc (none, win))
    | inr off ↦ In_window other works page (ap (λ b. cond b (Some (record { job = j; page = p })) (window earlier other)) off ∙ win)
  ]
  transmits_on modem j p may (Unaccepted other works n grant page h waits holds of_job unused) = Unaccepted other works n grant page h waits holds of_job unused

  transmits_back : (modem : List ℕ) (j p : ℕ) → j ≢ job → WaitsFor first (worker_at first (Transmits modem j p ∷ earlier)) (window (Transmits modem j p ∷ earlier)) fs job → Waits
  transmits_back modem j p differs (In_window other works page win) = elim (cases_Bool (bytes_eq modem other)) [
    | inl on ↦
        let now : Path (Option PageOf) (Some (record { job = j; page = p })) (Some (record { job = job; page = page })) = sym (ap (λ b. cond b (Some (record { job = j; page = p })) (window earlier other)) on) ∙ win in
        absurd (differs (ap (λ (x : PageOf). x.job) (some_same _ _ now)))
    | inr off ↦ In_window other works page (sym (ap (λ b. cond b (Some (record { job = j; page = p })) (window earlier other)) off) ∙ win)
  ]
  transmits_back modem j p differs (Unaccepted other works n grant page h waits holds of_job unused) = Unaccepted other works n grant page h waits holds of_job unused

  dies_on : (modem : List ℕ) → window earlier modem ≡ None → Waits → WaitsFor first (worker_at first (Dies modem ∷ earlier)) (window (Dies modem ∷ earlier)) fs job
  dies_on modem u (In_window other works page win) = elim (cases_Bool (bytes_eq modem other)) [
    | inl on ↦
        let none : window earlier other ≡ None = subst (λ (x : List ℕ). window earlier x ≡ None) ((bytes_decides modem other).0 on) u in
        absurd (cc (none, win))
    | inr off ↦ In_window other works page (ap (λ b. cond b None (window earlier other)) off ∙ win)
  ]
  dies_on modem u (Unaccepted other works n grant page h waits holds of_job unused) = Unaccepted other works n grant page h waits holds of_job unused

  dies_back : (modem : List ℕ) → WaitsFor first (worker_at first (Dies modem ∷ earlier)) (window (Dies modem ∷ earlier)) fs job → Waits
  dies_back modem (In_window other works page win) = elim (cases_Bool (bytes_eq modem other)) [
    | inl on ↦ absurd (let none = sym (ap (λ b. cond b None (window earlier other)) on) ∙ win in cc)
    | inr off ↦ In_window other works page (sym (ap (λ b. cond b None (window earlier other)) off) ∙ win)
  ]
  dies_back modem (Unaccepted other works n grant page h waits holds of_job unused) = Unaccepted other works n grant page h waits holds of_job unused

  -- ---- a page of the job is transmitted

  transmits_own : (modem : List ℕ) (page : ℕ) → MayTransmit first earlier modem job page → Ordered first (worker_at first earlier) (window earlier) (pages_of job earlier) fs job
      → Ordered first (worker_at first (Transmits modem job page ∷ earlier)) (window (Transmits modem job page ∷ earlier)) (pages_of job earlier ++ page ∷ []) fs job
  transmits_own modem page may ordered = by ordered
    where
      a : Agrees m modem may.held
      a = agrees_of first earlier at is modem may.held may.works may.answered may.holds

      its : (j : Job) × IsJob m job j × (page ≡ length j.sent + 1)
      its = let it = job_of m modem may.held (good first earlier at is) a in (it.0, subst (λ (i : ℕ). IsJob m i it.0) may.of_job it.1, sym may.next ∙ it.2)

      by : Ordered first (worker_at first earlier) (window earlier) (pages_of job earlier) fs job
          → Ordered first (worker_at first (Transmits modem job page ∷ earlier)) (window (Transmits modem job page ∷ earlier)) (pages_of job earlier ++ page ∷ []) fs job
      by (No_job none start brought pages) = absurd (let there = its.1 in cc)
      by (Has_left gone) = absurd (let there = its.1 in let none = gone.absent in cc (none, there))
      by (Odd j there whole few pages waits) = absurd (none_waits modem page may waits)
      by (Even j there whole few pages none) =
          let same : length its.0.sent ≡ length j.sent = ap (λ (x : Job). length x.sent) (same_job m job its.0 j its.1 there) in
          Odd j there whole few (one_more (sent_before first fs job) (length j.sent) page (pages_of job earlier) few pages (its.2 ∙ ap (λ (i : ℕ). i + 1) same))
          (In_window modem may.works page (ap (λ b. cond b (Some (record { job = job; page = page })) (window earlier modem)) ((bytes_decides modem modem).1 refl)))

  -- ---- the queue handles a request

  module _ (s : Settings) (p : Post) (may : MayHandle first earlier p) (u : IsUndisturbed first earlier (Handles s p)) (it : IsTaken first.start (fed first.start earlier) (under s p)) where
    abbrev f : Fed
    f = under s p

    abbrev next : Queue
    next = queue_after first.start.queue (f ∷ fs)

    abbrev ask : Ask
    ask = p.request.ask

    abbrev LaterWaits : Type 0
    LaterWaits = WaitsFor first (worker_at first earlier) (window earlier) (f ∷ fs) job

    -- where it leads
    leaves : next ≡ it.after
    leaves = ap (left_by m) it.taken

    -- each job was there before or is new
    made : (y : Job) → IsJob next job y → Made m ask it.reply job y
    made y there = step_made s m it.after (decided_at m.clock p.request.moment) ask it.reply (good first earlier at is) it.taken job y (subst (λ (q : Queue). IsJob q job y) leaves there)

    -- the step keeps what is sent
    keeps : KeepsSent m next
    keeps = subst (KeepsSent m) (sym leaves) (step_keeps s m it.after (decided_at m.clock p.request.moment) ask it.reply (good first earlier at is) it.taken)

    -- a job that is there stays, or leaves
    still : (j : Job) → IsJob m job j → ((y : Job) × IsJob next job y) ⊎ IsGone next job
    still j there = elim (keeps.sent job j there) [
      | inl more ↦ inl (more.job, more.there)
      | inr gone ↦ inr gone
    ]

    -- what a job came in with
    brought_now : (brought_with first.start.queue job (f ∷ fs)).npages ≡ (cond (brings it.reply job) (came_in ask) (brought_with first.start.queue job fs)).npages
    brought_now = ap (λ (x : Step). (cond (takes_in x job) (came_in ask) (brought_with first.start.queue job fs)).npages) it.taken

    before_same : (j : Job) → IsJob m job j → sent_before first (f ∷ fs) job ≡ sent_before first fs job
    before_same j there =
        let off = there_brings s m it.after (decided_at m.clock p.request.moment) ask it.reply job j (good first earlier at is) it.taken there in
        ap (sent_or (job_numbered job first.start.queue)) (brought_now ∙ ap (λ b. (cond b (came_in ask) (brought_with first.start.queue job fs)).npages) off)

    -- what waits now waited before
    waits_back : LaterWaits → Waits
    waits_back (In_window modem works page win) = In_window modem works page win
    waits_back (Unaccepted modem works n grant page h waits holds of_job unused) = Unaccepted modem works n grant page h waits holds of_job (by (list_any (is_of (name first modem) n) fs) refl)
      where
        by : (b : Bool) → list_any (is_of (name first modem) n) fs ≡ b → b ≡ false
        by true on = absurd (true≢false (sym (any_later (is_of (name first modem) n) f fs on) ∙ unused))
        by false off = refl

    -- what waited waits still, where no page of the job is reported
    waits_on : NoPageOf m ask job → Waits → LaterWaits
    waits_on none (In_window modem works page win) = In_window modem works page win
    waits_on none (Unaccepted modem works n grant page h waits holds of_job unused) = elim (cases_Bool (is_of (name first modem) n f)) [
      | inl on ↦
          let parts = and_parts (bytes_eq p.client (name first modem)) (eqb p.number n) on in
          let its = (bytes_decides p.client (name first modem)).0 parts.0 in
          let number = eqb-true p.number n parts.1 in
          let i = stands first modem works earlier at is in
          let same : ask ≡ OnGrant grant (Page page) = i.once _ _ (may.own modem works its).0 (i.waits _ waits).0 number in
          let report = report_of first earlier at is modem n grant page works waits in
          elim report.state [
            | inl waiting ↦
                let one : report.h ≡ h = some_same _ _ (sym report.holds ∙ holds) in
                let there : grant_numbered grant m ≡ Some waiting.agrees.grant = subst (λ (k : ℕ). grant_numbered k m ≡ Some waiting.agrees.grant) (sym report.its) waiting.agrees.open_grant.0 in
                absurd (none grant page waiting.agrees.grant same there (waiting.agrees.of_job ∙ ap (λ (x : Held). x.job) one ∙ of_job))
            | inr arrived ↦ absurd (not_both _ unused arrived.used)
          ]
      | inr off ↦ Unaccepted modem works n grant page h waits holds of_job (any_off (is_of (name first modem) n) f fs off ∙ unused)
    ]

    -- a page of the job is reported by the worker of its grant's modem, which waits
    module _ (a page : ℕ) (g : Grant) (asks : ask ≡ OnGrant a (Page page)) (open' : IsOpen m a g) (of : g.job ≡ job) where
      works : first.has g.modem ≡ true
      works = u.0 a page g asks open'

      its : p.client ≡ name first g.modem
      its = may.alone a g (Page page) asks open' works

      unused : is_accepted first g.modem fs p.number ≡ false
      unused = subst (λ (x : List ℕ). list_any (is_of x p.number) fs ≡ false) its it.unused

      waits : (worker_at first earlier g.modem).unanswered ≡ Some (record { number = p.number; ask = OnGrant a (Page page) })
      waits =
          let i = stands first g.modem works earlier at is in
          let own = may.own g.modem works its in
          let known : (worker_at first earlier g.modem).unanswered ≡ Some (record { number = p.number; ask = ask }) = elim (i.settled _ a (Page page) own.0 asks) [
            | inl was ↦ was
            | inr rest ↦ elim rest [
              | inl on ↦ absurd (not_both _ unused on)
              | inr given ↦ absurd (let above = subst (λ (x : List ℕ). floors_after first.start fs x < p.number) its it.above in omega (arith, given, above))
            ]
          ] in
          known ∙ ap (λ (x : Ask). Some (record { number = p.number; ask = x })) asks

      reporter : (h : Held) × ((worker_at first earlier g.modem).held ≡ Some h) × (h.job ≡ job) × Agrees m g.modem h
      reporter =
          let report = report_of first earlier at is g.modem p.number a page works waits in
          elim report.state [
            | inl waiting ↦
                let there : grant_numbered a m ≡ Some waiting.agrees.grant = subst (λ (k : ℕ). grant_numbered k m ≡ Some waiting.agrees.grant) (sym report.its) waiting.agrees.open_grant.0 in
                let one : waiting.agrees.grant ≡ g = some_same _ _ (sym there ∙ open'.0) in
                (report.h, report.holds, sym waiting.agrees.of_job ∙ ap (λ (x : Grant). x.job) one ∙ of, waiting.agrees)
            | inr arrived ↦ absurd (not_both _ unused arrived.used)
          ]

      its_waits : Waits
      its_waits = let r = reporter in Unaccepted g.modem works p.number a page r.0 waits r.1 r.2 unused

      -- and then no other does
      none_later : LaterWaits → ⊥
      none_later w = by w (holder (waits_back w))
        where
          same_modem : Holder → (modem : List ℕ) → (h : Held) → Agrees m modem h → h.job ≡ job → modem ≡ g.modem
          same_modem x modem h agrees of_job = let r = reporter in one_modem m modem g.modem h r.0 (good first earlier at is) agrees r.3 (of_job ∙ sym r.2)

          by : LaterWaits → Holder → ⊥
          by (In_window modem its_works k win) x =
              let i = (stands first modem its_works earlier at is).in_window _ win in
              let same = same_modem x modem i.held (agrees_of first earlier at is modem i.held its_works i.answered i.holds) i.of_job in
              let none : (worker_at first earlier g.modem).unanswered ≡ None = subst (λ (z : List ℕ). (worker_at first earlier z).unanswered ≡ None) same i.answered in
              cc (none, waits)
          by (Unaccepted modem its_works n grant k h its_waits holds of_job off) x =
              let before = report_of first earlier at is modem n grant k its_works its_waits in
              elim before.state [
                | inl waiting ↦
                    let one : before.h ≡ h = some_same _ _ (sym before.holds ∙ holds) in
                    let same = same_modem x modem before.h waiting.agrees (ap (λ (z : Held). z.job) one ∙ of_job) in
                    let also : (worker_at first earlier g.modem).unanswered ≡ Some (record { number = n; ask = OnGrant grant (Page k) }) =
                    subst (λ (z : List ℕ). (worker_at first earlier z).unanswered ≡ Some (record { number = n; ask = OnGrant grant (Page k) })) same its_waits in
                    let number : n ≡ p.number = ap (λ (z : Pending). z.number) (some_same _ _ (sym also ∙ waits)) in
                    let here : is_of (name first modem) n f ≡ true =
                    and_from (bytes_eq p.client (name first modem)) (eqb p.number n) ((bytes_decides p.client (name first modem)).1 (its ∙ ap (name first) (sym same))) (eq-eqb p.number n (sym number)) in
                    not_both _ off (any_on (is_of (name first modem) n) f fs here)
                | inr arrived ↦ not_both _ off (any_later (is_of (name first modem) n) f fs arrived.used)
              ]

    -- ---- so the pages stay in order

    same_length : (j k : Job) → IsJob m job j → IsJob m job k → length j.sent ≡ length k.sent
    same_length j k x y = ap (λ (z : Job). length z.sent) (same_job m job j k x y)

    more_pages : (y j : Job) (page : ℕ) → y.sent ≡ j.sent ++ page ∷ [] → length y.sent ≡ length j.sent + 1
    more_pages y j page e = ap length e ∙ length-append j.sent (page ∷ [])

    abbrev pages : List ℕ
    pages = pages_of job earlier

    abbrev Later : Type 0
    Later = Ordered first (worker_at first earlier) (window earlier) pages (f ∷ fs) job

    -- a job that wasn't there
    new_later : job_numbered job m ≡ None → job_numbered job first.start.queue ≡ None → (brought_with first.start.queue job fs).npages ≡ 0 → pages ≡ [] → (o : Option Job) → job_numbered job next ≡ o → Later
    new_later none start brought no_pages None e = No_job e start (brought_now ∙ by (brings it.reply job) refl) no_pages
      where
        by : (b : Bool) → brings it.reply job ≡ b → (cond b (came_in ask) (brought_with first.start.queue job fs)).npages ≡ 0
        by true on =
            let there = step_brings s m it.after (decided_at m.clock p.request.moment) ask it.reply job (good first earlier at is) it.taken on in
            let here : IsJob next job there.0 = subst (λ (q : Queue). IsJob q job there.0) (sym leaves) there.1 in
            absurd (cc (e, here))
        by false off = brought
    new_later none start brought no_pages (Some y) e = by (made y e)
      where
        kinds : (b : Bool) → (cond b (came_in ask) (brought_with first.start.queue job fs)).npages ≡ (cond b (came_in ask) no_counters).npages
        kinds true = refl
        kinds false = brought

        by : Made m ask it.reply job y → Later
        by (Was j there sent whole plain) = absurd (cc (none, there))
        by (Paged a page g j asks open' of there sent whole) = absurd (cc (none, there))
        by (Is_new also count whole) =
            let before : sent_before first (f ∷ fs) job ≡ length y.sent =
            ap (λ (o : Option Job). sent_or o (brought_with first.start.queue job (f ∷ fs)).npages) start ∙ brought_now ∙ kinds (brings it.reply job) ∙ sym count in
            Even y e (whole u.1) (omega (arith, before)) (no_pages ∙ no_more (sent_before first (f ∷ fs) job) (length y.sent) before)
            (λ w. let there = (waits_there (waits_back w)).1 in cc (none, there))

    -- one that was there
    even_later : (j : Job) → IsJob m job j → IsWhole j → sent_before first fs job ≤ length j.sent → pages ≡ pages_after (sent_before first fs job) (length j.sent) → (Waits → ⊥) → Later
    even_later j there whole few is_pages none = elim (still j there) [ inl y ↦ by y.0 y.1 (made y.0 y.1) | inr gone ↦ Has_left gone ]
      where
        by : (y : Job) → IsJob next job y → Made m ask it.reply job y → Later
        by y at' (Was k also sent whole_still plain) =
            let same : length y.sent ≡ length j.sent = ap length sent ∙ same_length k j also there in
            let before = before_same j there in
            Even y at' (whole_still (subst IsWhole (same_job m job j k there also) whole)) (omega (arith, few, same, before))
            (is_pages ∙ ap (λ (i : ℕ). pages_after i (length j.sent)) (sym before) ∙ ap (λ (i : ℕ). pages_after (sent_before first (f ∷ fs) job) i) (sym same))
            (λ w. none (waits_back w))
        by y at' (Paged a page g k asks open' of also sent its_whole) = absurd (none (its_waits a page g asks open' of))
        by y at' (Is_new no_job count its_whole) = absurd (cc (no_job, there))

    odd_later : (j : Job) → IsJob m job j → IsWhole j → sent_before first fs job ≤ length j.sent → pages ≡ pages_after (sent_before first fs job) (length j.sent + 1) → Waits → Later
    odd_later j there whole few is_pages w = elim (still j there) [ inl y ↦ by y.0 y.1 (made y.0 y.1) | inr gone ↦ Has_left gone ]
      where
        by : (y : Job) → IsJob next job y → Made m ask it.reply job y → Later
        by y at' (Was k also sent whole_still plain) =
            let same : length y.sent ≡ length j.sent = ap length sent ∙ same_length k j also there in
            let before = before_same j there in
            Odd y at' (whole_still (subst IsWhole (same_job m job j k there also) whole)) (omega (arith, few, same, before))
            (is_pages ∙ ap (λ (i : ℕ). pages_after i (length j.sent + 1)) (sym before) ∙ ap (λ (i : ℕ). pages_after (sent_before first (f ∷ fs) job) (i + 1)) (sym same))
            (waits_on plain w)
        by y at' (Paged a page g k asks open' of also sent its_whole) =
            let same : length y.sent ≡ length j.sent + 1 = more_pages y k page sent ∙ ap (λ (i : ℕ). i + 1) (same_length k j also there) in
            let before = before_same j there in
            Even y at' its_whole (omega (arith, few, same, before))
            (is_pages ∙ ap (λ (i : ℕ). pages_after i (length j.sent + 1)) (sym before) ∙ ap (λ (i : ℕ). pages_after (sent_before first (f ∷ fs) job) i) (sym same))
            (none_later a page g asks open' of)
        by y at' (Is_new no_job count its_whole) = absurd (cc (no_job, there))

    later : Ordered first (worker_at first earlier) (window earlier) pages fs job → Later
    later (No_job none start brought no_pages) = new_later none start brought no_pages (job_numbered job next) refl
    later (Has_left gone) = Has_left (keeps.gone job gone)
    later (Even j there whole few is_pages none) = even_later j there whole few is_pages none
    later (Odd j there whole few is_pages w) = odd_later j there whole few is_pages w

-- ---- each trace

abbrev In_order : World → List Event → ℕ → Type 0
In_order first trace job = Ordered first (worker_at first trace) (window trace) (pages_of job trace) (fed first.start trace) job

-- at the beginning nothing waits
none_first : (first : World) (job : ℕ) → IsFirst first → WaitsFor first (worker_at first []) (window []) [] job → ⊥
none_first first job at (In_window modem works page win) = cc win
none_first first job at (Unaccepted modem works n grant page h waits holds of_job unused) = let none = (at.workers modem works).answered in cc (none, waits)

at_first : (first : World) (job : ℕ) → IsFirst first → DoneJobsAreSent first.start.queue → (o : Option Job) → job_numbered job first.start.queue ≡ o → In_order first [] job
at_first first job at whole None e = No_job e e refl refl
at_first first job at whole (Some j) e =
    let before : sent_before first [] job ≡ length j.sent = ap (λ (o : Option Job). sent_or o (brought_with first.start.queue job []).npages) e in
    Even j e (whole job j e) (omega (arith, before)) (no_more (sent_before first [] job) (length j.sent) before) (none_first first job at)

in_order : (first : World) (trace : List Event) (job : ℕ) → IsFirst first → DoneJobsAreSent first.start.queue → IsTrace first trace → AreUndisturbed first trace → In_order first trace job
in_order first [] job at whole is u = at_first first job at whole (job_numbered job first.start.queue) refl
in_order first (Handles s p ∷ earlier) job at whole (may, is) (u, us) =
    let fs = fed first.start earlier in
    let f = under s p in
    at_both (λ b. Ordered first (worker_at first earlier) (window earlier) (pages_of job earlier) (cond b (f ∷ fs) fs) job) (is_taken first.start fs f)
    (λ on. later first earlier at is job s p may u (taken_parts first.start fs f on) (in_order first earlier job at whole is us))
    (λ off. in_order first earlier job at whole is us)
in_order first (Begins modem k ask ∷ earlier) job at whole (may, is) (u, us) =
    ordered_same first (worker_at first earlier) (worker_at first (Begins modem k ask ∷ earlier)) (window earlier) (window (Begins modem k ask ∷ earlier)) (pages_of job earlier) (fed first.start earlier) job
    (begins_on first earlier at is job modem k ask may) (begins_back first earlier at is job modem k ask may u) (in_order first earlier job at whole is us)
in_order first (Answered modem k ask answer look ∷ earlier) job at whole (may, is) (u, us) =
    ordered_same first (worker_at first earlier) (worker_at first (Answered modem k ask answer look ∷ earlier)) (window earlier) (window (Answered modem k ask answer look ∷ earlier)) (pages_of job earlier) (fed first.start earlier) job
    (answered_on first earlier at is job modem k ask answer look may) (answered_back first earlier at is job modem k ask answer look) (in_order first earlier job at whole is us)
in_order first (Transmits modem j p ∷ earlier) job at whole (may, is) (u, us) =
    at_both (λ b. Ordered first (worker_at first (Transmits modem j p ∷ earlier)) (window (Transmits modem j p ∷ earlier)) (cond b (pages_of job earlier ++ p ∷ []) (pages_of job earlier)) (fed first.start earlier) job) (eqb j job)
    (λ on.
    let same : job ≡ j = sym (eqb-true j job on) in
    let here = subst (λ (i : ℕ). MayTransmit first earlier modem i p) (sym same) may in
    subst (λ (i : ℕ). Ordered first (worker_at first (Transmits modem i p ∷ earlier)) (window (Transmits modem i p ∷ earlier)) (pages_of job earlier ++ p ∷ []) (fed first.start earlier) job) same
    (transmits_own first earlier at is job modem p here (in_order first earlier job at whole is us)))
    (λ off.
    ordered_same first (worker_at first earlier) (worker_at first (Transmits modem j p ∷ earlier)) (window earlier) (window (Transmits modem j p ∷ earlier)) (pages_of job earlier) (fed first.start earlier) job
    (transmits_on first earlier at is job modem j p may) (transmits_back first earlier at is job modem j p (eqb-false j job off)) (in_order first earlier job at whole is us))
in_order first (Dies modem ∷ earlier) job at whole (may, is) (u, us) =
    ordered_same first (worker_at first earlier) (worker_at first (Dies modem ∷ earlier)) (window earlier) (window (Dies modem ∷ earlier)) (pages_of job earlier) (fed first.start earlier) job
    (dies_on first earlier at is job modem u) (dies_back first earlier at is job modem) (in_order first earlier job at whole is us)

-- ---- the law

-- a job with no page left has sent all
all_sent : (j : Job) → HasPages j → j.left ≡ [] → length j.sent ≡ j.totpages
all_sent j pages none =
    let cut : j.sent ++ [] ≡ range_with_len 1 j.totpages = ap (λ (ps : List ℕ). j.sent ++ ps) (sym none) ∙ pages in
    ap length (sym (append-nil j.sent) ∙ cut) ∙ length-range_with_len 1 j.totpages

-- a job that is done has no open grant, and its pages in order
done_pages : (m : Queue) (job : ℕ) (j : Job) → Sound m → IsJob m job j → j.phase ≡ phase.Done → HasPages j
done_pages m job j good there done =
    (good.free job j there (λ a g is same.
    let held = good.held a g is in
    let one : held.0 ≡ j = same_job m job held.0 j (subst (λ (i : ℕ). IsJob m i held.0) same held.1) there in
    let busy : j.phase ≡ phase.Granted = subst (λ (z : Job). z.phase ≡ phase.Granted) one held.2.phase in
    cc (busy, done))).counted.pages

pub in_order_at_the_receiver : InOrderAtTheReceiver
in_order_at_the_receiver first trace at whole is u job j there = by (in_order first trace job at whole is u)
  where
    by : In_order first trace job → PagesGoInOrder first trace job j
    by (No_job none start brought pages) = absurd (cc (none, there))
    by (Has_left gone) = absurd (let none = gone.absent in cc (none, there))
    by (Even k also its_whole few pages none) =
        let same : k ≡ j = same_job (queue_at first trace) job k j also there in
        let sent : length k.sent ≡ length j.sent = ap (λ (x : Job). length x.sent) same in
        let is_pages = pages ∙ ap (λ (i : ℕ). pages_after (sent_before first (fed first.start trace) job) i) sent in
        record {
          before = omega (arith, few, sent);
          pages = inl is_pages;
          all = λ done.
              let all = all_sent j (done_pages (queue_at first trace) job j (sound first trace at is) there done) (subst IsWhole same its_whole done) in
              is_pages ∙ ap (λ (i : ℕ). pages_after (sent_before first (fed first.start trace) job) i) all;
        }
    by (Odd k also its_whole few pages waits) =
        let same : k ≡ j = same_job (queue_at first trace) job k j also there in
        let sent : length k.sent ≡ length j.sent = ap (λ (x : Job). length x.sent) same in
        record {
          before = omega (arith, few, sent);
          pages = inr (pages ∙ ap (λ (i : ℕ). pages_after (sent_before first (fed first.start trace) job) (i + 1)) sent);
          all = λ done.
              let it = holder first trace at is job waits in
              let held = (sound first trace at is).held it.h.grant it.agrees.grant it.agrees.open_grant in
              let one : held.0 ≡ j = same_job (queue_at first trace) job held.0 j (subst (λ (i : ℕ). IsJob (queue_at first trace) i held.0) (it.agrees.of_job ∙ it.of_job) held.1) there in
              let busy : j.phase ≡ phase.Granted = subst (λ (z : Job). z.phase ≡ phase.Granted) one held.2.phase in
              absurd (cc (busy, done));
        }
