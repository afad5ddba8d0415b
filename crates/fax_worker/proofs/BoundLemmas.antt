-- Each page is transmitted once at most, and once more for each death between its transmission and its begun report.
use Rattle.std.proofs.Common.{◌≡◌, ◌⊎◌, inl, inr, ℕ, ◌+◌, ◌≤◌, Bool, true, false, cond, ◌&&◌, eqb, List, [], ◌∷◌, length, Option, Some, None, refl, sym, ap, subst, ◌∙◌, arith}
use Rattle.std.specs.Str.{bytes_eq}
use Rattle.std.specs.Cmp.Lexicographic.{bytes_decides}
use Rattle.std.proofs.lemmas.Bool.{and_from, and_parts, cases_Bool, eq-eqb, eqb-true, true≢false}
use Rattle.fax_core.specs.declared.ask.Ask.{Ask}
use Rattle.fax_core.specs.declared.ask.Ask.TheVariants.{OnGrant}
use Rattle.fax_core.specs.declared.grants.Grant.{Grant}
use Rattle.fax_core.specs.declared.report.Report.TheVariants.{Page}
use Rattle.fax_core.specs.Clock.{decided_at}
use Rattle.fax_core.specs.Job.{Job}
use Rattle.fax_core.specs.Laws.{IsGone}
use Rattle.fax_core.specs.Queue.{Queue, grant_numbered}
use Rattle.fax_core.specs.Reply.{Taken}
use Rattle.fax_core.specs.Run.{Answer, left_by}
use Rattle.fax_core.specs.Settings.{Settings}
use Rattle.fax_core.specs.Sound.{IsJob, Sound}
use Rattle.fax_core.proofs.KeepLemmas.{same_job}
use Rattle.fax_core.proofs.PageLemmas.{KeepsSent, same_keeps, sent_before, step_keeps}
use Rattle.fax_run.specs.Reading.{Post}
use Rattle.fax_run.specs.Run.{is_taken, queue_after, step_of, under}
use Rattle.fax_worker.proofs.StandLemmas.{Arrived, ReportWaits, Stands, name, taken_parts}
use Rattle.fax_worker.proofs.TraceLemmas.{at_both, sound, stands, traces_agree}
use Rattle.fax_worker.specs.Laws.{Agrees, OnceAtTheReceiver, TransmitsTheNext}
use Rattle.fax_worker.specs.Trace.{Answered, Begins, Dies, Event, Handles, Has, IsFirst, IsTrace, MayAnswer, MayBegin, MayTransmit, PageOf, ReportsIt, Transmits, World, fed, queue_at, sent_answers, window, worker_at}
use Rattle.fax_worker.specs.Transmitted.{deaths, is_page, transmitted}
use Rattle.fax_worker.specs.Worker.{Held, Look, Pending, next_page, with_answer, with_request}

-- ---- a grant that is held, and its job

-- the job of a held grant is there, and the next page is the first that isn't sent
pub job_of : (m : Queue) (modem : List ℕ) (h : Held) → Sound m → Agrees m modem h → (j : Job) × IsJob m h.job j × (next_page h ≡ length j.sent + 1)
job_of m modem h good a =
    let held = good.held h.grant a.grant a.open_grant in
    (held.0, subst (λ (i : ℕ). IsJob m i held.0) a.of_job held.1, omega (arith, held.2.confirmed, a.first_page, a.pages))

-- a job's open grant is one modem's
pub one_modem : (m : Queue) (a b : List ℕ) (h k : Held) → Sound m → Agrees m a h → Agrees m b k → h.job ≡ k.job → a ≡ b
one_modem m a b h k good x y same =
    let number : h.grant ≡ k.grant = good.one_of_a_job h.grant k.grant x.grant y.grant x.open_grant y.open_grant (x.of_job ∙ same ∙ sym y.of_job) in
    let there : grant_numbered k.grant m ≡ Some x.grant = subst (λ (i : ℕ). grant_numbered i m ≡ Some x.grant) number x.open_grant.0 in
    let it : x.grant ≡ y.grant = (let both = sym there ∙ y.open_grant.0 in cc) in
    sym x.of_modem ∙ ap (λ (z : Grant). z.modem) it ∙ y.of_modem

-- the pages that a job has sent are as many wherever it is looked up
same_pages : (m : Queue) (n : ℕ) (j k : Job) → IsJob m n j → IsJob m n k → length j.sent ≡ length k.sent
same_pages m n j k a b = ap (λ (x : Job). length x.sent) (same_job m n j k a b)

-- what is sent stays sent after each request that the queue handles
pub handles_keep : (first : World) (s : Settings) (p : Post) (earlier : List Event) → Sound (queue_at first earlier) → KeepsSent (queue_at first earlier) (queue_at first (Handles s p ∷ earlier))
handles_keep first s p earlier good =
    let fs = fed first.start earlier in
    let f = under s p in
    let m = queue_at first earlier in
    at_both (λ b. KeepsSent m (queue_after first.start.queue (cond b (f ∷ fs) fs))) (is_taken first.start fs f)
    (λ on.
    let it = taken_parts first.start fs f on in
    step_keeps s m (left_by m (step_of m f)) (decided_at m.clock p.request.moment) p.request.ask it.reply good (it.taken ∙ ap (λ (q : Queue). Taken q it.reply) (sym (ap (left_by m) it.taken))))
    (λ off. same_keeps m)

-- ---- a page that may not be transmitted any more

-- the page is confirmed, or its job has left, or it is transmitted with its report to be begun, or its report is begun
pub data Passed (first : World) (trace : List Event) (job page : ℕ) : Type 0 where
  Confirmed : (j : Job) → IsJob (queue_at first trace) job j → page ≤ length j.sent → Passed first trace job page
  Left : IsGone (queue_at first trace) job → Passed first trace job page
  Sent : (modem : List ℕ) → first.has modem ≡ true → window trace modem ≡ Some (record { job = job; page = page }) → Passed first trace job page
  Reporting : (modem : List ℕ) → first.has modem ≡ true → (n grant : ℕ) (h : Held) → (worker_at first trace modem).unanswered ≡ Some (record { number = n; ask = OnGrant grant (Page page) })
      → (worker_at first trace modem).held ≡ Some h → h.job ≡ job → Passed first trace job page

module _ (first : World) (earlier : List Event) (at : IsFirst first) (is : IsTrace first earlier) where
  abbrev m : Queue
  m = queue_at first earlier

  pub good : Sound m
  good = sound first earlier at is

  -- what a worker holds while nothing is unanswered
  pub agrees_of : (modem : List ℕ) (h : Held) → first.has modem ≡ true → (worker_at first earlier modem).unanswered ≡ None → (worker_at first earlier modem).held ≡ Some h → Agrees m modem h
  agrees_of modem h works none holds = (traces_agree first earlier at is).0 modem h works none holds

  -- a report of a page waits
  pub report_of : (modem : List ℕ) (n grant page : ℕ) → first.has modem ≡ true → (worker_at first earlier modem).unanswered ≡ Some (record { number = n; ask = OnGrant grant (Page page) })
      → ReportWaits first modem m (fed first.start earlier) (sent_answers first.start earlier (name first modem)) n grant (Page page) (worker_at first earlier modem).held
  report_of modem n grant page works waits =
      let i = stands first modem works earlier at is in
      subst (λ (o : Option Pending). Stands first modem m (fed first.start earlier) (sent_answers first.start earlier (name first modem)) o (worker_at first earlier modem).held) waits i.stands

  -- once it is accepted the page is confirmed
  arrived_confirmed : (modem : List ℕ) (n grant page : ℕ) (h : Held) → page ≡ next_page h → Arrived first modem m (fed first.start earlier) n (Page page) h → (j : Job) × IsJob m h.job j × (page ≡ length j.sent)
  arrived_confirmed modem n grant page h next arrived =
      let k : Held = record h { pages = h.pages + 1 } in
      let it = job_of m modem k good (arrived.agrees k refl) in
      (it.0, it.1, omega (arith, it.2, next))

  -- ---- transmission

  -- a page that may be transmitted isn't passed
  not_passed : (modem : List ℕ) (job page : ℕ) → MayTransmit first earlier modem job page → Passed first earlier job page → ⊥
  not_passed modem job page may passed =
      let a = agrees_of modem may.held may.works may.answered may.holds in
      let here = job_of m modem may.held good a in
      let there : IsJob m job here.0 = subst (λ (i : ℕ). IsJob m i here.0) may.of_job here.1 in
      by a here.0 there (sym may.next ∙ here.2) passed
    where
      by : Agrees m modem may.held → (j : Job) → IsJob m job j → page ≡ length j.sent + 1 → Passed first earlier job page → ⊥
      by a j there next (Confirmed k also sent) = let same = same_pages m job j k there also in omega (arith, next, sent, same)
      by a j there next (Left gone) = let none = gone.absent in cc (none, there)
      by a j there next (Sent other works win) =
          let it = (stands first other works earlier at is).in_window _ win in
          let b = agrees_of other it.held works it.answered it.holds in
          let same = one_modem m modem other may.held it.held good a b (may.of_job ∙ sym it.of_job) in
          let none : window earlier other ≡ None = subst (λ (x : List ℕ). window earlier x ≡ None) same may.reported in
          cc (none, win)
      by a j there next (Reporting other works n grant h waits holds of_job) =
          let it = report_of other n grant page works waits in
          let same_held : it.h ≡ h = (let both = sym it.holds ∙ holds in cc) in
          let its_job : it.h.job ≡ job = ap (λ (x : Held). x.job) same_held ∙ of_job in
          elim it.state [
            | inl waiting ↦
                let same = one_modem m modem other may.held it.h good a waiting.agrees (may.of_job ∙ sym its_job) in
                let none : (worker_at first earlier other).unanswered ≡ None = subst (λ (x : List ℕ). (worker_at first earlier x).unanswered ≡ None) same may.answered in
                cc (none, waits)
            | inr arrived ↦
                let c = arrived_confirmed other n grant page it.h it.fits.2 arrived in
                let same = same_pages m job j c.0 there (subst (λ (i : ℕ). IsJob m i c.0) its_job c.1) in
                omega (arith, same, c.2, next)
          ]

  -- ---- what is passed stays passed

  passed_handles : (s : Settings) (p : Post) (job page : ℕ) → Passed first earlier job page → Passed first (Handles s p ∷ earlier) job page
  passed_handles s p job page (Confirmed j there sent) =
      elim ((handles_keep first s p earlier good).sent job j there) [
        | inl more ↦
            let long = sent_before (queue_at first (Handles s p ∷ earlier)) job j.sent more.job (inl more) more.there in
            Confirmed more.job more.there (omega (arith, sent, long))
        | inr gone ↦ Left gone
      ]
  passed_handles s p job page (Left gone) = Left ((handles_keep first s p earlier good).gone job gone)
  passed_handles s p job page (Sent modem works win) = Sent modem works win
  passed_handles s p job page (Reporting modem works n grant h waits holds of_job) = Reporting modem works n grant h waits holds of_job

  -- a worker that begins a report of its page
  passed_begins : (modem : List ℕ) (n : ℕ) (ask : Ask) (job page : ℕ) → MayBegin first earlier modem n ask → Passed first earlier job page → Passed first (Begins modem n ask ∷ earlier) job page
  passed_begins modem n ask job page may (Confirmed j there sent) = Confirmed j there sent
  passed_begins modem n ask job page may (Left gone) = Left gone
  passed_begins modem n ask job page may (Sent other works win) = elim (cases_Bool (bytes_eq modem other)) [
    | inl on ↦
        let same = (bytes_decides modem other).0 on in
        let it = (stands first other works earlier at is).in_window _ win in
        let reports = subst (λ (o : Option PageOf). ReportsIt o ask) (ap (window earlier) same ∙ win) may.reports in
        Reporting other works n reports.0 it.held
        (ap (λ b. (cond b (with_request n ask (worker_at first earlier other)) (worker_at first earlier other)).unanswered) on ∙ ap (λ (a : Ask). Some (record { number = n; ask = a })) reports.1)
        (ap (λ b. (cond b (with_request n ask (worker_at first earlier other)) (worker_at first earlier other)).held) on ∙ it.holds)
        it.of_job
    | inr off ↦ Sent other works (ap (λ b. cond b None (window earlier other)) off ∙ win)
  ]
  passed_begins modem n ask job page may (Reporting other works k grant h waits holds of_job) = elim (cases_Bool (bytes_eq modem other)) [
    | inl on ↦
        let same = (bytes_decides modem other).0 on in
        let none : (worker_at first earlier other).unanswered ≡ None = subst (λ (x : List ℕ). (worker_at first earlier x).unanswered ≡ None) same may.begins.answered in
        absurd (cc (none, waits))
    | inr off ↦
        Reporting other works k grant h
        (ap (λ b. (cond b (with_request n ask (worker_at first earlier other)) (worker_at first earlier other)).unanswered) off ∙ waits)
        (ap (λ b. (cond b (with_request n ask (worker_at first earlier other)) (worker_at first earlier other)).held) off ∙ holds)
        of_job
  ]

  -- one that gets its answer
  passed_answered : (modem : List ℕ) (n : ℕ) (ask : Ask) (answer : Answer) (look : Look) (job page : ℕ) → MayAnswer first earlier modem n ask answer look → Passed first earlier job page
      → Passed first (Answered modem n ask answer look ∷ earlier) job page
  passed_answered modem n ask answer look job page may (Confirmed j there sent) = Confirmed j there sent
  passed_answered modem n ask answer look job page may (Left gone) = Left gone
  passed_answered modem n ask answer look job page may (Sent other works win) = elim (cases_Bool (bytes_eq modem other)) [
    | inl on ↦
        let same = (bytes_decides modem other).0 on in
        let it = (stands first other works earlier at is).in_window _ win in
        let waits : (worker_at first earlier other).unanswered ≡ Some (record { number = n; ask = ask }) = subst (λ (x : List ℕ). (worker_at first earlier x).unanswered ≡ Some (record { number = n; ask = ask })) same may.answered.unanswered in
        absurd (let none = it.answered in cc)
    | inr off ↦ Sent other works (ap (λ b. cond b None (window earlier other)) off ∙ win)
  ]
  passed_answered modem n ask answer look job page may (Reporting other works k grant h waits holds of_job) = elim (cases_Bool (bytes_eq modem other)) [
    | inl on ↦
        let same = (bytes_decides modem other).0 on in
        let its : (worker_at first earlier other).unanswered ≡ Some (record { number = n; ask = ask }) = subst (λ (x : List ℕ). (worker_at first earlier x).unanswered ≡ Some (record { number = n; ask = ask })) same may.answered.unanswered in
        let one : Path Pending (record { number = n; ask = ask }) (record { number = k; ask = OnGrant grant (Page page) }) = (let both = sym its ∙ waits in cc) in
        let sent : Has (record { number = n; ask = ask; answer = answer }) (sent_answers first.start earlier (name first other)) =
        subst (λ (x : List ℕ). Has (record { number = n; ask = ask; answer = answer }) (sent_answers first.start earlier (first.worker x).client)) same may.sent in
        let mine : Has (record { number = k; ask = OnGrant grant (Page page); answer = answer }) (sent_answers first.start earlier (name first other)) =
        subst (λ (x : Pending). Has (record { number = x.number; ask = x.ask; answer = answer }) (sent_answers first.start earlier (name first other))) one sent in
        let it = report_of other k grant page works waits in
        let same_held : it.h ≡ h = (let both = sym it.holds ∙ holds in cc) in
        elim it.state [
          | inl waiting ↦ absurd (waiting.silent answer mine)
          | inr arrived ↦
              let c = arrived_confirmed other k grant page it.h it.fits.2 arrived in
              Confirmed c.0 (subst (λ (i : ℕ). IsJob m i c.0) (ap (λ (x : Held). x.job) same_held ∙ of_job) c.1) (omega (arith, c.2))
        ]
    | inr off ↦
        Reporting other works k grant h
        (ap (λ b. (cond b (with_answer ask answer look (worker_at first earlier other)) (worker_at first earlier other)).unanswered) off ∙ waits)
        (ap (λ b. (cond b (with_answer ask answer look (worker_at first earlier other)) (worker_at first earlier other)).held) off ∙ holds)
        of_job
  ]

  -- one that transmits
  passed_transmits : (modem : List ℕ) (j p job page : ℕ) → MayTransmit first earlier modem j p → Passed first earlier job page → Passed first (Transmits modem j p ∷ earlier) job page
  passed_transmits modem j p job page may (Confirmed k there sent) = Confirmed k there sent
  passed_transmits modem j p job page may (Left gone) = Left gone
  passed_transmits modem j p job page may (Sent other works win) = elim (cases_Bool (bytes_eq modem other)) [
    | inl on ↦
        let same = (bytes_decides modem other).0 on in
        let none : window earlier other ≡ None = subst (λ (x : List ℕ). window earlier x ≡ None) same may.reported in
        absurd (cc (none, win))
    | inr off ↦ Sent other works (ap (λ b. cond b (Some (record { job = j; page = p })) (window earlier other)) off ∙ win)
  ]
  passed_transmits modem j p job page may (Reporting other works k grant h waits holds of_job) = Reporting other works k grant h waits holds of_job

  -- a driver that dies elsewhere
  passed_dies : (modem : List ℕ) (job page : ℕ) → is_page job page (window earlier modem) ≡ false → Passed first earlier job page → Passed first (Dies modem ∷ earlier) job page
  passed_dies modem job page off (Confirmed k there sent) = Confirmed k there sent
  passed_dies modem job page off (Left gone) = Left gone
  passed_dies modem job page off (Sent other works win) = elim (cases_Bool (bytes_eq modem other)) [
    | inl on ↦
        let same = (bytes_decides modem other).0 on in
        let it : is_page job page (window earlier modem) ≡ true = ap (is_page job page) (ap (window earlier) same ∙ win) ∙ and_from (eqb job job) (eqb page page) (eq-eqb job job refl) (eq-eqb page page refl) in
        absurd (true≢false (sym it ∙ off))
    | inr no_own ↦ Sent other works (ap (λ b. cond b None (window earlier other)) no_own ∙ win)
  ]
  passed_dies modem job page off (Reporting other works k grant h waits holds of_job) = Reporting other works k grant h waits holds of_job

-- ---- the bound

-- it was transmitted no more often than a driver died, or once more and it is passed
abbrev Bounded : World → List Event → ℕ → ℕ → Type 0
Bounded first trace job page = (transmitted job page trace ≤ deaths job page trace) ⊎ ((transmitted job page trace ≤ 1 + deaths job page trace) × Passed first trace job page)

bounded : (first : World) (trace : List Event) (job page : ℕ) → IsFirst first → IsTrace first trace → Bounded first trace job page
bounded first [] job page at is = inl (omega arith)
bounded first (Handles s p ∷ earlier) job page at (may, is) = elim (bounded first earlier job page at is) [
  | inl few ↦ inl few
  | inr (few, passed) ↦ inr (few, passed_handles first earlier at is s p job page passed)
]
bounded first (Begins modem n ask ∷ earlier) job page at (may, is) = elim (bounded first earlier job page at is) [
  | inl few ↦ inl few
  | inr (few, passed) ↦ inr (few, passed_begins first earlier at is modem n ask job page may passed)
]
bounded first (Answered modem n ask answer look ∷ earlier) job page at (may, is) = elim (bounded first earlier job page at is) [
  | inl few ↦ inl few
  | inr (few, passed) ↦ inr (few, passed_answered first earlier at is modem n ask answer look job page may passed)
]
bounded first (Transmits modem j p ∷ earlier) job page at (may, is) = by (eqb j job && eqb p page) refl (bounded first earlier job page at is)
  where
    by : (b : Bool) → (eqb j job && eqb p page) ≡ b → Bounded first earlier job page
        → (cond b 1 0 + transmitted job page earlier ≤ deaths job page earlier)
        ⊎ ((cond b 1 0 + transmitted job page earlier ≤ 1 + deaths job page earlier) × Passed first (Transmits modem j p ∷ earlier) job page)
    by true e (inl few) =
        let parts = and_parts (eqb j job) (eqb p page) e in
        let its_job = eqb-true j job parts.0 in
        let its_page = eqb-true p page parts.1 in
        let win : window (Transmits modem j p ∷ earlier) modem ≡ Some (record { job = job; page = page }) =
        ap (λ b. cond b (Some (record { job = j; page = p })) (window earlier modem)) ((bytes_decides modem modem).1 refl)
        ∙ ap (λ (x : ℕ). Some (record { job = x; page = p })) its_job ∙ ap (λ (x : ℕ). Some (record { job = job; page = x })) its_page in
        inr (omega (arith, few), Sent modem may.works win)
    by true e (inr (few, passed)) =
        let parts = and_parts (eqb j job) (eqb p page) e in
        let here = subst (λ (x : ℕ). MayTransmit first earlier modem x page) (eqb-true j job parts.0) (subst (λ (x : ℕ). MayTransmit first earlier modem j x) (eqb-true p page parts.1) may) in
        absurd (not_passed first earlier at is modem job page here passed)
    by false e (inl few) = inl (omega (arith, few))
    by false e (inr (few, passed)) = inr (omega (arith, few), passed_transmits first earlier at is modem j p job page may passed)
bounded first (Dies modem ∷ earlier) job page at (may, is) = by (is_page job page (window earlier modem)) refl (bounded first earlier job page at is)
  where
    by : (b : Bool) → is_page job page (window earlier modem) ≡ b → Bounded first earlier job page
        → (transmitted job page earlier ≤ cond b 1 0 + deaths job page earlier)
        ⊎ ((transmitted job page earlier ≤ 1 + (cond b 1 0 + deaths job page earlier)) × Passed first (Dies modem ∷ earlier) job page)
    by true e (inl few) = inl (omega (arith, few))
    by true e (inr (few, passed)) = inl (omega (arith, few))
    by false e (inl few) = inl (omega (arith, few))
    by false e (inr (few, passed)) = inr (omega (arith, few), passed_dies first earlier at is modem job page e passed)

pub once_at_the_receiver : OnceAtTheReceiver
once_at_the_receiver first trace at is job page = elim (bounded first trace job page at is) [
  | inl few ↦ omega (arith, few)
  | inr (few, passed) ↦ few
]

-- ---- each transmission

pub transmits_the_next : TransmitsTheNext
transmits_the_next first earlier modem job page at (may, is) =
    let m = queue_at first earlier in
    let a = agrees_of first earlier at is modem may.held may.works may.answered may.holds in
    let it = job_of m modem may.held (good first earlier at is) a in
    (it.0, subst (λ (i : ℕ). IsJob m i it.0) may.of_job it.1, sym may.next ∙ it.2)
