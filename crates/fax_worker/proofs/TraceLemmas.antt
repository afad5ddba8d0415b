-- What holds of each worker after each trace.
use Rattle.std.proofs.Common.{◌≡◌, ◌≢◌, inl, ℕ, Bool, true, false, cond, List, [], ◌∷◌, Option, Some, None, refl, sym, ap, subst, ◌∙◌}
use Rattle.std.specs.Str.{bytes_eq}
use Rattle.std.specs.Cmp.Lexicographic.{bytes_decides}
use Rattle.std.proofs.lemmas.Bool.{true≢false}
use Rattle.fax_core.specs.declared.ask.Ask.{Ask}
use Rattle.fax_core.specs.declared.ask.Ask.TheVariants.{OnGrant}
use Rattle.fax_core.specs.declared.report.Report.{Report}
use Rattle.fax_core.specs.Clock.{decided_at}
use Rattle.fax_core.specs.Queue.{Queue}
use Rattle.fax_core.specs.Reply.{Reply, Refused, Step, Taken}
use Rattle.fax_core.specs.Run.{Answer, Replied, left_by}
use Rattle.fax_core.specs.Settings.{Settings}
use Rattle.fax_core.specs.Sound.{Sound}
use Rattle.fax_run.specs.Laws.{AreAccepted, AreTaken}
use Rattle.fax_run.specs.Reading.{Post, Posts}
use Rattle.fax_run.specs.Run.{Fed, is_taken, queue_after, step_of, under}
use Rattle.fax_run.proofs.FedLemmas.{accepted_more, are_taken}
use Rattle.fax_run.proofs.OnceLemmas.{sound_after}
use Rattle.fax_worker.proofs.HandleLemmas.{other_taken, own_taken, own_untaken, stays_by}
use Rattle.fax_worker.proofs.QueueLemmas.{calls_first}
use Rattle.fax_worker.proofs.StandLemmas.{Inv, ReportWaits, Stands, answers, begins, dies, name, taken_parts, transmits}
use Rattle.fax_worker.specs.Laws.{NumbersAreUsedOnce, ReportsWillBeAccepted, TracesAgree}
use Rattle.fax_worker.specs.Trace.{Answered, Begins, CallsComeFirst, Dies, Event, Handles, Has, IsFirst, IsTrace, MayHandle, SentAnswer, Transmits, World, answer_to, begun, fed, queue_at, sent_answers, window, worker_at}
use Rattle.fax_worker.specs.Worker as worker
use Rattle.fax_worker.specs.Worker.{Held, Pending, Worker, with_answer, with_request}

-- ---- the queue

-- what the queue accepted is accepted as in a run
pub accepted : (first : World) (trace : List Event) → IsTrace first trace → AreAccepted first.start (fed first.start trace)
accepted first [] is = tt
accepted first (Handles s p ∷ earlier) (may, is) = accepted_more s first.start (fed first.start earlier) (Posts p) may.valid (accepted first earlier is)
accepted first (Begins modem n ask ∷ earlier) (may, is) = accepted first earlier is
accepted first (Answered modem n ask answer look ∷ earlier) (may, is) = accepted first earlier is
accepted first (Transmits modem job page ∷ earlier) (may, is) = accepted first earlier is
accepted first (Dies modem ∷ earlier) (may, is) = accepted first earlier is

-- so the machine accepted it, and the queue is sound
pub taken_all : (first : World) (trace : List Event) → IsTrace first trace → AreTaken first.start.queue (fed first.start trace)
taken_all first trace is = are_taken first.start (fed first.start trace) (accepted first trace is)

pub sound : (first : World) (trace : List Event) → IsFirst first → IsTrace first trace → Sound (queue_at first trace)
sound first trace begins is = sound_after first.start.queue (fed first.start trace) begins.sound (taken_all first trace is)

-- calls come first in what a step leaves
calls_left : (m : Queue) (x : Step) → ((n : Queue) (r : Reply) → x ≡ Taken n r → CallsComeFirst n) → CallsComeFirst m → CallsComeFirst (left_by m x)
calls_left m (Taken n r) taken h = taken n r refl
calls_left m (Refused e k) taken h = h

-- so they do after all accepted requests
calls_after : (first : World) (fs : List Fed) → IsFirst first → AreTaken first.start.queue fs → CallsComeFirst (queue_after first.start.queue fs)
calls_after first [] at are = at.calls
calls_after first (f ∷ fs) at (valid, on, are) =
    let m = queue_after first.start.queue fs in
    let before = calls_after first fs at are in
    calls_left m (step_of m f)
    (λ n r e. calls_first f.settings m n (decided_at m.clock f.post.request.moment) f.post.request.ask r (sound_after first.start.queue fs at.sound are) e before) before

-- ---- one worker

-- what holds of both holds
pub at_both : (P : Bool → Type 0) (b : Bool) → (b ≡ true → P true) → (b ≡ false → P false) → P b
at_both P true on off = on refl
at_both P false on off = off refl

module _ (first : World) (modem : List ℕ) (works : first.has modem ≡ true) where
  -- what holds of the worker after these events
  abbrev pub Holds : List Event → Type 0
  Holds trace = Inv first modem (worker_at first trace modem) (fed first.start trace) (begun trace modem) (sent_answers first.start trace (name first modem)) (window trace modem)

  -- a request that the queue handles keeps it
  handled : (s : Settings) (p : Post) (earlier : List Event) → IsFirst first → IsTrace first earlier → MayHandle first earlier p → Holds earlier → Holds (Handles s p ∷ earlier)
  handled s p earlier at is may i =
      let fs = fed first.start earlier in
      let f = under s p in
      let bs = begun earlier modem in
      let ts = sent_answers first.start earlier (name first modem) in
      let w = worker_at first earlier modem in
      let win = window earlier modem in
      let answer : SentAnswer = record { number = p.number; ask = p.request.ask; answer = answer_to first.start fs f } in
      let m = queue_after first.start.queue fs in
      let good = sound first earlier at is in
      let calls = calls_after first fs at (taken_all first earlier is) in
      at_both (λ b. Inv first modem w (cond b (f ∷ fs) fs) bs (cond (bytes_eq p.client (name first modem)) (answer ∷ ts) ts) win) (is_taken first.start fs f)
      (λ on.
      let it = taken_parts first.start fs f on in
      at_both (λ c. Inv first modem w (f ∷ fs) bs (cond c (answer ∷ ts) ts) win) (bytes_eq p.client (name first modem))
      (λ mine.
      let its = (bytes_decides p.client (name first modem)).0 mine in
      let own = may.own modem works its in
      own_taken first modem w fs bs ts win i f its own.0 own.1 it good calls)
      (λ off.
      let other : p.client ≢ name first modem = λ q. true≢false (sym ((bytes_decides p.client (name first modem)).1 q) ∙ off) in
      other_taken first modem w fs bs ts win i f other
      (stays_by modem m f it.after it.reply good it.taken
      (λ a g x is_open of_modem e.
      let its = may.alone a g x e is_open (ap first.has of_modem ∙ works) in
      other (its ∙ ap (λ (z : List ℕ). (first.worker z).client) of_modem)))))
      (λ untaken.
      at_both (λ c. Inv first modem w fs bs (cond c (answer ∷ ts) ts) win) (bytes_eq p.client (name first modem))
      (λ mine.
      let its = (bytes_decides p.client (name first modem)).0 mine in
      let own = may.own modem works its in
      own_untaken first modem w fs bs ts win i f its own.0 own.1 untaken good calls)
      (λ off. i))

  -- at the beginning it holds
  at_first : IsFirst first → Holds []
  at_first at =
      let new = at.workers modem works in
      record {
        low = λ p has. absurd has;
        once = λ p q has. absurd has;
        waits = λ p e. absurd (let none = new.answered in cc);
        gives = λ p u has. absurd has;
        own = λ f has. absurd has;
        unused = new.unused;
        free = λ p e. absurd (let none = new.answered in cc);
        floor = new.floor;
        above = λ p e. absurd (let none = new.answered in cc);
        sent_low = λ t has. absurd has;
        settled = λ p grant x has. absurd has;
        stands = subst (λ (o : Option Pending). Stands first modem first.start.queue [] [] o (first.worker modem).held) (sym new.answered) (λ h e. absurd (let none = new.holds in cc));
        in_window = λ p e. absurd (cc e);
      }

  -- and after each trace
  pub stands : (trace : List Event) → IsFirst first → IsTrace first trace → Holds trace
  stands [] at is = at_first at
  stands (Handles s p ∷ earlier) at (may, is) = handled s p earlier at is may (stands earlier at is)
  stands (Begins m n ask ∷ earlier) at (may, is) =
      let i = stands earlier at is in
      let w = worker_at first earlier modem in
      let fs = fed first.start earlier in
      let bs = begun earlier modem in
      let ts = sent_answers first.start earlier (name first modem) in
      at_both (λ b. Inv first modem (cond b (with_request n ask w) w) fs (cond b (record { number = n; ask = ask } ∷ bs) bs) ts (cond b None (window earlier modem))) (bytes_eq m modem)
      (λ on.
      let same = (bytes_decides m modem).0 on in
      begins first modem w fs bs ts (window earlier modem) i may.action n ask
      (subst (λ (z : List ℕ). worker.Begins z (worker_at first earlier z) may.action n ask (with_request n ask (worker_at first earlier z))) same may.begins))
      (λ off. i)
  stands (Answered m n ask answer look ∷ earlier) at (may, is) =
      let i = stands earlier at is in
      let w = worker_at first earlier modem in
      let fs = fed first.start earlier in
      let bs = begun earlier modem in
      let ts = sent_answers first.start earlier (name first modem) in
      at_both (λ b. Inv first modem (cond b (with_answer ask answer look w) w) fs bs ts (cond b None (window earlier modem))) (bytes_eq m modem)
      (λ on.
      let same = (bytes_decides m modem).0 on in
      answers first modem w fs bs ts (window earlier modem) i n ask answer look
      (subst (λ (z : List ℕ). (worker_at first earlier z).unanswered ≡ Some (record { number = n; ask = ask })) same may.answered.unanswered)
      (subst (λ (z : List ℕ). Has (record { number = n; ask = ask; answer = answer }) (sent_answers first.start earlier (first.worker z).client)) same may.sent)
      may.looked)
      (λ off. i)
  stands (Transmits m job page ∷ earlier) at (may, is) =
      let i = stands earlier at is in
      let w = worker_at first earlier modem in
      let fs = fed first.start earlier in
      let bs = begun earlier modem in
      let ts = sent_answers first.start earlier (name first modem) in
      at_both (λ b. Inv first modem w fs bs ts (cond b (Some (record { job = job; page = page })) (window earlier modem))) (bytes_eq m modem)
      (λ on.
      let same = (bytes_decides m modem).0 on in
      transmits first modem w fs bs ts (window earlier modem) i (record { job = job; page = page }) (record {
        answered = subst (λ (z : List ℕ). (worker_at first earlier z).unanswered ≡ None) same may.answered;
        held = may.held;
        holds = subst (λ (z : List ℕ). (worker_at first earlier z).held ≡ Some may.held) same may.holds;
        connected = may.connected;
        of_job = may.of_job;
        next = may.next;
        left = may.left;
      }))
      (λ off. i)
  stands (Dies m ∷ earlier) at (may, is) =
      let i = stands earlier at is in
      let w = worker_at first earlier modem in
      let fs = fed first.start earlier in
      let bs = begun earlier modem in
      let ts = sent_answers first.start earlier (name first modem) in
      at_both (λ b. Inv first modem w fs bs ts (cond b None (window earlier modem))) (bytes_eq m modem)
      (λ on. dies first modem w fs bs ts (window earlier modem) i)
      (λ off. i)

-- ---- agreement

pub traces_agree : TracesAgree
traces_agree first trace at is = (
  λ modem h works none holds.
      let i = stands first modem works trace at is in
      subst (λ (o : Option Pending). Stands first modem (queue_at first trace) (fed first.start trace) (sent_answers first.start trace (name first modem)) o (worker_at first trace modem).held) none i.stands h holds,
  λ modem n grant x answer works waits sent.
      let i = stands first modem works trace at is in
      let it : ReportWaits first modem (queue_at first trace) (fed first.start trace) (sent_answers first.start trace (name first modem)) n grant x (worker_at first trace modem).held =
      subst (λ (o : Option Pending). Stands first modem (queue_at first trace) (fed first.start trace) (sent_answers first.start trace (name first modem)) o (worker_at first trace modem).held) waits i.stands in
      it.accepted answer (inl sent),
)

-- ---- a report that reaches the queue

module _ (first : World) (trace : List Event) (at : IsFirst first) (is : IsTrace first trace) (modem : List ℕ) (works : first.has modem ≡ true) (s : Settings) (p : Post) where
  abbrev fs : List Fed
  fs = fed first.start trace

  abbrev f : Fed
  f = under s p

  abbrev w : Worker
  w = worker_at first trace modem

  abbrev sent : Answer
  sent = answer_to first.start fs f

  -- what waits after it was handled has accepted answers
  accepted_by : (gs : List Fed) (n grant : ℕ) (r : Report) → w.unanswered ≡ Some (record { number = n; ask = OnGrant grant r }) → p.number ≡ n → p.request.ask ≡ OnGrant grant r
      → Inv first modem w gs (begun trace modem) (record { number = p.number; ask = p.request.ask; answer = sent } ∷ sent_answers first.start trace (name first modem)) (window trace modem)
      → (reply : Reply) × (sent ≡ Replied reply)
  accepted_by gs n grant r waits number asks i =
      let us = sent_answers first.start trace (name first modem) in
      let now : SentAnswer = record { number = p.number; ask = p.request.ask; answer = sent } in
      let it : ReportWaits first modem (queue_after first.start.queue gs) gs (now ∷ us) n grant r w.held =
      subst (λ (o : Option Pending). Stands first modem (queue_after first.start.queue gs) gs (now ∷ us) o w.held) waits i.stands in
      let same : now ≡ record { number = n; ask = OnGrant grant r; answer = sent } =
      ap (λ (x : ℕ). record { number = x; ask = p.request.ask; answer = sent }) number ∙ ap (λ (x : Ask). record { number = n; ask = x; answer = sent }) asks in
      it.accepted sent (inl (inl same))

pub reports_will_be_accepted : ReportsWillBeAccepted
reports_will_be_accepted first trace at is modem request grant r s p works waits asks sent =
    let i = stands first modem works trace at is in
    let fs = fed first.start trace in
    let f = under s p in
    let w = worker_at first trace modem in
    let bs = begun trace modem in
    let ts = sent_answers first.start trace (name first modem) in
    let win = window trace modem in
    let good = sound first trace at is in
    let calls = calls_after first fs at (taken_all first trace is) in
    let known : w.unanswered ≡ Some (record { number = request.number; ask = OnGrant grant r }) = waits ∙ ap (λ (a : Ask). Some (record { number = request.number; ask = a })) asks in
    let same : request ≡ record { number = p.number; ask = p.request.ask } =
    ap (λ (n : ℕ). record { number = n; ask = request.ask }) (sym sent.number) ∙ ap (λ (a : Ask). record { number = p.number; ask = a }) (sym sent.ask) in
    let has : Has (record { number = p.number; ask = p.request.ask }) bs = subst (λ (q : Pending). Has q bs) same (i.waits request waits).0 in
    let says = sent.said ∙ ap first.says (sym sent.ask) in
    at_both (λ b. (reply : Reply) × (answer_to first.start fs f ≡ Replied reply)) (is_taken first.start fs f)
    (λ on.
    accepted_by first trace at is modem works s p (f ∷ fs) request.number grant r known sent.number (sent.ask ∙ asks)
    (own_taken first modem w fs bs ts win i f sent.client has says (taken_parts first.start fs f on) good calls))
    (λ off.
    accepted_by first trace at is modem works s p fs request.number grant r known sent.number (sent.ask ∙ asks)
    (own_untaken first modem w fs bs ts win i f sent.client has says off good calls))

pub numbers_are_used_once : NumbersAreUsedOnce
numbers_are_used_once first trace at is modem p q works a b number =
    let i = stands first modem works trace at is in
    ap (λ (n : ℕ). record { number = n; ask = p.ask }) number ∙ ap (λ (x : Ask). record { number = q.number; ask = x }) (i.once p q a b number)
