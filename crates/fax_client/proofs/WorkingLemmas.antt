-- What a worker's command does.
use Rattle.std.proofs.Common.{◌≡◌, ◌⊎◌, inl, inr, ℕ, Bool, true, false, List, [], ◌∷◌, Option, Some, None, Ok, Err, Result, IfOk, MatchResult, is_some, unwrap_or, refl, ap, ap₂, subst, sym, true≢false, ◌∙◌}
use Rattle.sqlite_trees.specs.declared.store.Store.{Ghosts}
use Rattle.fax_core.specs.declared.ask.Ask.{Ask}
use Rattle.fax_core.specs.declared.report.Ending.{Ending}
use Rattle.fax_core.specs.Run.{Answer}
use Rattle.fax_job.specs.declared.job.Call.{Call}
use Rattle.fax_journal.specs.Calls.{shown}
use Rattle.fax_journal.specs.Journal.{Answers}
use Rattle.fax_journal.specs.declared.journal.Journal.{Journal}
use Rattle.fax_worker.specs.Acting.{HasBegun}
use Rattle.fax_worker.specs.Worker.{AsksForWork, Held, IsAnswered, IsRequest, Look, Pending, ReportsCall, ReportsOutcome, ReportsPage, Worker}
use Rattle.fax_worker.specs.declared.worker.Action.{Action}
use Rattle.fax_worker.specs.declared.worker.Action.TheVariants as act
use Rattle.fax_client.specs.Course.{AreAmong, Does, Events, Follows, IsAt, IsBefore, IsSaved, Start}
use Rattle.fax_client.specs.Line.{Carrying, Pausing}
use Rattle.fax_client.specs.Saved.{HasWorker, IsBetween}
use Rattle.fax_client.specs.Step.{Asks, IsOwn, action_of, is_next, is_show}
use Rattle.fax_client.specs.Working.{Begins, Concludes, Ends, GetsAnswer, GivesUp, GivesUpRefused, IsAnswerIn, Move, Says, ShowsAnswer, ShowsGrant, concluded, shown_of, workers}
use Rattle.fax_client.specs.declared.shown.Shown.{Shown}
use Rattle.fax_client.specs.declared.shown.Shown.TheVariants as shows
use Rattle.fax_client.specs.declared.step.Step.{Step}
use Rattle.fax_client.specs.declared.step.Step.TheVariants as step
use Rattle.fax_client.specs.declared.stop.Stop.{Stop}
use Rattle.fax_client.specs.declared.working.Conclusion.{Conclusion}
use Rattle.fax_client.specs.declared.working.Conclusion.TheVariants as comes
use Rattle.fax_client.proofs.CourseLemmas.{did, failed, one_more}

-- ---- a move is saved, or not

module _ (r : Result Worker Stop) (next : Worker) (K B : Worker → Type 0) (same : IfOk r (λ w. w ≡ next)) (saves : MatchResult r (λ w. K next) (λ e. B next)) where
  pub moved : (P : Worker → Type 0) → P next → MatchResult r (λ w. P w × K w) (λ e. (after : Worker) × P after × B after)
  moved P p = by_result r same saves where
    by_result : (r : Result Worker Stop) → IfOk r (λ w. w ≡ next) → MatchResult r (λ w. K next) (λ e. B next) → MatchResult r (λ w. P w × K w) (λ e. (after : Worker) × P after × B after)
    by_result (Ok w) is k = subst (λ x. P x × K x) (sym is) (p, k)
    by_result (Err e) is b = (next, p, b)

  pub begun : (w : Worker) (action : Action) (number : ℕ) → HasBegun w action number next
      → MatchResult r (λ x. (n : ℕ) × HasBegun w action n x × K x) (λ e. (after : Worker) × ((after ≡ w) ⊎ ((n : ℕ) × HasBegun w action n after)) × B after)
  begun w action number h = by_result r same saves where
    by_result : (r : Result Worker Stop) → IfOk r (λ x. x ≡ next) → MatchResult r (λ x. K next) (λ e. B next)
        → MatchResult r (λ x. (n : ℕ) × HasBegun w action n x × K x) (λ e. (after : Worker) × ((after ≡ w) ⊎ ((n : ℕ) × HasBegun w action n after)) × B after)
    by_result (Ok x) is k = subst (λ y. (n : ℕ) × HasBegun w action n y × K y) (sym is) (number, h, k)
    by_result (Err e) is b = (next, inr (number, h), b)

-- ---- what is said

-- later events say it too
pub concludes_more : {J : Type 0} (u : Option Pending) (events later : Events J Move) (conclusion : Conclusion) → AreAmong events later → Concludes u events conclusion → Concludes u later conclusion
concludes_more None events later conclusion among is = is
concludes_more (Some p) events later conclusion among is = (is.0, is.1, among _ is.2, is.3)

-- the answer that was taken says it
pub concludes_taken : {J : Type 0} (u : Option Pending) (p : Pending) (events : Events J Move) (answer : Answer) (look : Look) (conclusion : Conclusion) → u ≡ Some p → conclusion ≡ concluded answer
    → Concludes u (Does (GetsAnswer p answer look) ∷ events) conclusion
concludes_taken u p events answer look conclusion un is = subst (λ v. Concludes v (Does (GetsAnswer p answer look) ∷ events) conclusion) (sym un) (answer, look, inl refl, is)

-- replies are given up after a refusal, also where they are given up anyway
pub after_any : {J : Type 0} (conclusion : Conclusion) (events : Events J Move) → GivesUp events → GivesUpRefused conclusion events
after_any comes.Nothing events gives = tt
after_any (comes.Goes stop) events gives = tt
after_any (comes.Ended job state) events gives = tt
after_any (comes.Refused refusal) events gives = gives

-- what only shows is anybody's
pub show_own : (s : Step) (client : List ℕ) → is_show s ≡ true → IsOwn s client
show_own (step.Next modem) client is = absurd (true≢false (sym is))
show_own (step.Call call) client is = tt
show_own step.Page client is = tt
show_own (step.End ending reason) client is = tt
show_own step.Show client is = tt

pub shows_answer : {J : Type 0} (s : Step) (events : Events J Move) (w : Worker) (result : Result Shown Stop) (u : Option Pending) (p : Pending) (conclusion : Conclusion) (next : Bool)
    → u ≡ Some p → Asks s p.ask → Concludes u events conclusion → GivesUpRefused conclusion events → next ≡ is_next s → result ≡ shown_of next w conclusion → ShowsAnswer s events w result
shows_answer s events w result u p conclusion next un asks concludes gives_up next_is result_is =
    let said = subst (λ v. Concludes v events conclusion) un concludes in
    record { request = p; asks = asks; answer = said.0; look = said.1; came = said.2; result_is = result_is ∙ ap₂ (λ n x. shown_of n w x) next_is said.3; gives_up = subst (λ x. GivesUpRefused x events) said.3 gives_up }

pub says : {J : Type 0} (s : Step) (events : Events J Move) (w : Worker) (result : Result Shown Stop) → is_show s ≡ false → ShowsAnswer s events w result ⊎ ShowsGrant s w result → Says s events w result
says (step.Next modem) events w result is either = either
says (step.Call call) events w result is either = either
says step.Page events w result is either = either
says (step.End ending reason) events w result is either = either
says step.Show events w result is either = absurd (true≢false is)

pub says_journal : (J : Type 0) (s : Step) (w : Worker) → is_show s ≡ true → Says {J = J} s [] w (Ok (shows.Journal w))
says_journal J (step.Next modem) w is = absurd (true≢false (sym is))
says_journal J (step.Call call) w is = absurd (true≢false (sym is))
says_journal J step.Page w is = absurd (true≢false (sym is))
says_journal J (step.End ending reason) w is = absurd (true≢false (sym is))
says_journal J step.Show w is = (refl, refl)

-- a step that asks is none that shows
pub asks_something : (s : Step) (ask : Ask) → Asks s ask → is_show s ≡ false
asks_something (step.Next modem) ask asks = refl
asks_something (step.Call call) ask asks = refl
asks_something step.Page ask asks = refl
asks_something (step.End ending reason) ask asks = refl
asks_something step.Show ask asks = absurd asks

-- ---- the request of a step

asks_next : (modem name : List ℕ) (last : ℕ) (held : Option Held) (ask : Ask) → IsRequest name last AsksForWork held ask → Asks (step.Next modem) ask
asks_next modem name last None ask is = subst (Asks (step.Next modem)) (sym is) tt
asks_next modem name last (Some h) ask is = absurd is

asks_call : (call : Call) (name : List ℕ) (last : ℕ) (held : Option Held) (ask : Ask) → IsRequest name last (ReportsCall call) held ask → Asks (step.Call call) ask
asks_call call name last None ask is = absurd is
asks_call call name last (Some h) ask is = subst (Asks (step.Call call)) (sym is.1) refl

asks_page : (name : List ℕ) (last : ℕ) (held : Option Held) (ask : Ask) → IsRequest name last ReportsPage held ask → Asks step.Page ask
asks_page name last None ask is = absurd is
asks_page name last (Some h) ask is = subst (Asks step.Page) (sym is.2) tt

asks_end : (ending : Ending) (reason : List ℕ) (name : List ℕ) (last : ℕ) (held : Option Held) (ask : Ask) → IsRequest name last (ReportsOutcome ending reason) held ask → Asks (step.End ending reason) ask
asks_end ending reason name last None ask is = absurd is
asks_end ending reason name last (Some h) ask is = subst (Asks (step.End ending reason)) (sym is.1) refl

-- the step's action
the_action : (a b : Action) → Some a ≡ Some b → b ≡ a
the_action a b is = sym (ap (λ o. unwrap_or o a) is)

pub begun_asks : (s : Step) (action : Action) (w after : Worker) (number : ℕ) → Some action ≡ action_of s → HasBegun w action number after → (p : Pending) × (after.unanswered ≡ Some p) × Asks s p.ask
begun_asks (step.Next modem) action w after number is h =
    let h' = subst (λ a. HasBegun w a number after) (sym (the_action action (act.AsksForWork modem) is)) h in
    let b = h'.begins modem refl in
    (record { number = number; ask = h'.ask }, ap (λ (x : Worker). x.unanswered) b.becomes, asks_next modem modem w.last w.held h'.ask b.request)
begun_asks (step.Call call) action w after number is h =
    let h' = subst (λ a. HasBegun w a number after) (sym (the_action action (act.ReportsCall call) is)) h in
    let b = h'.begins [] tt in
    (record { number = number; ask = h'.ask }, ap (λ (x : Worker). x.unanswered) b.becomes, asks_call call [] w.last w.held h'.ask b.request)
begun_asks step.Page action w after number is h =
    let h' = subst (λ a. HasBegun w a number after) (sym (the_action action act.ReportsPage is)) h in
    let b = h'.begins [] tt in
    (record { number = number; ask = h'.ask }, ap (λ (x : Worker). x.unanswered) b.becomes, asks_page [] w.last w.held h'.ask b.request)
begun_asks (step.End ending reason) action w after number is h =
    let h' = subst (λ a. HasBegun w a number after) (sym (the_action action (act.ReportsOutcome ending reason) is)) h in
    let b = h'.begins [] tt in
    (record { number = number; ask = h'.ask }, ap (λ (x : Worker). x.unanswered) b.becomes, asks_end ending reason [] w.last w.held h'.ask b.request)
begun_asks step.Show action w after number is h = absurd (true≢false (ap is_some is))

module _ {S L : Type 0} (g : Ghosts S) (carries : Carrying L (Journal S)) (pauses : Pausing L) (kept : Answers) (first : Start (Journal S) L Worker) where
  -- ---- an answer is taken

  pub took : (earlier events : Events (Journal S) Move) (line : L) (w after : Worker) (journal new : Journal S) (p : Pending) (answer : Answer) (look : Look)
      → Follows g carries pauses (workers kept) first earlier events line w journal → IsAnswerIn events w.client p answer → IsAnswered w p.number p.ask answer look after
      → IsSaved g carries pauses (workers kept) first after new → Follows g carries pauses (workers kept) first earlier (Does (GetsAnswer p answer look) ∷ events) line after new
  took earlier events line w after journal new p answer look follows came answered saved =
      (one_more earlier events (Does (GetsAnswer p answer look)) follows.0, did g carries pauses (workers kept) first events line w after journal new (GetsAnswer p answer look) follows.1 (record { came = came; answered = answered }) saved)

  pub not_taken : (earlier events : Events (Journal S) Move) (line : L) (w after : Worker) (journal new : Journal S) (p : Pending) (answer : Answer) (look : Look)
      → Follows g carries pauses (workers kept) first earlier events line w journal → IsAnswerIn events w.client p answer → IsAnswered w p.number p.ask answer look after
      → IsBetween (HasWorker kept w) (HasWorker kept after) (shown g first.journal) (shown g new) → IsBefore g carries pauses (workers kept) first line new
  not_taken earlier events line w after journal new p answer look follows came answered between =
      failed g carries pauses (workers kept) first events line w after journal new (GetsAnswer p answer look) follows.1 (record { came = came; answered = answered }) between

  -- ---- a request is begun

  pub began : (earlier events : Events (Journal S) Move) (line : L) (w after : Worker) (journal new : Journal S) (action : Action) (number : ℕ)
      → Follows g carries pauses (workers kept) first earlier events line w journal → HasBegun w action number after → IsSaved g carries pauses (workers kept) first after new
      → Follows g carries pauses (workers kept) first earlier (Does (Begins action number) ∷ events) line after new
  began earlier events line w after journal new action number follows begun saved =
      (one_more earlier events (Does (Begins action number)) follows.0, did g carries pauses (workers kept) first events line w after journal new (Begins action number) follows.1 begun saved)

  pub not_begun : (events : Events (Journal S) Move) (line : L) (w after : Worker) (journal new : Journal S) (action : Action)
      → IsAt g carries pauses (workers kept) first events line w journal → (after ≡ w) ⊎ ((number : ℕ) × HasBegun w action number after)
      → IsBetween (HasWorker kept w) (HasWorker kept after) (shown g first.journal) (shown g new) → IsBefore g carries pauses (workers kept) first line new
  not_begun events line w after journal new action at either between = record {
    events = events;
    client = w;
    leads = at.leads;
    next = after;
    step = elim either [
      | inl same ↦ inl same
      | inr begun ↦ inr (Does (Begins action begun.0), (w, begun.1, at.leads))
    ];
    saved = between;
  }

  -- ---- a command ends

  -- it follows from the first event
  pub ends_first : (s : Step) (earlier : Events (Journal S) Move) (line : L) (journal : Journal S) (result : Result Shown Stop)
      → Ends g carries pauses kept first s earlier line journal result → Ends g carries pauses kept first s [] line journal result
  ends_first s earlier line journal result ends = elim ends [
    | inl said ↦ inl (said.0, said.1, ((λ event h. absurd h), said.2.1), said.3)
    | inr stops ↦ inr stops
  ]
