-- Worked rows of traces: the worker of ttyS0 and its queue. The newest event comes first.
use Rattle.std.proofs.Common.{◌≤◌, arith, inl, ap, sym, subst, ◌∙◌, true≢false}
use Rattle.std.specs.Prelude.{◌≡◌, ◌+◌, refl, ℕ, true, false, List, [], ◌∷◌, map, codes, Option, Some, None}
use Rattle.std.specs.Str.{bytes_eq}
use Rattle.std.specs.Cmp.Lexicographic.{bytes_decides}
use Rattle.fax_job.specs.declared.import.Import.{Import}
use Rattle.fax_job.specs.declared.job.Call.TheVariants.{Connected}
use Rattle.fax_job.specs.declared.job.Phase.{Phase}
use Rattle.fax_job.specs.declared.job.Phase.TheVariants as phase
use Rattle.fax_job.specs.declared.refusal.Refusal.TheVariants.{GivenUp, ModemBusy, ModemDown}
use Rattle.fax_core.specs.Ask.{IsLawfulAsk}
use Rattle.fax_core.specs.declared.ask.Ask.{Ask}
use Rattle.fax_core.specs.declared.ask.Ask.TheVariants.{Bring, GiveUp, Mark, Next, OnGrant, Submission}
use Rattle.fax_core.specs.declared.report.Ending.TheVariants.{Done}
use Rattle.fax_core.specs.declared.report.Report.{Report}
use Rattle.fax_core.specs.declared.report.Report.TheVariants.{Call, Outcome, Page}
use Rattle.fax_core.specs.declared.grants.Grant.{Grant}
use Rattle.fax_core.specs.Queue.{Queue, grant_numbered}
use Rattle.fax_core.specs.Sound.{IsOpen}
use Rattle.fax_core.specs.Reply.{Called, Confirmed, Floored, Given, HeldGrant, NoKeys, Reply, Stands}
use Rattle.fax_core.specs.Run.{Answer, Replied, Denied}
use Rattle.fax_core.proofs.StepLemmas.{empty_sound}
use Rattle.fax_core.proofs.RowWords.{◌at◌, hand, order, report, settings, ttyS0}
use Rattle.fax_run.proofs.RowsRuns.{desk, start}
use Rattle.fax_run.specs.Reading.{Post}
use Rattle.fax_run.specs.Run.{end_after, under}
use Rattle.fax_worker.specs.Trace.{Answered, Begins, Dies, Event, Handles, Has, IsFirst, IsTrace, MayHandle, ReportsIt, Shows, Transmits, World, answer_to, begun, fed, queue_at, sent_answers, window, worker_at}
use Rattle.fax_worker.specs.Transmitted.{AreUndisturbed, deaths, pages_after, pages_of, sent_before, transmitted}
use Rattle.fax_worker.specs.Worker as worker
use Rattle.fax_worker.specs.Worker.{Action, AsksForWork, Held, Look, ReportsCall, ReportsOutcome, ReportsPage, Worker, with_request}

-- ---- words

-- a worker with a new journal
abbrev new : List ℕ → Worker
new modem = record { client = modem; last = 0; unanswered = None; held = None }

-- an empty queue, and one modem with a worker
abbrev pub world : World
world = record { start = start; has = λ modem. bytes_eq modem ttyS0; worker = new; says = λ ask. codes "said" }

abbrev nothing_seen : Look
nothing_seen = record { call = None; pages = 0 }

-- a request of the worker, as it is sent
abbrev post : ℕ → Ask → ℕ → Post
post number ask moment = record { client = ttyS0; number = number; said = codes "said"; request = ask at moment }

abbrev sends : ℕ → Ask → ℕ → Event
sends number ask moment = Handles settings (post number ask moment)

-- a request of an office
abbrev pub asks : ℕ → Ask → ℕ → Event
asks number ask moment = Handles settings (record { client = desk; number = number; said = codes "desk"; request = ask at moment })

-- a request that begins, is handled and answered
abbrev pub exchange : ℕ → Ask → ℕ → Answer → List Event → List Event
exchange number ask moment answer earlier = Answered ttyS0 number ask answer nothing_seen ∷ sends number ask moment ∷ Begins ttyS0 number ask ∷ earlier

-- a fax of three pages is submitted
abbrev pub submitted : List Event
submitted = asks 1 (Submission (order (codes "5550111") 3)) 1000 ∷ []

abbrev fax : Reply
fax = Given (hand 1 1 (codes "5550111") 1 3)

-- the answers that the worker was sent
abbrev answers : List Event → List Answer
answers trace = map (λ t. t.answer) (sent_answers start trace ttyS0)

abbrev phases : List Event → List Phase
phases trace = map (λ j. j.phase) (queue_at world trace).jobs

-- its grant, with the call connected and so many pages reported
abbrev holds : ℕ → Held
holds pages = record { grant = 1; job = 1; dial = codes "5550111"; first_page = 1; last_page = 3; call = Some Connected; pages = pages }

-- ---- three pages

abbrev called : List Event
called = exchange 2 (OnGrant 1 (Call Connected)) 1015 (Replied (Called false)) (exchange 1 (Next ttyS0) 1000 (Replied fax) submitted)

abbrev one_sent : List Event
one_sent = exchange 3 (OnGrant 1 (Page 1)) 1245 (Replied (Confirmed 1 false)) (Transmits ttyS0 1 1 ∷ called)

abbrev two_sent : List Event
two_sent = exchange 4 (OnGrant 1 (Page 2)) 1260 (Replied (Confirmed 2 false)) (Transmits ttyS0 1 2 ∷ one_sent)

abbrev all_sent : List Event
all_sent = exchange 5 (OnGrant 1 (Page 3)) 1275 (Replied (Confirmed 3 false)) (Transmits ttyS0 1 3 ∷ two_sent)

abbrev pub done : List Event
done = exchange 6 (OnGrant 1 (Outcome (report true Done 3 []))) 1280 (Replied (Stands 1 7)) all_sent

-- in between it holds the grant
one_sent_row : worker_at world one_sent ttyS0 ≡ record { client = ttyS0; last = 3; unanswered = None; held = Some (holds 1) }
one_sent_row = refl

-- at the end it holds none
done_row : worker_at world done ttyS0 ≡ record { client = ttyS0; last = 6; unanswered = None; held = None }
done_row = refl

-- these are the queue's own answers
answers_row : answers done ≡
    Replied (Stands 1 7) ∷ Replied (Confirmed 3 false) ∷ Replied (Confirmed 2 false) ∷ Replied (Confirmed 1 false)
    ∷ Replied (Called false) ∷ Replied fax ∷ []
answers_row = refl

-- and the job is done
phases_row : phases done ≡ phase.Done ∷ []
phases_row = refl

-- ---- such events may come

-- what it has begun may come under its name
may_send : (earlier : List Event) (number : ℕ) (ask : Ask) (moment : ℕ) → IsLawfulAsk ask → Has (record { number = number; ask = ask }) (begun earlier ttyS0) → MayHandle world earlier (post number ask moment)
may_send earlier number ask moment valid has = record {
  valid = valid;
  own = λ modem works its. (subst (λ (m : List ℕ). Has (record { number = number; ask = ask }) (begun earlier m)) its has, refl);
  alone = λ n g r e is_open works. sym ((bytes_decides g.modem ttyS0).0 works);
}

-- so may what another client asks for and is no report
may_ask : (earlier : List Event) (number : ℕ) (ask : Ask) (moment : ℕ) → IsLawfulAsk ask → ((n : ℕ) (r : Report) → ask ≡ OnGrant n r → ⊥)
    → MayHandle world earlier (record { client = desk; number = number; said = codes "desk"; request = ask at moment })
may_ask earlier number ask moment valid none = record {
  valid = valid;
  own = λ modem works its. absurd (true≢false (sym ((bytes_decides desk ttyS0).1 (its ∙ (bytes_decides modem ttyS0).0 works))));
  alone = λ n g r e is_open works. absurd (none n r e);
}

-- the queue is sound, and the worker new
first_row : IsFirst world
first_row = record {
  sound = empty_sound;
  calls = λ n g is none. cc is;
  workers = λ modem works. record { answered = refl; holds = refl; unused = λ n more. refl; floor = omega arith };
}

-- an exchange goes on from a trace, where the worker may begin the request and this is the queue's answer
goes_on : (number : ℕ) (ask : Ask) (moment : ℕ) (answer : Answer) (earlier : List Event) (action : Action) → IsLawfulAsk ask
    → worker.Begins ttyS0 (worker_at world earlier ttyS0) action number ask (with_request number ask (worker_at world earlier ttyS0)) → ReportsIt (window earlier ttyS0) ask
    → answer_to start (fed start earlier) (under settings (post number ask moment)) ≡ answer → Shows (queue_at world (sends number ask moment ∷ earlier)) answer nothing_seen → IsTrace world earlier
    → IsTrace world (exchange number ask moment answer earlier)
goes_on number ask moment answer earlier action valid begins reports is shows trace = (
  record {
    works = refl;
    answered = record { unanswered = refl; becomes = refl };
    sent = inl (ap (λ (a : Answer). record { number = number; ask = ask; answer = a }) is);
    looked = shows;
  },
  (may_send (Begins ttyS0 number ask ∷ earlier) number ask moment valid (inl refl), (record { works = refl; action = action; begins = begins; reports = reports }, trace)),
)

-- what begins under the next number
starts : {last : ℕ} {held : Option Held} {action : Action} {ask : Ask} → worker.IsRequest ttyS0 last action held ask
    → worker.Begins ttyS0 (record { client = ttyS0; last = last; unanswered = None; held = held }) action (last + 1) ask
    (with_request (last + 1) ask (record { client = ttyS0; last = last; unanswered = None; held = held }))
starts request = record { answered = refl; new = omega arith; request = request; becomes = refl }

submitted_is : IsTrace world submitted
submitted_is = (may_ask [] 1 (Submission (order (codes "5550111") 3)) 1000 (record { pages = omega arith; tries = omega arith; dials = omega arith }) (λ n r e. cc e), tt)

called_is : IsTrace world called
called_is =
    goes_on 2 (OnGrant 1 (Call Connected)) 1015 (Replied (Called false)) (exchange 1 (Next ttyS0) 1000 (Replied fax) submitted) (ReportsCall Connected) tt (starts (refl, refl)) tt refl tt
    (goes_on 1 (Next ttyS0) 1000 (Replied fax) submitted AsksForWork tt (starts refl) tt refl tt submitted_is)

-- a page of the fax is transmitted
sends_page : (pages : ℕ) (earlier : List Event) → (worker_at world earlier ttyS0).unanswered ≡ None → (worker_at world earlier ttyS0).held ≡ Some (holds pages)
    → pages + 1 ≤ 3 → window earlier ttyS0 ≡ None → IsTrace world earlier → IsTrace world (Transmits ttyS0 1 (pages + 1) ∷ earlier)
sends_page pages earlier none held left before is =
    (record { works = refl; answered = none; held = holds pages; holds = held; connected = refl; of_job = refl; next = omega arith; left = left; reported = before }, is)

one_sent_is : IsTrace world one_sent
one_sent_is = goes_on 3 (OnGrant 1 (Page 1)) 1245 (Replied (Confirmed 1 false)) (Transmits ttyS0 1 1 ∷ called) ReportsPage tt (starts (refl, (omega arith), refl)) (1, refl) refl tt
    (sends_page 0 called refl refl (omega arith) refl called_is)

two_sent_is : IsTrace world two_sent
two_sent_is = goes_on 4 (OnGrant 1 (Page 2)) 1260 (Replied (Confirmed 2 false)) (Transmits ttyS0 1 2 ∷ one_sent) ReportsPage tt (starts (refl, (omega arith), refl)) (1, refl) refl tt
    (sends_page 1 one_sent refl refl (omega arith) refl one_sent_is)

all_sent_is : IsTrace world all_sent
all_sent_is = goes_on 5 (OnGrant 1 (Page 3)) 1275 (Replied (Confirmed 3 false)) (Transmits ttyS0 1 3 ∷ two_sent) ReportsPage tt (starts (refl, (omega arith), refl)) (1, refl) refl tt
    (sends_page 2 two_sent refl refl (omega arith) refl two_sent_is)

done_is : IsTrace world done
done_is = goes_on 6 (OnGrant 1 (Outcome (report true Done 3 []))) 1280 (Replied (Stands 1 7)) all_sent (ReportsOutcome Done []) tt (starts ((λ e. omega arith), refl)) tt refl tt all_sent_is

-- each page is transmitted once
each_once_row : transmitted 1 1 done ∷ transmitted 1 2 done ∷ transmitted 1 3 done ∷ [] ≡ 1 ∷ 1 ∷ 1 ∷ []
each_once_row = refl

-- in order
pages_row : pages_of 1 done ≡ 1 ∷ 2 ∷ 3 ∷ []
pages_row = refl

-- these are the pages that the law states
pages_stated_row : pages_after (sent_before world (fed start done) 1) 3 ≡ 1 ∷ 2 ∷ 3 ∷ []
pages_stated_row = refl

-- the only grant is that of the worker's modem
worker_reports : (m : Queue) (its : Grant) → grant_numbered 1 m ≡ Some its → bytes_eq its.modem ttyS0 ≡ true
    → (k n page : ℕ) (g : Grant) → OnGrant 1 (Page k) ≡ OnGrant n (Page page) → IsOpen m n g → bytes_eq g.modem ttyS0 ≡ true
worker_reports m its there works k n page g e is =
    let number : n ≡ 1 = cc in
    let found : grant_numbered 1 m ≡ Some g = subst (λ (i : ℕ). grant_numbered i m ≡ Some g) number is.0 in
    let same : its ≡ g = cc (there, found) in
    subst (λ (x : Grant). bytes_eq x.modem ttyS0 ≡ true) same works

-- an exchange disturbs nothing where its request reports no page
calm : (number : ℕ) (ask : Ask) (moment : ℕ) (answer : Answer) (earlier : List Event) → ((n page : ℕ) → ask ≡ OnGrant n (Page page) → ⊥) → ((i : Import) → ask ≡ Bring i → ⊥)
    → AreUndisturbed world earlier → AreUndisturbed world (exchange number ask moment answer earlier)
calm number ask moment answer earlier plain none rest =
    (tt, (((λ n page g e is. absurd (plain n page e)), (λ i e. absurd (none i e))), ((λ n page e. absurd (plain n page e)), rest)))

-- nor where it reports the page that was transmitted
calm_page : (number k moment : ℕ) (answer : Answer) (earlier : List Event) (its : Grant) → grant_numbered 1 (queue_at world earlier) ≡ Some its → bytes_eq its.modem ttyS0 ≡ true
    → AreUndisturbed world earlier → AreUndisturbed world (exchange number (OnGrant 1 (Page k)) moment answer (Transmits ttyS0 1 k ∷ earlier))
calm_page number k moment answer earlier its there works rest =
    (tt, ((worker_reports (queue_at world earlier) its there works k, (λ i e. cc e)), ((λ n page e. (record { job = 1; page = k }, refl)), (tt, rest))))

-- so nothing disturbs this trace
undisturbed_row : AreUndisturbed world done
undisturbed_row =
    calm 6 (OnGrant 1 (Outcome (report true Done 3 []))) 1280 (Replied (Stands 1 7)) all_sent (λ n page e. cc e) (λ i e. cc e)
    (calm_page 5 3 1275 (Replied (Confirmed 3 false)) two_sent _ refl refl
    (calm_page 4 2 1260 (Replied (Confirmed 2 false)) one_sent _ refl refl
    (calm_page 3 1 1245 (Replied (Confirmed 1 false)) called _ refl refl
    (calm 2 (OnGrant 1 (Call Connected)) 1015 (Replied (Called false)) (exchange 1 (Next ttyS0) 1000 (Replied fax) submitted) (λ n page e. cc e) (λ i e. cc e)
    (calm 1 (Next ttyS0) 1000 (Replied fax) submitted (λ n page e. cc e) (λ i e. cc e)
    (((λ n page g e is. cc e), (λ i e. cc e)), tt))))))

-- ---- a lost reply

-- the reply to `next` is lost, and the same request comes again
abbrev lost : List Event
lost = Answered ttyS0 1 (Next ttyS0) (Replied fax) nothing_seen ∷ sends 1 (Next ttyS0) 1005 ∷ sends 1 (Next ttyS0) 1000 ∷ Begins ttyS0 1 (Next ttyS0) ∷ submitted

-- both have the same answer
lost_answers_row : answers lost ≡ Replied fax ∷ Replied fax ∷ []
lost_answers_row = refl

-- and there is one grant
lost_grants_row : map (λ g. g.number) (queue_at world lost).grants ≡ 1 ∷ []
lost_grants_row = refl

lost_row : worker_at world lost ttyS0 ≡ worker_at world (exchange 1 (Next ttyS0) 1000 (Replied fax) submitted) ttyS0
lost_row = refl

lost_is : IsTrace world lost
lost_is = (
  record { works = refl; answered = record { unanswered = refl; becomes = refl }; sent = inl refl; looked = tt },
  (
    may_send (sends 1 (Next ttyS0) 1000 ∷ Begins ttyS0 1 (Next ttyS0) ∷ submitted) 1 (Next ttyS0) 1005 tt (inl refl),
    (
      may_send (Begins ttyS0 1 (Next ttyS0) ∷ submitted) 1 (Next ttyS0) 1000 tt (inl refl),
      (record { works = refl; action = AsksForWork; begins = starts refl; reports = tt }, submitted_is),
    ),
  ),
)

-- ---- a driver dies

-- before the report of the page that it transmitted: the page is the next one still, and is transmitted again
abbrev pub died_before : List Event
died_before = Transmits ttyS0 1 1 ∷ Dies ttyS0 ∷ Transmits ttyS0 1 1 ∷ called

died_before_row : worker_at world died_before ttyS0 ≡ worker_at world called ttyS0
died_before_row = refl

died_before_is : IsTrace world died_before
died_before_is =
    sends_page 0 (Dies ttyS0 ∷ Transmits ttyS0 1 1 ∷ called) refl refl (omega arith) refl
    (tt, sends_page 0 called refl refl (omega arith) refl called_is)

-- so it was transmitted twice, and a driver died for it
twice_for_a_death_row : transmitted 1 1 died_before ∷ deaths 1 1 died_before ∷ [] ≡ 2 ∷ 1 ∷ []
twice_for_a_death_row = refl

-- a death between a transmission and its report does
disturbed_row : AreUndisturbed world died_before → ⊥
disturbed_row u = cc (u.1.0)

-- while it lives it doesn't transmit the page again
twice_row : IsTrace world (Transmits ttyS0 1 1 ∷ Transmits ttyS0 1 1 ∷ called) → ⊥
twice_row (may, is) = cc (may.reported)

-- after its report was begun: the request is sent again, and the next page is page 2
abbrev pub died_after : List Event
died_after = Answered ttyS0 3 (OnGrant 1 (Page 1)) (Replied (Confirmed 1 false)) nothing_seen ∷ sends 3 (OnGrant 1 (Page 1)) 1300 ∷ Dies ttyS0 ∷ Begins ttyS0 3 (OnGrant 1 (Page 1)) ∷ Transmits ttyS0 1 1 ∷ called

died_after_row : worker_at world died_after ttyS0 ≡ worker_at world one_sent ttyS0
died_after_row = refl

died_after_is : IsTrace world died_after
died_after_is = (
  record { works = refl; answered = record { unanswered = refl; becomes = refl }; sent = inl refl; looked = tt },
  (
    may_send (Dies ttyS0 ∷ Begins ttyS0 3 (OnGrant 1 (Page 1)) ∷ Transmits ttyS0 1 1 ∷ called) 3 (OnGrant 1 (Page 1)) 1300 tt (inl refl),
    (
      tt,
      (
        record { works = refl; action = ReportsPage; begins = starts (refl, (omega arith), refl); reports = (1, refl) },
        sends_page 0 called refl refl (omega arith) refl called_is,
      ),
    ),
  ),
)

-- so it was transmitted once, and this death doesn't count
once_after_row : transmitted 1 1 died_after ∷ deaths 1 1 died_after ∷ [] ≡ 1 ∷ 0 ∷ []
once_after_row = refl

-- ---- a copy of `next` that was refused, and comes again later

abbrev late : List Event
late =
    exchange 2 (Next ttyS0) 1200 (Denied ModemBusy (HeldGrant false (hand 1 1 (codes "5550111") 1 3)))
    (sends 1 (Next ttyS0) 1100 ∷ asks 3 (Mark ttyS0 false) 1050
    ∷ exchange 1 (Next ttyS0) 1010 (Denied ModemDown NoKeys) (asks 2 (Mark ttyS0 true) 1005 ∷ submitted))

-- the copy is granted
late_answers_row : answers late ≡ Denied ModemBusy (HeldGrant false (hand 1 1 (codes "5550111") 1 3)) ∷ Replied fax ∷ Denied ModemDown NoKeys ∷ []
late_answers_row = refl

-- and the worker finds its grant when it asks for work again
late_row : worker_at world late ttyS0 ≡ record { client = ttyS0; last = 2; unanswered = None; held = Some (record (holds 0) { call = None }) }
late_row = refl

-- all this may come
refused : List Event
refused = exchange 1 (Next ttyS0) 1010 (Denied ModemDown NoKeys) (asks 2 (Mark ttyS0 true) 1005 ∷ submitted)

refused_is : IsTrace world refused
unfolding refused
refused_is =
    goes_on 1 (Next ttyS0) 1010 (Denied ModemDown NoKeys) (asks 2 (Mark ttyS0 true) 1005 ∷ submitted) AsksForWork tt (starts refl) tt refl tt
    (may_ask submitted 2 (Mark ttyS0 true) 1005 tt (λ n r e. cc e), submitted_is)

late_is : IsTrace world late
unfolding refused
late_is =
    goes_on 2 (Next ttyS0) 1200 (Denied ModemBusy (HeldGrant false (hand 1 1 (codes "5550111") 1 3))) (sends 1 (Next ttyS0) 1100 ∷ asks 3 (Mark ttyS0 false) 1050 ∷ refused) AsksForWork tt (starts refl) tt refl tt
    (may_send (asks 3 (Mark ttyS0 false) 1050 ∷ refused) 1 (Next ttyS0) 1100 tt (inl refl), (may_ask refused 3 (Mark ttyS0 false) 1050 tt (λ n r e. cc e), refused_is))

-- ---- a journal that was lost

-- another journal begins where a page was sent, with numbers above all that were used
abbrev without_journal : World
without_journal = record world { start = end_after start (fed start one_sent); worker = λ modem. record (new modem) { last = 100 } }

abbrev found : List Event
found = Answered ttyS0 101 (Next ttyS0) (Denied ModemBusy (HeldGrant true (hand 1 1 (codes "5550111") 1 3))) (record { call = Some Connected; pages = 1 })
    ∷ sends 101 (Next ttyS0) 1300 ∷ Begins ttyS0 101 (Next ttyS0) ∷ []

found_answers_row : map (λ t. t.answer) (sent_answers without_journal.start found ttyS0) ≡ Denied ModemBusy (HeldGrant true (hand 1 1 (codes "5550111") 1 3)) ∷ []
found_answers_row = refl

-- the worker holds the grant as it was
found_row : (worker_at without_journal found ttyS0).held ≡ (worker_at world one_sent ttyS0).held
found_row = refl

found_is : IsTrace without_journal found
found_is = (
  record { works = refl; answered = record { unanswered = refl; becomes = refl }; sent = inl refl; looked = (_, refl, refl) },
  (
    record {
      valid = tt;
      own = λ modem works its. (subst (λ (m : List ℕ). Has (record { number = 101; ask = Next ttyS0 }) (begun (Begins ttyS0 101 (Next ttyS0) ∷ []) m)) its (inl refl), refl);
      alone = λ n g r e is_open works. cc e;
    },
    (record { works = refl; action = AsksForWork; begins = record { answered = refl; new = omega arith; request = refl; becomes = refl }; reports = tt }, tt),
  ),
)

-- ---- numbers that are given up

abbrev given_up : List Event
given_up = sends 1 (Next ttyS0) 1300 ∷ exchange 7 (GiveUp 6) 1290 (Replied (Floored 6)) done

-- a copy of an old request is refused
given_up_row : answer_to start (fed start (exchange 7 (GiveUp 6) 1290 (Replied (Floored 6)) done)) (under settings (post 1 (Next ttyS0) 1300)) ≡ Denied GivenUp NoKeys
given_up_row = refl
