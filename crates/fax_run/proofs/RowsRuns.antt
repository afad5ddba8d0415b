-- Worked rows of whole runs: what is taken, answered and kept. Of what was heard the newest comes first.
use Rattle.std.proofs.Common.{inl, inr}
use Rattle.std.specs.Prelude.{◌≡◌, refl, ℕ, List, [], ◌∷◌, map, codes, false, Some}
use Rattle.fax_job.specs.JobLines.{job_lines}
use Rattle.fax_job.specs.Spelling.{printed}
use Rattle.fax_job.specs.declared.refusal.Refusal.{Refusal}
use Rattle.fax_job.specs.declared.refusal.Refusal.TheVariants.{FloorHigh, GivenUp, ModemBusy, NoJob, NoModem, NumberReused, Unavailable}
use Rattle.fax_ask.specs.Answer.{Replied, Shown}
use Rattle.fax_ask.specs.Response.{Response, accepted_response, refused_response}
use Rattle.fax_ask.specs.declared.view.View.TheVariants.{Job}
use Rattle.fax_core.specs.Ageing.{aged}
use Rattle.fax_core.specs.declared.ask.Ask.{Ask}
use Rattle.fax_core.specs.declared.ask.Ask.TheVariants.{GiveUp, Mark, Next, Submission}
use Rattle.fax_core.specs.Job.{fields_of}
use Rattle.fax_core.specs.Ledger.{empty_ledger}
use Rattle.fax_core.specs.Queue.{Entry, empty_queue}
use Rattle.fax_core.specs.Reply.{Floored, Given, HeldGrant, Marked, NoKeys, Reply, Submitted}
use Rattle.fax_core.specs.Settings.{Settings}
use Rattle.fax_core.proofs.RowWords.{◌at◌, hand, order, settings, ttyS0, ttyS1}
use Rattle.fax_run.specs.Reading.{IsReading, Posts, Reading, Sees}
use Rattle.fax_run.specs.Run.{IsRun, Start, end_of, reply_at, taken}
use Rattle.fax_run.specs.Verdict.{Verdict, Told, Repeated, Accepted, verdict}
use Rattle.fax_run.specs.declared.arrival.Arrival.{Arrival}

-- ---- words

-- an empty queue, of which nothing is kept
abbrev pub start : Start
start = record { queue = empty_queue; kept = empty_ledger }

-- a client asks for this under its number, in these bytes, at this moment
abbrev pub post : List ℕ → ℕ → List ℕ → ℕ → Ask → Reading
post client number said moment ask = Posts (record { client = client; number = number; said = said; request = ask at moment })

abbrev pub desk : List ℕ
desk = codes "desk"

abbrev pub lab : List ℕ
lab = codes "lab"

abbrev pub fax : Ask
fax = Submission (order (codes "5550111") 2)

-- the desk submits a fax
abbrev pub submitted : Reading
submitted = post desk 1 (codes "a fax") 1000 fax

-- what is answered to a reading behind these
abbrev answered : List Reading → Reading → Response
answered past r = reply_at settings start past r

-- what comes of it there
abbrev pub comes_to : List Reading → Reading → Verdict
comes_to past r = verdict settings (end_of settings start past).queue (end_of settings start past).kept r

-- an accepted request's reply
abbrev pub accepted : Reply → Response
accepted reply = accepted_response (Replied reply)

abbrev pub refused : Refusal → Response
refused refusal = refused_response refusal NoKeys

-- the clients and the numbers whose replies are kept behind these
abbrev kept_numbers : List Reading → List (List ℕ × ℕ)
kept_numbers past = map (λ e. (e.client, e.number)) (end_of settings start past).kept.replies

-- those of what is taken of these
abbrev taken_numbers : Start → List Reading → List (List ℕ × ℕ)
taken_numbers from past = map (λ f. (f.post.client, f.post.number)) (taken settings from past)

-- what was said, and the status of the reply
abbrev said_and_told : Entry → List ℕ × ℕ
said_and_told e = (e.said, e.status)

-- ---- one number, one reply

-- a submission makes a job
submitted_row : answered [] submitted ≡ accepted (Submitted 1)
submitted_row = refl

-- it is accepted, with the queue and the replies that it leaves
accepted_row : comes_to [] submitted ≡ Accepted (end_of settings start (submitted ∷ [])).queue (end_of settings start (submitted ∷ [])).kept (accepted (Submitted 1))
accepted_row = refl

-- its reply is kept, with what was said
kept_row : map said_and_told (end_of settings start (submitted ∷ [])).kept.replies ≡ (codes "a fax", 201) ∷ []
kept_row = refl

kept_number_row : kept_numbers (submitted ∷ []) ≡ (desk, 1) ∷ []
kept_number_row = refl

-- the same once more, at whatever moment, gets the same reply
repeat_row : answered (submitted ∷ []) (post desk 1 (codes "a fax") 9000 fax) ≡ accepted (Submitted 1)
repeat_row = refl

-- it is told as what it is
repeated_row : comes_to (submitted ∷ []) (post desk 1 (codes "a fax") 9000 fax) ≡ Repeated (accepted (Submitted 1))
repeated_row = refl

-- and it is not taken
repeat_untaken_row : taken_numbers start (post desk 1 (codes "a fax") 9000 fax ∷ submitted ∷ []) ≡ (desk, 1) ∷ []
repeat_untaken_row = refl

-- so the clock doesn't move by it
repeat_clock_row : (end_of settings start (post desk 1 (codes "a fax") 9000 fax ∷ submitted ∷ [])).queue.clock ≡ 1000
repeat_clock_row = refl

-- other bytes under the number are refused
reused_row : comes_to (submitted ∷ []) (post desk 1 (codes "another fax") 1000 fax) ≡ Told (refused NumberReused)
reused_row = refl

-- under another number, or of another client, they are a new job
another_number_row : answered (submitted ∷ []) (post desk 2 (codes "a fax") 1000 fax) ≡ accepted (Submitted 2)
another_number_row = refl

another_client_row : answered (submitted ∷ []) (post lab 1 (codes "a fax") 1000 fax) ≡ accepted (Submitted 2)
another_client_row = refl

-- what is asked is decided in the queue after what was taken before
next_row : answered (submitted ∷ []) (post lab 1 (codes "next") 1000 (Next ttyS0)) ≡ accepted (Given (hand 1 1 (codes "5550111") 1 2))
next_row = refl

-- ---- what is refused

abbrev pub unknown_modem : Reading
unknown_modem = post lab 1 (codes "next") 3000 (Next (codes "ttyS9"))

-- what is refused leaves its number free, and the clock where it was
refused_row : comes_to (submitted ∷ []) unknown_modem ≡ Told (refused NoModem)
refused_row = refl

refused_untaken_row : kept_numbers (unknown_modem ∷ submitted ∷ []) ≡ (desk, 1) ∷ []
refused_untaken_row = refl

refused_clock_row : (end_of settings start (unknown_modem ∷ submitted ∷ [])).queue.clock ≡ 1000
refused_clock_row = refl

refused_then_taken_row : answered (unknown_modem ∷ []) (post lab 1 (codes "ready") 1000 (Mark ttyS1 false)) ≡ accepted (Marked false)
refused_then_taken_row = refl

-- the desk's fax goes to a modem
abbrev pub worker : Reading
worker = post lab 1 (codes "next") 2000 (Next ttyS0)

-- a refusal has its keys
busy_row : answered (worker ∷ submitted ∷ []) (post lab 2 (codes "next") 2000 (Next ttyS0)) ≡ refused_response ModemBusy (HeldGrant false (hand 1 1 (codes "5550111") 1 2))
busy_row = refl

busy_untaken_row : taken_numbers start (post lab 2 (codes "next") 2000 (Next ttyS0) ∷ worker ∷ submitted ∷ []) ≡ (lab, 1) ∷ (desk, 1) ∷ []
busy_untaken_row = refl

-- ---- replies that are given up

-- the desk gives up its replies through this number
abbrev gives_up : ℕ → ℕ → Reading
gives_up number upto = post desk number (codes "floor") 1500 (GiveUp upto)

floor_row : answered (submitted ∷ []) (gives_up 5 3) ≡ accepted (Floored 3)
floor_row = refl

-- they go, and the reply by which they do is kept
floor_kept_row : kept_numbers (gives_up 5 3 ∷ submitted ∷ []) ≡ (desk, 5) ∷ []
floor_kept_row = refl

-- the replies of others stay
floor_others_row : kept_numbers (gives_up 5 3 ∷ post lab 1 (codes "a fax") 1000 fax ∷ submitted ∷ []) ≡ (lab, 1) ∷ (desk, 5) ∷ []
floor_others_row = refl

-- a number through the floor is refused, whether or not it was used
given_up_row : answered (gives_up 5 3 ∷ submitted ∷ []) submitted ≡ refused GivenUp
given_up_row = refl

unused_given_up_row : answered (gives_up 5 3 ∷ submitted ∷ []) (post desk 3 (codes "a fax") 1500 fax) ≡ refused GivenUp
unused_given_up_row = refl

-- one above it isn't, and nor is one of another client
above_floor_row : answered (gives_up 5 3 ∷ submitted ∷ []) (post desk 4 (codes "a fax") 1500 fax) ≡ accepted (Submitted 2)
above_floor_row = refl

others_above_floor_row : answered (gives_up 5 3 ∷ submitted ∷ []) (post lab 1 (codes "a fax") 1500 fax) ≡ accepted (Submitted 2)
others_above_floor_row = refl

-- a floor never falls
lower_floor_row : answered (gives_up 5 3 ∷ submitted ∷ []) (gives_up 6 2) ≡ accepted (Floored 3)
lower_floor_row = refl

lower_floor_kept_row : (end_of settings start (gives_up 6 2 ∷ gives_up 5 3 ∷ [])).kept.floor desk ≡ 3
lower_floor_kept_row = refl

lower_floor_repeat_row : answered (gives_up 6 2 ∷ gives_up 5 3 ∷ []) (gives_up 6 2) ≡ accepted (Floored 3)
lower_floor_repeat_row = refl

-- nothing through it is taken, also where it stood as the run began
floor_untaken_row : taken_numbers start (post desk 3 (codes "a fax") 1500 fax ∷ gives_up 7 7 ∷ gives_up 6 2 ∷ gives_up 5 3 ∷ []) ≡ (desk, 6) ∷ (desk, 5) ∷ []
floor_untaken_row = refl

first_floor_row : taken_numbers (end_of settings start (gives_up 5 3 ∷ [])) (post desk 3 (codes "a fax") 1500 fax ∷ []) ≡ []
first_floor_row = refl

-- nobody gives up the reply to the very request by which it does
floor_high_row : answered (submitted ∷ []) (gives_up 7 7) ≡ refused FloorHigh
floor_high_row = refl

-- but the one before it
floor_below_row : answered (submitted ∷ []) (gives_up 7 6) ≡ accepted (Floored 6)
floor_below_row = refl

-- ---- views

-- a fax that isn't to be sent before 1400, and is given up at 1500
abbrev timed : Reading
timed = post desk 1 (codes "a fax") 1000 (Submission (record (order (codes "5550111") 2) { tts = Some 1400; killtime = Some 1500 }))

abbrev pub looks : ℕ → Reading
looks moment = Sees moment (Job 1)

-- the job with the number of this state, as the queue has it at t behind these
abbrev shown_with : List Reading → ℕ → ℕ → List Response
shown_with past t number = map (λ j. accepted_response (Shown (printed (job_lines (fields_of j) number)))) (aged t (end_of settings start past).queue).jobs

-- a job is shown as it is at the moment of the view
view_row : answered (timed ∷ []) (looks 1399) ∷ [] ≡ shown_with (timed ∷ []) 1399 2
view_row = refl

later_view_row : answered (timed ∷ []) (looks 1400) ∷ [] ≡ shown_with (timed ∷ []) 1400 5
later_view_row = refl

last_view_row : answered (timed ∷ []) (looks 1500) ∷ [] ≡ shown_with (timed ∷ []) 1500 8
last_view_row = refl

-- or at the clock, where that is later
early_view_row : answered (post lab 1 (codes "ready") 1450 (Mark ttyS1 false) ∷ timed ∷ []) (looks 1000) ∷ [] ≡ shown_with (timed ∷ []) 1450 5
early_view_row = refl

-- a view is told, and no job is
unseen_row : comes_to [] (looks 1000) ≡ Told (refused NoJob)
unseen_row = refl

-- a view takes nothing, and moves no clock
view_clock_row : (end_of settings start (looks 1500 ∷ timed ∷ [])).queue.clock ≡ 1000
view_clock_row = refl

-- ---- what is heard

-- an arrival that is answered 27 isn't heard
unheard_row : (s : Settings) (from : Start) (a : Arrival) → IsRun s from [] (a ∷ []) (refused Unavailable ∷ []) []
unheard_row s from a = inl (refl, refl)

-- and each has an answer
unanswered_row : (s : Settings) (from : Start) (a : Arrival) → ¬ IsRun s from [] (a ∷ []) [] []
unanswered_row s from a run = run

-- of no arrivals nothing is heard, and none is answered
nothing_heard_row : (s : Settings) (from : Start) (heard : List Reading) → IsRun s from [] [] [] heard → heard ≡ []
nothing_heard_row s from heard run = run

nothing_answered_row : (s : Settings) (from : Start) (heard : List Reading) (reply : Response) → ¬ IsRun s from [] [] (reply ∷ []) heard
nothing_answered_row s from heard reply run = run

-- each other one is heard as what it says, and answered by what was heard before it
heard_row : (a b c : Arrival) → IsReading a submitted → IsReading c worker
    → IsRun settings start [] (a ∷ b ∷ c ∷ []) (accepted (Submitted 1) ∷ refused Unavailable ∷ accepted (Given (hand 1 1 (codes "5550111") 1 2)) ∷ []) (worker ∷ submitted ∷ [])
heard_row a b c says_fax says_next = inr (submitted, says_fax, refl, inl (refl, inr (worker, says_next, refl, refl)))
