-- Messages that are answered one after the other are a session.
use Rattle.std.proofs.Common.{◌≡◌, inl, inr, ℕ, List, [], ◌∷◌, map, refl, sym, ap, ◌∙◌}
use Rattle.fax_job.specs.declared.refusal.Refusal.TheVariants.{Unavailable}
use Rattle.fax_ask.specs.Response.{refused_response}
use Rattle.fax_core.specs.Reply.{NoKeys}
use Rattle.fax_core.specs.Settings.{Settings}
use Rattle.fax_http.specs.Conversation.{Turn}
use Rattle.fax_run.specs.Laws.{left_of}
use Rattle.fax_run.specs.Reading.{Reading, IsReading}
use Rattle.fax_run.specs.Run.{IsRun, Start, end_of}
use Rattle.fax_run.specs.Verdict.{Verdict, reply_of, verdict}
use Rattle.fax_run.specs.declared.arrival.Arrival.{Arrival}
use Rattle.fax_run.proofs.RunLemmas.{runs_thread}
use Rattle.fax_desk.specs.Desk.{Arrive, IsArrival, replies_of, said_in}
use Rattle.fax_desk.specs.Turns.{AreArrivals, AreTurns, TurnsAreASession}

module _ {C : Type 0} (gives : C → List ℕ → ℕ → C → Type 0) (s : Settings) (first : Start) where
  -- what was heard of messages that go on behind a past, and where it leads
  record GoesOn (past : List Reading) (clock : C) (turns : List Turn) (end : Start) : Type 0 where
    arrivals : List Arrival
    are : AreArrivals gives clock turns arrivals
    heard : List Reading
    answered : IsRun s first past arrivals (map (λ (turn : Turn). turn.reply) turns) heard
    leads : end ≡ end_of s first heard

  -- where a verdict leads, what was heard leads with its reading
  leads_on : (past : List Reading) (here next : Start) (v : Verdict) (r : Reading) → here ≡ end_of s first past → v ≡ verdict s here.queue here.kept r → next ≡ left_of here v
      → next ≡ end_of s first (r ∷ past)
  leads_on past here next v r at is leads = leads ∙ ap (left_of here) is ∙ ap (λ (e : Start). left_of e (verdict s e.queue e.kept r)) at ∙ sym (runs_thread s first past r)

  -- one more message in front was heard, and answered by its verdict
  heard_first : (past : List Reading) (clock later : C) (turn : Turn) (turns : List Turn) (here end : Start) (moment : ℕ) (a : Arrival) (v : Verdict) (r : Reading)
      → gives clock (said_in turn) moment later → IsArrival turn.head turn.body moment a → IsReading a r → v ≡ verdict s here.queue here.kept r → turn.reply ≡ reply_of v → here ≡ end_of s first past
      → GoesOn (r ∷ past) later turns end → GoesOn past clock (turn ∷ turns) end
  heard_first past clock later turn turns here end moment a v r given comes reads is told at rest = record {
    arrivals = a ∷ rest.arrivals;
    are = (rest.are.0, (moment, later, given, comes, rest.are.1));
    heard = rest.heard;
    answered = inr (r, reads, told ∙ ap reply_of is ∙ ap (λ (e : Start). reply_of (verdict s e.queue e.kept r)) at, rest.answered);
    leads = rest.leads;
  }

  -- or it was answered 27, and not heard
  lost_first : (past : List Reading) (clock later : C) (turn : Turn) (turns : List Turn) (end : Start) (moment : ℕ) (a : Arrival)
      → gives clock (said_in turn) moment later → IsArrival turn.head turn.body moment a → turn.reply ≡ refused_response Unavailable NoKeys → GoesOn past later turns end → GoesOn past clock (turn ∷ turns) end
  lost_first past clock later turn turns end moment a given comes gone rest = record {
    arrivals = a ∷ rest.arrivals;
    are = (rest.are.0, (moment, later, given, comes, rest.are.1));
    heard = rest.heard;
    answered = inl (gone, rest.answered);
    leads = rest.leads;
  }

  -- messages that are answered behind a past go on so
  goes_on : (past : List Reading) (clock : C) (turns : List Turn) (here end : Start) → here ≡ end_of s first past → AreTurns gives s here clock turns end → GoesOn past clock turns end
  goes_on past clock [] here end at is = record { arrivals = []; are = (clock, refl); heard = past; answered = refl; leads = is ∙ at }
  goes_on past clock (turn ∷ turns) here end at (next, later, it, behind) = elim it.answered [
    | inl by ↦
        heard_first past clock later turn turns here end it.moment it.arrival by.0 by.1.0 it.given it.comes by.1.1 by.1.2 by.2 at
        (goes_on (by.1.0 ∷ past) later turns next end (leads_on past here next by.0 by.1.0 at by.1.2 by.3) behind)
    | inr lost ↦ lost_first past clock later turn turns end it.moment it.arrival it.given it.comes lost.0 (goes_on past later turns next end (lost.1 ∙ at) behind)
  ]

  -- ---- the other way about

  -- where the arrivals of messages are a run, the messages are answered one after the other
  pub run_turns : (past : List Reading) (clock later : C) (turns : List Turn) (arrivals : List Arrival) (heard : List Reading) → Arrive gives clock turns arrivals later
      → IsRun s first past arrivals (replies_of turns) heard → AreTurns gives s (end_of s first past) clock turns (end_of s first heard)
  run_turns past clock later [] [] heard is run = ap (end_of s first) run
  run_turns past clock later [] (a ∷ arrivals) heard none run = absurd none
  run_turns past clock later (turn ∷ turns) [] heard none run = absurd none
  run_turns past clock later (turn ∷ turns) (a ∷ arrivals) heard (moment, next, given, comes, more) (inl (lost, run)) = (
    end_of s first past,
    next,
    record { moment = moment; given = given; arrival = a; comes = comes; answered = inr (lost, refl) },
    run_turns past next later turns arrivals heard more run,
  )
  run_turns past clock later (turn ∷ turns) (a ∷ arrivals) heard (moment, next, given, comes, more) (inr (r, reads, told, run)) =
      let here = end_of s first past in (
        end_of s first (r ∷ past),
        next,
        record { moment = moment; given = given; arrival = a; comes = comes; answered = inl (verdict s here.queue here.kept r, (r, reads, refl), told, runs_thread s first past r) },
        run_turns (r ∷ past) next later turns arrivals heard more run,
      )

pub turns_are_a_session : {C : Type 0} (gives : C → List ℕ → ℕ → C → Type 0) → TurnsAreASession gives
turns_are_a_session gives s first end clock turns are =
    let it = goes_on gives s first [] clock turns first end refl are in
    (it.arrivals, it.are, record { heard = it.heard; answered = it.answered; leaves = it.leads })
