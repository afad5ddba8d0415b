-- Messages that the queue answers, each by itself or some together, are a run, so they are a session.
use Rattle.std.proofs.Common.{◌∙◌, ℕ, List, [], ◌∷◌, ◌++◌, refl, subst, sym, inl, inr}
use Rattle.std.proofs.lemmas.List.{map-append}
use Rattle.std.specs.List.{flat_map}
use Rattle.sqlite_trees.specs.declared.store.Store.{Ghosts}
use Rattle.fax_ask.specs.Response.{Response}
use Rattle.fax_decide.specs.declared.office.Office.{Office}
use Rattle.fax_desk.specs.Conversing.{ServesFrom}
use Rattle.fax_desk.specs.Desk.{HasAnswered, replies_of}
use Rattle.fax_desk.specs.Replaying.{settings_in}
use Rattle.fax_desk.specs.declared.desk.Desk.{Desk}
use Rattle.fax_desk.proofs.ArriveLemmas.{arrive_joined}
use Rattle.fax_desk.proofs.TurnsLemmas.{run_turns}
use Rattle.fax_http.specs.Conversation.{Turn}
use Rattle.fax_http.specs.Serving.{Answers, AnswersInParts, AnswersPart, AnswersParts, Replying, replying}
use Rattle.fax_once.proofs.HandledLemmas.{run_sound, stops_at_first}
use Rattle.fax_once.proofs.JoinLemmas.{stops_joined}
use Rattle.fax_once.proofs.SessionsLemmas.{runs_as_session}
use Rattle.fax_once.specs.Queue.{tables}
use Rattle.fax_once.specs.Stop.{StopsIn}
use Rattle.fax_run.specs.Run.{Start, end_of}

-- ---- one after the other

module _ {C : Type 0} (gives : C → List ℕ → ℕ → C → Type 0) where
  module _ {S : Type 0} (g : Ghosts S) where
    -- no messages are answered
    none_answered : (desk : Desk C S) → HasAnswered gives g desk [] desk
    none_answered desk = record {
      office = refl;
      clean = λ now. now;
      shut = λ before. before;
      ran = λ m k sound means now. ([], refl, stops_at_first _ (record { queue = m; kept = k }) (tables g desk.queue) means);
    }

    -- more are answered after some
    more_answered : (old next new : Desk C S) (turns more : List Turn) → HasAnswered gives g old turns next → HasAnswered gives g next more new → HasAnswered gives g old (turns ++ more) new
    more_answered old next new turns more first second = record {
      office = second.office ∙ first.office;
      clean = λ now. first.clean (second.clean now);
      shut = λ before. second.shut (first.shut before);
      ran = λ m k sound means now.
          let s = settings_in old.queue.office in
          let start : Start = record { queue = m; kept = k } in
          let (arrivals, arrive, stops) = first.ran m k sound means (second.clean now) in
          let here = end_of s start stops.0.heard in
          let (others, arrive_on, stops_on) = second.ran here.queue here.kept (run_sound s start arrivals (replies_of turns) (tables g next.queue) sound stops.0) stops.0.means now in
          let on = subst (λ (o : Office). StopsIn (settings_in o) here others (replies_of more) (tables g next.queue) (tables g new.queue)) first.office stops_on in (
            arrivals ++ others,
            arrive_joined gives old.clock next.clock new.clock turns more arrivals others arrive arrive_on,
            subst (λ (rs : List Response). StopsIn s start (arrivals ++ others) rs (tables g old.queue) (tables g new.queue)) (sym (map-append _ turns more))
                (stops_joined s start arrivals others (replies_of turns) (replies_of more) (tables g old.queue) (tables g next.queue) (tables g new.queue) stops on),
          );
    }

    -- what may come of messages at a desk
    abbrev pub at_desk : Replying (Desk C S)
    at_desk = replying (λ old head body reply new. HasAnswered gives g old (record { head = head; body = body; reply = reply } ∷ []) new) (HasAnswered gives g)

    part_answered : (old : Desk C S) (part : List Turn) (new : Desk C S) → AnswersPart at_desk old part new → HasAnswered gives g old part new
    part_answered old part new (inl (turn, is, one)) = subst (λ turns. HasAnswered gives g old turns new) (sym is) one
    part_answered old part new (inr some) = some

    parts_answered : (old : Desk C S) (parts : List (List Turn)) (new : Desk C S) → AnswersParts at_desk old parts new → HasAnswered gives g old (flat_map (λ (part : List Turn). part) parts) new
    parts_answered old [] new is = subst (HasAnswered gives g old []) (sym is) (none_answered old)
    parts_answered old (part ∷ parts) new (next, here, later) =
        more_answered old next new part (flat_map (λ (p : List Turn). p) parts) (part_answered old part next here) (parts_answered next parts new later)

    -- messages that are answered in parts
    pub in_parts : (old : Desk C S) (turns : List Turn) (new : Desk C S) → AnswersInParts at_desk old turns new → HasAnswered gives g old turns new
    in_parts old turns new it = subst (λ ts. HasAnswered gives g old ts new) (sym it.are) (parts_answered old it.parts new it.answered)

    -- and each by itself
    pub one_by_one : (old : Desk C S) (turns : List Turn) (new : Desk C S) → Answers at_desk.one old turns new → HasAnswered gives g old turns new
    one_by_one old [] new is = subst (HasAnswered gives g old []) (sym is) (none_answered old)
    one_by_one old (turn ∷ turns) new (next, here, later) = more_answered old next new (turn ∷ []) turns here (one_by_one next turns new later)

    -- ---- a session

    -- so they are a session from whatever sound queue the store means
    pub serves_from : (old : Desk C S) (turns : List Turn) (new : Desk C S) → HasAnswered gives g old turns new
        → ServesFrom gives (settings_in old.queue.office) old.clock (tables g old.queue) turns (tables g new.queue)
    serves_from old turns new answered = record {
      clean = answered.clean;
      served = λ m k sound means now.
          let s = settings_in old.queue.office in
          let start : Start = record { queue = m; kept = k } in
          let (arrivals, arrive, stops) = answered.ran m k sound means now in
          let ran = stops.0 in
          record {
            arrivals = arrivals;
            are = (new.clock, arrive);
            session = record {
              left = end_of s start ran.heard;
              session = record { heard = ran.heard; answered = ran.answered; leaves = refl };
              means = ran.means;
              stopped = (runs_as_session s start arrivals (replies_of turns) (tables g old.queue) (tables g new.queue) stops).stopped;
            };
            answered = run_turns gives s start [] old.clock new.clock turns arrivals ran.heard arrive ran.answered;
            sound = run_sound s start arrivals (replies_of turns) (tables g new.queue) sound ran;
          };
    }
