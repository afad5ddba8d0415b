-- What a history answers.
use Rattle.std.proofs.Common.{◌≡◌, ℕ, Bool, false, List, [], ◌∷◌, ◌++◌, Option, inl, inr, refl, ap, append-nil, append_assoc, subst, sym, ◌∙◌}
use Rattle.std.specs.List.{filter_map, flat_map}
use Rattle.fax_http.specs.Device.{Put}
use Rattle.fax_http.specs.declared.device.Watched.{Watched}
use Rattle.fax_http.specs.Conversation.{Turn}
use Rattle.fax_http.specs.Serving.{AnswersInParts, AnswersPart, AnswersParts, Replying}
use Rattle.fax_net.specs.History.{Answered, AreAnswered, At, Came, Dry, Ended, Failed, Held, IsNeverOver, IsOverAtLast, Left, Looked, Missed, Refused, Said, Step, Together, Took, Waits, turns_of}
use Rattle.fax_net.specs.Listening.{HasListened, listening}
use Rattle.fax_net.specs.Many.{ServesMany}

-- what all parts have, and one more
flat_one_more : (parts : List (List Turn)) (part : List Turn) → flat_map (λ (p : List Turn). p) parts ++ part ≡ flat_map (λ (p : List Turn). p) (parts ++ part ∷ [])
flat_one_more [] part = sym (append-nil part)
flat_one_more (p ∷ parts) part = append_assoc p (flat_map (λ (q : List Turn). q) parts) part ∙ ap (λ (turns : List Turn). p ++ turns) (flat_one_more parts part)

-- one part more is answered behind the others
parts_one_more : {H : Type 0} (answers : Replying H) (old : H) (parts : List (List Turn)) (part : List Turn) (now next : H) → AnswersParts answers old parts now
    → AnswersPart answers now part next → AnswersParts answers old (parts ++ part ∷ []) next
parts_one_more answers old [] part now next e step = (next, subst (λ h. AnswersPart answers h part next) e step, refl)
parts_one_more answers old (p ∷ parts) part now next a step = (a.0, a.1, parts_one_more answers a.0 parts part now next a.2 step)

one_part_more : {H : Type 0} (answers : Replying H) (old : H) (turns part : List Turn) (now next : H) → AnswersInParts answers old turns now → AnswersPart answers now part next
    → AnswersInParts answers old (turns ++ part) next
one_part_more answers old turns part now next a step = record {
  parts = a.parts ++ part ∷ [];
  are = ap (λ (ts : List Turn). ts ++ part) a.are ∙ flat_one_more a.parts part;
  answered = parts_one_more answers old a.parts part now next a.answered step;
}

module _ {H : Type 0} (answers : Replying H) (over : H → Bool) (old : H) where
  -- the messages of a history were answered one after the other
  pub answers_of : (history : List Step) (new : H) → AreAnswered answers over old history new → AnswersInParts answers old (turns_of history) new
  answers_of [] new e = record { parts = []; are = refl; answered = e }
  answers_of (At place (Answered turn is_over) ∷ earlier) new (between, a, on, step, is) =
      one_part_more answers old (turns_of earlier) (turn ∷ []) between new (answers_of earlier between a) (inl (turn, refl, step))
  answers_of (Together turns is_over ∷ earlier) new (between, a, on, step, is) =
      one_part_more answers old (turns_of earlier) (filter_map (λ turn. turn) turns) between new (answers_of earlier between a) (inr step)
  answers_of (At place Came ∷ earlier) new a = answers_of earlier new a
  answers_of (At place (Said bytes) ∷ earlier) new a = answers_of earlier new a
  answers_of (At place Dry ∷ earlier) new a = answers_of earlier new a
  answers_of (At place Ended ∷ earlier) new a = answers_of earlier new a
  answers_of (At place (Took bytes) ∷ earlier) new a = answers_of earlier new a
  answers_of (At place Waits ∷ earlier) new a = answers_of earlier new a
  answers_of (At place Failed ∷ earlier) new a = answers_of earlier new a
  answers_of (At place Left ∷ earlier) new a = answers_of earlier new a
  answers_of (At place Held ∷ earlier) new a = answers_of earlier new a
  answers_of (At place (Refused broken) ∷ earlier) new a = answers_of earlier new a
  answers_of (At place Missed ∷ earlier) new a = answers_of earlier new a
  answers_of (Looked is_busy may_come ∷ earlier) new a = answers_of earlier new a

  -- where who answers isn't over in the end, it never was
  never_over : (history : List Step) (new : H) → AreAnswered answers over old history new → over new ≡ false → IsNeverOver history
  never_over [] new e none = tt
  never_over (At place (Answered turn is_over) ∷ earlier) new (between, a, on, step, is) none = (is ∙ none, never_over earlier between a on)
  never_over (Together turns is_over ∷ earlier) new (between, a, on, step, is) none = (is ∙ none, never_over earlier between a on)
  never_over (At place Came ∷ earlier) new a none = never_over earlier new a none
  never_over (At place (Said bytes) ∷ earlier) new a none = never_over earlier new a none
  never_over (At place Dry ∷ earlier) new a none = never_over earlier new a none
  never_over (At place Ended ∷ earlier) new a none = never_over earlier new a none
  never_over (At place (Took bytes) ∷ earlier) new a none = never_over earlier new a none
  never_over (At place Waits ∷ earlier) new a none = never_over earlier new a none
  never_over (At place Failed ∷ earlier) new a none = never_over earlier new a none
  never_over (At place Left ∷ earlier) new a none = never_over earlier new a none
  never_over (At place Held ∷ earlier) new a none = never_over earlier new a none
  never_over (At place (Refused broken) ∷ earlier) new a none = never_over earlier new a none
  never_over (At place Missed ∷ earlier) new a none = never_over earlier new a none
  never_over (Looked is_busy may_come ∷ earlier) new a none = never_over earlier new a none

  -- who answers was over at the last message at most
  over_at_last : (history : List Step) (new : H) → AreAnswered answers over old history new → IsOverAtLast history (over new)
  over_at_last [] new e = tt
  over_at_last (At place (Answered turn is_over) ∷ earlier) new (between, a, on, step, is) = (is, never_over earlier between a on)
  over_at_last (Together turns is_over ∷ earlier) new (between, a, on, step, is) = (is, never_over earlier between a on)
  over_at_last (At place Came ∷ earlier) new a = over_at_last earlier new a
  over_at_last (At place (Said bytes) ∷ earlier) new a = over_at_last earlier new a
  over_at_last (At place Dry ∷ earlier) new a = over_at_last earlier new a
  over_at_last (At place Ended ∷ earlier) new a = over_at_last earlier new a
  over_at_last (At place (Took bytes) ∷ earlier) new a = over_at_last earlier new a
  over_at_last (At place Waits ∷ earlier) new a = over_at_last earlier new a
  over_at_last (At place Failed ∷ earlier) new a = over_at_last earlier new a
  over_at_last (At place Left ∷ earlier) new a = over_at_last earlier new a
  over_at_last (At place Held ∷ earlier) new a = over_at_last earlier new a
  over_at_last (At place (Refused broken) ∷ earlier) new a = over_at_last earlier new a
  over_at_last (At place Missed ∷ earlier) new a = over_at_last earlier new a
  over_at_last (Looked is_busy may_come ∷ earlier) new a = over_at_last earlier new a

-- what was served is what it listened to
pub has_listened : {W P H : Type 0} (contents : W → Option (List ℕ)) (out out₂ : Watched W) (opened : P → Type 0) (did : P → Step → P → Type 0) (answers : Replying H) (over : H → Bool)
    (count : ℕ) (peers peers₂ : P) (handler handler₂ : H) → opened peers → Put contents out out₂ listening false → (s : ServesMany did answers over count peers handler peers₂ handler₂)
    → HasListened contents out out₂ opened did count (turns_of s.history) (over handler₂)
has_listened contents out out₂ opened did answers over count peers peers₂ handler handler₂ opens said s = record {
  said = said;
  start = peers;
  opens = opens;
  last = peers₂;
  history = s.history;
  happens = s.runs.happens;
  right = s.runs.right;
  turns_are = refl;
  over = over_at_last answers over handler s.history handler₂ s.runs.answered;
  within = s.within;
  all = s.all;
}
