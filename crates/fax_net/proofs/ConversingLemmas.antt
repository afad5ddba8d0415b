-- What becomes of one connection, as its messages are answered.
use Rattle.std.proofs.Common.{◌≡◌, ◌⊎◌, ℕ, ◌+◌, ◌<◌, ◌≤◌, Bool, true, false, not, ◌&&◌, ◌||◌, List, [], ◌∷◌, ◌++◌, length, None, refl, ap, sym, ◌∙◌, subst, inl, inr, append-nil, arith}
use Rattle.std.specs.Prelude.{⊤, nat_le, nat_lt}
use Rattle.fax_http.specs.declared.message.Broken.{Broken}
use Rattle.fax_http.specs.declared.message.Broken.TheVariants.{BadHttp, TooLarge}
use Rattle.fax_http.specs.declared.turn.Found.{Found}
use Rattle.fax_http.specs.declared.turn.Found.TheVariants as found
use Rattle.fax_http.specs.Conversation.{Turn, failure_of, spelled_turn, spelled_turns}
use Rattle.fax_http.specs.Found.{Finds, HasAnswered as HasTurned, NeverBegins}
use Rattle.fax_http.specs.Message.{IsUnfinished, is_last}
use Rattle.fax_http.specs.Serving.{Answering, Replying}
use Rattle.fax_http.proofs.TurnLemmas.{none_unfinished}
use Rattle.fax_http.proofs.ServingLemmas.{go_on_one_more, length_one_more, reads_one_more, spelled_one_more}
use Rattle.fax_net.specs.Deeds.{Admits, HoldsUp}
use Rattle.fax_net.specs.History.{Answered, AreAnswered, Came, Failed, FailsIn, GoesOn, Held, IsAttended, IsDone, IsNext, IsQuiet, Missed, Refused, Step, Talk, Waits, acted, asks_for_listing, last_owed, last_reply, owed, refusal, room, talk, untaken}
use Rattle.fax_net.specs.Link.{AwaitsNext, EndsAt, HasAnswered, HasEnded, HasSaidAll, Holds, IsGoing, IsUnused, Keeps, awaits, is_done, is_due, is_held, is_owing}
use Rattle.fax_net.specs.Lists.{is_none}
use Rattle.fax_net.specs.Many.{GoesFrom, IsSettled, Runs}
use Rattle.fax_net.specs.declared.link.Link.{Link}
use Rattle.fax_net.specs.declared.link.Stage.{Stage}
use Rattle.fax_net.specs.declared.link.Stage.TheVariants.{Free, Open, Ended, Ending}
use Rattle.fax_net.proofs.HistoryLemmas.{HasTaken, goes_both, goes_by, goes_still}
use Rattle.fax_net.proofs.LinkLemmas.{awaits_parts, due_parts, held, holds, quiet, waits_holds}
use Rattle.fax_net.proofs.ListLemmas.{both}
use Rattle.fax_net.proofs.RoomLemmas.{none_untaken, others_less, room_gone}

-- ---- what is owed

-- where nothing was refused, all that is owed are the replies
module _ (t : Talk) (none : t.refused ≡ None) where
  -- all that is owed are the replies
  owed_replies : owed t ≡ spelled_turns t.turns
  owed_replies = ap (λ r. spelled_turns t.turns ++ refusal r) none ∙ append-nil (spelled_turns t.turns)

  -- an answer adds its reply to what is owed
  pub owed_more : (turn : Turn) (over : Bool) → owed (acted (Answered turn over) t) ≡ owed t ++ spelled_turn turn
  owed_more turn over =
      ap (λ r. spelled_turns (t.turns ++ turn ∷ []) ++ refusal r) none ∙ append-nil (spelled_turns (t.turns ++ turn ∷ []))
      ∙ spelled_one_more t.turns turn ∙ ap (λ v. v ++ spelled_turn turn) (sym owed_replies)

  -- a refusal adds its bytes
  pub owed_refused : (broken : Broken) → owed (acted (Refused broken) t) ≡ owed t ++ failure_of broken
  owed_refused broken = ap (λ v. v ++ failure_of broken) (sym owed_replies)

-- the last reply of some turns and one more
last_of_more : (turns : List Turn) (turn : Turn) → last_reply (turns ++ turn ∷ []) ≡ spelled_turn turn
last_of_more [] turn = refl
last_of_more (first ∷ []) turn = refl
last_of_more (first ∷ next ∷ turns) turn = last_of_more (next ∷ turns) turn

-- where nothing is pending, all that is owed was taken
pub paid_by : (t : Talk) (pending : List ℕ) → owed t ≡ t.took ++ pending → pending ≡ [] → owed t ≡ t.took
paid_by t pending owes none = owes ∙ ap (λ v. t.took ++ v) none ∙ append-nil t.took

-- bytes that aren't none are some
some_bytes : (input : List ℕ) → ¬ (input ≡ []) → 0 < length input
some_bytes [] n = absurd (n refl)
some_bytes (x ∷ xs) n = omega arith

-- bytes that never begin a message begin none here
fails_in : (t : Talk) (rest : List ℕ) (broken : Broken) → NeverBegins rest broken → FailsIn t rest broken
fails_in t rest BadHttp never = inl never
fails_in t rest TooLarge never = never

-- ---- a message is answered

module _ {H : Type 0} (answers : Answering H) (over : H → Bool) (h h₂ : H) (link link₂ : Link) (t : Talk) (bytes : List ℕ)
    (g : IsGoing t link) (unended : t.has_ended ≡ false) (none : link.pending ≡ []) (it : HasTurned answers over h h₂ link.said link₂.said bytes) where
  -- the turn is the next one, with all that was owed taken
  abbrev pub next_is : t.replies ≡ 0 → IsNext t it.turn
  next_is fresh = record {
    rest = link.said;
    next = link₂.said;
    goes_on = g.goes_on;
    begins = it.begins;
    paid = paid_by t link.pending g.owes none;
    first = fresh;
  }

  -- what is owed then was taken or is the reply
  owes_now : link₂.pending ≡ bytes → owed (acted (Answered it.turn (over h₂)) t) ≡ t.took ++ link₂.pending
  owes_now is =
      owed_more t g.goes_on.unrefused it.turn (over h₂) ∙ ap (λ v. v ++ spelled_turn it.turn) (paid_by t link.pending g.owes none)
      ∙ ap (λ v. t.took ++ v) (sym (is ∙ it.spelled))

  -- so long is the reply of the turn
  sized_now : link₂.size ≡ length bytes → link₂.size ≡ length (last_owed t.refused (t.turns ++ it.turn ∷ []))
  sized_now long =
      long ∙ ap (λ (xs : List ℕ). length xs) (it.spelled ∙ sym (last_of_more t.turns it.turn)) ∙ sym (ap (λ r. length (last_owed r (t.turns ++ it.turn ∷ []))) g.goes_on.unrefused)

  -- the turns are counted with this one
  counted_now : link₂.messages ≡ link.messages + 1 → length (t.turns ++ it.turn ∷ []) ≡ link₂.messages
  counted_now more = omega (arith, more, g.counted, length_one_more t.turns it.turn)

  -- where another message may follow, what is kept is what became of the connection
  pub answered_holds : is_last it.turn.head ≡ false → link.is_awaited ≡ false → Keeps (found.Answered bytes) link link₂ true → Holds (acted (Answered it.turn (over h₂)) t) link₂
  answered_holds going unseen (has, is, more, same, ends, long) = elim ends [
    | inl (going_on, under) ↦ held (acted (Answered it.turn (over h₂)) t) link₂ Open going_on (record {
      is_open = g.is_open;
      goes_on = record {
        is_there = g.goes_on.is_there;
        reads = reads_one_more t.said t.turns it.turn link.said link₂.said g.goes_on.reads it.begins;
        going = go_on_one_more t.turns it.turn g.goes_on.going going;
        below = omega (arith, counted_now (more few), under);
        unrefused = g.goes_on.unrefused;
      };
      counted = counted_now (more few);
      owes = owes_now is;
      awaited = λ waits. absurd (let unmoved = sym (same ∙ unseen) ∙ waits in cc);
      unended = λ _. unended;
      sized = λ some. sized_now long;
    })
    | inr (ending, all) ↦ held (acted (Answered it.turn (over h₂)) t) link₂ Ending ending (record {
      is_open = g.is_open;
      done = inr (inr (inr (inr (omega (arith, counted_now (more few), all, more few, few)))));
      owes = owes_now is;
      sized = λ some. sized_now long;
    })
  ]
    where
      few : link.messages < 1000
      few = omega (arith, g.goes_on.below, g.counted)

  -- where none may follow, it is too
  pub last_holds : (is_last it.turn.head ≡ true) ⊎ (over h₂ ≡ true) → Keeps (found.Last bytes) link link₂ true → Holds (acted (Answered it.turn (over h₂)) t) link₂
  last_holds why (has, is, ending, long) = held (acted (Answered it.turn (over h₂)) t) link₂ Ending ending (record {
    is_open = g.is_open;
    done = done why;
    owes = owes_now is;
    sized = λ some. sized_now long;
  })
    where
      done : (is_last it.turn.head ≡ true) ⊎ (over h₂ ≡ true) → IsDone (acted (Answered it.turn (over h₂)) t)
      done (inl last) = inr (inr (inl (record { earlier = t.turns; last = it.turn; parts = refl; going = g.goes_on.going; is_last = last })))
      done (inr o) = inr (inr (inr (inl o)))

-- what begins no message is refused
refused_holds : (link link₂ : Link) (t : Talk) (broken : Broken) → IsGoing t link → link.pending ≡ [] → link₂.stage ≡ Ending → link₂.pending ≡ failure_of broken
    → link₂.size ≡ length (failure_of broken) → Holds (acted (Refused broken) t) link₂
refused_holds link link₂ t broken g none ending is long = held (acted (Refused broken) t) link₂ Ending ending (record {
  is_open = g.is_open;
  done = inl (broken, refl);
  owes = owed_refused t g.goes_on.unrefused broken ∙ ap (λ v. v ++ failure_of broken) (paid_by t link.pending g.owes none) ∙ ap (λ v. t.took ++ v) (sym is);
  sized = λ some. long;
})

-- ---- its place in the history

-- where a connection that asks for a listing isn't held, there is room
not_full : (full due asks : Bool) → (full && (due && asks)) ≡ false → due ≡ true → asks ≡ true → full ≡ false
not_full true true true e d a = absurd cc
not_full true true false e d a = absurd cc
not_full true false asks e d a = absurd cc
not_full false due asks e d a = refl

module _ {P H : Type 0} (did : P → Step → P → Type 0) (answers : Replying H) (over : H → Bool) (count : ℕ) (place : ℕ) (below : place < 64) (start : P) (first : H) (earlier : List Step)
    (p : P) (h : H) (runs : Runs did answers over count start first earlier p h) (link : Link) (kept : Holds (talk place earlier) link) where
  module _ (h₂ : H) (link₂ : Link) (on₁ : over h ≡ false) where
    -- the history goes on by what was found and kept of it
    found_goes : (f : Found) (moved : Bool) → is_due link ≡ true → (asks_for_listing link.said ≡ true → untaken earlier < room) → (talk place earlier).replies ≡ 0 → Finds answers.one over h h₂ link.said link₂.said f → Keeps f link link₂ moved
        → GoesFrom did answers over count place p h₂ link₂ 0 0 moved (λ t. ⊤) start first earlier
    found_goes (found.Answered bytes) moved due roomy fresh (it, going, on) keeps =
        let parts = due_parts link due in
        let g : IsGoing (talk place earlier) link = holds (talk place earlier) link Open parts.0 kept in
        goes_by did answers over count place below start first earlier (Answered it.turn (over h₂)) p h₂ link₂ 0 0 moved (λ t. ⊤) runs.right runs.happens
        (h, runs.answered, on₁, it.step, refl) (next_is answers.one over h h₂ link link₂ (talk place earlier) bytes g (g.unended parts.0) parts.1 it fresh) (link.said, g.goes_on, roomy)
        (answered_holds answers.one over h h₂ link link₂ (talk place earlier) bytes g (g.unended parts.0) parts.1 it going parts.2 (refl, keeps.1, keeps.2, keeps.3, keeps.4, keeps.5)) refl keeps.0 tt
    found_goes (found.Last bytes) moved due roomy fresh (it, why) keeps =
        let parts = due_parts link due in
        let g : IsGoing (talk place earlier) link = holds (talk place earlier) link Open parts.0 kept in
        goes_by did answers over count place below start first earlier (Answered it.turn (over h₂)) p h₂ link₂ 0 0 moved (λ t. ⊤) runs.right runs.happens
        (h, runs.answered, on₁, it.step, refl) (next_is answers.one over h h₂ link link₂ (talk place earlier) bytes g (g.unended parts.0) parts.1 it fresh) (link.said, g.goes_on, roomy)
        (last_holds answers.one over h h₂ link link₂ (talk place earlier) bytes g (g.unended parts.0) parts.1 it why (refl, keeps.1, keeps.2, keeps.3)) refl keeps.0 tt
    found_goes (found.Refused bytes) moved due roomy fresh f keeps =
        let parts = due_parts link due in
        let g : IsGoing (talk place earlier) link = holds (talk place earlier) link Open parts.0 kept in
        goes_by did answers over count place below start first earlier (Refused f.broken) p h₂ link₂ 0 0 moved (λ t. ⊤) runs.right runs.happens
        (subst (λ v. AreAnswered answers over first earlier v) (sym f.stays.same_handler) runs.answered)
        (record { rest = link.said; goes_on = g.goes_on; some = f.some; fails = fails_in (talk place earlier) link.said f.broken f.never }) tt
        (refused_holds link link₂ (talk place earlier) f.broken g parts.1 keeps.2 (keeps.1 ∙ f.spelled) (keeps.3 ∙ ap (λ (xs : List ℕ). length xs) f.spelled)) refl keeps.0 tt
    found_goes found.NotYet moved due roomy fresh (stays, unfinished) keeps =
        let parts = due_parts link due in
        let g : IsGoing (talk place earlier) link = holds (talk place earlier) link Open parts.0 kept in
        subst (λ v. GoesFrom did answers over count place p v link₂ 0 0 moved (λ t. ⊤) start first earlier) (sym stays.same_handler)
        (goes_still did answers over count place below start first earlier p h runs link₂ 0 moved (λ t. ⊤)
        (held (talk place earlier) link₂ Open (keeps.4 ∙ parts.0) (record {
          is_open = g.is_open;
          goes_on = subst (λ v. GoesOn (talk place earlier) v) (sym stays.same_bytes) g.goes_on;
          counted = g.counted ∙ sym keeps.2;
          owes = g.owes ∙ ap (λ v. (talk place earlier).took ++ v) (sym keeps.1);
          awaited = λ has. subst IsUnfinished (sym stays.same_bytes) unfinished;
          unended = λ _. g.unended parts.0;
          sized = λ some. absurd (let none = sym some ∙ ap is_none (keeps.1 ∙ parts.1) in cc);
        })) keeps.0 tt)

    -- the same whether a message was due or not
    pub goes_answered : (is_full moved : Bool) → (is_full ≡ false → is_due link ≡ true → untaken earlier < room) → (is_due link ≡ true → (talk place earlier).replies ≡ 0)
        → HasAnswered answers.one over h h₂ is_full link link₂ moved → GoesFrom did answers over count place p h₂ link₂ 0 0 moved (λ t. ⊤) start first earlier
    goes_answered is_full moved roomy fresh (inr (due, unheld, f, finds, keeps)) =
        found_goes f moved due (λ asks. roomy (not_full is_full (is_due link) (asks_for_listing link.said) unheld due asks) due) (fresh due) finds keeps
    goes_answered is_full moved roomy fresh (inl (none, still, same, unmoved)) =
        subst (λ v. GoesFrom did answers over count place p v link₂ 0 0 moved (λ t. ⊤) start first earlier) (sym same)
        (goes_still did answers over count place below start first earlier p h runs link₂ 0 moved (λ t. ⊤) (subst (λ l. Holds (talk place earlier) l) (sym still) kept) unmoved tt)

  module _ (link₂ : Link) (moved : Bool) where
    -- where nothing changed, the history is as it was
    same_goes : link₂ ≡ link → moved ≡ false → GoesFrom did answers over count place p h link₂ 0 0 moved (λ t. ⊤) start first earlier
    same_goes still unmoved =
        goes_still did answers over count place below start first earlier p h runs link₂ 0 moved (λ t. ⊤) (subst (λ l. Holds (talk place earlier) l) (sym still) kept) unmoved tt

    -- the history goes on by what is kept of an end
    ended_goes : (s : Stage) → link.stage ≡ s → EndsAt s link link₂ moved → GoesFrom did answers over count place p h link₂ 0 0 moved (λ t. ⊤) start first earlier
    ended_goes Free is (unmoved, still) = same_goes still unmoved
    ended_goes Open is (unmoved, still) = same_goes still unmoved
    ended_goes Ending is (unmoved, still) = same_goes still unmoved
    ended_goes Ended is (inl (unmoved, none, still)) =
        let s : HasSaidAll (talk place earlier) link = holds (talk place earlier) link Ended is kept in
        let after : Link = record link { stage = Ending } in
        goes_still did answers over count place below start first earlier p h runs link₂ 0 moved (λ t. ⊤)
        (subst (λ l. Holds (talk place earlier) l) (sym still)
        (record {
          is_open = s.going.is_open;
          done = inr (inl (subst (λ v. GoesOn (talk place earlier) v) none s.going.goes_on, s.ended));
          owes = s.going.owes;
          sized = s.going.sized;
        })) unmoved tt
    ended_goes Ended is (inr (has, some, owes)) =
        let s : HasSaidAll (talk place earlier) link = holds (talk place earlier) link Ended is kept in
        goes_by did answers over count place below start first earlier (Refused BadHttp) p h link₂ 0 0 moved (λ t. ⊤) runs.right runs.happens runs.answered
        (record { rest = link.said; goes_on = s.going.goes_on; some = some_bytes link.said some; fails = inr (s.part.none, s.ended) }) tt
        (refused_holds link link₂ (talk place earlier) BadHttp s.going s.nothing owes.stage_is owes.pending owes.size) refl has tt

    -- the same at the connection's own stage
    pub goes_ended : HasEnded link link₂ moved → GoesFrom did answers over count place p h link₂ 0 0 moved (λ t. ⊤) start first earlier
    goes_ended ends = ended_goes link.stage refl ends

-- ---- all that is done for a connection at its turn

-- where a message is due after a read, nothing was pending before it
pub nothing_pending : (read : Bool) (link link₂ : Link) → (read ≡ false → link₂ ≡ link) → (read ≡ true → awaits link ≡ true) → is_due link₂ ≡ true → link.pending ≡ []
nothing_pending true link link₂ still paid due = (awaits_parts link (paid refl)).1
nothing_pending false link link₂ still paid due = (due_parts link (sym (ap is_due (still refl)) ∙ due)).1

neither : (a b : Bool) → (a || b) ≡ false → (a ≡ false) × (b ≡ false)
neither true b e = absurd cc
neither false b e = (refl, e)

-- where more is awaited, no message is due
awaited_not_due : (link : Link) → link.is_awaited ≡ true → is_due link ≡ false
awaited_not_due link e = by (is_due link) refl
  where
    by : (b : Bool) → is_due link ≡ b → is_due link ≡ false
    by true is = absurd (let never = sym (due_parts link is).2 ∙ e in cc)
    by false is = is

-- where nothing more is answered, no message is due
ending_not_due : (link : Link) → link.stage ≡ Ending → is_due link ≡ false
ending_not_due link e = by (is_due link) refl
  where
    by : (b : Bool) → is_due link ≡ b → is_due link ≡ false
    by true is = absurd (let never = sym (due_parts link is).0 ∙ e in cc)
    by false is = is

-- where nothing was answered, nothing is due, or the connection is to be held and was left alone
answered_none : {H : Type 0} (answers : Answering H) (over : H → Bool) (h h₂ : H) (is_full : Bool) (link link₂ : Link) (moved : Bool) → HasAnswered answers over h h₂ is_full link link₂ moved
    → moved ≡ false → (is_due link₂ ≡ false) ⊎ ((is_held is_full link ≡ true) × (link₂ ≡ link))
answered_none answers over h h₂ is_full link link₂ moved (inl (inl none, still, same, is)) unmoved = inl (ap is_due still ∙ none)
answered_none answers over h h₂ is_full link link₂ moved (inl (inr wants, still, same, is)) unmoved = inr (wants, still)
answered_none answers over h h₂ is_full link link₂ moved (inr (due, unheld, found.Answered bytes, finds, keeps)) unmoved = absurd (let never = sym keeps.0 ∙ unmoved in cc)
answered_none answers over h h₂ is_full link link₂ moved (inr (due, unheld, found.Last bytes, finds, keeps)) unmoved = absurd (let never = sym keeps.0 ∙ unmoved in cc)
answered_none answers over h h₂ is_full link link₂ moved (inr (due, unheld, found.Refused bytes, finds, keeps)) unmoved = absurd (let never = sym keeps.0 ∙ unmoved in cc)
answered_none answers over h h₂ is_full link link₂ moved (inr (due, unheld, found.NotYet, finds, keeps)) unmoved = inl (awaited_not_due link₂ keeps.3)

-- where nothing was answered, its stage is what it was
answered_stage : {H : Type 0} (answers : Answering H) (over : H → Bool) (h h₂ : H) (is_full : Bool) (link link₂ : Link) (moved : Bool) → HasAnswered answers over h h₂ is_full link link₂ moved
    → moved ≡ false → link₂.stage ≡ link.stage
answered_stage answers over h h₂ is_full link link₂ moved (inl (why, still, same, is)) unmoved = ap (λ l. l.stage) still
answered_stage answers over h h₂ is_full link link₂ moved (inr (due, unheld, found.Answered bytes, finds, keeps)) unmoved = absurd (let never = sym keeps.0 ∙ unmoved in cc)
answered_stage answers over h h₂ is_full link link₂ moved (inr (due, unheld, found.Last bytes, finds, keeps)) unmoved = absurd (let never = sym keeps.0 ∙ unmoved in cc)
answered_stage answers over h h₂ is_full link link₂ moved (inr (due, unheld, found.Refused bytes, finds, keeps)) unmoved = absurd (let never = sym keeps.0 ∙ unmoved in cc)
answered_stage answers over h h₂ is_full link link₂ moved (inr (due, unheld, found.NotYet, finds, keeps)) unmoved = keeps.4

-- a connection that is to be held is due, and asks for a listing
pub held_parts : (is_full : Bool) (link : Link) → is_held is_full link ≡ true → (is_full ≡ true) × (is_due link ≡ true) × (asks_for_listing link.said ≡ true)
held_parts is_full link e =
    let outer = both is_full (is_due link && asks_for_listing link.said) e in
    let inner = both (is_due link) (asks_for_listing link.said) outer.1 in
    (outer.0, inner.0, inner.1)

-- what is due doesn't end, and where it asks for a listing nothing is awaited again
due_stays : (link link₂ : Link) (moved : Bool) → is_due link ≡ true → HasEnded link link₂ moved → link₂ ≡ link
due_stays link link₂ moved due ended = (subst (λ (s : Stage). EndsAt s link link₂ moved) (due_parts link due).0 ended).1

held_next : (is_full : Bool) (link link₂ : Link) → is_held is_full link ≡ true → AwaitsNext link link₂ → link₂ ≡ link
held_next is_full link link₂ held (inl still) = still
held_next is_full link link₂ held (inr (due, unsaid, awaited)) =
    absurd (let asks = sym (held_parts is_full link held).2 ∙ ap asks_for_listing unsaid in cc)

-- where nothing was refused, what has ended is told as ending, and nothing more is due
ended_none : (s : Stage) (link link₂ : Link) (moved : Bool) → link.stage ≡ s → EndsAt s link link₂ moved → moved ≡ false → is_due link ≡ false
    → ¬ (link₂.stage ≡ Ended) × (is_due link₂ ≡ false)
ended_none Free link link₂ moved is (n, still) unmoved none =
    ((λ e. absurd (let never = sym is ∙ (sym (ap (λ l. l.stage) still) ∙ e) in cc)), ap is_due still ∙ none)
ended_none Open link link₂ moved is (n, still) unmoved none =
    ((λ e. absurd (let never = sym is ∙ (sym (ap (λ l. l.stage) still) ∙ e) in cc)), ap is_due still ∙ none)
ended_none Ending link link₂ moved is (n, still) unmoved none =
    ((λ e. absurd (let never = sym is ∙ (sym (ap (λ l. l.stage) still) ∙ e) in cc)), ap is_due still ∙ none)
ended_none Ended link link₂ moved is (inl (n, all, still)) unmoved none =
    ((λ e. absurd (let never = sym (ap (λ l. l.stage) still) ∙ e in cc)), ending_not_due link₂ (ap (λ l. l.stage) still))
ended_none Ended link link₂ moved is (inr (has, some, owes)) unmoved none = absurd (let never = sym has ∙ unmoved in cc)

-- where somebody was there, somebody is, unless something ended
ended_there : (s : Stage) (link link₂ : Link) (moved : Bool) → link.stage ≡ s → EndsAt s link link₂ moved → ¬ (link.stage ≡ Free) → ¬ (link₂.stage ≡ Free)
ended_there Free link link₂ moved is ends there = absurd (there is)
ended_there Open link link₂ moved is (n, still) there = λ e. there (sym (ap (λ l. l.stage) still) ∙ e)
ended_there Ending link link₂ moved is (n, still) there = λ e. there (sym (ap (λ l. l.stage) still) ∙ e)
ended_there Ended link link₂ moved is (inl (n, all, still)) there = λ e. absurd (let never = sym (ap (λ l. l.stage) still) ∙ e in cc)
ended_there Ended link link₂ moved is (inr (has, some, owes)) there = λ e. absurd (let never = sym owes.stage_is ∙ e in cc)

-- where nothing was due, nothing is awaited again
next_still : (link link₂ : Link) → AwaitsNext link link₂ → is_due link ≡ false → link₂ ≡ link
next_still link link₂ (inl still) none = still
next_still link link₂ (inr (due, unsaid, awaited)) none = absurd (let never = sym none ∙ due in cc)

-- where the next message is awaited of which nothing was said, what is kept is what became of the connection
awaited_holds : (t : Talk) (link link₂ : Link) → AwaitsNext link link₂ → Holds t link → Holds t link₂
awaited_holds t link link₂ (inl still) h = subst (λ l. Holds t l) (sym still) h
awaited_holds t link link₂ (inr (due, unsaid, awaited)) h =
    let parts = due_parts link due in
    let g : IsGoing t link = holds t link Open parts.0 h in
    subst (λ l. Holds t l) (sym awaited) (held t (record link { is_awaited = true }) Open parts.0 (record {
      is_open = g.is_open;
      goes_on = g.goes_on;
      counted = g.counted;
      owes = g.owes;
      awaited = λ waits. subst IsUnfinished (sym unsaid) none_unfinished;
      unended = g.unended;
      sized = g.sized;
    }))

module _ {P H : Type 0} (did : P → Step → P → Type 0) (answers : Replying H) (over : H → Bool) (count : ℕ) (place : ℕ) (start : P) (first : H) (earlier : List Step) (p : P) (h : H) where
  -- the history goes on as it did where the next message is awaited
  pub goes_awaiting : (link link₂ : Link) (moved : Bool) (Wanted : Talk → Type 0) → GoesFrom did answers over count place p h link 0 0 moved Wanted start first earlier
      → AwaitsNext link link₂ → GoesFrom did answers over count place p h link₂ 0 0 moved Wanted start first earlier
  goes_awaiting link link₂ moved Wanted g next = record {
    later = g.later;
    runs = g.runs;
    holds = awaited_holds (talk place g.later) link link₂ next g.holds;
    others = g.others;
    left_is = g.left_is;
    grown = g.grown;
    looks_are = g.looks_are;
    stays_moved = g.stays_moved;
    has_moved = g.has_moved;
    also = g.also;
  }

and_false : (b : Bool) → (b && false) ≡ false
and_false true = refl
and_false false = refl

and_true : (b : Bool) → (b && true) ≡ b
and_true true = refl
and_true false = refl

or_false : (b : Bool) → (b || false) ≡ b
or_false true = refl
or_false false = refl

-- what is kept of a connection that is held is what became of it
held_still : (t : Talk) (link : Link) → link.stage ≡ Open → IsGoing t link → Holds (acted Held t) link
held_still t link is g = held (acted Held t) link Open is (record {
  is_open = g.is_open;
  goes_on = record { is_there = g.goes_on.is_there; reads = g.goes_on.reads; going = g.goes_on.going; below = g.goes_on.below; unrefused = g.goes_on.unrefused };
  counted = g.counted;
  owes = g.owes;
  awaited = g.awaited;
  unended = g.unended;
  sized = g.sized;
})

-- and of one that failed
failed_holds : (t : Talk) (link : Link) → link.stage ≡ Free → Holds (acted Failed t) link
failed_holds t link is = held (acted Failed t) link Free is refl

module _ {P H : Type 0} (did : P → Step → P → Type 0) (answers : Replying H) (over : H → Bool) (count : ℕ) (place : ℕ) (start : P) (first : H) (earlier : List Step)
    (p : P) (h h₂ : H) (is_full : Bool) (l₀ l₁ l₂ l₃ l₄ l₅ l₆ : Link) (c a r w e d : Bool) (before : Talk)
    (answered : HasAnswered answers.one over h h₂ is_full l₀ l₁ a) (refused : HasEnded l₁ l₂ r) (written : w ≡ false → l₃ ≡ l₂) (left : e ≡ false → l₄ ≡ l₃)
    (there : c ≡ false → ¬ (l₀.stage ≡ Free)) (gone : e ≡ false → is_done l₃ ≡ false) (next : AwaitsNext l₄ l₅) (read : d ≡ false → l₆ ≡ l₅)
    (g : GoesFrom did answers over count place p h₂ l₆ 0 0 (((((c || a) || r) || w) || e) || d) (HasTaken l₅ d before) start first earlier)
    (tried : w ≡ false → e ≡ false → d ≡ false → is_owing l₂ ≡ true → (talk place g.later).is_blocked ≡ true) where
  module _ (none : (((((c || a) || r) || w) || e) || d) ≡ false) where
    abbrev five : (((((c || a) || r) || w) || e) ≡ false) × (d ≡ false)
    five = neither ((((c || a) || r) || w) || e) d none

    abbrev four : ((((c || a) || r) || w) ≡ false) × (e ≡ false)
    four = neither (((c || a) || r) || w) e five.0

    abbrev three : (((c || a) || r) ≡ false) × (w ≡ false)
    three = neither ((c || a) || r) w four.0

    abbrev two : ((c || a) ≡ false) × (r ≡ false)
    two = neither (c || a) r three.0

    abbrev one : (c ≡ false) × (a ≡ false)
    one = neither c a two.0

    as_ended : l₄ ≡ l₂
    as_ended = left four.1 ∙ written three.1

    -- where nothing is due, there is nothing to do for the connection
    settled : is_due l₁ ≡ false → (may_come : Bool) → IsQuiet may_come (talk place g.later)
    settled undue may_come =
        let ends = ended_none l₁.stage l₁ l₂ r refl refused two.1 undue in
        let as_left : l₆ ≡ l₄ = read five.1 ∙ next_still l₄ l₅ next (ap is_due as_ended ∙ ends.1) in
        let same_stage = answered_stage answers.one over h h₂ is_full l₀ l₁ a answered one.1 in
        let here = ended_there l₁.stage l₁ l₂ r refl refused (λ is. there one.0 (sym same_stage ∙ is)) in
        quiet (talk place g.later) l₆ g.holds (λ is. here (sym (ap (λ l. l.stage) (as_left ∙ as_ended)) ∙ is)) (λ is. ends.0 (sym (ap (λ l. l.stage) (as_left ∙ as_ended)) ∙ is)) (ap is_due (as_left ∙ as_ended) ∙ ends.1)
        (ap is_done (as_left ∙ left four.1) ∙ gone four.1) (λ waits. g.also.0 five.1 (sym (ap awaits (read five.1)) ∙ waits))
        (λ owes. tried three.1 four.1 five.1 (sym (ap is_owing (as_left ∙ as_ended)) ∙ owes)) may_come

    -- one that is to be held was left alone
    left_alone : is_held is_full l₀ ≡ true → l₁ ≡ l₀ → l₆ ≡ l₀
    left_alone held still =
        let as_held : l₄ ≡ l₀ = as_ended ∙ due_stays l₁ l₂ r (ap is_due still ∙ (held_parts is_full l₀ held).1) refused ∙ still in
        read five.1 ∙ held_next is_full l₄ l₅ (ap (is_held is_full) as_held ∙ held) next ∙ as_held

    -- where nothing moved and it isn't to be held, there is nothing to do
    quietly : is_held is_full l₆ ≡ false → (may_come : Bool) → IsQuiet may_come (talk place g.later)
    quietly unheld may_come = elim (answered_none answers.one over h h₂ is_full l₀ l₁ a answered one.1) [
      | inl undue ↦ settled undue may_come
      | inr (wants, still) ↦ absurd (let never = sym unheld ∙ (ap (is_held is_full) (left_alone wants still) ∙ wants) in cc)
    ]

    -- one that is to be held at the end was so before it was looked for
    held_before : is_held is_full l₆ ≡ true → l₆ ≡ l₀
    held_before held = elim (answered_none answers.one over h h₂ is_full l₀ l₁ a answered one.1) [
      | inl undue ↦ absurd (
          let ends = ended_none l₁.stage l₁ l₂ r refl refused two.1 undue in
          let as_left : l₆ ≡ l₄ = read five.1 ∙ next_still l₄ l₅ next (ap is_due as_ended ∙ ends.1) in
          let never = sym (ap is_due (as_left ∙ as_ended) ∙ ends.1) ∙ (held_parts is_full l₆ held).1 in cc)
      | inr (was, still) ↦ left_alone was still
    ]

  -- so it is where its next message is awaited, and nothing of it was there to be read
  dryly : d ≡ false → awaits l₆ ≡ true → (may_come : Bool) → IsQuiet may_come (talk place g.later)
  dryly unread waits may_come =
      let parts = awaits_parts l₆ waits in
      let going : IsGoing (talk place g.later) l₆ = holds (talk place g.later) l₆ Open parts.0 g.holds in
      inr (going.is_open, inr (inl ((going.unended parts.0, (l₆.said, going.goes_on, going.awaited parts.2)), g.also.0 unread (sym (ap awaits (read unread)) ∙ waits))))

  -- where something moved, there may be more to do, or there is nothing
  attended_by : (d₂ waits : Bool) → (((((c || a) || r) || w) || e) || d) ≡ true → d ≡ d₂ → awaits l₆ ≡ waits → IsSettled (d₂ || not waits) (talk place g.later)
  attended_by true waits is read_is waits_is may_come = inl (refl, g.has_moved is)
  attended_by false true is read_is waits_is may_come = inr (dryly read_is waits_is may_come)
  attended_by false false is read_is waits_is may_come = inl (refl, g.has_moved is)

  -- the history goes on so
  pub attended : (waits : Bool) → (((((c || a) || r) || w) || e) || d) ≡ true → waits ≡ awaits l₆
      → GoesFrom did answers over count place p h₂ l₆ 0 0 (d || not waits) (IsSettled (d || not waits)) start first earlier
  attended waits is waits_is = record {
    later = g.later;
    runs = g.runs;
    holds = g.holds;
    others = g.others;
    left_is = g.left_is;
    grown = g.grown;
    looks_are = g.looks_are;
    stays_moved = g.stays_moved;
    has_moved = λ has. g.has_moved is;
    also = attended_by d waits is refl (sym waits_is);
  }

  abbrev now : Talk
  now = talk place g.later

  -- a connection that is to be held goes on
  going_held : is_held is_full l₆ ≡ true → IsGoing now l₆
  going_held held = holds now l₆ Open (due_parts l₆ (held_parts is_full l₆ held).1).0 g.holds

  module _ (below : place < 64) (old : Link) (was : Holds (talk place earlier) old) (came : c ≡ false → l₀ ≡ old) (known : is_full ≡ nat_le room (untaken earlier))
      (p₂ : P) (l₇ : Link) (f : Bool) where
    module _ (none : (((((c || a) || r) || w) || e) || d) ≡ false) where
      -- there is no room for one that is held
      full_still : is_held is_full l₆ ≡ true → room ≤ untaken g.later
      full_still held =
          let parts = held_parts is_full l₆ held in
          let same : l₆ ≡ old = held_before none held ∙ came (one none).0 in
          let taken = none_untaken (talk place earlier) old was (ap (λ l. l.pending) (sym same) ∙ (due_parts l₆ parts.1).1) in
          let less = others_less place earlier g.later (λ k n. sym (g.others k n)) taken in
          let gone = room_gone (untaken earlier) is_full known parts.0 in
          omega (arith, less, gone)

      -- the history goes on by what becomes of one that may be held
      held_by : HoldsUp did place p p₂ l₆ l₇ is_full f → GoesFrom did answers over count place p₂ h₂ l₇ 0 0 f (IsSettled f) start first g.later
      held_by (inl (unheld, (same, still, unmoved))) =
          subst (λ v. GoesFrom did answers over count place v h₂ l₇ 0 0 f (IsSettled f) start first g.later) (sym same)
          (goes_still did answers over count place below start first g.later p h₂ g.runs l₇ 0 f (IsSettled f) (subst (λ l. Holds now l) (sym still) g.holds) unmoved
          (λ may_come. inr (quietly none unheld may_come)))
      held_by (inr (wants, inl (happens, still, unmoved))) =
          let going = going_held wants in
          let parts = held_parts is_full l₆ wants in
          goes_by did answers over count place below start first g.later Held p₂ h₂ l₇ 0 0 f (IsSettled f) g.runs.right (p, g.runs.happens, happens) g.runs.answered
          (l₆.said, going.goes_on, parts.2) (full_still wants)
          (subst (λ l. Holds (acted Held now) l) (sym still) (held_still now l₆ (due_parts l₆ parts.1).0 going)) refl unmoved (λ may_come. inr (inr (going.is_open, inr (inr refl))))
      held_by (inr (wants, inr (happens, unused, moved))) =
          goes_by did answers over count place below start first g.later Failed p₂ h₂ l₇ 0 0 f (IsSettled f) g.runs.right (p, g.runs.happens, happens) g.runs.answered
          (going_held wants).is_open tt (failed_holds now l₇ unused.stage_is) refl moved (λ may_come. inl (moved, refl))

      -- so does the whole turn
      held_turn : HoldsUp did place p p₂ l₆ l₇ is_full f → GoesFrom did answers over count place p₂ h₂ l₇ 0 0 f (IsSettled f) start first earlier
      held_turn holds_up =
          let whole = goes_both did answers over count place start first earlier p p₂ h₂ h₂ l₆ l₇ (((((c || a) || r) || w) || e) || d) f (HasTaken l₅ d before) (IsSettled f) g (held_by holds_up) in
          subst (λ (m : Bool). GoesFrom did answers over count place p₂ h₂ l₇ 0 0 (m || f) (IsSettled f) start first earlier) none whole

    -- where something moved nothing is held
    moved_turn : (waits : Bool) → (((((c || a) || r) || w) || e) || d) ≡ true → HoldsUp did place p p₂ l₆ l₇ false f → waits ≡ awaits l₇
        → GoesFrom did answers over count place p₂ h₂ l₇ 0 0 (f || (d || not waits)) (IsSettled (f || (d || not waits))) start first earlier
    moved_turn waits has (inl (unheld, (same, still, unmoved))) waits_is =
        let whole = attended waits has (waits_is ∙ ap awaits still) in
        let there = subst (λ l. GoesFrom did answers over count place p h₂ l 0 0 (d || not waits) (IsSettled (d || not waits)) start first earlier) (sym still) whole in
        let here = subst (λ v. GoesFrom did answers over count place v h₂ l₇ 0 0 (d || not waits) (IsSettled (d || not waits)) start first earlier) (sym same) there in
        subst (λ (b : Bool). GoesFrom did answers over count place p₂ h₂ l₇ 0 0 (b || (d || not waits)) (IsSettled (b || (d || not waits))) start first earlier) (sym unmoved) here
    moved_turn waits has (inr (wants, other)) waits_is = absurd cc

    -- the history goes on by the whole turn
    pub turned : (waits : Bool) → HoldsUp did place p p₂ l₆ l₇ (is_full && not (((((c || a) || r) || w) || e) || d)) f → waits ≡ awaits l₇
        → GoesFrom did answers over count place p₂ h₂ l₇ 0 0 (f || ((((((c || a) || r) || w) || e) || d) && (d || not waits)))
        (IsSettled (f || ((((((c || a) || r) || w) || e) || d) && (d || not waits)))) start first earlier
    turned waits holds_up waits_is = by (((((c || a) || r) || w) || e) || d) refl holds_up
      where
        by : (m : Bool) → (((((c || a) || r) || w) || e) || d) ≡ m → HoldsUp did place p p₂ l₆ l₇ (is_full && not m) f
            → GoesFrom did answers over count place p₂ h₂ l₇ 0 0 (f || (m && (d || not waits))) (IsSettled (f || (m && (d || not waits)))) start first earlier
        by true has up = moved_turn waits has (subst (λ (b : Bool). HoldsUp did place p p₂ l₆ l₇ b f) (and_false is_full) up) waits_is
        by false none up =
            subst (λ (b : Bool). GoesFrom did answers over count place p₂ h₂ l₇ 0 0 b (IsSettled b) start first earlier) (sym (or_false f))
            (held_turn none (subst (λ (b : Bool). HoldsUp did place p p₂ l₆ l₇ b f) (and_true is_full) up))

-- where something was written, something moved
pub either_moved : (x w e : Bool) → w ≡ true → ((x || w) || e) ≡ true
either_moved true w e is = refl
either_moved false true e is = refl
either_moved false false e is = absurd cc

-- ---- a free place

-- what is kept of a connection that came is what became of it
admitted_holds : (t : Talk) (link₂ : Link) → IsUnused link₂ Open → Holds (acted Came t) link₂
admitted_holds t link₂ unused = held (acted Came t) link₂ Open unused.stage_is (record {
  is_open = refl;
  goes_on = record { is_there = refl; reads = sym unused.said; going = tt; below = omega arith; unrefused = refl };
  counted = sym unused.messages;
  owes = sym unused.pending;
  awaited = λ waits. absurd (let never = sym unused.unseen ∙ waits in cc);
  unended = λ _. refl;
  sized = λ some. absurd (let none = sym some ∙ ap is_none unused.pending in cc);
})

module _ {P H : Type 0} (did : P → Step → P → Type 0) (answers : Replying H) (over : H → Bool) (count : ℕ) (place : ℕ) (below : place < 64) (start : P) (first : H) (earlier : List Step)
    (p p₂ : P) (h : H) (runs : Runs did answers over count start first earlier p h) (link link₂ : Link) (free : link.stage ≡ Free) (kept : Holds (talk place earlier) link)
    (left left₂ : ℕ) (moved : Bool) where
  -- nobody is there yet
  closed : (talk place earlier).is_open ≡ false
  closed = holds (talk place earlier) link Free free kept

  -- the history goes on by whoever came or didn't
  pub admitted : Admits did place p p₂ link link₂ left left₂ moved → GoesFrom did answers over count place p₂ h link₂ left left₂ moved (IsAttended moved (nat_lt 0 left₂)) start first earlier
  admitted (inl (happens, unused, one, has)) =
      goes_by did answers over count place below start first earlier Came p₂ h link₂ left left₂ moved (IsAttended moved (nat_lt 0 left₂)) runs.right (p, runs.happens, happens) runs.answered closed tt
      (admitted_holds (talk place earlier) link₂ unused) (omega (arith, one)) has (inl (has, refl))
  admitted (inr (inl (happens, still, one, is))) =
      goes_by did answers over count place below start first earlier Missed p₂ h link₂ left left₂ moved (IsAttended moved (nat_lt 0 left₂)) runs.right (p, runs.happens, happens) runs.answered closed tt
      (waits_holds (talk place earlier) link₂ (subst (λ l. Holds (talk place earlier) l) (sym still) kept)) (omega (arith, one)) is (inr (inl (closed, inr refl)))
  admitted (inr (inr (inl (happens, still, same, is)))) =
      goes_by did answers over count place below start first earlier Waits p₂ h link₂ left left₂ moved (IsAttended moved (nat_lt 0 left₂)) runs.right (p, runs.happens, happens) runs.answered (inl closed) tt
      (waits_holds (talk place earlier) link₂ (subst (λ l. Holds (talk place earlier) l) (sym still) kept)) (omega (arith, same)) is (inr (inl (closed, inr refl)))
  admitted (inr (inr (inr ((same_peers, still, is), none, all)))) =
      subst (λ n. GoesFrom did answers over count place p₂ h link₂ left n moved (IsAttended moved (nat_lt 0 n)) start first earlier) (none ∙ sym all)
      (subst (λ v. GoesFrom did answers over count place v h link₂ left left moved (IsAttended moved (nat_lt 0 left)) start first earlier) (sym same_peers)
      (goes_still did answers over count place below start first earlier p h runs link₂ left moved (IsAttended moved (nat_lt 0 left))
      (subst (λ l. Holds (talk place earlier) l) (sym still) kept) is (inr (inl (closed, inl (ap (nat_lt 0) none))))))

-- where nobody came, as many are still to come, and what is known goes over
pub goes_with : {P H : Type 0} (did : P → Step → P → Type 0) (answers : Replying H) (over : H → Bool) (count : ℕ) (place : ℕ) (start : P) (first : H) (earlier : List Step)
    (p : P) (h : H) (link : Link) (left : ℕ) (moved : Bool) (Wanted Wanted₂ : Talk → Type 0) → ((t : Talk) → Wanted t → Wanted₂ t)
    → GoesFrom did answers over count place p h link 0 0 moved Wanted start first earlier → GoesFrom did answers over count place p h link left left moved Wanted₂ start first earlier
goes_with did answers over count place start first earlier p h link left moved Wanted Wanted₂ so g = record {
  later = g.later;
  runs = g.runs;
  holds = g.holds;
  others = g.others;
  left_is = omega (arith, g.left_is);
  grown = g.grown;
  looks_are = g.looks_are;
  stays_moved = g.stays_moved;
  has_moved = g.has_moved;
  also = so (talk place g.later) g.also;
}
