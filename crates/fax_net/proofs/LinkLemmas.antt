-- What is kept of a connection, by its tests.
use Rattle.std.proofs.Common.{◌≡◌, ℕ, ◌<◌, Bool, true, false, not, ◌&&◌, List, [], ◌++◌, length, take, drop, refl, ap, sym, ◌∙◌, subst, inl, inr, append_assoc}
use Rattle.std.proofs.lemmas.List.{take-append-drop}
use Rattle.fax_http.specs.Conversation.{Reads}
use Rattle.fax_http.proofs.ServingLemmas.{reads_more}
use Rattle.fax_net.specs.History.{Dry, Fits, IsDone, IsQuiet, Said, Talk, Took, Waits, acted, owed}
use Rattle.fax_net.specs.Link.{Holds, HoldsAt, IsEnding, IsGoing, HasSaidAll, awaits, is_done, is_due, is_ending, is_open, is_owing, is_taken}
use Rattle.fax_net.specs.Lists.{is_none}
use Rattle.fax_net.specs.declared.link.Link.{Link}
use Rattle.fax_net.specs.declared.link.Stage.{Stage}
use Rattle.fax_net.specs.declared.link.Stage.TheVariants.{Free, Open, Ended, Ending}
use Rattle.fax_net.proofs.ListLemmas.{both, none_is, not_true, some_is}

-- a stage that tests as open is open
open_is : (s : Stage) → is_open s ≡ true → s ≡ Open
open_is Free e = absurd cc
open_is Open e = refl
open_is Ended e = absurd cc
open_is Ending e = absurd cc

-- a stage that tests as ending is ending
ending_is : (s : Stage) → is_ending s ≡ true → s ≡ Ending
ending_is Free e = absurd cc
ending_is Open e = absurd cc
ending_is Ended e = absurd cc
ending_is Ending e = refl

-- a stage that isn't free is taken
pub taken_is : (s : Stage) → ¬ (s ≡ Free) → is_taken s ≡ true
taken_is Free not = absurd (not refl)
taken_is Open not = refl
taken_is Ended not = refl
taken_is Ending not = refl

-- where a message is due, the link is open, owes nothing and awaits nothing
pub due_parts : (link : Link) → is_due link ≡ true → (link.stage ≡ Open) × (link.pending ≡ []) × (link.is_awaited ≡ false)
due_parts link e =
    let outer = both (is_open link.stage && is_none link.pending) (not link.is_awaited) e in
    let inner = both (is_open link.stage) (is_none link.pending) outer.0 in
    (open_is link.stage inner.0, none_is link.pending inner.1, not_true link.is_awaited outer.1)

-- where more is awaited, the link is open and owes nothing
pub awaits_parts : (link : Link) → awaits link ≡ true → (link.stage ≡ Open) × (link.pending ≡ []) × (link.is_awaited ≡ true)
awaits_parts link e =
    let outer = both (is_open link.stage && is_none link.pending) link.is_awaited e in
    let inner = both (is_open link.stage) (is_none link.pending) outer.0 in
    (open_is link.stage inner.0, none_is link.pending inner.1, outer.1)

-- where all is done, the link is ending and owes nothing
pub done_parts : (link : Link) → is_done link ≡ true → (link.stage ≡ Ending) × (link.pending ≡ [])
done_parts link e =
    let parts = both (is_ending link.stage) (is_none link.pending) e in
    (ending_is link.stage parts.0, none_is link.pending parts.1)

-- where something is owed, the link is taken and something is pending
pub owing_parts : (link : Link) → is_owing link ≡ true → (is_taken link.stage ≡ true) × (is_none link.pending ≡ false)
owing_parts link e =
    let parts = both (is_taken link.stage) (not (is_none link.pending)) e in
    (parts.0, not_true (is_none link.pending) parts.1)

-- what is kept at its stage is what became of it
pub held : (t : Talk) (link : Link) (s : Stage) → link.stage ≡ s → HoldsAt s t link → Holds t link
held t link s e h = subst (λ v. HoldsAt v t link) (sym e) h

-- and what became of it is kept at its stage
pub holds : (t : Talk) (link : Link) (s : Stage) → link.stage ≡ s → Holds t link → HoldsAt s t link
holds t link s e h = subst (λ v. HoldsAt v t link) e h

-- ---- reading

-- more was read
pub said_fits : (link : Link) (said bytes : List ℕ) → 0 < length bytes → said ≡ link.said ++ bytes → awaits link ≡ true → (t : Talk) → Holds t link
    → Fits (Said bytes) t × Holds (acted (Said bytes) t) (record link { said = said; is_awaited = false })
said_fits link said bytes some e a t h =
    let parts = awaits_parts link a in
    let g : IsGoing t link = holds t link Open parts.0 h in (
      (some, (g.unended parts.0, (link.said, g.goes_on, g.awaited parts.2))),
      held (acted (Said bytes) t) (record link { said = said; is_awaited = false }) Open parts.0
          (record {
            is_open = g.is_open;
            goes_on = record {
              is_there = g.goes_on.is_there;
              reads = subst (λ v. Reads (t.said ++ bytes) t.turns v) (sym e) (reads_more t.said t.turns link.said bytes g.goes_on.reads);
              going = g.goes_on.going;
              below = g.goes_on.below;
              unrefused = g.goes_on.unrefused;
            };
            counted = g.counted;
            owes = g.owes;
            awaited = λ no. absurd cc;
            unended = g.unended;
            sized = g.sized;
          }),
    )

-- nothing more was there to be read
pub dry_fits : (link : Link) → awaits link ≡ true → (t : Talk) → Holds t link → Fits Dry t × Holds (acted Dry t) link
dry_fits link a t h =
    let parts = awaits_parts link a in
    let g : IsGoing t link = holds t link Open parts.0 h in (
      (g.unended parts.0, (link.said, g.goes_on, g.awaited parts.2)),
      held (acted Dry t) link Open parts.0 (record {
        is_open = g.is_open;
        goes_on = record { is_there = g.goes_on.is_there; reads = g.goes_on.reads; going = g.goes_on.going; below = g.goes_on.below; unrefused = g.goes_on.unrefused };
        counted = g.counted;
        owes = g.owes;
        awaited = g.awaited;
        unended = g.unended;
        sized = g.sized;
      }),
    )

-- ---- writing

-- what is taken changes nothing of why nothing more is answered
done_still : (t : Talk) (bytes : List ℕ) → IsDone t → IsDone (acted (Took bytes) t)
done_still t bytes (inl refused) = inl refused
done_still t bytes (inr (inl (g, ended))) =
    inr (inl (record { is_there = g.is_there; reads = g.reads; going = g.going; below = g.below; unrefused = g.unrefused }, ended))
done_still t bytes (inr (inr other)) = inr (inr other)

-- bytes that stand next were written
module _ (t : Talk) (pending pending₂ : List ℕ) (n : ℕ) (rest : pending₂ ≡ drop n pending) (owes : owed t ≡ t.took ++ pending) where
  -- what is pending is owed, in two parts
  pub owes_front : owed t ≡ t.took ++ (take n pending ++ drop n pending)
  owes_front = owes ∙ ap (λ v. t.took ++ v) (sym (take-append-drop n pending))

  -- with its front taken, its rest is owed
  pub owes_behind : owed t ≡ (t.took ++ take n pending) ++ pending₂
  owes_behind = owes_front ∙ sym (append_assoc t.took (take n pending) (drop n pending)) ∙ ap (λ v. (t.took ++ take n pending) ++ v) (sym rest)

-- bytes that were written fit, and the rest is kept
pub took_fits : (link : Link) (n : ℕ) (pending₂ : List ℕ) → 0 < length (take n link.pending) → pending₂ ≡ drop n link.pending → is_owing link ≡ true → (t : Talk) → Holds t link
    → Fits (Took (take n link.pending)) t × Holds (acted (Took (take n link.pending)) t) (record link { pending = pending₂ })
took_fits link n pending₂ some e o t h = by link.stage refl
  where
    parts : (is_taken link.stage ≡ true) × (is_none link.pending ≡ false)
    parts = owing_parts link o

    by : (s : Stage) → link.stage ≡ s → Fits (Took (take n link.pending)) t × Holds (acted (Took (take n link.pending)) t) (record link { pending = pending₂ })
    by Free is = absurd (let no = sym parts.0 ∙ ap is_taken is in cc)
    by Open is =
        let g : IsGoing t link = holds t link Open is h in (
          (some, (drop n link.pending, owes_front t link.pending pending₂ n e g.owes)),
          held (acted (Took (take n link.pending)) t) (record link { pending = pending₂ }) Open is
              (record { is_open = g.is_open; goes_on = record { is_there = g.goes_on.is_there; reads = g.goes_on.reads; going = g.goes_on.going; below = g.goes_on.below; unrefused = g.goes_on.unrefused }; counted = g.counted; owes = owes_behind t link.pending pending₂ n e g.owes; awaited = g.awaited; unended = g.unended; sized = λ left. g.sized parts.1 }),
        )
    by Ended is =
        let g : HasSaidAll t link = holds t link Ended is h in absurd (let no = sym parts.1 ∙ ap is_none g.nothing in cc)
    by Ending is =
        let g : IsEnding t link = holds t link Ending is h in (
          (some, (drop n link.pending, owes_front t link.pending pending₂ n e g.owes)),
          held (acted (Took (take n link.pending)) t) (record link { pending = pending₂ }) Ending is
              (record { is_open = g.is_open; done = done_still t (take n link.pending) g.done; owes = owes_behind t link.pending pending₂ n e g.owes; sized = λ left. g.sized parts.1 }),
        )

-- what is done is so where a peer takes nothing
done_waits : (t : Talk) → IsDone t → IsDone (acted Waits t)
done_waits t (inl refused) = inl refused
done_waits t (inr (inl (g, ended))) =
    inr (inl (record { is_there = g.is_there; reads = g.reads; going = g.going; below = g.below; unrefused = g.unrefused }, ended))
done_waits t (inr (inr other)) = inr (inr other)

-- what is kept of a connection whose peer takes nothing is what became of it
pub waits_holds : (t : Talk) (link : Link) → Holds t link → Holds (acted Waits t) link
waits_holds t link h = by link.stage refl
  where
    going : IsGoing t link → IsGoing (acted Waits t) link
    going g = record {
      is_open = g.is_open;
      goes_on = record { is_there = g.goes_on.is_there; reads = g.goes_on.reads; going = g.goes_on.going; below = g.goes_on.below; unrefused = g.goes_on.unrefused };
      counted = g.counted;
      owes = g.owes;
      awaited = g.awaited;
      unended = g.unended;
      sized = g.sized;
    }

    by : (s : Stage) → link.stage ≡ s → Holds (acted Waits t) link
    by Free is = held (acted Waits t) link Free is (holds t link Free is h)
    by Open is = held (acted Waits t) link Open is (going (holds t link Open is h))
    by Ended is =
        let s : HasSaidAll t link = holds t link Ended is h in
        held (acted Waits t) link Ended is (record { going = going s.going; ended = s.ended; nothing = s.nothing; part = s.part })
    by Ending is =
        let e : IsEnding t link = holds t link Ending is h in
        held (acted Waits t) link Ending is (record { is_open = e.is_open; done = done_waits t e.done; owes = e.owes; sized = e.sized })

-- a write of what is owed fits where the peer takes nothing, and changes nothing of what is kept
pub waits_fits : (link : Link) → is_owing link ≡ true → (t : Talk) → Holds t link → Fits Waits t × Holds (acted Waits t) link
waits_fits link o t h = (by link.stage refl, waits_holds t link h)
  where
    parts : (is_taken link.stage ≡ true) × (is_none link.pending ≡ false)
    parts = owing_parts link o

    by : (s : Stage) → link.stage ≡ s → Fits Waits t
    by Free is = absurd (let no = sym parts.0 ∙ ap is_taken is in cc)
    by Open is = let g : IsGoing t link = holds t link Open is h in inr (link.pending, some_is link.pending parts.1, g.owes)
    by Ended is =
        let g : HasSaidAll t link = holds t link Ended is h in absurd (let no = sym parts.1 ∙ ap is_none g.nothing in cc)
    by Ending is = let g : IsEnding t link = holds t link Ending is h in inr (link.pending, some_is link.pending parts.1, g.owes)

-- ---- nothing to do

-- where somebody is there, nothing is due and nothing done, nothing comes where more is awaited, and nothing is taken of what is owed, there is nothing to do
pub quiet : (t : Talk) (link : Link) → Holds t link → ¬ (link.stage ≡ Free) → ¬ (link.stage ≡ Ended) → is_due link ≡ false → is_done link ≡ false
    → (awaits link ≡ true → t.is_dry ≡ true) → (is_owing link ≡ true → t.is_blocked ≡ true) → (may_come : Bool) → IsQuiet may_come t
quiet t link h not_free not_ended not_due not_done dry tried may_come = by link.stage (is_none link.pending) link.is_awaited refl refl refl
  where
    by : (s : Stage) (n a : Bool) → link.stage ≡ s → is_none link.pending ≡ n → link.is_awaited ≡ a → IsQuiet may_come t
    by Free n a is none waits = absurd (not_free is)
    by Ended n a is none waits = absurd (not_ended is)
    by Open false a is none waits =
        let g : IsGoing t link = holds t link Open is h in inr (g.is_open, inl ((link.pending, some_is link.pending none, g.owes), tried (rw is (rw none refl))))
    by Open true true is none waits =
        let g : IsGoing t link = holds t link Open is h in inr (g.is_open, inr (inl ((g.unended is, (link.said, g.goes_on, g.awaited waits)), dry (rw is (rw none (rw waits refl))))))
    by Open true false is none waits =
        absurd (let no : is_due link ≡ true = rw is (rw none (rw waits refl)) in cc)
    by Ending false a is none waits =
        let g : IsEnding t link = holds t link Ending is h in inr (g.is_open, inl ((link.pending, some_is link.pending none, g.owes), tried (rw is (rw none refl))))
    by Ending true a is none waits = absurd (let no : is_done link ≡ true = rw is (rw none refl) in cc)
