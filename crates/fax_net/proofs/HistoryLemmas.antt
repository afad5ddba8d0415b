-- A history that goes on at one place.
use Rattle.std.proofs.Common.{◌≡◌, ◌⊎◌, ℕ, ◌+◌, ◌<◌, ◌≤◌, Bool, true, false, ◌||◌, List, ◌∷◌, refl, ap, sym, ◌∙◌, subst, inl, inr, arith}
use Rattle.std.proofs.lemmas.Bool.{eq-eqb}
use Rattle.std.specs.Prelude.{if◌then◌else◌}
use Rattle.fax_http.specs.Serving.{Replying}
use Rattle.fax_net.specs.Deeds.{Acts, Does, TakesIn, TakesMore, Writes, is_deed, moves}
use Rattle.fax_net.specs.History.{Act, Answered, AreAnswered, At, Came, Dry, Ended, Failed, Fits, Happens, HasRoom, Held, IsRight, Left, Missed, Refused, Said, Step, Talk, Took, Waits, acted, comings, talk}
use Rattle.fax_net.specs.Link.{Holds, awaits, is_owing}
use Rattle.fax_net.specs.Many.{GoesFrom, Runs}
use Rattle.fax_net.specs.declared.link.Link.{Link}
use Rattle.fax_net.proofs.ListLemmas.{unlike}

-- ---- what an act tells of its place and of others

-- an act at a place changes what became of the connection there
pub talk_here : (place : ℕ) (act : Act) (earlier : List Step) → talk place (At place act ∷ earlier) ≡ acted act (talk place earlier)
talk_here place act earlier =
    ap (λ (b : Bool). if b then acted act (talk place earlier) else talk place earlier) (eq-eqb place place refl)

-- and at no other place
pub talk_there : (place k : ℕ) (act : Act) (earlier : List Step) → ¬ (place ≡ k) → talk k (At place act ∷ earlier) ≡ talk k earlier
talk_there place k act earlier n =
    ap (λ (b : Bool). if b then acted act (talk k earlier) else talk k earlier) (unlike place k n)

-- what moved has moved after another act
pub still_moved : (act : Act) (t : Talk) → t.is_moved ≡ true → (acted act t).is_moved ≡ true
still_moved Came t e = refl
still_moved Missed t e = e
still_moved (Said bytes) t e = refl
still_moved Dry t e = e
still_moved Ended t e = refl
still_moved (Took bytes) t e = refl
still_moved Waits t e = e
still_moved Failed t e = refl
still_moved Left t e = refl
still_moved Held t e = e
still_moved (Answered turn is_over) t e = refl
still_moved (Refused broken) t e = refl

-- an act that moves something has moved it
pub has_moved : (act : Act) (t : Talk) → moves act ≡ true → (acted act t).is_moved ≡ true
has_moved Came t e = refl
has_moved Missed t e = absurd cc
has_moved (Said bytes) t e = refl
has_moved Dry t e = absurd cc
has_moved Ended t e = refl
has_moved (Took bytes) t e = refl
has_moved Waits t e = absurd cc
has_moved Failed t e = refl
has_moved Left t e = refl
has_moved Held t e = absurd cc
has_moved (Answered turn is_over) t e = refl
has_moved (Refused broken) t e = refl

-- ---- deeds

-- by a deed no message more is answered
replies_deed : (act : Act) (t : Talk) → is_deed act ≡ true → (acted act t).replies ≡ t.replies
replies_deed Came t e = absurd cc
replies_deed Missed t e = absurd cc
replies_deed (Said bytes) t e = refl
replies_deed Dry t e = refl
replies_deed Ended t e = refl
replies_deed (Took bytes) t e = refl
replies_deed Waits t e = refl
replies_deed Failed t e = refl
replies_deed Left t e = refl
replies_deed Held t e = absurd cc
replies_deed (Answered turn is_over) t e = absurd cc
replies_deed (Refused broken) t e = absurd cc

-- by a deed that moves nothing, a peer that took nothing takes nothing still
blocked_deed : (act : Act) (t : Talk) → is_deed act ≡ true → moves act ≡ false → t.is_blocked ≡ true → (acted act t).is_blocked ≡ true
blocked_deed Came t e n blocked = absurd cc
blocked_deed Missed t e n blocked = absurd cc
blocked_deed (Said bytes) t e n blocked = absurd cc
blocked_deed Dry t e n blocked = blocked
blocked_deed Ended t e n blocked = absurd cc
blocked_deed (Took bytes) t e n blocked = absurd cc
blocked_deed Waits t e n blocked = refl
blocked_deed Failed t e n blocked = absurd cc
blocked_deed Left t e n blocked = absurd cc
blocked_deed Held t e n blocked = absurd cc
blocked_deed (Answered turn is_over) t e n blocked = absurd cc
blocked_deed (Refused broken) t e n blocked = absurd cc

-- where nothing moved, a peer that took nothing before takes nothing still
abbrev pub StaysBlocked : Bool → Talk → Talk → Type 0
StaysBlocked moved before t = moved ≡ false → before.is_blocked ≡ true → t.is_blocked ≡ true

-- what is known after a write: where something was owed and nothing moved, the peer took nothing
abbrev pub HasWritten : Link → Bool → Talk → Type 0
HasWritten link moved t = moved ≡ false → is_owing link ≡ true → t.is_blocked ≡ true

-- what is known after a read, where `before` was known: whether nothing more is there, as many answers as before, and whether its peer still takes nothing
abbrev pub HasTaken : Link → Bool → Talk → Talk → Type 0
HasTaken link moved before t = (moved ≡ false → awaits link ≡ true → t.is_dry ≡ true) × (t.replies ≡ before.replies) × StaysBlocked moved before t

module _ {P : Type 0} (did : P → Step → P → Type 0) (start p p₂ : P) (earlier : List Step) (place : ℕ) where
  -- a deed happens behind the others
  pub happens_deed : (act : Act) → is_deed act ≡ true → Happens did start earlier p → did p (At place act) p₂ → Happens did start (At place act ∷ earlier) p₂
  happens_deed Came e h d = absurd cc
  happens_deed Missed e h d = absurd cc
  happens_deed (Said bytes) e h d = (p, h, d)
  happens_deed Dry e h d = (p, h, d)
  happens_deed Ended e h d = (p, h, d)
  happens_deed (Took bytes) e h d = (p, h, d)
  happens_deed Waits e h d = (p, h, d)
  happens_deed Failed e h d = (p, h, d)
  happens_deed Left e h d = (p, h, d)
  happens_deed Held e h d = absurd cc
  happens_deed (Answered turn is_over) e h d = absurd cc
  happens_deed (Refused broken) e h d = absurd cc

-- a deed answers nothing
pub answered_deed : {H : Type 0} (answers : Replying H) (over : H → Bool) (first h : H) (earlier : List Step) (place : ℕ) (act : Act) → is_deed act ≡ true
    → AreAnswered answers over first earlier h → AreAnswered answers over first (At place act ∷ earlier) h
answered_deed answers over first h earlier place Came e a = absurd cc
answered_deed answers over first h earlier place Missed e a = absurd cc
answered_deed answers over first h earlier place (Said bytes) e a = a
answered_deed answers over first h earlier place Dry e a = a
answered_deed answers over first h earlier place Ended e a = a
answered_deed answers over first h earlier place (Took bytes) e a = a
answered_deed answers over first h earlier place Waits e a = a
answered_deed answers over first h earlier place Failed e a = a
answered_deed answers over first h earlier place Left e a = a
answered_deed answers over first h earlier place Held e a = absurd cc
answered_deed answers over first h earlier place (Answered turn is_over) e a = absurd cc
answered_deed answers over first h earlier place (Refused broken) e a = absurd cc

-- by a deed nobody comes
pub comings_deed : (earlier : List Step) (place : ℕ) (act : Act) → is_deed act ≡ true → comings (At place act ∷ earlier) ≡ comings earlier
comings_deed earlier place Came e = absurd cc
comings_deed earlier place Missed e = absurd cc
comings_deed earlier place (Said bytes) e = refl
comings_deed earlier place Dry e = refl
comings_deed earlier place Ended e = refl
comings_deed earlier place (Took bytes) e = refl
comings_deed earlier place Waits e = refl
comings_deed earlier place Failed e = refl
comings_deed earlier place Left e = refl
comings_deed earlier place Held e = absurd cc
comings_deed earlier place (Answered turn is_over) e = absurd cc
comings_deed earlier place (Refused broken) e = absurd cc

-- a deed needs no room
room_deed : (earlier : List Step) (place : ℕ) (act : Act) → is_deed act ≡ true → HasRoom act place earlier
room_deed earlier place Came e = absurd cc
room_deed earlier place Missed e = absurd cc
room_deed earlier place (Said bytes) e = tt
room_deed earlier place Dry e = tt
room_deed earlier place Ended e = tt
room_deed earlier place (Took bytes) e = tt
room_deed earlier place Waits e = tt
room_deed earlier place Failed e = tt
room_deed earlier place Left e = tt
room_deed earlier place Held e = absurd cc
room_deed earlier place (Answered turn is_over) e = absurd cc
room_deed earlier place (Refused broken) e = absurd cc

-- no fewer have come after an act
comings_grow : (earlier : List Step) (place : ℕ) (act : Act) → comings earlier ≤ comings (At place act ∷ earlier)
comings_grow earlier place Came = omega arith
comings_grow earlier place Missed = omega arith
comings_grow earlier place (Said bytes) = omega arith
comings_grow earlier place Dry = omega arith
comings_grow earlier place Ended = omega arith
comings_grow earlier place (Took bytes) = omega arith
comings_grow earlier place Waits = omega arith
comings_grow earlier place Failed = omega arith
comings_grow earlier place Left = omega arith
comings_grow earlier place Held = omega arith
comings_grow earlier place (Answered turn is_over) = omega arith
comings_grow earlier place (Refused broken) = omega arith

-- ---- one place

module _ {P H : Type 0} (did : P → Step → P → Type 0) (answers : Replying H) (over : H → Bool) (count : ℕ) (place : ℕ) (below : place < 64) (start : P) (first : H) (earlier : List Step) where
  -- one act more
  pub goes_by : (act : Act) (p₂ : P) (h₂ : H) (link₂ : Link) (left left₂ : ℕ) (moved : Bool) (Wanted : Talk → Type 0)
      → IsRight count earlier → Happens did start (At place act ∷ earlier) p₂ → AreAnswered answers over first (At place act ∷ earlier) h₂
      → Fits act (talk place earlier) → HasRoom act place earlier → Holds (acted act (talk place earlier)) link₂ → comings (At place act ∷ earlier) + left₂ ≡ comings earlier + left
      → moved ≡ moves act → Wanted (acted act (talk place earlier))
      → GoesFrom did answers over count place p₂ h₂ link₂ left left₂ moved Wanted start first earlier
  goes_by act p₂ h₂ link₂ left left₂ moved Wanted right happens answered fits has_room holds came moved_is wanted = record {
    later = At place act ∷ earlier;
    runs = record { happens = happens; answered = answered; right = (right, below, fits, has_room) };
    holds = subst (λ t. Holds t link₂) (sym (talk_here place act earlier)) holds;
    others = λ k n. talk_there place k act earlier n;
    left_is = came;
    grown = comings_grow earlier place act;
    looks_are = refl;
    stays_moved = λ e. ap (λ t. t.is_moved) (talk_here place act earlier) ∙ still_moved act (talk place earlier) e;
    has_moved = λ e. ap (λ t. t.is_moved) (talk_here place act earlier) ∙ has_moved act (talk place earlier) (sym moved_is ∙ e);
    also = subst Wanted (sym (talk_here place act earlier)) wanted;
  }

  module _ (p : P) (h : H) (runs : Runs did answers over count start first earlier p h) where
    -- nothing more
    pub goes_still : (link₂ : Link) (left : ℕ) (moved : Bool) (Wanted : Talk → Type 0) → Holds (talk place earlier) link₂ → moved ≡ false → Wanted (talk place earlier)
        → GoesFrom did answers over count place p h link₂ left left moved Wanted start first earlier
    goes_still link₂ left moved Wanted holds unmoved wanted = record {
      later = earlier;
      runs = runs;
      holds = holds;
      others = λ k n. refl;
      left_is = refl;
      grown = omega arith;
      looks_are = refl;
      stays_moved = λ e. e;
      has_moved = λ e. absurd (let b = sym unmoved ∙ e in cc);
      also = wanted;
    }

    -- a deed
    pub goes_deed : (p₂ : P) (link link₂ : Link) (act : Act) (moved : Bool) (Wanted : Talk → Type 0) → Acts did place p p₂ link link₂ act moved → Holds (talk place earlier) link
        → Wanted (acted act (talk place earlier)) → GoesFrom did answers over count place p₂ h link₂ 0 0 moved Wanted start first earlier
    goes_deed p₂ link link₂ act moved Wanted acts holds wanted =
        let fits = acts.fits (talk place earlier) holds in
        goes_by act p₂ h link₂ 0 0 moved Wanted runs.right (happens_deed did start p p₂ earlier place act acts.is_deed runs.happens acts.happens)
        (answered_deed answers over first h earlier place act acts.is_deed runs.answered) fits.0 (room_deed earlier place act acts.is_deed) fits.1
        (ap (λ n. n + 0) (comings_deed earlier place act acts.is_deed)) acts.moved_is wanted

    -- a deed, or nothing
    pub goes_does : (p₂ : P) (link link₂ : Link) (moved : Bool) → Does did place p p₂ link link₂ moved → Holds (talk place earlier) link
        → GoesFrom did answers over count place p₂ h link₂ 0 0 moved (StaysBlocked moved (talk place earlier)) start first earlier
    goes_does p₂ link link₂ moved (inl (act, acts)) holds =
        goes_deed p₂ link link₂ act moved (StaysBlocked moved (talk place earlier)) acts holds
        (λ unmoved blocked. blocked_deed act (talk place earlier) acts.is_deed (sym acts.moved_is ∙ unmoved) blocked)
    goes_does p₂ link link₂ moved (inr (same, still, unmoved)) holds =
        subst (λ v. GoesFrom did answers over count place v h link₂ 0 0 moved (StaysBlocked moved (talk place earlier)) start first earlier) (sym same)
        (goes_still link₂ 0 moved (StaysBlocked moved (talk place earlier)) (subst (λ l. Holds (talk place earlier) l) (sym still) holds) unmoved
        (λ b blocked. blocked))

    -- a write of what is owed; where nothing moved, the peer took nothing
    pub goes_writes : (p₂ : P) (link link₂ : Link) (moved : Bool) → Writes did place p p₂ link link₂ moved → Holds (talk place earlier) link
        → GoesFrom did answers over count place p₂ h link₂ 0 0 moved (HasWritten link moved) start first earlier
    goes_writes p₂ link link₂ moved (inl (act, acts, waits)) holds =
        goes_deed p₂ link link₂ act moved (HasWritten link moved) acts holds
        (λ unmoved owes. ap (λ a. (acted a (talk place earlier)).is_blocked) (waits unmoved))
    goes_writes p₂ link link₂ moved (inr (none, (same, still, unmoved))) holds =
        subst (λ v. GoesFrom did answers over count place v h link₂ 0 0 moved (HasWritten link moved) start first earlier) (sym same)
        (goes_still link₂ 0 moved (HasWritten link moved) (subst (λ l. Holds (talk place earlier) l) (sym still) holds) unmoved
        (λ b owes. absurd (let c = sym none ∙ owes in cc)))

    -- the same of a read, by which nothing is answered; where nothing moved, nothing more was said
    pub goes_takes : (p₂ : P) (link link₂ : Link) (moved : Bool) → TakesIn did place p p₂ link link₂ moved → Holds (talk place earlier) link
        → GoesFrom did answers over count place p₂ h link₂ 0 0 moved (HasTaken link moved (talk place earlier)) start first earlier
    goes_takes p₂ link link₂ moved (inl (act, acts, dry)) holds =
        goes_deed p₂ link link₂ act moved (HasTaken link moved (talk place earlier)) acts holds (
          (λ unmoved waits. ap (λ a. (acted a (talk place earlier)).is_dry) (dry unmoved)),
          replies_deed act (talk place earlier) acts.is_deed,
          λ unmoved blocked. blocked_deed act (talk place earlier) acts.is_deed (sym acts.moved_is ∙ unmoved) blocked,
        )
    goes_takes p₂ link link₂ moved (inr (none, (same, still, unmoved))) holds =
        subst (λ v. GoesFrom did answers over count place v h link₂ 0 0 moved (HasTaken link moved (talk place earlier)) start first earlier) (sym same)
        (goes_still link₂ 0 moved (HasTaken link moved (talk place earlier)) (subst (λ l. Holds (talk place earlier) l) (sym still) holds) unmoved
        ((λ b waits. absurd (let c = sym none ∙ waits in cc)), refl, λ b blocked. blocked))

    -- so it does where something was written before, and nothing is read
    pub goes_more : (p₂ : P) (link link₂ : Link) (written moved : Bool) → TakesMore did place p p₂ link link₂ written moved → Holds (talk place earlier) link
        → (written ≡ true → (talk place earlier).is_moved ≡ true) → GoesFrom did answers over count place p₂ h link₂ 0 0 moved (HasTaken link moved (talk place earlier)) start first earlier
    goes_more p₂ link link₂ written moved (inr takes) holds has = goes_takes p₂ link link₂ moved takes holds
    goes_more p₂ link link₂ written moved (inl (is, more, same, still)) holds has =
        subst (λ v. GoesFrom did answers over count place v h link₂ 0 0 moved (HasTaken link moved (talk place earlier)) start first earlier) (sym same) (record {
          later = earlier;
          runs = runs;
          holds = subst (λ l. Holds (talk place earlier) l) (sym still) holds;
          others = λ k n. refl;
          left_is = refl;
          grown = omega arith;
          looks_are = refl;
          stays_moved = λ e. e;
          has_moved = λ e. has is;
          also = ((λ b waits. absurd (let c = sym more ∙ b in cc)), refl, λ b blocked. blocked);
        })

-- ---- one after the other

-- where one of two is, either is
either : (a b : Bool) → (a || b) ≡ true → (a ≡ true) ⊎ (b ≡ true)
either true b e = inl refl
either false b e = inr e

module _ {P H : Type 0} (did : P → Step → P → Type 0) (answers : Replying H) (over : H → Bool) (count : ℕ) (place : ℕ) (start : P) (first : H) (earlier : List Step)
    (p₁ p₂ : P) (h₁ h₂ : H) (link₁ link₂ : Link) (moved₁ moved₂ : Bool) (Wanted₁ Wanted₂ : Talk → Type 0) where
  -- what goes on at one place and then again goes on
  pub goes_both : (g : GoesFrom did answers over count place p₁ h₁ link₁ 0 0 moved₁ Wanted₁ start first earlier)
      → GoesFrom did answers over count place p₂ h₂ link₂ 0 0 moved₂ Wanted₂ start first g.later
      → GoesFrom did answers over count place p₂ h₂ link₂ 0 0 (moved₁ || moved₂) Wanted₂ start first earlier
  goes_both g f = record {
    later = f.later;
    runs = f.runs;
    holds = f.holds;
    others = λ k n. f.others k n ∙ g.others k n;
    left_is = f.left_is ∙ g.left_is;
    grown = omega (arith, f.grown, g.grown);
    looks_are = f.looks_are ∙ g.looks_are;
    stays_moved = λ e. f.stays_moved (g.stays_moved e);
    has_moved = λ e. elim (either moved₁ moved₂ e) [
      | inl one ↦ f.stays_moved (g.has_moved one)
      | inr two ↦ f.has_moved two
    ];
    also = f.also;
  }
