-- The room of replies that their peers haven't taken yet.
use Rattle.std.proofs.Common.{◌≡◌, ℕ, zero, suc, ◌+◌, ◌<◌, ◌≤◌, Bool, true, false, not, ◌&&◌, List, [], ◌∷◌, ◌++◌, length, get_or, take, drop, refl, ap, ap₂, sym, ◌∙◌, subst, arith, length-append, inl, inr}
use Rattle.std.proofs.lemmas.Bool.Decides.{nat_tests}
use Rattle.std.proofs.lemmas.List.{take-append-drop, take_more}
use Rattle.std.specs.Prelude.{if◌then◌else◌, nat_le, nat_lt}
use Rattle.fax_net.specs.History.{Step, Talk, last_owed, owed, room, talk, untaken, untaken_at, untaken_from}
use Rattle.fax_net.specs.Link.{HasSaidAll, Holds, IsEnding, IsGoing, is_taken, untaken_by, untaken_in}
use Rattle.fax_net.specs.Lists.{is_none}
use Rattle.fax_net.specs.Many.{AllHold}
use Rattle.fax_net.specs.declared.link.Link.{Link}
use Rattle.fax_net.specs.declared.link.Stage.{Stage}
use Rattle.fax_net.specs.declared.link.Stage.TheVariants.{Free, Open, Ended, Ending}
use Rattle.fax_net.proofs.LinkLemmas.{holds}
use Rattle.fax_net.proofs.ListLemmas.{same_or}

-- whether something is pending is whether not all was taken
pending_untaken : (t : Talk) (pending : List ℕ) (taken : Bool) (size : ℕ) → t.is_open ≡ true → taken ≡ true → owed t ≡ t.took ++ pending
    → (is_none pending ≡ false → size ≡ length (last_owed t.refused t.turns)) → untaken_at t ≡ (if taken && not (is_none pending) then size else 0)
pending_untaken t pending taken size is there owes sized =
    ap (λ (b : Bool). if b && nat_lt (length t.took) (length (owed t)) then length (last_owed t.refused t.turns) else 0) is
    ∙ by pending owes sized ∙ sym (ap (λ (b : Bool). if b && not (is_none pending) then size else 0) there)
  where
    more : (xs : List ℕ) → owed t ≡ t.took ++ xs → length (owed t) ≡ length t.took + length xs
    more xs o = ap (λ (ys : List ℕ). length ys) o ∙ length-append t.took xs

    by : (xs : List ℕ) → owed t ≡ t.took ++ xs → (is_none xs ≡ false → size ≡ length (last_owed t.refused t.turns))
        → (if nat_lt (length t.took) (length (owed t)) then length (last_owed t.refused t.turns) else 0) ≡ (if not (is_none xs) then size else 0)
    by [] o s =
        let none : nat_lt (length t.took) (length (owed t)) ≡ false = (let same = more [] o in grind (arith, nat_tests)) in
        ap (λ (b : Bool). if b then length (last_owed t.refused t.turns) else 0) none
    by (x ∷ xs) o s =
        let some : nat_lt (length t.took) (length (owed t)) ≡ true = (let long = more (x ∷ xs) o in grind (arith, nat_tests)) in
        ap (λ (b : Bool). if b then length (last_owed t.refused t.turns) else 0) some ∙ sym (s refl)

-- so is what is kept of each connection
pub kept_untaken : (t : Talk) (link : Link) → Holds t link → untaken_at t ≡ untaken_by link
kept_untaken t link h = by link.stage refl
  where
    by : (s : Stage) → link.stage ≡ s → untaken_at t ≡ untaken_by link
    by Free is =
        ap (λ (b : Bool). if b && nat_lt (length t.took) (length (owed t)) then length (last_owed t.refused t.turns) else 0) (holds t link Free is h)
        ∙ sym (ap (λ (v : Stage). if is_taken v && not (is_none link.pending) then link.size else 0) is)
    by Open is =
        let g : IsGoing t link = holds t link Open is h in pending_untaken t link.pending (is_taken link.stage) link.size g.is_open (ap is_taken is) g.owes g.sized
    by Ended is =
        let g : HasSaidAll t link = holds t link Ended is h in
        pending_untaken t link.pending (is_taken link.stage) link.size g.going.is_open (ap is_taken is) g.going.owes g.going.sized
    by Ending is =
        let g : IsEnding t link = holds t link Ending is h in pending_untaken t link.pending (is_taken link.stage) link.size g.is_open (ap is_taken is) g.owes g.sized

-- a connection to which nothing is pending has taken all
pub none_untaken : (t : Talk) (link : Link) → Holds t link → link.pending ≡ [] → untaken_at t ≡ 0
none_untaken t link h none = kept_untaken t link h ∙ ap (λ (xs : List ℕ). if is_taken link.stage && not (is_none xs) then link.size else 0) none ∙ same (is_taken link.stage)
  where
    same : (b : Bool) → ◌≡◌ {A = ℕ} (if b && false then link.size else 0) 0
    same true = refl
    same false = refl

-- where no connection has more untaken, all haven't
pub untaken_less : (a b : List Step) → ((k : ℕ) → untaken_at (talk k a) ≤ untaken_at (talk k b)) → (place more : ℕ) → untaken_from place more a ≤ untaken_from place more b
unfolding untaken_from
untaken_less a b less place zero = omega arith
untaken_less a b less place (suc more) = omega (arith, less place, untaken_less a b less (suc place) more)

-- where one connection has taken all, and no other one changed, no more is untaken
pub others_less : (place : ℕ) (a b : List Step) → ((k : ℕ) → ¬ (place ≡ k) → talk k a ≡ talk k b) → untaken_at (talk place a) ≡ 0 → untaken a ≤ untaken b
others_less place a b others none = untaken_less a b (λ k. elim (same_or place k) [
  | inl is ↦ omega (arith, subst (λ j. untaken_at (talk j a) ≡ 0) is none)
  | inr unlike ↦ omega (arith, ap untaken_at (others k unlike))
]) 0 64

-- there is room where it isn't full
pub room_left : (n : ℕ) (full : Bool) → full ≡ nat_le room n → full ≡ false → n < room
room_left n full is empty = let no : nat_le room n ≡ false = sym is ∙ empty in grind (arith, nat_tests)

-- and none where it is
pub room_gone : (n : ℕ) (full : Bool) → full ≡ nat_le room n → full ≡ true → room ≤ n
room_gone n full is filled = let yes : nat_le room n ≡ true = sym is ∙ filled in grind (arith, nat_tests)

-- what is untaken of two lists is that of both
append_untaken : (front back : List Link) → untaken_in (front ++ back) ≡ untaken_in front + untaken_in back
append_untaken [] back = omega arith
append_untaken (link ∷ front) back = omega (arith, append_untaken front back)

-- what is untaken of one more
pub next_untaken : (links : List Link) (at : ℕ) (d : Link) → at < length links → untaken_in (take (at + 1) links) ≡ untaken_in (take at links) + untaken_by (get_or links at d)
next_untaken links at d within =
    let both : untaken_in (take (at + 1) links) ≡ untaken_in (take at links ++ get_or links at d ∷ []) = ap untaken_in (take_more links at d within) in
    let parts = append_untaken (take at links) (get_or links at d ∷ []) in
    omega (arith, both, parts)

-- of some connections no more is untaken than of all
pub front_untaken : (links : List Link) (at : ℕ) → untaken_in (take at links) ≤ untaken_in links
front_untaken links at =
    let both = append_untaken (take at links) (drop at links) in
    let all = ap untaken_in (take-append-drop at links) in
    omega (arith, both, all)

-- what is kept at all places from one on is what they haven't taken
from_untaken : (history : List Step) (links : List Link) (place more : ℕ) → length links ≡ more
    → ((k : ℕ) (d : Link) → k < length links → Holds (talk (place + k) history) (get_or links k d)) → untaken_in links ≡ untaken_from place more history
unfolding untaken_from
from_untaken history [] place zero size hold = refl
from_untaken history [] place (suc more) size hold = absurd (omega (arith, size))
from_untaken history (link ∷ links) place zero size hold = absurd (omega (arith, size))
from_untaken history (link ∷ links) place (suc more) size hold =
    let same : place + 0 ≡ place = omega arith in
    let first = kept_untaken (talk place history) link (subst (λ k. Holds (talk k history) link) same (hold 0 link (omega arith))) in
    let others = from_untaken history links (suc place) more (omega (arith, size)) (λ k d below.
    let next : place + suc k ≡ suc place + k = omega arith in
    subst (λ j. Holds (talk j history) (get_or links k d)) next (hold (suc k) d (omega (arith, below)))) in
    ap₂ ◌+◌ (sym first) others

-- so it is at all
pub all_untaken : (history : List Step) (links : List Link) → length links ≡ 64 → AllHold history links → untaken_in links ≡ untaken history
all_untaken history links size hold = from_untaken history links 0 64 size (λ k d below.
    let same : k ≡ 0 + k = omega arith in subst (λ j. Holds (talk j history) (get_or links k d)) same (hold k d below))

-- whether there is no room is known by what is kept
pub known_room : (history : List Step) (links : List Link) (place : ℕ) (d : Link) (full : Bool) → length links ≡ 64 → AllHold history links
    → full ≡ (is_taken (get_or links place d).stage && nat_le room (untaken_in links)) → full ≡ (is_taken (get_or links place d).stage && nat_le room (untaken history))
known_room history links place d full size hold is = is ∙ ap (λ n. is_taken (get_or links place d).stage && nat_le room n) (all_untaken history links size hold)
