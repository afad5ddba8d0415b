-- What stays of what is kept, when clients give up their replies.
use Rattle.std.proofs.Common.{◌≡◌, ◌⊎◌, inl, inr, ℕ, eqb, Bool, true, false, not, ◌&&◌, nat_le, nat_lt, List, [], ◌∷◌, filter, None, refl, sym, ap, ap₂, ◌∙◌, arith, true≢false, if◌then◌else◌}
use Rattle.std.specs.List.{find}
use Rattle.std.specs.Str.{bytes_eq}
use Rattle.std.specs.Cmp.Lexicographic.{bytes_decides}
use Rattle.std.proofs.lemmas.Bool.{and_parts, cases_Bool, eqb-true}
use Rattle.std.proofs.lemmas.Bool.Decides.{nat_tests}
use Rattle.fax_core.specs.declared.ask.Ask.{Ask}
use Rattle.fax_core.specs.declared.ask.Ask.TheVariants.{GiveUp}
use Rattle.fax_core.specs.Ledger.{Ledger, floors_with, greater, is_through, kept_for}
use Rattle.fax_core.specs.Queue.{Entry}
use Rattle.fax_run.specs.Run.{floors_by}
use Rattle.fax_run.specs.Verdict.{is_too_high, raised_ask, without_given}

-- ---- requests that give up replies, and all others

pub record GivesNone (ask : Ask) : Type 0 where
  pub kept : (client : List ℕ) (k : Ledger) → without_given client ask k ≡ k
  pub raised : (floor : ℕ) → raised_ask floor ask ≡ ask
  pub low : (number : ℕ) → is_too_high number ask ≡ false
  pub floors : (client : List ℕ) (floors : List ℕ → ℕ) → floors_by client ask floors ≡ floors

-- a request gives up replies, or none
pub gives : (ask : Ask) → ((upto : ℕ) × (ask ≡ GiveUp upto)) ⊎ GivesNone ask
gives (GiveUp upto) = inl (upto, refl)
gives other = inr (record { kept = λ c k. refl; raised = λ f. refl; low = λ n. refl; floors = λ c f. refl })

-- ---- the greater of two

-- the greater of a number and the greater of two with it is that, by how they compare
twice : (a b : ℕ) (x : Bool) → nat_lt a b ≡ x → greater a (if x then b else a) ≡ (if x then b else a)
twice a b true is = ap (λ y. if y then b else a) is
twice a b false is = same (nat_lt a a)
  where
    same : (y : Bool) → (if y then a else a) ≡ a
    same true = refl
    same false = refl

-- the greater of a number and the greater of two with it is the greater of the two
pub greater_twice : (a b : ℕ) → greater a (greater a b) ≡ greater a b
greater_twice a b = twice a b (nat_lt a b) refl

-- what is above a number is above each below that
above_less : (a b n : ℕ) → nat_lt a b ≡ true → nat_lt b n ≡ true → nat_lt a n ≡ true
above_less a b n low high = grind (arith, nat_tests)

-- what is above the greater of two, by how they compare, is above the first
above_both : (a b n : ℕ) (x : Bool) → nat_lt a b ≡ x → nat_lt (if x then b else a) n ≡ true → nat_lt a n ≡ true
above_both a b n true is above = above_less a b n is above
above_both a b n false is above = above

-- what is above the greater is above each
pub above_first : (a b n : ℕ) → nat_lt (greater a b) n ≡ true → nat_lt a n ≡ true
above_first a b n above = above_both a b n (nat_lt a b) refl above

-- ---- what is found still

-- what is kept of entries finds the same, where it keeps each that is looked for
keeps_finding : (q keep : Entry → Bool) (rs : List Entry) → ((e : Entry) → q e ≡ true → keep e ≡ true) → find q (filter keep rs) ≡ find q rs
keeps_finding q keep [] all = refl
keeps_finding q keep (e ∷ rs) all = by (q e) (keep e) refl refl (keeps_finding q keep rs all)
  where
    by : (b d : Bool) → q e ≡ b → keep e ≡ d → find q (filter keep rs) ≡ find q rs → find q (filter keep (e ∷ rs)) ≡ find q (e ∷ rs)
    by true true is on rest = rw (on, is) refl
    by true false is off rest = absurd (true≢false (sym (all e is) ∙ off))
    by false true is on rest = rw (on, is) rest
    by false false is off rest = rw (off, is) rest

-- where none was found, none is in part of the entries
finds_none : (q keep : Entry → Bool) (rs : List Entry) → find q rs ≡ None → find q (filter keep rs) ≡ None
finds_none q keep [] none = refl
finds_none q keep (e ∷ rs) none = by (q e) (keep e) refl refl (finds_none q keep rs)
  where
    by : (b d : Bool) → q e ≡ b → keep e ≡ d → (find q rs ≡ None → find q (filter keep rs) ≡ None) → find q (filter keep (e ∷ rs)) ≡ None
    by true d is on rest = absurd (let no = rw is at none in cc)
    by false true is on rest = rw (on, is) (rest (rw is at none))
    by false false is off rest = rw off (rest (rw is at none))

-- a number above the floor isn't through it
not_through : (floor n : ℕ) → nat_lt floor n ≡ true → nat_le n floor ≡ false
not_through floor n above = grind (arith, nat_tests)

-- the reply to a number above the floor stays
stays_above : (c client : List ℕ) (n floor : ℕ) → (bytes_eq c client ≡ true → nat_lt floor n ≡ true) → (e : Entry) → (bytes_eq e.client c && eqb e.number n) ≡ true → not (is_through client floor e) ≡ true
stays_above c client n floor above e is =
    let parts = and_parts (bytes_eq e.client c) (eqb e.number n) is in
    let its : bytes_eq e.client client ≡ bytes_eq c client = ap (λ x. bytes_eq x client) ((bytes_decides e.client c).0 parts.0) in
    elim (cases_Bool (bytes_eq c client)) [
      | inl on ↦ ap₂ (λ a b. not (a && b)) (its ∙ on) (ap (λ x. nat_le x floor) (eqb-true e.number n parts.1) ∙ not_through floor n (above on))
      | inr off ↦ ap (λ a. not (a && nat_le e.number floor)) (its ∙ off)
    ]

module _ (client : List ℕ) (ask : Ask) (k : Ledger) (c : List ℕ) (n : ℕ) where
  abbrev after : Ledger
  after = without_given client ask k

  -- where the client gives up replies, a number above its floor finds the same
  found_given : (upto : ℕ) → ask ≡ GiveUp upto → nat_lt (after.floor c) n ≡ true → kept_for c n after.replies ≡ kept_for c n k.replies
  found_given upto is above =
      let floor = greater (k.floor client) upto in
      let high : nat_lt (floors_with client floor k.floor c) n ≡ true = ap (λ a. nat_lt ((without_given client a k).floor c) n) (sym is) ∙ above in
      ap (λ a. kept_for c n (without_given client a k).replies) is
      ∙ keeps_finding (λ e. bytes_eq e.client c && eqb e.number n) (λ e. not (is_through client floor e)) k.replies (stays_above c client n floor (λ same. rw same at high))

  -- a reply above the floor is found as before
  pub given_finds : nat_lt (after.floor c) n ≡ true → kept_for c n after.replies ≡ kept_for c n k.replies
  given_finds above = elim (gives ask) [
    | inl it ↦ found_given it.0 it.1 above
    | inr other ↦ ap (λ (l : Ledger). kept_for c n l.replies) (other.kept client k)
  ]

  -- and where none was found, none is
  pub given_none : kept_for c n k.replies ≡ None → kept_for c n after.replies ≡ None
  given_none none = elim (gives ask) [
    | inl it ↦ ap (λ a. kept_for c n (without_given client a k).replies) it.1 ∙ finds_none (λ e. bytes_eq e.client c && eqb e.number n) (λ e. not (is_through client (greater (k.floor client) it.0) e)) k.replies none
    | inr other ↦ ap (λ (l : Ledger). kept_for c n l.replies) (other.kept client k) ∙ none
  ]

  -- where the client gives up replies, a number above its floor then was above it before
  raised_over : (upto : ℕ) → ask ≡ GiveUp upto → nat_lt (after.floor c) n ≡ true → nat_lt (k.floor c) n ≡ true
  raised_over upto is above =
      let high : nat_lt (floors_with client (greater (k.floor client) upto) k.floor c) n ≡ true = ap (λ a. nat_lt ((without_given client a k).floor c) n) (sym is) ∙ above in
      elim (cases_Bool (bytes_eq c client)) [
        | inl on ↦ ap (λ x. nat_lt (k.floor x) n) ((bytes_decides c client).0 on) ∙ above_first (k.floor client) upto n (rw on at high)
        | inr off ↦ rw off at high
      ]

  -- a floor rises only
  pub floors_rise : nat_lt (after.floor c) n ≡ true → nat_lt (k.floor c) n ≡ true
  floors_rise above = elim (gives ask) [
    | inl it ↦ raised_over it.0 it.1 above
    | inr other ↦ ap (λ (l : Ledger). nat_lt (l.floor c) n) (sym (other.kept client k)) ∙ above
  ]

-- the floor as it is asked for is the floor as it is raised
pub floors_same : (client : List ℕ) (ask : Ask) (k : Ledger) → (without_given client (raised_ask (k.floor client) ask) k).floor ≡ floors_by client ask k.floor
floors_same client ask k = elim (gives ask) [
  | inl it ↦ rw (it.1, greater_twice) refl
  | inr other ↦ rw (other.raised (k.floor client), other.kept client k, other.floors client k.floor) refl
]
