-- All places, one after the other.
use Rattle.std.proofs.Common.{◌≡◌, ℕ, ◌+◌, ◌-◌, ◌^◌, ◌<◌, ◌≤◌, Bool, true, false, ◌||◌, List, [], ◌∷◌, length, get_or, set, refl, ap, sym, ◌∙◌, subst, inl, inr, arith, length-set, get_or-set_same, get_or-set_other}
use Rattle.std.proofs.lemmas.Bool.Decides.{nat_tests}
use Rattle.std.specs.Prelude.{nat_lt}
use Rattle.fax_http.specs.Serving.{Replying}
use Rattle.fax_net.specs.History.{GoesOn, IsAttended, IsDone, Looked, Step, Talk, comings, looked, looks, talk}
use Rattle.fax_net.specs.Deeds.{TakesIn, Writes}
use Rattle.fax_net.specs.Joining.{Joins}
use Rattle.fax_net.specs.Link.{HasSaidAll, Holds, IsEnding, IsGoing}
use Rattle.fax_net.specs.Lists.{is_none}
use Rattle.fax_net.specs.Many.{AllHold, AreFresh, GoesFrom, GoesReady, GoesRound, HaveMoved, Moves, Readies, Rounds, Runs, ServesMany}
use Rattle.fax_net.specs.declared.link.Link.{Link}
use Rattle.fax_net.specs.declared.link.Stage.{Stage}
use Rattle.fax_net.specs.declared.link.Stage.TheVariants.{Free, Open, Ended, Ending}
use Rattle.fax_net.proofs.HistoryLemmas.{goes_takes, goes_writes}
use Rattle.fax_net.proofs.JoiningLemmas.{goes_joined}
use Rattle.fax_net.proofs.LinkLemmas.{held, holds}
use Rattle.fax_net.proofs.ListLemmas.{same_or}

-- ---- a round

-- a place that was attended to is so after others
attended_or : (a b c : Bool) (t : Talk) → IsAttended a c t → IsAttended (a || b) c t
attended_or true b c t at = at
attended_or false b c t (inl (is, moved)) = absurd cc
attended_or false b c t (inr quiet) = inr quiet

-- so is one where more is to do at once
attended_on : (b c : Bool) (t : Talk) → IsAttended b c t → IsAttended true c t
attended_on b c t (inl (is, moved)) = inl (refl, moved)
attended_on b c t (inr quiet) = inr quiet

-- so is one behind others
attended_behind : (a b c : Bool) (t : Talk) → IsAttended b c t → IsAttended (a || b) c t
attended_behind true b c t (inl (is, moved)) = inl (refl, moved)
attended_behind true b c t (inr quiet) = inr quiet
attended_behind false b c t at = at

-- and where fewer are to come
attended_later : (b c c₂ : Bool) (t : Talk) → (c ≡ false → c₂ ≡ false) → IsAttended b c t → IsAttended b c₂ t
attended_later b c c₂ t fewer (inl moved) = inl moved
attended_later b c c₂ t fewer (inr (inl (closed, inl none))) = inr (inl (closed, inl (fewer none)))
attended_later b c c₂ t fewer (inr (inl (closed, inr asked))) = inr (inl (closed, inr asked))
attended_later b c c₂ t fewer (inr (inr other)) = inr (inr other)

-- where none are to come, none are later
none_later : (n m : ℕ) → m ≤ n → nat_lt 0 n ≡ false → nat_lt 0 m ≡ false
none_later n m less none = grind (arith, nat_tests)

-- whether more are to come, by how many came
may_come_is : (came left count : ℕ) → came + left ≡ count → nat_lt came count ≡ nat_lt 0 left
may_come_is came left count is = grind (arith, nat_tests)

-- a number below the next that isn't this one is below this one
below_next : (k place : ℕ) → k < place + 1 → ¬ (place ≡ k) → k < place
below_next k place under unlike = omega (arith, under, unlike)

-- one place had its turn
hold_set : (earlier later : List Step) (links : List Link) (place : ℕ) (link : Link) → AllHold earlier links → ((k : ℕ) → ¬ (place ≡ k) → talk k later ≡ talk k earlier)
    → place < length links → Holds (talk place later) link → AllHold later (set links place link)
hold_set earlier later links place link all others within here k d below = elim (same_or place k) [
  | inl is ↦ subst (λ j. Holds (talk j later) (get_or (set links place link) j d)) is (subst (λ v. Holds (talk place later) v) (sym (get_or-set_same links place link d within)) here)
  | inr unlike ↦ subst (λ t. Holds t (get_or (set links place link) k d)) (sym (others k unlike))
      (subst (λ v. Holds (talk k earlier) v) (sym (get_or-set_other links place k link d (λ e. unlike (sym e)))) (all k d (omega (arith, below, length-set {A = Link}))))
]

module _ {P H : Type 0} (did : P → Step → P → Type 0) (answers : Replying H) (over : H → Bool) (count : ℕ) where
  -- the places in front had their turn
  pub record RoundTo (place : ℕ) (peers : P) (handler : H) (links : List Link) (left₀ left : ℕ) (is_busy : Bool) (start : P) (first : H) (earlier : List Step) : Type 0 where
    pub later : List Step
    pub runs : Runs did answers over count start first later peers handler
    pub holds : AllHold later links
    pub left_is : comings later + left ≡ comings earlier + left₀
    pub looks_are : looks later ≡ looks earlier
    pub fresh : (k : ℕ) (d : Link) → place ≤ k → k < length links → is_none (get_or links k d).pending ≡ true → (talk k later).replies ≡ 0
    pub still : (k : ℕ) → place ≤ k → talk k later ≡ talk k earlier
    pub attended : over handler ≡ false → (k : ℕ) → k < place → IsAttended is_busy (nat_lt 0 left) (talk k later)

module _ {P H : Type 0} (did : P → Step → P → Type 0) (answers : Replying H) (over : H → Bool) where
  abbrev pub RoundsTo : ℕ → P → P → H → H → List Link → List Link → ℕ → ℕ → List Bool → Bool → Type 0
  RoundsTo place peers₀ peers handler₀ handler links₀ links left₀ left held_back is_busy =
      (count : ℕ) (start : P) (first : H) (earlier : List Step) → Runs did answers over count start first earlier peers₀ handler₀ → AllHold earlier links₀
      → AreFresh earlier links₀ → HaveMoved earlier held_back → RoundTo did answers over count place peers handler links left₀ left is_busy start first earlier

  -- no place had its turn yet
  pub round_begins : (peers : P) (handler : H) (links : List Link) (left : ℕ) (held_back : List Bool) → RoundsTo 0 peers peers handler handler links links left left held_back false
  round_begins peers handler links left held_back count start first earlier runs all fresh moved = record {
    later = earlier;
    runs = runs;
    holds = all;
    left_is = refl;
    looks_are = refl;
    fresh = λ k d after within. fresh k d within;
    still = λ k after. refl;
    attended = λ on k below. absurd (omega (arith, below));
  }

  module _ (place : ℕ) (peers₀ peers peers₂ : P) (handler₀ handler handler₂ : H) (links₀ links : List Link) (link₂ : Link) (left₀ left left₂ : ℕ) (held_back : List Bool) (is_busy moved : Bool) (d : Link) where
    -- one place more had its turn
    pub round_next : (Known : List Step → Type 0) → over handler ≡ false → RoundsTo place peers₀ peers handler₀ handler links₀ links left₀ left held_back is_busy → place < 64 → length links ≡ 64
        → ((history : List Step) → AllHold history links → Known history)
        → Moves did answers over place peers peers₂ handler handler₂ (get_or links place d) link₂ left left₂ Known moved (IsAttended moved (nat_lt 0 left₂))
        → RoundsTo (place + 1) peers₀ peers₂ handler₀ handler₂ links₀ (set links place link₂) left₀ left₂ held_back (is_busy || moved)
    round_next Known was_on far below size known moves count start first earlier runs all fresh have =
        let r = far count start first earlier runs all fresh have in
        let g : GoesFrom did answers over count place peers₂ handler₂ link₂ left left₂ moved (IsAttended moved (nat_lt 0 left₂)) start first r.later =
        moves count start first r.later r.runs below (r.holds place d (omega (arith, below, size))) (r.fresh place d (omega arith) (omega (arith, below, size))) (known r.later r.holds) in
        record {
          later = g.later;
          runs = g.runs;
          holds = hold_set r.later g.later links place link₂ r.holds g.others (omega (arith, below, size)) g.holds;
          left_is = omega (arith, g.left_is, r.left_is);
          looks_are = g.looks_are ∙ r.looks_are;
          fresh = λ k e after within none.
              let unlike : ¬ (place ≡ k) = (λ is. omega (arith, is, after)) in
              let still = get_or-set_other links place k link₂ e (λ is. unlike (sym is)) in
              ap (λ t. t.replies) (g.others k unlike)
              ∙ r.fresh k e (omega (arith, after)) (omega (arith, within, length-set {A = Link})) (ap (λ (l : Link). is_none l.pending) (sym still) ∙ none);
          still = λ k after. g.others k (λ is. omega (arith, is, after)) ∙ r.still k (omega (arith, after));
          attended = λ on k under. elim (same_or place k) [
            | inl is ↦ subst (λ j. IsAttended (is_busy || moved) (nat_lt 0 left₂) (talk j g.later)) is (attended_behind is_busy moved (nat_lt 0 left₂) (talk place g.later) g.also)
            | inr unlike ↦ subst (λ t. IsAttended (is_busy || moved) (nat_lt 0 left₂) t) (sym (g.others k unlike))
                (attended_later (is_busy || moved) (nat_lt 0 left) (nat_lt 0 left₂) (talk k r.later) (none_later left left₂ (omega (arith, g.left_is, g.grown)))
                (attended_or is_busy moved (nat_lt 0 left) (talk k r.later) (r.attended was_on k (below_next k place under unlike))))
          ];
        }

  module _ (place : ℕ) (peers₀ peers : P) (handler₀ handler : H) (links₀ links : List Link) (left₀ left : ℕ) (held_back : List Bool) (is_busy : Bool)
      (far : RoundsTo place peers₀ peers handler₀ handler links₀ links left₀ left held_back is_busy) where
    -- a place where something moved is held back, and more is to do there at once
    pub round_held : get_or held_back place false ≡ true → RoundsTo (place + 1) peers₀ peers handler₀ handler links₀ links left₀ left held_back true
    round_held held count start first earlier runs all fresh have =
        let r = far count start first earlier runs all fresh have in
        record {
          later = r.later;
          runs = r.runs;
          holds = r.holds;
          left_is = r.left_is;
          looks_are = r.looks_are;
          fresh = λ k e after. r.fresh k e (omega (arith, after));
          still = λ k after. r.still k (omega (arith, after));
          attended = λ on k under. elim (same_or place k) [
            | inl is ↦ subst (λ j. IsAttended true (nat_lt 0 left) (talk j r.later)) is (inl (refl, ap (λ (t : Talk). t.is_moved) (r.still place (omega arith)) ∙ have place held))
            | inr unlike ↦ attended_on is_busy (nat_lt 0 left) (talk k r.later) (r.attended on k (below_next k place under unlike))
          ];
        }

    -- where all 64 places had their turn, the round is over
    pub round_ends : 64 ≤ place → Rounds did answers over peers₀ peers handler₀ handler links₀ links left₀ left held_back is_busy
    round_ends all_of count start first earlier runs all fresh have =
        let r = far count start first earlier runs all fresh have in
        record { later = r.later; runs = r.runs; holds = r.holds; left_is = r.left_is; looks_are = r.looks_are; attended = λ on k below. r.attended on k (omega (arith, below, all_of)) }

module _ {P H : Type 0} (did : P → Step → P → Type 0) (answers : Replying H) (over : H → Bool) (place : ℕ) (peers₀ peers peers₂ : P) (handler₀ handler : H) (links₀ links : List Link) (link₂ : Link)
    (left₀ left : ℕ) (held_back : List Bool) (is_busy moved : Bool) (d : Link) where
  -- where who answers is over, what is owed to one place more is written
  pub round_written : over handler ≡ true → RoundsTo did answers over place peers₀ peers handler₀ handler links₀ links left₀ left held_back is_busy → place < 64 → length links ≡ 64
      → Writes did place peers peers₂ (get_or links place d) link₂ moved
      → RoundsTo did answers over (place + 1) peers₀ peers₂ handler₀ handler links₀ (set links place link₂) left₀ left held_back is_busy
  round_written is far below size writes count start first earlier runs all fresh have =
      let r = far count start first earlier runs all fresh have in
      let g = goes_writes did answers over count place below start first r.later peers handler r.runs peers₂ (get_or links place d) link₂ moved writes (r.holds place d (omega (arith, below, size))) in
      record {
        later = g.later;
        runs = g.runs;
        holds = hold_set r.later g.later links place link₂ r.holds g.others (omega (arith, below, size)) g.holds;
        left_is = omega (arith, g.left_is, r.left_is);
        looks_are = g.looks_are ∙ r.looks_are;
        fresh = λ k e after within none.
            let unlike : ¬ (place ≡ k) = (λ same. omega (arith, same, after)) in
            let still = get_or-set_other links place k link₂ e (λ same. unlike (sym same)) in
            ap (λ t. t.replies) (g.others k unlike)
            ∙ r.fresh k e (omega (arith, after)) (omega (arith, within, length-set {A = Link})) (ap (λ (l : Link). is_none l.pending) (sym still) ∙ none);
        still = λ k after. g.others k (λ same. omega (arith, same, after)) ∙ r.still k (omega (arith, after));
        attended = λ on. absurd (let never = sym is ∙ on in cc);
      }

-- ---- what is ready

module _ {P H : Type 0} (did : P → Step → P → Type 0) (answers : Replying H) (over : H → Bool) where
  -- the places in front were read from
  pub record HeardTo (count place : ℕ) (peers : P) (handler : H) (links : List Link) (has_read : List Bool) (start : P) (first : H) (earlier : List Step) : Type 0 where
    pub later : List Step
    pub runs : Runs did answers over count start first later peers handler
    pub holds : AllHold later links
    pub comings_are : comings later ≡ comings earlier
    pub looks_are : looks later ≡ looks earlier
    pub fresh : (k : ℕ) → (talk k later).replies ≡ 0
    pub moved : HaveMoved later has_read

  abbrev pub HearsTo : ℕ → P → P → H → List Link → List Link → List Bool → Type 0
  HearsTo place peers₀ peers handler links₀ links has_read =
      (count : ℕ) (start : P) (first : H) (earlier : List Step) → Runs did answers over count start first earlier peers₀ handler → AllHold earlier links₀
      → ((k : ℕ) → (talk k earlier).replies ≡ 0) → HeardTo count place peers handler links has_read start first earlier

  -- none was yet
  pub hears_begin : (peers : P) (handler : H) (links : List Link) (has_read : List Bool) → ((k : ℕ) → get_or has_read k false ≡ false) → HearsTo 0 peers peers handler links links has_read
  hears_begin peers handler links has_read none count start first earlier runs all fresh = record {
    later = earlier;
    runs = runs;
    holds = all;
    comings_are = refl;
    looks_are = refl;
    fresh = fresh;
    moved = λ k is. absurd (let no = sym (none k) ∙ is in cc);
  }

  -- one place more was
  pub hears_next : (place : ℕ) (peers₀ peers peers₂ : P) (handler : H) (links₀ links : List Link) (link₂ : Link) (has_read : List Bool) (moved : Bool) (d : Link) → HearsTo place peers₀ peers handler links₀ links has_read
      → place < 64 → length links ≡ 64 → length has_read ≡ 64 → TakesIn did place peers peers₂ (get_or links place d) link₂ moved
      → HearsTo (place + 1) peers₀ peers₂ handler links₀ (set links place link₂) (set has_read place moved)
  hears_next place peers₀ peers peers₂ handler links₀ links link₂ has_read moved d far below size flags takes count start first earlier runs all fresh =
      let r = far count start first earlier runs all fresh in
      let g = goes_takes did answers over count place below start first r.later peers handler r.runs peers₂ (get_or links place d) link₂ moved takes (r.holds place d (omega (arith, below, size))) in
      record {
        later = g.later;
        runs = g.runs;
        holds = hold_set r.later g.later links place link₂ r.holds g.others (omega (arith, below, size)) g.holds;
        comings_are = omega (arith, g.left_is, r.comings_are);
        looks_are = g.looks_are ∙ r.looks_are;
        fresh = λ k. elim (same_or place k) [
          | inl is ↦ subst (λ j. (talk j g.later).replies ≡ 0) is (g.also.1 ∙ r.fresh place)
          | inr unlike ↦ ap (λ t. t.replies) (g.others k unlike) ∙ r.fresh k
        ];
        moved = λ k is. elim (same_or place k) [
          | inl same ↦ subst (λ j. (talk j g.later).is_moved ≡ true) same
              (g.has_moved (sym (get_or-set_same has_read place moved false (omega (arith, below, flags))) ∙ ap (λ j. get_or (set has_read place moved) j false) same ∙ is))
          | inr unlike ↦ ap (λ t. t.is_moved) (g.others k unlike) ∙ r.moved k (sym (get_or-set_other has_read place k moved false (λ e. unlike (sym e))) ∙ is)
        ];
      }

  -- what came is held back
  pub readies_later : (place : ℕ) (peers₀ peers : P) (handler : H) (links₀ links : List Link) (has_read : List Bool) → HearsTo place peers₀ peers handler links₀ links has_read → length links ≡ 64
      → Readies did answers over peers₀ peers handler handler links₀ links has_read
  readies_later place peers₀ peers handler links₀ links has_read far size count start first earlier runs all fresh =
      let r = far count start first earlier runs all fresh in
      (size, record { later = r.later; runs = r.runs; holds = r.holds; comings_are = r.comings_are; looks_are = r.looks_are; fresh = λ k d within none. r.fresh k; moved = r.moved })

  -- or what may be answered together was
  pub readies : (place : ℕ) (peers₀ peers : P) (handler handler₂ : H) (links₀ links links₂ : List Link) (has_read none : List Bool) → over handler ≡ false
      → HearsTo place peers₀ peers handler links₀ links has_read → length links ≡ 64 → ((k : ℕ) → get_or none k false ≡ false)
      → Joins answers.together over handler handler₂ links links₂ → Readies did answers over peers₀ peers handler handler₂ links₀ links₂ none
  readies place peers₀ peers handler handler₂ links₀ links links₂ has_read none on far size off joins count start first earlier runs all fresh =
      let r = far count start first earlier runs all fresh in
      by r joins
    where
      moved : (later : List Step) → HaveMoved later none
      moved later k is = absurd (let no = sym (off k) ∙ is in cc)

      by : (r : HeardTo count place peers handler links has_read start first earlier) → Joins answers.together over handler handler₂ links links₂
          → (length links₂ ≡ 64) × GoesReady did answers over count peers handler₂ links₂ none start first earlier
      by r (inr (same, still)) = (
        ap (λ (ls : List Link). length ls) still ∙ size,
        record {
          later = r.later;
          runs = subst (λ h. Runs did answers over count start first r.later peers h) (sym same) r.runs;
          holds = subst (AllHold r.later) (sym still) r.holds;
          comings_are = r.comings_are;
          looks_are = r.looks_are;
          fresh = λ k d within none. r.fresh k;
          moved = moved r.later;
        },
      )
      by r (inl joined) =
          let g = goes_joined did answers over count start first r.later peers handler handler₂ links links₂ size r.runs r.holds on r.fresh joined none moved in (
            joined.gives.as_many ∙ size,
            record { later = g.later; runs = g.runs; holds = g.holds; comings_are = g.comings_are ∙ r.comings_are; looks_are = g.looks_are ∙ r.looks_are; fresh = g.fresh; moved = g.moved },
          )

-- one of them
pub some_link : (links : List Link) → 0 < length links → Link
some_link [] some = absurd (omega (arith, some))
some_link (link ∷ links) some = link

-- ---- looks

-- a conversation goes on past a look
goes_looked : (t : Talk) (rest : List ℕ) → GoesOn t rest → GoesOn (looked t) rest
goes_looked t rest g = record { is_there = g.is_there; reads = g.reads; going = g.going; below = g.below; unrefused = g.unrefused }

-- what is kept of it does
going_looked : (t : Talk) (link : Link) → IsGoing t link → IsGoing (looked t) link
going_looked t link g = record { is_open = g.is_open; goes_on = goes_looked t link.said g.goes_on; counted = g.counted; owes = g.owes; awaited = g.awaited; unended = g.unended; sized = g.sized }

-- what is done is so past a look
done_looked : (t : Talk) → IsDone t → IsDone (looked t)
done_looked t (inl refused) = inl refused
done_looked t (inr (inl (g, ended))) = inr (inl (goes_looked t [] g, ended))
done_looked t (inr (inr other)) = inr (inr other)

-- what is kept is what became of it past a look
holds_looked : (t : Talk) (link : Link) → Holds t link → Holds (looked t) link
holds_looked t link h = by link.stage refl
  where
    by : (s : Stage) → link.stage ≡ s → Holds (looked t) link
    by Free is = held (looked t) link Free is (holds t link Free is h)
    by Open is = held (looked t) link Open is (going_looked t link (holds t link Open is h))
    by Ended is =
        let s : HasSaidAll t link = holds t link Ended is h in
        held (looked t) link Ended is (record { going = going_looked t link s.going; ended = s.ended; nothing = s.nothing; part = s.part })
    by Ending is =
        let e : IsEnding t link = holds t link Ending is h in
        held (looked t) link Ending is (record { is_open = e.is_open; done = done_looked t e.done; owes = e.owes; sized = e.sized })

module _ {P H : Type 0} (did : P → Step → P → Type 0) (answers : Replying H) (over : H → Bool) (peers : P) (handler : H) (count : ℕ) where
  -- so often it looked, and so many are still to come
  pub record Serving (now : P) (handler₁ : H) (links : List Link) (left : ℕ) (is_busy : Bool) (rounds : ℕ) : Type 0 where
    pub history : List Step
    pub runs : Runs did answers over count peers handler history now handler₁
    pub holds : AllHold history links
    pub left_is : comings history + left ≡ count
    pub looks_are : looks history ≡ rounds
    pub attended : over handler₁ ≡ false → (k : ℕ) → k < 64 → IsAttended is_busy (nat_lt 0 left) (talk k history)

  -- with all places free, nothing was looked at yet
  pub serving_begins : (links : List Link) → ((k : ℕ) (d : Link) → k < length links → (get_or links k d).stage ≡ Free) → Serving peers handler links count true 0
  serving_begins links free = record {
    history = [];
    runs = record { happens = refl; answered = refl; right = tt };
    holds = λ k d below. held (talk k []) (get_or links k d) Free (free k d below) refl;
    left_is = omega arith;
    looks_are = refl;
    attended = λ on k below. inl (refl, refl);
  }

  module _ (now : P) (handler₁ : H) (links : List Link) (left : ℕ) (is_busy : Bool) (rounds : ℕ) (s : Serving now handler₁ links left is_busy rounds) where
    -- a look and a round more
    pub serving_next : (then ready next : P) (handler₂ handler₃ : H) (links₂ links₃ : List Link) (left₂ : ℕ) (held_back : List Bool) (busy : Bool) → over handler₁ ≡ false → did now (Looked is_busy (nat_lt 0 left)) then
        → Readies did answers over then ready handler₁ handler₂ links links₂ held_back → Rounds did answers over ready next handler₂ handler₃ links₂ links₃ left left₂ held_back busy
        → Serving next handler₃ links₃ left₂ busy (rounds + 1)
    serving_next then ready next handler₂ handler₃ links₂ links₃ left₂ held_back busy on looks_now readies round =
        let it = (readies count peers handler (Looked is_busy (nat_lt 0 left) ∷ s.history)
        (record { happens = (now, s.runs.happens, looks_now); answered = s.runs.answered; right = (s.runs.right, sym (may_come_is (comings s.history) left count s.left_is), s.attended on) })
        (λ k d below. holds_looked (talk k s.history) (get_or links k d) (s.holds k d below))
        (λ k. refl)).1 in
        let r : GoesRound did answers over count next handler₃ links₃ left left₂ busy peers handler it.later = round count peers handler it.later it.runs it.holds it.fresh it.moved in
        record {
          history = r.later;
          runs = r.runs;
          holds = r.holds;
          left_is = omega (arith, r.left_is, it.comings_are, s.left_is);
          looks_are = r.looks_are ∙ it.looks_are ∙ ap (λ n. n + 1) s.looks_are;
          attended = r.attended;
        }

    -- no more came than were to come
    within_count : comings s.history ≤ count
    within_count = omega (arith, s.left_is)

    -- where who answers is over, the serving is
    pub serves_over : over handler₁ ≡ true → ServesMany did answers over count peers handler now handler₁
    serves_over is = record { history = s.history; runs = s.runs; within = within_count; all = λ on. absurd (let never = sym is ∙ on in cc) }

    -- where all came and all places are free, all were served
    pub serves_all : left ≡ 0 → length links ≡ 64 → ((k : ℕ) (d : Link) → k < length links → (get_or links k d).stage ≡ Free)
        → ServesMany did answers over count peers handler now handler₁
    serves_all none size free = record {
      history = s.history;
      runs = s.runs;
      within = within_count;
      all = λ on below. (
        omega (arith, s.left_is, none),
        λ place under.
            let d = some_link links (omega (arith, size)) in
            let is = free place d (omega (arith, under, size)) in
            holds (talk place s.history) (get_or links place d) Free is (s.holds place d (omega (arith, under, size))),
      );
    }

    -- where it looked 2 ^ 64 - 1 times, the serving is over
    pub serves_long : 2 ^ 64 - 1 ≤ rounds → ServesMany did answers over count peers handler now handler₁
    serves_long long = record { history = s.history; runs = s.runs; within = within_count; all = λ on below. absurd (omega (arith, long, below, s.looks_are)) }
