-- Worked rows of histories: what becomes of one connection, which steps fit it, and what has to be done for it before a look.
use Rattle.std.proofs.Common.{◌≡◌, ◌⊎◌, ℕ, ◌+◌, ◌<◌, ◌≤◌, Bool, true, false, List, [], ◌∷◌, ◌++◌, length, Option, None, Some, refl, ap, sym, ◌∙◌, subst, inl, inr, arith}
use Rattle.std.specs.Prelude.{codes}
use Rattle.fax_http.specs.declared.message.Broken.TheVariants.{BadHttp, TooLarge}
use Rattle.fax_http.specs.Conversation.{EndWithLast, GoOn, Reads, Turn, failure_of, spelled_turn, spelled_turns}
use Rattle.fax_http.specs.Message.{BeginsWith, IsBad, IsTooLarge, IsUnfinished, StaysBad}
use Rattle.fax_http.specs.Serving.{Replying}
use Rattle.fax_http.proofs.TurnLemmas.{none_unfinished}
use Rattle.fax_net.specs.History.{AreAnswered, Answered, AsksForListing, At, Awaits, Came, Dry, Ended, Failed, FailsIn, Fits, GoesOn, Happens, HasRoom, Held, IsAttended, IsBroken, IsDone, IsNext, IsOverAtLast, IsOwing, IsRight, Left, Looked, MayJoin, Missed, Refused, Said, Step, Talk, Together, Took, Waits, asks_for_listing, comings, last_owed, looks, owed, room, talk, turns_of, untaken, untaken_at, untaken_from}

-- ---- what becomes of a connection

-- a connection that came and was looked at, and of which nothing else is known
abbrev there : Talk
there = record {
  is_open = true;
  said = [];
  turns = [];
  refused = None;
  took = [];
  has_ended = false;
  is_over = false;
  is_dry = false;
  is_blocked = false;
  is_moved = false;
  is_held = false;
  replies = 0;
}

-- it has said the front of a request line, and nothing more
abbrev spoke : Talk
spoke = record there { said = codes "GET" }

abbrev begun : List Step
begun = At 3 Dry ∷ At 3 (Said (codes "GET")) ∷ At 3 Came ∷ Looked true true ∷ []

begun_row : talk 3 begun ≡ record spoke { is_dry = true; is_moved = true }
begun_row = refl

-- at another place nobody is
others_row : talk 4 begun ≡ record there { is_open = false }
others_row = refl

-- before the first look each place counts as moved
first_row : talk 4 [] ≡ record there { is_open = false; is_moved = true }
first_row = refl

came_row : talk 3 (At 3 Came ∷ Looked true true ∷ []) ≡ record there { is_moved = true }
came_row = refl

-- one that can't be accepted leaves the place free, and nothing moved
missed_row : talk 3 (At 3 Missed ∷ Looked true true ∷ []) ≡ record there { is_open = false; is_blocked = true }
missed_row = refl

-- a look keeps what a connection said and took; all else has to be found again after it
looked_row : talk 3 (Looked true true ∷ begun) ≡ spoke
looked_row = refl

-- what it says then follows what it said before, and whether there is more isn't known
said_row : talk 3 (At 3 (Said (codes " /")) ∷ Looked true true ∷ begun) ≡ record there { said = codes "GET /"; is_moved = true }
said_row = refl

said_after_dry_row : talk 3 (At 3 (Said (codes " /")) ∷ begun) ≡ record there { said = codes "GET /"; is_moved = true }
said_after_dry_row = refl

-- one that is read from and says nothing moves nothing
dry_row : talk 3 (At 3 Dry ∷ Looked true true ∷ begun) ≡ record spoke { is_dry = true }
dry_row = refl

ended_row : talk 3 (At 3 Ended ∷ Looked true true ∷ begun) ≡ record spoke { has_ended = true; is_moved = true }
ended_row = refl

-- one that is written to and takes nothing moves nothing
waits_row : talk 3 (At 3 Waits ∷ Looked true true ∷ begun) ≡ record spoke { is_blocked = true }
waits_row = refl

looked_waits_row : talk 3 (Looked false true ∷ At 3 Waits ∷ Looked true true ∷ begun) ≡ spoke
looked_waits_row = refl

-- what it takes follows what it took before, and whether it takes more isn't known
took_row : talk 3 (At 3 (Took (3 ∷ [])) ∷ At 3 Waits ∷ Looked true true ∷ At 3 (Took (1 ∷ 2 ∷ [])) ∷ begun) ≡ record spoke { took = 1 ∷ 2 ∷ 3 ∷ []; is_moved = true }
took_row = refl

failed_row : talk 3 (At 3 Failed ∷ Looked true true ∷ begun) ≡ record spoke { is_open = false; is_moved = true }
failed_row = refl

left_row : talk 3 (At 3 Left ∷ Looked true true ∷ begun) ≡ record spoke { is_open = false; is_moved = true }
left_row = refl

held_row : talk 3 (At 3 Held ∷ Looked true true ∷ begun) ≡ record spoke { is_held = true }
held_row = refl

looked_held_row : talk 3 (Looked true true ∷ At 3 Held ∷ Looked true true ∷ begun) ≡ spoke
looked_held_row = refl

-- what was refused is owed to it, and was not written yet
refused_row : talk 3 (At 3 (Refused TooLarge) ∷ At 3 Waits ∷ Looked true true ∷ begun) ≡ record spoke { refused = Some TooLarge; is_moved = true }
refused_row = refl

module _ (a b : Turn) where
  -- so is a reply; the replies are in order, and those since the look are counted
  answered_row : talk 3 (At 3 (Answered b true) ∷ At 3 Waits ∷ Looked true true ∷ At 3 (Answered a false) ∷ begun)
      ≡ record spoke { turns = a ∷ b ∷ []; is_over = true; is_moved = true; replies = 1 }
  answered_row = refl

  counted_row : talk 3 (At 3 (Answered b false) ∷ At 3 (Answered a true) ∷ begun)
      ≡ record spoke { turns = a ∷ b ∷ []; is_dry = true; is_moved = true; replies = 2 }
  counted_row = refl

  looked_answered_row : talk 3 (Looked true true ∷ At 3 (Answered a false) ∷ begun) ≡ record spoke { turns = a ∷ [] }
  looked_answered_row = refl

  -- the next one at the place knows nothing of the one before, but what was answered there since the look counts
  again_row : talk 3 (At 3 Came ∷ At 3 Left ∷ At 3 Ended ∷ At 3 (Refused BadHttp) ∷ At 3 (Took (1 ∷ [])) ∷ At 3 (Answered a true) ∷ begun)
      ≡ record there { is_moved = true; replies = 1 }
  again_row = refl

  -- ---- what is owed

  -- replies first, and then the refusal
  owed_row : owed (record spoke { turns = a ∷ b ∷ []; refused = Some BadHttp }) ≡ spelled_turns (a ∷ b ∷ []) ++ failure_of BadHttp
  owed_row = refl

  unrefused_row : owed (record spoke { turns = a ∷ [] }) ≡ spelled_turns (a ∷ []) ++ []
  unrefused_row = refl

  -- ---- all connections

  -- the messages in the order of their replies, whatever their places
  turns_row : turns_of (At 3 (Answered b false) ∷ At 3 Dry ∷ Looked true true ∷ At 5 (Answered a false) ∷ []) ≡ a ∷ b ∷ []
  turns_row = refl

  -- the last reply is one that may be untaken
  last_row : last_owed None (a ∷ b ∷ []) ≡ spelled_turn b
  last_row = refl

  only_row : last_owed None (a ∷ []) ≡ spelled_turn a
  only_row = refl

  last_refused_row : last_owed (Some BadHttp) (a ∷ b ∷ []) ≡ failure_of BadHttp
  last_refused_row = refl

  -- who answers was over at no message but the last
  over_row : (is_over : Bool) → IsOverAtLast (Looked true true ∷ At 3 (Answered b is_over) ∷ At 3 Dry ∷ At 5 (Answered a false) ∷ []) is_over
  over_row is_over = (refl, (refl, tt))

  not_over_row : (over : Bool) → ¬ IsOverAtLast (At 3 (Answered b over) ∷ At 5 (Answered a true) ∷ []) over
  not_over_row over (is, (never, none)) = absurd cc

  over_last_row : ¬ IsOverAtLast (At 3 (Answered b true) ∷ []) false
  over_last_row (is, none) = absurd cc

  -- ---- messages that are answered together

  -- those of the places 0 and 2
  abbrev both : List (Option Turn)
  both = Some a ∷ None ∷ Some b ∷ []

  -- each of the two has its own
  joined_row : (earlier : List Step) → ((talk 0 (Together both true ∷ earlier)).turns ≡ (talk 0 earlier).turns ++ a ∷ [])
      × ((talk 2 (Together both true ∷ earlier)).turns ≡ (talk 2 earlier).turns ++ b ∷ [])
  joined_row earlier = (refl, refl)

  -- the place between them and those after them have nothing
  not_joined_row : (earlier : List Step) → (talk 1 (Together both true ∷ earlier) ≡ talk 1 earlier) × (talk 3 (Together both true ∷ earlier) ≡ talk 3 earlier)
  not_joined_row earlier = (refl, refl)

  joined_over_row : (earlier : List Step) → (talk 2 (Together both true ∷ earlier)).is_over ≡ true
  joined_over_row earlier = refl

  -- each of them is the next one there, and there are 64 places
  together_right_row : (count : ℕ) (earlier : List Step) → IsRight count (Together both true ∷ earlier)
      → IsRight count earlier × MayJoin (talk 0 earlier) a × MayJoin (talk 2 earlier) b
  together_right_row count earlier (right, within, each) = (right, each 0, each 2)

  together_many_row : (count : ℕ) (turns : List (Option Turn)) → IsRight count (Together turns false ∷ []) → length turns ≤ 64
  together_many_row count turns (right, within, each) = within

  together_turns_row : turns_of (Together both true ∷ At 3 (Answered b false) ∷ []) ≡ b ∷ a ∷ b ∷ []
  together_turns_row = refl

  together_not_over_row : (over : Bool) → ¬ IsOverAtLast (At 3 (Answered b over) ∷ Together both true ∷ []) over
  together_not_over_row over (is, (never, none)) = absurd cc

  together_before_row : (over : Bool) → ¬ IsOverAtLast (Together both over ∷ At 5 (Answered a true) ∷ []) over
  together_before_row over (is, (never, none)) = absurd cc

  together_between_row : (over : Bool) → ¬ IsOverAtLast (At 3 (Answered b over) ∷ Together both false ∷ At 5 (Answered a true) ∷ []) over
  together_between_row over (is, (on, (never, none))) = absurd cc

  together_last_row : ¬ IsOverAtLast (Together both true ∷ []) false
  together_last_row (is, none) = absurd cc

  module _ {H : Type 0} (answers : Replying H) (over : H → Bool) (old new : H) where
    -- those two are answered from what the first message left
    together_answered_row : AreAnswered answers over old (Together both true ∷ At 3 Dry ∷ At 5 (Answered a false) ∷ []) new
        → (between : H) × (answers.one old a.head a.body a.reply between) × (answers.together between (a ∷ b ∷ []) new) × (over old ≡ false) × (over between ≡ false) × (true ≡ over new)
    together_answered_row (between, (start, first, on, step, is), on₂, step₂, is₂) =
        (between, subst (λ h. answers.one h a.head a.body a.reply between) first step, step₂, subst (λ h. over h ≡ false) first on, on₂, is₂)

    -- the second is answered from what the first left, and the first from what there was
    in_order_row : AreAnswered answers over old (At 3 (Answered b true) ∷ At 3 Dry ∷ At 5 (Answered a false) ∷ []) new
        → (between : H) × (answers.one old a.head a.body a.reply between) × (answers.one between b.head b.body b.reply new) × (over old ≡ false) × (over between ≡ false) × (true ≡ over new)
    in_order_row (between, (start, first, on, step, is), on₂, step₂, is₂) =
        (between, subst (λ h. answers.one h a.head a.body a.reply between) first step, step₂, subst (λ h. over h ≡ false) first on, on₂, is₂)

  module _ {P : Type 0} (did : P → Step → P → Type 0) (old new : P) where
    -- the connections do each step but the answers
    happens_row : Happens did old (At 3 Dry ∷ At 3 (Answered a false) ∷ At 3 (Refused BadHttp) ∷ At 3 Came ∷ []) new
        → (between : P) × did old (At 3 Came) between × did between (At 3 Dry) new
    happens_row (between, (start, first, came), dry) = (between, subst (λ p. did p (At 3 Came) between) first came, dry)

    together_happens_row : Happens did old (Together both false ∷ At 3 Came ∷ []) new → did old (At 3 Came) new
    together_happens_row (start, first, came) = subst (λ p. did p (At 3 Came) new) first came

-- one that joins is the next one, and asks for no listing
joins_row : (t : Talk) (turn : Turn) → MayJoin t turn → (turn.head.method ≡ codes "POST") × ((next : IsNext t turn) × (asks_for_listing next.rest ≡ false))
joins_row t turn joins = (joins.method, (joins.next, joins.small))

-- those that can't be accepted count as well
comings_row : comings (At 4 Missed ∷ At 3 Waits ∷ Looked true true ∷ At 3 Came ∷ []) ≡ 2
comings_row = refl

looks_row : looks (Looked false true ∷ At 3 Came ∷ Looked true true ∷ []) ≡ 2
looks_row = refl

-- ---- what fits

-- empty lines in front count for nothing
listing_row : asks_for_listing (13 ∷ 10 ∷ 10 ∷ codes "GET /jobs HTTP/1.1") ≡ true
listing_row = refl

one_job_row : asks_for_listing (codes "GET /jobs/7 HTTP/1.1") ≡ false
one_job_row = refl

part_row : asks_for_listing (codes "GET /jobs") ≡ false
part_row = refl

blank_row : asks_for_listing (13 ∷ 10 ∷ []) ≡ false
blank_row = refl

module _ (t : Talk) (rest : List ℕ) where
  goes_on_row : GoesOn t rest → (t.is_open ≡ true) × Reads t.said t.turns rest × GoOn t.turns × (t.refused ≡ None)
  goes_on_row goes = (goes.is_there, goes.reads, goes.going, goes.unrefused)

  -- nothing more is looked for after 1,000 messages
  bound_row : length t.turns ≡ 1000 → ¬ GoesOn t rest
  bound_row all goes = absurd (omega (arith, all, goes.below))

  asks_row : AsksForListing t → (asked : List ℕ) × GoesOn t asked × (asks_for_listing asked ≡ true)
  asks_row (asked, goes, asks) = (asked, goes, asks)

  awaits_row : Awaits t → (t.has_ended ≡ false) × ((part : List ℕ) × GoesOn t part × IsUnfinished part)
  awaits_row (on, (part, goes, unfinished)) = (on, (part, goes, unfinished))

  -- a message is answered where all that was owed was taken
  next_row : (turn : Turn) → IsNext t turn → (from next : List ℕ) × GoesOn t from × BeginsWith from turn.head turn.body next × (owed t ≡ t.took) × (t.replies ≡ 0)
  next_row turn next = (next.rest, next.next, next.goes_on, next.begins, next.paid, next.first)

  broken_row : IsBroken t TooLarge → (from : List ℕ) × GoesOn t from × (0 < length from) × IsTooLarge from
  broken_row broken = (broken.rest, broken.goes_on, broken.some, broken.fails)

  -- it is read from where a message is awaited, and written to where something is owed, or nobody is there to come
  dry_fits_row : Fits Dry t → Awaits t
  dry_fits_row awaited = awaited

  waits_fits_row : Fits Waits t → (t.is_open ≡ false) ⊎ ((left : List ℕ) × (0 < length left) × (owed t ≡ t.took ++ left))
  waits_fits_row why = why

  -- what it takes comes next in what is owed to it, and is at least one byte
  took_fits_row : owed t ≡ 1 ∷ 2 ∷ 3 ∷ [] → t.took ≡ 1 ∷ [] → Fits (Took (2 ∷ [])) t
  took_fits_row owes took = (omega arith, (3 ∷ [], owes ∙ ap (λ (xs : List ℕ). xs ++ 2 ∷ 3 ∷ []) (sym took)))

  took_other_row : owed t ≡ 1 ∷ 2 ∷ 3 ∷ [] → t.took ≡ 1 ∷ [] → ¬ Fits (Took (3 ∷ [])) t
  took_other_row owes took (some, (left, is)) = absurd (let no : 1 ∷ 2 ∷ 3 ∷ [] ≡ 1 ∷ 3 ∷ left = sym owes ∙ is ∙ ap (λ (xs : List ℕ). xs ++ 3 ∷ left) took in cc)

  took_nothing_row : ¬ Fits (Took []) t
  took_nothing_row (some, (left, is)) = absurd (omega (arith, some))

  said_nothing_row : ¬ Fits (Said []) t
  said_nothing_row (some, awaited) = absurd (omega (arith, some))

  said_fits_row : Fits (Said rest) t → Awaits t
  said_fits_row (some, awaited) = awaited

  ended_fits_row : Fits Ended t → Awaits t
  ended_fits_row awaited = awaited

  left_fits_row : Fits Left t → IsDone t × (owed t ≡ t.took)
  left_fits_row (done, paid) = (done, paid)

  held_fits_row : Fits Held t → AsksForListing t
  held_fits_row asks = asks

-- a message is awaited of one that has just come
awaits_nothing_row : Awaits (talk 3 (At 3 Came ∷ []))
awaits_nothing_row = (refl, ([], record { is_there = refl; reads = refl; going = tt; below = omega arith; unrefused = refl }, none_unfinished))

-- an unfinished message is broken only where nothing more is said
unended_row : (said : List ℕ) → ¬ StaysBad said → ¬ FailsIn (talk 3 (At 3 (Said said) ∷ At 3 Came ∷ [])) said BadHttp
unended_row said may_come (inl bad) = absurd (may_come bad)
unended_row said may_come (inr (bad, ended)) = absurd cc

ended_broken_row : (said : List ℕ) → IsBad said → FailsIn (talk 3 (At 3 Ended ∷ At 3 (Said said) ∷ At 3 Came ∷ [])) said BadHttp
ended_broken_row said bad = inr (bad, refl)

-- ---- the end of a conversation

-- a conversation that goes on isn't done
not_done_row : ¬ IsDone (talk 3 (At 3 Came ∷ []))
not_done_row (inl (broken, is)) = absurd cc
not_done_row (inr (inl (goes, ended))) = absurd cc
not_done_row (inr (inr (inl last))) = no last.earlier last.parts
  where
    no : (earlier : List Turn) → [] ≡ earlier ++ last.last ∷ [] → ⊥
    no [] is = absurd cc
    no (x ∷ xs) is = absurd cc
not_done_row (inr (inr (inr (inl over)))) = absurd cc
not_done_row (inr (inr (inr (inr all)))) = absurd cc

-- it is where nothing more is said, or something was refused
done_ended_row : IsDone (talk 3 (At 3 Ended ∷ At 3 Came ∷ []))
done_ended_row = inr (inl (record { is_there = refl; reads = refl; going = tt; below = omega arith; unrefused = refl }, refl))

done_refused_row : IsDone (talk 3 (At 3 (Refused TooLarge) ∷ begun))
done_refused_row = inl (TooLarge, refl)

done_over_row : (turn : Turn) → IsDone (talk 3 (At 3 (Answered turn true) ∷ begun))
done_over_row turn = inr (inr (inr (inl refl)))

done_last_row : (turn : Turn) → EndWithLast (turn ∷ []) → IsDone (talk 3 (At 3 (Answered turn false) ∷ begun))
done_last_row turn last = inr (inr (inl last))

-- ---- histories

-- two connections at one place
came_twice_row : ¬ IsRight 2 (At 3 Came ∷ At 3 Came ∷ [])
came_twice_row (earlier, below, free, roomy) = absurd cc

missed_there_row : ¬ IsRight 2 (At 3 Missed ∷ At 3 Came ∷ [])
missed_there_row (earlier, below, free, roomy) = absurd cc

-- none is there to fail
failed_nobody_row : ¬ IsRight 1 (At 3 Failed ∷ [])
failed_nobody_row (earlier, below, open_there, roomy) = absurd cc

-- there are 64 places
place_row : IsRight 1 (At 63 Came ∷ [])
place_row = (tt, omega arith, refl, tt)

no_place_row : ¬ IsRight 1 (At 64 Came ∷ [])
no_place_row (earlier, below, free, roomy) = absurd (omega (arith, below))

-- what came before is right too
earlier_row : ¬ IsRight 1 (At 3 Dry ∷ At 3 Failed ∷ [])
earlier_row ((earlier, below, open_there, roomy), below₂, awaited, roomy₂) = absurd cc

-- a message more, between two looks
twice_row : (a b : Turn) (earlier : List Step) (count : ℕ) → ¬ IsRight count (At 3 (Answered b false) ∷ At 3 (Answered a false) ∷ earlier)
twice_row a b earlier count (right, below, next, roomy) = absurd (let never = next.first in omega (arith, never))

-- a refusal of the first bytes: they are read, refused, and the refusal is written before the server waits
module _ (said : List ℕ) (some : 0 < length said) (bad : StaysBad said) (owes : 0 < length (failure_of BadHttp)) where
  abbrev broke : List Step
  broke = At 3 (Refused BadHttp) ∷ At 3 (Said said) ∷ At 3 Came ∷ Looked true true ∷ []

  broke_row : IsRight 1 broke
  broke_row = (
    (
      ((tt, refl, λ place below. inl (refl, refl)), omega arith, refl, tt),
      omega arith,
      (some, (refl, ([], record { is_there = refl; reads = refl; going = tt; below = omega arith; unrefused = refl }, none_unfinished))),
      tt,
    ),
    omega arith,
    record { rest = said; goes_on = record { is_there = refl; reads = refl; going = tt; below = omega arith; unrefused = refl }; some = some; fails = inl bad },
    tt,
  )

  written_row : IsAttended false false (talk 3 (At 3 Waits ∷ broke))
  written_row = inr (inr (refl, inl ((failure_of BadHttp, owes, refl), refl)))

  unwritten_row : ¬ IsAttended false false (talk 3 broke)
  unwritten_row (inl (busy, moved)) = absurd cc
  unwritten_row (inr (inl (closed, why))) = absurd cc
  unwritten_row (inr (inr (here, inl (owing, tried)))) = absurd cc
  unwritten_row (inr (inr (here, inr (inl (waits, dry))))) = absurd cc
  unwritten_row (inr (inr (here, inr (inr held)))) = absurd cc

  -- nor does a write before the last look count
  unwritten_again_row : ¬ IsAttended true false (talk 3 (Looked true true ∷ At 3 Waits ∷ broke))
  unwritten_again_row (inl (busy, moved)) = absurd cc
  unwritten_again_row (inr (inl (closed, why))) = absurd cc
  unwritten_again_row (inr (inr (here, inl (owing, tried)))) = absurd cc
  unwritten_again_row (inr (inr (here, inr (inl (waits, dry))))) = absurd cc
  unwritten_again_row (inr (inr (here, inr (inr held)))) = absurd cc

  -- where something moved, a look that doesn't wait is right
  moved_row : IsAttended true false (talk 3 broke)
  moved_row = inl (refl, refl)

-- a reply is written too
unwritten_reply_row : (turn : Turn) → ¬ IsAttended false false (talk 3 (At 3 (Answered turn false) ∷ At 3 Waits ∷ At 3 (Said (codes "GET")) ∷ At 3 Came ∷ []))
unwritten_reply_row turn (inl (busy, moved)) = absurd cc
unwritten_reply_row turn (inr (inl (closed, why))) = absurd cc
unwritten_reply_row turn (inr (inr (here, inl (owing, tried)))) = absurd cc
unwritten_reply_row turn (inr (inr (here, inr (inl (waits, dry))))) = absurd cc
unwritten_reply_row turn (inr (inr (here, inr (inr held)))) = absurd cc

-- what is owed to one that waits
owing_row : (t : Talk) → t.is_open ≡ true → t.is_held ≡ false → t.is_dry ≡ false → IsAttended false true t → IsOwing t × (t.is_blocked ≡ true)
owing_row t here unheld wet (inl (busy, moved)) = absurd cc
owing_row t here unheld wet (inr (inl (closed, why))) = absurd (let never = sym here ∙ closed in cc)
owing_row t here unheld wet (inr (inr (is, inl (owing, tried)))) = (owing, tried)
owing_row t here unheld wet (inr (inr (is, inr (inl (waits, dry))))) = absurd (let never = sym wet ∙ dry in cc)
owing_row t here unheld wet (inr (inr (is, inr (inr held)))) = absurd (let never = sym unheld ∙ held in cc)

-- one that said no more is left alone, once that was found since the last look
dry_quiet_row : IsAttended false true (talk 3 (At 3 Dry ∷ Looked true true ∷ At 3 Came ∷ []))
dry_quiet_row = inr (inr (refl, inr (inl ((refl, ([], record { is_there = refl; reads = refl; going = tt; below = omega arith; unrefused = refl }, none_unfinished)), refl))))

unread_row : ¬ IsAttended true true (talk 3 (Looked true true ∷ begun))
unread_row (inl (busy, moved)) = absurd cc
unread_row (inr (inl (closed, why))) = absurd cc
unread_row (inr (inr (here, inl (owing, tried)))) = absurd cc
unread_row (inr (inr (here, inr (inl (waits, dry))))) = absurd cc
unread_row (inr (inr (here, inr (inr held)))) = absurd cc

-- where a whole message is there, that it says no more is no reason
whole_row : (t : Talk) → t.is_open ≡ true → t.is_held ≡ false → t.is_blocked ≡ false → IsAttended false true t → Awaits t × (t.is_dry ≡ true)
whole_row t here unheld free (inl (busy, moved)) = absurd cc
whole_row t here unheld free (inr (inl (closed, why))) = absurd (let never = sym here ∙ closed in cc)
whole_row t here unheld free (inr (inr (is, inl (owing, tried)))) = absurd (let never = sym free ∙ tried in cc)
whole_row t here unheld free (inr (inr (is, inr (inl awaited)))) = awaited
whole_row t here unheld free (inr (inr (is, inr (inr held)))) = absurd (let never = sym unheld ∙ held in cc)

-- one that is held is left alone, until the next look
held_quiet_row : IsAttended false true (talk 3 (At 3 Held ∷ Looked true true ∷ begun))
held_quiet_row = inr (inr (refl, inr (inr refl)))

-- but not one that has gone since
held_gone_row : ¬ IsAttended false true (talk 3 (At 3 Failed ∷ At 3 Held ∷ Looked true true ∷ begun))
held_gone_row (inl (busy, moved)) = absurd cc
held_gone_row (inr (inl (closed, inl none))) = absurd cc
held_gone_row (inr (inl (closed, inr asked))) = absurd cc
held_gone_row (inr (inr (here, inl (owing, tried)))) = absurd cc
held_gone_row (inr (inr (here, inr (inl (waits, dry))))) = absurd cc
held_gone_row (inr (inr (here, inr (inr held)))) = absurd cc

-- nothing moved since the last look
still_row : ¬ IsAttended true true (talk 3 (At 3 Dry ∷ Looked true true ∷ []))
still_row (inl (busy, moved)) = absurd cc
still_row (inr (inl (closed, inl none))) = absurd cc
still_row (inr (inl (closed, inr asked))) = absurd cc
still_row (inr (inr (here, inl (owing, tried)))) = absurd cc
still_row (inr (inr (here, inr (inl (waits, dry))))) = absurd cc
still_row (inr (inr (here, inr (inr held)))) = absurd cc

-- a free place is given to the next connection, as long as more are to come
asked_row : IsAttended false true (talk 3 (At 3 Waits ∷ Looked true true ∷ []))
asked_row = inr (inl (refl, inr refl))

all_came_row : IsAttended false false (talk 3 (Looked true true ∷ []))
all_came_row = inr (inl (refl, inl refl))

unasked_row : ¬ IsAttended true true (talk 3 (Looked true true ∷ []))
unasked_row (inl (busy, moved)) = absurd cc
unasked_row (inr (inl (closed, inl none))) = absurd cc
unasked_row (inr (inl (closed, inr asked))) = absurd cc
unasked_row (inr (inr (here, inl (owing, tried)))) = absurd cc
unasked_row (inr (inr (here, inr (inl (waits, dry))))) = absurd cc
unasked_row (inr (inr (here, inr (inr held)))) = absurd cc

-- before each look each place is attended to
look_row : IsRight 2 (Looked false true ∷ At 3 Missed ∷ []) → IsRight 2 (At 3 Missed ∷ []) × IsAttended false true (talk 63 (At 3 Missed ∷ []))
look_row (earlier, may, attended) = (earlier, attended 63 (omega arith))

-- of two connections one is still to come, and of one none is
more_to_come_row : ¬ IsRight 2 (Looked false false ∷ At 3 Missed ∷ [])
more_to_come_row (earlier, may, attended) = absurd cc

last_look_row : ¬ IsRight 1 (Looked false true ∷ At 3 Missed ∷ [])
last_look_row (earlier, may, attended) = absurd cc

-- ---- room

-- 64 MB
room_row : room ≡ 64000000
room_row = refl

-- a reply of which a byte isn't taken counts as a whole, the last one alone
untaken_row : (t : Talk) (x : ℕ) → t.is_open ≡ true → owed t ≡ x ∷ [] → t.took ≡ [] → untaken_at t ≡ length (last_owed t.refused t.turns)
untaken_row t x here owes none = rw here (rw owes (rw none refl))

taken_row : (t : Talk) (x : ℕ) → t.is_open ≡ true → owed t ≡ x ∷ [] → t.took ≡ x ∷ [] → untaken_at t ≡ 0
taken_row t x here owes all = rw here (rw owes (rw all refl))

closed_row : (t : Talk) → t.is_open ≡ false → untaken_at t ≡ 0
closed_row t gone = rw gone refl

-- all 64 places are counted
module _ (history : List Step) where
  sum_row : untaken_from 62 2 history ≡ untaken_at (talk 62 history) + (untaken_at (talk 63 history) + 0)
  unfolding untaken_from
  sum_row = refl

  all_row : untaken history ≡ untaken_from 0 64 history
  all_row = refl

  held_room_row : HasRoom Held 3 history → room ≤ untaken history
  held_room_row full = full

  answered_room_row : (turn : Turn) → HasRoom (Answered turn false) 3 history
      → (rest : List ℕ) × GoesOn (talk 3 history) rest × (asks_for_listing rest ≡ true → untaken history < room)
  answered_room_row turn (rest, goes, roomy) = (rest, goes, roomy)

  -- nothing else needs room
  roomy_row : HasRoom Dry 3 history
  roomy_row = tt
