-- Worked rows of sessions: a restart by another setup, and a session that was broken off. Of sessions and of what was heard the newest comes first.
use Rattle.std.proofs.Common.{arith, inl, inr, ap, subst, ◌∙◌}
use Rattle.std.specs.Prelude.{◌≡◌, ◌⊎◌, refl, ℕ, List, [], ◌∷◌, ◌++◌, false, map, codes}
use Rattle.fax_job.specs.declared.refusal.Refusal.TheVariants.{NoModem, Unavailable}
use Rattle.fax_core.specs.declared.ask.Ask.TheVariants.{Next}
use Rattle.fax_core.specs.Reply.{Given, Submitted}
use Rattle.fax_core.specs.Settings.{Settings, has_modem}
use Rattle.fax_core.proofs.RowWords.{hand, settings, ttyS0, ttyS1}
use Rattle.fax_run.proofs.RowsRuns.{accepted, desk, fax, lab, post, refused, start, submitted, unknown_modem, worker}
use Rattle.fax_run.specs.Reading.{IsReading, Reading}
use Rattle.fax_ask.specs.Response.{Response}
use Rattle.fax_run.specs.Run.{IsRun, Start, end_after, end_of, taken}
use Rattle.std.specs.List.{AllZip}
use Rattle.fax_run.specs.Sessions.{AllAnswered, Failed, Follow, HasFailed, IsSession, LeavesOff, MayTake, Nothing, Session, Unanswered, session_of}
use Rattle.fax_run.specs.declared.arrival.Arrival.{Arrival}

-- ---- words

-- a setup in which one modem is gone
abbrev other : Settings
other = record settings { modems = ttyS1 ∷ [] }

-- a worker of the lab asks for work
abbrev asks : List ℕ → Reading
asks modem = post lab 1 (codes "next") 2000 (Next modem)

-- the desk says the same again, later
abbrev again : Reading
again = post desk 1 (codes "a fax") 9000 fax

-- ---- a restart by another setup

-- the desk submits a fax
abbrev day : Start
day = end_of settings start (submitted ∷ [])

-- and behind the restart work is asked for at both modems
abbrev night : Start
night = end_of other day (asks ttyS1 ∷ asks ttyS0 ∷ [])

-- the second session begins from what the first left, and answers by its own setup
restart_row : (a b c : Arrival) → IsReading a submitted → IsReading b (asks ttyS0) → IsReading c (asks ttyS1)
    → Follow start
    (session_of other (b ∷ c ∷ []) (refused NoModem ∷ accepted (Given (hand 1 1 (codes "5550111") 1 2)) ∷ []) Nothing
    ∷ session_of settings (a ∷ []) (accepted (Submitted 1) ∷ []) Nothing ∷ [])
    night
restart_row a b c says_fax says_old says_new = (
  day,
  (start, refl, record { heard = submitted ∷ []; answered = inr (submitted, says_fax, refl, refl); leaves = refl }),
  record {
    heard = asks ttyS1 ∷ asks ttyS0 ∷ [];
    answered = inr (asks ttyS0, says_old, refl, inr (asks ttyS1, says_new, refl, refl));
    leaves = refl;
  },
)

-- what was taken of the second was fed under its own setup
other_setup_row : map (λ f. has_modem f.settings ttyS0) (taken other day (asks ttyS1 ∷ asks ttyS0 ∷ [])) ≡ false ∷ []
other_setup_row = refl

-- so one list leads where both sessions lead
one_list_row : end_after start (taken other day (asks ttyS1 ∷ asks ttyS0 ∷ []) ++ taken settings start (submitted ∷ [])) ≡ night
one_list_row = refl

-- ---- a session that was broken off, with the fax under way

abbrev pub broken : Arrival → Session
broken a = session_of settings [] [] (Unanswered (a ∷ []))

-- it leaves the one or the other, and nothing else
one_of_two_row : (a : Arrival) (left : Start) → IsSession start (broken a) left
    → (left ≡ start) ⊎ ((r : Reading) × IsReading a r × (left ≡ end_of settings start (r ∷ [])))
one_of_two_row a left session = elim (subst (λ heard. LeavesOff start (broken a) heard (Unanswered (a ∷ [])) left) session.answered session.leaves) [
  | inl lost ↦ inl lost
  | inr (all, (r, reads, is), leads) ↦ inr (r, reads, subst (λ rs. left ≡ end_of settings start rs) is leads)
]

-- it was taken, and the same again gets its reply, by the other setup
taken_row : (a b : Arrival) → IsReading a submitted → IsReading b again
    → Follow start (session_of other (b ∷ []) (accepted (Submitted 1) ∷ []) Nothing ∷ broken a ∷ []) (end_of other day (again ∷ []))
taken_row a b says_fax says_again = (
  day,
  (start, refl, record { heard = []; answered = refl; leaves = inr (submitted ∷ [], (submitted, says_fax, refl), refl) }),
  record { heard = again ∷ []; answered = inr (again, says_again, refl, refl); leaves = refl },
)

-- so it is one job, of the time before
taken_once_row : (end_of other day (again ∷ [])).queue.clock ≡ 1000
taken_once_row = refl

-- or it was lost, and the same again is decided anew
lost_row : (a b : Arrival) → IsReading b again
    → Follow start (session_of other (b ∷ []) (accepted (Submitted 1) ∷ []) Nothing ∷ broken a ∷ []) (end_of other start (again ∷ []))
lost_row a b says_again = (
  start,
  (start, refl, record { heard = []; answered = refl; leaves = inl refl }),
  record { heard = again ∷ []; answered = inr (again, says_again, refl, refl); leaves = refl },
)

-- so it is one job, of the time afterwards
lost_once_row : (end_of other start (again ∷ [])).queue.clock ≡ 9000
lost_once_row = refl

-- ---- the ends

-- no session leaves where all began
no_session_row : (first last : Start) → Follow first [] last → last ≡ first
no_session_row first last follow = follow

-- what was under way was heard behind what was answered
under_way_row : (a b : Arrival) → IsReading a submitted → IsReading b worker
    → IsSession start (session_of settings (a ∷ []) (accepted (Submitted 1) ∷ []) (Unanswered (b ∷ []))) (end_of settings start (worker ∷ submitted ∷ []))
under_way_row a b says_fax says_next = record { heard = submitted ∷ []; answered = inr (submitted, says_fax, refl, refl); leaves = inr (worker ∷ submitted ∷ [], (worker, says_next, refl), refl) }

-- ---- one that was answered 503

-- it was taken after what was answered before it, where a refused request was heard since
failed_row : (a b c : Arrival) → IsReading a submitted → IsReading b worker → IsReading c unknown_modem
    → IsSession start (session_of settings (a ∷ b ∷ c ∷ []) (accepted (Submitted 1) ∷ refused Unavailable ∷ refused NoModem ∷ []) (Failed (b ∷ [])))
    (end_of settings start (worker ∷ unknown_modem ∷ submitted ∷ []))
failed_row a b c says_fax says_next says_other = record {
  heard = unknown_modem ∷ submitted ∷ [];
  answered = inr (submitted, says_fax, refl, inl (refl, inr (unknown_modem, says_other, refl, refl)));
  leaves = (
    record {
      before = a ∷ [];
      after = c ∷ [];
      one = refl;
      replied = accepted (Submitted 1) ∷ [];
      failed = refused Unavailable ∷ [];
      more = refused NoModem ∷ [];
      answers = refl;
      each = (refl, tt);
      later = unknown_modem ∷ [];
      earlier = submitted ∷ [];
      parts = refl;
      answered = inr (submitted, says_fax, refl, refl);
      still = refl;
    },
    inr (worker ∷ unknown_modem ∷ submitted ∷ [], (worker, says_next, refl), refl),
  );
}

-- an empty list has no item in it
none : {X : Type 0} (xs ys : List X) (x : X) → [] ≡ xs ++ x ∷ ys → ⊥
none [] ys x is = cc
none (y ∷ xs) ys x is = cc

-- each reply of a batch says 503
abbrev AreRefused : List Arrival → List Response → Type 0
AreRefused batch replies = AllZip (λ (a : Arrival) reply. reply ≡ refused Unavailable) batch replies

-- where one came, it was that one, it was answered 503, and nothing was taken
only_failed_row : (s : Settings) (from : Start) (a b : Arrival) (reply : Response) (heard : List Reading) → HasFailed s from (a ∷ []) (reply ∷ []) heard (b ∷ [])
    → (a ≡ b) × (reply ≡ refused Unavailable) × (end_of s from heard ≡ from)
only_failed_row s from a b reply heard it = by it.before it.one it.replied it.failed it.answers it.each it.answered
  where
    by : (before : List Arrival) → a ∷ [] ≡ before ++ b ∷ it.after → (replied failed : List Response) → reply ∷ [] ≡ replied ++ (failed ++ it.more)
        → AreRefused (b ∷ []) failed → IsRun s from [] before replied it.earlier → (a ≡ b) × (reply ≡ refused Unavailable) × (end_of s from heard ≡ from)
    by [] one [] [] answers each answered = absurd each
    by [] one [] (x ∷ []) answers (is, nothing) answered =
        let same : reply ≡ x = cc in
        (cc, same ∙ is, it.still ∙ ap (end_of s from) answered)
    by [] one [] (x ∷ y ∷ failed) answers (is, more) answered = absurd more
    by [] one (other ∷ replied) failed answers each answered = absurd answered
    by (c ∷ before) one replied failed answers each answered = absurd (none before it.after b cc)

-- where two came and both were under way, each of them was
both_failed_row : (s : Settings) (from : Start) (a b : Arrival) (reply second : Response) (heard : List Reading)
    → HasFailed s from (a ∷ b ∷ []) (reply ∷ second ∷ []) heard (a ∷ b ∷ []) → (reply ≡ refused Unavailable) × (second ≡ refused Unavailable) × (end_of s from heard ≡ from)
both_failed_row s from a b reply second heard it = by it.before it.one it.replied it.failed it.answers it.each it.answered
  where
    by : (before : List Arrival) → a ∷ b ∷ [] ≡ before ++ a ∷ b ∷ it.after → (replied failed : List Response) → reply ∷ second ∷ [] ≡ replied ++ (failed ++ it.more)
        → AreRefused (a ∷ b ∷ []) failed → IsRun s from [] before replied it.earlier
        → (reply ≡ refused Unavailable) × (second ≡ refused Unavailable) × (end_of s from heard ≡ from)
    by [] one [] [] answers each answered = absurd each
    by [] one [] (x ∷ []) answers (is, more) answered = absurd more
    by [] one [] (x ∷ y ∷ []) answers (is, (too, nothing)) answered =
        let same : reply ≡ x = cc in
        let after : second ≡ y = cc in
        (same ∙ is, after ∙ too, it.still ∙ ap (end_of s from) answered)
    by [] one [] (x ∷ y ∷ z ∷ failed) answers (is, (too, more)) answered = absurd more
    by [] one (said ∷ replied) failed answers each answered = absurd answered
    by (c ∷ []) one replied failed answers each answered = absurd (none [] it.after b cc)
    by (c ∷ d ∷ before) one replied failed answers each answered = absurd (none before (b ∷ it.after) a cc)

-- a batch of two that wasn't answered leaves both or neither
both_row : (a b : Arrival) (left : Start) → IsSession start (session_of settings [] [] (Unanswered (a ∷ b ∷ []))) left
    → (left ≡ start) ⊎ ((r q : Reading) × IsReading a r × IsReading b q × (left ≡ end_of settings start (q ∷ r ∷ [])))
both_row a b left session = elim (subst (λ heard. MayTake settings start heard (a ∷ b ∷ []) left) session.answered session.leaves) [
  | inl lost ↦ inl lost
  | inr (all, (r, reads, (q, too, is)), leads) ↦ inr (r, q, reads, too, subst (λ rs. left ≡ end_of settings start rs) is leads)
]

-- so what was refused wasn't under way
refused_row : (a : Arrival) (left : Start) → ¬ IsSession start (session_of settings (a ∷ []) (refused NoModem ∷ []) (Failed (a ∷ []))) left
refused_row a left session = by (only_failed_row settings start a a (refused NoModem) session.heard session.leaves.0).1
  where
    by : refused NoModem ≡ refused Unavailable → ⊥
    by is = omega (arith, ap (λ (r : Response). r.status) is)

-- nor was what was taken
done_row : (a : Arrival) (left : Start) → ¬ IsSession start (session_of settings (a ∷ []) (accepted (Submitted 1) ∷ []) (Failed (a ∷ []))) left
done_row a left session = by (only_failed_row settings start a a (accepted (Submitted 1)) session.heard session.leaves.0).1
  where
    by : accepted (Submitted 1) ≡ refused Unavailable → ⊥
    by is = omega (arith, ap (λ (r : Response). r.status) is)

-- whatever came was answered where nothing was under way, or one that failed
all_answered_row : (a : Arrival) → AllAnswered Nothing × AllAnswered (Failed (a ∷ [])) × ¬ AllAnswered (Unanswered (a ∷ []))
all_answered_row a = (tt, tt, λ none. none)
