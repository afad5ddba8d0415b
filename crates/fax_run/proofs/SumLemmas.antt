-- Over a run from the empty queue the counters of a job are what it came in with and the counts of its reports.
use Rattle.std.proofs.Common.{◌≡◌, ◌⊎◌, inl, inr, ℕ, ◌<◌, ◌≤◌, ◌==◌, Bool, true, false, ◌&&◌, ◌||◌, List, [], ◌∷◌, ◌++◌, refl, sym, ap, ap₂, ◌∙◌, arith, if◌then◌else◌}
use Rattle.std.proofs.lemmas.Bool.{cases_Bool, cases_lt, eq-eqb, ne_eqb, or_cases}
use Rattle.fax_core.specs.Ask.{IsLawfulAsk}
use Rattle.fax_core.specs.Clock.{decided_at}
use Rattle.fax_core.specs.declared.ask.Ask.{Ask}
use Rattle.fax_core.specs.declared.ask.Ask.TheVariants.{OnGrant}
use Rattle.fax_core.specs.declared.report.Report.{Report}
use Rattle.fax_core.specs.Job.{Job}
use Rattle.fax_core.specs.Queue.{Queue, empty_queue, grant_numbered}
use Rattle.fax_core.specs.Reply.{Reply, Step, Taken, Refused}
use Rattle.fax_core.specs.Run.{left_by}
use Rattle.fax_core.specs.Sound.{IsJob, Sound}
use Rattle.fax_core.proofs.StepLemmas.{empty_sound, step_sound}
use Rattle.fax_run.proofs.BroughtLemmas.{is_import, none_came, step_brings, step_numbers}
use Rattle.fax_run.proofs.CountLemmas.{counted_all, counts_all, counts_none}
use Rattle.fax_run.proofs.MoveLemmas.{Became, Is_new, Lives, Moved, Was, below, fresh, has_job, step_moves}
use Rattle.fax_run.specs.Counts.{Counters, brought_with, came_in, counters_of, counts, gives, hands, no_counters, reported, reports_of, takes_in, was_given}
use Rattle.fax_run.specs.Laws.{AreTaken, CountersAreCounts}
use Rattle.fax_run.specs.Run.{Fed, queue_after, step_of, takes}

-- ---- what is reported of a job

-- what is reported is the same for grants that are told apart the same
reported_same : (f g : ℕ → Bool) → ((a : ℕ) → f a ≡ g a) → (ask : Ask) → reported f ask ≡ reported g ask
reported_same f g same (OnGrant a report) = ap (λ b. if b then report ∷ [] else []) (same a)
reported_same f g same other = refl

-- where no grant is its, nothing is reported
reported_none : (ask : Ask) → reported (λ a. false) ask ≡ []
reported_none (OnGrant a report) = refl
reported_none other = refl

-- ---- what holds after each request

record Sums (fed : List Fed) (m : Queue) : Type 0 where
  sound : Sound m
  grants : (a x : ℕ) → Lives m x → has_job x (grant_numbered a m) ≡ was_given empty_queue fed a x
  jobs : (x : ℕ) (j : Job) → IsJob m x j → counters_of j ≡ counts (brought_with empty_queue x fed) (reports_of empty_queue x fed)
  known : (a x : ℕ) → has_job x (grant_numbered a m) ≡ true → x < m.next_job
  none : (x : ℕ) → m.next_job ≤ x → reports_of empty_queue x fed ≡ []
  none_in : (x : ℕ) → m.next_job ≤ x → brought_with empty_queue x fed ≡ no_counters

-- the empty queue has the sums of no requests
no_sums : Sums [] empty_queue
no_sums = record {
  sound = empty_sound;
  grants = λ a x lives. refl;
  jobs = λ x j is. absurd cc;
  known = λ a x on. absurd cc;
  none = λ x high. refl;
  none_in = λ x high. refl;
}

-- what came in with a job, by whether a request is an import and its job this one
other_job : (is here : Bool) (came before : Counters) → here ≡ false → (if is && here then came else before) ≡ before
other_job true here came before off = ap (λ (b : Bool). if b then came else before) off
other_job false here came before off = refl

-- a job that is this one has what came in, where nothing came in else
its_job : (is here : Bool) (came before : Counters) → here ≡ true → (is ≡ false → came ≡ before) → (if is && here then came else before) ≡ came
its_job true here came before on none = ap (λ (b : Bool). if b then came else before) on
its_job false here came before on none = sym (none refl)

module _ (f : Fed) (earlier : List Fed) (lawful : IsLawfulAsk f.post.request.ask) (n : Queue) (r : Reply) where
  abbrev m : Queue
  m = queue_after empty_queue earlier

  abbrev ask : Ask
  ask = f.post.request.ask

  -- the moment at which it is decided
  abbrev moment : ℕ
  moment = decided_at m.clock f.post.request.moment

  module _ (is : step_of m f ≡ Taken n r) (sums : Sums earlier m) where
    -- the request moves the queue
    moved : Moved m n ask r
    moved = step_moves f.settings m n moment ask r sums.sound is

    -- what it reports of a job is on the grants that were given with it
    its : (x : ℕ) → Lives m x → reported (λ grant. was_given empty_queue earlier grant x) ask ≡ fresh m ask x
    its x lives = reported_same (λ grant. was_given empty_queue earlier grant x) (λ a. has_job x (grant_numbered a m)) (λ a. sym (sums.grants a x lives)) ask

    -- a job whose number isn't given yet has no reports
    unknown : (x : ℕ) → m.next_job ≤ x → reports_of empty_queue x (f ∷ earlier) ≡ []
    unknown x high = ap₂ (λ (front rest : List Report). front ++ rest) (its x (inr high) ∙ none_fresh) (sums.none x high)
      where
        not_its : (a : ℕ) → has_job x (grant_numbered a m) ≡ false
        not_its a = elim (cases_Bool (has_job x (grant_numbered a m))) [
          | inl on ↦ absurd (let low = sums.known a x on in omega (arith, low, high))
          | inr off ↦ off
        ]

        none_fresh : fresh m ask x ≡ []
        none_fresh = reported_same (λ a. has_job x (grant_numbered a m)) (λ a. false) not_its ask ∙ reported_none ask

    -- what came in with a job, this request aside and with it
    brought_more : (x : ℕ) → brought_with empty_queue x (f ∷ earlier)
        ≡ (if is_import ask && (m.next_job == x) then came_in ask else brought_with empty_queue x earlier)
    brought_more x =
        ap (λ (y : Step). if takes_in y x then came_in ask else brought_with empty_queue x earlier) is
        ∙ ap (λ (b : Bool). if b then came_in ask else brought_with empty_queue x earlier) (step_brings f.settings m n moment ask r sums.sound is x)

    -- where the job isn't the next one, what came in with it stays
    brought_before : (x : ℕ) → (m.next_job == x) ≡ false → brought_with empty_queue x (f ∷ earlier) ≡ brought_with empty_queue x earlier
    brought_before x off = brought_more x ∙ other_job (is_import ask) (m.next_job == x) (came_in ask) (brought_with empty_queue x earlier) off

    -- the next job has what came in with this request
    brought_now : (x : ℕ) → x ≡ m.next_job → brought_with empty_queue x (f ∷ earlier) ≡ came_in ask
    brought_now x new =
        let high : m.next_job ≤ x = omega (arith, new) in
        brought_more x
        ∙ its_job (is_import ask) (m.next_job == x) (came_in ask) (brought_with empty_queue x earlier) (eq-eqb m.next_job x (sym new))
        (λ no. none_came ask no ∙ sym (sums.none_in x high))

    -- the counters of each job are its sums, with this request
    became : (x : ℕ) (j : Job) → Became m ask x j → counters_of j ≡ counts (brought_with empty_queue x (f ∷ earlier)) (reports_of empty_queue x (f ∷ earlier))
    became x j (Was i there counted) =
        let low = below m x i sums.sound there in
        counted ∙ ap (counted_all (fresh m ask x)) (sums.jobs x i there)
        ∙ sym (counts_all (brought_with empty_queue x earlier) (fresh m ask x) (reports_of empty_queue x earlier))
        ∙ ap (λ (front : List Report). counts (brought_with empty_queue x earlier) (front ++ reports_of empty_queue x earlier)) (sym (its x (inl (i, there))))
        ∙ ap (λ (b : Counters). counts b (reports_of empty_queue x (f ∷ earlier))) (sym (brought_before x (ne_eqb m.next_job x (λ q. omega (arith, low, q)))))
    became x j (Is_new new none) =
        let high : m.next_job ≤ x = omega (arith, new) in
        none ∙ sym (brought_now x new) ∙ sym (counts_none (brought_with empty_queue x (f ∷ earlier)))
        ∙ ap (λ (rs : List Report). counts (brought_with empty_queue x (f ∷ earlier)) rs) (sym (unknown x high))

    -- a grant that is known, from this request or before, is of a job whose number is given out
    known_by : (a x : ℕ) → (hands r a x ≡ true) ⊎ (has_job x (grant_numbered a m) ≡ true) → x < n.next_job
    known_by a x (inl new) = let low = moved.given a x new in let more = moved.numbers in omega (arith, low, more)
    known_by a x (inr old) = let low = sums.known a x old in let more = moved.numbers in omega (arith, low, more)

    -- a number that isn't given afterwards wasn't given to what came in either
    none_now : (x : ℕ) → n.next_job ≤ x → brought_with empty_queue x (f ∷ earlier) ≡ no_counters
    none_now x high = elim (cases_Bool (is_import ask)) [
      | inl on ↦
          let beyond = step_numbers f.settings m n moment ask r on is in
          brought_before x (ne_eqb m.next_job x (λ q. omega (arith, beyond, high, q))) ∙ sums.none_in x (omega (arith, beyond, high))
      | inr off ↦
          let more = moved.numbers in
          brought_more x ∙ ap (λ (b : Bool). if b && (m.next_job == x) then came_in ask else brought_with empty_queue x earlier) off
          ∙ sums.none_in x (omega (arith, more, high))
    ]

    -- a job that lives afterwards lived, or is the next one
    lived : (x : ℕ) → Lives n x → Lives m x
    lived x (inl (j, found)) = by (moved.jobs x j found)
      where
        by : Became m ask x j → Lives m x
        by (Was i there counted) = inl (i, there)
        by (Is_new new none) = inr (omega (arith, new))
    lived x (inr high) = let more = moved.numbers in inr (omega (arith, more, high))

    -- the job of a grant that is known has its number given out
    known_now : (a x : ℕ) → has_job x (grant_numbered a n) ≡ true → x < n.next_job
    known_now a x on = elim (cases_lt x n.next_job) [
      | inl low ↦ low
      | inr high ↦ known_by a x (or_cases (hands r a x) (has_job x (grant_numbered a m)) (sym (moved.grants a x (inr high)) ∙ on))
    ]

    -- so the sums hold with this request
    sums_more : Sums (f ∷ earlier) n
    sums_more = record {
      sound = step_sound f.settings m n moment ask r sums.sound lawful is;
      grants = λ a x lives.
          moved.grants a x lives ∙ ap (λ (b : Bool). hands r a x || b) (sums.grants a x (lived x lives))
          ∙ ap (λ (y : Step). gives y a x || was_given empty_queue earlier a x) (sym is);
      jobs = λ x j found. became x j (moved.jobs x j found);
      known = known_now;
      none = λ x high. unknown x (let more = moved.numbers in omega (arith, more, high));
      none_in = λ x high. none_now x high;
    }

-- the same of a step that takes it
sums_by : (f : Fed) (earlier : List Fed) (x : Step) → IsLawfulAsk f.post.request.ask → step_of (queue_after empty_queue earlier) f ≡ x → takes x ≡ true
    → Sums earlier (queue_after empty_queue earlier) → Sums (f ∷ earlier) (left_by (queue_after empty_queue earlier) x)
sums_by f earlier (Taken n r) lawful is on sums = sums_more f earlier lawful n r is sums
sums_by f earlier (Refused refusal keys) lawful is on sums = absurd cc

-- they hold after all requests that were taken
all_sums : (fed : List Fed) → AreTaken empty_queue fed → Sums fed (queue_after empty_queue fed)
all_sums [] are = no_sums
all_sums (f ∷ earlier) (lawful, on, are) = sums_by f earlier (step_of (queue_after empty_queue earlier) f) lawful refl on (all_sums earlier are)

pub counters_are_counts : CountersAreCounts
counters_are_counts fed are x j found = (all_sums fed are).jobs x j found
