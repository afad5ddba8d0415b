-- Which job is the best: the first that may go among the waiting jobs in the order of the choice.
use Rattle.std.proofs.Common.{◌≡◌, inl, inr, ℕ, suc, ◌+◌, ◌≤◌, Bool, true, false, not, cond, ◌&&◌, eqb, leb, All, List, [], ◌∷◌, ◌++◌, length, get_or, refl, sym, ap, ap₂, subst, ◌∙◌, arith, append_assoc, Option, Some, None, find, filter, nat_lt, bytes_eq, option_map, IsSortedBy, eqb-true, length-append, true≢false, MatchOption}
use Rattle.std.specs.List.{list_any}
use Rattle.std.specs.Option.{option_or}
use Rattle.std.proofs.lemmas.Bool.{and_parts, and_right, cases_Bool, cond_both, cond-false, not-false, not-true}
use Rattle.std.proofs.lemmas.Bool.Decides.{nat_tests}
use Rattle.std.proofs.lemmas.List.Elements.{recursion_from_All}
use Rattle.std.proofs.lemmas.List.Filters.{length-filter_both}
use Rattle.std.proofs.lemmas.List.Folds.{find-append}
use Rattle.std.proofs.lemmas.List.Sorted.{IsPermutation-sym, length_permutation}
use Rattle.std.proofs.lemmas.Slice.Eq.{bytes_eq-Decides}
use Rattle.sqlite.specs.Order.{Row}
use Rattle.sqlite_rules.specs.Lists.{Has}
use Rattle.sqlite_rules.proofs.ListLemmas.{all_has, has_either, has_filtered, has_found, has_kept, has_last, has_left, has_right}
use Rattle.sqlite_rules.proofs.ProbeLemmas.{mapped_has}
use Rattle.fax_value.specs.Status.{kill_time_expired}
use Rattle.fax_job.specs.declared.job.Phase.{Phase}
use Rattle.fax_job.specs.declared.job.Phase.TheVariants.{Waiting, Failed}
use Rattle.fax_core.specs.Ageing.{aged, aged_job, expires, is_past}
use Rattle.fax_core.specs.Best.{better, may_go, best, Precedes, MayGo, IsBest}
use Rattle.fax_core.specs.Job.{Job}
use Rattle.fax_core.specs.Queue.{Queue, job_numbered}
use Rattle.fax_core.specs.Settings.{Settings}
use Rattle.fax_core.specs.Sound.{Sound}
use Rattle.fax_core.specs.State.{calls_to, is_due, is_waiting, state, state_in}
use Rattle.fax_core.proofs.BestLemmas.{best_is, best_alone, none_goes, ready_due}
use Rattle.fax_core.proofs.PlaceLemmas.{none_passes, in_found, length_more}
use Rattle.fax_core.proofs.StepLemmas.{aged_sound}
use Rattle.fax_tables.specs.Job.{IsLawfulJob}
use Rattle.fax_tables.specs.declared.prospect.Prospect.{Prospect}
use Rattle.fax_layout.proofs.EditLemmas.{has_mapped, has_permuted}
use Rattle.fax_store.specs.Candidates.{AreAsked, Gives, IsProspect, StandsAt, is_behind, is_other}
use Rattle.fax_store.specs.declared.candidates.Asked.{Asked}
use Rattle.fax_store.specs.declared.candidates.Front.{Front}
use Rattle.fax_store.specs.Job.{AreWaiting}
use Rattle.fax_decide.specs.Choice.{AreBusy, IsBusy, IsFirst, IsFirstAsked, with_number}
use Rattle.fax_decide.specs.State.{may_call}
use Rattle.fax_decide.proofs.CallLemmas.{state_aged}
use Rattle.fax_decide.proofs.RecordLemmas.{in_had}

-- ---- which jobs wait

-- a job that is due waits, its kill time isn't past, and its times have come
due_parts : (j : Job) (t : ℕ) → is_due j t ≡ true → (is_waiting j.phase ≡ true) × (is_past j.killtime t ≡ false) × (leb j.tts t ≡ true) × (leb j.next t ≡ true)
due_parts j t e =
    let a = and_parts _ (leb j.next t) e in
    let b = and_parts _ (leb j.tts t) a.0 in
    let c = and_parts (is_waiting j.phase) _ b.0 in
    (c.0, not-true (is_past j.killtime t) c.1, b.1, a.1)

abbrev expired : Job → Job
expired j = record j { phase = Failed; status = kill_time_expired }

-- a job that is due doesn't age
due_stays : (j : Job) (t : ℕ) → is_due j t ≡ true → aged_job t j ≡ j
due_stays j t e = cond-false (expires j.phase && is_past j.killtime t) (expired j) j (and_right (expires j.phase) (is_past j.killtime t) (due_parts j t e).1)

-- a job that is due after ageing was so before
due_was : (k : Job) (t : ℕ) → is_due (aged_job t k) t ≡ true → aged_job t k ≡ k
due_was k t =
    cond_both (expires k.phase && is_past k.killtime t) (expired k) k (λ x. is_due x t ≡ true → x ≡ k)
    (λ is e. absurd (let no = (due_parts (expired k) t e).0 in cc)) (λ is e. refl)

module _ (m : Queue) (t : ℕ) (jobs : List Job) (w : AreWaiting t m jobs) where
  -- each that waits is in the queue, and due
  waiting_due : (j : Job) → Has jobs j → Has m.jobs j × (is_due j t ≡ true)
  waiting_due j has =
      let all = filter (λ (k : Job). is_due k t) m.jobs in
      has_filtered (λ (k : Job). is_due k t) m.jobs j (has_permuted jobs all j (IsPermutation-sym all jobs w.due) has)

  -- each of them is in the aged queue
  waiting_aged : (j : Job) → Has jobs j → Has (aged t m).jobs j
  waiting_aged j has = let d = waiting_due j has in subst (Has (aged t m).jobs) (due_stays j t d.1) (mapped_has (aged_job t) m.jobs j d.0)

  -- and each that is due in the aged queue is one of them
  due_waits : (j : Job) → Has (aged t m).jobs j → is_due j t ≡ true → Has jobs j
  due_waits j has e =
      let was = has_mapped (aged_job t) m.jobs j has in
      let same : j ≡ was.0 = was.2 ∙ due_was was.0 t (subst (λ (k : Job). is_due k t ≡ true) was.2 e) in
      has_permuted (filter (λ (k : Job). is_due k t) m.jobs) jobs j w.due (has_kept (λ (k : Job). is_due k t) m.jobs j (subst (Has m.jobs) (sym same) was.1) e)

-- ---- the order

-- no job is better than itself
not_itself : (j : Job) → better j j ≡ false
not_itself j = grind (arith, nat_tests)

-- where one isn't better than another, nor that than a third, it isn't better than that
not_through : (i j k : Job) → better i j ≡ false → better j k ≡ false → better i k ≡ false
not_through i j k a b = grind (arith, nat_tests)

-- a job that isn't better doesn't precede
not_precedes : (j k : Job) → better j k ≡ false → Precedes j k → ⊥
not_precedes j k e p = grind (arith, nat_tests)

-- a list in order is in order behind its first
sorted_rest : (x : Job) (xs : List Job) → IsSortedBy better (x ∷ xs) → IsSortedBy better xs
sorted_rest x xs up k d low high =
    let next : suc k + 1 ≡ suc (k + 1) = omega arith in
    subst (λ (i : ℕ). better (get_or (x ∷ xs) i d) (get_or xs k d) ≡ false) next (up (suc k) d (omega arith) (omega arith))

-- none of a list in order is better than its first
first_least : (x : Job) (xs : List Job) (k : Job) → IsSortedBy better (x ∷ xs) → Has (x ∷ xs) k → better k x ≡ false
first_least x xs k up (inl s) = subst (λ (z : Job). better z x ≡ false) (sym s) (not_itself x)
first_least x [] k up (inr has) = absurd has
first_least x (y ∷ ys) k up (inr has) = not_through k y x (first_least y ys k (sorted_rest x (y ∷ ys) up) has) (up 0 x (omega arith) (omega arith))

-- in a list in order, none that passes is better than the first that does
first_best : (p : Job → Bool) (xs : List Job) (j k : Job) → IsSortedBy better xs → find p xs ≡ Some j → Has xs k → p k ≡ true → better k j ≡ false
first_best p [] j k up h has passes = absurd has
first_best p (x ∷ xs) j k up h has passes = elim (cases_Bool (p x)) [
  | inl here ↦ (let same : x ≡ j = (let f = (rw here at h) in cc) in subst (λ (z : Job). better k z ≡ false) same (first_least x xs k up has))
  | inr off ↦ elim has [
    | inl s ↦ absurd (true≢false (sym passes ∙ ap p s ∙ off))
    | inr there ↦ first_best p xs j k (sorted_rest x xs up) (rw off at h) there passes
  ]
]

-- ---- the best

module _ (s : Settings) (m : Queue) (t : ℕ) (modem : List ℕ) (jobs : List Job) (sound : Sound m) (w : AreWaiting t m jobs) where
  abbrev goes : Job → Bool
  goes = may_go s m t modem

  -- one that waits and goes, may go
  may_go_of : (j : Job) → Has jobs j × (goes j ≡ true) → MayGo s (aged t m) t modem j
  may_go_of j h =
      let parts = and_parts (eqb (state s m t j) 5) (s.admits j.modem modem) h.1 in
      record {
        there = in_found (λ (k : Job). k.number) 0 m.next_job (aged t m).jobs j (aged_sound t m sound).jobs (in_had (aged t m).jobs j (waiting_aged m t jobs w j h.0));
        ready = state_aged s m t j ∙ eqb-true (state s m t j) 5 parts.0;
        admitted = parts.1;
      }

  -- one that may go, waits and goes
  waits_of : (k : Job) → MayGo s (aged t m) t modem k → Has jobs k × (goes k ≡ true)
  waits_of k g = (
    due_waits m t jobs w k (has_found (λ (j : Job). eqb j.number k.number) (aged t m).jobs k g.there).0 (ready_due s (aged t m) t k g.ready),
    ap₂ ◌&&◌ (ap (λ (n : ℕ). eqb n 5) (sym (state_aged s m t k) ∙ g.ready)) g.admitted,
  )

  -- the first that goes is the best
  first_is : (j : Job) → find goes jobs ≡ Some j → IsBest s (aged t m) t modem j
  first_is j e = record {
    goes = may_go_of j (has_found goes jobs j e);
    least = λ k g p. let h = waits_of k g in not_precedes k j (first_best goes jobs j k w.ordered e h.0 h.1) p;
  }

  -- the first that goes, if any, is the best, if any
  first_waiting : find goes jobs ≡ best s (aged t m) t modem
  first_waiting = by (find goes jobs) (best s (aged t m) t modem) refl refl
    where
      by : (o b : Option Job) → find goes jobs ≡ o → best s (aged t m) t modem ≡ b → o ≡ b
      by None None e h = refl
      by None (Some k) e h =
          let g = waits_of k (best_is s (aged t m) t modem k (aged_sound t m sound) h).goes in
          absurd (true≢false (sym g.1 ∙ none_passes goes jobs k e (in_had jobs k g.0)))
      by (Some j) None e h = absurd (none_goes s (aged t m) t modem h j (first_is j e).goes)
      by (Some j) (Some k) e h = ap (λ (x : Job). Some x) (best_alone s (aged t m) t modem j k (first_is j e) (best_is s (aged t m) t modem k (aged_sound t m sound) h))

abbrev number_of : Job → ℕ
number_of j = j.number

-- the number of the first that may go, if any, is that of the best, which is a lawful job of the queue
pub first_read : (s : Settings) (m : Queue) (t : ℕ) (modem : List ℕ) → Sound m → All IsLawfulJob m.jobs → (found : Option ℕ) → IsFirst s m t modem found
    → MatchOption found (None ≡ best s (aged t m) t modem) (λ n. (j : Job) × (job_numbered n m ≡ Some j) × IsLawfulJob j × (Some j ≡ best s (aged t m) t modem))
first_read s m t modem sound lawful found first = subst Says (sym first.2) (by (find (may_go s m t modem) first.0) refl)
  where
    Says : Option ℕ → Type 0
    Says o = MatchOption o (None ≡ best s (aged t m) t modem) (λ n. (j : Job) × (job_numbered n m ≡ Some j) × IsLawfulJob j × (Some j ≡ best s (aged t m) t modem))

    by : (o : Option Job) → find (may_go s m t modem) first.0 ≡ o → Says (option_map number_of o)
    by None e = sym e ∙ first_waiting s m t modem first.0 sound first.1
    by (Some j) e =
        let there = (waiting_due m t first.0 first.1 j (has_found (may_go s m t modem) first.0 j e).0).0 in (
          j,
          in_found number_of 0 m.next_job m.jobs j sound.jobs (in_had m.jobs j there),
          all_has IsLawfulJob m.jobs j (recursion_from_All IsLawfulJob m.jobs lawful) there,
          sym e ∙ first_waiting s m t modem first.0 sound first.1,
        )

-- ---- a job that is due

-- it is ready where a call to its number may begin
ready_in : (phase : Phase) (j : Job) (hours : Bool) (calls limit t : ℕ) → is_waiting phase ≡ true → is_past j.killtime t ≡ false → leb j.tts t ≡ true → leb j.next t ≡ true
    → eqb (state_in phase j hours calls limit t) 5 ≡ (hours && nat_lt calls limit)
ready_in Waiting j hours calls limit t waits past tts next =
    let sent : nat_lt t j.tts ≡ false = grind (arith, nat_tests) in
    let tried : nat_lt t j.next ≡ false = grind (arith, nat_tests) in
    let full : nat_lt calls limit ≡ not (leb limit calls) = grind (arith, nat_tests) in
    rw (past, sent, tried, full) (by hours (leb limit calls))
  where
    by : (a b : Bool) → eqb (cond (not a) 2 (cond b 4 5)) 5 ≡ (a && not b)
    by true true = refl
    by true false = refl
    by false b = refl
ready_in phase j hours calls limit t waits past tts next = absurd cc

-- so it may go where its modem value admits the modem, too
goes_due : (s : Settings) (m : Queue) (t : ℕ) (modem : List ℕ) (j : Job) → is_due j t ≡ true
    → may_go s m t modem j ≡ (may_call s j.dial (calls_to j.dial m) t && s.admits j.modem modem)
goes_due s m t modem j due =
    let its = due_parts j t due in
    ap (λ b. b && s.admits j.modem modem) (ready_in j.phase j ((s.rule j.dial).hours t) (calls_to j.dial m) (s.rule j.dial).calls t its.0 its.1 its.2 its.3)

-- ---- a look at the candidates

-- each that is asked for waits, so it is due
asked_due : (asked : Asked) (m : Queue) (jobs : List Job) (j : Job) → AreAsked asked m jobs → Has jobs j → is_due j asked.t ≡ true
asked_due asked m jobs j w has = (waiting_due m asked.t w.all w.waiting j (has_filtered (is_other asked.but) w.all j (subst (λ js. Has js j) w.is has)).0).1

-- behind those that don't pass, the first is that of the rest
found_behind : (p : Job → Bool) (before rest : List Job) → find p before ≡ None → find p (before ++ rest) ≡ find p rest
found_behind p before rest none = find-append p before rest ∙ ap (λ o. option_or o (find p rest)) none

module _ (s : Settings) (m : Queue) (modem : List ℕ) (asked : Asked) where
  abbrev going : Job → Bool
  going = may_go s m asked.t modem

  -- that many candidates were given so far, none of which may go
  pub record NoneWent (count : ℕ) (page : List Row) (front : Front) (most : ℕ) : Type 0 where
    pub given : List Job
    pub stands : StandsAt asked m given page front most
    pub none : find (may_go s m asked.t modem) given ≡ None
    pub counted : length given ≡ count

  -- and this is given next
  pub record NextIs (count : ℕ) (page : List Row) (front : Front) (most : ℕ) (next : Option Prospect) : Type 0 where
    pub given : List Job
    pub gives : Gives IsProspect asked m given page front most next
    pub none : find (may_go s m asked.t modem) given ≡ None
    pub counted : length given ≡ count

  -- what the next step tells
  pub next_given : {now : Asked} {count : ℕ} {page : List Row} {front : Front} {most : ℕ} (after : List Row) (then : Front)
      (more : ℕ) {found next : Option Prospect} → now ≡ asked → found ≡ next
      → NoneWent count page front most → ((given : List Job) → StandsAt now m given page front most → Gives IsProspect now m given after then more found)
      → NextIs count after then more next
  next_given {now} {count} {page} {front} {most} after then more {found} {next} same is went says = record {
    given = went.given;
    gives = subst (Gives IsProspect asked m went.given after then more) is
        (subst (λ (x : Asked). Gives IsProspect x m went.given after then more found) same
        (says went.given (subst (λ (x : Asked). StandsAt x m went.given page front most) (sym same) went.stands)));
    none = went.none;
    counted = went.counted;
  }

  -- where none is left, none is the first
  pub none_left : {count : ℕ} {page : List Row} {front : Front} {most : ℕ} → NextIs count page front most None → IsFirstAsked s asked m modem None
  none_left next = (next.given, next.gives.0, ap (option_map number_of) (sym next.none))

  module _ {count : ℕ} {page : List Row} {front : Front} {most : ℕ} {prospect : Prospect} (next : NextIs count page front most (Some prospect))
      (goes : Bool) (t : ℕ) (same : asked.t ≡ t) (told : goes ≡ (may_call s prospect.dial (calls_to prospect.dial m) t && s.admits prospect.modem modem)) where
    abbrev job : Job
    job = next.gives.0

    abbrev rest : List Job
    rest = next.gives.2.read ++ filter (is_behind front) next.gives.2.all

    -- the one that is given is amid those that are asked for
    amid : next.gives.2.all ≡ next.given ++ job ∷ rest
    amid = next.gives.2.parts ∙ append_assoc next.given (job ∷ []) rest

    -- so it is due, and what was told of it is whether it may go
    passes : may_go s m asked.t modem job ≡ goes
    passes =
        let due = asked_due asked m next.gives.2.all job next.gives.2.waiting (subst (λ js. Has js job) (sym amid) (has_right next.given (job ∷ rest) job (inl refl))) in
        goes_due s m asked.t modem job due ∙ sym (told
        ∙ ap₂ (λ (now : ℕ) (p : Prospect). may_call s p.dial (calls_to p.dial m) now && s.admits p.modem modem) (sym same) next.gives.1)

    -- where it may go, it is the first that may
    pub this_went : goes ≡ true → IsFirstAsked s asked m modem (Some prospect.job)
    this_went goes_is = (
      next.gives.2.all,
      next.gives.2.waiting,
      ap (λ (p : Prospect). Some p.job) next.gives.1
          ∙ ap (option_map number_of) (sym (ap (find going) amid ∙ found_behind going next.given (job ∷ rest) next.none
          ∙ ap (λ b. cond b (Some job) (find going rest)) (passes ∙ goes_is))),
    )

    -- where it may not, none of one more may
    pub none_more : goes ≡ false → NoneWent (count + 1) page front most
    none_more goes_not = record {
      given = next.given ++ job ∷ [];
      stands = next.gives.2;
      none = found_behind going next.given (job ∷ []) next.none ∙ ap (λ b. cond b (Some job) None) (passes ∙ goes_not);
      counted = length_more next.given job ∙ ap (λ (n : ℕ). n + 1) next.counted;
    }

-- ---- how many there are

-- no more pass a test than there are
few_pass : {X : Type 0} (p : X → Bool) (xs : List X) → length (filter p xs) ≤ length xs
few_pass p xs = omega (arith, length-filter_both p (λ x. not (p x)) (λ x. refl) xs)

-- no more candidates are given than the queue has jobs
pub few_given : (asked : Asked) (m : Queue) (given : List Job) (page : List Row) (front : Front) (most : ℕ) → StandsAt asked m given page front most → length given ≤ length m.jobs
few_given asked m given page front most h =
    let w = h.waiting in
    let rest = h.read ++ filter (is_behind front) h.all in
    let due = filter (λ (j : Job). is_due j asked.t) m.jobs in
    let all : length h.all ≡ length given + length rest = ap (λ (js : List Job). length js) h.parts ∙ length-append given rest in
    let others : length h.all ≡ length (filter (is_other asked.but) w.all) = ap (λ (js : List Job). length js) w.is in
    let fewer = few_pass (is_other asked.but) w.all in
    let same : length w.all ≡ length due = length_permutation due w.all w.waiting.due in
    let waiting = few_pass (λ (j : Job). is_due j asked.t) m.jobs in
    omega (arith, all, others, fewer, same, waiting)

-- ---- those to a busy number are passed over

-- where none that is left out passes, the first that passes is the same
find_others : (p q : Job → Bool) (xs : List Job) → ((j : Job) → Has xs j → q j ≡ false → p j ≡ false) → find p (filter q xs) ≡ find p xs
find_others p q [] h = refl
find_others p q (x ∷ xs) h = elim (cases_Bool (q x)) [
  | inl in' ↦ rw in' (ap (λ o. cond (p x) (Some x) o) (find_others p q xs (λ j has. h j (inr has))))
  | inr off ↦ rw (off, h x (inl refl) off) (find_others p q xs (λ j has. h j (inr has)))
]

-- none to a number to which no call may begin may go
busy_stays : (s : Settings) (m : Queue) (t : ℕ) (modem : List ℕ) (but : Option (List ℕ)) (j : Job) → IsBusy s m t but → is_due j t ≡ true → is_other but j ≡ false → may_go s m t modem j ≡ false
busy_stays s m t modem None j busy due to = absurd (true≢false to)
busy_stays s m t modem (Some dial) j busy due to =
    let same : j.dial ≡ dial = (bytes_eq-Decides j.dial dial).0 (not-false (bytes_eq j.dial dial) to) in
    goes_due s m t modem j due ∙ ap (λ b. b && s.admits j.modem modem) (ap (λ (d : List ℕ). may_call s d (calls_to d m) t) same ∙ busy)

-- of no numbers all are busy
pub none_busy : (s : Settings) (m : Queue) (t : ℕ) → AreBusy s m t []
none_busy s m t dial has = absurd has

-- of a number among busy ones no call may begin
pub known_busy : (s : Settings) (m : Queue) (t : ℕ) (numbers : List (List ℕ)) (dial : List ℕ) → AreBusy s m t numbers → list_any (bytes_eq dial) numbers ≡ true
    → may_call s dial (calls_to dial m) t ≡ false
known_busy s m t [] dial busy is = absurd (true≢false (sym is))
known_busy s m t (x ∷ xs) dial busy is = elim (cases_Bool (bytes_eq dial x)) [
  | inl same ↦ busy dial (inl ((bytes_eq-Decides dial x).0 same))
  | inr other ↦ known_busy s m t xs dial (λ d has. busy d (inr has)) (rw other at is)
]

-- with one more that is busy all are
pub with_busy : (s : Settings) (m : Queue) (t : ℕ) (numbers : List (List ℕ)) (dial : List ℕ) → AreBusy s m t numbers → may_call s dial (calls_to dial m) t ≡ false
    → AreBusy s m t (with_number numbers dial)
with_busy s m t numbers dial all one =
    cond_both (nat_lt (length numbers) 16) (numbers ++ dial ∷ []) numbers (AreBusy s m t)
    (λ few d has. elim (has_either numbers (dial ∷ []) d has) [
      | inl had ↦ all d had
      | inr last ↦ elim last [
        | inl same ↦ subst (λ (x : List ℕ). may_call s x (calls_to x m) t ≡ false) (sym same) one
        | inr none ↦ absurd none
      ]
    ])
    (λ many. all)

-- without the last of them all are
pub first_busy : (s : Settings) (m : Queue) (t : ℕ) (numbers front : List (List ℕ)) (dial : List ℕ) → numbers ≡ front ++ dial ∷ [] → AreBusy s m t numbers → AreBusy s m t front
first_busy s m t numbers front dial is all d has = all d (subst (λ (xs : List (List ℕ)). Has xs d) (sym is) (has_left front (dial ∷ []) d has))

-- the last of busy ones is busy
pub last_busy : (s : Settings) (m : Queue) (t : ℕ) (numbers front : List (List ℕ)) (dial : List ℕ) → numbers ≡ front ++ dial ∷ [] → AreBusy s m t numbers
    → may_call s dial (calls_to dial m) t ≡ false
last_busy s m t numbers front dial is all = all dial (has_last numbers front dial is)

-- so the first of those that are asked for is the first of all
pub first_known : (s : Settings) (m : Queue) (t : ℕ) (modem : List ℕ) (asked : Asked) (found : Option ℕ) → asked.t ≡ t → IsBusy s m t asked.but
    → IsFirstAsked s asked m modem found → IsFirst s m t modem found
first_known s m t modem asked found same but first =
    let w = first.1 in
    let p = may_go s m asked.t modem in
    let busy = subst (λ (x : ℕ). IsBusy s m x asked.but) (sym same) but in
    let others = find_others p (is_other asked.but) w.all
    (λ j has to. busy_stays s m asked.t modem asked.but j busy (waiting_due m asked.t w.all w.waiting j has).1 to) in
    subst (λ (x : ℕ). IsFirst s m x modem found) same (w.all, w.waiting, first.2 ∙ ap (option_map number_of) (ap (find p) w.is ∙ others))
