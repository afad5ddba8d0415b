-- What has aged ages no more.
use Rattle.std.proofs.Common.{◌≡◌, ◌∙◌, ℕ, Bool, true, false, ◌&&◌, List, [], ◌∷◌, inl, inr, Option, Some, None, map, ap, ap₂, arith, refl, subst, sym, ◌≤◌, if◌then◌else◌}
use Rattle.std.specs.Prelude.{Err, IfErr, IfOk, MatchResult, Ok, OnErr, OnOk, Result, nat_lt}
use Rattle.std.specs.Result.{is_err}
use Rattle.sqlite.specs.State.{State}
use Rattle.fax_core.specs.Ledger.{Ledger}
use Rattle.fax_core.specs.Ageing.{aged_job, expires, is_past}
use Rattle.fax_core.specs.Job.{Job}
use Rattle.fax_job.specs.declared.job.Phase.TheVariants.{Failed}
use Rattle.fax_value.specs.Status.{kill_time_expired}
use Rattle.fax_core.specs.Queue.{Queue}
use Rattle.fax_core.proofs.StampLemmas.{stamp_same}
use Rattle.fax_core.specs.Stamp.{stamp}
use Rattle.fax_store.specs.Job.{with_expired, with_placed}
use Rattle.fax_store.specs.Store.{MeansNow}
use Rattle.fax_tables.specs.Place.{placed}
use Rattle.fax_decide.proofs.NumberedLemmas.{accepted_as, free_apart, suits_apart, written_apart, written_numbers}
use Rattle.fax_decide.specs.Effect.{IsFree, IsNumberLeft, IsWritable, Suits, accepted, numbered, written}
use Rattle.fax_decide.specs.declared.effect.Effect.{Effect}
use Rattle.fax_decide.specs.declared.effect.Effect.TheVariants.{Nothing, NewJob, ChangedJob, Marked, NewGrant, Reported, Closed, GivenUp, Purged}
use Rattle.fax_tables.specs.Meta.{meta_of, with_meta}
use Rattle.fax_tables.specs.Tables.{IsLawfulMeta}
use Rattle.fax_tables.specs.declared.meta.Meta.{Meta}
use Rattle.fax_value.specs.Limits.{last_moment}
use Rattle.fax_core.specs.declared.ask.Ask.{Ask as Step}
use Rattle.fax_once.specs.Acceptance.{IsKnownFor, MeansFor}
use Rattle.fax_run.specs.Verdict.{is_too_high, raised_ask}
use Rattle.fax_once.proofs.VerdictLemmas.{raised_submits}
use Rattle.fax_once.specs.Known.{IsAged, IsMoved, IsWritten, Knows, Stand, meta_in}
use Rattle.fax_once.specs.Looking.{SeesIn}
use Rattle.fax_once.specs.declared.known.Known.{Known}
use Rattle.fax_run.specs.declared.arrival.Arrival.{Arrival}
use Rattle.fax_tables.specs.declared.fault.StoreFault.{StoreFault}
use Rattle.fax_tables.specs.declared.fault.StoreFault.TheVariants.{Unavailable}
use Rattle.fax_once.specs.declared.known.Numbers.{Numbers}
use Rattle.fax_once.specs.declared.known.Numbers.TheVariants.{Unread, Written, Pending}

-- a queue that has aged by t stays as it is
pub aged_still : (t : ℕ) (m : Queue) → IsAged t m → with_expired t m ≡ m
aged_still t m aged = ap (λ (jobs : List Job). stamp t m (record m { jobs = jobs })) aged ∙ stamp_same t m m refl

-- a job that has aged ages no more
aged_twice : (t : ℕ) (j : Job) (b : Bool) → (expires j.phase && is_past j.killtime t) ≡ b → aged_job t (aged_job t j) ≡ aged_job t j
aged_twice t j true is = rw is refl
aged_twice t j false is = rw (is, is) refl

all_aged : (t : ℕ) (jobs : List Job) → map (aged_job t) (map (aged_job t) jobs) ≡ map (aged_job t) jobs
all_aged t [] = refl
all_aged t (j ∷ jobs) = ap₂ (λ k ks. k ∷ ks) (aged_twice t j (expires j.phase && is_past j.killtime t) refl) (all_aged t jobs)

-- one that isn't past stays as it is
not_past : (t : ℕ) (j : Job) → is_past j.killtime t ≡ false → aged_job t j ≡ j
not_past t j off = ap (λ past. if expires j.phase && past then failed else j) off ∙ never (expires j.phase)
  where
    failed : Job
    failed = record j { phase = Failed; status = kill_time_expired }

    never : (b : Bool) → (if b && false then failed else j) ≡ j
    never true = refl
    never false = refl

-- with it the jobs have aged that had
one_more : (t : ℕ) (j : Job) (jobs : List Job) → aged_job t j ≡ j → map (aged_job t) jobs ≡ jobs → map (aged_job t) (placed (λ k. k.number) j jobs) ≡ placed (λ k. k.number) j jobs
one_more t j [] one aged = ap (λ k. k ∷ []) one
one_more t j (k ∷ jobs) one aged = by (nat_lt k.number j.number) (one_more t j jobs one rest)
  where
    first : aged_job t k ≡ k
    first = cc

    rest : map (aged_job t) jobs ≡ jobs
    rest = cc

    by : (b : Bool) → map (aged_job t) (placed (λ k. k.number) j jobs) ≡ placed (λ k. k.number) j jobs → map (aged_job t) (if b then k ∷ placed (λ k. k.number) j jobs else j ∷ k ∷ jobs) ≡ (if b then k ∷ placed (λ k. k.number) j jobs else j ∷ k ∷ jobs)
    by true more = ap₂ (λ x xs. x ∷ xs) first more
    by false more = ap₂ (λ x xs. x ∷ xs) one aged

-- so has an aged queue with a new job whose kill time isn't past
pub aged_with_new : (t : ℕ) (j : Job) (m : Queue) → is_past j.killtime t ≡ false → IsAged t (with_placed j (with_expired t m))
aged_with_new t j m off = one_more t j (map (aged_job t) m.jobs) (not_past t j off) (all_aged t m.jobs)

-- ---- the clock and the next numbers

-- an accepted change leaves a valid clock and valid next numbers
pub lawful_after : (t : ℕ) (effect : Effect) (m : Queue) → t ≤ last_moment → IsLawfulMeta m → IsNumberLeft effect (with_expired t m) → IsLawfulMeta (accepted t effect m)
lawful_after t effect m now was left = subst IsLawfulMeta (sym (accepted_as t effect m)) (by effect left)
  where
    numbers : (e : Effect) → Queue
    numbers e = with_meta (numbered t e (meta_of m)) (written t e (with_expired t m))

    by : (e : Effect) → IsNumberLeft e (with_expired t m) → IsLawfulMeta (numbers e)
    by Nothing left = record { clock = now; next_job = was.next_job; next_grant = was.next_grant }
    by (NewJob job) left = record { clock = now; next_job = (omega arith, omega (arith, left)); next_grant = was.next_grant }
    by (ChangedJob job) left = record { clock = now; next_job = was.next_job; next_grant = was.next_grant }
    by (Marked modem down) left = record { clock = now; next_job = was.next_job; next_grant = was.next_grant }
    by (NewGrant job grant) left = record { clock = now; next_job = was.next_job; next_grant = (omega arith, omega (arith, left)) }
    by (Reported job grant) left = record { clock = now; next_job = was.next_job; next_grant = was.next_grant }
    by (Closed job grant) left = record { clock = now; next_job = was.next_job; next_grant = was.next_grant }
    by (GivenUp upto) left = record { clock = now; next_job = was.next_job; next_grant = was.next_grant }
    by (Purged jobs) left = record { clock = now; next_job = was.next_job; next_grant = was.next_grant }

-- the clock and the next numbers of the queue, whatever is known of the tables
with_own : (numbers : Numbers) (tables m : Queue) → Stand numbers tables m → m ≡ with_meta (meta_of m) tables
with_own Unread tables m is = subst (λ (q : Queue). q ≡ with_meta (meta_of q) tables) is refl
with_own (Written meta) tables m (is, same) = subst (λ (q : Queue). q ≡ with_meta (meta_of q) tables) is refl
with_own (Pending meta) tables m (is, lawful) = subst (λ (q : Queue). q ≡ with_meta (meta_of q) tables) (sym is) refl

-- what is accepted of the queue is what is written of the tables, with its numbers
accepted_of : (numbers : Numbers) (t : ℕ) (effect : Effect) (tables m : Queue) → Stand numbers tables m
    → accepted t effect m ≡ with_meta (numbered t effect (meta_of m)) (written t effect (with_expired t tables))
accepted_of numbers t effect tables m stand =
    accepted_as t effect m ∙ ap (λ (q : Queue). with_meta (numbered t effect (meta_of m)) (written t effect (with_expired t q))) (with_own numbers tables m stand)
    ∙ written_apart (meta_of m) t tables (numbered t effect (meta_of m)) effect

module _ (numbers : Numbers) (t : ℕ) (effect : Effect) (before after : Meta) (tables m : Queue) (stand : Stand numbers tables m) (now : t ≤ last_moment) (lawful : IsLawfulMeta m)
    (was : before ≡ meta_of m) (left : IsNumberLeft effect (with_expired t m)) (is : after ≡ numbered t effect before) where
  abbrev there : Queue
  there = written t effect (with_expired t tables)

  numbers_are : accepted t effect m ≡ with_meta after there
  numbers_are = accepted_of numbers t effect tables m stand ∙ ap (λ (meta : Meta). with_meta meta there) (sym (is ∙ ap (numbered t effect) was))

  -- they are still to be written
  after_pending : Stand (Pending after) there (accepted t effect m)
  after_pending = (numbers_are, lawful_after t effect m now lawful left)

  -- or are those before, which the tables have
  after_written : after ≡ before → tables ≡ m → Stand (Written after) there (accepted t effect m)
  after_written same tabled =
      let kept : meta_of there ≡ after = written_numbers t effect tables ∙ ap meta_of tabled ∙ sym (same ∙ was) in
      (sym (numbers_are ∙ ap (λ (meta : Meta). with_meta meta there) (sym kept)), sym (ap meta_of numbers_are))

  tabled : IsWritten numbers → tables ≡ m
  tabled = by numbers stand
    where
      by : (n : Numbers) → Stand n tables m → IsWritten n → tables ≡ m
      by Unread is written = is
      by (Written meta) is written = is.0
      by (Pending meta) is written = absurd written

  pub moved_stand : (moved : Numbers) → IsMoved numbers before after moved → Stand moved there (accepted t effect m)
  moved_stand moved (inl pending) = subst (λ (n : Numbers). Stand n there (accepted t effect m)) (sym pending) after_pending
  moved_stand moved (inr (is_written, same, has)) = subst (λ (n : Numbers). Stand n there (accepted t effect m)) (sym is_written) (after_written same (tabled has))

-- what suits the queue suits what the tables mean, and may be written there
pub suits_of : (numbers : Numbers) (t : ℕ) (effect : Effect) (tables m : Queue) → Stand numbers tables m → Suits effect (with_expired t m) → Suits effect (with_expired t tables)
suits_of numbers t effect tables m stand suits = suits_apart (meta_of m) t tables effect (subst (λ (q : Queue). Suits effect (with_expired t q)) (with_own numbers tables m stand) suits)

pub writable_of : (numbers : Numbers) (t : ℕ) (effect : Effect) (tables m : Queue) → Stand numbers tables m → IsWritable effect (with_expired t m) → IsWritable effect (with_expired t tables)
writable_of numbers t effect tables m stand writable = record {
  suits = suits_of numbers t effect tables m stand writable.suits;
  free = free_apart (meta_of m) t tables effect (subst (λ (q : Queue). IsFree effect (with_expired t q)) (with_own numbers tables m stand) writable.free);
  within = writable.within;
}

-- they have aged where it has
pub aged_of : (numbers : Numbers) (t : ℕ) (tables m : Queue) → Stand numbers tables m → IsAged t m → IsAged t tables
aged_of numbers t tables m stand aged = subst (λ (q : Queue). IsAged t q) (with_own numbers tables m stand) aged

-- and its numbers are valid where theirs are
pub lawful_of : (numbers : Numbers) (tables m : Queue) → Stand numbers tables m → IsLawfulMeta tables → IsLawfulMeta m
lawful_of Unread tables m is lawful = subst IsLawfulMeta is lawful
lawful_of (Written meta) tables m (is, same) lawful = subst IsLawfulMeta is lawful
lawful_of (Pending meta) tables m (is, lawful) old = lawful

-- what is known suffices to decide what the tables mean the queue for
known_for : (numbers : Numbers) (ask : Step) (tables m : Queue) → Stand numbers tables m → MeansFor ask tables m → IsKnownFor ask (meta_in numbers) tables m
known_for Unread ask tables m is sees = (is, sees)
known_for (Written meta) ask tables m (is, same) sees = (same, sees)
known_for (Pending meta) ask tables m (is, lawful) sees = (sym (ap meta_of is), sees)

pub known_as : (known : Known) (meta : Option Meta) (tables m : Queue) (ask : Step) → meta ≡ meta_in known.numbers → Knows known tables m → MeansFor ask tables m → IsKnownFor ask meta tables m
known_as known meta tables m ask is knows sees = subst (λ (o : Option Meta). IsKnownFor ask o tables m) (sym is) (known_for known.numbers ask tables m knows.numbers sees)

-- so it does for what is raised
pub sees_raised : (floor number : ℕ) (ask raised : Step) (tables m : Queue) → ◌≡◌ {A = Option Step} (Some raised) (if is_too_high number ask then None else Some (raised_ask floor ask)) → MeansFor ask tables m → MeansFor raised tables m
sees_raised floor number ask raised tables m is (inl same) = inl same
sees_raised floor number ask raised tables m is (inr submits) = inr (raised_submits floor number ask raised is submits)

-- once they are written the tables mean the queue
pub settled_or : (P : Queue → Type 0) (result : Result Known StoreFault) (a : Arrival) (known : Known) (tables m : Queue) → IfOk result (λ known₂. (tables m : Queue) → Knows known tables m → Knows known₂ m m)
    → IfErr result (λ fault. fault ≡ Unavailable) → P m → Knows known tables m
    → MatchResult result (λ known₂. (now : Queue) × P now × Knows known₂ now m × SeesIn a now m) (λ fault. (fault ≡ Unavailable) × P m)
settled_or P (Ok known₂) a known tables m knows why there knew = (m, there, knows tables m knew, inl refl)
settled_or P (Err fault) a known tables m knows why there knew = (why, there)

-- ---- readings

-- tables that mean the same
pub means_as : (s : State) (tables m : Queue) (k : Ledger) → tables ≡ m → MeansNow s tables k → MeansNow s m k
means_as s tables m k same means = subst (λ (q : Queue). MeansNow s q k) same means

-- what leaves an open store, leaves it open
pub still_open : {A E : Type 0} (result : Result A E) (P Q R : Type 0) → OnOk result (P → R) → OnOk result (P → Q → R)
still_open (Ok x) P Q R opens = λ p q. opens p
still_open (Err e) P Q R opens = tt

-- a call that fails its work where it is refused, fails it by that
pub fails_where : {A E : Type 0} (result : Result A E) (failed : Bool) → failed ≡ is_err result → OnErr result (failed ≡ true)
fails_where (Ok x) failed is = tt
fails_where (Err e) failed is = is
