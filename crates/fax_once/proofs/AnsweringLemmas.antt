-- What comes of a request within a work.
use Rattle.std.proofs.Common.{◌≡◌, ◌∙◌, inl, inr, false, Bool, Err, Ok, Result, OnOk, IsErrAnd, MatchResult, refl, subst, sym}
use Rattle.sqlite.specs.State.{State, HasCleanDisk}
use Rattle.sqlite_trees.specs.declared.store.Store.{Ghosts}
use Rattle.fax_ask.specs.Response.{Response}
use Rattle.fax_core.specs.Ledger.{IsKeptStatus, Ledger}
use Rattle.fax_core.specs.Queue.{Queue}
use Rattle.fax_core.specs.Sound.{Sound}
use Rattle.std.specs.Prelude.{IfOk}
use Rattle.fax_decide.specs.Fault.{OnlyNoAnswer}
use Rattle.fax_decide.specs.declared.fault.Fault.{Fault}
use Rattle.fax_decide.specs.declared.fault.Fault.TheVariants.{NoAnswer}
use Rattle.fax_run.specs.Verdict.{Verdict, Told}
use Rattle.fax_run.specs.Verdict as verdict
use Rattle.fax_store.specs.Calls.{Follows, within}
use Rattle.fax_store.specs.Store.{HasTables, Means, Serves, StaysOpen}
use Rattle.fax_store.specs.Work.{IsActive, IsUnderWay, MayCommit, Opens, Withholds, Works}
use Rattle.fax_store.specs.declared.work.Work.{Work}
use Rattle.fax_tables.specs.Tables.{IsAtRest, TablesMean}
use Rattle.fax_once.specs.Acceptance.{IsBy, MayBeKept, left_by}
use Rattle.fax_once.specs.Handled.{Leaves}
use Rattle.fax_once.specs.Stop.{AreMadeBy, StopsBy}
use Rattle.fax_once.specs.Known.{HasBegun, Knows, LeadsTo}
use Rattle.fax_once.specs.declared.known.Known.{Known}
use Rattle.fax_once.specs.declared.acceptance.Answered.{Answered}
use Rattle.fax_once.specs.declared.acceptance.Answered.TheVariants.{Unchanged, Accepted}

-- a work that is under way is in a store that serves, as long as the disk is clean
pub active_serves : (s : State) (failed : Bool) → failed ≡ false → IsActive s failed → HasCleanDisk s → Serves s
active_serves s failed on active clean = record { clean = clean; is_open = (active clean on).is_open }

-- so it is where an answer leaves a store that serves serving
pub opens_by : {A E : Type 0} (old new : State) (failed : Bool) (result : Result A E) → failed ≡ false → (HasCleanDisk new → HasCleanDisk old) → OnOk result (StaysOpen old new)
    → OnOk result (IsActive old failed → HasCleanDisk new → Serves new)
opens_by old new failed (Ok x) on clean opens = λ active now. opens now (active_serves old failed on active (clean now))
opens_by old new failed (Err e) on clean opens = tt

-- and where the last of two answers, after which the work goes on
pub opened_by : {S : Type 0} (g : Ghosts S) (old between new : Work S) {A : Type 0} (result : Result A Fault) → Follows g old between → Follows g between new
    → OnOk result (new.failed ≡ false) → OnOk result (IsActive (within g old) old.failed → HasCleanDisk (within g new) → Serves (within g new))
opened_by g old between new (Ok x) first next goes = λ active clean. active_serves (within g new) new.failed goes (next.crash (first.crash active).0).0 clean
opened_by g old between new (Err e) first next goes = tt

-- what holds whatever comes of a call holds where it has a result
pub on_each : {A E : Type 0} (result : Result A E) {P : Type 0} → P → OnOk result P
on_each (Ok x) p = p
on_each (Err e) p = tt

-- what is accepted may be kept
pub kept_by : (result : Result Answered Fault) (reply : Response) → IfOk result (λ x. (x ≡ Accepted reply) × IsKeptStatus reply.status) → IfOk result MayBeKept
kept_by (Ok x) reply gives = subst MayBeKept (sym gives.0) gives.1
kept_by (Err e) reply gives = tt

module _ (known : Known) (s : State) (failed : Bool) (m₀ m : Queue) (k₀ k : Ledger) where
  -- the answer is by the verdict, and the work leads where that does
  abbrev pub IsLeft : Answered → Verdict → Type 0
  IsLeft x v = IsBy x v × Sound (left_by m k v).queue × LeadsTo known s failed m₀ k₀ (left_by m k v)

  -- a refusal leads nowhere
  pub refused_by : (v : Verdict) (reply : Response) → Told reply ≡ v → Sound m → LeadsTo known s failed m₀ k₀ (record { queue = m; kept = k }) → IsLeft (Unchanged reply) v
  refused_by v reply is sound there = subst (IsLeft (Unchanged reply)) is (refl, sound, there)

  -- what is accepted leads to what it makes
  pub accepted_by : (v : Verdict) (reply : Response) (after : Queue) (kept : Ledger) → verdict.Accepted after kept reply ≡ v → Sound after
      → LeadsTo known s failed m₀ k₀ (record { queue = after; kept = kept }) → IsLeft (Accepted reply) v
  accepted_by v reply after kept is sound there = subst (IsLeft (Accepted reply)) is ((after, kept, refl), sound, there)

-- what an acceptance within a work gives is by its verdict
pub answered_by : (result : Result Answered Fault) (known : Known) (s : State) (failed : Bool) (m₀ tables written m : Queue) (k₀ k : Ledger) (v : Verdict) (reply : Response) (after : Queue) (kept : Ledger) (P : Type 0)
    → verdict.Accepted after kept reply ≡ v → IfOk result (λ x. (x ≡ Accepted reply) × P) → Sound after → Knows known written after
    → MatchResult result (λ _. Works s failed m₀ k₀ written kept) (λ _. Works s failed m₀ k₀ tables k) → Serves s → OnlyNoAnswer result
    → MatchResult result (λ x. IsLeft known s failed m₀ m k₀ k x v) (λ fault. (fault ≡ NoAnswer) × HasBegun s failed m₀ k₀)
answered_by (Ok x) known s failed m₀ tables written m k₀ k v reply after kept P is gives sound knows works serves why =
    subst (λ (y : Answered). IsLeft known s failed m₀ m k₀ k y v) (sym gives.0) (accepted_by known s failed m₀ m k₀ k v reply after kept is sound (written, knows, works serves))
answered_by (Err fault) known s failed m₀ tables written m k₀ k v reply after kept P is gives sound knows works serves why = (why, (tables, k, works serves))

-- no answer leaves what was there
pub no_answer : {A U : Type 0} (r : Result A Fault) (fault : Fault) (P : A → Type 0) → IsErrAnd r (λ e. e ≡ fault) → fault ≡ NoAnswer → U → MatchResult r P (λ e. (e ≡ NoAnswer) × U)
no_answer (Ok x) fault P is why under = absurd is
no_answer (Err e) fault P is why under = (is ∙ why, under)

-- what a refusal leaves
pub refused_leaves : (new : State) (m : Queue) (k : Ledger) (v : Verdict) (reply : Response) → IsBy (Unchanged reply) v → Means new m k → Leaves m k reply new v
refused_leaves new m k v reply is means = subst (Leaves m k reply new) (sym is) (refl, means)

-- what an acceptance leaves, once it is committed
pub accepted_leaves : (new : State) (m : Queue) (k : Ledger) (v : Verdict) (reply : Response) → IsBy (Accepted reply) v → Sound (left_by m k v).queue → Serves new
    → Means new (left_by m k v).queue (left_by m k v).kept → Leaves m k reply new v
accepted_leaves new m k v reply by sound serves means =
    let is = by.2 in
    subst (Leaves m k reply new) (sym is) (
      refl,
      serves,
      subst (λ (w : Verdict). IsAtRest new (left_by m k w).queue (left_by m k w).kept) is (means serves),
      subst (λ (w : Verdict). Sound (left_by m k w).queue) is sound,
    )

-- a work whose commit was asked for, done or not: a crash leaves what one before could leave, or the rows of the verdict
pub accepted_stops : (s0 s1 s2 s3 : State) (begun written : Bool) → Opens s0 s1 begun → (Serves s0 → HasTables s0) → Withholds s1 begun s2 written
    → (m : Queue) (k : Ledger) (v : Verdict) (reply : Response) → (Serves s2 → IsBy (Accepted reply) v × IsUnderWay s2 written m k (left_by m k v).queue (left_by m k v).kept)
    → (HasCleanDisk s3 → HasCleanDisk s2) → (Serves s2 → Serves s0) → MayCommit s2 written s3 → StopsBy s0 s3 v
accepted_stops s0 s1 s2 s3 begun written opens tables writes m k v reply left cleaner served commits found may =
    let wrote = writes (opens.0 tables) in
    elim (commits wrote.0 found may) [
      | inl before ↦ inl (opens.1 found (wrote.1 found before))
      | inr done ↦
          (let serves : Serves s2 = record { clean = cleaner may.0; is_open = done.1.is_open } in
          let there = left serves in
          let is = there.0.2 in
          let means = (there.1.goes_on done.0).means in
          inr (served serves, subst (λ (w : Verdict). AreMadeBy w found) (sym is) (s2.now, sym done.2, subst (λ (w : Verdict). TablesMean s2.now (left_by m k w).queue (left_by m k w).kept) is means)))
    ]
