-- What a work means across its calls.
use Rattle.std.proofs.Common.{◌≡◌, inl, inr, ℕ, List, true, false, Ok, Err, Result, MatchResult, OnOk, OnErr, IfErr, IfOk, IsErrAnd, is_err, if◌then◌else◌, ap, refl, sym, ◌∙◌, Bool, IsTrue, Option, Some, None, option_map}
use Rattle.std.proofs.lemmas.Option.{same_Some}
use Rattle.sqlite.proofs.Callers.{unchanged_then}
use Rattle.sqlite.specs.Effect.{Database}
use Rattle.sqlite.specs.Order.{Row}
use Rattle.sqlite.specs.State.{State, HasCleanDisk, IsUnchanged, Executes}
use Rattle.fax_tables.specs.declared.fault.StoreFault.{StoreFault}
use Rattle.fax_tables.specs.declared.fault.StoreFault.TheVariants.{Strange, Unavailable}
use Rattle.sqlite.specs.declared.error.Error.{Error}
use Rattle.fax_tables.specs.Fault.{OrUnavailable, fault_of}
use Rattle.fax_core.specs.Ledger.{Ledger}
use Rattle.fax_core.specs.Queue.{Queue}
use Rattle.fax_tables.specs.Tables.{TablesMean}
use Rattle.fax_store.specs.Store.{Serves, MeansNow, HasTables, IsEditText, Stays, IsRefusedFor, LeavesCommit, Reads, HasRun}
use Rattle.fax_store.specs.Work.{IsOver, Holds, IsUnderWay, Works, Changes, ChangesWhere, Keeps, IsOnlyUnavailable, Steps, Moves}
use Rattle.fax_schema.specs.Schema.{our_tables}
use Rattle.fax_store.proofs.StatementLemmas.{edit_shows}
use Rattle.fax_store.proofs.StoreLemmas.{same_tables, rows_left}
use Rattle.fax_layout.proofs.WriteLemmas.{KeepsOthers}

-- what is found is made of what is there
pub there_as : {X Y : Type 0} (f : X → Y) (o : Option X) (y : Y) → Some y ≡ option_map f o → (x : X) × (o ≡ Some x) × (y ≡ f x)
there_as f None y e = absurd cc
there_as f (Some x) y e = (x, refl, same_Some y (f x) e)

-- what a refusal leaves was committed
pub committed_is : (old new : State) → LeavesCommit old new → IsTrue new.is_open → new.committed ≡ old.committed
committed_is old new (inl same) is_open = same.0.committed_is
committed_is old new (inr undone) is_open = (undone.undone is_open).1

-- A call of a work that holds moves it on, where what its tables mean then is known.
pub moves_by : {A : Type 0} (old new : State) (result : Result A StoreFault) (m₀ m after : Queue) (k₀ k kept : Ledger) → (Serves new → Serves old) → Holds old false new (is_err result) → Works old false m₀ k₀ m k → Serves new
    → (TablesMean old.now m k → IsTrue old.in_transaction → OnOk result (TablesMean new.now after kept)) → Moves new result m₀ k₀ after kept
moves_by old new (Ok a) m₀ m after k₀ k kept served holds works s means =
    let was = works (served s) in
    let inside = was.goes_on refl in
    let now = holds old.committed (λ _. record { began = refl; goes_on = λ _. (inside.inside, inside.means.schema) }) s in
    record { began = same_tables m₀ k₀ now.began was.began; goes_on = λ _. record { inside = (now.goes_on refl).0; means = means inside.means inside.inside } }
moves_by old new (Err e) m₀ m after k₀ k kept served holds works s means =
    let was = works (served s) in
    let inside = was.goes_on refl in
    same_tables m₀ k₀ (holds old.committed (λ _. record { began = refl; goes_on = λ _. (inside.inside, inside.means.schema) }) s).began was.began

-- what holds where a call is done and what holds where it is refused each say more
pub both_as : {A : Type 0} {P Q R S : Type 0} (result : Result A StoreFault) → (P → R) → (Q → S) → MatchResult result (λ _. P) (λ _. Q) → MatchResult result (λ _. R) (λ _. S)
both_as (Ok a) done refused h = done h
both_as (Err e) done refused h = refused h

pub ok_as : {A : Type 0} {P Q : Type 0} (result : Result A StoreFault) → (P → Q) → OnOk result P → OnOk result Q
ok_as result more = both_as result more (λ t. t)

pub err_as : {A : Type 0} {P Q : Type 0} (result : Result A StoreFault) → (P → Q) → OnErr result P → OnErr result Q
err_as result more = both_as result (λ t. t) more

-- what a call tells where X holds
pub given_ok : {A : Type 0} (X Y : Type 0) (result : Result A StoreFault) → (X → OnOk result Y) → OnOk result (X → Y)
given_ok X Y (Ok a) told = told
given_ok X Y (Err e) told = tt

-- what is told of an answer alone, and of a refusal alone
pub told_ok : {A : Type 0} (P : A → Type 0) (result : Result A StoreFault) → OrUnavailable result P → IfOk result P
told_ok P (Ok a) told = told
told_ok P (Err e) told = tt

pub told_cause : {A : Type 0} (P : A → Type 0) (result : Result A StoreFault) → OrUnavailable result P → IfErr result (λ e. e ≡ Unavailable)
told_cause P (Ok a) told = tt
told_cause P (Err e) told = told

-- what is only unavailable isn't strange
pub not_strange : {A : Type 0} (result : Result A StoreFault) → IfErr result (λ e. e ≡ Unavailable) → result ≡ Err Strange → ⊥
not_strange (Ok a) told is = absurd cc
not_strange (Err e) told is = let same : e ≡ Strange = cc in let no = sym told ∙ same in absurd cc

-- what is refused isn't done
pub never_ok : {A : Type 0} (X : Type 0) (result : Result A StoreFault) (P : StoreFault → Type 0) → IsErrAnd result P → OnOk result X
never_ok X (Ok a) P is = absurd is
never_ok X (Err e) P is = tt

-- a transaction that a call leaves goes on over the tables
pub inside_by : (old new : State) → Holds old false new false → Serves new → IsTrue old.in_transaction → HasTables old → IsTrue new.in_transaction × HasTables new
inside_by old new holds s inside tables = (holds old.committed (λ _. record { began = refl; goes_on = λ _. (inside, tables) }) s).goes_on refl

-- an answer after which all is as it was, whatever it is
pub reads_same : {A E : Type 0} (old new : State) (result : Result A E) → IsUnchanged old new → Reads old new result
reads_same old new (Ok a) same = same
reads_same old new (Err e) same = inl same

-- what is undone after a call that changes nothing is undone of what was before
pub left_then : (a b c : State) → IsUnchanged a b → LeavesCommit b c → LeavesCommit a c
left_then a b c same (inl next) = inl (unchanged_then a b c same next)
left_then a b c same (inr undone) = inr (record {
  was_open = λ is_open. same.0.was_open;
  undone = λ is_open. let u = undone.undone is_open in (u.0 ∙ same.0.committed_is, u.1 ∙ same.0.committed_is);
  autocommit = undone.autocommit;
  unmarked = undone.unmarked;
  counts = record { changes = undone.counts.changes ∙ same.1.changes; last_rowid = undone.counts.last_rowid ∙ same.1.last_rowid };
})

-- so one reading leaves the same after another
pub reads_then : (a b c : State) {A E : Type 0} (result : Result A E) → IsUnchanged a b → Reads b c result → Reads a c result
reads_then a b c (Ok x) same next = unchanged_then a b c same next
reads_then a b c (Err e) same next = left_then a b c same next

-- a refusal
pub reads_refused : {A : Type 0} (old new : State) (result : Result A StoreFault) (P : StoreFault → Type 0) → IsErrAnd result P → LeavesCommit old new → Reads old new result
reads_refused old new (Ok a) P is left = absurd is
reads_refused old new (Err e) P is left = left

-- what such an answer or refusal leaves is what a refused statement does
pub left_by : {A E : Type 0} (old new : State) (result : Result A E) → Reads old new result → LeavesCommit old new
left_by old new (Ok a) same = inl same
left_by old new (Err e) left = left

-- what a refused statement leaves of a work
pub left_holds : (old new : State) → (Serves new → Serves old) → (HasCleanDisk new → LeavesCommit old new) → Holds old false new true
left_holds old new served left db over s = record {
  began = committed_is old new (left s.clean) s.is_open ∙ (over (served s)).began;
  goes_on = λ on. absurd cc;
}

-- what a statement that changes rows leaves of one
pub edit_holds : (old new : State) (sql : List ℕ) (params : Row) → (Serves new → Serves old) → IsEditText sql → (count : ℕ) → (HasCleanDisk new → Executes sql params old new (Ok count)) → Holds old false new false
edit_holds old new sql params served edit count ran db over s =
    let was = over (served s) in
    let on = was.goes_on refl in
    let did = edit_shows old new sql params on.1 edit count (ran s.clean) in
    record { began = did.1.committed_is ∙ ap (λ b. if b then old.committed else new.now) on.0 ∙ was.began; goes_on = λ _. (did.1.mode ∙ on.0, did.0 ∙ on.1) }

-- what a call that only reads tells, and leaves
module _ (old new : State) (served : Serves new → Serves old) {A E : Type 0} (result : Result A E) (read : HasTables old → HasCleanDisk new → Reads old new result) where
  -- the rows of the store stay
  pub stays_by : Stays old new
  stays_by db ours has s =
      let was = has (served s) in
      rows_left old new db s (left_by old new result (read (ap (λ (d : Database). d.schema) was.now ∙ ours) s.clean)) was

  -- and inside a work
  pub holds_by : Holds old false new (is_err result)
  holds_by db over s = kept result (read (was.goes_on refl).1 s.clean)
    where
      was : IsOver old false db
      was = over (served s)

      kept : (r : Result A E) → Reads old new r → IsOver new (is_err r) db
      kept (Ok a) same =
          let on = was.goes_on refl in
          record { began = same.0.committed_is ∙ was.began; goes_on = λ _. (same.0.mode ∙ on.0, ap (λ (d : Database). d.schema) same.0.now_is ∙ on.1) }
      kept (Err e) left = record { began = committed_is old new left s.is_open ∙ was.began; goes_on = λ on. absurd cc }

  -- a call that only reads keeps what a work means
  pub keeps_by : Keeps old false new (is_err result)
  keeps_by m₀ m k₀ k works s = kept result (read (was.goes_on refl).means.schema s.clean)
    where
      was : IsUnderWay old false m₀ k₀ m k
      was = works (served s)

      kept : (r : Result A E) → Reads old new r → IsUnderWay new (is_err r) m₀ k₀ m k
      kept (Ok a) h =
          let same = h.0 in
          let inside = was.goes_on refl in record {
            began = same_tables m₀ k₀ same.committed_is was.began;
            goes_on = λ _. record { inside = same.mode ∙ inside.inside; means = same_tables m k same.now_is inside.means };
          }
      kept (Err e) left = record { began = same_tables m₀ k₀ (committed_is old new left s.is_open) was.began; goes_on = λ on. absurd cc }

-- what a reading of the store answers inside a work
module _ (old new : State) (served : Serves new → Serves old) {A : Type 0} (result : Result A StoreFault) (read : HasTables old → HasCleanDisk new → Reads old new result)
    (P : Queue → Ledger → A → Type 0) (answers : (m : Queue) (k : Ledger) → MeansNow old m k → Serves new → OrUnavailable result (P m k)) where
  -- what the tables mean inside a work
  works_now : (m₀ m : Queue) (k₀ k : Ledger) → Works old false m₀ k₀ m k → MeansNow old m k
  works_now m₀ m k₀ k works was = ((works was).goes_on refl).means

  -- the same, in the words of a step
  pub goes_on : (m₀ m : Queue) (k₀ k : Ledger) → Works old false m₀ k₀ m k → Serves new → MatchResult result (λ a. P m k a × IsUnderWay new false m₀ k₀ m k) (λ fault. (fault ≡ Unavailable) × TablesMean new.committed m₀ k₀)
  goes_on m₀ m k₀ k works s = stepped result (answers m k (works_now m₀ m k₀ k works) s) (keeps_by old new served result read m₀ m k₀ k works s)
    where
      stepped : (r : Result A StoreFault) → OrUnavailable r (P m k) → IsUnderWay new (is_err r) m₀ k₀ m k → MatchResult r (λ a. P m k a × IsUnderWay new false m₀ k₀ m k) (λ fault. (fault ≡ Unavailable) × TablesMean new.committed m₀ k₀)
      stepped (Ok a) h after = (h, after)
      stepped (Err e) h after = (h, after.began)

-- calls of a work, one after the other
pub holds_then : (a b c : State) (failed : Bool) → (Serves c → Serves b) → Holds a false b false → Holds b false c failed → Holds a false c failed
holds_then a b c failed served first next db over s = next db (λ at. first db over at) s

-- A statement that writes rows of one table moves a work on. Where it was refused, the last commit stands.
pub move_by : (old new : State) (sql : List ℕ) (params : Row) (tree : ℕ) (result : Result (Unit {0}) StoreFault) (m₀ m after : Queue) (k₀ k kept : Ledger) → (Serves new → Serves old) → Works old false m₀ k₀ m k → Serves new
    → OnOk result (HasRun sql params old new) → OnErr result (LeavesCommit old new) → (TablesMean old.now m k → HasRun sql params old new → TablesMean new.now after kept × KeepsOthers our_tables tree old new) → Moves new result m₀ k₀ after kept
move_by old new sql params tree (Ok done) m₀ m after k₀ k kept served works s ran left does =
    let was = works (served s) in
    let inside = was.goes_on refl in
    let did = does inside.means ran in
    let shown = did.1.shown in record {
      began = same_tables m₀ k₀ (shown.committed_is ∙ ap (λ b. if b then old.committed else new.now) inside.inside) was.began;
      goes_on = λ _. record { inside = shown.mode ∙ inside.inside; means = did.0 };
    }
move_by old new sql params tree (Err e) m₀ m after k₀ k kept served works s ran left does =
    same_tables m₀ k₀ (committed_is old new left s.is_open) (works (served s)).began

-- a step is a move whose refusal is known
pub step_of : {A : Type 0} (new : State) (result : Result A StoreFault) (m₀ m : Queue) (k₀ k : Ledger) → IfErr result (λ fault. fault ≡ Unavailable) → Moves new result m₀ k₀ m k → Steps new result m₀ k₀ m k
step_of new (Ok a) m₀ m k₀ k cause h = h
step_of new (Err e) m₀ m k₀ k cause h = (cause, h)

-- A statement that writes rows of one table is a step of a work.
pub step_by : (old new : State) (sql : List ℕ) (params : Row) (tree : ℕ) (result : Result (Unit {0}) StoreFault) (m₀ m after : Queue) (k₀ k kept : Ledger) → (Serves new → Serves old) → Works old false m₀ k₀ m k → Serves new
    → OnOk result (HasRun sql params old new) → OnErr result (LeavesCommit old new) → IfErr result (λ fault. fault ≡ Unavailable)
    → (TablesMean old.now m k → HasRun sql params old new → TablesMean new.now after kept × KeepsOthers our_tables tree old new) → Steps new result m₀ k₀ after kept
step_by old new sql params tree result m₀ m after k₀ k kept served works s ran left cause does =
    step_of new result m₀ after k₀ kept cause (move_by old new sql params tree result m₀ m after k₀ k kept served works s ran left does)

-- an INSERT whose row breaks no rule, by what the tables mean, is refused for want of an answer alone
pub only_unavailable : (old new : State) (sql : List ℕ) (params : Row) {A : Type 0} (result : Result A StoreFault) (P : Queue → Ledger → Type 0) → (Serves new → Serves old) → (HasCleanDisk new → IfErr result (IsRefusedFor sql params old new))
    → ((m : Queue) (k : Ledger) → TablesMean old.now m k → P m k → (e : Error) → Executes sql params old new (Err e) → fault_of e ≡ Unavailable) → IsOnlyUnavailable old false new result P
only_unavailable old new sql params (Ok a) P served told goes m₀ m k₀ k works s holds = tt
only_unavailable old new sql params (Err fault) P served told goes m₀ m k₀ k works s holds =
    let why = told s.clean in
    why.2 ∙ goes m k ((works (served s)).goes_on refl).means holds why.0 why.1

-- a refusal that is passed on
pub refused_as : {A : Type 0} (result : Result A StoreFault) (fault : StoreFault) → IsErrAnd result (λ e. e ≡ fault) → fault ≡ Unavailable → IfErr result (λ e. e ≡ Unavailable)
refused_as (Ok a) fault is why = tt
refused_as (Err e) fault is why = is ∙ why

-- a step that was refused leaves the last commit
pub refused_steps : {A : Type 0} (new : State) (result : Result A StoreFault) (fault : StoreFault) (m₀ m : Queue) (k₀ k : Ledger) → IsErrAnd result (λ e. e ≡ fault) → (fault ≡ Unavailable) × TablesMean new.committed m₀ k₀ → Steps new result m₀ k₀ m k
refused_steps new (Ok a) fault m₀ m k₀ k is why = absurd is
refused_steps new (Err e) fault m₀ m k₀ k is why = (is ∙ why.0, why.1)

-- a step is a move
pub moves_of : {A : Type 0} (new : State) (result : Result A StoreFault) (m₀ m : Queue) (k₀ k : Ledger) → Steps new result m₀ k₀ m k → Moves new result m₀ k₀ m k
moves_of new (Ok a) m₀ m k₀ k h = h
moves_of new (Err e) m₀ m k₀ k h = h.1

-- a step is refused only for want of an answer
pub steps_fault : {A : Type 0} (new : State) (result : Result A StoreFault) (m₀ m : Queue) (k₀ k : Ledger) → Steps new result m₀ k₀ m k → IfErr result (λ fault. fault ≡ Unavailable)
steps_fault new (Ok a) m₀ m k₀ k h = tt
steps_fault new (Err e) m₀ m k₀ k h = h.0

-- a move leaves the work under way, unless it is refused
under_way : {A : Type 0} (new : State) (result : Result A StoreFault) (m₀ m : Queue) (k₀ k : Ledger) → Moves new result m₀ k₀ m k → IsUnderWay new (is_err result) m₀ k₀ m k
under_way new (Ok a) m₀ m k₀ k h = h
under_way new (Err e) m₀ m k₀ k h = record { began = h; goes_on = λ on. absurd cc }

-- a call that moves each work on by these changes changes it so
pub moved_by : (old new : State) {A : Type 0} (result : Result A StoreFault) (f : Queue → Queue) (g : Ledger → Ledger) → ((m₀ m : Queue) (k₀ k : Ledger) → Works old false m₀ k₀ m k → Serves new → Moves new result m₀ k₀ (f m) (g k))
    → Changes old false new (is_err result) f g
moved_by old new result f g moves m₀ m k₀ k works s = under_way new result m₀ (f m) k₀ (g k) (moves m₀ m k₀ k works s)

-- a call that moves on each work of a queue of which P holds
pub steps_where : (old new : State) {A : Type 0} (P : Queue → Type 0) (result : Result A StoreFault) (f : Queue → Queue) (g : Ledger → Ledger)
    → ((m₀ m : Queue) (k₀ k : Ledger) → P m → Works old false m₀ k₀ m k → Serves new → Moves new result m₀ k₀ (f m) (g k)) → ChangesWhere P old false new (is_err result) f g
steps_where old new P result f g moves m₀ m k₀ k holds works s = under_way new result m₀ (f m) k₀ (g k) (moves m₀ m k₀ k holds works s)
