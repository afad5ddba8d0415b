-- What readings leave and tell, one after the other.
use Rattle.std.proofs.Common.{◌≡◌, ◌⊎◌, ◌+◌, inl, inr, ℕ, List, [], Vec, Global, Ok, Err, Result, IfOk, IfErr, IsErrAnd, MatchResult, OnOk, OnErr, refl, sym, ap, subst, ◌∙◌, ℤ, Option}
use Rattle.sqlite.specs.Effect.{Database}
use Rattle.sqlite.specs.Held.{Held, state}
use Rattle.sqlite.specs.Given.{HasBegun, HasGiven, IsPlain}
use Rattle.sqlite.specs.Listing.{understood}
use Rattle.sqlite.specs.Order.{Row}
use Rattle.sqlite.specs.State.{State, CommitsShowing, FailsToQuery, HasCleanDisk, IsUnchanged, Shown, Survives}
use Rattle.sqlite.specs.declared.error.Error.{Error}
use Rattle.sqlite.specs.declared.rows.Row.{Row as SqlRow}
use Rattle.sqlite.proofs.Callers.{begun_plain, unchanged_then}
use Rattle.sqlite_trees.specs.declared.store.Store.{Ghosts}
use Rattle.fax_check.specs.Pass.{AreRead, GoesOn}
use Rattle.fax_check.specs.Reading.{Looks, Tells}
use Rattle.fax_check.specs.Sound.{IsStored}
use Rattle.fax_schema.specs.Schema.{our_tables}
use Rattle.fax_store.specs.Store.{CommitsNothing, HasTables, IsQueryText, LeavesCommit, Reads}
use Rattle.fax_store.proofs.StatementLemmas.{query_fails, shown_keeps}
use Rattle.fax_store.proofs.StopLemmas.{queries_nothing}
use Rattle.fax_store.proofs.StoreLemmas.{cleaner}
use Rattle.fax_store.proofs.WorkLemmas.{left_then, reads_refused, reads_then}
use Rattle.fax_tables.specs.declared.fault.StoreFault.{StoreFault}
use Rattle.fax_tables.specs.declared.fault.StoreFault.TheVariants.{Unavailable}
use Rattle.fax_layout.proofs.StopLemmas.{nothing_then}

if_ok : {A : Type 0} (result : Result A StoreFault) (P Q : A → Type 0) → ((a : A) → P a → Q a) → IfOk result P → IfOk result Q
if_ok (Ok a) P Q so h = so a h
if_ok (Err e) P Q so h = tt

module _ (old new : State) {A B : Type 0} (P : Database → A → Type 0) (Q : Database → B → Type 0) where
  -- a refusal is passed on
  pub err_as : (e : StoreFault) → Tells old new (Err e) P → Tells old new (Err e) Q
  err_as e h = record { clean = h.clean; reads = h.reads; crash = h.crash; cause = h.cause; tells = λ stored clean. tt }

  -- more is made of an answer
  pub ok_as : (a : A) (b : B) → Tells old new (Ok a) P → (IsStored old.now → P old.now a → Q old.now b) → Tells old new (Ok b) Q
  ok_as a b h so = record { clean = h.clean; reads = h.reads; crash = h.crash; cause = tt; tells = λ stored clean. so stored (h.tells stored clean) }

  -- or a fault, which wants memory
  pub fails_as : (a : A) (e : StoreFault) → Tells old new (Ok a) P → e ≡ Unavailable → Tells old new (Err e) Q
  fails_as a e h is = record { clean = h.clean; reads = λ tables clean. inl (h.reads tables clean); crash = h.crash; cause = is; tells = λ stored clean. tt }

-- one reading behind another, of the same rows
pub tells_then : (old mid new : State) {A B : Type 0} (a : A) (result : Result B StoreFault) (P : Database → A → Type 0) (Q R : Database → B → Type 0) → Tells old mid (Ok a) P → Tells mid new result Q
    → ((b : B) → IsStored old.now → P old.now a → Q old.now b → R old.now b) → Tells old new result R
tells_then old mid new a result P Q R first next so = record {
  clean = λ clean. first.clean (next.clean clean);
  reads = λ tables clean.
      let same : IsUnchanged old mid = first.reads tables (next.clean clean) in
      reads_then old mid new result same (next.reads (ap (λ (d : Database). d.schema) same.0.now_is ∙ tables) clean);
  crash = nothing_then old mid new first.crash next.crash;
  cause = next.cause;
  tells = λ stored clean.
      let same : IsUnchanged old mid = first.reads stored.schema_is (next.clean clean) in
      let still : IsStored mid.now = subst IsStored (sym same.0.now_is) stored in
      if_ok result (Q mid.now) (R old.now) (λ b q. so b stored (first.tells stored (next.clean clean)) (subst (λ d. Q d b) same.0.now_is q)) (next.tells still clean);
}

-- ---- a query under way

module _ {S : Type 0} (g : Ghosts S) (a b c : Held S) where
  goes_left : {A : Type 0} (result : Result A StoreFault) → IsUnchanged (state g a) (state g b) → OnErr result (LeavesCommit (state g b) (state g c))
      → OnErr result (LeavesCommit (state g a) (state g c))
  goes_left (Ok x) same left = tt
  goes_left (Err e) same left = left_then (state g a) (state g b) (state g c) same left

  goes_same : {A : Type 0} (result : Result A StoreFault) → IsUnchanged (state g a) (state g b) → OnOk result (IsUnchanged (state g b) (state g c)) → OnOk result (IsUnchanged (state g a) (state g c))
  goes_same (Ok x) same next = unchanged_then (state g a) (state g b) (state g c) same next
  goes_same (Err e) same next = tt

  -- goes on and on
  pub goes_then : {A B : Type 0} (x : A) (result : Result B StoreFault) → GoesOn g a b (Ok x) → GoesOn g b c result → GoesOn g a c result
  goes_then x result first next = record {
    clean = λ clean. first.clean (next.clean clean);
    same = λ clean. goes_same result (first.same (next.clean clean)) (next.same clean);
    left = λ clean. goes_left result (first.same (next.clean clean)) (next.left clean);
    crash = nothing_then (state g a) (state g b) (state g c) first.crash next.crash;
    cause = next.cause;
  }

-- ---- a query

of_err : {A : Type 0} (r : Result A StoreFault) → IsErrAnd r (λ fault. fault ≡ Unavailable) → IfErr r (λ fault. fault ≡ Unavailable)
of_err (Ok x) is = tt
of_err (Err e) is = is

no_answer : {A : Type 0} (r : Result A StoreFault) (Q : A → Type 0) → IsErrAnd r (λ fault. fault ≡ Unavailable) → IfOk r Q
no_answer (Ok x) Q is = absurd is
no_answer (Err e) Q is = tt

module _ (old new : State) (sql : List ℕ) (params : Row) (query : IsQueryText sql) (survives : Survives old new (CommitsShowing sql params old)) where
  still_plain : HasTables old → IsPlain (understood old.now.schema sql)
  still_plain tables = subst (λ s. IsPlain (understood s sql)) (sym tables) query

  -- a query that shows its rows leaves all as it is
  pub shown_tells : (rows : Vec SqlRow Global) → (HasCleanDisk new → Shown sql params old new rows.items)
      → Tells old new (Ok rows) (λ _ (shown : Vec SqlRow Global). Shown sql params old new shown.items)
  shown_tells rows shown = record {
    clean = cleaner old new survives.clean;
    reads = λ tables clean. shown_keeps old new sql params (still_plain tables) rows.items (shown clean);
    crash = queries_nothing old new sql params query survives;
    cause = tt;
    tells = λ stored clean. shown clean;
  }

  -- one that doesn't leaves what was committed
  pub unshown_tells : {A : Type 0} (e : Error) (r : Result A StoreFault) (P : Database → A → Type 0) → (HasCleanDisk new → FailsToQuery sql params old new e)
      → IsErrAnd r (λ fault. fault ≡ Unavailable) → Tells old new r P
  unshown_tells e r P fails is = record {
    clean = cleaner old new survives.clean;
    reads = λ tables clean. reads_refused old new r _ is (query_fails old new sql params e (fails clean));
    crash = queries_nothing old new sql params query survives;
    cause = of_err r is;
    tells = λ stored clean. no_answer r (P old.now) is;
  }

-- what is made of an answer, or of a want of memory behind it
pub made_of : (old new : State) {A B : Type 0} (a : A) (r : Result B StoreFault) (P : Database → A → Type 0) (Q : Database → B → Type 0) → Tells old new (Ok a) P
    → IfErr r (λ fault. fault ≡ Unavailable)
    → (IsStored old.now → P old.now a → IfOk r (Q old.now)) → Tells old new r Q
made_of old new a (Ok b) P Q first cause so = record { clean = first.clean; reads = first.reads; crash = first.crash; cause = tt; tells = λ stored clean. so stored (first.tells stored clean) }
made_of old new a (Err e) P Q first cause so = record { clean = first.clean; reads = λ tables clean. inl (first.reads tables clean); crash = first.crash; cause = cause; tells = λ stored clean. tt }

-- the reading that was refused is refused still
pub refused_tells : (old new : State) {A B : Type 0} (e : StoreFault) (r : Result B StoreFault) (P : Database → A → Type 0) (Q : Database → B → Type 0) → Tells old new (Err e) P
    → IsErrAnd r (λ fault. fault ≡ e) → Tells old new r Q
refused_tells old new e (Ok b) P Q first is = absurd is
refused_tells old new e (Err f) P Q first is = record { clean = first.clean; reads = first.reads; crash = first.crash; cause = is ∙ first.cause; tells = λ stored clean. tt }

-- one reading behind another, whatever it tells
pub tells_behind : (old mid new : State) {A B : Type 0} (a : A) (r : Result B StoreFault) (P : Database → A → Type 0) (Q R : Database → B → Type 0) → Tells old mid (Ok a) P → Tells mid new r Q
    → (IsStored old.now → old.now ≡ mid.now → P old.now a → IfOk r (Q mid.now) → IfOk r (R old.now)) → Tells old new r R
tells_behind old mid new a r P Q R first next so = record {
  clean = λ clean. first.clean (next.clean clean);
  reads = λ tables clean.
      let same : IsUnchanged old mid = first.reads tables (next.clean clean) in
      reads_then old mid new r same (next.reads (ap (λ (d : Database). d.schema) same.0.now_is ∙ tables) clean);
  crash = nothing_then old mid new first.crash next.crash;
  cause = next.cause;
  tells = λ stored clean.
      let same : IsUnchanged old mid = first.reads stored.schema_is (next.clean clean) in
      so stored (sym same.0.now_is) (first.tells stored (next.clean clean)) (next.tells (subst IsStored (sym same.0.now_is) stored) clean);
}

-- ---- readings that may do nothing

module _ {S : Type 0} (g : Ghosts S) where
  abbrev Same : Held S → Held S → Type 0
  Same a b = (b ≡ a) ⊎ IsUnchanged (state g a) (state g b)

  same_then : (a b c : Held S) → Same a b → Same b c → Same a c
  same_then a b c (inl is) (inl also) = inl (also ∙ is)
  same_then a b c (inl is) (inr next) = inr (subst (λ x. IsUnchanged (state g x) (state g c)) is next)
  same_then a b c (inr first) (inl also) = inr (subst (λ x. IsUnchanged (state g a) (state g x)) (sym also) first)
  same_then a b c (inr first) (inr next) = inr (unchanged_then (state g a) (state g b) (state g c) first next)

  same_now : (a b : Held S) → Same a b → (state g a).now ≡ (state g b).now
  same_now a b (inl is) = ap (λ x. (state g x).now) (sym is)
  same_now a b (inr same) = sym same.0.now_is

  left_behind : (a b c : Held S) → Same a b → LeavesCommit (state g b) (state g c) → LeavesCommit (state g a) (state g c)
  left_behind a b c (inl is) left = subst (λ x. LeavesCommit (state g x) (state g c)) is left
  left_behind a b c (inr same) left = left_then (state g a) (state g b) (state g c) same left

  -- what holds from the start of a loop on
  pub record Since (T : Type 0) (a b : Held S) : Type 0 where
    pub clean : HasCleanDisk (state g b) → HasCleanDisk (state g a)
    pub same : T → HasCleanDisk (state g b) → Same a b
    pub crash : CommitsNothing (state g a) (state g b)

  pub since_start : (T : Type 0) (a : Held S) → Since T a a
  since_start T a = record { clean = λ clean. clean; same = λ t clean. inl refl; crash = λ found may. may }

  abbrev Tables : Held S → Type 0
  Tables a = HasTables (state g a)

  still_tables : (a b : Held S) → Same a b → Tables a → Tables b
  still_tables a b same tables = subst (λ (d : Database). d.schema ≡ our_tables) (same_now a b same) tables

  -- one more reading
  pub since_tells : (a b c : Held S) {A : Type 0} (x : A) (P : Database → A → Type 0) → Since (Tables a) a b → Tells (state g b) (state g c) (Ok x) P → Since (Tables a) a c
  since_tells a b c x P since next = record {
    clean = λ clean. since.clean (next.clean clean);
    same = λ tables clean. let before = since.same tables (next.clean clean) in same_then a b c before (inr (next.reads (still_tables a b before tables) clean));
    crash = nothing_then (state g a) (state g b) (state g c) since.crash next.crash;
  }

  -- the last reading, or nothing more
  pub looks_since : (a b : Held S) {A : Type 0} (x : A) (P : Database → A → Type 0) → Since (Tables a) a b
      → (IsStored (state g a).now → HasCleanDisk (state g b) → P (state g a).now x) → Looks g a b (Ok x) P
  looks_since a b x P since told = record { clean = since.clean; reads = λ tables clean. since.same tables clean; crash = since.crash; cause = tt; tells = told }

  looks_result : (a b c : Held S) {A : Type 0} (r : Result A StoreFault) → Same a b → Reads (state g b) (state g c) r → MatchResult r (λ _. Same a c) (λ _. LeavesCommit (state g a) (state g c))
  looks_result a b c (Ok x) same next = same_then a b c same (inr next)
  looks_result a b c (Err e) same next = left_behind a b c same next

  pub looks_tells : (a b c : Held S) {A B : Type 0} (r : Result A StoreFault) (s : Result B StoreFault) (P : Database → A → Type 0) (Q : Database → B → Type 0)
      → Since (Tables a) a b → Tells (state g b) (state g c) r P → IfErr s (λ fault. fault ≡ Unavailable)
      → ((x : Held S) → MatchResult r (λ _. Same x c) (λ _. LeavesCommit (state g x) (state g c)) → MatchResult s (λ _. Same x c) (λ _. LeavesCommit (state g x) (state g c)))
      → (IsStored (state g a).now → HasCleanDisk (state g b) → (state g a).now ≡ (state g b).now → IfOk r (P (state g b).now) → IfOk s (Q (state g a).now)) → Looks g a c s Q
  looks_tells a b c r s P Q since next cause keep told = record {
    clean = λ clean. since.clean (next.clean clean);
    reads = λ tables clean. let before = since.same tables (next.clean clean) in keep a (looks_result a b c r before (next.reads (still_tables a b before tables) clean));
    crash = nothing_then (state g a) (state g b) (state g c) since.crash next.crash;
    cause = cause;
    tells = λ stored clean.
        let before = since.same stored.schema_is (next.clean clean) in
        let is = same_now a b before in
        told stored (next.clean clean) is (next.tells (subst IsStored is stored) clean);
  }

  looked_result : (a b c : Held S) {A : Type 0} (r : Result A StoreFault) → IsUnchanged (state g a) (state g b)
      → MatchResult r (λ _. Same b c) (λ _. LeavesCommit (state g b) (state g c)) → Reads (state g a) (state g c) r
  looked_result a b c (Ok x) same (inl is) = subst (λ y. IsUnchanged (state g a) (state g y)) (sym is) same
  looked_result a b c (Ok x) same (inr next) = unchanged_then (state g a) (state g b) (state g c) same next
  looked_result a b c (Err e) same next = left_then (state g a) (state g b) (state g c) same next

  -- behind a reading that does something, one that may do nothing
  pub tells_looks : (a b c : Held S) {A B : Type 0} (x : A) (r : Result B StoreFault) (P : Database → A → Type 0) (Q R : Database → B → Type 0)
      → Tells (state g a) (state g b) (Ok x) P → Looks g b c r Q
      → (IsStored (state g a).now → (state g a).now ≡ (state g b).now → P (state g a).now x → IfOk r (Q (state g b).now) → IfOk r (R (state g a).now)) → Tells (state g a) (state g c) r R
  tells_looks a b c x r P Q R first next so = record {
    clean = λ clean. first.clean (next.clean clean);
    reads = λ tables clean.
        let same : IsUnchanged (state g a) (state g b) = first.reads tables (next.clean clean) in
        looked_result a b c r same (next.reads (ap (λ (d : Database). d.schema) same.0.now_is ∙ tables) clean);
    crash = nothing_then (state g a) (state g b) (state g c) first.crash next.crash;
    cause = next.cause;
    tells = λ stored clean.
        let same : IsUnchanged (state g a) (state g b) = first.reads stored.schema_is (next.clean clean) in
        so stored (sym same.0.now_is) (first.tells stored (next.clean clean)) (next.tells (subst IsStored (sym same.0.now_is) stored) clean);
  }

  looks_looks_result : (a b c : Held S) {A : Type 0} (r : Result A StoreFault) → Same a b → MatchResult r (λ _. Same b c) (λ _. LeavesCommit (state g b) (state g c))
      → MatchResult r (λ _. Same a c) (λ _. LeavesCommit (state g a) (state g c))
  looks_looks_result a b c (Ok x) same next = same_then a b c same next
  looks_looks_result a b c (Err e) same next = left_behind a b c same next

  -- and behind one that may do nothing, another
  pub looks_then : (a b c : Held S) {A B : Type 0} (x : A) (r : Result B StoreFault) (P : Database → A → Type 0) (Q R : Database → B → Type 0) → Looks g a b (Ok x) P → Looks g b c r Q
      → (IsStored (state g a).now → (state g a).now ≡ (state g b).now → P (state g a).now x → IfOk r (Q (state g b).now) → IfOk r (R (state g a).now)) → Looks g a c r R
  looks_then a b c x r P Q R first next so = record {
    clean = λ clean. first.clean (next.clean clean);
    reads = λ tables clean. let before = first.reads tables (next.clean clean) in looks_looks_result a b c r before (next.reads (still_tables a b before tables) clean);
    crash = nothing_then (state g a) (state g b) (state g c) first.crash next.crash;
    cause = next.cause;
    tells = λ stored clean.
        let before = first.reads stored.schema_is (next.clean clean) in
        let is = same_now a b before in
        so stored is (first.tells stored (next.clean clean)) (next.tells (subst IsStored is stored) clean);
  }

  -- what is made of such an answer, or of a refusal
  pub looks_as : (a b : Held S) {A B : Type 0} (x : A) (y : B) (P : Database → A → Type 0) (Q : Database → B → Type 0) → Looks g a b (Ok x) P
      → (IsStored (state g a).now → P (state g a).now x → Q (state g a).now y) → Looks g a b (Ok y) Q
  looks_as a b x y P Q h so = record { clean = h.clean; reads = h.reads; crash = h.crash; cause = tt; tells = λ stored clean. so stored (h.tells stored clean) }

  pub looks_refused : (a b : Held S) {A B : Type 0} (e : StoreFault) (r : Result B StoreFault) (P : Database → A → Type 0) (Q : Database → B → Type 0) → Looks g a b (Err e) P
      → IsErrAnd r (λ fault. fault ≡ e) → Looks g a b r Q
  looks_refused a b e (Ok y) P Q h is = absurd is
  looks_refused a b e (Err f) P Q h is = record { clean = h.clean; reads = h.reads; crash = h.crash; cause = is ∙ h.cause; tells = λ stored clean. tt }

  pub refused_since : (a b c : Held S) {A B : Type 0} (e : StoreFault) (r : Result B StoreFault) (P : Database → A → Type 0) (Q : Database → B → Type 0) → Since (Tables a) a b
      → Tells (state g b) (state g c) (Err e) P → IsErrAnd r (λ fault. fault ≡ e) → Looks g a c r Q
  refused_since a b c e (Ok y) P Q since next is = absurd is
  refused_since a b c e (Err f) P Q since next is = looks_tells a b c (Err e) (Err f) P Q since next (is ∙ next.cause) (λ x left. left) (λ stored clean same none. tt)

  -- what one more reading tells of the first rows
  pub since_told : (a b c : Held S) {A : Type 0} (x : A) (P : Database → A → Type 0) → Since (Tables a) a b → Tells (state g b) (state g c) (Ok x) P → IsStored (state g a).now
      → HasCleanDisk (state g c) → P (state g a).now x
  since_told a b c x P since next stored clean =
      let is = same_now a b (since.same stored.schema_is (next.clean clean)) in
      subst (λ d. P d x) (sym is) (next.tells (subst IsStored is stored) clean)

  -- ---- a pass

  -- what holds behind so many rows of it
  pub record Passed (n : ℕ) (a b : Held S) : Type 0 where
    pub clean : HasCleanDisk (state g b) → HasCleanDisk (state g a)
    pub same : HasCleanDisk (state g b) → ((n ≡ 0) × (b ≡ a)) ⊎ IsUnchanged (state g a) (state g b)
    pub crash : CommitsNothing (state g a) (state g b)

  pub pass_start : (a : Held S) → Passed 0 a a
  pass_start a = record { clean = λ clean. clean; same = λ clean. inl (refl, refl); crash = λ found may. may }

  passed_ok : (n : ℕ) (a b c : Held S) {A : Type 0} (r : Result A StoreFault) → ((n ≡ 0) × (b ≡ a)) ⊎ IsUnchanged (state g a) (state g b)
      → OnOk r (IsUnchanged (state g b) (state g c)) → OnOk r (IsUnchanged (state g a) (state g c))
  passed_ok n a b c (Ok x) (inl start) next = subst (λ y. IsUnchanged (state g y) (state g c)) start.1 next
  passed_ok n a b c (Ok x) (inr same) next = unchanged_then (state g a) (state g b) (state g c) same next
  passed_ok n a b c (Err e) same next = tt

  passed_err : (n : ℕ) (a b c : Held S) {A : Type 0} (r : Result A StoreFault) → ((n ≡ 0) × (b ≡ a)) ⊎ IsUnchanged (state g a) (state g b)
      → OnErr r (LeavesCommit (state g b) (state g c)) → OnErr r (LeavesCommit (state g a) (state g c))
  passed_err n a b c (Ok x) same next = tt
  passed_err n a b c (Err e) (inl start) next = subst (λ y. LeavesCommit (state g y) (state g c)) start.1 next
  passed_err n a b c (Err e) (inr same) next = left_then (state g a) (state g b) (state g c) same next

  -- the last row, or a refusal
  pub pass_ends : (n : ℕ) (a b c : Held S) {A : Type 0} (r : Result A StoreFault) → Passed n a b → GoesOn g b c r → GoesOn g a c r
  pass_ends n a b c r passed next = record {
    clean = λ clean. passed.clean (next.clean clean);
    same = λ clean. passed_ok n a b c r (passed.same (next.clean clean)) (next.same clean);
    left = λ clean. passed_err n a b c r (passed.same (next.clean clean)) (next.left clean);
    crash = nothing_then (state g a) (state g b) (state g c) passed.crash next.crash;
    cause = next.cause;
  }

  -- one row more
  pub pass_more : (n : ℕ) (a b c : Held S) {A : Type 0} (x : A) → Passed n a b → GoesOn g b c (Ok x) → Passed (n + 1) a c
  pass_more n a b c x passed next = let it = pass_ends n a b c (Ok x) passed next in record { clean = it.clean; same = λ clean. inr (it.same clean); crash = it.crash }

  -- too many rows
  pub pass_late : (n : ℕ) (a b : Held S) {A : Type 0} (r : Result A StoreFault) → ¬ (n ≡ 0) → r ≡ Err Unavailable → Passed n a b → GoesOn g a b r
  pass_late n a b r some is passed = subst (GoesOn g a b) (sym is) (record {
    clean = passed.clean;
    same = λ clean. tt;
    left = λ clean. elim (passed.same clean) [ inl start ↦ absurd (some start.0) | inr same ↦ inl same ];
    crash = passed.crash;
    cause = refl;
  })

  -- the same with another answer
  pub goes_as : (a b : Held S) {A B : Type 0} (x : A) (y : B) → GoesOn g a b (Ok x) → GoesOn g a b (Ok y)
  goes_as a b x y h = record { clean = h.clean; same = h.same; left = λ clean. tt; crash = h.crash; cause = tt }

  pub goes_refused : (a b : Held S) {A B : Type 0} (e : StoreFault) (r : Result B StoreFault) → GoesOn {A = A} g a b (Err e) → IsErrAnd r (λ fault. fault ≡ e) → GoesOn g a b r
  goes_refused a b e (Ok y) h is = absurd is
  goes_refused a b e (Err f) h is = record { clean = h.clean; same = λ clean. tt; left = h.left; crash = h.crash; cause = is ∙ h.cause }

  plain_begins : (old begun : Held S) (sql : List ℕ) → IsQueryText sql → Tables old → HasBegun g sql [] old begun → HasGiven g sql [] begun [] × IsUnchanged (state g old) (state g begun)
  plain_begins old begun sql query tables starts = begun_plain g sql [] old begun (subst (λ s. IsPlain (understood s sql)) (sym tables) query) starts

  goes_reads : (old begun new : Held S) {A : Type 0} (r : Result A StoreFault) → IsUnchanged (state g old) (state g begun) → OnOk r (IsUnchanged (state g begun) (state g new))
      → OnErr r (LeavesCommit (state g begun) (state g new)) → Reads (state g old) (state g new) r
  goes_reads old begun new (Ok x) same next left = unchanged_then (state g old) (state g begun) (state g new) same next
  goes_reads old begun new (Err e) same next left = left_then (state g old) (state g begun) (state g new) same left

  read_of : (old begun new : Held S) (sql : List ℕ) (r : Result (Option ℤ) StoreFault) (P : List Row → Option ℤ → Type 0) → IsUnchanged (state g old) (state g begun)
      → OnOk r (IsUnchanged (state g begun) (state g new))
      → IfOk r (λ found. (given : List Row) × AreRead g sql (state g new).now new given × P given found) → IfOk r (λ found. (given : List Row) × AreRead g sql (state g old).now new given × P given found)
  read_of old begun new sql (Ok found) P same next told = (told.0, ((told.1).0, (told.1).1 ∙ next.0.now_is ∙ same.0.now_is, (told.1).2), told.2)
  read_of old begun new sql (Err e) P same next told = tt

  -- a pass over a query's rows
  pub pass_tells : (old begun new : Held S) (sql : List ℕ) (r : Result (Option ℤ) StoreFault) (P : List Row → Option ℤ → Type 0) → IsQueryText sql
      → Survives (state g old) (state g begun) (CommitsShowing sql [] (state g old))
      → (HasCleanDisk (state g begun) → HasBegun g sql [] old begun) → GoesOn g begun new r
      → ((text : List ℕ) → HasGiven g text [] begun [] → HasCleanDisk (state g new) → IfOk r (λ found. (given : List Row) × AreRead g text (state g new).now new given × P given found))
      → Tells (state g old) (state g new) r (λ db found. (given : List Row) × AreRead g sql db new given × P given found)
  pass_tells old begun new sql r P query survives starts goes counted =
      record {
        clean = λ clean. cleaner (state g old) (state g begun) survives.clean (goes.clean clean);
        reads = λ tables clean. goes_reads old begun new r (plain_begins old begun sql query tables (starts (goes.clean clean))).1 (goes.same clean) (goes.left clean);
        crash = nothing_then (state g old) (state g begun) (state g new) (queries_nothing (state g old) (state g begun) sql [] query survives) goes.crash;
        cause = goes.cause;
        tells = λ stored clean.
            let begins = plain_begins old begun sql query stored.schema_is (starts (goes.clean clean)) in
            read_of old begun new sql r P begins.1 (goes.same clean) (counted sql begins.0 clean);
      }
