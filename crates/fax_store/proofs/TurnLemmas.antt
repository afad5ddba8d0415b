-- Steps within the transaction that adopts a database, one after the other.
use Rattle.std.proofs.Common.{◌≡◌, ◌≢◌, ℕ, ◌==◌, List, [], ◌∷◌, true, Ok, Err, Result, IsErrAnd, MatchResult, OnErr, OnOk, refl, subst, sym, ap, ◌∙◌}
use Rattle.std.specs.Prelude.{⊤}
use Rattle.std.specs.List.{AllByRecursion, list_any}
use Rattle.sqlite.proofs.InsideLemmas.{unchanged_keeps}
use Rattle.sqlite.specs.Effect.{Database, IsDatabase}
use Rattle.sqlite.specs.Order.{Row}
use Rattle.sqlite.specs.State.{State, HasCleanDisk, IsUnchanged, KeepsCommit}
use Rattle.sqlite_schema.specs.declared.schema.Table.{Table}
use Rattle.sqlite_trees.specs.declared.store.Store.{Ghosts}
use Rattle.fax_layout.proofs.RowsLemmas.{at_tree}
use Rattle.fax_layout.proofs.WriteLemmas.{KeepsOthers}
use Rattle.fax_schema.specs.Schema.{calls_tree, our_tables}
use Rattle.fax_store.proofs.WorkLemmas.{refused_as}
use Rattle.fax_store.specs.Adopt.{ChangesOnly, HasNone, Turns, TurnsOrUnavailable}
use Rattle.fax_store.specs.Calls.{Edits, Finds, shown}
use Rattle.fax_store.specs.Store.{HasRun, LeavesCommit}
use Rattle.fax_store.specs.declared.store.Store.{Store}
use Rattle.fax_tables.proofs.CreateLemmas.{commit_kept, goes_on, inside_shown}
use Rattle.fax_tables.specs.Tables.{GoesOn}
use Rattle.fax_tables.specs.declared.fault.StoreFault.{StoreFault}

-- a step leaves what the next begins with
abbrev pub Leaves : (State → Type 0) → (Database → Database → Type 0) → (State → Type 0) → Type 1
Leaves P Q After = (a b : State) → P a → GoesOn a b → Q a.now b.now → After b

-- two steps, one after the other
pub turns_then : {A B E : Type 0} {P After : State → Type 0} {Q R S : Database → Database → Type 0} {a b c : State} {x : A} {result : Result B E} → Leaves P Q After → (P a → Q a.now b.now → R b.now c.now → S a.now c.now)
    → Turns {E = E} P Q a b (Ok x) → Turns After R b c result → Turns P S a c result
turns_then {A} {B} {E} {P} {After} {Q} {R} {S} {a} {b} {c} {x} {result} leaves both first next = record {
  goes = λ clean was. go result was (first.goes (next.clean clean) was) (λ after. next.goes clean after);
  crash = λ was found may. first.crash was found (next.crash (λ clean. let before = was (first.clean clean) in let on = first.goes clean before in leaves a b before on.0 on.1) found may);
  clean = λ clean. first.clean (next.clean clean);
}
  where
    go : (r : Result B E) → P a → GoesOn a b × Q a.now b.now → (After b → MatchResult r (λ _. GoesOn b c × R b.now c.now) (λ _. KeepsCommit b c)) → MatchResult r (λ _. GoesOn a c × S a.now c.now) (λ _. KeepsCommit a c)
    go (Ok y) was on more = let done = more (leaves a b was on.0 on.1) in (goes_on a b c on.0 done.0, both was on.1 done.1)
    go (Err e) was on more = commit_kept a b c on.0 (more (leaves a b was on.0 on.1))

-- a step that was refused, whose fault is passed on
pub turns_refused : {A B E F : Type 0} {P : State → Type 0} {Q R : Database → Database → Type 0} {a b : State} {e : E} (result : Result B F) (X : F → Type 0) → IsErrAnd result X → Turns {A = A} P Q a b (Err e) → Turns P R a b result
turns_refused (Ok y) X told step = absurd told
turns_refused (Err f) X told step = record { goes = step.goes; crash = step.crash; clean = step.clean }

-- the same of steps that are refused only as unavailable
pub or_refused : {A B : Type 0} {P : State → Type 0} {Q R : Database → Database → Type 0} {a b : State} {e : StoreFault} (result : Result B StoreFault) → IsErrAnd result (λ f. f ≡ e) → TurnsOrUnavailable {A = A} P Q a b (Err e)
    → TurnsOrUnavailable P R a b result
or_refused {e = e} result told step = record { leaves = turns_refused result (λ f. f ≡ e) told step.leaves; cause = refused_as result e told step.cause }

pub or_then : {A B : Type 0} {P After : State → Type 0} {Q R S : Database → Database → Type 0} {a b c : State} {x : A} {result : Result B StoreFault} → Leaves P Q After → (P a → Q a.now b.now → R b.now c.now → S a.now c.now)
    → Turns {E = StoreFault} P Q a b (Ok x) → TurnsOrUnavailable After R b c result → TurnsOrUnavailable P S a c result
or_then leaves both first next = record { leaves = turns_then leaves both first next.leaves; cause = next.cause }

-- a step that was refused after one that was done
pub or_refused_then : {A B C : Type 0} {P After : State → Type 0} {Q R S : Database → Database → Type 0} {a b c : State} {x : A} {e : StoreFault} (result : Result C StoreFault) → IsErrAnd result (λ f. f ≡ e) → Leaves P Q After
    → Turns {E = StoreFault} P Q a b (Ok x) → TurnsOrUnavailable {A = B} After R b c (Err e) → TurnsOrUnavailable P S a c result
or_refused_then {S = S} result told leaves first next = or_refused {R = S} result told (or_then {S = λ _ _. ⊤} leaves (λ _ _ _. tt) first next)

-- ---- over all tables, where no call is counted yet

-- the database is the same, and X holds
abbrev pub IsSameAnd : Type 0 → Database → Database → Type 0
IsSameAnd X db after = (after ≡ db) × X

-- in the same database no call is counted yet
pub same_leaves : {X : Type 0} → Leaves HasNone (IsSameAnd X) HasNone
same_leaves a b was on found = let same = found.0 in record {
  is_open = on.is_open;
  inside = on.mode;
  schema_is = ap (λ (d : Database). d.schema) same ∙ was.schema_is;
  sound = subst IsDatabase (sym same) was.sound;
  none = ap (λ (d : Database). d.trees calls_tree) same ∙ was.none;
}

-- nor where the rows of another table changed
pub only_leaves : (tree : ℕ) → calls_tree ≢ tree → Leaves HasNone (ChangesOnly tree) HasNone
only_leaves tree apart a b was on only = record {
  is_open = on.is_open;
  inside = on.mode;
  schema_is = only.schema_is;
  sound = only.sound;
  none = at_tree (λ t. t ≢ tree → b.now.trees t ≡ a.now.trees t) our_tables.tables calls_tree refl only.others apart ∙ was.none;
}

pub leaves_by : {Q : Database → Database → Type 0} (tree : ℕ) → calls_tree ≢ tree → ((a b : Database) → Q a b → ChangesOnly tree a b) → Leaves HasNone Q HasNone
leaves_by tree apart only a b was on done = only_leaves tree apart a b was on (only a.now b.now done)

-- nothing changed and the transaction goes on
pub still : (a b : State) → HasNone a → IsUnchanged a b → GoesOn a b
still a b was same = record { was_open = was.is_open; is_open = same.0.is_open; now_is = refl; committed_is = same.0.committed_is; mode = same.0.mode ∙ was.inside }

-- nothing is done
pub turns_nothing : {A E : Type 0} {x : A} {R : Database → Database → Type 0} {a : State} → (HasNone a → R a.now a.now) → Turns {E = E} HasNone R a a (Ok x)
turns_nothing more = record {
  goes = λ clean was. (record { was_open = was.is_open; is_open = was.is_open; now_is = refl; committed_is = refl; mode = was.inside }, more was);
  crash = λ was found may. may;
  clean = λ clean. clean;
}

module _ {S : Type 0} (g : Ghosts S) where
  -- a reading, and what it has found
  pub turns_found : {A X : Type 0} {old new : Store S} {x : A} → Finds g old new (Ok x) → (HasCleanDisk (shown g new) → X) → Turns {E = StoreFault} HasNone (IsSameAnd X) (shown g old) (shown g new) (Ok x)
  turns_found {A} {X} {old} {new} finds found = record {
    goes = λ clean was. let same = finds.reads was.schema_is clean in (still (shown g old) (shown g new) was same, (same.0.now_is, found clean));
    crash = λ was. finds.crash;
    clean = finds.clean;
  }

  -- a statement that edits the rows of one table
  pub turns_edit : {old new : Store S} {result : Result (Unit {0}) StoreFault} {sql : List ℕ} {params : Row} {Q : Database → Database → Type 0} (tree : ℕ) → Edits g old new result sql params
      → (HasNone (shown g old) → HasRun sql params (shown g old) (shown g new) → KeepsOthers our_tables tree (shown g old) (shown g new) × Q (shown g old).now (shown g new).now)
      → TurnsOrUnavailable HasNone Q (shown g old) (shown g new) result
  turns_edit {old} {new} {result} {sql} {params} {Q} tree edits does = record {
    leaves = record {
      goes = λ clean was. go result was (edits.ran clean) (edits.left clean);
      crash = λ was. (edits.leaves.crash (λ clean on. let it = was clean in record { is_open = it.is_open; inside = it.inside; schema_is = it.schema_is })).1;
      clean = edits.leaves.clean;
    };
    cause = edits.cause;
  }
    where
      go : (r : Result (Unit {0}) StoreFault) → HasNone (shown g old) → OnOk r (HasRun sql params (shown g old) (shown g new)) → OnErr r (LeavesCommit (shown g old) (shown g new))
          → MatchResult r (λ _. GoesOn (shown g old) (shown g new) × Q (shown g old).now (shown g new).now) (λ _. KeepsCommit (shown g old) (shown g new))
      go (Ok x) was ran left = let did = does was ran in (inside_shown (shown g old) (shown g new) _ was.inside did.0.shown, did.1)
      go (Err e) was ran left = unchanged_keeps (shown g old) (shown g new) left

-- the rows of one table alone were edited
pub only_by : (tree : ℕ) (old new : State) → KeepsOthers our_tables tree old new → ChangesOnly tree old.now new.now
only_by tree old new keeps = record { schema_is = keeps.schema_is; sound = keeps.sound; others = keeps.others }

-- and changed again
pub only_then : (tree : ℕ) (a b c : Database) → ChangesOnly tree a b → ChangesOnly tree b c → ChangesOnly tree a c
only_then tree a b c first next = record {
  schema_is = next.schema_is;
  sound = next.sound;
  others = both our_tables.tables first.others next.others;
}
  where
    both : (ts : List Table) → AllByRecursion (λ t. t.tree ≢ tree → b.trees t.tree ≡ a.trees t.tree) ts → AllByRecursion (λ t. t.tree ≢ tree → c.trees t.tree ≡ b.trees t.tree) ts → AllByRecursion (λ t. t.tree ≢ tree → c.trees t.tree ≡ a.trees t.tree) ts
    both [] one two = tt
    both (t ∷ ts) one two = ((λ apart. two.0 apart ∙ one.0 apart), both ts one.1 two.1)

-- the same database changed no rows
pub only_same : (tree : ℕ) (a b : Database) → (a.schema ≡ our_tables) → IsDatabase a → b ≡ a → ChangesOnly tree a b
only_same tree a b ours sound same = record {
  schema_is = ap (λ (d : Database). d.schema) same ∙ ours;
  sound = subst IsDatabase (sym same) sound;
  others = all our_tables.tables;
}
  where
    all : (ts : List Table) → AllByRecursion (λ t. t.tree ≢ tree → b.trees t.tree ≡ a.trees t.tree) ts
    all [] = tt
    all (t ∷ ts) = ((λ apart. ap (λ (d : Database). d.trees t.tree) same), all ts)

-- another table has the rows that it had
pub only_at : (tree : ℕ) (a b : Database) (other : ℕ) → list_any (λ t. t.tree == other) our_tables.tables ≡ true → other ≢ tree → ChangesOnly tree a b → b.trees other ≡ a.trees other
only_at tree a b other there apart only = at_tree (λ t. t ≢ tree → b.trees t ≡ a.trees t) our_tables.tables other there only.others apart
