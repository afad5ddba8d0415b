-- Inside a transaction a statement commits nothing.
use Rattle.std.proofs.Common.{◌≡◌, inl, inr, ℕ, List, [], Ok, IsTrue, sym, ap, subst, ◌∙◌}
use Rattle.std.specs.Prelude.{⊤}
use Rattle.std.proofs.lemmas.Bool.{both_ways}
use Rattle.sqlite.specs.Command.{Command}
use Rattle.sqlite.specs.Command.TheVariants.{Commit, Release}
use Rattle.sqlite.specs.Listing.{understood}
use Rattle.sqlite.specs.Order.{Row}
use Rattle.sqlite.specs.State.{State, HasCleanDisk, CommitsBy, Survives}
use Rattle.sqlite.proofs.Callers.{command_of}
use Rattle.sqlite_resolve.specs.declared.compiled.Compiled.{Compiled}
use Rattle.sqlite_schema.specs.declared.schema.Schema.{Schema}
use Rattle.sqlite_trees.specs.Tree.{Trees}
use Rattle.fax_layout.specs.Stop.{CommitsNothing, HoldsBack}
use Rattle.fax_layout.proofs.DatabaseLemmas.{clean_before}

-- a command that may end a transaction with a commit
abbrev pub Ends : Command → Type 0
Ends Commit = ⊤
Ends (Release name) = ⊤
Ends other = ⊥

-- one after the other
pub nothing_then : (a b c : State) → CommitsNothing a b → CommitsNothing b c → CommitsNothing a c
nothing_then a b c first next found may = first found (next found may)

-- a call by which nothing is committed
pub nothing_by : (old new : State) (Commits : Trees → Type 0) → Survives old new Commits → ((found : Trees) → HasCleanDisk old → Commits found → ⊥) → CommitsNothing old new
nothing_by old new Commits survives never found may =
    let clean = clean_before old new survives.clean may.0 in
    (clean, elim (survives.crash may.0 found may.1) [ inl same ↦ same | inr commits ↦ absurd (never found clean commits) ])

-- a statement that is no such command, inside a transaction
pub inside_commits_nothing : (s : State) (sql : List ℕ) (params : Row) → ((c : Compiled) → understood s.now.schema sql ≡ Ok c → Ends c.command → ⊥) → IsTrue s.in_transaction → (found : Trees) → CommitsBy sql params s found → ⊥
unfolding CommitsBy
inside_commits_nothing s sql params never inside found h =
    elim h.2 [
      | inl ends ↦ elim ends.0 [ inl commit ↦ never h.0 h.1.is (subst Ends (sym commit) tt) | inr release ↦ never h.0 h.1.is (subst Ends (sym release.2) tt) ]
      | inr outside ↦ both_ways _ outside.0 inside
    ]

-- one that makes a table or an index, takes one away, or puts a row in
pub any_holds_back : (old new : State) (P : State → Type 0) (sql : List ℕ)
    → (P old → IsTrue old.in_transaction × (command : Command) × (command_of (understood old.now.schema sql) ≡ command) × (Ends command → ⊥)) → Survives old new (CommitsBy sql [] old) → HoldsBack P old new
any_holds_back old new P sql known survives was = nothing_by old new (CommitsBy sql [] old) survives (λ found clean.
    let on = known (was clean) in
    inside_commits_nothing old sql [] (λ c understood_as ends. on.3 (subst Ends (sym (ap command_of understood_as) ∙ on.2) ends)) on.0 found)

-- the same of a command that is known
pub command_holds_back : (old new : State) (P : State → Type 0) (sql : List ℕ) (command : Command) → (Ends command → ⊥) → (P old → IsTrue old.in_transaction × (command_of (understood old.now.schema sql) ≡ command))
    → Survives old new (CommitsBy sql [] old) → HoldsBack P old new
command_holds_back old new P sql command never known = any_holds_back old new P sql (λ was. let on = known was in (on.0, command, on.1, never))

-- the same over tables that are known
pub step_holds_back : (old new : State) (P : State → Type 0) (before : Schema) (sql : List ℕ) (command : Command) → command_of (understood before sql) ≡ command → (Ends command → ⊥)
    → (P old → IsTrue old.in_transaction × (old.now.schema ≡ before)) → Survives old new (CommitsBy sql [] old) → HoldsBack P old new
step_holds_back old new P before sql command is never known = command_holds_back old new P sql command never (λ was. let on = known was in (on.0, ap (λ s. command_of (understood s sql)) on.1 ∙ is))

-- and then another, where the first leaves what the next begins with
pub holds_back_then : (a b c : State) (P Q : State → Type 0) → (HasCleanDisk b → HasCleanDisk a) → HoldsBack P a b → (HasCleanDisk b → P a → Q b) → HoldsBack Q b c → HoldsBack P a c
holds_back_then a b c P Q cleaner first leaves next was found may = first was found (next (λ clean. leaves clean (was (cleaner clean))) found may)
