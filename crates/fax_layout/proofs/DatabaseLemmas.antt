-- A database is known by its rows, and a disk that is clean was clean.
use Rattle.std.proofs.Common.{◌≡◌, ◌≤◌, sym, ap₂, subst, arith}
use Rattle.sqlite.specs.Effect.{Database, IsDatabase}
use Rattle.sqlite.specs.State.{State, HasCleanDisk}
use Rattle.sqlite.specs.View.{doubt}
use Rattle.sqlite_catalog.proofs.ReadLemmas.{lists_once}
use Rattle.sqlite_catalog.specs.Listing.{Lists}
use Rattle.sqlite_trees.specs.Objects.{catalog_tree}
use Rattle.sqlite_trees.specs.Tree.{Trees}

-- a database is known by its rows, since they list its schema
pub same_database : (a b : Database) → a.trees ≡ b.trees → IsDatabase a → IsDatabase b → a ≡ b
same_database a b same at_a at_b =
    let there : Lists (a.trees catalog_tree) b.schema = subst (λ (t : Trees). Lists (t catalog_tree) b.schema) (sym same) at_b.lists in
    ap₂ (λ schema (t : Trees). record { schema = schema; trees = t }) (lists_once (a.trees catalog_tree) a.schema b.schema at_a.lists there) same

-- a disk that is clean at the end was clean before
pub clean_before : (old new : State) → doubt old.is_clean ≤ doubt new.is_clean → HasCleanDisk new → HasCleanDisk old
clean_before old new kept clean = omega arith
