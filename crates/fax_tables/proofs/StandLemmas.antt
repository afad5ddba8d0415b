-- Rows that may stand in the tables, where their keys are free.
use Rattle.std.proofs.Common.{◌≡◌, ℕ, ℤ, pos, List, [], ◌∷◌, filter, inl, inr, true, false, refl, subst, rules}
use Rattle.std.specs.List.{AllByRecursion}
use Rattle.sqlite.specs.Effect.{Database, IsDatabase}
use Rattle.sqlite.specs.Edit.{is_taken, next_rowid}
use Rattle.sqlite.specs.Order.{Row}
use Rattle.sqlite.specs.declared.types.Value.TheVariants.{Int, Null}
use Rattle.sqlite_rules.specs.Lists.{Has}
use Rattle.sqlite_schema.specs.Rules.{agree, guards, passes, Keeps}
use Rattle.sqlite_schema.specs.declared.schema.Constraint.TheVariants.{Datatype, NotNull, Check, Unique}
use Rattle.sqlite_schema.specs.declared.schema.Index.{Index}
use Rattle.sqlite_schema.specs.declared.schema.Table.{Table}
use Rattle.sqlite_trees.specs.Tree.{IsAscending}
use Rattle.sqlite_value.specs.Keys.{plain}
use Rattle.fax_core.specs.Queue.{Entry}
use Rattle.fax_core.specs.declared.times.Times.{Times}
use Rattle.fax_core.specs.declared.grants.Grant.{Grant}
use Rattle.fax_job.specs.declared.job.JobFields.{JobFields}
use Rattle.fax_tables.specs.Row.{job_row, job_columns, grant_row, hold_columns, down_columns, entry_columns, times_row}
use Rattle.fax_schema.specs.Schema as schema
use Rattle.fax_schema.specs.Schema.{our_tables, jobs_tree, grants_tree, holds_tree, down_tree, replies_tree, times_tree}
use Rattle.fax_layout.specs.ByRowid.{IsByRowid}
use Rattle.fax_tables.proofs.FreeLemmas.{chosen_free, unique_still}
use Rattle.fax_tables.proofs.RefusalLemmas.{MayStand}

-- no two of the tables have one tree
apart : IsAscending (λ a b. a.tree ≡ b.tree → ⊥) our_tables.tables
apart = search rules

module _ (db : Database) (ours : db.schema ≡ our_tables) (sound : IsDatabase db) where
  -- a row may stand there whose values are in order, and whose keys are free
  free_may : (table : Table) (id : ℤ) (columns : Row) → Has our_tables.tables table
      → passes Datatype our_tables db.trees table (Int id ∷ columns) ≡ true → passes NotNull our_tables db.trees table (Int id ∷ columns) ≡ true → passes Check our_tables db.trees table (Int id ∷ columns) ≡ true
      → is_taken (db.trees table.tree) (Int id ∷ columns) ≡ false
      → AllByRecursion (λ (i : Index). (x : Row) → Has (db.trees table.tree) x → agree i.order i.columns x i.columns (Int id ∷ columns) ≡ false) (filter (λ i. guards i table) our_tables.indexes)
      → MayStand our_tables db.trees table (Int id ∷ columns)
  free_may table id columns listed typed present checked free alone = record {
    typed = typed;
    present = present;
    checked = checked;
    fresh = free;
    unique = unique_still our_tables apart db.trees (subst (λ s. Keeps Unique s db.trees) ours (sound.obeys.rules Unique)) table listed id columns free alone;
  }

  -- jobs and grants have no key but their number
  pub job_may : (f : JobFields) → is_taken (db.trees jobs_tree) (job_row f) ≡ false → MayStand our_tables db.trees schema.jobs (job_row f)
  job_may f free = free_may schema.jobs (pos f.job) (Null ∷ job_columns f) (inl refl) refl refl refl free tt

  -- a grant may stand there where its number isn't taken
  pub grant_may : (g : Grant) → is_taken (db.trees grants_tree) (grant_row g) ≡ false → MayStand our_tables db.trees schema.grants (grant_row g)
  grant_may g free = free_may schema.grants (pos g.number) _ (inr (inl refl)) refl refl refl free tt

  -- so may the times of a job that has none
  pub times_may : (x : Times) → is_taken (db.trees times_tree) (times_row x) ≡ false → MayStand our_tables db.trees schema.times (times_row x)
  times_may x free = free_may schema.times (pos x.job) _ (inr (inr (inr (inr (inr (inr (inr (inl refl)))))))) refl refl refl free tt

  -- a hold's modem, job and grant are each held once
  pub hold_may : (g : Grant) → IsByRowid (db.trees holds_tree)
      → ((x : Row) → Has (db.trees holds_tree) x → agree plain (1 ∷ []) x (1 ∷ []) (Int (next_rowid (db.trees holds_tree)) ∷ hold_columns g) ≡ false)
      → ((x : Row) → Has (db.trees holds_tree) x → agree plain (2 ∷ []) x (2 ∷ []) (Int (next_rowid (db.trees holds_tree)) ∷ hold_columns g) ≡ false)
      → ((x : Row) → Has (db.trees holds_tree) x → agree plain (3 ∷ []) x (3 ∷ []) (Int (next_rowid (db.trees holds_tree)) ∷ hold_columns g) ≡ false)
      → MayStand our_tables db.trees schema.holds (Int (next_rowid (db.trees holds_tree)) ∷ hold_columns g)
  hold_may g by modem job id = free_may schema.holds _ (hold_columns g) (inr (inr (inl refl))) refl refl refl (chosen_free _ (hold_columns g) by) (modem, (job, (id, tt)))

  -- a mark may, where the modem has none
  pub down_may : (modem : List ℕ) → IsByRowid (db.trees down_tree) → ((x : Row) → Has (db.trees down_tree) x → agree plain (1 ∷ []) x (1 ∷ []) (Int (next_rowid (db.trees down_tree)) ∷ down_columns modem) ≡ false)
      → MayStand our_tables db.trees schema.down (Int (next_rowid (db.trees down_tree)) ∷ down_columns modem)
  down_may modem by free = free_may schema.down _ (down_columns modem) (inr (inr (inr (inl refl)))) refl refl refl (chosen_free _ (down_columns modem) by) (free, tt)

  -- a reply may, where its client's number has none
  pub reply_may : (e : Entry) → IsByRowid (db.trees replies_tree) → ((x : Row) → Has (db.trees replies_tree) x → agree plain (1 ∷ 2 ∷ []) x (1 ∷ 2 ∷ []) (Int (next_rowid (db.trees replies_tree)) ∷ entry_columns e) ≡ false)
      → MayStand our_tables db.trees schema.replies (Int (next_rowid (db.trees replies_tree)) ∷ entry_columns e)
  reply_may e by free = free_may schema.replies _ (entry_columns e) (inr (inr (inr (inr (inl refl))))) refl refl refl (chosen_free _ (entry_columns e) by) (free, tt)
