-- What the rows of each table mean, and that they still do where another table changed.
use Rattle.std.proofs.Common.{◌≡◌, ◌≢◌, ◌⊎◌, inl, inr, ◌≤◌, ◌==◌, ℕ, List, [], ◌∷◌, ◌++◌, map, drop, true, All, IsTrue, refl, sym, ap, subst, ◌∙◌, arith}
use Rattle.std.specs.List.{list_any}
use Rattle.std.specs.List.Sorted.{IsPermutation}
use Rattle.std.proofs.lemmas.List.{map-append}
use Rattle.std.proofs.lemmas.List.Elements.{All-append, All-cons}
use Rattle.std.proofs.lemmas.List.Sorted.{IsPermutation-refl}
use Rattle.sqlite.specs.Edit.{next_rowid}
use Rattle.sqlite.specs.Tree.{rowid, put_row}
use Rattle.sqlite.specs.View.{is_int}
use Rattle.sqlite.specs.declared.types.Value.TheVariants.{Int}
use Rattle.sqlite_trees.proofs.TreeLemmas.{IsTable-put_row, all-put_row}
use Rattle.sqlite_rules.specs.Lists.{Has}
use Rattle.sqlite.specs.Order.{Row}
use Rattle.sqlite.specs.Effect.{Database, IsDatabase}
use Rattle.sqlite.specs.State.{State}
use Rattle.sqlite_catalog.specs.Change.{KeepsRows}
use Rattle.fax_core.specs.Job.{Job, fields_of}
use Rattle.fax_core.specs.Ledger.{Ledger, empty_ledger, IsLawfulEntry}
use Rattle.fax_core.specs.Queue.{Queue, Entry, empty_queue, open_grants}
use Rattle.fax_core.specs.State.{calls_to}
use Rattle.fax_core.specs.declared.times.Times.{Times}
use Rattle.fax_core.specs.declared.grants.Grant.{Grant}
use Rattle.fax_value.specs.Name.{IsName}
use Rattle.fax_schema.specs.Schema.{core_tables, our_tables, calls_tree, down_tree, floors_tree, grants_tree, holds_tree, jobs_tree, meta_tree, replies_tree, times_tree}
use Rattle.fax_tables.specs.Job.{IsLawfulJob}
use Rattle.fax_tables.specs.Meta.{meta_of, with_meta}
use Rattle.fax_tables.specs.Row.{job_row, grant_row, hold_columns, down_columns, entry_columns, call_columns, meta_row, times_row}
use Rattle.fax_tables.specs.Tables.{TablesMean, AreCalls, AreCounted, AreLawfulFloors, AreLawfulTimes, HaveJobs, IsLawfulGrant, IsLawfulMeta}
use Rattle.fax_layout.specs.ByRowid.{IsByRowid}
use Rattle.fax_layout.proofs.AppendLemmas.{appended}
use Rattle.fax_layout.proofs.RowsLemmas.{at_tree}
use Rattle.fax_layout.proofs.WriteLemmas.{KeepsOthers}

abbrev pub row_of : Job → Row
row_of j = job_row (fields_of j)

-- lawful records in rows by number
pub record AreRecords {X : Type 0} (row : X → Row) (Lawful : X → Type 0) (rows : List Row) (xs : List X) : Type 0 where
  pub is : rows ≡ map row xs
  pub ordered : IsByRowid rows
  pub lawful : All Lawful xs

-- the same in a table whose rowids say nothing
pub record AreColumns {X : Type 0} (columns : X → Row) (Lawful : X → Type 0) (rows : List Row) (xs : List X) : Type 0 where
  pub is : map (drop 1) rows ≡ map columns xs
  pub ordered : IsByRowid rows
  pub lawful : All Lawful xs

-- the open grants, in any order
pub record AreHeld (rows : List Row) (held : List Grant) : Type 0 where
  pub is : IsPermutation (map hold_columns held) (map (drop 1) rows)
  pub ordered : IsByRowid rows

-- counts that are the same, number by number
pub counted_as : (count other : List ℕ → ℕ) (columns : List Row) → ((dial : List ℕ) → count dial ≡ other dial) → AreCounted count columns → AreCounted other columns
counted_as count other columns same was = record {
  each = λ row has. let it = was.each row has in (it.0, it.1 ∙ ap (call_columns it.0) (same it.0), subst (λ n. 1 ≤ n) (same it.0) it.2);
  all = λ dial some. subst (λ n. Has columns (call_columns dial n)) (same dial) (was.all dial (subst (λ n. 1 ≤ n) (sym (same dial)) some));
}

-- a row that is put among them
pub by_rowid_put : (row : Row) (rows : List Row) → IsTrue (is_int (rowid row)) → IsByRowid rows → IsByRowid (put_row row rows)
by_rowid_put row rows keyed by = record {
  rise = IsTable-put_row row rows by.rise;
  integers = all-put_row (λ r. IsTrue (is_int (rowid r))) row rows keyed by.integers;
}

-- one more row, whose rowid is chosen
pub one_more : {X : Type 0} (columns : X → Row) (Lawful : X → Type 0) (x : X) (xs : List X) (rows after : List Row) → after ≡ put_row (Int (next_rowid rows) ∷ columns x) rows → Lawful x → AreColumns columns Lawful rows xs
    → AreColumns columns Lawful after (xs ++ x ∷ [])
one_more columns Lawful x xs rows after is lawful was = record {
  is = ap (map (drop 1)) is ∙ appended rows (columns x) was.ordered.integers was.ordered.rise ∙ ap (λ all. all ++ columns x ∷ []) was.is ∙ sym (map-append columns xs (x ∷ []));
  ordered = subst IsByRowid (sym is) (by_rowid_put (Int (next_rowid rows) ∷ columns x) rows refl was.ordered);
  lawful = All-append Lawful xs (x ∷ []) was.lawful (All-cons Lawful x [] lawful (λ i d low. absurd (omega arith)));
}

-- ---- the tables, each by its name

pub data Name : Type 0 where
  jobs : Name
  grants : Name
  holds : Name
  down : Name
  replies : Name
  meta : Name
  floors : Name
  times : Name
  calls : Name

abbrev pub tree_of : Name → ℕ
tree_of jobs = jobs_tree
tree_of grants = grants_tree
tree_of holds = holds_tree
tree_of down = down_tree
tree_of replies = replies_tree
tree_of meta = meta_tree
tree_of floors = floors_tree
tree_of times = times_tree
tree_of calls = calls_tree

-- What they mean. The open grants and the counts of calls stand for themselves, for the time between two statements.
pub record Content : Type 0 where
  pub queue : Queue
  pub held : List Grant
  pub count : List ℕ → ℕ
  pub kept : Ledger

-- the floors stand there, each lawful
pub record AreFloors (floor : List ℕ → ℕ) (rows : List Row) : Type 0 where
  pub is : AreCounted floor (map (drop 1) rows)
  pub ordered : IsByRowid rows
  pub lawful : AreLawfulFloors floor

-- what `TablesMean` says of the rows of one table
abbrev pub Says : Name → Content → List Row → Type 0
Says jobs c rows = AreRecords row_of IsLawfulJob rows c.queue.jobs
Says grants c rows = AreRecords grant_row IsLawfulGrant rows c.queue.grants
Says holds c rows = AreHeld rows c.held
Says down c rows = AreColumns down_columns IsName rows c.queue.down
Says replies c rows = AreColumns entry_columns IsLawfulEntry rows c.kept.replies
Says meta c rows = (rows ≡ meta_row c.queue ∷ []) × IsLawfulMeta (with_meta (meta_of c.queue) empty_queue)
Says floors c rows = AreFloors c.kept.floor rows
Says times c rows = AreRecords times_row AreLawfulTimes rows c.queue.times
Says calls c rows = AreCalls c.count rows

pub record PartsOf (db : Database) (c : Content) : Type 0 where
  pub schema : db.schema ≡ our_tables
  pub sound : IsDatabase db
  pub says : (name : Name) → Says name c (db.trees (tree_of name))

abbrev pub content : Queue → List Grant → (List ℕ → ℕ) → Ledger → Content
content m held count k = record { queue = m; held = held; count = count; kept = k }

abbrev pub Parts : Database → Queue → List Grant → (List ℕ → ℕ) → Ledger → Type 0
Parts db m held count k = PartsOf db (content m held count k)

-- the calls to each number
abbrev pub calls_of : Queue → List ℕ → ℕ
calls_of m dial = calls_to dial m

-- what the tables mean is said of the rows of each
pub parts_of : (db : Database) (m : Queue) (k : Ledger) → TablesMean db m k → Parts db m (open_grants m) (calls_of m) k
parts_of db m k means = record { schema = means.schema; sound = means.sound; says = says }
  where
    says : (name : Name) → Says name (content m (open_grants m) (calls_of m) k) (db.trees (tree_of name))
    says jobs = record { is = means.jobs; ordered = means.ordered.jobs; lawful = means.lawful.jobs }
    says grants = record { is = means.grants; ordered = means.ordered.grants; lawful = means.lawful.grants }
    says holds = record { is = means.holds; ordered = means.ordered.holds }
    says down = record { is = means.down; ordered = means.ordered.down; lawful = means.lawful.down }
    says replies = record { is = means.replies; ordered = means.ordered.replies; lawful = means.lawful.replies }
    says meta = (means.meta, record { clock = means.lawful.meta.clock; next_job = means.lawful.meta.next_job; next_grant = means.lawful.meta.next_grant })
    says floors = record { is = means.floors; ordered = means.ordered.floors; lawful = means.lawful.floors }
    says times = record { is = means.times; ordered = means.ordered.times; lawful = means.lawful.times }
    says calls = record { is = means.calls; ordered = means.ordered.calls }

-- and what is said of the rows of each is what the tables mean, where each open grant has its job
pub means_of : (db : Database) (m : Queue) (k : Ledger) → HaveJobs m → Parts db m (open_grants m) (calls_of m) k → TablesMean db m k
means_of db m k held parts = record {
  schema = parts.schema;
  sound = parts.sound;
  jobs = (parts.says jobs).is;
  grants = (parts.says grants).is;
  holds = (parts.says holds).is;
  down = (parts.says down).is;
  replies = (parts.says replies).is;
  floors = (parts.says floors).is;
  times = (parts.says times).is;
  meta = (parts.says meta).0;
  held = held;
  calls = (parts.says calls).is;
  ordered = record {
    jobs = (parts.says jobs).ordered;
    grants = (parts.says grants).ordered;
    holds = (parts.says holds).ordered;
    down = (parts.says down).ordered;
    replies = (parts.says replies).ordered;
    floors = (parts.says floors).ordered;
    times = (parts.says times).ordered;
    calls = (parts.says calls).ordered;
  };
  lawful = record {
    jobs = (parts.says jobs).lawful;
    grants = (parts.says grants).lawful;
    down = (parts.says down).lawful;
    replies = (parts.says replies).lawful;
    meta = record { clock = (parts.says meta).1.clock; next_job = (parts.says meta).1.next_job; next_grant = (parts.says meta).1.next_grant };
    floors = (parts.says floors).lawful;
    times = (parts.says times).lawful;
  };
}

-- ---- one table changed, and what its rows mean now is known

-- its tree is one of theirs
pub is_ours : (name : Name) → list_any (λ t. t.tree == tree_of name) our_tables.tables ≡ true
is_ours jobs = refl
is_ours _ = refl

-- another table has the rows that it had
pub rows_kept : (old new : State) (tree : ℕ) → KeepsOthers our_tables tree old new → (name : Name) → tree_of name ≢ tree → new.now.trees (tree_of name) ≡ old.now.trees (tree_of name)
rows_kept old new tree keeps name apart = at_tree (λ other. other ≢ tree → new.now.trees other ≡ old.now.trees other) our_tables.tables (tree_of name) (is_ours name) keeps.others apart

-- What is said of the rows of a table now: something new, or, of another than the one that changed, what was said before.
abbrev Stays : ℕ → State → Content → Content → Name → Type 0
Stays tree new c after name = Says name after (new.now.trees (tree_of name)) ⊎ ((tree_of name ≢ tree) × ((rows : List Row) → Says name c rows → Says name after rows))

module _ (old new : State) (m : Queue) (held : List Grant) (count : List ℕ → ℕ) (k : Ledger) (was : Parts old.now m held count k) where
  abbrev before : Content
  before = content m held count k

  -- where one table changed, what is said of the rows of each is said still or anew
  changed : (tree : ℕ) (after : Content) → KeepsOthers our_tables tree old new → ((name : Name) → Stays tree new before after name) → PartsOf new.now after
  changed tree after keeps each = record { schema = keeps.schema_is; sound = keeps.sound; says = λ name. by name (each name) }
    where
      by : (name : Name) → Stays tree new before after name → Says name after (new.now.trees (tree_of name))
      by name (inl now) = now
      by name (inr kept) = subst (Says name after) (sym (rows_kept old new tree keeps name kept.0)) (kept.1 (old.now.trees (tree_of name)) (was.says name))

  -- jobs changed alone
  pub jobs_changed : KeepsOthers our_tables jobs_tree old new → (js : List Job) → AreRecords row_of IsLawfulJob (new.now.trees jobs_tree) js → Parts new.now (record m { jobs = js }) held count k
  jobs_changed keeps js now = changed jobs_tree _ keeps (elim [ jobs ↦ inl now | _ ↦ inr ((λ e. cc), λ rows says. says) ])

  -- grants changed alone
  pub grants_changed : KeepsOthers our_tables grants_tree old new → (gs : List Grant) → AreRecords grant_row IsLawfulGrant (new.now.trees grants_tree) gs → Parts new.now (record m { grants = gs }) held count k
  grants_changed keeps gs now = changed grants_tree _ keeps (elim [ grants ↦ inl now | _ ↦ inr ((λ e. cc), λ rows says. says) ])

  -- holds changed alone
  pub holds_changed : KeepsOthers our_tables holds_tree old new → (now_held : List Grant) → AreHeld (new.now.trees holds_tree) now_held → Parts new.now m now_held count k
  holds_changed keeps now_held now = changed holds_tree _ keeps (elim [ holds ↦ inl now | _ ↦ inr ((λ e. cc), λ rows says. says) ])

  -- `down` changed alone
  pub down_changed : KeepsOthers our_tables down_tree old new → (ds : List (List ℕ)) → AreColumns down_columns IsName (new.now.trees down_tree) ds → Parts new.now (record m { down = ds }) held count k
  down_changed keeps ds now = changed down_tree _ keeps (elim [ down ↦ inl now | _ ↦ inr ((λ e. cc), λ rows says. says) ])

  -- replies changed alone
  pub replies_changed : KeepsOthers our_tables replies_tree old new → (rs : List Entry) → AreColumns entry_columns IsLawfulEntry (new.now.trees replies_tree) rs → Parts new.now m held count (record k { replies = rs })
  replies_changed keeps rs now = changed replies_tree _ keeps (elim [ replies ↦ inl now | _ ↦ inr ((λ e. cc), λ rows says. says) ])

  -- floors changed alone
  pub floors_changed : KeepsOthers our_tables floors_tree old new → (floor : List ℕ → ℕ) → AreFloors floor (new.now.trees floors_tree) → Parts new.now m held count (record k { floor = floor })
  floors_changed keeps floor now = changed floors_tree _ keeps (elim [ floors ↦ inl now | _ ↦ inr ((λ e. cc), λ rows says. says) ])

  -- times changed alone
  pub times_changed : KeepsOthers our_tables times_tree old new → (xs : List Times) → AreRecords times_row AreLawfulTimes (new.now.trees times_tree) xs → Parts new.now (record m { times = xs }) held count k
  times_changed keeps xs now = changed times_tree _ keeps (elim [ times ↦ inl now | _ ↦ inr ((λ e. cc), λ rows says. says) ])

  -- meta changed alone
  pub meta_changed : KeepsOthers our_tables meta_tree old new → (clock next_job next_grant : ℕ) → new.now.trees meta_tree ≡ meta_row (record m { clock = clock; next_job = next_job; next_grant = next_grant }) ∷ []
      → IsLawfulMeta (record m { clock = clock; next_job = next_job; next_grant = next_grant }) → Parts new.now (record m { clock = clock; next_job = next_job; next_grant = next_grant }) held count k
  meta_changed keeps clock next_job next_grant now lawful =
      changed meta_tree _ keeps (elim [
        | meta ↦ inl (now, record { clock = lawful.clock; next_job = lawful.next_job; next_grant = lawful.next_grant })
        | _ ↦ inr ((λ e. cc), λ rows says. says)
      ])

-- other grants whose triples are those that stand there
pub held_as : (db : Database) (m : Queue) (held others : List Grant) (count : List ℕ → ℕ) (k : Ledger) → AreHeld (db.trees holds_tree) others → Parts db m held count k → Parts db m others count k
held_as db m held others count k now parts = record { schema = parts.schema; sound = parts.sound; says = elim [ holds ↦ now | name ↦ parts.says name ] }

-- other counts that are the same, number by number
pub calls_as : (db : Database) (m : Queue) (held : List Grant) (count other : List ℕ → ℕ) (k : Ledger) → ((dial : List ℕ) → count dial ≡ other dial) → Parts db m held count k → Parts db m held other k
calls_as db m held count other k same parts =
    let was = parts.says calls in
    let now : AreCalls other (db.trees calls_tree) = record { is = counted_as count other _ same was.is; ordered = was.ordered } in
    record { schema = parts.schema; sound = parts.sound; says = elim [ calls ↦ now | name ↦ parts.says name ] }

-- ---- rows of other databases

-- all tables but `calls` have the rows that they had
pub counts_again : (old new : Database) (m : Queue) (held : List Grant) (count counted : List ℕ → ℕ) (k : Ledger) → new.schema ≡ our_tables → IsDatabase new → KeepsRows core_tables.tables old.trees new.trees → AreCalls counted (new.trees calls_tree) → Parts old m held count k
    → Parts new m held counted k
counts_again old new m held count counted k schema_is sound rows now was =
    let same = λ (name : Name). at_tree (λ tree. new.trees tree ≡ old.trees tree) core_tables.tables (tree_of name) in
    record {
      schema = schema_is;
      sound = sound;
      says = elim [ calls ↦ now | name ↦ subst (Says name (content m held counted k)) (sym (same name refl rows)) (was.says name) ];
    }

-- `calls` changed alone
pub calls_changed : (old new : State) (m : Queue) (held : List Grant) (count : List ℕ → ℕ) (k : Ledger) → Parts old.now m held count k → new.now.schema ≡ our_tables → IsDatabase new.now → KeepsRows core_tables.tables old.now.trees new.now.trees
    → (counted : List ℕ → ℕ) → AreCalls counted (new.now.trees calls_tree) → Parts new.now m held counted k
calls_changed old new m held count k was schema_is sound rows counted now = counts_again old.now new.now m held count counted k schema_is sound rows now was

-- what rows mean, they mean in another database that has them in all tables but `calls`, and the calls
pub rows_mean : (full db : Database) (m : Queue) (k : Ledger) → db.schema ≡ our_tables → IsDatabase db → KeepsRows core_tables.tables full.trees db.trees → AreCalls (calls_of m) (db.trees calls_tree) → TablesMean full m k → TablesMean db m k
rows_mean full db m k schema sound rows counted means = means_of db m k means.held (counts_again full db m (open_grants m) (calls_of m) (calls_of m) k schema sound rows counted (parts_of full m k means))

-- ---- an empty store

abbrev nothing : Content
nothing = content empty_queue [] (calls_of empty_queue) empty_ledger

none_by_rowid : IsByRowid []
none_by_rowid = record { rise = tt; integers = tt }

-- where the one row of meta comes to tables with no rows, they mean an empty store
pub founded : (old new : Database) → new.schema ≡ our_tables → IsDatabase new → new.trees meta_tree ≡ meta_row empty_queue ∷ [] → ((name : Name) → old.trees (tree_of name) ≡ [])
    → ((name : Name) → tree_of name ≢ meta_tree → new.trees (tree_of name) ≡ old.trees (tree_of name)) → TablesMean new empty_queue empty_ledger
founded old new schema sound row empty kept = means_of new empty_queue empty_ledger (λ g none. absurd none) (record { schema = schema; sound = sound; says = each })
  where
    -- what is said of no rows
    still : (name : Name) → tree_of name ≢ meta_tree → Says name nothing [] → Says name nothing (new.trees (tree_of name))
    still name other says = subst (Says name nothing) (sym (kept name other ∙ empty name)) says

    none_counted : AreCounted (λ text. 0) []
    none_counted = record { each = λ row has. absurd has; all = λ text some. absurd (omega arith) }

    each : (name : Name) → Says name nothing (new.trees (tree_of name))
    each meta = (row, record { clock = omega arith; next_job = (omega arith, omega arith); next_grant = (omega arith, omega arith) })
    each holds = still holds (λ e. cc) (record { is = IsPermutation-refl []; ordered = none_by_rowid })
    each floors = still floors (λ e. cc) (record { is = none_counted; ordered = none_by_rowid; lawful = λ client some. absurd (omega arith) })
    each calls = still calls (λ e. cc) (record { is = none_counted; ordered = none_by_rowid })
    each name = still name (λ e. cc) (record { is = refl; ordered = none_by_rowid; lawful = λ i d low. absurd (omega arith) })
