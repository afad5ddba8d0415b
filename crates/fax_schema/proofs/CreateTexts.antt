-- What the texts mean that make the indexes of jobs, and that take tables and indexes away, and from where to where the texts of each step lead.
use Rattle.std.proofs.Common.{◌≡◌, ◌⊎◌, inl, inr, List, [], ◌∷◌, ℕ, ◌+◌, length, slice_get, Some, ◌||◌, true, false, not, Ok, refl}
use Rattle.std.specs.List.{list_all}
use Rattle.sqlite.specs.Command.TheVariants.{CreateIndex, DropIndex, DropTable}
use Rattle.sqlite.specs.Compile.{index_defined_by}
use Rattle.sqlite.specs.Does.{is_acted_on, lacks_sequence}
use Rattle.sqlite.specs.Listing.{understood}
use Rattle.sqlite.proofs.Callers.{IsPlain, command_of, statement_of}
use Rattle.sqlite_schema.specs.declared.schema.Index.{Index}
use Rattle.sqlite_schema.specs.declared.schema.Keys.TheVariants.{Enforced}
use Rattle.sqlite_schema.specs.declared.schema.Schema.{Schema}
use Rattle.sqlite_schema.specs.declared.schema.Table.{Table}
use Rattle.sqlite_catalog.specs.Change.{created, indexed, next_tree, without_table, without_index}
use Rattle.sqlite_rules.specs.Lists.{Has}
use Rattle.sqlite_rules.proofs.ListLemmas.{all_has}
use Rattle.sqlite_tied.specs.Compute.{everything}
use Rattle.fax_schema.specs.declared.statements.TheConstants.{CREATE_JOBS, CREATE_GRANTS, CREATE_HOLDS, CREATE_DOWN, CREATE_REPLIES, CREATE_META, CREATE_FLOORS, CREATE_TIMES, CREATE_KILLTIME_INDEX, CREATE_CHOICE_INDEX, CREATE_GRANTS_INDEX, DROP_CALLS, DROP_CHOICE_INDEX, DROP_GRANTS_INDEX, DROP_KILLTIME_INDEX}
use Rattle.fax_schema.specs.declared.way.Step.{Step}
use Rattle.fax_schema.specs.declared.way.Step.TheVariants.{DropIndexes, DropJobIndexes, DropCalls, CreateFirst, CreateSecond, CreateThird, CreateIndexes}
use Rattle.fax_schema.specs.Schema.{no_tables, with_jobs, with_grants, with_holds, with_down, with_replies, first_bare, first_with_killtime, first_core, first_older_core, first_tables, first_older, first_bare_calls, first_vacuumed, first_vacuumed_with_killtime, first_older_vacuumed, first_keys, first_list, first_past, second_bare, second_with_killtime, second_core, second_tables, second_bare_calls, second_vacuumed, second_vacuumed_with_killtime, both_list, both_keys, both_past, bare_tables, with_killtime_index, with_job_indexes, core_tables, our_tables, bare_with_calls, vacuumed_tables, vacuumed_with_two, vacuumed_with_killtime, jobs, grants, holds, down, replies, meta, floors, times, calls_at, calls_place, calls_tree, core_keys, core_past, killtime_index_at, choice_index_at, older_choice_index_at, grants_index_at}
use Rattle.fax_schema.specs.Way.{changes, texts_of}
use Rattle.fax_layout.proofs.RowsLemmas.{are_in, is_in}
use Rattle.fax_schema.proofs.StatementForms.{Makes}
use Rattle.fax_schema.proofs.StatementTexts.{makes_jobs, created_jobs, makes_replies, created_replies, makes_meta, created_meta}
use Rattle.fax_schema.proofs.GrantTexts.{makes_grants, created_grants, makes_holds, created_holds}
use Rattle.fax_schema.proofs.ModemTexts.{makes_down, created_down}
use Rattle.fax_schema.proofs.ClientTexts.{makes_floors, created_floors, makes_times, created_times}

-- ---- one text

-- the text makes a table in any database with this schema, and leaves that
pub record AddsTable (before : Schema) (sql : List ℕ) (after : Schema) : Type 0 where
  pub table : Table
  pub makes : Makes before sql table
  pub is : created before table ≡ after
  pub lacks : lacks_sequence after ≡ false
  pub new : is_in before.tables (next_tree before) ≡ false

-- it makes an index of a table
pub record AddsIndex (before : Schema) (sql : List ℕ) (after : Schema) : Type 0 where
  pub at : ℕ
  pub table : Table
  pub index : Index
  pub command : command_of (understood before sql) ≡ CreateIndex at
  pub statement : statement_of sql (understood before sql) ≡ sql
  pub defined : index_defined_by table sql ≡ Ok (record index { tree = 0; table = table.tree })
  pub plain : IsPlain (understood before sql)
  pub has : slice_get before.tables at ≡ Some table
  pub is : indexed before table index ≡ after
  pub tables : before.tables ≡ after.tables

-- it takes a table away to which no other refers
pub record TakesAway (before : Schema) (sql : List ℕ) (after : Schema) : Type 0 where
  pub at : ℕ
  pub table : Table
  pub command : command_of (understood before sql) ≡ DropTable at
  pub plain : IsPlain (understood before sql)
  pub has : slice_get before.tables at ≡ Some table
  pub unacted : is_acted_on before Enforced table ≡ false
  pub uncounted : table.is_counted ≡ false
  pub left : without_table before table.tree ≡ after
  pub still : are_in before.tables after.tables ≡ true

-- it takes an index away
pub record LosesIndex (before : Schema) (sql : List ℕ) (after : Schema) : Type 0 where
  pub at : ℕ
  pub index : Index
  pub command : command_of (understood before sql) ≡ DropIndex at
  pub plain : IsPlain (understood before sql)
  pub has : slice_get before.indexes at ≡ Some index
  pub left : without_index before index.tree ≡ after
  pub tables : before.tables ≡ after.tables

-- it does one of these
abbrev pub Turns : Schema → List ℕ → Schema → Type 0
Turns before sql after = AddsTable before sql after ⊎ AddsIndex before sql after ⊎ TakesAway before sql after ⊎ LosesIndex before sql after

-- CREATE_KILLTIME_INDEX makes the index of jobs by kill time
makes_killtime : AddsIndex bare_tables CREATE_KILLTIME_INDEX.now with_killtime_index
unfolding understood everything
makes_killtime = record { at = 0; table = jobs; index = killtime_index_at core_past; command = refl; statement = refl; defined = refl; plain = (refl, refl); has = refl; is = refl; tables = refl }

-- and CREATE_CHOICE_INDEX that by the order of the choice
makes_choice : AddsIndex with_killtime_index CREATE_CHOICE_INDEX.now with_job_indexes
unfolding understood everything
makes_choice = record { at = 0; table = jobs; index = choice_index_at (core_past + 1); command = refl; statement = refl; defined = refl; plain = (refl, refl); has = refl; is = refl; tables = refl }

-- and CREATE_GRANTS_INDEX that of the grants by job
makes_grants_index : AddsIndex with_job_indexes CREATE_GRANTS_INDEX.now core_tables
unfolding understood everything
makes_grants_index = record { at = 1; table = grants; index = grants_index_at (core_past + 2); command = refl; statement = refl; defined = refl; plain = (refl, refl); has = refl; is = refl; tables = refl }

-- DROP_CALLS takes `calls` from these
drops_calls : TakesAway our_tables DROP_CALLS.now core_tables
unfolding understood everything
drops_calls = record { at = calls_place; table = calls_at calls_tree; command = refl; plain = (refl, refl); has = refl; unacted = refl; uncounted = refl; left = refl; still = refl }

-- from those without the indexes of jobs
drops_bare_calls : TakesAway bare_with_calls DROP_CALLS.now bare_tables
unfolding understood everything
drops_bare_calls = record { at = calls_place; table = calls_at core_past; command = refl; plain = (refl, refl); has = refl; unacted = refl; uncounted = refl; left = refl; still = refl }

-- from those of the second version
drops_second_calls : TakesAway second_tables DROP_CALLS.now second_core
unfolding understood everything
drops_second_calls = record { at = length both_list; table = calls_at (both_past + 2); command = refl; plain = (refl, refl); has = refl; unacted = refl; uncounted = refl; left = refl; still = refl }

drops_second_bare_calls : TakesAway second_bare_calls DROP_CALLS.now second_bare
unfolding understood everything
drops_second_bare_calls = record { at = length both_list; table = calls_at both_past; command = refl; plain = (refl, refl); has = refl; unacted = refl; uncounted = refl; left = refl; still = refl }

-- and from those of the first
drops_first_calls : TakesAway first_tables DROP_CALLS.now first_core
unfolding understood everything
drops_first_calls = record { at = length first_list; table = calls_at (first_past + 2); command = refl; plain = (refl, refl); has = refl; unacted = refl; uncounted = refl; left = refl; still = refl }

drops_first_bare_calls : TakesAway first_bare_calls DROP_CALLS.now first_bare
unfolding understood everything
drops_first_bare_calls = record { at = length first_list; table = calls_at first_past; command = refl; plain = (refl, refl); has = refl; unacted = refl; uncounted = refl; left = refl; still = refl }

drops_first_older_calls : TakesAway first_older DROP_CALLS.now first_older_core
unfolding understood everything
drops_first_older_calls = record { at = length first_list; table = calls_at (first_past + 2); command = refl; plain = (refl, refl); has = refl; unacted = refl; uncounted = refl; left = refl; still = refl }

-- DROP_GRANTS_INDEX takes its index from the tables as VACUUM leaves them
drops_grants_index : LosesIndex vacuumed_tables DROP_GRANTS_INDEX.now vacuumed_with_two
unfolding understood everything
drops_grants_index = record { at = length core_keys + 3; index = grants_index_at (core_past + 4); command = refl; plain = (refl, refl); has = refl; left = refl; tables = refl }

-- then DROP_CHOICE_INDEX takes its own
drops_choice : LosesIndex vacuumed_with_two DROP_CHOICE_INDEX.now vacuumed_with_killtime
unfolding understood everything
drops_choice = record { at = length core_keys + 2; index = choice_index_at (core_past + 3); command = refl; plain = (refl, refl); has = refl; left = refl; tables = refl }

-- and DROP_KILLTIME_INDEX the other
drops_killtime : LosesIndex vacuumed_with_killtime DROP_KILLTIME_INDEX.now bare_with_calls
unfolding understood everything
drops_killtime = record { at = length core_keys + 1; index = killtime_index_at (core_past + 2); command = refl; plain = (refl, refl); has = refl; left = refl; tables = refl }

-- so they do from those of the second version
drops_second_choice : LosesIndex second_vacuumed DROP_CHOICE_INDEX.now second_vacuumed_with_killtime
unfolding understood everything
drops_second_choice = record { at = length both_keys + 2; index = choice_index_at (both_past + 3); command = refl; plain = (refl, refl); has = refl; left = refl; tables = refl }

drops_second_killtime : LosesIndex second_vacuumed_with_killtime DROP_KILLTIME_INDEX.now second_bare_calls
unfolding understood everything
drops_second_killtime = record { at = length both_keys + 1; index = killtime_index_at (both_past + 2); command = refl; plain = (refl, refl); has = refl; left = refl; tables = refl }

drops_second_core_choice : LosesIndex second_core DROP_CHOICE_INDEX.now second_with_killtime
unfolding understood everything
drops_second_core_choice = record { at = length both_keys + 1; index = choice_index_at (both_past + 1); command = refl; plain = (refl, refl); has = refl; left = refl; tables = refl }

drops_second_core_killtime : LosesIndex second_with_killtime DROP_KILLTIME_INDEX.now second_bare
unfolding understood everything
drops_second_core_killtime = record { at = length both_keys; index = killtime_index_at both_past; command = refl; plain = (refl, refl); has = refl; left = refl; tables = refl }

-- and from those of the first, with the newer or the older index
drops_first_choice : LosesIndex first_vacuumed DROP_CHOICE_INDEX.now first_vacuumed_with_killtime
unfolding understood everything
drops_first_choice = record { at = length first_keys + 2; index = choice_index_at (first_past + 3); command = refl; plain = (refl, refl); has = refl; left = refl; tables = refl }

drops_first_older_choice : LosesIndex first_older_vacuumed DROP_CHOICE_INDEX.now first_vacuumed_with_killtime
unfolding understood everything
drops_first_older_choice = record { at = length first_keys + 2; index = older_choice_index_at (first_past + 3); command = refl; plain = (refl, refl); has = refl; left = refl; tables = refl }

drops_first_killtime : LosesIndex first_vacuumed_with_killtime DROP_KILLTIME_INDEX.now first_bare_calls
unfolding understood everything
drops_first_killtime = record { at = length first_keys + 1; index = killtime_index_at (first_past + 2); command = refl; plain = (refl, refl); has = refl; left = refl; tables = refl }

-- and from those without `calls`
drops_core_choice : LosesIndex first_core DROP_CHOICE_INDEX.now first_with_killtime
unfolding understood everything
drops_core_choice = record { at = length first_keys + 1; index = choice_index_at (first_past + 1); command = refl; plain = (refl, refl); has = refl; left = refl; tables = refl }

drops_older_core_choice : LosesIndex first_older_core DROP_CHOICE_INDEX.now first_with_killtime
unfolding understood everything
drops_older_core_choice = record { at = length first_keys + 1; index = older_choice_index_at (first_past + 1); command = refl; plain = (refl, refl); has = refl; left = refl; tables = refl }

drops_core_killtime : LosesIndex first_with_killtime DROP_KILLTIME_INDEX.now first_bare
unfolding understood everything
drops_core_killtime = record { at = length first_keys; index = killtime_index_at first_past; command = refl; plain = (refl, refl); has = refl; left = refl; tables = refl }

-- ---- the texts of a step

-- Texts lead from the one schema to the other. None makes a table in a tree that one of the first tables had, unless that still stands.
abbrev pub Passes : List Table → Schema → List (List ℕ) → Schema → Type 0
Passes first before [] after = before ≡ after
Passes first before (sql ∷ texts) after =
    (next : Schema) × Turns before sql next × (list_all (λ t. is_in before.tables t.tree || not (is_in first t.tree)) next.tables ≡ true) × Passes first next texts after

abbrev Goes : Step → Schema × Schema → Type 0
Goes step way = Passes (way.0).tables way.0 (texts_of step) way.1

drops_both : (a middle b : Schema) → LosesIndex a DROP_CHOICE_INDEX.now middle → LosesIndex middle DROP_KILLTIME_INDEX.now b
    → list_all (λ t. is_in a.tables t.tree || not (is_in a.tables t.tree)) middle.tables ≡ true → list_all (λ t. is_in middle.tables t.tree || not (is_in a.tables t.tree)) b.tables ≡ true
    → Goes DropJobIndexes (a, b)
drops_both a middle b first next one two = (middle, inr (inr (inr first)), one, (b, inr (inr (inr next)), two, refl))

drops_last : (a b : Schema) → TakesAway a DROP_CALLS.now b → list_all (λ t. is_in a.tables t.tree || not (is_in a.tables t.tree)) b.tables ≡ true → Goes DropCalls (a, b)
drops_last a b takes one = (b, inr (inr (inl takes)), one, refl)

makes : (a b : Schema) (sql : List ℕ) (table : Table) → Makes a sql table → created a table ≡ b → lacks_sequence b ≡ false → is_in a.tables (next_tree a) ≡ false → Turns a sql b
makes a b sql table it is lacks new = inl (record { table = table; makes = it; is = is; lacks = lacks; new = new })

-- the texts of each step lead wherever it leads
pub passes : (step : Step) (a b : Schema) → Has (changes step) (a, b) → Passes a.tables a (texts_of step) b
passes DropIndexes a b has = all_has (Goes DropIndexes) (changes DropIndexes) (a, b) (
  (
    vacuumed_with_two,
    inr (inr (inr drops_grants_index)),
    refl,
    (vacuumed_with_killtime, inr (inr (inr drops_choice)), refl, (bare_with_calls, inr (inr (inr drops_killtime)), refl, refl)),
  ),
  tt,
) has
passes DropJobIndexes a b has = all_has (Goes DropJobIndexes) (changes DropJobIndexes) (a, b) (drops_both second_vacuumed second_vacuumed_with_killtime second_bare_calls drops_second_choice drops_second_killtime refl refl, (drops_both second_core second_with_killtime second_bare drops_second_core_choice drops_second_core_killtime refl refl, (drops_both first_vacuumed first_vacuumed_with_killtime first_bare_calls drops_first_choice drops_first_killtime refl refl, (drops_both first_older_vacuumed first_vacuumed_with_killtime first_bare_calls drops_first_older_choice drops_first_killtime refl refl, (drops_both first_core first_with_killtime first_bare drops_core_choice drops_core_killtime refl refl, (drops_both first_older_core first_with_killtime first_bare drops_older_core_choice drops_core_killtime refl refl, tt)))))) has
passes DropCalls a b has = all_has (Goes DropCalls) (changes DropCalls) (a, b) (drops_last our_tables core_tables drops_calls refl, (drops_last bare_with_calls bare_tables drops_bare_calls refl, (drops_last second_tables second_core drops_second_calls refl, (drops_last second_bare_calls second_bare drops_second_bare_calls refl, (drops_last first_tables first_core drops_first_calls refl, (drops_last first_older first_older_core drops_first_older_calls refl, (drops_last first_bare_calls first_bare drops_first_bare_calls refl, tt))))))) has
passes CreateFirst a b has = all_has (Goes CreateFirst) (changes CreateFirst) (a, b) (
  (
    with_jobs,
    makes no_tables with_jobs CREATE_JOBS.now jobs makes_jobs created_jobs refl refl,
    refl,
    (
      with_grants,
      makes with_jobs with_grants CREATE_GRANTS.now grants makes_grants created_grants refl refl,
      refl,
      (
        with_holds,
        makes with_grants with_holds CREATE_HOLDS.now holds makes_holds created_holds refl refl,
        refl,
        (
          with_down,
          makes with_holds with_down CREATE_DOWN.now down makes_down created_down refl refl,
          refl,
          (
            with_replies,
            makes with_down with_replies CREATE_REPLIES.now replies makes_replies created_replies refl refl,
            refl,
            (
              first_bare,
              makes with_replies first_bare CREATE_META.now meta makes_meta created_meta refl refl,
              refl,
              refl,
            ),
          ),
        ),
      ),
    ),
  ),
  tt,
) has
passes CreateSecond a b has =
    all_has (Goes CreateSecond) (changes CreateSecond) (a, b) ((second_bare, makes first_bare second_bare CREATE_FLOORS.now floors makes_floors created_floors refl refl, refl, refl), tt) has
passes CreateThird a b has =
    all_has (Goes CreateThird) (changes CreateThird) (a, b) ((bare_tables, makes second_bare bare_tables CREATE_TIMES.now times makes_times created_times refl refl, refl, refl), tt) has
passes CreateIndexes a b has =
    all_has (Goes CreateIndexes) (changes CreateIndexes) (a, b) (
      (with_killtime_index, inr (inl makes_killtime), refl, (with_job_indexes, inr (inl makes_choice), refl, (core_tables, inr (inl makes_grants_index), refl, refl))),
      tt,
    ) has
