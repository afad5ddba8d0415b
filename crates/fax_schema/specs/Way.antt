-- How the layouts that the database of a queue may have come to that of a store, step by step.
use Rattle.std.specs.Prelude.{◌≡◌, ◌≤◌, ℕ, List, [], ◌∷◌, drop, length, map}
use Rattle.sqlite_rules.specs.Lists.{Has}
use Rattle.sqlite_schema.specs.declared.schema.Schema.{Schema}
use Rattle.fax_schema.specs.declared.statements.TheConstants.{CREATE_JOBS, CREATE_GRANTS, CREATE_HOLDS, CREATE_DOWN, CREATE_REPLIES, CREATE_META, CREATE_FLOORS, CREATE_TIMES, CREATE_KILLTIME_INDEX, CREATE_CHOICE_INDEX, CREATE_GRANTS_INDEX, DROP_CALLS, DROP_CHOICE_INDEX, DROP_GRANTS_INDEX, DROP_KILLTIME_INDEX}
use Rattle.fax_schema.specs.declared.way.Step.{Step}
use Rattle.fax_schema.specs.declared.way.Step.TheVariants.{DropIndexes, DropJobIndexes, DropCalls, CreateFirst, CreateSecond, CreateThird, CreateIndexes}
use Rattle.fax_schema.specs.declared.way.TheConstants.{UPGRADES}
use Rattle.fax_schema.specs.declared.way.Known.{Known}
use Rattle.fax_schema.specs.declared.way.Way.{Way}
use Rattle.fax_layout.specs.Shape.{laid_out}
use Rattle.fax_schema.specs.Schema.{no_tables, our_tables, core_tables, bare_tables, bare_with_calls, vacuumed_tables, second_tables, second_core, second_bare, second_bare_calls, second_vacuumed, first_tables, first_older, first_core, first_older_core, first_bare, first_bare_calls, first_vacuumed, first_older_vacuumed}

-- the texts of each step
abbrev pub texts_of : Step → List (List ℕ)
texts_of DropIndexes = DROP_GRANTS_INDEX.now ∷ DROP_CHOICE_INDEX.now ∷ DROP_KILLTIME_INDEX.now ∷ []
texts_of DropJobIndexes = DROP_CHOICE_INDEX.now ∷ DROP_KILLTIME_INDEX.now ∷ []
texts_of DropCalls = DROP_CALLS.now ∷ []
texts_of CreateFirst = CREATE_JOBS.now ∷ CREATE_GRANTS.now ∷ CREATE_HOLDS.now ∷ CREATE_DOWN.now ∷ CREATE_REPLIES.now ∷ CREATE_META.now ∷ []
texts_of CreateSecond = CREATE_FLOORS.now ∷ []
texts_of CreateThird = CREATE_TIMES.now ∷ []
texts_of CreateIndexes = CREATE_KILLTIME_INDEX.now ∷ CREATE_CHOICE_INDEX.now ∷ CREATE_GRANTS_INDEX.now ∷ []

-- from which layout each step leads to which
abbrev pub changes : Step → List (Schema × Schema)
changes DropIndexes = (vacuumed_tables, bare_with_calls) ∷ []
changes DropJobIndexes =
    (second_vacuumed, second_bare_calls) ∷ (second_core, second_bare) ∷ (first_vacuumed, first_bare_calls) ∷ (first_older_vacuumed, first_bare_calls) ∷ (first_core, first_bare) ∷ (first_older_core, first_bare) ∷ []
changes DropCalls =
    (our_tables, core_tables) ∷ (bare_with_calls, bare_tables) ∷ (second_tables, second_core) ∷ (second_bare_calls, second_bare) ∷ (first_tables, first_core) ∷ (first_older, first_older_core) ∷ (first_bare_calls, first_bare) ∷ []
changes CreateFirst = (no_tables, first_bare) ∷ []
changes CreateSecond = (first_bare, second_bare) ∷ []
changes CreateThird = (second_bare, bare_tables) ∷ []
changes CreateIndexes = (bare_tables, core_tables) ∷ []

-- these steps, one behind the other, lead from the one to the other
abbrev pub Leads : List Step → Schema → Schema → Type 0
Leads [] a c = a ≡ c
Leads (step ∷ rest) a c = (b : Schema) × Has (changes step) (a, b) × Leads rest b c

-- it leads to all that a store has but `calls`
abbrev pub IsWay : Way → Schema → Type 0
IsWay way schema = (b : Schema) × Leads (way.loses).now schema b × Leads (way.gains).now b core_tables

-- ---- the layouts that are known

abbrev pub layout_of : Known → Schema
layout_of k = laid_out (map (λ p. p.now) k.0.now)

-- each comes there by its steps, and by those of the upgrades that it still needs
pub record HasWay (k : Known) : Type 0 where
  pub some : k.2 ≤ length UPGRADES
  pub between : Schema
  pub loses : Leads k.1.now (layout_of k) between
  pub gains : Leads (drop k.2 UPGRADES) between core_tables
