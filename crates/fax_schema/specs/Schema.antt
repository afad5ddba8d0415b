-- The nine tables and their indexes as the database knows them, those of the second version, which had no times, and those of the first, which had no floors either.
use Rattle.std.specs.Prelude.{ℕ, ◌+◌, Bool, false, List, [], ◌∷◌, ◌++◌, codes, length, Some, None, pos}
use Rattle.std.specs.List.{list_any}
use Rattle.std.specs.Str.{bytes_eq}
use Rattle.sqlite.specs.Collation.TheVariants.{Binary}
use Rattle.sqlite.specs.declared.types.Value.TheVariants.{Int}
use Rattle.sqlite_schema.specs.declared.schema.Column.{Column}
use Rattle.sqlite_schema.specs.declared.schema.Index.{Index}
use Rattle.sqlite_schema.specs.declared.schema.Table.{Table}
use Rattle.sqlite_schema.specs.declared.schema.Schema.{Schema}
use Rattle.sqlite_sql.specs.Term.{lit, col, op2}
use Rattle.sqlite_sql.specs.declared.ops.BinaryOp.TheVariants.{Compare}
use Rattle.sqlite_sql.specs.declared.ops.CompareOp.TheVariants.{Eq}
use Rattle.sqlite_rules.specs.Lists.{Has}
use Rattle.sqlite_value.specs.Keys.{plain}
pub use Rattle.fax_layout.specs.Tables.{column_of, integer, text, blob, table_of, key_index, laid, no_tables}

-- the tree of each table's rows. Those between are of their indexes.
abbrev pub jobs_tree : ℕ
jobs_tree = 0

abbrev pub grants_tree : ℕ
grants_tree = 1

abbrev pub holds_tree : ℕ
holds_tree = 2

abbrev pub down_tree : ℕ
down_tree = 6

abbrev pub replies_tree : ℕ
replies_tree = 8

abbrev pub meta_tree : ℕ
meta_tree = 10

abbrev pub floors_tree : ℕ
floors_tree = 11

abbrev pub times_tree : ℕ
times_tree = 13

abbrev pub job_columns : List Column
job_columns =
    integer (codes "job") ∷ text (codes "dial") ∷ text (codes "modem") ∷ text (codes "jobtag") ∷ text (codes "status") ∷ text (codes "extra")
    ∷ integer (codes "tts") ∷ integer (codes "killtime") ∷ integer (codes "priority") ∷ integer (codes "npages") ∷ integer (codes "totpages")
    ∷ integer (codes "ntries") ∷ integer (codes "tottries") ∷ integer (codes "maxtries") ∷ integer (codes "ndials") ∷ integer (codes "totdials")
    ∷ integer (codes "maxdials") ∷ integer (codes "phase") ∷ integer (codes "wish") ∷ integer (codes "next") ∷ []

abbrev pub jobs : Table
jobs = table_of (codes "jobs") jobs_tree job_columns (Some 0) (0 ∷ []) [] [] []

abbrev pub grants : Table
grants =
    table_of (codes "grants") grants_tree
    (integer (codes "id") ∷ integer (codes "job") ∷ text (codes "modem") ∷ integer (codes "first_page") ∷ integer (codes "last_page") ∷ integer (codes "call") ∷ integer (codes "pages") ∷ integer (codes "shut") ∷ [])
    (Some 0) (0 ∷ []) [] [] []

abbrev pub holds : Table
holds =
    table_of (codes "holds") holds_tree (text (codes "modem") ∷ integer (codes "job") ∷ integer (codes "id") ∷ []) None (1 ∷ []) ((1 ∷ []) ∷ (2 ∷ []) ∷ (3 ∷ []) ∷ [])
    (plain ∷ plain ∷ plain ∷ []) []

abbrev pub down : Table
down = table_of (codes "down") down_tree (text (codes "modem") ∷ []) None (1 ∷ []) ((1 ∷ []) ∷ []) (plain ∷ []) []

abbrev pub replies : Table
replies =
    table_of (codes "replies") replies_tree (text (codes "client") ∷ integer (codes "number") ∷ blob (codes "said") ∷ integer (codes "status") ∷ blob (codes "body") ∷ []) None (1 ∷ 2 ∷ [])
    ((1 ∷ 2 ∷ []) ∷ []) (plain ∷ []) []

abbrev pub meta : Table
meta =
    table_of (codes "meta") meta_tree
    (integer (codes "one") ∷ integer (codes "clock") ∷ integer (codes "next_job") ∷ integer (codes "next_grant") ∷ integer (codes "version") ∷ []) (Some 0) (0 ∷ []) [] []
    (op2 (Compare Eq Binary) (col 1 0) (lit (Int (pos 1))) ∷ [])

-- through which number each client has given up its replies
abbrev pub floors : Table
floors = table_of (codes "floors") floors_tree (text (codes "client") ∷ integer (codes "upto") ∷ []) None (1 ∷ []) ((1 ∷ []) ∷ []) (plain ∷ []) []

-- when each job came in, and when it ended
abbrev pub times : Table
times = table_of (codes "times") times_tree (integer (codes "job") ∷ integer (codes "submitted") ∷ integer (codes "ended") ∷ []) (Some 0) (0 ∷ []) [] [] []

-- how many grants are open to each number, in a tree that depends on when the table was made
abbrev pub calls_at : ℕ → Table
calls_at tree = table_of (codes "calls") tree (text (codes "dial") ∷ integer (codes "open") ∷ []) None (1 ∷ []) ((1 ∷ []) ∷ []) (plain ∷ []) []

abbrev pub holds_indexes : List Index
holds_indexes =
    key_index (codes "sqlite_autoindex_holds_1") 3 holds_tree (1 ∷ []) ∷ key_index (codes "sqlite_autoindex_holds_2") 4 holds_tree (2 ∷ []) ∷ key_index (codes "sqlite_autoindex_holds_3") 5 holds_tree (3 ∷ []) ∷ []

abbrev pub down_index : Index
down_index = key_index (codes "sqlite_autoindex_down_1") 7 down_tree (1 ∷ [])

abbrev pub replies_index : Index
replies_index = key_index (codes "sqlite_autoindex_replies_1") 9 replies_tree (1 ∷ 2 ∷ [])

abbrev pub floors_index : Index
floors_index = key_index (codes "sqlite_autoindex_floors_1") 12 floors_tree (1 ∷ [])

-- behind a table in that tree
abbrev pub calls_index_at : ℕ → Index
calls_index_at table = key_index (codes "sqlite_autoindex_calls_1") (table + 1) table (1 ∷ [])

-- an index by which jobs are found without reading the others. It holds no rule.
abbrev pub jobs_index : List ℕ → ℕ → List ℕ → Index
jobs_index name tree places = record { name = name; tree = tree; table = jobs_tree; columns = places; order = plain; is_unique = false }

-- by phase and kill time, for those that expire
abbrev pub killtime_index_at : ℕ → Index
killtime_index_at tree = jobs_index (codes "jobs_by_killtime") tree (18 ∷ 8 ∷ [])

-- by phase, priority, time to send and number, for those that wait, in the order of the choice. It has all else that the choice asks of a job: next time, kill time, number to dial, modem value.
abbrev pub choice_index_at : ℕ → Index
choice_index_at tree = jobs_index (codes "jobs_by_choice") tree (18 ∷ 9 ∷ 7 ∷ 0 ∷ 20 ∷ 8 ∷ 2 ∷ 3 ∷ [])

-- as stores made it before: by phase, priority and time to send alone
abbrev pub older_choice_index_at : ℕ → Index
older_choice_index_at tree = jobs_index (codes "jobs_by_choice") tree (18 ∷ 9 ∷ 7 ∷ [])

-- the index by which the grants of a job are found
abbrev pub grants_index_at : ℕ → Index
grants_index_at tree = record { name = codes "grants_by_job"; tree = tree; table = grants_tree; columns = 2 ∷ []; order = plain; is_unique = false }

-- those of jobs, the first in this tree
abbrev pub job_indexes_at : ℕ → List Index
job_indexes_at tree = killtime_index_at tree ∷ choice_index_at (tree + 1) ∷ []

-- all three
abbrev pub indexes_at : ℕ → List Index
indexes_at tree = job_indexes_at tree ++ grants_index_at (tree + 2) ∷ []

abbrev pub older_indexes_at : ℕ → List Index
older_indexes_at tree = killtime_index_at tree ∷ older_choice_index_at (tree + 1) ∷ []

-- The first tree behind these: each of them has one.
abbrev pub past : List Table → List Index → ℕ
past tables indexes = length tables + length indexes

-- the schema after each of the first five was made
abbrev pub with_jobs : Schema
with_jobs = laid (jobs ∷ []) []

abbrev pub with_grants : Schema
with_grants = laid (jobs ∷ grants ∷ []) []

abbrev pub with_holds : Schema
with_holds = laid (jobs ∷ grants ∷ holds ∷ []) holds_indexes

abbrev pub with_down : Schema
with_down = laid (jobs ∷ grants ∷ holds ∷ down ∷ []) (holds_indexes ++ down_index ∷ [])

abbrev pub with_replies : Schema
with_replies = laid (jobs ∷ grants ∷ holds ∷ down ∷ replies ∷ []) (holds_indexes ++ down_index ∷ replies_index ∷ [])

-- ---- the tables of the first version: those without floors

abbrev pub first_list : List Table
first_list = jobs ∷ grants ∷ holds ∷ down ∷ replies ∷ meta ∷ []

-- those whose rows are alike in each version
abbrev pub alike_list : List Table
alike_list = jobs ∷ holds ∷ down ∷ replies ∷ []

abbrev pub first_keys : List Index
first_keys = holds_indexes ++ down_index ∷ replies_index ∷ []

abbrev pub first_past : ℕ
first_past = past first_list first_keys

-- The six tables that say all of a queue, with the indexes of their keys, each with a tree, and no other index.
abbrev pub first_bare : Schema
first_bare = laid first_list first_keys

abbrev pub first_with_killtime : Schema
first_with_killtime = laid first_list (first_keys ++ killtime_index_at first_past ∷ [])

-- with the indexes by which jobs are found
abbrev pub first_core : Schema
first_core = laid first_list (first_keys ++ job_indexes_at first_past)

-- the same as stores made them before
abbrev pub first_older_core : Schema
first_older_core = laid first_list (first_keys ++ older_indexes_at first_past)

-- with `calls` behind them
abbrev pub first_tables : Schema
first_tables = laid (first_list ++ calls_at (first_past + 2) ∷ []) (first_keys ++ job_indexes_at first_past ++ calls_index_at (first_past + 2) ∷ [])

abbrev pub first_older : Schema
first_older = laid (first_list ++ calls_at (first_past + 2) ∷ []) (first_keys ++ older_indexes_at first_past ++ calls_index_at (first_past + 2) ∷ [])

-- all seven with the indexes of their keys alone, as another program may make them
abbrev pub first_bare_calls : Schema
first_bare_calls = laid (first_list ++ calls_at first_past ∷ []) (first_keys ++ calls_index_at first_past ∷ [])

-- all seven with those of jobs last, as VACUUM leaves them
abbrev pub first_vacuumed : Schema
first_vacuumed = laid (first_list ++ calls_at first_past ∷ []) (first_keys ++ calls_index_at first_past ∷ job_indexes_at (first_past + 2))

abbrev pub first_older_vacuumed : Schema
first_older_vacuumed = laid (first_list ++ calls_at first_past ∷ []) (first_keys ++ calls_index_at first_past ∷ older_indexes_at (first_past + 2))

-- with the first of the two
abbrev pub first_vacuumed_with_killtime : Schema
first_vacuumed_with_killtime = laid (first_list ++ calls_at first_past ∷ []) (first_keys ++ calls_index_at first_past ∷ killtime_index_at (first_past + 2) ∷ [])

-- ---- the tables of the second version: those without times

-- what it has beside the first
abbrev pub second_list : List Table
second_list = floors ∷ []

abbrev pub second_keys : List Index
second_keys = floors_index ∷ []

abbrev pub both_list : List Table
both_list = first_list ++ second_list

abbrev pub both_keys : List Index
both_keys = first_keys ++ second_keys

abbrev pub both_past : ℕ
both_past = past both_list both_keys

-- the seven tables with the indexes of their keys alone
abbrev pub second_bare : Schema
second_bare = laid both_list both_keys

abbrev pub second_with_killtime : Schema
second_with_killtime = laid both_list (both_keys ++ killtime_index_at both_past ∷ [])

-- with the indexes by which jobs are found
abbrev pub second_core : Schema
second_core = laid both_list (both_keys ++ job_indexes_at both_past)

-- with `calls` behind them
abbrev pub second_tables : Schema
second_tables = laid (both_list ++ calls_at (both_past + 2) ∷ []) (both_keys ++ job_indexes_at both_past ++ calls_index_at (both_past + 2) ∷ [])

-- all eight with the indexes of their keys alone, as another program may make them
abbrev pub second_bare_calls : Schema
second_bare_calls = laid (both_list ++ calls_at both_past ∷ []) (both_keys ++ calls_index_at both_past ∷ [])

-- all eight with those of jobs last, as VACUUM leaves them
abbrev pub second_vacuumed : Schema
second_vacuumed = laid (both_list ++ calls_at both_past ∷ []) (both_keys ++ calls_index_at both_past ∷ job_indexes_at (both_past + 2))

-- with the first of the two
abbrev pub second_vacuumed_with_killtime : Schema
second_vacuumed_with_killtime = laid (both_list ++ calls_at both_past ∷ []) (both_keys ++ calls_index_at both_past ∷ killtime_index_at (both_past + 2) ∷ [])

-- ---- those of a store: with what the third version has beside the second's

abbrev pub third_list : List Table
third_list = times ∷ []

-- what later versions have beside the first
abbrev pub added_list : List Table
added_list = second_list ++ third_list

abbrev pub core_list : List Table
core_list = both_list ++ third_list

abbrev pub core_keys : List Index
core_keys = both_keys

abbrev pub core_past : ℕ
core_past = past core_list core_keys

-- where `calls` stands behind the indexes of jobs and grants, and its place among the tables
abbrev pub calls_tree : ℕ
calls_tree = core_past + 3

abbrev pub calls_place : ℕ
calls_place = length core_list

abbrev pub calls : Table
calls = calls_at calls_tree

-- the eight tables that say all of a queue and of its clients, with the indexes of their keys alone
abbrev pub bare_tables : Schema
bare_tables = laid core_list core_keys

abbrev pub with_killtime_index : Schema
with_killtime_index = laid core_list (core_keys ++ killtime_index_at core_past ∷ [])

abbrev pub with_job_indexes : Schema
with_job_indexes = laid core_list (core_keys ++ job_indexes_at core_past)

-- with the indexes by which jobs and grants are found
abbrev pub core_tables : Schema
core_tables = laid core_list (core_keys ++ indexes_at core_past)

-- All nine tables with all indexes: those of a store.
abbrev pub our_tables : Schema
our_tables = laid (core_list ++ calls ∷ []) (core_keys ++ indexes_at core_past ++ calls_index_at calls_tree ∷ [])

-- all nine with the indexes of their keys alone, as another program may make them
abbrev pub bare_with_calls : Schema
bare_with_calls = laid (core_list ++ calls_at core_past ∷ []) (core_keys ++ calls_index_at core_past ∷ [])

-- all nine with those of jobs and grants last, as VACUUM leaves them
abbrev pub vacuumed_tables : Schema
vacuumed_tables = laid (core_list ++ calls_at core_past ∷ []) (core_keys ++ calls_index_at core_past ∷ indexes_at (core_past + 2))

-- with those of jobs, and with the first of these
abbrev pub vacuumed_with_two : Schema
vacuumed_with_two = laid (core_list ++ calls_at core_past ∷ []) (core_keys ++ calls_index_at core_past ∷ job_indexes_at (core_past + 2))

abbrev pub vacuumed_with_killtime : Schema
vacuumed_with_killtime = laid (core_list ++ calls_at core_past ∷ []) (core_keys ++ calls_index_at core_past ∷ killtime_index_at (core_past + 2) ∷ [])

-- ---- the tables of a queue

-- whether one of these tables has this name
abbrev pub are_with : List ℕ → List Table → Bool
are_with name tables = list_any (λ t. bytes_eq t.name name) tables

-- whether there are floors, as from the second version on
abbrev pub has_floors : Schema → Bool
has_floors schema = are_with (codes "floors") schema.tables

-- whether there are times, as in the third
abbrev pub has_times : Schema → Bool
has_times schema = are_with (codes "times") schema.tables

-- the layouts that they may have, those of the third version first
abbrev pub our_layouts : List Schema
our_layouts =
    our_tables ∷ core_tables ∷ bare_tables ∷ bare_with_calls ∷ vacuumed_tables ∷ second_tables ∷ second_core ∷ second_bare ∷ second_bare_calls ∷ second_vacuumed
    ∷ first_tables ∷ first_older ∷ first_core ∷ first_older_core ∷ first_bare ∷ first_bare_calls ∷ first_vacuumed ∷ first_older_vacuumed ∷ []

-- the tables of a queue
abbrev pub AreOurs : Schema → Type 0
AreOurs = Has our_layouts
