-- What a database means is one thing, before a crash and after it.
use Rattle.std.specs.Prelude.{◌≡◌, ℕ, List, Option}
use Rattle.sqlite.specs.Effect.{Database, IsDatabase}
use Rattle.fax_journal.specs.Entry.{Entry}
use Rattle.fax_journal.specs.Journal.{Answers, FileMeans, IsFound}
use Rattle.sqlite_trees.specs.Tree.{Trees}

-- a database means one entry at most, and one answer under each key
abbrev pub FilesHaveOneMeaning : Type 0
FilesHaveOneMeaning = (db : Database) (e f : Option Entry) (kept other : Answers) → FileMeans e kept db → FileMeans f other db → (e ≡ f) × ((key : List ℕ) → kept key ≡ other key)

-- a database with the rows that a crash left means what was said of them
abbrev pub FoundMeansTheSame : Type 0
FoundMeansTheSame = (db : Database) (e : Option Entry) (kept : Answers) (found : Trees) → IsFound (FileMeans e kept) found → IsDatabase db → db.trees ≡ found → FileMeans e kept db
