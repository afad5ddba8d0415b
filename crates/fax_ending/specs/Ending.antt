-- How a command ends, and what it says then.
use Rattle.std.specs.Prelude.{ℕ, List, [], ◌∷◌, ◌++◌, Option, Some, None, codes}
use Rattle.fax_ending.specs.FaultLine.{spelled}
use Rattle.fax_ending.specs.declared.ending.Ending.{Ending}
use Rattle.fax_ending.specs.declared.fault_line.FaultLine.{FaultLine}

abbrev pub spelled_option : Option FaultLine → List ℕ
spelled_option None = []
spelled_option (Some line) = spelled line

-- what a command says at its end: a line, or nothing
abbrev pub spoken : Ending → List ℕ
spoken ending = spelled_option ending.line

-- ---- lines of many commands

abbrev pub no_memory : List ℕ
no_memory = codes "faxqd: no memory" ++ 10 ∷ []

-- a database that can't be had, or can't be gone on with
abbrev pub no_database : List ℕ
no_database = codes "faxqd: database" ++ 10 ∷ []

-- the output failed
abbrev pub write_failed : List ℕ
write_failed = codes "faxqd: ended write-failed" ++ 10 ∷ []
