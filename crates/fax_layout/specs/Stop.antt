-- What a crash may leave.
use Rattle.sqlite.specs.State.{State, HasCleanDisk}
use Rattle.sqlite_trees.specs.Tree.{Trees}

-- what an open after a crash at this moment may find, as long as the disk is clean
abbrev pub MayFind : State → Trees → Type 0
MayFind s found = HasCleanDisk s × s.may_leave found

-- Nothing is committed: a crash now leaves what a crash before could leave.
abbrev pub CommitsNothing : State → State → Type 0
CommitsNothing old new = (found : Trees) → MayFind new found → MayFind old found

-- the same of a database of which this holds, as long as the disk is clean
abbrev pub HoldsBack : (State → Type 0) → State → State → Type 0
HoldsBack P old new = (HasCleanDisk old → P old) → CommitsNothing old new
