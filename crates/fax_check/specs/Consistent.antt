-- A sound queue whose rows belong together: what a check of its rows finds, and what every run keeps.
use Rattle.std.specs.Prelude.{List}
use Rattle.fax_core.specs.Laws.{ArePast, GrantsHaveJobs}
use Rattle.fax_core.specs.Queue.{Queue}
use Rattle.fax_core.specs.Run.{AreLawful, Request, queue_after}
use Rattle.fax_core.specs.Settings.{Settings}
use Rattle.fax_core.specs.Sound.{Sound}

-- sound, each grant's job is there, and no submission or end of a job is later than the clock
pub record Consistent (m : Queue) : Type 0 where
  pub sound : Sound m
  pub owned : GrantsHaveJobs m
  pub past : ArePast m.clock m.times

-- so every run leaves such a queue
abbrev pub RunsStayConsistent : Type 0
RunsStayConsistent = (s : Settings) (m : Queue) (rs : List Request) → Consistent m → AreLawful rs → Consistent (queue_after s m rs)
