-- The clock and the next numbers.
use Rattle.std.specs.Prelude.{[], ◌∷◌}
use Rattle.fax_tables.specs.declared.meta.Meta.{Meta}
use Rattle.sqlite.specs.Order.{Row}
use Rattle.fax_core.specs.Queue.{Queue}
use Rattle.fax_tables.specs.Row.{number}

-- those of a queue
abbrev pub meta_of : Queue → Meta
meta_of m = record { clock = m.clock; next_job = m.next_job; next_grant = m.next_grant }

-- the row of a query for these
abbrev pub numbers_shown : Meta → Row
numbers_shown meta = number meta.clock ∷ number meta.next_job ∷ number meta.next_grant ∷ []

-- the same of a queue's
abbrev pub meta_shown : Queue → Row
meta_shown m = numbers_shown (meta_of m)

-- the queue with these
abbrev pub with_meta : Meta → Queue → Queue
with_meta meta m = record m { clock = meta.clock; next_job = meta.next_job; next_grant = meta.next_grant }
