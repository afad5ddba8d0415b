-- What is made of the clock, and which numbers are left.
use Rattle.std.specs.Prelude.{ℕ, ◌+◌, ◌<◌, [], ◌∷◌}
use Rattle.sqlite.specs.Effect.{Database}
use Rattle.fax_core.specs.Queue.{Queue}
use Rattle.fax_value.specs.Limits.{last_grant, last_job}
use Rattle.fax_schema.specs.Schema.{meta_tree}
use Rattle.fax_store.specs.Store.{HasRow}
use Rattle.fax_tables.specs.Meta.{numbers_shown}
use Rattle.fax_tables.specs.declared.meta.Meta.{Meta}

-- the queue with this clock
abbrev pub with_clock : ℕ → Queue → Queue
with_clock clock m = record m { clock = clock }

-- a number is left for the next job, and for the next grant
abbrev pub IsJobLeft : Queue → Type 0
IsJobLeft m = m.next_job < last_job + 1

abbrev pub IsGrantLeft : Queue → Type 0
IsGrantLeft m = m.next_grant < last_grant + 1

-- whatever the rows say, a row has this clock and these next numbers
abbrev pub MetaStands : Database → Meta → Type 0
MetaStands db meta = HasRow db meta_tree (2 ∷ 3 ∷ 4 ∷ []) (numbers_shown meta)
