-- Kept replies, and the row of a query for one.
use Rattle.std.specs.Prelude.{◌≡◌, [], ◌∷◌}
use Rattle.sqlite.specs.Order.{Row}
use Rattle.sqlite.specs.declared.types.Value.TheVariants.{Blob}
use Rattle.fax_core.specs.Queue.{Entry}
use Rattle.fax_tables.specs.declared.replies.Kept.{Kept}
use Rattle.fax_tables.specs.Row.{number}

-- what was said, the status and the body are those of the entry
pub record Tells (kept : Kept) (e : Entry) : Type 0 where
  pub said : kept.said.items ≡ e.said
  pub status : kept.status ≡ e.status
  pub body : kept.body.items ≡ e.body

-- the row of a query for a kept reply
abbrev pub kept_shown : Kept → Row
kept_shown kept = Blob kept.said.items ∷ number kept.status ∷ Blob kept.body.items ∷ []

-- the row of a query for an entry
abbrev pub entry_shown : Entry → Row
entry_shown e = Blob e.said ∷ number e.status ∷ Blob e.body ∷ []
