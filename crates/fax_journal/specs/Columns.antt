-- The columns of an entry, as they are written.
use Rattle.std.specs.Prelude.{[], ◌∷◌}
use Rattle.sqlite.specs.Order.{Row}
use Rattle.sqlite.specs.declared.types.Value.TheVariants.{Int, Text, Blob}
use Rattle.fax_tables.specs.Row.{number}
use Rattle.fax_journal.specs.declared.columns.KeyColumns.{KeyColumns}
use Rattle.fax_journal.specs.declared.columns.RequestColumns.{RequestColumns}
use Rattle.fax_journal.specs.declared.columns.HeldColumns.{HeldColumns}

abbrev pub key_row : KeyColumns → Row
key_row c = number c.keyed ∷ Text c.key.now ∷ []

abbrev pub request_row : RequestColumns → Row
request_row c = number c.unanswered ∷ Int c.number ∷ Text c.path.now ∷ Blob c.body.now ∷ key_row c.key

abbrev pub held_row : HeldColumns → Row
held_row c = number c.holds ∷ number c.grant ∷ number c.job ∷ Text c.dial.now ∷ number c.first_page ∷ number c.last_page ∷ number c.call ∷ number c.pages ∷ []
