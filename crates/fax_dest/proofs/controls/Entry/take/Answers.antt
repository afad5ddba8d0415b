use Rattle.std.proofs.Common.{refl, sym}
use Rattle.fax_dest.specs.Controls.{Skipped, line_of}
use Rattle.fax_dest.proofs.controls.Entry.take.Goals as goal

pub returns-then-is_skipped : goal.returns-then-is_skipped
unfolding line_of
returns-then-is_skipped c = λ is_pattern grammar. (Skipped, rw (sym c.if-is_skipped.ensures) refl, record { rules = refl })
