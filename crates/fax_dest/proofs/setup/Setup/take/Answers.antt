use Rattle.std.proofs.Common.{refl, sym}
use Rattle.fax_dest.specs.Setting.{Nothing, setting_of}
use Rattle.fax_dest.proofs.setup.Setup.take.Goals as goal

pub returns-then-is_skipped : goal.returns-then-is_skipped
unfolding setting_of
returns-then-is_skipped c = λ is_pattern grammar. (Nothing, rw (sym c.if-is_skipped.ensures) refl, record { shown = refl; zone = refl })
