use Rattle.std.specs.Prelude.{⊤}
use Rattle.std.proofs.Common.{◌≡◌, ◌++◌, ℕ, Ok, drop, flat_map}
use Rattle.fax_core.specs.Ageing.{aged}
use Rattle.fax_core.specs.Sound.{Sound}
use Rattle.fax_decide.specs.Looking.{Consults}
use Rattle.fax_decide.specs.Settings.{settings_of}
use Rattle.fax_run.specs.Modems.{modem_shown}
use Rattle.fax_decide.proofs.modem_list.lines.Given as goal

abbrev pub invariant-loop-name : goal.invariant-loop-name
invariant-loop-name g l = Consults g.S.Store {A = ⊤} {E = ⊤} l.initial.store l.store (Ok tt) (λ m. (t : ℕ) → Sound m
    → flat_map (modem_shown (settings_of l.office.setup l.office.controls) (aged t m)) l.names
    ≡ l.text.items ++ flat_map (modem_shown (settings_of l.office.setup l.office.controls) (aged t m)) (drop l.name-index l.names))
