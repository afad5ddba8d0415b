use Rattle.std.proofs.Common.{◌≡◌, ℕ, ◌<◌, ◌≤◌, get_or}
use Rattle.fax_hours.specs.Hours.{with_days}
use Rattle.fax_hours.proofs.hours.Hours.add.Given as goal

abbrev pub invariant-loop-minute : goal.invariant-loop-minute
invariant-loop-minute l = ((m : ℕ) → m < l.minute → get_or l.days-items m 0 ≡ with_days m (get_or l.initial.days-items m 0) l.item) × ((m : ℕ) → l.minute ≤ m → get_or l.days-items m 0 ≡ get_or l.initial.days-items m 0)
