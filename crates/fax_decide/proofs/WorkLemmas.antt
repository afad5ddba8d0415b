-- What calls of a work make of the queue, one after the other.
use Rattle.std.proofs.Common.{◌≡◌, Bool, true, Err, Ok, Result, IsErr, MatchResult, sym, ◌∙◌}
use Rattle.sqlite.specs.State.{State}
use Rattle.fax_core.specs.Ledger.{Ledger}
use Rattle.fax_core.specs.Queue.{Queue}
use Rattle.fax_store.specs.Work.{Works}

-- once a call was refused, whatever the work means is undone
pub refused_any : (s : State) (failed : Bool) (m₀ m after : Queue) (k₀ k kept : Ledger) → failed ≡ true → Works s failed m₀ k₀ m k → Works s failed m₀ k₀ after kept
refused_any s failed m₀ m after k₀ k kept is works serves = record { began = (works serves).began; goes_on = λ off. absurd (let no = sym is ∙ off in cc) }

-- what holds whatever the refusal is
pub refused_with : {A E : Type 0} (r : Result A E) (Q : A → Type 0) (P : Type 0) → IsErr r → P → MatchResult r Q (λ _. P)
refused_with (Ok x) Q P is p = absurd (let no = is in cc)
refused_with (Err e) Q P is p = p
