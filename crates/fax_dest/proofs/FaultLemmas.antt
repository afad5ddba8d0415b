-- Faults, unless memory ran out.
use Rattle.std.proofs.Common.{◌≡◌, ℕ, Bool, true, false, List, refl}
use Rattle.std.specs.Prelude.{⊤, Result, Ok, Err, IsErr, IsErrAnd}
use Rattle.std.specs.Bool.{MatchBool}
use Rattle.fax_dest.specs.Fault.{is_memory, GivesBy}
use Rattle.fax_dest.specs.Pattern.{Compiling}
use Rattle.fax_dest.specs.declared.fault.FileKind.{FileKind}
use Rattle.fax_dest.specs.declared.fault.FileKind.TheVariants.{NotText, NoColon, NoRule, NoEquals, BadQuote, BadValue, BadHours, BadPattern, BigPattern, BadZone, NoMemory}

-- what is so unless memory ran out may say less
pub MatchBool-weaker : {P Q : Type 0} (b : Bool) → (P → Q) → MatchBool b ⊤ P → MatchBool b ⊤ Q
MatchBool-weaker true f h = h
MatchBool-weaker false f h = f h

-- only want of memory excuses a call
pub memory_alone : (kind : FileKind) → is_memory kind ≡ true → kind ≡ NoMemory
memory_alone NoMemory h = refl
memory_alone NotText h = cc
memory_alone NoColon h = cc
memory_alone NoRule h = cc
memory_alone NoEquals h = cc
memory_alone BadQuote h = cc
memory_alone BadValue h = cc
memory_alone BadHours h = cc
memory_alone BadPattern h = cc
memory_alone BigPattern h = cc
memory_alone BadZone h = cc

-- a fault that is handed on
pub handed_on : {A X : Type 0} (is_pattern : List ℕ → Bool) (Made : A → X → Type 0) (given : Compiling → Result A FileKind) (result : Result X FileKind) (kind : FileKind) → IsErr result × IsErrAnd result (λ told. told ≡ kind) → GivesBy is_pattern Made given (Err kind) → GivesBy is_pattern Made given result
handed_on is_pattern Made given (Ok made) kind told gives = absurd told.1
handed_on is_pattern Made given (Err other) kind told gives = rw told.1 gives
