-- What a call returns that may want memory, and why the database refuses.
use Rattle.std.specs.Prelude.{◌≡◌, Bool, true, false, Result, MatchResult}
use Rattle.sqlite.specs.declared.error.Error.{Error}
use Rattle.sqlite.specs.declared.error.Error.TheVariants.{SqliteFailure}
use Rattle.sqlite.specs.declared.error.ErrorCode.TheVariants.{ConstraintViolation}
use Rattle.fax_tables.specs.declared.fault.StoreFault.{StoreFault}
use Rattle.fax_tables.specs.declared.fault.StoreFault.TheVariants.{Unavailable, Strange}

-- a value of which this holds, unless the call was unavailable
abbrev pub OrUnavailable : {A : Type 0} → Result A StoreFault → (A → Type 0) → Type 0
OrUnavailable result P = MatchResult result P (λ fault. fault ≡ Unavailable)

-- the fault of a text that doesn't read: want of memory, or no lawful record
abbrev pub fault_by : Bool → StoreFault
fault_by true = Unavailable
fault_by false = Strange

-- the fault of a row that doesn't go in: it breaks a rule of its table, or the database gave no answer
abbrev pub fault_of : Error → StoreFault
fault_of (SqliteFailure (ConstraintViolation rule)) = Strange
fault_of _ = Unavailable
