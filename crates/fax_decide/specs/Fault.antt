-- What a call returns that memory or the store may leave without an answer.
use Rattle.std.specs.Prelude.{◌≡◌, Result, IfErr, MatchResult}
use Rattle.fax_tables.specs.declared.fault.StoreFault.{StoreFault}
use Rattle.fax_tables.specs.declared.fault.StoreFault.TheVariants as store
use Rattle.fax_decide.specs.declared.fault.Fault.{Fault}
use Rattle.fax_decide.specs.declared.fault.Fault.TheVariants.{NoAnswer, Strange}

-- a value of which this holds, unless memory or the store gave no answer
abbrev pub OrNoAnswer : {A : Type 0} → Result A Fault → (A → Type 0) → Type 0
OrNoAnswer result P = MatchResult result P (λ fault. fault ≡ NoAnswer)

-- where there is no value, memory or the store gave no answer
abbrev pub OnlyNoAnswer : {A : Type 0} → Result A Fault → Type 0
OnlyNoAnswer result = IfErr result (λ fault. fault ≡ NoAnswer)

-- the fault of a call of the store that was refused
abbrev pub fault_of : StoreFault → Fault
fault_of store.Unavailable = NoAnswer
fault_of store.Strange = Strange
