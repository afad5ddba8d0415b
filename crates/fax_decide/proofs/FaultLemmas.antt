-- What is said of a call that memory or the store may leave without an answer.
use Rattle.std.proofs.Common.{◌≡◌, Ok, Err, Result, IfOk, IsErr, IsErrAnd, refl, ap, ◌∙◌}
use Rattle.fax_tables.specs.declared.fault.StoreFault.{StoreFault}
use Rattle.fax_tables.specs.declared.fault.StoreFault.TheVariants.{Unavailable}
use Rattle.fax_decide.specs.Fault.{OnlyNoAnswer, OrNoAnswer, fault_of}
use Rattle.fax_decide.specs.declared.fault.Fault.{Fault}
use Rattle.fax_decide.specs.declared.fault.Fault.TheVariants.{NoAnswer}

-- ---- what a `?` passes on

-- a fault of another call
pub passed_on : {A : Type 0} (r : Result A Fault) (fault : Fault) (P : A → Type 0) → IsErrAnd r (λ e. e ≡ fault) → fault ≡ NoAnswer → OrNoAnswer r P
passed_on (Ok x) fault P is why = absurd is
passed_on (Err e) fault P is why = is ∙ why

-- want of memory
pub no_memory : {A : Type 0} (r : Result A Fault) (P : A → Type 0) → IsErrAnd r (λ e. e ≡ NoAnswer) → OrNoAnswer r P
no_memory r P is = passed_on r NoAnswer P is refl

-- a fault of the store
pub store_gave_out : {A : Type 0} (r : Result A Fault) (fault : StoreFault) (P : A → Type 0) → IsErrAnd r (λ e. e ≡ fault_of fault) → fault ≡ Unavailable → OrNoAnswer r P
store_gave_out r fault P is why = passed_on r (fault_of fault) P is (ap fault_of why)

-- ---- the two sides

-- what is had of a value
pub if_answered : {A : Type 0} (r : Result A Fault) (P : A → Type 0) → OrNoAnswer r P → IfOk r P
if_answered (Ok x) P h = h
if_answered (Err e) P h = tt

-- why there is none
pub only_no_answer : {A : Type 0} (r : Result A Fault) (P : A → Type 0) → OrNoAnswer r P → OnlyNoAnswer r
only_no_answer (Ok x) P h = tt
only_no_answer (Err e) P h = h

-- the two sides of one that is whole, where the second is asked under a premise
pub both_sides : {A Q : Type 0} (r : Result A Fault) (P : A → Type 0) → OrNoAnswer r P → IfOk r P × (Q → OnlyNoAnswer r)
both_sides r P h = (if_answered r P h, λ q. only_no_answer r P h)

-- what is less
pub or_weaker : {A : Type 0} (r : Result A Fault) (P Q : A → Type 0) → ((x : A) → P x → Q x) → OrNoAnswer r P → OrNoAnswer r Q
or_weaker (Ok x) P Q less h = less x h
or_weaker (Err e) P Q less h = h

-- what is had of a value that is there
pub always_answered : {A : Type 0} (r : Result A Fault) (P : A → Type 0) → IfOk r P → (IsErr r → ⊥) → OrNoAnswer r P
always_answered (Ok x) P h never = h
always_answered (Err e) P h never = absurd (never refl)
