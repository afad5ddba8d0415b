-- What a call returns that may want memory.
use Rattle.std.specs.Prelude.{◌≡◌, Bool, Result, Ok, Err, IfErr, ⊤}
use Rattle.std.specs.Bool.{MatchBool}

-- what was returned, seen by view, is what is to be given, unless memory ran out
abbrev pub GivesBy : {X T E : Type 0} → (X → T) → (E → Bool) → Result X E → Result T E → Type 0
GivesBy view is_no_memory (Ok value) given = given ≡ Ok (view value)
GivesBy view is_no_memory (Err fault) given = MatchBool (is_no_memory fault) ⊤ (given ≡ Err fault)

-- the same of what is seen as it is
abbrev pub Gives : {T E : Type 0} → (E → Bool) → Result T E → Result T E → Type 0
Gives is_no_memory (Ok value) given = given ≡ Ok value
Gives is_no_memory (Err fault) given = MatchBool (is_no_memory fault) ⊤ (given ≡ Err fault)

-- a fault that is to be given is told, however little memory there is
abbrev pub Tells : {T E : Type 0} → Result T E → Result T E → Type 0
Tells result given = IfErr given (λ fault. result ≡ Err fault)
