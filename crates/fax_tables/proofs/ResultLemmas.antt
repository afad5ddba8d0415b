-- What is said of a result that is known to be an error.
use Rattle.std.proofs.Common.{◌≡◌, ℕ, List, [], ◌∷◌, ◌++◌, length, Option, Some, None, MatchOption, option_to_list, Ok, Err, Result, IfErr, IfOk, IsErr, IsErrAnd, OnOk, OnErr, refl, ◌∙◌, arith}
use Rattle.sqlite_rules.specs.Lists.{Has}
use Rattle.sqlite_rules.proofs.ListLemmas.{has_last}
use Rattle.fax_tables.specs.declared.fault.StoreFault.{StoreFault}
use Rattle.fax_tables.specs.declared.fault.StoreFault.TheVariants.{Unavailable}
use Rattle.fax_tables.specs.Fault.{OrUnavailable}
use Rattle.std.specs.Borrow.{GName, name_if_ok}
use mathlib.Core.Option as maybe

-- what is known anyway is known of an error
pub on_err : {T E : Type 0} (r : Result T E) {P : Type 0} → P → OnErr r P
on_err (Ok x) p = tt
on_err (Err e) p = p

-- a loan that was given back, by `RestsIfErr`
pub rests_at_err : {T E R : Type 0} (r : Result T E) (name : T → GName) (now : R) {P : Type 0} → IsErr r → P → (◌≡◌ {A = maybe.Option GName} maybe.none (name_if_ok name r)) × ((w : R) → OnOk r (now ≡ w)) × OnErr r P
rests_at_err (Ok x) name now is p = absurd (let e = is in cc)
rests_at_err (Err e) name now is p = (refl, λ w. tt, p)

-- what a pop gave is an element, or there was none
pub popped : {X : Type 0} (rows rest : List X) (found : Option X) (len : ℕ) (M : Type 0) (N : X → Type 0) → rows ≡ rest ++ option_to_list found → len ≡ length rows → MatchOption found ((len ≡ 0) × M) N
    → MatchOption found (rows ≡ []) (Has rows)
popped [] rest None len M N e is cases = refl
popped (r ∷ rows) rest None len M N e is cases = absurd (omega (arith, is, cases.0))
popped rows rest (Some x) len M N e is cases = has_last rows rest x e

-- an error that is passed on
pub passes_on : {A : Type 0} (r : Result A StoreFault) (fault : StoreFault) (Q : A → Type 0) → IsErrAnd r (λ e. e ≡ fault) → fault ≡ Unavailable → OrUnavailable r Q
passes_on (Ok x) fault Q is why = absurd is
passes_on (Err e) fault Q is why = is ∙ why

-- an answer of which more is known
pub or_weaker : {A : Type 0} (r : Result A StoreFault) (P Q : A → Type 0) → ((a : A) → P a → Q a) → OrUnavailable r P → OrUnavailable r Q
or_weaker (Ok a) P Q so h = so a h
or_weaker (Err e) P Q so h = h

-- an answer of which something is known, and a refusal for want of the store alone
pub answered : {A : Type 0} (r : Result A StoreFault) (P Q : A → Type 0) → IfOk r P → IfErr r (λ fault. fault ≡ Unavailable) → ((a : A) → P a → Q a) → OrUnavailable r Q
answered (Ok a) P Q ok err so = so a ok
answered (Err e) P Q ok err so = err
