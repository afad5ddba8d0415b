-- The grammar of patterns has a test.
use Rattle.std.proofs.Common.{◌≡◌, ◌⊎◌, ℕ, ◌<◌, ◌≤◌, Bool, true, false, List, Option, Some, None, refl, arith, inl, inr, IsSomeAnd}
use Rattle.std.specs.Prelude.{nat_le}
use Rattle.std.specs.Option.{IfSome}
use Rattle.std.proofs.lemmas.Bool.Decides.{nat_tests}
use Rattle.regex.specs.Failures.{IsPattern}
use Rattle.regex.specs.Patterns.{default_config, Reads, Refuses}
use Rattle.fax_dest.specs.Pattern.{IsNoPattern, IsGrammar}

-- what was read is there, and no deeper than a limit
is_within : {A : Type 0} → (A → ℕ) → ℕ → Option A → Bool
is_within depth limit None = false
is_within depth limit (Some found) = nat_le (depth found) limit

-- what was read within the limit passes the test
within : {A : Type 0} (depth : A → ℕ) (limit : ℕ) (o : Option A) (P Q R : A → Type 0) → IsSomeAnd o (λ a. (depth a ≤ limit) × P a × Q a × R a) → is_within depth limit o ≡ true
unfolding is_within
within depth limit None P Q R h = absurd h
within depth limit (Some found) P Q R h = grind (arith, nat_tests)

-- what wasn't, or is deeper, doesn't
without : {A : Type 0} (depth : A → ℕ) (limit : ℕ) (o : Option A) (K L : Type 0) → (K → ⊥) → K ⊎ ((o ≡ None) ⊎ (L × IfSome o (λ a. limit < depth a))) → is_within depth limit o ≡ false
unfolding is_within
without depth limit None K L other h = refl
without depth limit (Some found) K L other (inl k) = absurd (other k)
without depth limit (Some found) K L other (inr (inl e)) = cc
without depth limit (Some found) K L other (inr (inr deep)) = let h : limit < depth found = deep.1 in grind (arith, nat_tests)

-- each text has a test that tells whether it is a pattern
tested : (text : List ℕ) → (b : Bool) × (IsPattern default_config text → b ≡ true) × (IsNoPattern text → b ≡ false)
unfolding Reads Refuses
tested text = (
  is_within _ 250 _,
  λ (hir, names, read). within _ 250 _ _ _ _ read,
  λ (error, refused, kind). without _ 250 _ _ _ kind (refused error refl),
)

-- so the grammar has one
pub grammar_test : (is_pattern : List ℕ → Bool) × IsGrammar is_pattern
grammar_test = (λ text. (tested text).0, record { reads = λ text. (tested text).1; refuses = λ text. (tested text).2 })
