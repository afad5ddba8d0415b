-- When a comparison of SQL holds between numbers and between texts, and what a column of their type makes of them.
use Rattle.std.proofs.Common.{◌≡◌, ℕ, ℤ, pos, List, ◌∷◌, Bool, true, false, cond, ◌||◌, Some, refl, sym, ap, ap₂, ◌∙◌, arith}
use Rattle.std.specs.Prelude.{nat_le, nat_lt, ◌==◌}
use Rattle.std.specs.Ordering.{is_eq, is_le, is_ge, is_gt, int_cmp}
use Rattle.std.specs.Str.{bytes_eq}
use Rattle.std.proofs.lemmas.Map.Text.{is_eq-slice_cmp}
use Rattle.std.proofs.lemmas.Bool.Decides.{nat_tests}
use Rattle.sqlite.specs.Collation.TheVariants.{Binary}
use Rattle.sqlite.specs.Kind.TheVariants as kind
use Rattle.sqlite.specs.Cast.{cast}
use Rattle.sqlite.specs.declared.types.Value.{Value}
use Rattle.sqlite.specs.declared.types.Value.TheVariants.{Null, Int, Text}
use Rattle.sqlite_sql.specs.declared.ops.BinaryOp.TheVariants.{Compare, Or}
use Rattle.sqlite_sql.specs.declared.ops.CompareOp.{CompareOp}
use Rattle.sqlite_sql.specs.declared.ops.CompareOp.TheVariants.{Eq, Le, Ge, Gt}
use Rattle.sqlite_sql.specs.Ops.{binary, unary, test, is_true, is_null, from_truth}
use Rattle.sqlite_value.specs.Order.{value_cmp}
use Rattle.sqlite_value.proofs.OrderLemmas.{value_cmp-Int, value_cmp-Text}

-- SQL's truth is true just where it is
truth_of : (t : Bool) → is_true (from_truth (Some t)) ≡ t
truth_of true = refl
truth_of false = refl

-- the test of a = b
abbrev pub are_equal : Value → Value → Bool
are_equal a b = is_true (binary (Compare Eq Binary) a b)

-- a comparison of two values that aren't NULL holds as they compare
pub compared : (op : CompareOp) (a b : Value) → is_null a ≡ false → is_null b ≡ false → is_true (binary (Compare op Binary) a b) ≡ test op (value_cmp a b)
unfolding binary
compared op a b p q = rw (p, q) (truth_of (test op (value_cmp a b)))

-- two values that aren't NULL are equal where they compare so
equal_by : (a b : Value) → is_null a ≡ false → is_null b ≡ false → are_equal a b ≡ is_eq (value_cmp a b)
equal_by a b p q = compared Eq a b p q

-- a <= b of numbers
pub at_most : (a b : ℕ) → is_true (binary (Compare Le Binary) (Int (pos a)) (Int (pos b))) ≡ nat_le a b
at_most a b = compared Le (Int (pos a)) (Int (pos b)) refl refl ∙ ap is_le (value_cmp-Int (pos a) (pos b)) ∙ grind (arith, nat_tests)

-- a >= b of numbers
pub at_least : (a b : ℕ) → is_true (binary (Compare Ge Binary) (Int (pos a)) (Int (pos b))) ≡ nat_le b a
at_least a b = compared Ge (Int (pos a)) (Int (pos b)) refl refl ∙ ap is_ge (value_cmp-Int (pos a) (pos b)) ∙ grind (arith, nat_tests)

-- a > b of numbers
pub more_than : (a b : ℕ) → is_true (binary (Compare Gt Binary) (Int (pos a)) (Int (pos b))) ≡ nat_lt b a
more_than a b = compared Gt (Int (pos a)) (Int (pos b)) refl refl ∙ ap is_gt (value_cmp-Int (pos a) (pos b)) ∙ grind (arith, nat_tests)

-- numbers are equal where they compare so as integers
pub equal_numbers : (a b : ℕ) → are_equal (Int (pos a)) (Int (pos b)) ≡ is_eq (int_cmp (pos a) (pos b))
equal_numbers a b = equal_by (Int (pos a)) (Int (pos b)) refl refl ∙ ap is_eq (value_cmp-Int (pos a) (pos b))

-- texts are equal where their bytes are
pub equal_texts : (s t : List ℕ) → are_equal (Text s) (Text t) ≡ bytes_eq s t
equal_texts s t = equal_by (Text s) (Text t) refl refl ∙ ap is_eq (value_cmp-Text s t) ∙ is_eq-slice_cmp s t

-- numbers are equal where they are the same
pub is_number : (a b : ℕ) → are_equal (Int (pos a)) (Int (pos b)) ≡ (a == b)
is_number a b = equal_numbers a b ∙ grind (arith, nat_tests)

-- numbers that are equal are the same
pub same_number : (a b : ℕ) → are_equal (Int (pos a)) (Int (pos b)) ≡ true → a ≡ b
same_number a b h = let e = sym (equal_numbers a b) ∙ h in grind (arith, nat_tests)

-- a number is equal to itself
pub number_same : (a : ℕ) → are_equal (Int (pos a)) (Int (pos a)) ≡ true
number_same a = equal_numbers a a ∙ grind (arith, nat_tests)

either : (b : Bool) (x : Value) → cond b x x ≡ x
either true x = refl
either false x = refl

-- a column keeps an integer, a text or a blob of its type
pub cast_int : (n : ℤ) → cast kind.Integer (Int n) ≡ Int n
unfolding unary
cast_int n = either _ (Int n)

-- and NULL
pub cast_null : cast kind.Integer Null ≡ Null
unfolding unary
cast_null = either _ Null

-- rows with the same first value and the same rest are the same
pub same_row : {X : Type 0} {a b : X} {xs ys : List X} → a ≡ b → xs ≡ ys → a ∷ xs ≡ b ∷ ys
same_row p q = cc

-- an OR of two comparisons
or_truth : (a b : Bool) → is_true (binary Or (from_truth (Some a)) (from_truth (Some b))) ≡ (a || b)
unfolding binary
or_truth true true = refl
or_truth true false = refl
or_truth false true = refl
or_truth false false = refl

-- a comparison of two values that aren't NULL gives a truth
gives : (op : CompareOp) (a b : Value) → is_null a ≡ false → is_null b ≡ false → binary (Compare op Binary) a b ≡ from_truth (Some (test op (value_cmp a b)))
unfolding binary
gives op a b p q = rw (p, q) refl

-- a is 0 or above t
pub or_else : (a t : ℕ) → is_true (binary Or (binary (Compare Eq Binary) (Int (pos a)) (Int (pos 0))) (binary (Compare Gt Binary) (Int (pos a)) (Int (pos t)))) ≡ (is_eq (int_cmp (pos a) (pos 0)) || is_gt (int_cmp (pos a) (pos t)))
or_else a t =
    ap₂ (λ x y. is_true (binary Or x y)) (gives Eq (Int (pos a)) (Int (pos 0)) refl refl) (gives Gt (Int (pos a)) (Int (pos t)) refl refl)
    ∙ or_truth (is_eq (value_cmp (Int (pos a)) (Int (pos 0)))) (is_gt (value_cmp (Int (pos a)) (Int (pos t))))
    ∙ ap₂ (λ x y. is_eq x || is_gt y) (value_cmp-Int (pos a) (pos 0)) (value_cmp-Int (pos a) (pos t))
