-- What is known of the rows that a pass has read.
use Rattle.std.proofs.Common.{◌∙◌, ℤ, ◌++◌, List, [], ◌∷◌, Option, Some, None, ap, append_assoc, refl}
use Rattle.std.specs.Option.{option_or}
use Rattle.std.proofs.lemmas.List.Elements.{All-append, All-cons, All-nil}
use Rattle.sqlite.specs.Order.{Row}
use Rattle.fax_check.specs.Pass.{IsFirst, IsPassed}

module _ (P : Row → Type 0) (N : Row → ℤ → Type 0) where
  module _ (given : List Row) (row : Row) where
    -- the first stays so with one more row behind it
    one_behind : (id : ℤ) → IsFirst P N given id → IsFirst P N (given ++ row ∷ []) id
    one_behind id it = record {
      before = it.before;
      first = it.first;
      behind = it.behind ++ row ∷ [];
      parts = ap (λ rs. rs ++ row ∷ []) it.parts ∙ append_assoc it.before (it.first ∷ it.behind) (row ∷ []);
      right = it.right;
      wrong = it.wrong;
      named = it.named;
    }

    -- one more that is as it has to be
    pub right_flaw : (o : Option ℤ) → IsPassed P N given o → P row → IsPassed P N (given ++ row ∷ []) o
    right_flaw None all one = All-append P given (row ∷ []) all (All-cons P row [] one (All-nil P))
    right_flaw (Some id) it one = one_behind id it

    -- one more that isn't
    pub wrong_flaw : (o : Option ℤ) (id : ℤ) → IsPassed P N given o → ¬ P row → N row id → IsPassed P N (given ++ row ∷ []) (option_or o (Some id))
    wrong_flaw None id all none named = record { before = given; first = row; behind = []; parts = refl; right = all; wrong = none; named = named }
    wrong_flaw (Some x) id it none named = one_behind x it
