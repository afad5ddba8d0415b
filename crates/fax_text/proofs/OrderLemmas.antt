-- Jobs whose numbers ascend stand in a listing as they are.
use Rattle.std.proofs.Common.{◌≡◌, ◌∙◌, ℕ, zero, suc, ◌+◌, ◌<◌, ◌≤◌, inl, inr, List, [], ◌∷◌, map, length, get_or, Contains, refl, sym, ap, subst, arith, sum_by, ◌-◌, ltb, cond}
use Rattle.std.proofs.lemmas.Bool.{cases_order}
use Rattle.std.proofs.lemmas.Bool.Decides.{nat_tests}
use Rattle.std.proofs.lemmas.List.{ext_get_or, get_or-map, get_or_default, length-map}
use Rattle.std.proofs.lemmas.List.Elements.{Contains-get_or}
use Rattle.std.proofs.lemmas.List.Sorted.{Contains-permutation, IsPermutation-map, IsPermutation-sym, length_permutation, sum_by-IsPermutation}
use Rattle.std.proofs.lemmas.List.Sums.{sum_by-cons}
use Rattle.std.specs.List.Sorted.{IsNonDecreasingBy, IsPermutation, IsStrictlyIncreasing}
use Rattle.fax_text.specs.Listing.{Listed, number_of}

-- each is at least the one before it, and the first at least so much
abbrev Rises : ℕ → List ℕ → Type 0
Rises low [] = Unit {0}
Rises low (n ∷ ns) = (low ≤ n) × Rises n ns

abbrev below : ℕ → ℕ → ℕ
below limit n = cond (ltb n limit) 1 0

-- none of the numbers that rise from there is below
none_below : (limit low : ℕ) (ns : List ℕ) → limit ≤ low → Rises low ns → sum_by (below limit) ns ≡ 0
none_below limit low [] small up = refl
none_below limit low (n ∷ ns) small up =
    let more = sum_by-cons (below limit) n ns in
    let rest = none_below limit n ns (omega (arith, up.0)) up.1 in
    let here : below limit n ≡ 0 = let le = up.0 in grind (arith, nat_tests) in
    omega arith

-- a number that isn't below is at least so much
at_least : (limit n : ℕ) → below limit n ≡ 0 → limit ≤ n
at_least limit n h = grind (arith, nat_tests)

-- two lists that rise and have the same sums are the same
one_rise : (low high : ℕ) (xs ys : List ℕ) → Rises low xs → Rises high ys → length xs ≡ length ys → ((f : ℕ → ℕ) → sum_by f xs ≡ sum_by f ys) → xs ≡ ys
one_rise low high [] [] a b long sums = refl
one_rise low high [] (y ∷ ys) a b long sums = absurd (omega arith)
one_rise low high (x ∷ xs) [] a b long sums = absurd (omega arith)
one_rise low high (x ∷ xs) (y ∷ ys) a b long sums =
    let left : below x y ≡ 0 =
    omega (arith, sums (below x), none_below x x (x ∷ xs) (omega arith) (omega arith, a.1), sum_by-cons (below x) y ys) in
    let right : below y x ≡ 0 =
    omega (arith, sums (below y), none_below y y (y ∷ ys) (omega arith) (omega arith, b.1), sum_by-cons (below y) x xs) in
    let same : x ≡ y = omega (arith, at_least x y left, at_least y x right) in
    let rest = one_rise x y xs ys a.1 b.1 (omega arith) (λ f. omega (arith, sums f, sum_by-cons f x xs, sum_by-cons f y ys, ap f same)) in
    λ i. same i ∷ rest i

-- numbers that ascend rise
strict_rises : (low : ℕ) (ns : List ℕ) → IsStrictlyIncreasing ns → (0 < length ns → low ≤ get_or ns 0 0) → Rises low ns
strict_rises low [] up first = tt
strict_rises low (n ∷ ns) up first = (
  first (omega arith),
  strict_rises n ns (λ k inside. let on : suc k + 1 ≡ suc (k + 1) = omega arith in subst (λ j. get_or ns k 0 < get_or (n ∷ ns) j 0) on (up (suc k) (omega arith)))
      (λ some. let next : n < get_or ns 0 0 = up 0 (omega arith) in omega arith),
)

-- so do the numbers of rows that don't fall
rows_rise : (low : ℕ) (rows : List Listed) → IsNonDecreasingBy number_of rows → ((d : Listed) → 0 < length rows → low ≤ number_of (get_or rows 0 d)) → Rises low (map number_of rows)
rows_rise low [] up first = tt
rows_rise low (row ∷ rows) up first = (
  first row (omega arith),
  rows_rise (number_of row) rows (λ i j d le inside. up (suc i) (suc j) d (omega arith) (omega arith)) (λ d some. up 0 1 d (omega arith) (omega arith)),
)

-- where each is below the next, an earlier one is below a later one, and a number has one place
further : (ns : List ℕ) → IsStrictlyIncreasing ns → (k m : ℕ) → k + m + 1 < length ns → get_or ns k 0 < get_or ns (k + m + 1) 0
further ns up k zero inside = let on : k + 1 ≡ k + zero + 1 = omega arith in subst (λ j. get_or ns k 0 < get_or ns j 0) on (up k (omega arith))
further ns up k (suc m) inside =
    let on : k + m + 1 + 1 ≡ k + suc m + 1 = omega arith in
    subst (λ j. get_or ns k 0 < get_or ns j 0) on (omega (arith, further ns up k m (omega arith), up (k + m + 1) (omega arith)))

-- a number stands in one place of numbers that ascend
one_place : (ns : List ℕ) → IsStrictlyIncreasing ns → (i j : ℕ) → i < length ns → j < length ns → get_or ns i 0 ≡ get_or ns j 0 → i ≡ j
one_place ns up i j a b same =
    elim (cases_order i j) [
      | inl e ↦ e
      | inr (inl lt) ↦ let on : i + (j - i - 1) + 1 ≡ j = omega arith in absurd (omega (arith, further ns up i (j - i - 1) (omega arith), ap (λ k. get_or ns k 0) on))
      | inr (inr gt) ↦ let on : j + (i - j - 1) + 1 ≡ i = omega arith in absurd (omega (arith, further ns up j (i - j - 1) (omega arith), ap (λ k. get_or ns k 0) on))
    ]

-- rows with the jobs' numbers, each of which is one of the jobs, are the jobs
same_rows : (d : Listed) (jobs rows : List Listed) → IsStrictlyIncreasing (map number_of jobs) → map number_of rows ≡ map number_of jobs → ((k : ℕ) → k < length rows → Contains jobs (get_or rows k d)) → rows ≡ jobs
same_rows d jobs rows up numbers each =
    let long : length rows ≡ length jobs = sym (length-map rows number_of) ∙ ap length numbers ∙ length-map jobs number_of in
    let number : (xs : List Listed) (k : ℕ) → k < length xs → get_or (map number_of xs) k 0 ≡ number_of (get_or xs k d) = λ xs k inside. get_or-map number_of xs k d 0 inside in
    ext_get_or d rows jobs long (λ k inside.
    let there = each k inside in
    let found : get_or jobs there.0 d ≡ get_or rows k d = get_or_default jobs there.0 d (get_or rows k d) there.1 ∙ there.2 in
    let place : there.0 ≡ k =
    one_place (map number_of jobs) up there.0 k (omega (arith, there.1, length-map jobs number_of)) (omega (arith, length-map jobs number_of))
    (number jobs there.0 there.1 ∙ ap number_of found ∙ sym (number rows k inside) ∙ ap (λ ns. get_or ns k 0) numbers) in
    sym found ∙ ap (λ j. get_or jobs j d) place)

-- the rows of a listing are the jobs, where their numbers ascend
pub rows_are_jobs : (jobs rows : List Listed) → IsPermutation jobs rows → IsNonDecreasingBy number_of rows → IsStrictlyIncreasing (map number_of jobs) → rows ≡ jobs
rows_are_jobs jobs [] moved order up = sym (none jobs (sym (length_permutation jobs [] moved)))
  where
    none : (xs : List Listed) → length xs ≡ 0 → xs ≡ []
    none [] e = refl
    none (x ∷ xs) e = absurd (omega arith)
rows_are_jobs jobs (row ∷ rest) moved order up =
    let rows : List Listed = row ∷ rest in
    let numbers = IsPermutation-map number_of jobs rows moved in
    let same = one_rise 0 0 (map number_of rows) (map number_of jobs) (rows_rise 0 rows order (λ d some. omega arith)) (strict_rises 0 (map number_of jobs) up (λ some. omega arith)) (length_permutation _ _ numbers) (λ f. sum_by-IsPermutation f (map number_of jobs) (map number_of rows) numbers) in
    same_rows row jobs rows up same (λ k inside. Contains-permutation rows jobs (get_or rows k row) (IsPermutation-sym jobs rows moved) (Contains-get_or rows k row inside))
