-- Pages in a row, cut in two.
use Rattle.std.proofs.Common.{◌≡◌, ℕ, zero, suc, ◌+◌, ◌-◌, ◌≤◌, List, ◌∷◌, ◌++◌, ap, sym, ◌∙◌, arith}
use Rattle.std.specs.List.{range_with_len}

-- a range and the range behind it are one range
pub joined : (a n k : ℕ) → range_with_len a n ++ range_with_len (a + n) k ≡ range_with_len a (n + k)
joined a zero k =
    let start : a + 0 ≡ a = omega arith in
    let len : 0 + k ≡ k = omega arith in
    ap (λ (i : ℕ). range_with_len i k) start ∙ ap (λ (i : ℕ). range_with_len a i) (sym len)
joined a (suc n) k =
    let start : a + suc n ≡ (a + 1) + n = omega arith in
    let len : suc n + k ≡ suc (n + k) = omega arith in
    ap (λ (ps : List ℕ). a ∷ ps) (ap (λ (i : ℕ). range_with_len (a + 1) n ++ range_with_len i k) start ∙ joined (a + 1) n k) ∙ ap (λ (i : ℕ). range_with_len a i) (sym len)

-- the pages sent and those behind them are all
pub has_pages : (n all : ℕ) → n ≤ all → range_with_len 1 n ++ range_with_len (n + 1) (all - n) ≡ range_with_len 1 all
has_pages n all h =
    let start : n + 1 ≡ 1 + n = omega arith in
    let len : n + (all - n) ≡ all = omega arith in
    ap (λ (i : ℕ). range_with_len 1 n ++ range_with_len i (all - n)) start ∙ joined 1 n (all - n) ∙ ap (λ (i : ℕ). range_with_len 1 i) len
