-- What is said begins with its path.
use Rattle.std.proofs.Common.{◌≡◌, inl, inr, ℕ, true, false, eqb, List, [], ◌∷◌, ◌++◌, length, take, drop, refl, ap}
use Rattle.std.proofs.lemmas.Bool.{and_parts, cases_Bool}
use Rattle.std.specs.Str.{bytes_eq}

-- behind the path the rest is compared
pub same_behind : (path said rest tail : List ℕ) → bytes_eq (take (length path) said) path ≡ true → rest ≡ drop (length path) said → bytes_eq rest tail ≡ bytes_eq said (path ++ tail)
same_behind [] said rest tail same is = ap (λ x. bytes_eq x tail) is
same_behind (p ∷ path) [] rest tail same is = absurd cc
same_behind (p ∷ path) (x ∷ said) rest tail same is =
    let parts = and_parts (eqb x p) (bytes_eq (take (length path) said) path) same in
    rw parts.0 (same_behind path said rest tail parts.1 is)

-- another path says something else
pub other_path : (path said tail : List ℕ) → bytes_eq (take (length path) said) path ≡ false → false ≡ bytes_eq said (path ++ tail)
other_path [] said tail other = absurd cc
other_path (p ∷ path) [] tail other = refl
other_path (p ∷ path) (x ∷ said) tail other = elim (cases_Bool (eqb x p)) [
  | inl on ↦ rw on (other_path path said tail (rw on at other))
  | inr off ↦ rw off refl
]
