-- A path cut at its first slash.
use Rattle.std.proofs.Common.{◌≡◌, ℕ, ◌+◌, ◌/◌, ◌<◌, ◌⊎◌, inl, inr, ltb, ◌≤◌, List, [], ◌∷◌, ◌++◌, length, drop, get_or, Option, Some, None, Bool, true, false, cond, ◌==◌, refl, sym, ap, ◌∙◌, subst, arith, length-append, drop_at, drop-drop, take_at, IsUtf8}
use Rattle.std.specs.Str.{bytes_eq}
use Rattle.std.proofs.lemmas.Bool.{and_parts, eqb-true, ltb-true}
use Rattle.std.proofs.lemmas.Str.{IsCharBoundary-before_ascii, IsCharBoundary-after_ascii, IsUtf8-take, IsUtf8-drop}
use lib.Utf8.{scalar, scalars, encode, encodes, next, scalar_cases}
use Rattle.matchit.specs.Seek.{has_slash}
use Rattle.fax_lines.specs.Reading.{onto}
use Rattle.fax_ask.specs.Path.{parts}
use Rattle.fax_ask.proofs.WalkLemmas.{joined, joined_more}

-- the texts of what follows a slash, if there is one
abbrev pub parts_left : Option (List ℕ) → List (List ℕ)
parts_left None = []
parts_left (Some rest) = parts rest

-- the first text of a path, and what follows its slash, if it has one
pub record Cut (path : List ℕ) : Type 0 where
  pub text : List ℕ
  pub more : Option (List ℕ)
  pub whole : path ≡ joined text more
  pub free : has_slash text ≡ false
  pub texts : parts path ≡ text ∷ parts_left more

-- a path is cut at its first slash
pub cut : (path : List ℕ) → Cut path
cut [] = record { text = []; more = None; whole = refl; free = refl; texts = refl }
cut (b ∷ path) = by (b == 47) refl (cut path)
  where
    by : (v : Bool) → (b == 47) ≡ v → Cut path → Cut (b ∷ path)
    by true e c = record {
      text = [];
      more = Some path;
      whole = ap (λ (n : ℕ). n ∷ path) (eqb-true b 47 e);
      free = refl;
      texts = ap (λ (v : Bool). cond v ([] ∷ parts path) (onto b (parts path))) e;
    }
    by false e c = record {
      text = b ∷ c.text;
      more = c.more;
      whole = ap (λ (p : List ℕ). b ∷ p) c.whole ∙ sym (joined_more b c.text c.more);
      free = rw e c.free;
      texts = ap (λ (v : Bool). cond v ([] ∷ parts path) (onto b (parts path))) e ∙ ap (onto b) c.texts;
    }

-- ---- UTF-8

abbrev pub IsTextIfSome : Option (List ℕ) → Type 0
IsTextIfSome None = Unit {0}
IsTextIfSome (Some rest) = IsUtf8 rest

-- behind a text stands its slash
at_slash : (text rest : List ℕ) → get_or (text ++ 47 ∷ rest) (length text) 0 ≡ 47
at_slash [] rest = refl
at_slash (b ∷ text) rest = at_slash text rest

-- and behind that the rest
past_slash : (text rest : List ℕ) → drop (length text + 1) (text ++ 47 ∷ rest) ≡ rest
past_slash text rest = sym (drop-drop 1 (length text) (text ++ 47 ∷ rest)) ∙ ap (drop 1) (drop_at text (47 ∷ rest) (length text) refl)

-- where the whole is UTF-8, so are text and rest
pub both_texts : (text : List ℕ) (more : Option (List ℕ)) → IsUtf8 (joined text more) → IsUtf8 text × IsTextIfSome more
both_texts text None u = (u, tt)
both_texts text (Some rest) u =
    let bytes = text ++ 47 ∷ rest in
    let within : length text < length bytes = omega (arith, length-append text (47 ∷ rest)) in
    let low : get_or bytes (length text) 0 < 128 = omega (arith, at_slash text rest) in (
      subst IsUtf8 (take_at text (47 ∷ rest) (length text) refl) (IsUtf8-take bytes (length text) u (IsCharBoundary-before_ascii bytes (length text) within low)),
      subst IsUtf8 (past_slash text rest) (IsUtf8-drop bytes (length text + 1) u (IsCharBoundary-after_ascii bytes (length text) u within low)),
    )

-- a scalar is below 1114112
scalar_is_low : (c : ℕ) → (c < 55296) ⊎ ((57344 ≤ c) × (c < 1114112)) → c < 1114112
scalar_is_low c (inl h) = omega arith
scalar_is_low c (inr h) = h.1

-- the first byte of a character, by its length
encode_is_low : (c : ℕ) (rest : List ℕ) → c < 1114112 → get_or (encode c ++ rest) 0 0 < 256
unfolding encode
encode_is_low c rest h = by (ltb c 128) refl (ltb c 2048) refl (ltb c 65536) refl
  where
    by : (one : Bool) → ltb c 128 ≡ one → (two : Bool) → ltb c 2048 ≡ two → (three : Bool) → ltb c 65536 ≡ three
        → get_or (cond one (c ∷ []) (cond two ((192 + c / 64) ∷ next c ∷ []) (cond three ((224 + c / 4096) ∷ next (c / 64) ∷ next c ∷ []) ((240 + c / 262144) ∷ next (c / 4096) ∷ next (c / 64) ∷ next c ∷ []))) ++ rest) 0 0 < 256
    by true e two f three g = let l = ltb-true c 128 e in omega arith
    by false e true f three g = let l = ltb-true c 2048 f in omega arith
    by false e false f true g = let l = ltb-true c 65536 g in omega arith
    by false e false f false g = omega arith

-- so where a character begins a text, the first byte is below 256
begins_low : (b c : ℕ) (rest text : List ℕ) → c < 1114112 → encode c ++ rest ≡ b ∷ text → b < 256
begins_low b c rest text l h = let low = encode_is_low c rest l in let same = ap (λ (bytes : List ℕ). get_or bytes 0 0) h in omega arith

-- the same of the characters that a text encodes
low_by : (b : ℕ) (text cs : List ℕ) → scalars cs ≡ true → encodes cs ≡ b ∷ text → b < 256
low_by b text [] s e = absurd cc
low_by b text (c ∷ cs) s e = begins_low b c (encodes cs) text (scalar_is_low c (scalar_cases c (and_parts (scalar c) (scalars cs) s).0)) e

-- the first byte of UTF-8 is below 256
pub first_is_low : (b : ℕ) (text : List ℕ) → IsUtf8 (b ∷ text) → b < 256
first_is_low b text u = low_by b text u.0 u.1.0 u.1.1

-- ---- two texts

-- texts that test as equal are equal
pub same_bytes : (a b : List ℕ) → bytes_eq a b ≡ true → a ≡ b
same_bytes [] [] e = refl
same_bytes [] (y ∷ b) e = absurd cc
same_bytes (x ∷ a) [] e = absurd cc
same_bytes (x ∷ a) (y ∷ b) e =
    let p = and_parts (x == y) (bytes_eq a b) e in
    let h = eqb-true x y p.0 in
    let t = same_bytes a b p.1 in
    cc
