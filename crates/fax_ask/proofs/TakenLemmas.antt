-- What the parameter of a route takes from a path.
use Rattle.std.proofs.Common.{◌≡◌, ℕ, suc, ◌+◌, ◌-◌, ◌≤◌, List, [], ◌∷◌, ◌++◌, length, take, drop, get_or, Bool, true, false, leb, ltb, ◌&&◌, refl, sym, ap, ap₂, ◌∙◌, arith, ◌==◌, append-nil, length-append, drop_at, take_at, drop-drop}
use Rattle.std.specs.List.{list_all}
use Rattle.std.proofs.lemmas.Bool.{and_from, and_parts, cond-false, cond-true, eq-eqb, le-leb, le-ltb, lt-ltb}
use Rattle.matchit.specs.Params.{walk, wild_from, wild_stop, part_of}
use Rattle.matchit.specs.Rows.{param_token}
use Rattle.matchit.specs.Seek.{segment, has_slash}
use Rattle.fax_ask.proofs.WalkLemmas.{segment_cut}

-- no token that isn't a byte
abbrev pub are_bytes : List ℕ → Bool
are_bytes w = list_all (λ b. ltb b 256) w

-- the parameter stands behind these bytes, wherever the search begins
found_from : (w t : List ℕ) (len token at : ℕ) → are_bytes w ≡ true → at + length w ≤ len
    → wild_from (w ++ param_token ∷ t) len token at ≡ (token + length w, at + length w)
found_from [] t len token at h le =
    let a : token ≡ token + 0 = omega arith in
    let b : at ≡ at + 0 = omega arith in
    ap₂ (λ (x y : ℕ). (x, y)) a b
found_from (x ∷ w) t len token at h le =
    let p = and_parts (ltb x 256) (are_bytes w) h in
    let n : ltb at len ≡ true = lt-ltb at len (omega arith) in
    let a : token + 1 + length w ≡ token + suc (length w) = omega arith in
    let b : at + 1 + length w ≡ at + suc (length w) = omega arith in
    rw (p.0, n) (found_from w t len (token + 1) (at + 1) p.1 (omega arith) ∙ ap₂ (λ (x y : ℕ). (x, y)) a b)

-- so it does from the start
from_start : (w t rest : List ℕ) → are_bytes w ≡ true → wild_from (w ++ param_token ∷ t) (length (w ++ rest)) 0 0 ≡ (length w, length w)
from_start w t rest h =
    let a : 0 + length w ≡ length w = omega arith in
    found_from w t (length (w ++ rest)) 0 0 h (omega (arith, length-append w rest)) ∙ ap₂ (λ (x y : ℕ). (x, y)) a a

-- the part of a text between two others is that
part_is : (w text rest : List ℕ) (stop : ℕ) → stop ≡ length w + length text → part_of (w ++ (text ++ rest)) (length w) stop ≡ text
part_is w text rest stop e =
    let total : length (w ++ (text ++ rest)) ≡ length w + (length text + length rest) = omega (arith, length-append w (text ++ rest), length-append text rest) in
    let within = and_from (leb (length w) stop) (leb stop (length (w ++ (text ++ rest)))) (le-leb (length w) stop (omega arith)) (le-leb stop (length (w ++ (text ++ rest))) (omega arith)) in
    let count : stop - length w ≡ length text = omega arith in
    cond-true _ _ _ within
    ∙ ap₂ (λ (n : ℕ) (bytes : List ℕ). take n bytes) count (drop_at w (text ++ rest) (length w) refl)
    ∙ take_at text rest (length text) refl

-- behind these bytes stands the parameter
at_param : (w t : List ℕ) → get_or (w ++ param_token ∷ t) (length w) 0 ≡ param_token
at_param [] t = refl
at_param (x ∷ w) t = at_param w t

-- and behind that the rest
past_param : (w t : List ℕ) → drop (length w + 1) (w ++ param_token ∷ t) ≡ t
past_param w t =
    sym (drop-drop 1 (length w) (w ++ param_token ∷ t)) ∙ ap (drop 1) (drop_at w (param_token ∷ t) (length w) refl)

-- before a slash, the parameter takes the text up to it
stop_middle : (w s text more : List ℕ) → has_slash text ≡ false
    → wild_stop (w ++ param_token ∷ 47 ∷ s) (length w) (w ++ (text ++ 47 ∷ more)) (length w) ≡ length w + length text
stop_middle w s text more f =
    let total : length (w ++ param_token ∷ 47 ∷ s) ≡ length w + suc (suc (length s)) = length-append w (param_token ∷ 47 ∷ s) in
    let here = lt-ltb (length w) (length (w ++ param_token ∷ 47 ∷ s)) (omega arith) in
    let next = lt-ltb (length w + 1) (length (w ++ param_token ∷ 47 ∷ s)) (omega arith) in
    let token = eq-eqb (get_or (w ++ param_token ∷ 47 ∷ s) (length w) 0) param_token (at_param w (47 ∷ s)) in
    let seg : length (segment (drop (length w) (w ++ (text ++ 47 ∷ more)))) ≡ length text + 1 =
    ap (λ (bytes : List ℕ). length (segment bytes)) (drop_at w (text ++ 47 ∷ more) (length w) refl)
    ∙ ap length (segment_cut text more f) ∙ length-append text (47 ∷ []) in
    let end : length (segment (drop (length w + 1) (w ++ param_token ∷ 47 ∷ s))) ≡ 1 = ap (λ (bytes : List ℕ). length (segment bytes)) (past_param w (47 ∷ s)) in
    let sum : length w + length (segment (drop (length w) (w ++ (text ++ 47 ∷ more)))) - length (segment (drop (length w + 1) (w ++ param_token ∷ 47 ∷ s))) ≡ length w + length text = omega arith in
    rw (here, token, next) sum

-- a parameter with a slash behind it
pub taken_middle : (w s text more shown : List ℕ) (name : ℕ × ℕ) → are_bytes w ≡ true → has_slash text ≡ false
    → walk (w ++ param_token ∷ 47 ∷ s) shown (w ++ (text ++ 47 ∷ more)) (name ∷ []) 0 0 ≡ (part_of shown name.0 name.1, text) ∷ []
taken_middle w s text more shown name h f =
    let stop = stop_middle w s text more f in
    ap (λ (found : ℕ × ℕ). (part_of shown name.0 name.1, part_of (w ++ (text ++ 47 ∷ more)) found.1 (wild_stop (w ++ param_token ∷ 47 ∷ s) found.0 (w ++ (text ++ 47 ∷ more)) found.1)) ∷ [])
    (from_start w (47 ∷ s) (text ++ 47 ∷ more) h)
    ∙ ap (λ (part : List ℕ). (part_of shown name.0 name.1, part) ∷ []) (part_is w text (47 ∷ more) _ stop)

none_behind : (a b : Bool) → (a && b && false) ≡ false
none_behind true true = refl
none_behind true false = refl
none_behind false b = refl

-- at the end, the parameter takes the rest
stop_last : (w path : List ℕ) → wild_stop (w ++ param_token ∷ []) (length w) path (length w) ≡ length path
stop_last w path =
    let total : length (w ++ param_token ∷ []) ≡ length w + 1 = length-append w (param_token ∷ []) in
    let end = le-ltb (length w + 1) (length (w ++ param_token ∷ [])) (omega arith) in
    cond-false _ _ _ (ap (λ (behind : Bool). ltb (length w) (length (w ++ param_token ∷ [])) && (get_or (w ++ param_token ∷ []) (length w) 0 == param_token) && behind) end ∙ none_behind (ltb (length w) (length (w ++ param_token ∷ []))) (get_or (w ++ param_token ∷ []) (length w) 0 == param_token))

-- the part from these bytes to the end is the text behind them
part_last : (w text : List ℕ) (stop : ℕ) → stop ≡ length w + length text → part_of (w ++ text) (length w) stop ≡ text
part_last w text stop e =
    sym (ap (λ (rest : List ℕ). part_of (w ++ rest) (length w) stop) (append-nil text)) ∙ part_is w text [] stop e

-- a parameter at the end
pub taken_last : (w text shown : List ℕ) (name : ℕ × ℕ) → are_bytes w ≡ true
    → walk (w ++ param_token ∷ []) shown (w ++ text) (name ∷ []) 0 0 ≡ (part_of shown name.0 name.1, text) ∷ []
taken_last w text shown name h =
    ap (λ (found : ℕ × ℕ). (part_of shown name.0 name.1, part_of (w ++ text) found.1 (wild_stop (w ++ param_token ∷ []) found.0 (w ++ text) found.1)) ∷ [])
    (from_start w [] text h)
    ∙ ap (λ (part : List ℕ). (part_of shown name.0 name.1, part) ∷ []) (part_last w text _ (stop_last w (w ++ text) ∙ length-append w text))
