use Rattle.std.proofs.Common.{◌≡◌, ℕ, ◌+◌, ◌<◌, List, [], ◌∷◌, ◌++◌, Bool, true, false, ◌||◌, length, map, take, get_or, refl, cond, ap, subst, sym, ◌∙◌, append-nil}
use Rattle.std.specs.Prelude.{filter}
use Rattle.std.specs.Bool.{Decides}
use Rattle.std.specs.List.{list_any}
use Rattle.std.proofs.Math.Bool.{or_assoc, or-false}
use Rattle.std.specs.Str.{str_to_ascii_lowercase, str_eq_ignore_ascii_case}
use Rattle.std.proofs.lemmas.Bool.Decides.{same_from_decides}
use Rattle.std.proofs.lemmas.List.{take_more, map-append}
use Rattle.std.proofs.lemmas.List.Elements.{filter-append}
use Rattle.std.proofs.lemmas.Slice.Eq.{bytes_eq-Decides}
use Rattle.httparse.specs.declared.spans.HeaderSpan.{HeaderSpan}
use Rattle.httparse.specs.Spans.{span_bytes, header_bytes}
use Rattle.fax_http.specs.declared.message.Occurrence.{Occurrence}
use Rattle.fax_http.specs.Field.{Shows}
use Rattle.fax_http.specs.Message.{Fields, values_of}

-- the values of a name in two lists of fields are those in the first and then in the second
values_of-append : (name : List ℕ) (fields more : Fields) → values_of name (fields ++ more) ≡ values_of name fields ++ values_of name more
values_of-append name fields more =
    ap (map (λ f. f.1)) (filter-append (λ f. str_eq_ignore_ascii_case f.0 name) fields more)
    ∙ map-append (λ f. f.1) (filter (λ f. str_eq_ignore_ascii_case f.0 name) fields) (filter (λ f. str_eq_ignore_ascii_case f.0 name) more)

-- a field's own value, where the name is its
values_of-one : (name other value : List ℕ) (is_same : Bool) → is_same ≡ str_eq_ignore_ascii_case other name
    → values_of name ((other, value) ∷ []) ≡ cond is_same (value ∷ []) []
values_of-one name other value is_same e =
    let P : Bool → Type 0 = λ b. map (λ (f : List ℕ × List ℕ). f.1) (cond b ((other, value) ∷ []) []) ≡ cond b (value ∷ []) [] in
    let both : (b : Bool) → P b = λ b. elim b as P [ true ↦ refl | false ↦ refl ] in
    rw e (both (str_eq_ignore_ascii_case other name))

-- the values among one field more
pub values_of-more : (input name : List ℕ) (fields : List HeaderSpan) (i : ℕ) (d : HeaderSpan) (is_same : Bool) (other : List ℕ)
    → i < length fields → other ≡ span_bytes input (get_or fields i d).name
    → Decides is_same (str_to_ascii_lowercase other ≡ str_to_ascii_lowercase name)
    → values_of name (map (header_bytes input) (take (i + 1) fields))
    ≡ values_of name (map (header_bytes input) (take i fields)) ++ cond is_same (span_bytes input (get_or fields i d).value ∷ []) []
values_of-more input name fields i d is_same other within e decides =
    let same : is_same ≡ str_eq_ignore_ascii_case other name = same_from_decides is_same _ decides (bytes_eq-Decides (str_to_ascii_lowercase other) (str_to_ascii_lowercase name)) in
    ap (λ fs. values_of name (map (header_bytes input) fs)) (take_more fields i d within)
    ∙ ap (values_of name) (map-append (header_bytes input) (take i fields) (get_or fields i d ∷ []))
    ∙ values_of-append name (map (header_bytes input) (take i fields)) (header_bytes input (get_or fields i d) ∷ [])
    ∙ ap (λ vs. values_of name (map (header_bytes input) (take i fields)) ++ vs)
    (values_of-one name (span_bytes input (get_or fields i d).name) (span_bytes input (get_or fields i d).value) is_same (same ∙ ap (λ n. str_eq_ignore_ascii_case n name) e))

-- the occurrence where the next field has the name
pub shows_found : (found next : Occurrence) (before after : List (List ℕ)) (b : Bool) (v w : List ℕ)
    → after ≡ before ++ cond b (v ∷ []) [] → b ≡ true → found ≡ next → w ≡ v → Shows next (before ++ w ∷ []) → Shows found after
shows_found found next before after b v w e t is same h =
    subst (λ f. Shows f after) (sym is) (subst (λ vs. Shows next vs) (ap (λ x. before ++ x ∷ []) same ∙ sym (e ∙ ap (λ x. before ++ cond x (v ∷ []) []) t)) h)

-- the occurrence where the next field has another name
pub shows_passed : (found next : Occurrence) (before after : List (List ℕ)) (b : Bool) (v : List ℕ)
    → after ≡ before ++ cond b (v ∷ []) [] → b ≡ false → found ≡ next → Shows next before → Shows found after
shows_passed found next before after b v e f is h =
    subst (λ o. Shows o after) (sym is) (subst (λ vs. Shows next vs) (sym (e ∙ ap (λ x. before ++ cond x (v ∷ []) []) f ∙ append-nil before)) h)

-- one of the values passes with one more, where one did or this one does
any_more : (p : List ℕ → Bool) (before : List (List ℕ)) (v : List ℕ) → list_any p (before ++ v ∷ []) ≡ (list_any p before || p v)
any_more p [] v = or-false (p v)
any_more p (x ∷ xs) v = ap (λ b. p x || b) (any_more p xs v) ∙ sym (or_assoc (p x) (list_any p xs) (p v))

-- one of the values passes, where the next field has the name
pub any_found : (p : List ℕ → Bool) (found now next : Bool) (before after : List (List ℕ)) (b : Bool) (v w : List ℕ)
    → after ≡ before ++ cond b (v ∷ []) [] → b ≡ true → found ≡ list_any p before → w ≡ v → next ≡ p w → now ≡ (found || next) → now ≡ list_any p after
any_found p found now next before after b v w e t is same passes or =
    or ∙ ap (λ x. x || next) is ∙ ap (λ x. list_any p before || x) (passes ∙ ap p same) ∙ sym (any_more p before v)
    ∙ sym (ap (list_any p) (e ∙ ap (λ x. before ++ cond x (v ∷ []) []) t))

-- and where it has another
pub any_passed : (p : List ℕ → Bool) (found now : Bool) (before after : List (List ℕ)) (b : Bool) (v : List ℕ)
    → after ≡ before ++ cond b (v ∷ []) [] → b ≡ false → found ≡ list_any p before → now ≡ found → now ≡ list_any p after
any_passed p found now before after b v e f is same =
    same ∙ is ∙ sym (ap (list_any p) (e ∙ ap (λ x. before ++ cond x (v ∷ []) []) f ∙ append-nil before))
