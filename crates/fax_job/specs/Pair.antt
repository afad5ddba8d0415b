-- Lists of tags with their values.
use Rattle.std.specs.Prelude.{ℕ, Bool, IsTrue, true, false, not, ◌&&◌, ◌==◌, List, [], ◌∷◌, Option, filter, find, codes, if◌then◌else◌}
use Rattle.std.specs.List.{AllByRecursion, list_all, list_any}
use Rattle.std.specs.Option.{option_map}
use Rattle.std.specs.Str.{IsUtf8, bytes_eq}
use Rattle.fax_job.specs.Tag.{is_tag, is_known}
use Rattle.fax_value.specs.Value.{is_value, is_status}

-- a tag and its value
pub record Pair : Type 0 where
  pub tag : List ℕ
  pub value : List ℕ

abbrev pub pair : List ℕ → List ℕ → Pair
pair tag value = record { tag = tag; value = value }

abbrev pub begins_with_hash : List ℕ → Bool
begins_with_hash [] = false
begins_with_hash (byte ∷ bytes) = byte == 35

-- no line begins with `#`, and only a status has lines of its own
abbrev pub is_pair : Pair → Bool
is_pair p = is_tag p.tag && not (begins_with_hash p.tag) && (if bytes_eq p.tag (codes "status") then is_status p.value else is_value p.value)

pub record IsPair (p : Pair) : Type 0 where
  pub formed : IsTrue (is_pair p)
  pub utf8 : IsUtf8 p.value

abbrev pub has_tag : List ℕ → List Pair → Bool
has_tag tag ps = list_any (λ p. bytes_eq p.tag tag) ps

-- the value of the first pair with the tag
abbrev pub value_of : List ℕ → List Pair → Option (List ℕ)
value_of tag ps = option_map (λ p. p.value) (find (λ p. bytes_eq p.tag tag) ps)

-- no known tag stands twice
abbrev pub is_once : List Pair → Bool
is_once [] = true
is_once (p ∷ ps) = not (is_known p.tag && has_tag p.tag ps) && is_once ps

-- no pair has a known tag
abbrev pub are_unknown : List Pair → Bool
are_unknown ps = list_all (λ p. not (is_known p.tag)) ps

-- the pairs whose tags aren't known, in their order
abbrev pub extra_of : List Pair → List Pair
extra_of ps = filter (λ p. not (is_known p.tag)) ps

-- lists that texts spell
pub record ArePairs (ps : List Pair) : Type 0 where
  pub each : AllByRecursion IsPair ps
  pub once : IsTrue (is_once ps)
