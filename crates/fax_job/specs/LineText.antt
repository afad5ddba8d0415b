-- Lines as one text with places in it.
use Rattle.std.specs.Prelude.{ℕ, ◌≡◌, ◌≤◌, List, map, slice_range}
use Rattle.std.specs.List.{AllByRecursion}
use Rattle.std.specs.Str.{IsCharBoundary}
use Rattle.fax_job.specs.declared.line_text.Place.{Place}
use Rattle.fax_job.specs.Pair.{Pair, pair}

-- the value follows the tag
abbrev pub pair_at : List ℕ → Place → Pair
pair_at text place = pair (slice_range text place.tag place.value) (slice_range text place.value place.end)

-- the text can be cut where a place has its ends
pub record IsPlace (text : List ℕ) (place : Place) : Type 0 where
  pub tag_first : place.tag ≤ place.value
  pub end_last : place.value ≤ place.end
  pub tag : IsCharBoundary text place.tag
  pub value : IsCharBoundary text place.value
  pub end : IsCharBoundary text place.end

abbrev pub ArePlaces : List ℕ → List Place → Type 0
ArePlaces text places = AllByRecursion (IsPlace text) places

abbrev pub pairs_at : List ℕ → List Place → List Pair
pairs_at text places = map (pair_at text) places

-- what a text has at its places stays when it is this one
pub record Keeps (old new : List ℕ) : Type 0 where
  pub place : (place : Place) → IsPlace old place → IsPlace new place
  pub pair : (place : Place) → IsPlace old place → pair_at new place ≡ pair_at old place
