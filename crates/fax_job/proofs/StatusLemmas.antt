-- The status of a list is one that a job may have.
use Rattle.std.proofs.Common.{◌≡◌, Bool, true, false, cond, not, ◌&&◌, List, [], ◌∷◌, refl, sym, ap, ◌∙◌}
use Rattle.std.specs.Prelude.{Option, Some, codes, find, unwrap_or}
use Rattle.std.specs.List.{AllByRecursion}
use Rattle.std.specs.Option.{option_map}
use Rattle.std.specs.Str.{bytes_eq}
use Rattle.std.proofs.lemmas.Bool.{and_parts}
use Rattle.fax_job.specs.Pair.{Pair, IsPair, is_pair, begins_with_hash, value_of, ArePairs}
use Rattle.fax_job.specs.Tag.{is_tag}
use Rattle.fax_value.specs.Value.{is_value, is_status}

-- a pair with the tag of a status has a status
of_status : (p : Pair) → is_pair p ≡ true → bytes_eq p.tag (codes "status") ≡ true → is_status p.value ≡ true
of_status p h same =
    sym (ap (λ (b : Bool). cond b (is_status p.value) (is_value p.value)) same) ∙ (and_parts (is_tag p.tag && not (begins_with_hash p.tag)) (cond (bytes_eq p.tag (codes "status")) (is_status p.value) (is_value p.value)) h).1

-- the same of the first pair with that tag, with one more in front
status_next : (p : Pair) (rest : Option Pair) (same : Bool) → bytes_eq p.tag (codes "status") ≡ same → is_pair p ≡ true → is_status (unwrap_or (option_map (λ (q : Pair). q.value) rest) []) ≡ true → is_status (unwrap_or (option_map (λ (q : Pair). q.value) (cond same (Some p) rest)) (codes "")) ≡ true
status_next p rest true e formed h = of_status p formed e
status_next p rest false e formed h = h

-- the value of the tag among pairs is a status, or empty
status_of_pairs : (ps : List Pair) → AllByRecursion IsPair ps → is_status (unwrap_or (value_of (codes "status") ps) []) ≡ true
status_of_pairs [] each = refl
status_of_pairs (p ∷ ps) each = status_next p (find (λ q. bytes_eq q.tag (codes "status")) ps) (bytes_eq p.tag (codes "status")) refl each.0.formed (status_of_pairs ps each.1)

-- the same of a list
pub status_of_lines : (ps : List Pair) → ArePairs ps → is_status (unwrap_or (value_of (codes "status") ps) []) ≡ true
status_of_lines ps h = status_of_pairs ps h.each
