-- The rules of numbers, looked up one number after the other.
use Rattle.std.proofs.Common.{◌≡◌, ℕ, zero, suc, ◌+◌, ◌<◌, ◌≤◌, true, false, List, [], ◌∷◌, ◌++◌, length, map, take, set, get_or, sym, ap, ◌∙◌, arith, get_or-take}
use Rattle.std.specs.List.{position_or_len}
use Rattle.std.proofs.lemmas.List.{get_or-map, length-append, length-map, length-set}
use Rattle.std.proofs.lemmas.List.Sums.{position_or_len_is}
use Rattle.regex.specs.Strings.{matcher_pattern}
use Rattle.regex.specs.declared.string.matcher.Matcher.{Matcher}
use Rattle.regex.proofs.SetLemmas.{one_more_pattern, patterns_stay}
use Rattle.fax_dest.specs.Controls.{matches}
use Rattle.fax_dest.specs.Finder.{IsFinderOf, entry_pattern}
use Rattle.fax_dest.specs.declared.controls.Controls.{Controls}
use Rattle.fax_dest.specs.declared.controls.Entry.{Entry}
use Rattle.fax_dest.specs.declared.finder.Finder.{Finder}

length-take-within : {A : Type 0} (n : ℕ) (xs : List A) → length (take n xs) ≤ length xs
length-take-within zero xs = omega arith
length-take-within (suc n) [] = omega arith
length-take-within (suc n) (x ∷ xs) = let rest = length-take-within n xs in omega arith

-- no more rules are searched for than there are
pub searches_some : (controls : Controls) (finder : Finder) → IsFinderOf controls finder → length finder.matchers.items ≤ length controls.rules.items
searches_some controls finder is =
    let n = length finder.matchers.items in
    let long : n ≡ length (take n controls.rules.items) =
    sym (length-map finder.matchers.items matcher_pattern) ∙ ap length is.searches ∙ length-map (take n controls.rules.items) entry_pattern in
    let within = length-take-within n controls.rules.items in
    omega (arith, long, within)

-- the search at a place is for the pattern of the rule at that place
pub search_at : (controls : Controls) (finder : Finder) (place : ℕ) (matcher : Matcher) (d : Entry) → IsFinderOf controls finder
    → place < length finder.matchers.items → matcher ≡ get_or finder.matchers.items place matcher
    → matcher_pattern matcher ≡ entry_pattern (get_or controls.rules.items place d)
search_at controls finder place matcher d is within read =
    let ms = finder.matchers.items in
    let n = length ms in
    let rules = controls.rules.items in
    let long : n ≡ length (take n rules) = sym (length-map ms matcher_pattern) ∙ ap length is.searches ∙ length-map (take n rules) entry_pattern in
    ap matcher_pattern read
    ∙ sym (get_or-map matcher_pattern ms place matcher (matcher_pattern matcher) within)
    ∙ ap (λ ps. get_or ps place (matcher_pattern matcher)) is.searches
    ∙ get_or-map entry_pattern (take n rules) place d (matcher_pattern matcher) (omega (arith, long, within))
    ∙ ap entry_pattern (get_or-take n rules place d within)

-- the first rule that is for a number is the one at a place, if none before is; at the end none is
pub first_at : (number : List ℕ) (rules : List Entry) (place : ℕ) → place ≤ length rules
    → ((k : ℕ) (d : Entry) → k < place → matches number (get_or rules k d) ≡ false)
    → ((d : Entry) → place < length rules → matches number (get_or rules place d) ≡ true)
    → place ≡ position_or_len (matches number) rules
first_at number [] place within none this = omega (arith, within)
first_at number (x ∷ xs) place within none this =
    sym (position_or_len_is (matches number) (x ∷ xs) place x within (λ k before. none k x before) (this x))

-- the search for the next rule's pattern is one more
pub one_more : (controls : Controls) (finder : Finder) (matchers : List Matcher) (matcher : Matcher) (place : ℕ) (entry : Entry) → IsFinderOf controls finder
    → place ≡ length finder.matchers.items → place < length controls.rules.items → entry ≡ get_or controls.rules.items place entry
    → matcher_pattern matcher ≡ entry_pattern entry → matchers ≡ finder.matchers.items ++ matcher ∷ []
    → map matcher_pattern matchers ≡ map entry_pattern (take (length matchers) controls.rules.items)
one_more controls finder matchers matcher place entry is last within read same items =
    let ms = finder.matchers.items in
    let longer : length (ms ++ matcher ∷ []) ≡ place + 1 = length-append ms (matcher ∷ []) ∙ ap (λ n. n + 1) (sym last) in
    let before = is.searches ∙ ap (λ n. map entry_pattern (take n controls.rules.items)) (sym last) in
    ap (map matcher_pattern) items ∙ one_more_pattern matcher_pattern entry_pattern ms matcher controls.rules.items place entry within read before same
    ∙ ap (λ n. map entry_pattern (take n controls.rules.items)) (sym (ap length items ∙ longer))

-- a search that was used is still for its pattern
pub used : (controls : Controls) (finder : Finder) (place : ℕ) (old new : Matcher) → IsFinderOf controls finder → place < length finder.matchers.items
    → old ≡ get_or finder.matchers.items place old → matcher_pattern new ≡ matcher_pattern old
    → map matcher_pattern (set finder.matchers.items place new) ≡ map entry_pattern (take (length (set finder.matchers.items place new)) controls.rules.items)
used controls finder place old new is within read same =
    let ms = finder.matchers.items in
    patterns_stay matcher_pattern ms place old within read new same ∙ is.searches
    ∙ ap (λ n. map entry_pattern (take n controls.rules.items)) (sym (length-set ms place new))
