-- The hundredth of a client's replies, by number.
use Rattle.std.proofs.Common.{◌≡◌, ◌<◌, ◌≤◌, ◌&&◌, ℕ, pos, List, [], ◌∷◌, ◌++◌, map, filter, take, drop, length, Bool, true, false, Option, Some, None, MatchOption, Ordering, Less, Equal, zero, suc, inl, inr, refl, sym, ap, ap₂, subst, ◌∙◌, arith, codes, bytes_eq, nat_le, is_eq, is_lt, IsPermutation, IsSorted}
use Rattle.std.specs.Cmp.{IsTotalOrder}
use Rattle.std.specs.List.{AllByRecursion}
use Rattle.std.specs.Ordering.{nat_cmp, on, ordering_then}
use Rattle.std.proofs.lemmas.Bool.{and_parts, false_from_ne_true}
use Rattle.std.proofs.lemmas.Bool.Decides.{nat_tests}
use Rattle.std.proofs.lemmas.Cmp.{nat_cmp_total, on_total, tied_itself}
use Rattle.std.proofs.lemmas.List.{length-append, length-drop, length-map, length-take}
use Rattle.std.proofs.lemmas.List.Elements.{filter_passes, recursion_from_All}
use Rattle.std.proofs.lemmas.List.Sorted.{IsPermutation-map, IsPermutation-sym, IsPermutation-trans, length_permutation}
use Rattle.std.proofs.lemmas.Slice.Eq.{bytes_eq-Decides}
use Rattle.sqlite.specs.Collation.TheVariants.{Binary}
use Rattle.sqlite.specs.Listing.{understood}
use Rattle.sqlite.specs.Order.{Row, column}
use Rattle.sqlite.specs.Program.{overlay}
use Rattle.sqlite.specs.Query.{IsAnswer, Output, Query, output, output_cmp}
use Rattle.sqlite.specs.State.{State, Shown}
use Rattle.sqlite.specs.Tree.{rowid}
use Rattle.sqlite.specs.declared.types.Value.TheVariants.{Null, Int, Text}
use Rattle.sqlite.proofs.Callers.{reads_as}
use Rattle.sqlite_keyed.specs.Lists.{sort_by}
use Rattle.sqlite_keyed.proofs.SortLemmas.{sorted_unique, IsPermutation-sort_by}
use Rattle.sqlite_rules.specs.Lists.{Has}
use Rattle.sqlite_sql.specs.Term.{Term, col, lit}
use Rattle.sqlite_tied.specs.Compute.{everything}
use Rattle.sqlite_trees.specs.Tree.{IsAscending}
use Rattle.sqlite_trees.proofs.ListLemmas.{all-permutation, all_both, all_weaker, ascending-filter, ascending_weaker, filter-filter, filter_none, IsPermutation-filter, map-map, pull_back}
use Rattle.sqlite_value.specs.Keys.{ascending}
use Rattle.sqlite_value.specs.Order.{value_cmp}
use Rattle.sqlite_value.specs.declared.keys.Key.{Key}
use Rattle.sqlite_value.proofs.OrderLemmas.{value_cmp-Int, value_cmp_total}
use Rattle.fax_core.specs.Ledger.{Ledger, is_through}
use Rattle.fax_core.specs.Queue.{Queue, Entry}
use Rattle.fax_schema.specs.declared.statements.TheConstants.{SELECT_HUNDREDTH}
use Rattle.fax_schema.specs.Schema.{our_tables, replies_tree}
use Rattle.fax_schema.proofs.ClientTexts.{given_up_tests}
use Rattle.fax_layout.proofs.ColumnLemmas.{kept_columns}
use Rattle.fax_layout.proofs.SelectLemmas.{each_passing, passes, rows_by, show}
use Rattle.fax_schema.proofs.StatementForms.{SelectsAll}
use Rattle.fax_tables.specs.Row.{entry_columns, number}
use Rattle.fax_tables.specs.Tables.{TablesMean}
use Rattle.fax_store.specs.Floors.{through}
use Rattle.fax_store.specs.Store.{FindsRow}
use Rattle.fax_store.proofs.FloorLemmas.{above, given_params, is_given}
use Rattle.fax_store.proofs.FoundLemmas.{with_id}
use Rattle.fax_store.proofs.JobsLemmas.{in_order_of, less_number}
use Rattle.fax_store.proofs.KeptLemmas.{one_of_key}
use Rattle.fax_store.proofs.RisingLemmas.{Comes, HasNoTies, rises_sorted}

-- ---- the text

abbrev by_that : List (Term × Key)
by_that = (col 1 2, ascending Binary) ∷ []

abbrev shows_it : List Term
shows_it = col 1 2 ∷ []

-- the numbers in order, of which ninety-nine are passed over and one is shown
abbrev query : Query
query = record (rows_by replies_tree given_up_tests shows_it by_that) { limit = lit (Int (pos 1)); offset = lit (Int (pos 99)) }

selects : SelectsAll SELECT_HUNDREDTH.now query (codes "number" ∷ [])
unfolding understood everything
selects = record { command = refl; plain = (refl, refl); unlisted = refl }

-- ---- lists

module _ {X : Type 0} where
  -- what holds of each element that a list has holds by recursion
  each_has : (P : X → Type 0) (xs : List X) → ((x : X) → Has xs x → P x) → AllByRecursion P xs
  each_has P [] h = tt
  each_has P (x ∷ xs) h = (h x (inl refl), each_has P xs (λ y has. h y (inr has)))

  -- in a list that ascends, of whose elements this holds
  ascends_with : (P : X → Type 0) (R : X → X → Type 0) (xs : List X) → AllByRecursion P xs → IsAscending R xs → IsAscending (λ a b. P a × P b × R a b) xs
  ascends_with P R [] all up = tt
  ascends_with P R (x ∷ xs) all up = (all_both P (R x) (λ b. P x × P b × R x b) (λ b p r. (all.0, p, r)) xs all.1 up.0, ascends_with P R xs all.1 up.1)

  -- what holds of each in a list holds of one amid it
  amid : (P : X → Type 0) (ys : List X) (x : X) (zs : List X) → AllByRecursion P (ys ++ x ∷ zs) → P x
  amid P [] x zs all = all.0
  amid P (y ∷ ys) x zs all = amid P ys x zs all.1

  -- the element at a place
  at_place : {Y : Type 0} (f : X → Y) (n : ℕ) (xs : List X) (y : Y) → Has (take 1 (drop n (map f xs))) y
      → (before : List X) × (x : X) × (rest : List X) × (xs ≡ before ++ x ∷ rest) × (length before ≡ n) × (y ≡ f x)
  at_place f zero [] y has = absurd has
  at_place f zero (x ∷ xs) y has = ([], x, xs, refl, refl, elim has [ inl is ↦ is | inr none ↦ absurd none ])
  at_place f (suc n) [] y has = absurd has
  at_place f (suc n) (x ∷ xs) y has =
      let it = at_place f n xs y has in
      (x ∷ it.0, it.1, it.2, ap (λ l. x ∷ l) it.3, ap suc it.4, it.5)

  -- where there is none at this place there are no more than that
  none_at : (xs : List X) → take 1 (drop 99 xs) ≡ [] → length xs < 100
  none_at xs none = omega (arith, length-take 1 (drop 99 xs), length-drop 99 xs, ap length none)

-- ---- entries by number

abbrev by_number : Entry → Entry → Ordering
by_number = on (λ (e : Entry). e.number) nat_cmp

by_total : IsTotalOrder by_number
by_total = on_total (λ (e : Entry). e.number) nat_cmp_total

abbrev Below : Entry → Entry → Type 0
Below a b = a.number < b.number

abbrev IsOf : List ℕ → Entry → Type 0
IsOf client e = bytes_eq e.client client ≡ true

tied : (n m : ℕ) → is_eq (nat_cmp n m) ≡ true → n ≡ m
tied n m h = grind (arith, nat_tests, h)

less : (n m : ℕ) → nat_cmp n m ≡ Less → n < m
less n m h = grind (arith, nat_tests, h)

-- a number up to another is through it
upto : (b : Bool) (n m : ℕ) → b ≡ true → n ≤ m → (b && nat_le n m) ≡ true
upto b n m on under = rw on (grind (arith, nat_tests, under))

-- among a client's entries that rise, those through the number of one are those up to it
up_to_one : (client : List ℕ) (before : List Entry) (e : Entry) (rest : List Entry) → IsAscending Below (before ++ e ∷ rest) → AllByRecursion (IsOf client) (before ++ e ∷ rest)
    → filter (is_through client e.number) (before ++ e ∷ rest) ≡ before ++ e ∷ []
up_to_one client [] e rest up of =
    let here : is_through client e.number e ≡ true = upto _ e.number e.number of.0 (omega arith) in
    let gone : filter (is_through client e.number) rest ≡ [] =
    filter_none (is_through client e.number) rest (all_weaker (Below e) (λ b. is_through client e.number b ≡ false) (λ b over. above (bytes_eq b.client client) b.number e.number over) rest up.0) in
    rw (here, gone) refl
up_to_one client (a ∷ before) e rest up of =
    let low : a.number < e.number = amid (Below a) before e rest up.0 in
    let here : is_through client e.number a ≡ true = upto _ a.number e.number of.0 (omega (arith, low)) in
    rw here (ap (λ l. a ∷ l) (up_to_one client before e rest up.1 of.1))

-- ---- rows and their entries, one by one

-- of one client they are of different numbers
abbrev Apart : Entry → Entry → Type 0
Apart a b = a.client ≡ b.client → a.number ≡ b.number → ⊥

-- so are rows
abbrev RowsApart : Row → Row → Type 0
RowsApart r s = (client : List ℕ) (n : ℕ) → column r 1 ≡ Text client → column s 1 ≡ Text client → column r 2 ≡ number n → column s 2 ≡ number n → ⊥

apart : (r s : Row) (a b : Entry) → drop 1 r ≡ entry_columns a → drop 1 s ≡ entry_columns b → RowsApart r s → Apart a b
apart r s a b of_r of_s off clients numbers =
    let is_r = with_id r _ _ of_r in
    let is_s = with_id s _ _ of_s in
    off a.client a.number (ap (λ r. column r 1) is_r) (ap (λ r. column r 1) is_s ∙ ap Text (sym clients)) (ap (λ r. column r 2) is_r) (ap (λ r. column r 2) is_s ∙ ap number (sym numbers))

all_apart : (r : Row) (a : Entry) → drop 1 r ≡ entry_columns a → (rows : List Row) (es : List Entry) → map (drop 1) rows ≡ map entry_columns es → AllByRecursion (RowsApart r) rows → AllByRecursion (Apart a) es
all_apart r a of_r [] [] same all = tt
all_apart r a of_r [] (e ∷ es) same all = absurd cc
all_apart r a of_r (s ∷ rows) [] same all = absurd cc
all_apart r a of_r (s ∷ rows) (e ∷ es) same all =
    let first : drop 1 s ≡ entry_columns e = cc in
    let rest : map (drop 1) rows ≡ map entry_columns es = cc in
    (apart r s a e of_r first all.0, all_apart r a of_r rows es rest all.1)

pairs_apart : (rows : List Row) (es : List Entry) → map (drop 1) rows ≡ map entry_columns es → IsAscending RowsApart rows → IsAscending Apart es
pairs_apart [] [] same up = tt
pairs_apart [] (e ∷ es) same up = absurd cc
pairs_apart (r ∷ rows) [] same up = absurd cc
pairs_apart (r ∷ rows) (e ∷ es) same up =
    let first : drop 1 r ≡ entry_columns e = cc in
    let rest : map (drop 1) rows ≡ map entry_columns es = cc in
    (all_apart r e first rows es rest up.0, pairs_apart rows es rest up.1)

-- what is shown of an entry's row
abbrev number_shown : Entry → Row
number_shown e = number e.number ∷ []

module _ (params : Row) where
  abbrev shown_of : Row → Row
  shown_of = show replies_tree given_up_tests shows_it params

  numbers_shown : (rows : List Row) (es : List Entry) → map (drop 1) rows ≡ map entry_columns es → map shown_of rows ≡ map number_shown es
  numbers_shown [] [] same = refl
  numbers_shown [] (e ∷ es) same = absurd cc
  numbers_shown (r ∷ rows) [] same = absurd cc
  numbers_shown (r ∷ rows) (e ∷ es) same =
      let first : drop 1 r ≡ entry_columns e = cc in
      let rest : map (drop 1) rows ≡ map entry_columns es = cc in
      ap₂ ◌∷◌ (ap shown_of (with_id r _ _ first)) (numbers_shown rows es rest)

module _ (client : List ℕ) (floor : ℕ) (old new : State) (m : Queue) (k : Ledger) (means : TablesMean old.now m k) where
  abbrev table : List Row
  table = old.now.trees replies_tree

  abbrev params : Row
  params = given_params client floor

  abbrev is_asked : Row → Bool
  is_asked = passes replies_tree given_up_tests shows_it params

  -- the client's, with numbers through the floor
  abbrev given : List Entry
  given = filter (is_through client floor) k.replies

  -- the rows that pass are theirs
  rows_given : map (drop 1) (filter is_asked table) ≡ map entry_columns given
  rows_given = kept_columns entry_columns is_asked (is_through client floor) (is_given client floor) table k.replies means.replies

  -- no two rows have one number of one client
  rows_apart : IsAscending RowsApart table
  rows_apart =
      ascending_weaker (λ r s. Has table r × Has table s × (value_cmp (rowid r) (rowid s) ≡ Less)) RowsApart
      (λ r s both client n client_r client_s number_r number_s.
      let same : s ≡ r = one_of_key old.now means.schema means.sound means.ordered.replies client n r s both.0 both.1 client_r client_s number_r number_s in
      let low : value_cmp (rowid r) (rowid r) ≡ Less = subst (λ t. value_cmp (rowid r) (rowid t) ≡ Less) same both.2 in
      absurd (let e = sym low ∙ tied_itself value_cmp_total (rowid r) in cc))
      table (ascends_with (Has table) (λ r s. value_cmp (rowid r) (rowid s) ≡ Less) table (each_has (Has table) table (λ r has. has)) means.ordered.replies.rise)

  -- they are the client's
  all_of_it : AllByRecursion (IsOf client) given
  all_of_it =
      all_weaker (λ e. is_through client floor e ≡ true) (IsOf client) (λ e on. (and_parts (bytes_eq e.client client) (nat_le e.number floor) on).0) given
      (recursion_from_All _ given (filter_passes (is_through client floor) k.replies))

  -- so none of them tie
  no_ties : HasNoTies by_number by_total given
  no_ties =
      ascending_weaker (λ a b. IsOf client a × IsOf client b × Apart a b) (λ a b. is_eq (by_number a b) ≡ false)
      (λ a b both. false_from_ne_true _ (λ on. both.2 ((bytes_eq-Decides a.client client).0 both.0 ∙ sym ((bytes_eq-Decides b.client client).0 both.1)) (tied a.number b.number on)))
      given (ascends_with (IsOf client) Apart given all_of_it (ascending-filter Apart (is_through client floor) k.replies (pairs_apart table k.replies means.replies rows_apart)))

  -- in order they rise
  abbrev in_place : List Entry
  in_place = sort_by by_number given

  rise : IsAscending Below in_place
  rise = ascending_weaker (Comes by_number by_total) Below (λ a b. less a.number b.number) in_place (rises_sorted by_number by_total given no_ties)

  are_given : IsPermutation given in_place
  are_given = IsPermutation-sym in_place given (IsPermutation-sort_by by_number by_total given)

  -- the text shows the hundredth of them, where there is one
  shows_hundredth : (rows : List Row) → Shown SELECT_HUNDREDTH.now params old new rows → rows ≡ take 1 (drop 99 (map number_shown in_place))
  shows_hundredth rows h =
      let read = reads_as SELECT_HUNDREDTH.now params old new our_tables means.schema _ selects.command selects.plain selects.unlisted rows h in
      let a : IsAnswer query (overlay old.now.trees []) params rows = read.answer Null in
      let out = λ (r : Row). output query (params ∷ r ∷ []) in
      let staged = a.grouped ∙ each_passing is_asked (λ (r : Row). params ∷ r ∷ []) table in
      let kept : a.kept ≡ map out (filter is_asked table) = a.distinct ∙ ap (map (output query)) staged ∙ map-map _ _ _ in
      let back = pull_back out a.kept a.ordered a.same (filter is_asked table) kept in
      let to = back.0 in
      let theirs = pull_back entry_columns (map (drop 1) (filter is_asked table)) (map (drop 1) to) (IsPermutation-map (drop 1) (filter is_asked table) to back.1) given rows_given in
      let es = theirs.0 in
      let numbers : map (shown_of params) to ≡ map number_shown es = numbers_shown params to es theirs.2 in
      let pair : Row → Output = λ v. (v, v) in
      let outs : a.ordered ≡ map (λ e. pair (number_shown e)) es = back.2 ∙ sym (map-map pair (shown_of params) to) ∙ ap (map pair) numbers ∙ map-map pair number_shown es in
      let sorted = in_order_of (output_cmp query) (λ e. pair (number_shown e)) (λ a b. is_lt (by_number a b))
      (λ a b. ap is_lt (ap (λ o. ordering_then o Equal) (value_cmp-Int (pos a.number) (pos b.number))) ∙ less_number a.number b.number) es
      (subst (IsSorted (output_cmp query)) outs a.sorted) in
      let is : es ≡ in_place = sorted_unique by_number by_total in_place es (rises_sorted by_number by_total given no_ties)
      (IsPermutation-trans in_place given es (IsPermutation-sym given in_place are_given) theirs.1) sorted in
      a.shown ∙ ap (λ l. take 1 (drop 99 l)) (ap (map (λ (o : Output). o.1)) outs ∙ map-map _ _ es ∙ ap (map number_shown) is)

  -- a hundred have numbers through that of the hundredth
  hundred_through : (before : List Entry) (e : Entry) (rest : List Entry) → in_place ≡ before ++ e ∷ rest → length before ≡ 99 → (e.number ≤ floor) × (through client e.number k ≡ 100)
  hundred_through before e rest is ninety_nine =
      let on = all-permutation (λ e. is_through client floor e ≡ true) given in_place are_given (recursion_from_All _ given (filter_passes (is_through client floor) k.replies)) in
      let under : e.number ≤ floor =
      (let h = (and_parts (bytes_eq e.client client) (nat_le e.number floor) (amid (λ e. is_through client floor e ≡ true) before e rest (subst (AllByRecursion (λ e. is_through client floor e ≡ true)) is on))).1 in grind (arith, nat_tests, h)) in
      let of = subst (AllByRecursion (IsOf client)) is (all-permutation (IsOf client) given in_place are_given all_of_it) in
      let lower : (x : Entry) → is_through client e.number x ≡ true → is_through client floor x ≡ true =
      λ x h. let both = and_parts (bytes_eq x.client client) (nat_le x.number e.number) h in
      upto _ x.number floor both.0 (let low : nat_le x.number e.number ≡ true = both.1 in grind (arith, nat_tests, low, under)) in
      let count : through client e.number k ≡ length (filter (is_through client e.number) in_place) =
      ap length (sym (filter-filter (is_through client e.number) (is_through client floor) lower k.replies))
      ∙ sym (length_permutation _ _ (IsPermutation-filter (is_through client e.number) given in_place are_given)) in
      let first : filter (is_through client e.number) in_place ≡ before ++ e ∷ [] = ap (filter (is_through client e.number)) is ∙ up_to_one client before e rest (subst (IsAscending Below) is rise) of in
      (under, count ∙ ap length first ∙ omega (arith, length-append before (e ∷ []), ninety_nine))

  -- what the text finds is the number of the hundredth, and it finds none where there are fewer
  pub hundredth_found : (found : Option Row) → FindsRow SELECT_HUNDREDTH.now params old new found
      → MatchOption found (through client floor k < 100) (λ row. (n : ℕ) × (row ≡ number n ∷ []) × (n ≤ floor) × (through client n k ≡ 100))
  hundredth_found None h =
      let none : take 1 (drop 99 (map number_shown in_place)) ≡ [] = sym (shows_hundredth h.0 h.1) ∙ h.2 in
      omega (arith, none_at (map number_shown in_place) none, length-map in_place number_shown, length_permutation given in_place are_given)
  hundredth_found (Some row) h =
      let it = at_place number_shown 99 in_place row (subst (λ rows. Has rows row) (shows_hundredth h.0 h.1) h.2) in
      let counts = hundred_through it.0 it.1 it.2 it.3 it.4 in
      (it.1.number, it.5, counts.0, counts.1)
