-- The table of routes: that each pattern reads, and conflicts with none before it.
use Rattle.std.proofs.Common.{◌≡◌, ℕ, ◌+◌, ◌<◌, Bool, true, false, ◌&&◌, List, [], ◌∷◌, length, map, drop, get_or, is_none, Option, refl, sym, ap, ◌∙◌, subst, add-one, drop-cons, Bor, true≢false}
use Rattle.std.specs.Prelude.{Result, Ok, Err}
use Rattle.std.proofs.lemmas.Bool.{and_parts}
use Rattle.matchit.specs.Route.{Scan, parse_route}
use Rattle.matchit.specs.Router.{RouteOf, InsertsRead, nearest}
use Rattle.matchit.specs.Rows.{RowsOf}
use Rattle.matchit.specs.declared.error.InsertError.{InsertError}
use Rattle.matchit.specs.declared.error.InsertError.TheVariants.{Conflict, InvalidParam, InvalidParamSegment, InvalidCatchAll, OutOfMemory}
use Rattle.fax_ask.specs.declared.routes.Route.{Route}
use Rattle.fax_ask.specs.Routes.{table, with_route, with_routes}

-- the pattern reads, and conflicts with no row
abbrev pub is_free : Result Scan InsertError → RowsOf (RouteOf Route) → Bool
is_free (Ok scan) rows = is_none (nearest scan.pattern rows)
is_free (Err error) rows = false

abbrev pub are_free : List (List ℕ × Route) → RowsOf (RouteOf Route) → Bool
are_free [] rows = true
are_free (entry ∷ entries) rows = is_free (parse_route entry.0) rows && are_free entries (with_route (parse_route entry.0) entry.1 rows)

-- the patterns from a place on
abbrev pub left : List (Bor (List ℕ) × Route) → ℕ → List (List ℕ × Route)
left items i = map (λ entry. (entry.0.now, entry.1)) (drop i items)

-- what is left to add makes the table, and can be added
pub record IsOnTheWay (items : List (Bor (List ℕ) × Route)) (i : ℕ) (rows : RowsOf (RouteOf Route)) : Type 0 where
  pub makes : with_routes (left items i) rows ≡ table
  pub free : are_free (left items i) rows ≡ true

-- nothing was added yet
pub from_none : (items : List (Bor (List ℕ) × Route)) (rows : RowsOf (RouteOf Route)) → rows ≡ [] → with_routes (left items 0) [] ≡ table → are_free (left items 0) [] ≡ true → IsOnTheWay items 0 rows
from_none items rows e m f = subst (IsOnTheWay items 0) (sym e) (record { makes = m; free = f })

-- the patterns left are the next one and those behind
left_more : (items : List (Bor (List ℕ) × Route)) (i : ℕ) (d : Bor (List ℕ) × Route) → i < length items
    → left items i ≡ ((get_or items i d).0.now, (get_or items i d).1) ∷ left items (i + 1)
left_more items i d h = rw (add-one, drop-cons items i d)

-- a route that was added makes the rows with it
added : (route : Route) (old new : RowsOf (RouteOf Route)) (u : Unit {0}) (read : Result Scan InsertError)
    → InsertsRead read route old new (Ok u) → new ≡ with_route read route old
added route old new u (Ok scan) h = h.1
added route old new u (Err error) h = h.0

-- a route that was added
pub on_the_way : (items : List (Bor (List ℕ) × Route)) (i : ℕ) (d : Bor (List ℕ) × Route) (old new : RowsOf (RouteOf Route)) (u : Unit {0})
    → IsOnTheWay items i old
    → InsertsRead (parse_route (get_or items i d).0.now) (get_or items i d).1 old new (Ok u)
    → i < length items
    → IsOnTheWay items (i + 1) new
on_the_way items i d old new u way inserted h =
    let e = left_more items i d h in
    let n = added (get_or items i d).1 old new u (parse_route (get_or items i d).0.now) inserted in
    let f = ap (λ entries. are_free entries old) (sym e) ∙ way.free in
    record {
      makes = ap (λ rows. with_routes (left items (i + 1)) rows) n ∙ ap (λ entries. with_routes entries old) (sym e) ∙ way.makes;
      free = ap (λ rows. are_free (left items (i + 1)) rows) n ∙ (and_parts _ _ f).1;
    }

-- a free pattern that wasn't added failed for want of memory
refused : (route : Route) (old new : RowsOf (RouteOf Route)) (e : InsertError) (read : Result Scan InsertError)
    → is_free read old ≡ true → InsertsRead read route old new (Err e) → e ≡ OutOfMemory
refused route old new OutOfMemory (Ok scan) f h = refl
refused route old new (Conflict with) (Ok scan) f h =
    absurd (true≢false (sym f ∙ ap (λ (o : Option (RouteOf Route)). is_none o) h.1.1))
refused route old new InvalidParam (Ok scan) f h = absurd h.1
refused route old new InvalidParamSegment (Ok scan) f h = absurd h.1
refused route old new InvalidCatchAll (Ok scan) f h = absurd h.1
refused route old new e (Err error) f h = absurd (true≢false (sym f))

-- a route that wasn't added, for want of memory alone
pub memory_alone : (items : List (Bor (List ℕ) × Route)) (i : ℕ) (d : Bor (List ℕ) × Route) (old new : RowsOf (RouteOf Route)) (e : InsertError)
    → IsOnTheWay items i old
    → InsertsRead (parse_route (get_or items i d).0.now) (get_or items i d).1 old new (Err e)
    → i < length items
    → e ≡ OutOfMemory
memory_alone items i d old new e way inserted h =
    let f = ap (λ entries. are_free entries old) (sym (left_more items i d h)) ∙ way.free in
    refused (get_or items i d).1 old new e (parse_route (get_or items i d).0.now) (and_parts _ _ f).0 inserted
