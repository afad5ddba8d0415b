use Rattle.std.proofs.Common.{◌∙◌, ap, subst, map, rules}
use Rattle.std.proofs.lemmas.Iterator.{YieldsList-from_slice}
use Rattle.std.proofs.lemmas.Iterator.Consumers.{map_from_collect}
use Rattle.std.proofs.lemmas.List.{take_all}
use Rattle.std.specs.List.Sorted.{IsPermutation}
use Rattle.std.proofs.lemmas.List.Sorted.{IsNonDecreasingBy-from_sort_by_key, IsPermutation-map}
use Rattle.fax_text.specs.Listing.{listing_of, time_shown}
use Rattle.fax_text.proofs.ListingLemmas.{in_order, more_rows, no_lines}
use Rattle.fax_text.proofs.OrderLemmas.{rows_are_jobs}
use Rattle.fax_text.proofs.listing.list.Goals as goal

pub loop-row-init : goal.loop-row-init
loop-row-init c = c.in_ok-text.ensures.items ∙ no_lines (time_shown c.args.zone.now)

pub loop-row-preserved : goal.loop-row-preserved
loop-row-preserved c =
    let shows = time_shown c.args.zone.now in
    more_rows shows c.deref-row-items.result.now c.loop-row.row-index c.row-item.result c.loop-row.text.items c.push_line.new.text.items c.loop-row-test.true c.row-item.is c.loop-row.invariant c.in_ok-push_line.ensures

pub returns-clause-listing : goal.returns-clause-listing
returns-clause-listing c =
    let all = map_from_collect c.collect.result c.collect.ensures.ran (YieldsList-from_slice c.args.jobs.now cc) in
    let same = rw c.in_ok-rows.was at all in
    let rows = c.deref-row-items.result.now in
    let sorted = c.sort_by_key.new.self.items in
    let whole = take_all c.loop-row.row-index rows c.loop-row-test.false ∙ c.deref-row-items.ensures.value in
    let up = IsNonDecreasingBy-from_sort_by_key (λ row. row.now.0.job) sorted c.in_ok-sort_by_key.ensures.sorted (λ a r q k. search rules) in
    let moved = IsPermutation-map (λ row. row.now) _ sorted c.sort_by_key.ensures.permutation in
    record {
      rows = map (λ row. row.now) sorted;
      all = subst (λ l. IsPermutation l (map (λ row. row.now) sorted)) same moved;
      order = in_order sorted up;
      is = c.loop-row.invariant ∙ ap (λ l. listing_of (time_shown c.args.zone.now) (map (λ row. row.now) l)) whole;
    }

pub returns-clause-ordered : goal.returns-clause-ordered
returns-clause-ordered c = λ ascend.
    let listing = returns-clause-listing c in
    listing.is ∙ ap (listing_of (time_shown c.args.zone.now)) (rows_are_jobs c.args.jobs.now listing.rows listing.all listing.order ascend)
