use Rattle.std.proofs.Common.{◌≡◌, map, take}
use Rattle.fax_text.specs.Listing.{listing_of, time_shown}
use Rattle.fax_text.proofs.listing.list.Given as goal

abbrev pub invariant-loop-row : goal.invariant-loop-row
invariant-loop-row l = l.text.items ≡ listing_of (time_shown l.zone) (map (λ row. row.now) (take l.row-index l.row-items))
