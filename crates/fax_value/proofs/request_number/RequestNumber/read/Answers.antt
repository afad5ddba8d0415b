use Rattle.std.proofs.Common.{sym, ◌≡◌, false}
use Rattle.fax_value.specs.Number.{begins_with_zero}
use Rattle.fax_value.proofs.NumberLemmas.{request_number_range}
use Rattle.fax_value.proofs.request_number.RequestNumber.read.Goals as goal

pub invariant_of-result : goal.invariant_of-result
invariant_of-result c =
    let zero : begins_with_zero c.args.text.now ≡ false = cc in
    let range = request_number_range c.args.text.now c.in-Some.number zero (sym c.in-Some.ensures) in
    (range.from, range.below)
