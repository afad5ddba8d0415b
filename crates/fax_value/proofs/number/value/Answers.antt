use Rattle.std.proofs.Common.{arith}
use Rattle.fax_value.proofs.NumberLemmas.{step}
use Rattle.fax_value.proofs.number.value.Goals as goal

pub overflow_mul-value : goal.overflow_mul-value
overflow_mul-value c =
    let s = step c.args.digits.now c.loop-digit.digit-index c.requires.digits c.requires.short c.loop-digit-test.true in
    omega (arith, s.below)

pub overflow_add-value : goal.overflow_add-value
overflow_add-value c =
    let s = step c.args.digits.now c.loop-digit.digit-index c.requires.digits c.requires.short c.loop-digit-test.true in
    omega (arith, s.below)

pub loop-digit-preserved : goal.loop-digit-preserved
loop-digit-preserved c =
    let s = step c.args.digits.now c.loop-digit.digit-index c.requires.digits c.requires.short c.loop-digit-test.true in
    omega (arith, s.more)
