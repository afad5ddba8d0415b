use Rattle.std.proofs.Common.{◌<◌, ◌^◌, subst, sym}
use Rattle.std.specs.Option.{IfSome}
use Rattle.fax_text.proofs.TimeLemmas.{six_digits}
use Rattle.fax_text.proofs.time.count_in.Goals as goal

pub returns-then-text-le6-clause-bound : goal.returns-then-text-le6-clause-bound
returns-then-text-le6-clause-bound c =
    subst (λ r. IfSome r (λ n. n < 10 ^ 6)) (sym c.number.ensures) (six_digits c.args.text.now c.if-text-le6.true)
