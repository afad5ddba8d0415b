use Rattle.std.proofs.Common.{ap, arith, Ok}
use Rattle.jiff.proofs.SpanFacts.{signed_arith}
use Rattle.fax_hours.proofs.ZoneLemmas.{same_pair}
use Rattle.fax_hours.proofs.zone.week_minute.Goals as goal

pub returns-clause-civil : goal.returns-clause-civil
returns-clause-civil c = record {
  shown = c.in_ok-clock.clock;
  is = rw (c.from.ensures, c.seconds.ensures.seconds) at c.in_ok-clock.ensures.shown;
  day = omega (arith, signed_arith);
  minute = omega (arith, signed_arith);
}

pub returns-clause-pair : goal.returns-clause-pair
returns-clause-pair c = ap (λ p. Ok p) (same_pair _ _ _ (returns-clause-civil c))
