use Rattle.std.proofs.Common.{◌<◌, arith}
use Rattle.jiff.proofs.SpanFacts.{signed_arith}
use Rattle.fax_hours.proofs.zone.civil_minute.Goals as goal

pub returns-clause-civil : goal.returns-clause-civil
returns-clause-civil c = record {
  shown = c.in_ok-clock.clock;
  is = c.in_ok-clock.ensures.shown;
  year = omega (arith, signed_arith);
  month = omega (arith, signed_arith);
  day = let small : c.in_ok-clock.clock.date.day < 128 = rw c.day.ensures at c.day.type_inv in omega (arith, signed_arith);
  hour = omega (arith, signed_arith);
  minute = omega (arith, signed_arith);
}
