use Rattle.std.proofs.Common.{ap}
use Rattle.std.specs.Option.{option_copied}
use Rattle.fax_hours.proofs.HoursLemmas.{read_first, read_more, read_last, IsNamedBy-hours_of}
use Rattle.fax_hours.proofs.hours.Hours.read.Goals as goal

pub loop-rest-init : goal.loop-rest-init
loop-rest-init c = read_first _ _ _ c.on_days-hours.ensures c.as_bytes.ensures.value

pub loop-rest-preserved : goal.loop-rest-preserved
loop-rest-preserved c =
    read_more _ _ _ _ _ (option_copied c.at_comma.result.1) _ _ c.loop-rest.invariant (ap (λ o. option_copied o) c.in-Some.is) c.at_comma.ensures.parts c.in_ok-item_of.ensures c.add.ensures.days c.add.ensures.size

pub returns-clause-week : goal.returns-clause-week
returns-clause-week c = read_last _ _ _ c.loop-rest.invariant (ap (λ o. option_copied o) c.in_default.is)

pub returns-clause-set : goal.returns-clause-set
returns-clause-set c = IsNamedBy-hours_of _ _ (read_last _ _ _ c.loop-rest.invariant (ap (λ o. option_copied o) c.in_default.is))
