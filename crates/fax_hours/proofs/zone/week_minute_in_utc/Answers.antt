use Rattle.fax_hours.proofs.ZoneLemmas.{week_minute_at-UTC}
use Rattle.fax_hours.proofs.zone.week_minute_in_utc.Goals as goal

pub returns : goal.returns
returns c = week_minute_at-UTC
