use Rattle.fax_hours.proofs.HoursLemmas.{is_in-every_hour}
use Rattle.fax_hours.proofs.hours.Hours.any.Goals as goal

pub returns-clause-all : goal.returns-clause-all
returns-clause-all c day minute d m = is_in-every_hour _ day minute c.on_days.ensures d m
