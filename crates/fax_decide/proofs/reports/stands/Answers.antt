use Rattle.fax_decide.proofs.LookingLemmas.{by_reading, goes_on}
use Rattle.fax_decide.proofs.reports.stands.Goals as goal

pub returns : goal.returns
returns g c = goes_on (by_reading c.in_ok-active_to.ensures.leaves c.in_ok-active_to.ensures.answers) (λ m k at calls.
    rw (c.fields-2.ensures.fields, c.in_ok-state_with.ensures, c.saturating_sub-calls.ensures, calls, c.fields.ensures.fields) at c.answered.ensures)
