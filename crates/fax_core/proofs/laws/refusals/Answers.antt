use Rattle.fax_core.proofs.ReasonLemmas.{refusals_have_reasons}
use Rattle.fax_core.proofs.RefusalLemmas.{step_refused, step_held}
use Rattle.fax_core.proofs.laws.refusals.Goals as goal

pub returns-clause-number : goal.returns-clause-number
returns-clause-number c = λ s m t ask e k h x. (step_refused s m t ask e k h x).met

pub returns-clause-reason : goal.returns-clause-reason
returns-clause-reason c = refusals_have_reasons

pub returns-clause-keys : goal.returns-clause-keys
returns-clause-keys c = λ s m t ask e k h x. (step_refused s m t ask e k h x).keys

pub returns-clause-held : goal.returns-clause-held
returns-clause-held c = step_held
