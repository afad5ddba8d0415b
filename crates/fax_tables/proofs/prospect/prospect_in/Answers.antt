use Rattle.std.proofs.Common.{◌≡◌, refl, arith}
use Rattle.fax_tables.specs.Job.{prospect}
use Rattle.fax_tables.proofs.ResultLemmas.{passes_on}
use Rattle.fax_tables.proofs.RowLemmas.{fits, has_value}
use Rattle.fax_tables.proofs.prospect.prospect_in.Goals as goal

pub returns-in_err-number_at-clause-found : goal.returns-in_err-number_at-clause-found
returns-in_err-number_at-clause-found c job is lawful formed =
    passes_on c.from_residual.result _ (λ found. found ≡ prospect job) c.from_residual.ensures.1
    (c.in_err-number_at.ensures.found job.job (has_value is (omega arith) refl) (fits job lawful).number)

pub returns-in_err-priority_at-clause-found : goal.returns-in_err-priority_at-clause-found
returns-in_err-priority_at-clause-found c job is lawful formed =
    passes_on c.from_residual-in_err-priority_at.result _ (λ found. found ≡ prospect job) c.from_residual-in_err-priority_at.ensures.1
    (c.in_err-priority_at.ensures.found job.priority (has_value is (omega arith) refl) formed.priority)

pub returns-in_err-moment_at-clause-found : goal.returns-in_err-moment_at-clause-found
returns-in_err-moment_at-clause-found c job is lawful formed =
    passes_on c.from_residual-in_err-moment_at.result _ (λ found. found ≡ prospect job) c.from_residual-in_err-moment_at.ensures.1
    (c.in_err-moment_at.ensures.found job.tts (has_value is (omega arith) refl) formed.tts)
