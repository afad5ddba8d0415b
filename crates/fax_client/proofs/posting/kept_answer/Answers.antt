use Rattle.std.proofs.Common.{rules}
use Rattle.fax_client.specs.Posting.{IsStored}
use Rattle.fax_client.proofs.PostingLemmas.{found_kept}
use Rattle.fax_client.proofs.SavedLemmas.{fails, looked, not_looked, told}
use Rattle.fax_client.proofs.posting.kept_answer.Goals as goal

pub returns-in_err-answer : goal.returns-in_err-answer
returns-in_err-answer g c kept e first is =
    fails _ _ c.from_residual.result c.from_residual.ensures.0 (not_looked (IsStored e) kept _ _ _ is _ _ (λ entry. c.in_err-answer.ensures entry kept))

pub returns : goal.returns
returns g c kept e first is = (
  looked (IsStored e) kept _ _ _ is _ _ (λ entry. c.in_ok-answer.ensures entry kept),
  found_kept _ c.in-Some.key.now _ kept c.in_ok-answer.field-0 (search rules) (told (IsStored e) kept _ _ _ is _ _ (λ entry. c.in_ok-answer.ensures entry kept)),
)
