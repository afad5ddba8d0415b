-- What holds of the list holds of its status.
use Rattle.std.proofs.Common.{rules, ◌≡◌, true, [], sym, subst, List, ℕ}
use Rattle.std.specs.Prelude.{codes, unwrap_or}
use Rattle.fax_job.specs.Pair.{value_of, ArePairs}
use Rattle.fax_value.specs.Value.{is_status}
use Rattle.fax_job.proofs.StatusLemmas.{status_of_lines}
use Rattle.fax_job.proofs.lines.Lines.status.Goals as goal

-- src/lines.rt:185:5
pub returns-clause-formed : goal.returns-clause-formed
returns-clause-formed c =
    let text : c.unwrap_or.result.now ≡ unwrap_or (value_of (codes "status") c.args.self.now) [] = search rules in
    let lines : ArePairs c.args.self.now = subst ArePairs c.self.view_is c.self.invariant in
    subst (λ (xs : List ℕ). is_status xs ≡ true) (sym text) (status_of_lines c.args.self.now lines)
