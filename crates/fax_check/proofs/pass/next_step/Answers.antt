use Rattle.std.proofs.Common.{◌∙◌, rules, w64}
use Rattle.std.proofs.lemmas.Int.{to_z-of_z}
use Rattle.fax_check.proofs.pass.next_step.Goals as goal

pub returns-in-Some-2-clause-steps : goal.returns-in-Some-2-clause-steps
returns-in-Some-2-clause-steps g c sql given had clean = (
  c.in-Some.row.now,
  search rules,
  search rules,
  λ n has. to_z-of_z w64 c.rowid_in.result (search rules) ∙ c.rowid_in.ensures n has,
)
