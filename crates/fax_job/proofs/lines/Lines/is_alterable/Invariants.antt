use Rattle.std.proofs.Common.{◌≡◌, true, take}
use Rattle.std.specs.List.{list_all}
use Rattle.fax_job.specs.Alter.{is_alterable}
use Rattle.fax_job.proofs.lines.Lines.is_alterable.Given as goal

abbrev pub invariant-loop-index : goal.invariant-loop-index
invariant-loop-index l = list_all (λ p. is_alterable p.tag) (take l.index l.self) ≡ true
