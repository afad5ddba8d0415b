use Rattle.std.proofs.Common.{◌≡◌, take}
use Rattle.std.specs.Prelude.{None, find}
use Rattle.std.specs.Str.{bytes_eq}
use Rattle.fax_job.proofs.lines.Lines.find.Given as goal

abbrev pub invariant-loop-index : goal.invariant-loop-index
invariant-loop-index l = find (λ p. bytes_eq p.tag l.tag) (take l.index l.self) ≡ None
