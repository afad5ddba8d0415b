use Rattle.std.proofs.Common.{◌≡◌, true, false, sym}
use Rattle.std.specs.Str.{bytes_eq}
use Rattle.fax_job.specs.Pair.{Pair}
use Rattle.fax_job.proofs.ListLemmas.{find_next, find_here}
use Rattle.fax_job.proofs.lines.Lines.find.Goals as goal

pub returns-then-eq : goal.returns-then-eq
returns-then-eq c =
    let same : bytes_eq c.line-line.result.tag c.args.tag.now ≡ true = cc in
    sym (find_here (λ (p : Pair). bytes_eq p.tag c.args.tag.now) c.args.self.now c.loop-index.index c.line-line.result c.line-line.ensures c.loop-index.invariant same)

pub loop-index-preserved : goal.loop-index-preserved
loop-index-preserved c =
    let other : bytes_eq c.line-line.result.tag c.args.tag.now ≡ false = cc in
    find_next (λ (p : Pair). bytes_eq p.tag c.args.tag.now) c.args.self.now c.loop-index.index c.line-line.result c.line-line.ensures c.loop-index.invariant other
