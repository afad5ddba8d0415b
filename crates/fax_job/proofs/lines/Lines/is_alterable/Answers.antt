use Rattle.std.proofs.Common.{◌≡◌, true, false, sym}
use Rattle.fax_job.specs.Alter.{is_alterable}
use Rattle.fax_job.specs.Pair.{Pair}
use Rattle.fax_job.proofs.ListLemmas.{all_next, all_fails}
use Rattle.fax_job.proofs.lines.Lines.is_alterable.Goals as goal

pub returns-then-not-is_alterable_tag : goal.returns-then-not-is_alterable_tag
returns-then-not-is_alterable_tag c =
    let fixed : is_alterable c.line.result.tag ≡ false = cc in
    sym (all_fails (λ (p : Pair). is_alterable p.tag) c.args.self.now c.loop-index.index c.line.result c.line.ensures fixed)

pub loop-index-preserved : goal.loop-index-preserved
loop-index-preserved c =
    let alterable : is_alterable c.line.result.tag ≡ true = cc in
    all_next (λ (p : Pair). is_alterable p.tag) c.args.self.now c.loop-index.index c.line.result c.line.ensures c.loop-index.invariant alterable
