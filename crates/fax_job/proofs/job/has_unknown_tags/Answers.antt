use Rattle.std.proofs.Common.{◌≡◌, true, false, not, sym, ap}
use Rattle.fax_job.specs.Pair.{Pair}
use Rattle.fax_job.specs.Tag.{is_known}
use Rattle.fax_job.proofs.ListLemmas.{all_next, all_fails}
use Rattle.fax_job.proofs.job.has_unknown_tags.Goals as goal

pub returns-then-is_known : goal.returns-then-is_known
returns-then-is_known c =
    let known : is_known c.line.result.tag ≡ true = cc in
    sym (all_fails (λ (p : Pair). not (is_known p.tag)) c.args.lines.now c.loop-index.index c.line.result c.line.ensures (ap not known))

pub loop-index-preserved : goal.loop-index-preserved
loop-index-preserved c =
    let unknown : is_known c.line.result.tag ≡ false = cc in
    all_next (λ (p : Pair). not (is_known p.tag)) c.args.lines.now c.loop-index.index c.line.result c.line.ensures c.loop-index.invariant (ap not unknown)
