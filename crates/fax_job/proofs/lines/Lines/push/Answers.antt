use Rattle.std.proofs.Common.{◌≡◌, false, ◌&&◌}
use Rattle.fax_job.specs.Pair.{pair, IsPair, has_tag}
use Rattle.fax_job.specs.Tag.{is_known}
use Rattle.fax_job.proofs.PairLemmas.{ArePairs-push}
use Rattle.fax_job.proofs.lines.Lines.push.Goals as goal

pub invariant_of-self-2 : goal.invariant_of-self-2
invariant_of-self-2 c =
    let tag = c.args.tag.now in
    let line : IsPair (pair tag c.args.value.now) = record { formed = c.requires.formed; utf8 = c.utf8.value } in
    let once : (is_known tag && has_tag tag c.self.inside.text) ≡ false = rw c.self.view_is c.requires.once in
    rw c.in_ok-push.ensures.ok (ArePairs-push c.self.inside.text (pair tag c.args.value.now) c.self.invariant line once)
