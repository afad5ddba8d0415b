use Rattle.std.proofs.Common.{sym}
use Rattle.fax_job.specs.Pair.{Pair, pair}
use Rattle.fax_lines.proofs.StatusLemmas.{pair_of_entry, open_first}
use Rattle.fax_lines.proofs.reading.take.Goals as goal

pub returns-in_ok-joined-in-Some-clause-opened : goal.returns-in_ok-joined-in-Some-clause-opened
returns-in_ok-joined-in-Some-clause-opened c =
    let p : Pair = pair c.args.tag.now c.args.value.now in
    rw c.in_ok-joined-in-Some.ensures (open_first c.args.lines.now p c.in-Some.part.now c.requires (sym c.in-Some.ensures))

pub push-requires-clause-formed : goal.push-requires-clause-formed
push-requires-clause-formed c =
    let p : Pair = pair c.args.tag.now c.args.value.now in
    pair_of_entry c.args.lines.now p (sym c.in-None.ensures) c.requires
