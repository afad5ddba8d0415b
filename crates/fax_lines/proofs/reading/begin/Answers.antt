use Rattle.std.proofs.Common.{◌≡◌, false}
use Rattle.fax_lines.specs.Reading.{is_skipped}
use Rattle.fax_lines.proofs.StatusLemmas.{entry_is}
use Rattle.fax_lines.proofs.reading.begin.Goals as goal

pub take-requires : goal.take-requires
take-requires c =
    let begins : is_skipped c.args.line.now ≡ false = cc in
    entry_is c.args.lines.now c.args.line.now _ begins c.in-Ok.ensures
