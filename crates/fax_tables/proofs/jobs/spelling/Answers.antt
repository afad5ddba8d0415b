use Rattle.std.proofs.Common.{sym, subst}
use Rattle.std.specs.Str.{IsUtf8}
use Rattle.fax_tables.proofs.TextLemmas.{lines_kept}
use Rattle.fax_tables.proofs.jobs.spelling.Goals as goal

pub returns-clause-spelled : goal.returns-clause-spelled
returns-clause-spelled c =
    let utf8 = subst IsUtf8 (sym c.in_ok-bytes.ensures.printed) (lines_kept c.args.lines.now c.in_ok-bytes.ensures.lawful).utf8 in
    absurd (let is_error = c.in-Err.ensures.succeeds utf8 in cc)
