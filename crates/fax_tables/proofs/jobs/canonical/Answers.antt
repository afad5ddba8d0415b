use Rattle.std.proofs.Common.{rules, ◌≡◌, true, false}
use Rattle.std.specs.Str.{bytes_eq}
use Rattle.std.proofs.lemmas.Slice.Eq.{bytes_eq-Decides}
use Rattle.fax_tables.proofs.TextLemmas.{dial_kept}
use Rattle.fax_tables.proofs.jobs.canonical.Goals as goal

pub returns-else-eq-clause-found : goal.returns-else-eq-clause-found
returns-else-eq-clause-found c number is text =
    let kept = dial_kept number text.formed in
    let read = c.in_ok-dial.ensures.read in
    let same : c.in_ok-dial.dial ≡ c.args.text.now = cc in
    let yes : bytes_eq c.in_ok-dial.dial c.args.text.now ≡ true = (bytes_eq-Decides c.in_ok-dial.dial c.args.text.now).1 same in
    let no : bytes_eq c.in_ok-dial.dial c.args.text.now ≡ false = search rules in
    absurd cc
