use Rattle.std.proofs.Common.{arith}
use Rattle.std.proofs.lemmas.Str.Pattern.{strip_suffix_char}
use Rattle.fax_lines.proofs.LineLemmas.{before_backslash_is}
use Rattle.fax_lines.proofs.reading.before_backslash.Goals as goal

pub returns : goal.returns
returns c = before_backslash_is c.args.text.now c.strip_suffix.result (strip_suffix_char 92 c.args.text.now c.strip_suffix.result c.strip_suffix.ensures.cases (omega arith))
