use Rattle.std.proofs.Common.{arith}
use Rattle.std.specs.Prelude.{None}
use Rattle.std.proofs.lemmas.Str.Pattern.{strip_prefix_char}
use Rattle.fax_value.proofs.BlankLemmas.{without_blanks_is}
use Rattle.fax_value.proofs.blank.after_blank.Goals as goal

pub returns-in-None-clause-none : goal.returns-in-None-clause-none
returns-in-None-clause-none c =
    let text = c.args.text.now in
    let tab = c.strip_prefix-in-None in
    without_blanks_is text tab.result _ (strip_prefix_char 32 text None c.in-None.ensures.cases (omega arith)) (strip_prefix_char 9 text tab.result tab.ensures.cases (omega arith))
