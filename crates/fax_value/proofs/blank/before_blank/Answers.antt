use Rattle.std.proofs.Common.{refl, arith}
use Rattle.std.specs.Prelude.{Some, None}
use Rattle.std.proofs.lemmas.Str.Pattern.{strip_suffix_char}
use Rattle.fax_value.proofs.BlankLemmas.{before_blanks-blank, before_blanks_is, before_blanks_unless}
use Rattle.fax_value.proofs.blank.before_blank.Goals as goal

pub returns-in-Some-clause-some : goal.returns-in-Some-clause-some
returns-in-Some-clause-some c =
    before_blanks-blank 32 c.args.text.now c.in-Some.front.now refl (strip_suffix_char 32 c.args.text.now (Some c.in-Some.front) c.in-Some.ensures.cases (omega arith))

pub returns-in-None-clause-some : goal.returns-in-None-clause-some
returns-in-None-clause-some c =
    let tab = c.strip_suffix-in-None in
    before_blanks_is c.args.text.now tab.result (strip_suffix_char 9 c.args.text.now tab.result tab.ensures.cases (omega arith))

pub returns-in-None-clause-none : goal.returns-in-None-clause-none
returns-in-None-clause-none c =
    let tab = c.strip_suffix-in-None in
    before_blanks_unless c.args.text.now tab.result (strip_suffix_char 32 c.args.text.now None c.in-None.ensures.cases (omega arith)) (strip_suffix_char 9 c.args.text.now tab.result tab.ensures.cases (omega arith))
