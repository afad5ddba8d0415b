use Rattle.std.proofs.Common.{ap, ◌∙◌, arith}
use Rattle.std.specs.Prelude.{Some, None}
use Rattle.std.proofs.lemmas.Str.Pattern.{strip_prefix_char}
use Rattle.fax_dest.specs.Line.{value_of, value_from}
use Rattle.fax_dest.proofs.CutLemmas.{unquoted}
use Rattle.fax_dest.proofs.line.value_of.Goals as goal

pub returns-in-None : goal.returns-in-None
unfolding value_of
returns-in-None c =
    let text = c.without_blanks-text.result.now in
    ap (λ t. Some t) c.before_blanks.ensures ∙ unquoted text (strip_prefix_char 34 text None c.in-None.ensures.cases (omega arith)) ∙ ap (λ t. value_from t) c.without_blanks-text.ensures
