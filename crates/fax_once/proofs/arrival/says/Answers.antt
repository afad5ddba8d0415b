use Rattle.std.proofs.Common.{◌∷◌, ◌++◌, ap, ◌∙◌}
use Rattle.std.specs.Str.{bytes_eq}
use Rattle.fax_once.proofs.SaidLemmas.{same_behind, other_path}
use Rattle.fax_once.proofs.arrival.says.Goals as goal

pub returns-in-Some : goal.returns-in-Some
returns-in-Some c =
    c.is_behind_line_feed.ensures
    ∙ same_behind c.as_bytes.result.now c.args.said.now c.in-Some.rest.now (10 ∷ c.args.arrival.now.body.now) c.in-Some.ensures.cases.0 c.in-Some.ensures.cases.1
    ∙ ap (λ path. bytes_eq c.args.said.now (path ++ 10 ∷ c.args.arrival.now.body.now)) c.as_bytes.ensures.value

pub returns-in-None : goal.returns-in-None
returns-in-None c =
    other_path c.as_bytes.result.now c.args.said.now (10 ∷ c.args.arrival.now.body.now) c.in-None.ensures.cases
    ∙ ap (λ path. bytes_eq c.args.said.now (path ++ 10 ∷ c.args.arrival.now.body.now)) c.as_bytes.ensures.value
