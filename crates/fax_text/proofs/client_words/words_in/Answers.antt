use Rattle.std.proofs.Common.{◌∙◌, sym, ap, map, codes, [], unwrap_or}
use Rattle.std.proofs.lemmas.Result.{IfOk-weaker}
use Rattle.clap.specs.Matches.{found_of}
use Rattle.clap.proofs.WalkLemmas.{raw_values-rows}
use Rattle.fax_text.proofs.client_words.words_in.Goals as goal

pub returns-in-Some : goal.returns-in-Some
returns-in-Some c =
    let found = c.in-Some.ensures ∙ raw_values-rows (found_of c.args.options.now) (codes "word") in
    IfOk-weaker c.from_slice.result _ _ (λ words h. ap (λ o. unwrap_or o []) (sym found) ∙ ap (map (λ word. word.now)) (sym h)) c.from_slice.ensures.items

pub returns-in-None : goal.returns-in-None
returns-in-None c =
    let none = c.in-None.ensures ∙ raw_values-rows (found_of c.args.options.now) (codes "word") in
    ap (λ o. unwrap_or o []) (sym none) ∙ ap (map (λ word. word.now)) (sym c.new.ensures.items)
