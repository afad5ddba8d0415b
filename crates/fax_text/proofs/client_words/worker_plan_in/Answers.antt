use Rattle.std.proofs.Common.{◌∙◌, sym, ap, map, codes, Some}
use Rattle.clap.specs.Matches.{found_of}
use Rattle.clap.proofs.WalkLemmas.{raw_values-rows}
use Rattle.fax_text.proofs.client_words.worker_plan_in.Goals as goal

pub returns-in_default-clause-err : goal.returns-in_default-clause-err
returns-in_default-clause-err c = λ other plan has.
    let none = c.in_default.ensures ∙ raw_values-rows (found_of c.args.options.now) (codes "word") ∙ has.words in
    cc

pub returns-in_default-clause-misuse : goal.returns-in_default-clause-misuse
returns-in_default-clause-misuse c = sym (c.in_default.ensures ∙ raw_values-rows (found_of c.args.options.now) (codes "word"))

pub returns-clause-ok : goal.returns-clause-ok
returns-clause-ok c =
    let found = c.in-Some.ensures ∙ raw_values-rows (found_of c.args.options.now) (codes "word") in
    record {
      at = c.in_ok-at.ensures.ok;
      modem = sym c.text_of.ensures;
      words = sym found ∙ ap (λ words. Some (map (λ word. word.now) words)) (sym c.in_ok-from_slice.ensures.items);
    }
