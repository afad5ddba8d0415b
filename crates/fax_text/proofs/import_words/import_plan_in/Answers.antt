use Rattle.std.proofs.Common.{◌∙◌, sym, ap, map, codes, Some}
use Rattle.clap.specs.Matches.{found_of}
use Rattle.clap.proofs.WalkLemmas.{raw_values-rows}
use Rattle.fax_text.proofs.import_words.import_plan_in.Goals as goal

pub returns-in_default-get_strs-clause-err : goal.returns-in_default-get_strs-clause-err
returns-in_default-get_strs-clause-err c = λ other plan has.
    let none = c.in_default-get_strs.ensures ∙ raw_values-rows (found_of c.args.options.now) (codes "file") ∙ has.files in
    cc

pub returns-clause-ok : goal.returns-clause-ok
returns-clause-ok c =
    let found = c.in-Some-get_strs.ensures ∙ raw_values-rows (found_of c.args.options.now) (codes "file") in
    record {
      client = sym c.in-Some.ensures;
      request = sym c.in-Some-text_of.ensures;
      files = sym found ∙ ap (λ files. Some (map (λ file. file.now) files)) (sym c.in_ok-from_slice.ensures.items);
    }

pub returns-in_default-get_strs-clause-misuse : goal.returns-in_default-get_strs-clause-misuse
returns-in_default-get_strs-clause-misuse c = sym (c.in_default-get_strs.ensures ∙ raw_values-rows (found_of c.args.options.now) (codes "file"))
