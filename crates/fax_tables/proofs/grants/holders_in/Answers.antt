use Rattle.std.proofs.Common.{◌≡◌, ◌<◌, ◌++◌, [], ◌∷◌, length, map, true, if◌then◌else◌, refl, sym, ap, ap₂, ◌∙◌, arith, rules}
use Rattle.std.specs.Result.{is_ok}
use Rattle.fax_value.specs.Name.{IsName}
use Rattle.fax_tables.specs.Grant.{holder_shown}
use Rattle.fax_tables.proofs.IndexLemmas.{next_shown}
use Rattle.fax_tables.proofs.ResultLemmas.{passes_on}
use Rattle.fax_tables.proofs.RowLemmas.{first_from, has_value, one_more_row}
use Rattle.fax_tables.proofs.TextLemmas.{name_text}
use Rattle.fax_tables.proofs.grants.holders_in.Goals as goal

pub returns-in_err-name-clause-found : goal.returns-in_err-name-clause-found
returns-in_err-name-clause-found c names is all =
    let within : c.loop-row.row-index < length c.args.rows.now = search rules in
    let it = next_shown holder_shown IsName c.args.rows.now names c.loop-row.row-index c.row-item.result is all within c.row-item.is in
    passes_on c.from_residual.result _ (λ found. found.items ≡ names) c.from_residual.ensures.1
    (c.in_err-name.ensures.found it.0 (has_value it.2 (omega arith) refl) (name_text it.0 it.1))

pub loop-row-preserved : goal.loop-row-preserved
loop-row-preserved c =
    let i = c.loop-row.row-index in
    let within : i < length c.args.rows.now = search rules in
    let before = c.loop-row.names.items in
    let put : is_ok c.push.result ≡ true = search rules in
    let more = c.push.ensures.items ∙ ap (λ b. if b then before ++ c.in_ok-name.name ∷ [] else before) put in
    record {
      found = λ names is all.
          let it = next_shown holder_shown IsName c.args.rows.now names i c.row-item.result is all within c.row-item.is in
          more ∙ ap₂ (λ front n. front ++ n ∷ []) (c.loop-row.invariant.found names is all)
          (c.in_ok-name.ensures.found it.0 (has_value it.2 (omega arith) refl) (name_text it.0 it.1)) ∙ sym it.3;
      stands =
          one_more_row 1 holder_shown c.args.rows.now i c.row-item.result before c.in_ok-name.name within c.row-item.is c.loop-row.invariant.stands
          (first_from c.row-item.result (holder_shown c.in_ok-name.name) 0 (c.in_ok-name.ensures.stands, tt)) ∙ sym (ap (map holder_shown) more);
    }
