use Rattle.std.proofs.Common.{◌≡◌, ◌<◌, ◌^◌, ◌++◌, [], ◌∷◌, length, map, true, if◌then◌else◌, refl, sym, ap, ap₂, ◌∙◌, arith, rules}
use Rattle.std.specs.Result.{is_ok}
use Rattle.fax_tables.specs.Row.{number}
use Rattle.fax_tables.proofs.IndexLemmas.{next_shown}
use Rattle.fax_tables.proofs.ResultLemmas.{passes_on}
use Rattle.fax_tables.proofs.RowLemmas.{first_from, has_value, one_more_row}
use Rattle.fax_tables.proofs.times.numbers_in.Goals as goal

pub returns-in_err-number-clause-found : goal.returns-in_err-number-clause-found
returns-in_err-number-clause-found c numbers is all =
    let within : c.loop-row.row-index < length c.args.rows.now = search rules in
    let it = next_shown (λ n. number n ∷ []) (λ n. n < 2 ^ 32) c.args.rows.now numbers c.loop-row.row-index c.row-item.result is all within c.row-item.is in
    passes_on c.from_residual.result _ (λ found. found.items ≡ numbers) c.from_residual.ensures.1
    (c.in_err-number.ensures.found it.0 (has_value it.2 (omega arith) refl) it.1)

pub loop-row-preserved : goal.loop-row-preserved
loop-row-preserved c =
    let i = c.loop-row.row-index in
    let within : i < length c.args.rows.now = search rules in
    let before = c.loop-row.numbers.items in
    let put : is_ok c.push.result ≡ true = search rules in
    let more = c.push.ensures.items ∙ ap (λ b. if b then before ++ c.in_ok-number.number ∷ [] else before) put in
    record {
      found = λ numbers is all.
          let it = next_shown (λ n. number n ∷ []) (λ n. n < 2 ^ 32) c.args.rows.now numbers i c.row-item.result is all within c.row-item.is in
          more ∙ ap₂ (λ front n. front ++ n ∷ []) (c.loop-row.invariant.found numbers is all)
          (c.in_ok-number.ensures.found it.0 (has_value it.2 (omega arith) refl) it.1) ∙ sym it.3;
      stands =
          one_more_row 1 (λ n. number n ∷ []) c.args.rows.now i c.row-item.result before c.in_ok-number.number within c.row-item.is c.loop-row.invariant.stands
          (first_from c.row-item.result (number c.in_ok-number.number ∷ []) 0 (c.in_ok-number.ensures.stands, tt)) ∙ sym (ap (map (λ n. number n ∷ [])) more);
    }
