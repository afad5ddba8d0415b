use Rattle.std.proofs.Common.{◌≡◌, ◌+◌, ◌<◌, ◌++◌, List, [], ◌∷◌, length, take, inl, inr, refl, sym, ap, subst, ◌∙◌, rules}
use Rattle.std.proofs.lemmas.List.{take_more}
use Rattle.sqlite.specs.Order.{Row}
use Rattle.sqlite_rules.specs.Lists.{Has}
use Rattle.sqlite_rules.proofs.ListLemmas.{has_at, has_either}
use Rattle.fax_tables.specs.Row.{HasNumber}
use Rattle.fax_check.proofs.checking.counts.Goals as goal

pub returns-then-has_count : goal.returns-then-has_count
returns-then-has_count c =
    let low : c.loop-row.row-index < length c.args.rows.now = search rules in
    (λ _. (c.row-item.result, has_at c.args.rows.now c.loop-row.row-index c.row-item.result low c.row-item.is, c.has_count.ensures.0 c.if-has_count.true), λ _. refl)

pub loop-row-preserved : goal.loop-row-preserved
loop-row-preserved c row has number =
    let i = c.loop-row.row-index in
    let low : i < length c.args.rows.now = search rules in
    let seen : take (i + 1) c.args.rows.now ≡ take i c.args.rows.now ++ c.row-item.result ∷ [] = take_more c.args.rows.now i c.row-item.result low ∙ ap (λ (r : Row). take i c.args.rows.now ++ r ∷ []) (sym c.row-item.is) in
    elim (has_either (take i c.args.rows.now) (c.row-item.result ∷ []) row (subst (λ (rs : List Row). Has rs row) seen has)) [
      | inl before ↦ c.loop-row.invariant row before number
      | inr last ↦ elim last [
        | inl is ↦ absurd (let on = c.has_count.ensures.1 (subst (λ r. HasNumber r 0 c.args.count) is number) in let off = c.if-has_count.false in cc)
        | inr none ↦ none
      ]
    ]
