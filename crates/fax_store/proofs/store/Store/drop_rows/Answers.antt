use Rattle.std.proofs.Common.{◌≡◌, ◌+◌, ◌<◌, ◌≤◌, ◌++◌, List, [], ◌∷◌, Ok, length, take, sym, ap, refl, subst, ◌∙◌, rules}
use Rattle.std.proofs.lemmas.List.{take_all, take_more}
use Rattle.sqlite.specs.Held.{state}
use Rattle.sqlite.specs.Order.{Row}
use Rattle.fax_schema.specs.Schema.{grants_tree}
use Rattle.fax_store.specs.Adopt.{AreDropped, HasNone, TurnsOrUnavailable}
use Rattle.fax_store.proofs.StrayLemmas.{dropped_leaves, dropped_more, none_dropped}
use Rattle.fax_store.proofs.TurnLemmas.{only_same, or_refused_then, turns_nothing, turns_then}
use Rattle.fax_store.proofs.store.Store.drop_rows.Goals as goal

pub loop-row-init : goal.loop-row-init
loop-row-init g c = record { turns = turns_nothing (λ was. none_dropped _ (only_same grants_tree _ _ was.schema_is was.sound refl)) }

pub returns-in_err-drop_row : goal.returns-in_err-drop_row
returns-in_err-drop_row g c = or_refused_then c.from_residual.result c.from_residual.ensures.1 (dropped_leaves _) c.loop-row.invariant.turns c.in_err-drop_row.ensures

pub loop-row-preserved : goal.loop-row-preserved
loop-row-preserved g c =
    let i = c.loop-row.row-index in
    let low : i < length c.args.rows.now = search rules in
    let seen : take (i + 1) c.args.rows.now ≡ take i c.args.rows.now ++ c.row-item.result ∷ [] = take_more c.args.rows.now i c.row-item.result low ∙ ap (λ (r : Row). take i c.args.rows.now ++ r ∷ []) (sym c.row-item.is) in
    record {
      turns = turns_then (dropped_leaves _) (λ was first next. subst (λ rows. AreDropped rows (state g.S.Store c.args.self.now.conn).now (state g.S.Store c.drop_row.new.self.conn).now) (sym seen) (dropped_more _ _ _ _ _ first next))
          c.loop-row.invariant.turns c.in_ok-drop_row.ensures.leaves;
    }

pub returns : goal.returns
returns g c =
    let all : length c.args.rows.now ≤ c.loop-row.row-index = search rules in
    subst (λ (front : List Row). TurnsOrUnavailable {A = Unit {0}} HasNone (AreDropped front) (state g.S.Store c.args.self.now.conn) (state g.S.Store c.loop-row.self.conn) (Ok tt)) (take_all c.loop-row.row-index c.args.rows.now all)
    (record { leaves = c.loop-row.invariant.turns; cause = tt })
