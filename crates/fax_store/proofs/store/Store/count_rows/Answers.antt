use Rattle.std.proofs.Common.{◌≡◌, ◌+◌, ◌<◌, ◌≤◌, ◌++◌, List, [], ◌∷◌, length, take, sym, ap, subst, ◌∙◌, rules, false}
use Rattle.std.proofs.lemmas.List.{take_all, take_more}
use Rattle.sqlite.specs.Held.{state}
use Rattle.sqlite.specs.Order.{Row}
use Rattle.sqlite_rules.proofs.ListLemmas.{has_at}
use Rattle.fax_store.specs.Adopt.{held_to}
use Rattle.fax_store.specs.Grant.{SetsCalls, with_count}
use Rattle.fax_store.proofs.CallLemmas.{has_calls, sets_as, set_then}
use Rattle.fax_store.proofs.HeldLemmas.{called_still, held_first, held_more, rows_still}
use Rattle.fax_store.proofs.StopLemmas.{withholds_then}
use Rattle.fax_store.proofs.WorkLemmas.{refused_as}
use Rattle.fax_store.proofs.store.Store.count_rows.Goals as goal

pub returns-in_err-count_hold-clause-cause : goal.returns-in_err-count_hold-clause-cause
returns-in_err-count_hold-clause-cause g c count callable has small clean =
    let init = state g.S.Store c.args.self.now.conn in
    let cur = state g.S.Store c.loop-row.self.conn in
    let i = c.loop-row.row-index in
    let low : i < length c.args.rows.now = search rules in
    let set = c.loop-row.invariant.set count has small (c.count_hold.ensures.counts.clean clean) in
    let it = callable c.row-item.result (has_at c.args.rows.now i c.row-item.result low c.row-item.is) in
    refused_as c.from_residual.result c.in_err-count_hold.field-0.0 c.from_residual.ensures.1
    (c.in_err-count_hold.ensures.cause it.0 set.0 it.1 (called_still init.now cur.now set.1.rows.0 it.0 it.2) (has_calls init cur set.0 set.1) set.2 clean)

pub loop-row-preserved : goal.loop-row-preserved
loop-row-preserved g c =
    let init = state g.S.Store c.args.self.now.conn in
    let cur = state g.S.Store c.loop-row.self.conn in
    let new = state g.S.Store c.count_hold.new.self.conn in
    let i = c.loop-row.row-index in
    record {
      clean = λ now. c.loop-row.invariant.clean (c.count_hold.ensures.counts.clean now);
      crash = withholds_then init cur new false c.loop-row.invariant.crash c.in_ok-count_hold.ensures.counts.crash;
      set = λ count has small clean.
          let before = c.loop-row.invariant.set count has small (c.count_hold.ensures.counts.clean clean) in
          let after = c.in_ok-count_hold.ensures.counts.set before.0 (has_calls init cur before.0 before.1) before.2 clean in
          (after.0, set_then init cur new before.0 after.0 before.1 after.1, after.2);
      counted = λ m k rows jobs few has clean.
          let low : i < length c.args.rows.now = search rules in
          let counts = held_to m (take i c.args.rows.now) in
          let set = c.loop-row.invariant.counted m k rows jobs few has (c.count_hold.ensures.counts.clean clean) in
          let job = jobs c.row-item.result (has_at c.args.rows.now i c.row-item.result low c.row-item.is) in
          let after = c.in_ok-count_hold.ensures.counted m k job.0 counts (rows_still init cur m k counts set rows) job.1 job.2 (held_first m c.args.rows.now i (job.0).dial low few) (has_calls init cur counts set) clean in
          let seen : take (i + 1) c.args.rows.now ≡ take i c.args.rows.now ++ c.row-item.result ∷ [] = take_more c.args.rows.now i c.row-item.result low ∙ ap (λ (r : Row). take i c.args.rows.now ++ r ∷ []) (sym c.row-item.is) in
          subst (λ (front : List Row). SetsCalls init new (held_to m front)) (sym seen)
          (sets_as init new (with_count (job.0).dial (counts (job.0).dial + 1) counts) (held_to m (take i c.args.rows.now ++ c.row-item.result ∷ [])) (held_more m (take i c.args.rows.now) c.row-item.result job.0 job.1 job.2)
          (set_then init cur new counts (with_count (job.0).dial (counts (job.0).dial + 1) counts) set after));
    }

pub returns-clause-counted : goal.returns-clause-counted
returns-clause-counted g c m k rows jobs few has clean =
    let all : length c.args.rows.now ≤ c.loop-row.row-index = search rules in
    subst (λ (front : List Row). SetsCalls (state g.S.Store c.args.self.now.conn) (state g.S.Store c.loop-row.self.conn) (held_to m front)) (take_all c.loop-row.row-index c.args.rows.now all)
    (c.loop-row.invariant.counted m k rows jobs few has clean)
