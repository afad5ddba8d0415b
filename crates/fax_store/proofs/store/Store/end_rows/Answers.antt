use Rattle.std.proofs.Common.{◌≡◌, ◌+◌, ◌<◌, ◌≤◌, ◌++◌, ◌∙◌, [], ◌∷◌, length, take, sym, ap, subst, rules}
use Rattle.std.proofs.lemmas.List.{take_all, take_more}
use Rattle.sqlite.specs.Order.{Row}
use Rattle.fax_store.proofs.EndLemmas.{HasEnded, ended_first, ended_next}
use Rattle.fax_store.proofs.FrameLemmas.{runs_err, runs_then, writes_refused}
use Rattle.fax_store.proofs.store.Store.end_rows.Goals as goal

pub loop-row-init : goal.loop-row-init
loop-row-init g c = ended_first g.S.Store c.args.t c.args.self.now

pub returns-in_err-end_row-clause-leaves : goal.returns-in_err-end_row-clause-leaves
returns-in_err-end_row-clause-leaves g c =
    runs_then g.S.Store c.loop-row.invariant.leaves (runs_err g.S.Store c.from_residual.result c.from_residual.ensures.1 c.in_err-end_row.ensures.leaves)

pub returns-in_err-end_row-clause-written : goal.returns-in_err-end_row-clause-written
returns-in_err-end_row-clause-written g c numbers is =
    writes_refused g.S.Store _ c.from_residual.ensures.1 (runs_then g.S.Store c.loop-row.invariant.leaves c.in_err-end_row.ensures.leaves) c.in_err-end_row.ensures.cause

pub loop-row-preserved : goal.loop-row-preserved
loop-row-preserved g c =
    let i = c.loop-row.row-index in
    let low : i < length c.args.rows.now = search rules in
    let seen : take (i + 1) c.args.rows.now ≡ take i c.args.rows.now ++ c.row-item.result ∷ [] = take_more c.args.rows.now i c.row-item.result low ∙ ap (λ (r : Row). take i c.args.rows.now ++ r ∷ []) (sym c.row-item.is) in
    subst (HasEnded g.S.Store c.args.t c.args.self.now c.end_row.new.self) (sym seen)
    (ended_next g.S.Store c.args.t (take i c.args.rows.now) c.row-item.result c.loop-row.invariant c.in_ok-end_row.ensures.leaves c.in_ok-end_row.ensures.written)

pub returns-clause-leaves : goal.returns-clause-leaves
returns-clause-leaves g c = c.loop-row.invariant.leaves

pub returns-clause-written : goal.returns-clause-written
returns-clause-written g c numbers is =
    let all : length c.args.rows.now ≤ c.loop-row.row-index = search rules in record {
      leaves = c.loop-row.invariant.leaves;
      written = c.loop-row.invariant.written numbers (take_all c.loop-row.row-index c.args.rows.now all ∙ is);
      cause = tt;
    }
