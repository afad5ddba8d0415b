use Rattle.std.proofs.Common.{◌≡◌, ◌<◌, ◌++◌, [], ◌∷◌, All, length, map, None, true, if◌then◌else◌, sym, ap, subst, w64, ◌∙◌, rules}
use Rattle.std.proofs.lemmas.Int.{to_z-of_z}
use Rattle.std.specs.Result.{is_ok}
use Rattle.std.proofs.lemmas.List.Elements.{All-append, All-cons, All-nil}
use Rattle.sqlite.specs.Held.{state}
use Rattle.sqlite_rules.proofs.ListLemmas.{has_at}
use Rattle.fax_check.specs.Holders.{IsHolderFound}
use Rattle.fax_check.specs.Whole.{IsRightHolder, holder_columns}
use Rattle.fax_check.proofs.TellsLemmas.{looks_tells, since_tells, since_told}
use Rattle.fax_tables.proofs.RowLemmas.{first_from, one_more_row}
use Rattle.fax_check.proofs.holders.holders_in.Goals as goal

pub returns-in-None : goal.returns-in-None
returns-in-None g c =
    let first = c.args.conn.now in
    let i = c.loop-row.row-index in
    let row = c.row-item.result in
    let low : i < length c.args.rows.now = search rules in
    looks_tells g.S.Store first c.loop-row.conn c.holder_in.new.conn _ _ _ _ c.loop-row.invariant.since c.in_ok-holder.ensures tt (λ x same. same)
    (λ stored clean is told. (row, has_at c.args.rows.now i row low c.row-item.is, subst (λ d. IsHolderFound d row None) (sym is) (subst (IsHolderFound _ row) c.in-None.is told), λ n id. to_z-of_z w64 c.number_in.result (search rules) ∙ c.number_in.ensures n id))

pub loop-row-preserved : goal.loop-row-preserved
loop-row-preserved g c =
    let first = c.args.conn.now in
    let i = c.loop-row.row-index in
    let row = c.row-item.result in
    let before = c.loop-row.held.items in
    let holder = c.in-Some.holder in
    let low : i < length c.args.rows.now = search rules in
    let put : is_ok c.push.result ≡ true = search rules in
    let more = c.push.ensures.items ∙ ap (λ b. if b then before ++ holder ∷ [] else before) put in
    record {
      since = since_tells g.S.Store first c.loop-row.conn c.holder_in.new.conn _ _ c.loop-row.invariant.since c.in_ok-holder.ensures;
      told = λ stored clean.
          let told = subst (IsHolderFound (state g.S.Store first).now row) c.in-Some.is (since_told g.S.Store first c.loop-row.conn c.holder_in.new.conn _ _ c.loop-row.invariant.since c.in_ok-holder.ensures stored clean) in
          let all = c.loop-row.invariant.told stored (c.in_ok-holder.ensures.clean clean) in (
            one_more_row 3 holder_columns c.args.rows.now i row before holder low c.row-item.is all.0 (first_from row (holder_columns holder) 0 told.0) ∙ sym (ap (map holder_columns) more),
            subst (All (IsRightHolder (state g.S.Store first).now)) (sym more) (All-append (IsRightHolder (state g.S.Store first).now) before (holder ∷ []) all.1 (All-cons (IsRightHolder (state g.S.Store first).now) holder [] told.1 (All-nil (IsRightHolder (state g.S.Store first).now)))),
          );
    }
