use Rattle.std.proofs.Common.{pos, [], ◌∷◌, ◌∙◌, ap, ap₂, rules}
use Rattle.sqlite.specs.Order.{Row, column}
use Rattle.sqlite.specs.Values.{bound_value}
use Rattle.sqlite.specs.declared.types.Value.{Value}
use Rattle.sqlite.specs.declared.types.Value.TheVariants.{Int}
use Rattle.fax_store.proofs.FrameLemmas.{edits_with, writes_by}
use Rattle.fax_store.proofs.TimesLemmas.{end_params, times_ended}
use Rattle.fax_store.proofs.store.Store.end_row.Goals as goal

pub returns-clause-written : goal.returns-clause-written
returns-clause-written g c n is =
    let same = ap₂ (λ (a b : Value). bound_value a ∷ bound_value b ∷ []) (c.in_ok-job.ensures.ok.1 ∙ ap (λ (r : Row). column r 0) is) (c.to_sql.ensures ∙ ap (λ s. Int (pos s)) c.seconds.ensures.seconds) in
    let edits = edits_with g.S.Store _ _ _ _ _ (end_params n c.args.t) same c.run.ensures in
    writes_by g.S.Store _ _ _ _ (end_params n c.args.t) 13 _ _ edits (λ m k means has. times_ended n c.args.t _ _ m k means (search rules) has)
