use Rattle.std.proofs.Common.{[], ◌∷◌, rules}
use Rattle.sqlite.specs.Values.{bound_value}
use Rattle.sqlite_value.specs.Value.{owned}
use Rattle.fax_schema.proofs.TimesTexts as texts
use Rattle.fax_schema.specs.Schema.{grants_tree}
use Rattle.fax_schema.specs.declared.statements.TheConstants.{DELETE_GRANT}
use Rattle.fax_store.proofs.FrameLemmas.{edits_with}
use Rattle.fax_store.proofs.StatementLemmas.{edit_text}
use Rattle.fax_store.proofs.StrayLemmas.{grant_dropped}
use Rattle.fax_store.proofs.TurnLemmas.{turns_edit}
use Rattle.fax_store.proofs.store.Store.drop_row.Goals as goal

pub run-requires : goal.run-requires
run-requires g c = edit_text DELETE_GRANT.now _ tt texts.delete_grant

pub returns : goal.returns
returns g c =
    turns_edit g.S.Store grants_tree (edits_with g.S.Store _ _ _ DELETE_GRANT.now _ (bound_value (owned c.in_ok-grant.grant) ∷ []) (search rules) c.run.ensures)
    (λ was ran. grant_dropped c.args.row.now (owned c.in_ok-grant.grant) _ _ was c.in_ok-grant.ensures.ok.1 ran)
