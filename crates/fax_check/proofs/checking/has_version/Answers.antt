use Rattle.std.proofs.Common.{sym, ◌∙◌}
use Rattle.sqlite.specs.Held.{state}
use Rattle.fax_check.proofs.TellsLemmas.{made_of}
use Rattle.fax_schema.proofs.StatementTexts.{select_version}
use Rattle.fax_store.proofs.AdoptLemmas.{version_found, version_shown}
use Rattle.fax_check.proofs.checking.has_version.Goals as goal

pub show-requires : goal.show-requires
show-requires g c = select_version.plain

pub returns : goal.returns
returns g c =
    let old = state g.S.Store c.args.conn.now in
    let new = state g.S.Store c.show.new.conn in
    made_of old new c.in_ok-rows.rows _ _ _ c.in_ok-rows.ensures tt (λ stored shown. (
      λ on. version_found 3 old new stored.schema_is c.in_ok-rows.rows.items shown (sym c.as_slice.ensures.value ∙ c.is_version.ensures.0 on),
      λ version. c.is_version.ensures.1 (c.as_slice.ensures.value ∙ version_shown 3 old new stored.schema_is c.in_ok-rows.rows.items shown version),
    ))
