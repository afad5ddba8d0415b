use Rattle.std.proofs.Common.{◌≡◌, ◌∷◌, List, [], subst, ◌∙◌, ap, refl, rules}
use Rattle.sqlite.specs.Held.{state}
use Rattle.sqlite.specs.State.{Shown}
use Rattle.sqlite.specs.declared.types.Value.TheVariants.{Text}
use Rattle.std.specs.Bool.{Decides}
use Rattle.sqlite.specs.Order.{Row}
use Rattle.sqlite_rules.specs.Lists.{Has}
use Rattle.fax_check.specs.Whole.{dialing}
use Rattle.fax_tables.specs.Row.{HasNumber}
use Rattle.fax_check.proofs.CalledLemmas.{called_decides}
use Rattle.fax_check.proofs.TellsLemmas.{made_of}
use Rattle.fax_schema.specs.declared.statements.TheConstants.{SELECT_OPEN}
use Rattle.fax_schema.proofs.GrantTexts.{select_open}
use Rattle.fax_check.proofs.checking.is_counted.Goals as goal

pub show-requires : goal.show-requires
show-requires g c = select_open.plain

pub returns : goal.returns
returns g c =
    let old = state g.S.Store c.args.conn.now in
    let new = state g.S.Store c.show.new.conn in
    let h = c.args.holder.now in
    let rows = c.in_ok-rows.rows.items in
    let count : c.dialing-count.result ≡ dialing h.dial c.args.held.now = c.dialing-count.ensures ∙ ap (λ d. dialing d c.args.held.now) (search rules) in
    made_of old new c.in_ok-rows.rows _ _ _ c.in_ok-rows.ensures tt (λ stored shown.
    let told : Shown SELECT_OPEN.now (Text h.dial ∷ []) old new rows = subst (λ p. Shown SELECT_OPEN.now p old new rows) (search rules) shown in
    called_decides old new old.now stored refl c.args.held.now h rows told c.counts.result c.dialing-count.result count (subst (λ (rs : List Row). Decides c.counts.result ((row : Row) × Has rs row × HasNumber row 0 c.dialing-count.result)) c.as_slice.ensures.value c.counts.ensures))
