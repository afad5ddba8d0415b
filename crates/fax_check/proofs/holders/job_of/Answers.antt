use Rattle.std.proofs.Common.{◌≡◌, ◌∷◌, [], Some, None, MatchOption, IfOk, subst, sym, rules, refl}
use Rattle.sqlite.specs.Held.{state}
use Rattle.sqlite.specs.State.{Shown}
use Rattle.sqlite_rules.specs.Lists.{Has}
use Rattle.fax_check.specs.Holders.{IsJobFound}
use Rattle.fax_check.proofs.LookLemmas.{job_known, no_job_known}
use Rattle.fax_check.proofs.RowsLemmas.{known_cause}
use Rattle.fax_check.proofs.TellsLemmas.{made_of}
use Rattle.fax_schema.specs.declared.statements.TheConstants.{SELECT_JOB}
use Rattle.fax_schema.proofs.StatementTexts.{select_job}
use Rattle.fax_store.specs.Store.{FindsRow}
use Rattle.fax_tables.proofs.ResultLemmas.{popped}
use Rattle.fax_tables.specs.Row.{number}
use Rattle.fax_check.proofs.holders.job_of.Goals as goal

pub show-requires : goal.show-requires
show-requires g c = select_job.plain

pub returns-in-Some : goal.returns-in-Some
returns-in-Some g c =
    let old = state g.S.Store c.args.conn.now in
    let new = state g.S.Store c.show.new.conn in
    let rows = c.in_ok-rows.rows.items in
    made_of old new c.in_ok-rows.rows c.known.result _ _ c.in_ok-rows.ensures (known_cause c.job_in.result c.known.result c.known.ensures) (λ stored shown.
    let told : Shown SELECT_JOB.now (number c.args.number ∷ []) old new rows = subst (λ p. Shown SELECT_JOB.now p old new rows) (search rules) shown in
    let finds : FindsRow SELECT_JOB.now (number c.args.number ∷ []) old new (Some c.in-Some.row) = (rows, told, subst (λ o. MatchOption o (rows ≡ []) (Has rows)) c.in-Some.is (popped rows c.pop.new.self.items c.pop.result _ _ _ c.pop.ensures.items (search rules) c.pop.ensures.cases)) in
    subst (λ r. IfOk r (IsJobFound old.now c.args.number)) (sym c.known.ensures) (job_known old.now stored c.args.number old new refl c.in-Some.row c.job_in.result finds c.job_in.ensures.found c.job_in.ensures.stands))

pub returns : goal.returns
returns g c =
    let old = state g.S.Store c.args.conn.now in
    let new = state g.S.Store c.show.new.conn in
    let rows = c.in_ok-rows.rows.items in
    made_of old new c.in_ok-rows.rows _ _ _ c.in_ok-rows.ensures tt (λ stored shown.
    let told : Shown SELECT_JOB.now (number c.args.number ∷ []) old new rows = subst (λ p. Shown SELECT_JOB.now p old new rows) (search rules) shown in
    let finds : FindsRow SELECT_JOB.now (number c.args.number ∷ []) old new None = (rows, told, subst (λ o. MatchOption o (rows ≡ []) (Has rows)) c.in-None.is (popped rows c.pop.new.self.items c.pop.result _ _ _ c.pop.ensures.items (search rules) c.pop.ensures.cases)) in
    no_job_known old.now stored c.args.number old new refl finds)
