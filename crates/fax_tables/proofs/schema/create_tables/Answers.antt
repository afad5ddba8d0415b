use Rattle.std.proofs.Common.{inl, refl, sym, subst, Result}
use Rattle.sqlite.specs.Held.{Held}
use Rattle.sqlite.specs.declared.error.Error.{Error}
use Rattle.sqlite_trees.specs.declared.store.Store.{Ghosts}
use Rattle.fax_core.specs.Ledger.{empty_ledger}
use Rattle.fax_core.specs.Queue.{empty_queue}
use Rattle.fax_schema.specs.Schema.{bare_tables, core_tables, first_bare, no_tables, our_tables, second_bare}
use Rattle.fax_schema.specs.Way.{IsWay}
use Rattle.fax_schema.specs.declared.way.Way.{Way}
use Rattle.fax_tables.specs.Making.{Alters, Always, IsOn}
use Rattle.fax_tables.specs.Tables.{HasEmptyTables, HasNewCalls, TablesMean}
use Rattle.fax_tables.proofs.AlterLemmas.{alters_as, alters_refused, alters_then}
use Rattle.fax_tables.proofs.schema.create_tables.Goals as goal

-- tables of which none has rows
empty_made : {S : Type 0} (g : Ghosts S) (way : Way) (a b : Held S) (r : Result (Unit {0}) Error) → IsWay way no_tables → Alters g (IsOn way) (IsOn way) (λ old new. HasNewCalls old.now new.now) a b r
    → Alters g (HasEmptyTables no_tables) (HasEmptyTables no_tables) (λ old new. HasEmptyTables our_tables new) a b r
empty_made g way a b r is =
    alters_as g a b (IsOn way) (HasEmptyTables no_tables) (IsOn way) (λ old new. HasNewCalls old.now new.now) (λ old new. HasEmptyTables our_tables new) r
    (λ was. record { is_open = was.is_open; inside = was.inside; is_way = subst (IsWay way) (sym was.schema_is) is }) (λ was on it. record { is_open = on.is_open; inside = on.mode; schema_is = it.schema_is; empty = it.empty was.empty })
    (λ was. record { is_open = was.is_open; inside = was.inside; is_way = subst (IsWay way) (sym was.schema_is) is })

pub returns-in_err-renew_tables : goal.returns-in_err-renew_tables
returns-in_err-renew_tables g c =
    alters_refused g.S.Store _ _ _ _ _ _ _ c.in_err-renew_tables.field-0.0 c.from_residual.result c.from_residual.ensures.0 (λ was. was)
    (empty_made g.S.Store _ _ _ _ (no_tables, refl, (first_bare, inl refl, (second_bare, inl refl, (bare_tables, inl refl, (core_tables, inl refl, refl))))) c.in_err-renew_tables.ensures)

pub returns : goal.returns
returns g c =
    alters_then g.S.Store _ _ _ (HasEmptyTables no_tables) (HasEmptyTables our_tables) (HasEmptyTables no_tables) Always (λ old new. HasEmptyTables our_tables new) (λ old new. TablesMean new.now empty_queue empty_ledger)
    (λ old new. TablesMean new.now empty_queue empty_ledger) _ _ (λ it. it.1) (λ was. tt) (λ one two. two)
    (empty_made g.S.Store _ _ _ _ (no_tables, refl, (first_bare, inl refl, (second_bare, inl refl, (bare_tables, inl refl, (core_tables, inl refl, refl))))) c.in_ok-renew_tables.ensures) c.fill_meta.ensures
