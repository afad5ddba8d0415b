use Rattle.std.proofs.Common.{refl, rules}
use Rattle.fax_tables.specs.Grant.{as_hold}
use Rattle.fax_store.proofs.GrantLemmas.{hold_keys, hold_stands}
use Rattle.fax_store.proofs.FoundLemmas.{looks_err, looks_lawful, looks_none, looks_up}
use Rattle.fax_store.proofs.store.Store.hold_of.Goals as goal

pub returns-in-None : goal.returns-in-None
returns-in-None g c =
    looks_lawful g.S.Store (looks_none g.S.Store (hold_keys g.S.Store c.args.modem.now _ _) as_hold (λ m. refl) (search rules) c.in_ok-row.ensures c.in-None.is) tt

pub returns-in_ok-in_row-in-Some : goal.returns-in_ok-in_row-in-Some
returns-in_ok-in_row-in-Some g c =
    looks_lawful g.S.Store
    (looks_up g.S.Store (hold_keys g.S.Store c.args.modem.now _ _) as_hold (λ m. refl) (search rules) c.in_ok-row.ensures c.in-Some.is
    (λ held is lawful. c.in_ok-in_row-in-Some.ensures.found held is lawful)
    (λ db ours now found. hold_stands c.args.modem.now _ _ db ours now c.in-Some.row c.in_ok-in_row-in-Some.field-0 found c.in_ok-in_row-in-Some.ensures.stands))
    c.in_ok-in_row-in-Some.ensures.lawful

pub returns-in_err-in_row-in-Some : goal.returns-in_err-in_row-in-Some
returns-in_err-in_row-in-Some g c =
    looks_lawful g.S.Store
    (looks_err g.S.Store (hold_keys g.S.Store c.args.modem.now _ _) as_hold (λ m. refl) (search rules) c.in_ok-row.ensures c.in-Some.is
    c.from_residual-in_err-in_row-in-Some.result c.from_residual-in_err-in_row-in-Some.ensures.1 (λ held is lawful. c.in_err-in_row-in-Some.ensures.found held is lawful))
    (search rules)
