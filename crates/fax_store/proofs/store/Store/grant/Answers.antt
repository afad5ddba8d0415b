use Rattle.std.proofs.Common.{rules}
use Rattle.fax_store.proofs.GrantLemmas.{grant_keys, grant_stands}
use Rattle.fax_store.proofs.FoundLemmas.{as_it_is, looks_err, looks_lawful, looks_none, looks_up}
use Rattle.fax_store.proofs.store.Store.grant.Goals as goal

pub returns-in-None : goal.returns-in-None
returns-in-None g c =
    looks_lawful g.S.Store (looks_none g.S.Store (grant_keys g.S.Store c.args.number _ _) (λ one. one) (λ m. as_it_is _) (search rules) c.in_ok-row.ensures c.in-None.is) tt

pub returns-in_ok-grant_in-in-Some : goal.returns-in_ok-grant_in-in-Some
returns-in_ok-grant_in-in-Some g c =
    looks_lawful g.S.Store
    (looks_up g.S.Store (grant_keys g.S.Store c.args.number _ _) (λ one. one) (λ m. as_it_is _) (search rules) c.in_ok-row.ensures c.in-Some.is
    (λ one is lawful. c.in_ok-grant_in-in-Some.ensures.found one is lawful)
    (λ db ours now found. grant_stands c.args.number _ _ db ours now c.in-Some.row c.in_ok-grant_in-in-Some.field-0 found c.in_ok-grant_in-in-Some.ensures.stands))
    c.in_ok-grant_in-in-Some.ensures.lawful

pub returns-in_err-grant_in-in-Some : goal.returns-in_err-grant_in-in-Some
returns-in_err-grant_in-in-Some g c =
    looks_lawful g.S.Store
    (looks_err g.S.Store (grant_keys g.S.Store c.args.number _ _) (λ one. one) (λ m. as_it_is _) (search rules) c.in_ok-row.ensures c.in-Some.is
    c.from_residual-in_err-grant_in-in-Some.result c.from_residual-in_err-grant_in-in-Some.ensures.1 (λ one is lawful. c.in_err-grant_in-in-Some.ensures.found one is lawful))
    (search rules)
