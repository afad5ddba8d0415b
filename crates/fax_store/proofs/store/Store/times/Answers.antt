use Rattle.std.proofs.Common.{◌<◌, ◌^◌, rules}
use Rattle.fax_store.proofs.FoundLemmas.{as_it_is, looks_err, looks_none, looks_up}
use Rattle.fax_store.proofs.TimesLemmas.{times_keys, times_stand}
use Rattle.fax_store.proofs.store.Store.times.Goals as goal

pub returns-in-None : goal.returns-in-None
returns-in-None g c =
    let low : c.args.job < 2 ^ 32 = search rules in
    looks_none g.S.Store (times_keys c.args.job g.S.Store low _ _) (λ one. one) (λ m. as_it_is _) (search rules) c.in_ok-row.ensures c.in-None.is

pub returns-in_ok-times_in-in-Some : goal.returns-in_ok-times_in-in-Some
returns-in_ok-times_in-in-Some g c =
    let low : c.args.job < 2 ^ 32 = search rules in
    looks_up g.S.Store (times_keys c.args.job g.S.Store low _ _) (λ one. one) (λ m. as_it_is _) (search rules) c.in_ok-row.ensures c.in-Some.is
    (λ one is lawful. c.in_ok-times_in-in-Some.ensures.found one is lawful.0 lawful.1)
    (λ db ours now found. times_stand c.args.job _ _ db ours now c.in-Some.row c.in_ok-times_in-in-Some.field-0 found c.in_ok-times_in-in-Some.ensures.stands)

pub returns-in_err-times_in-in-Some : goal.returns-in_err-times_in-in-Some
returns-in_err-times_in-in-Some g c =
    let low : c.args.job < 2 ^ 32 = search rules in
    looks_err g.S.Store (times_keys c.args.job g.S.Store low _ _) (λ one. one) (λ m. as_it_is _) (search rules) c.in_ok-row.ensures c.in-Some.is
    c.from_residual-in_err-times_in-in-Some.result c.from_residual-in_err-times_in-in-Some.ensures.1 (λ one is lawful. c.in_err-times_in-in-Some.ensures.found one is lawful.0 lawful.1)
