use Rattle.std.proofs.Common.{refl, rules}
use Rattle.fax_core.specs.Job.{fields_of}
use Rattle.fax_tables.specs.Job.{brief}
use Rattle.fax_store.proofs.JobLemmas.{brief_keys, brief_stands}
use Rattle.fax_store.proofs.FoundLemmas.{looks_err, looks_none, looks_up}
use Rattle.fax_store.proofs.store.Store.brief.Goals as goal

pub returns-in-None : goal.returns-in-None
returns-in-None g c = looks_none g.S.Store (brief_keys g.S.Store c.args.job _ _) (λ j. brief (fields_of j)) (λ m. refl) (search rules) c.in_ok-row.ensures c.in-None.is

pub returns-in_ok-brief_in-in-Some : goal.returns-in_ok-brief_in-in-Some
returns-in_ok-brief_in-in-Some g c =
    looks_up g.S.Store (brief_keys g.S.Store c.args.job _ _) (λ j. brief (fields_of j)) (λ m. refl) (search rules) c.in_ok-row.ensures c.in-Some.is
    (λ j is lawful. c.in_ok-brief_in-in-Some.ensures.found (fields_of j) is lawful.limits lawful.formed)
    (λ db ours now found. brief_stands c.args.job _ _ db ours now c.in-Some.row c.in_ok-brief_in-in-Some.field-0 found c.in_ok-brief_in-in-Some.ensures.stands)

pub returns-in_err-brief_in-in-Some : goal.returns-in_err-brief_in-in-Some
returns-in_err-brief_in-in-Some g c =
    looks_err g.S.Store (brief_keys g.S.Store c.args.job _ _) (λ j. brief (fields_of j)) (λ m. refl) (search rules) c.in_ok-row.ensures c.in-Some.is
    c.from_residual-in_err-brief_in-in-Some.result c.from_residual-in_err-brief_in-in-Some.ensures.1 (λ j is lawful. c.in_err-brief_in-in-Some.ensures.found (fields_of j) is lawful.limits lawful.formed)
