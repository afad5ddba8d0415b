use Rattle.std.proofs.Common.{[], ◌∷◌, rules}
use Rattle.fax_tables.specs.Tables.{IsLawfulMeta}
use Rattle.fax_store.proofs.FrameLemmas.{edits_with, writes_where_by}
use Rattle.fax_tables.specs.Meta.{with_meta}
use Rattle.fax_tables.specs.Row.{number}
use Rattle.fax_store.proofs.MetaLemmas.{meta_written}
use Rattle.fax_store.proofs.store.Store.write_meta.Goals as goal

pub returns : goal.returns
returns g c =
    let meta = c.args.meta in
    let edits = edits_with g.S.Store _ _ _ _ _ (number meta.clock ∷ number meta.next_job ∷ number meta.next_grant ∷ []) (search rules)
    c.run.ensures in
    writes_where_by g.S.Store _ _ _ _ _ 10 (with_meta meta) (λ k. k) (λ m. IsLawfulMeta (with_meta meta m)) edits
    (λ m k lawful means has. meta_written _ _ m k means meta.clock meta.next_job meta.next_grant lawful has)
