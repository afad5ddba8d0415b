use Rattle.std.proofs.Common.{[], ◌∷◌, rules}
use Rattle.sqlite.specs.declared.types.Value.TheVariants.{Text, Blob}
use Rattle.fax_core.specs.Ledger.{entry, IsLawfulEntry}
use Rattle.fax_tables.specs.Row.{number}
use Rattle.fax_store.proofs.KeptLemmas.{reply_kept, reply_goes}
use Rattle.fax_store.proofs.FrameLemmas.{inserts_with, writes_if_by}
use Rattle.fax_store.proofs.store.Store.write_reply.Goals as goal

pub returns-clause-writes : goal.returns-clause-writes
returns-clause-writes g c =
    let e = entry c.args.client.now c.args.number c.args.said.now c.args.status c.args.body.now in
    let lawful : IsLawfulEntry e = record { client = search rules; number = c.number_value-number.ensures.lawful; status = search rules } in
    writes_if_by g.S.Store _ _ _ _ (Text e.client ∷ number e.number ∷ Blob e.said ∷ number e.status ∷ Blob e.body ∷ []) 8 _ _ _ (inserts_with g.S.Store _ _ _ _ _ _ (search rules) c.insert.ensures)
    (λ m k means has. reply_kept _ _ m k means e lawful has) (λ m k means fit fault h. reply_goes _ _ m k means e fit.2 fault h)
