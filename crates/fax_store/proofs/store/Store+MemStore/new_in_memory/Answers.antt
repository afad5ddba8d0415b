use Rattle.sqlite.proofs.Callers.{memory_is_clean}
use Rattle.fax_store.proofs.StoreLemmas.{memory_serves}
use Rattle.fax_store.proofs.store.Store+MemStore.new_in_memory.Goals as goal

pub returns-clause-empty : goal.returns-clause-empty
returns-clause-empty c = c.in_ok-make_tables.ensures.made (memory_is_clean c.make_tables.new.self.conn)

pub returns-clause-serves : goal.returns-clause-serves
returns-clause-serves c = memory_serves c.make_tables.new.self.conn
