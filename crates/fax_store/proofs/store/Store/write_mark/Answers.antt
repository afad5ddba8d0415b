use Rattle.std.proofs.Common.{rules}
use Rattle.fax_store.proofs.WorkLemmas.{moves_of}
use Rattle.fax_store.proofs.store.Store.write_mark.Goals as goal

pub returns-else-down-clause-writes : goal.returns-else-down-clause-writes
returns-else-down-clause-writes g c = record {
  leaves = search rules;
  written = λ m₀ m k₀ k works s. rw c.if-down.false (moves_of _ c.clear_mark.result m₀ _ k₀ k (c.clear_mark.ensures.written m₀ m k₀ k works s));
  cause = search rules;
}
