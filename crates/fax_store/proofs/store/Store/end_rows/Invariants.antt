use Rattle.std.proofs.Common.{take}
use Rattle.fax_store.proofs.EndLemmas.{HasEnded}
use Rattle.fax_store.proofs.store.Store.end_rows.Given as goal

-- the jobs of the rows so far have ended
abbrev pub invariant-loop-row : goal.invariant-loop-row
invariant-loop-row g l = HasEnded g.S.Store l.t l.initial.self l.self (take l.row-index l.rows)
