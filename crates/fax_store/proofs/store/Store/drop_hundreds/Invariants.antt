use Rattle.fax_store.proofs.FloorLemmas.{Goes}
use Rattle.fax_store.proofs.store.Store.drop_hundreds.Given as goal

-- some are gone by now, and with each round a number more
abbrev pub invariant-loop : goal.invariant-loop
invariant-loop g l = Goes g.S.Store l.client l.floor l.initial.self l.self l.counter
