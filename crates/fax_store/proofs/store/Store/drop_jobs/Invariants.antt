use Rattle.std.proofs.Common.{take}
use Rattle.fax_store.proofs.LeaveLemmas.{HasLeft}
use Rattle.fax_store.proofs.store.Store.drop_jobs.Given as goal

-- the jobs of the numbers so far have left
abbrev pub invariant-loop-job : goal.invariant-loop-job
invariant-loop-job g l = HasLeft g.S.Store l.numbers l.initial.self l.self (take l.job-index l.numbers)
