use Rattle.std.proofs.Common.{length, Ok}
use Rattle.sqlite.specs.declared.error.Error.{Error}
use Rattle.sqlite_schema.specs.declared.schema.Schema.{Schema}
use Rattle.fax_tables.specs.Making.{Alters, IsBefore}
use Rattle.fax_tables.proofs.MakingLemmas.{IsOnItsWay}
use Rattle.fax_tables.proofs.schema.take_steps.Given as goal

-- wherever the steps lead, those before have been taken
abbrev pub invariant-loop-steps : goal.invariant-loop-steps
invariant-loop-steps g l =
    (to : Schema) → Alters g.S.Store {A = Unit {0}} {E = Error} (IsBefore l.fn.steps to) (IsBefore l.fn.steps to) (IsOnItsWay g.S.Store l.steps to) l.initial.conn l.conn (Ok tt)

abbrev pub decreases-loop-steps : goal.decreases-loop-steps
decreases-loop-steps g l = length l.steps
