use Rattle.std.proofs.Common.{[], ◌∷◌, length, map, Ok}
use Rattle.sqlite.specs.declared.error.Error.{Error}
use Rattle.sqlite_schema.specs.declared.schema.Schema.{Schema}
use Rattle.fax_tables.specs.Making.{Alters, IsBefore}
use Rattle.fax_tables.proofs.MakingLemmas.{IsAlong}
use Rattle.fax_tables.proofs.schema.take_step.Given as goal

-- wherever the step leads, the texts before have gone there
abbrev pub invariant-loop-texts : goal.invariant-loop-texts
invariant-loop-texts g l =
    (to : Schema) → Alters g.S.Store {A = Unit {0}} {E = Error} (IsBefore (l.fn.step ∷ []) to) (IsBefore (l.fn.step ∷ []) to) (IsAlong (map (λ text. text.now) l.texts) to) l.initial.conn l.conn (Ok tt)

abbrev pub decreases-loop-texts : goal.decreases-loop-texts
decreases-loop-texts g l = length l.texts
