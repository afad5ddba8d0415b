use Rattle.std.proofs.Common.{arith, refl, sym, true≢false, ◌∙◌}
use Rattle.matchit.proofs.OnLiterals.{matchit_on_literals}
use Rattle.fax_ask.specs.Routes.{table}
use Rattle.fax_ask.proofs.TableLemmas.{from_none, memory_alone, on_the_way}
use Rattle.fax_ask.proofs.routes.Routes.new.Goals.{in-OutOfMemory, in_default-matches}
use Rattle.fax_ask.proofs.routes.Routes.new.Goals as goal

pub loop-pattern-init : goal.loop-pattern-init
unfolding matchit_on_literals table
loop-pattern-init c = from_none _ _ c.new-router.ensures refl refl

pub loop-pattern-preserved : goal.loop-pattern-preserved
loop-pattern-preserved c = on_the_way _ _ _ _ _ _ c.loop-pattern.invariant c.in_default.ensures (omega arith)

pub prove-unreachable-requires : goal.prove-unreachable-requires
prove-unreachable-requires c =
    elim c.match-matches.branch [
      | in-OutOfMemory w ↦ true≢false (sym w.matches-is ∙ c.if-prove.true)
      | in_default-matches w ↦
          w.in_default-matches.not-OutOfMemory (memory_alone _ _ _ _ _ _ c.loop-pattern.invariant c.in-Err.ensures (omega arith))
    ]
