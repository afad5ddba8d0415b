use Rattle.fax_ask.proofs.TableLemmas.{IsOnTheWay}
use Rattle.fax_ask.proofs.routes.Routes.new.Given as goal

abbrev pub invariant-loop-pattern : goal.invariant-loop-pattern
invariant-loop-pattern l = IsOnTheWay l.pattern-items l.pattern-index l.router
