use Rattle.std.proofs.Common.{◌≡◌, ℕ, List, []}
use Rattle.sqlite.specs.Given.{HasGiven}
use Rattle.sqlite.specs.Held.{state}
use Rattle.sqlite.specs.Order.{Row}
use Rattle.sqlite.specs.State.{HasCleanDisk}
use Rattle.fax_check.specs.Pass.{IsPassed, Names}
use Rattle.fax_check.specs.Whole.{Shows}
use Rattle.fax_check.proofs.TellsLemmas.{Passed}
use Rattle.fax_check.proofs.pass.count.Given as goal

-- of the rows that were given so far, the first that isn't as it has to be is known
abbrev pub invariant-loop : goal.invariant-loop
invariant-loop g l = record {
  same_reference : l.rows.conn.ghost_name ≡ l.initial.rows.conn.ghost_name;
  passed : Passed g.S.Store l.counter l.initial.rows.conn.now l.rows.conn.now;
  counted : (sql : List ℕ) → HasGiven g.S.Store sql [] l.initial.rows.conn.now [] → HasCleanDisk (state g.S.Store l.rows.conn.now)
      → (given : List Row) × HasGiven g.S.Store sql [] l.rows.conn.now given × IsPassed (Shows l.meta l.held l.query) (Names l.query) given l.flaw;
}
