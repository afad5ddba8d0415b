use Rattle.std.proofs.Common.{rules}
use Rattle.sqlite.specs.Held.{state}
use Rattle.sqlite.specs.Values.{bound}
use Rattle.fax_tables.proofs.ResultLemmas.{popped}
use Rattle.fax_journal.proofs.StateLemmas.{on_err, query_fails}
use Rattle.fax_journal.proofs.journal.Journal.find.Goals as goal

pub returns-in_err-rows : goal.returns-in_err-rows
returns-in_err-rows g c = record {
  found = search rules;
  left = λ clean. on_err c.from_residual.result (query_fails (state g.S.Store c.args.self.now.conn) (state g.S.Store c.query_all.new.self) c.args.sql.now (bound c.args.params.now) c.in_err-rows.field-0.0 (c.in_err-rows.ensures.err clean));
  survives = c.query_all.ensures.survives;
  cause = search rules;
}

pub returns : goal.returns
returns g c = record {
  found = λ clean. (c.in_ok-rows.rows.items, c.in_ok-rows.ensures.ok clean, popped c.in_ok-rows.rows.items c.pop.new.self.items c.pop.result _ _ _ c.pop.ensures.items (search rules) c.pop.ensures.cases);
  left = search rules;
  survives = c.query_all.ensures.survives;
  cause = search rules;
}
