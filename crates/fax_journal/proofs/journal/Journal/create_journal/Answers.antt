use Rattle.std.proofs.Common.{[]}
use Rattle.sqlite.specs.Held.{state}
use Rattle.sqlite.specs.Command.TheVariants.{CreateTable}
use Rattle.fax_journal.specs.Journal.{IsBare, IsNew}
use Rattle.fax_journal.specs.Schema.{no_tables}
use Rattle.fax_journal.specs.declared.statements.TheConstants.{CREATE_JOURNAL}
use Rattle.fax_journal.proofs.AdoptLemmas.{journal_made}
use Rattle.fax_journal.proofs.Texts.{create_journal}
use Rattle.fax_journal.proofs.ChangeLemmas.{changes_done, changes_refused}
use Rattle.fax_journal.proofs.journal.Journal.create_journal.Goals as goal

pub returns-in_err-execute-clause-makes : goal.returns-in_err-execute-clause-makes
returns-in_err-execute-clause-makes g c entry kept =
    changes_refused (state g.S.Store c.args.self.now.conn) (state g.S.Store c.execute.new.self) no_tables CREATE_JOURNAL.now [] CreateTable create_journal (IsNew entry kept) (IsBare entry kept) (λ db is. is.schema)
    (journal_made entry kept) (λ on found leaves. g.met.S.Store.settled c.args.self.now.conn.store found on leaves) (λ on found leaves. g.met.S.Store.settled c.execute.new.self.store found on leaves) c.execute.ensures.survives
    c.in_err-execute.field-0.0 c.from_residual.result c.from_residual.ensures.1 c.in_err-execute.ensures.runs

pub returns-clause-makes : goal.returns-clause-makes
returns-clause-makes g c entry kept =
    changes_done (state g.S.Store c.args.self.now.conn) (state g.S.Store c.execute.new.self) no_tables CREATE_JOURNAL.now [] CreateTable create_journal (IsNew entry kept) (IsBare entry kept) (λ db is. is.schema)
    (journal_made entry kept) (λ on found leaves. g.met.S.Store.settled c.args.self.now.conn.store found on leaves) (λ on found leaves. g.met.S.Store.settled c.execute.new.self.store found on leaves) c.execute.ensures.survives
    c.in_ok-execute.field-0 c.in_ok-execute.ensures.runs
