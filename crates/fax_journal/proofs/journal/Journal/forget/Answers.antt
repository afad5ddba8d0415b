use Rattle.std.proofs.Common.{rules, [], ◌∷◌, None, Ok, Err, subst}
use Rattle.sqlite.specs.Command.TheVariants.{Delete}
use Rattle.sqlite.specs.Held.{state}
use Rattle.sqlite.specs.State.{CommitsBy, Executes, Survives}
use Rattle.sqlite.specs.declared.types.Value.TheVariants.{Text}
use Rattle.fax_journal.specs.Journal.{TablesMean, with_answer}
use Rattle.fax_journal.specs.Schema.{journal_tables}
use Rattle.fax_journal.specs.declared.statements.TheConstants.{DELETE_ANSWER}
use Rattle.fax_journal.proofs.AnswerLemmas.{answer_gone}
use Rattle.fax_journal.proofs.ChangeLemmas.{changes_done, changes_refused}
use Rattle.fax_journal.proofs.Texts.{answer_program, delete_answer}
use Rattle.fax_journal.proofs.journal.Journal.forget.Goals as goal

pub returns-in_err-execute-clause-forgets : goal.returns-in_err-execute-clause-forgets
returns-in_err-execute-clause-forgets g c entry kept =
    changes_refused (state g.S.Store c.args.self.now.conn) (state g.S.Store c.execute.new.self) journal_tables DELETE_ANSWER.now (Text c.args.key.now ∷ []) (Delete 1 answer_program) delete_answer (TablesMean entry kept) (TablesMean entry (with_answer c.args.key.now None kept)) (λ db is. is.schema)
    (answer_gone entry kept c.args.key.now) (λ on found leaves. g.met.S.Store.settled c.args.self.now.conn.store found on leaves) (λ on found leaves. g.met.S.Store.settled c.execute.new.self.store found on leaves)
    (subst (λ ps. Survives (state g.S.Store c.args.self.now.conn) (state g.S.Store c.execute.new.self) (CommitsBy DELETE_ANSWER.now ps (state g.S.Store c.args.self.now.conn))) (search rules) c.execute.ensures.survives)
    c.in_err-execute.field-0.0 c.from_residual.result c.from_residual.ensures.1
    (λ clean. subst (λ ps. Executes DELETE_ANSWER.now ps (state g.S.Store c.args.self.now.conn) (state g.S.Store c.execute.new.self) (Err c.in_err-execute.field-0.0)) (search rules) (c.in_err-execute.ensures.runs clean))

pub returns-clause-forgets : goal.returns-clause-forgets
returns-clause-forgets g c entry kept =
    changes_done (state g.S.Store c.args.self.now.conn) (state g.S.Store c.execute.new.self) journal_tables DELETE_ANSWER.now (Text c.args.key.now ∷ []) (Delete 1 answer_program) delete_answer (TablesMean entry kept) (TablesMean entry (with_answer c.args.key.now None kept)) (λ db is. is.schema)
    (answer_gone entry kept c.args.key.now) (λ on found leaves. g.met.S.Store.settled c.args.self.now.conn.store found on leaves) (λ on found leaves. g.met.S.Store.settled c.execute.new.self.store found on leaves)
    (subst (λ ps. Survives (state g.S.Store c.args.self.now.conn) (state g.S.Store c.execute.new.self) (CommitsBy DELETE_ANSWER.now ps (state g.S.Store c.args.self.now.conn))) (search rules) c.execute.ensures.survives)
    c.in_ok-execute.field-0
    (λ clean. subst (λ ps. Executes DELETE_ANSWER.now ps (state g.S.Store c.args.self.now.conn) (state g.S.Store c.execute.new.self) (Ok c.in_ok-execute.field-0)) (search rules) (c.in_ok-execute.ensures.runs clean))
