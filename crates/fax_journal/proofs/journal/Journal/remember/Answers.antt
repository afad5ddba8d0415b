use Rattle.std.proofs.Common.{rules, [], ◌∷◌, Some, Ok, Err, subst}
use Rattle.sqlite.specs.Held.{state}
use Rattle.sqlite.specs.State.{CommitsBy, Executes, Survives}
use Rattle.sqlite.specs.declared.types.Value.TheVariants.{Text, Blob}
use Rattle.fax_journal.specs.Journal.{TablesMean, with_answer}
use Rattle.fax_journal.specs.Schema.{journal_tables}
use Rattle.fax_journal.specs.declared.statements.TheConstants.{SET_ANSWER}
use Rattle.fax_journal.proofs.AnswerLemmas.{answer_set}
use Rattle.fax_journal.proofs.ChangeLemmas.{changes_done, changes_refused}
use Rattle.fax_journal.proofs.Texts.{set_answer, to_set_answer}
use Rattle.fax_journal.proofs.journal.Journal.remember.Goals as goal

pub returns-in_err-execute-clause-remembers : goal.returns-in_err-execute-clause-remembers
returns-in_err-execute-clause-remembers g c entry kept =
    changes_refused (state g.S.Store c.args.self.now.conn) (state g.S.Store c.execute.new.self) journal_tables SET_ANSWER.now (Text c.args.key.now ∷ Blob c.args.answer.now ∷ []) to_set_answer set_answer (TablesMean entry kept) (TablesMean entry (with_answer c.args.key.now (Some c.args.answer.now) kept)) (λ db is. is.schema)
    (answer_set entry kept c.args.key.now c.args.answer.now) (λ on found leaves. g.met.S.Store.settled c.args.self.now.conn.store found on leaves) (λ on found leaves. g.met.S.Store.settled c.execute.new.self.store found on leaves)
    (subst (λ ps. Survives (state g.S.Store c.args.self.now.conn) (state g.S.Store c.execute.new.self) (CommitsBy SET_ANSWER.now ps (state g.S.Store c.args.self.now.conn))) (search rules) c.execute.ensures.survives)
    c.in_err-execute.field-0.0 c.from_residual.result c.from_residual.ensures.1
    (λ clean. subst (λ ps. Executes SET_ANSWER.now ps (state g.S.Store c.args.self.now.conn) (state g.S.Store c.execute.new.self) (Err c.in_err-execute.field-0.0)) (search rules) (c.in_err-execute.ensures.runs clean))

pub returns-clause-remembers : goal.returns-clause-remembers
returns-clause-remembers g c entry kept =
    changes_done (state g.S.Store c.args.self.now.conn) (state g.S.Store c.execute.new.self) journal_tables SET_ANSWER.now (Text c.args.key.now ∷ Blob c.args.answer.now ∷ []) to_set_answer set_answer (TablesMean entry kept) (TablesMean entry (with_answer c.args.key.now (Some c.args.answer.now) kept)) (λ db is. is.schema)
    (answer_set entry kept c.args.key.now c.args.answer.now) (λ on found leaves. g.met.S.Store.settled c.args.self.now.conn.store found on leaves) (λ on found leaves. g.met.S.Store.settled c.execute.new.self.store found on leaves)
    (subst (λ ps. Survives (state g.S.Store c.args.self.now.conn) (state g.S.Store c.execute.new.self) (CommitsBy SET_ANSWER.now ps (state g.S.Store c.args.self.now.conn))) (search rules) c.execute.ensures.survives)
    c.in_ok-execute.field-0
    (λ clean. subst (λ ps. Executes SET_ANSWER.now ps (state g.S.Store c.args.self.now.conn) (state g.S.Store c.execute.new.self) (Ok c.in_ok-execute.field-0)) (search rules) (c.in_ok-execute.ensures.runs clean))
