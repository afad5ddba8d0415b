use Rattle.std.proofs.Common.{rules, ◌≡◌, ◌∷◌, ◌++◌, Some, Ok, Err, ap₂, subst, arith}
use Rattle.sqlite.specs.Held.{state}
use Rattle.sqlite.specs.Order.{Row}
use Rattle.sqlite.specs.State.{CommitsBy, Executes, Survives}
use Rattle.sqlite.specs.declared.types.Value.TheVariants.{Text}
use Rattle.fax_tables.specs.Row.{number}
use Rattle.fax_journal.specs.Calls.{Changes}
use Rattle.fax_journal.specs.Columns.{held_row, request_row}
use Rattle.fax_journal.specs.Entry.{Entry, IsValid, entry_columns}
use Rattle.fax_journal.specs.Journal.{TablesMean}
use Rattle.fax_journal.specs.Schema.{journal_tables}
use Rattle.fax_journal.specs.declared.statements.TheConstants.{SET_ENTRY}
use Rattle.fax_journal.proofs.ChangeLemmas.{changes_done, changes_refused}
use Rattle.fax_journal.proofs.EntryLemmas.{entry_set}
use Rattle.fax_journal.proofs.Texts.{set_entry, to_set_entry}
use Rattle.fax_journal.proofs.journal.Journal.set.Goals as goal

pub returns-in_err-execute-clause-sets : goal.returns-in_err-execute-clause-sets
returns-in_err-execute-clause-sets g c before kept =
    let e : Entry = record { client = c.entry.inside.client; last = c.entry.inside.last; unanswered = c.entry.inside.unanswered; held = c.entry.inside.held } in
    let valid : IsValid e = record {
      client = c.as_str.ensures.formed;
      last = record { least = c.number_value-last.ensures.lawful.0; below = c.number_value-last.ensures.lawful.1 };
      unanswered = c.of-asked.ensures.valid;
      held = c.can_be_stored.ensures.0 (grind (arith, c.if-not-can_be_stored.false));
    } in
    let told : Row = Text e.client ∷ number e.last ∷ (request_row c.of-asked.result ++ held_row c.of-held.result) in
    let same : told ≡ entry_columns e = ap₂ (λ (front behind : Row). Text e.client ∷ number e.last ∷ (front ++ behind)) c.of-asked.ensures.columns c.of-held.ensures in
    subst (λ (x : Entry). Changes (state g.S.Store c.args.self.now.conn) (state g.S.Store c.execute.new.self) c.from_residual.result (TablesMean before kept) (TablesMean (Some x) kept)) c.entry.view_is (changes_refused (state g.S.Store c.args.self.now.conn) (state g.S.Store c.execute.new.self) journal_tables SET_ENTRY.now (entry_columns e) to_set_entry set_entry (TablesMean before kept) (TablesMean (Some e) kept) (λ db is. is.schema)
    (entry_set before kept e valid) (λ on found leaves. g.met.S.Store.settled c.args.self.now.conn.store found on leaves) (λ on found leaves. g.met.S.Store.settled c.execute.new.self.store found on leaves)
    (subst (λ ps. Survives (state g.S.Store c.args.self.now.conn) (state g.S.Store c.execute.new.self) (CommitsBy SET_ENTRY.now ps (state g.S.Store c.args.self.now.conn))) same (subst (λ ps. Survives (state g.S.Store c.args.self.now.conn) (state g.S.Store c.execute.new.self) (CommitsBy SET_ENTRY.now ps (state g.S.Store c.args.self.now.conn))) (search rules) c.execute.ensures.survives))
    c.in_err-execute.field-0.0 c.from_residual.result c.from_residual.ensures.1
    (λ clean. subst (λ ps. Executes SET_ENTRY.now ps (state g.S.Store c.args.self.now.conn) (state g.S.Store c.execute.new.self) (Err c.in_err-execute.field-0.0)) same (subst (λ ps. Executes SET_ENTRY.now ps (state g.S.Store c.args.self.now.conn) (state g.S.Store c.execute.new.self) (Err c.in_err-execute.field-0.0)) (search rules) (c.in_err-execute.ensures.runs clean))))

pub returns-clause-sets : goal.returns-clause-sets
returns-clause-sets g c before kept =
    let e : Entry = record { client = c.entry.inside.client; last = c.entry.inside.last; unanswered = c.entry.inside.unanswered; held = c.entry.inside.held } in
    let valid : IsValid e = record {
      client = c.as_str.ensures.formed;
      last = record { least = c.number_value-last.ensures.lawful.0; below = c.number_value-last.ensures.lawful.1 };
      unanswered = c.of-asked.ensures.valid;
      held = c.can_be_stored.ensures.0 (grind (arith, c.if-not-can_be_stored.false));
    } in
    let told : Row = Text e.client ∷ number e.last ∷ (request_row c.of-asked.result ++ held_row c.of-held.result) in
    let same : told ≡ entry_columns e = ap₂ (λ (front behind : Row). Text e.client ∷ number e.last ∷ (front ++ behind)) c.of-asked.ensures.columns c.of-held.ensures in
    subst (λ (x : Entry). Changes (state g.S.Store c.args.self.now.conn) (state g.S.Store c.execute.new.self) {A = Unit {0}} (Ok (tt {0})) (TablesMean before kept) (TablesMean (Some x) kept)) c.entry.view_is (changes_done (state g.S.Store c.args.self.now.conn) (state g.S.Store c.execute.new.self) journal_tables SET_ENTRY.now (entry_columns e) to_set_entry set_entry (TablesMean before kept) (TablesMean (Some e) kept) (λ db is. is.schema)
    (entry_set before kept e valid) (λ on found leaves. g.met.S.Store.settled c.args.self.now.conn.store found on leaves) (λ on found leaves. g.met.S.Store.settled c.execute.new.self.store found on leaves)
    (subst (λ ps. Survives (state g.S.Store c.args.self.now.conn) (state g.S.Store c.execute.new.self) (CommitsBy SET_ENTRY.now ps (state g.S.Store c.args.self.now.conn))) same (subst (λ ps. Survives (state g.S.Store c.args.self.now.conn) (state g.S.Store c.execute.new.self) (CommitsBy SET_ENTRY.now ps (state g.S.Store c.args.self.now.conn))) (search rules) c.execute.ensures.survives))
    c.in_ok-execute.field-0
    (λ clean. subst (λ ps. Executes SET_ENTRY.now ps (state g.S.Store c.args.self.now.conn) (state g.S.Store c.execute.new.self) (Ok c.in_ok-execute.field-0)) same (subst (λ ps. Executes SET_ENTRY.now ps (state g.S.Store c.args.self.now.conn) (state g.S.Store c.execute.new.self) (Ok c.in_ok-execute.field-0)) (search rules) (c.in_ok-execute.ensures.runs clean))))
