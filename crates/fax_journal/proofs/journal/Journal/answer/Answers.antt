use Rattle.std.proofs.Common.{rules, ◌≡◌, ℕ, List, [], ◌∷◌, Some, Ok, Err, refl, sym, ap, subst, ◌∙◌, arith}
use Rattle.sqlite.specs.Given.{IsPlain}
use Rattle.sqlite.specs.Listing.{understood}
use Rattle.sqlite.specs.declared.types.Value.TheVariants.{Text, Blob}
use Rattle.fax_tables.specs.Row.{HasValue}
use Rattle.fax_tables.proofs.ResultLemmas.{passes_on}
use Rattle.fax_tables.proofs.RowLemmas.{has_value}
use Rattle.fax_journal.specs.Calls.{Finds, shown}
use Rattle.fax_journal.specs.Journal.{TablesMean}
use Rattle.fax_journal.specs.declared.statements.TheConstants.{SELECT_ANSWER}
use Rattle.fax_journal.proofs.AnswerLemmas.{answer_found, blob_is, found_none, found_some}
use Rattle.fax_journal.proofs.ChangeLemmas.{tells_found, tells_refused}
use Rattle.fax_journal.proofs.Texts.{select_answer}
use Rattle.fax_journal.proofs.journal.Journal.answer.Goals as goal

pub returns-in_err-row : goal.returns-in_err-row
returns-in_err-row g c entry kept =
    tells_refused _ _ SELECT_ANSWER.now (Text c.args.key.now ∷ []) (TablesMean entry kept) (λ db is. subst (λ s. IsPlain (understood s SELECT_ANSWER.now)) (sym is.schema) select_answer.plain) (λ on found leaves. g.met.S.Store.settled c.args.self.now.conn.store found on leaves)
    c.in_err-row.field-0.0 c.from_residual.result c.from_residual.ensures.1
    (subst (λ ps. Finds (shown g.S.Store c.args.self.now) (shown g.S.Store c.find.new.self) SELECT_ANSWER.now ps (Err c.in_err-row.field-0.0)) (search rules) c.in_err-row.ensures)

pub returns-in-None : goal.returns-in-None
returns-in-None g c entry kept =
    let finds : Finds (shown g.S.Store c.args.self.now) (shown g.S.Store c.find.new.self) SELECT_ANSWER.now (Text c.args.key.now ∷ []) (Ok c.in_ok-row.field-0) = subst (λ ps. Finds (shown g.S.Store c.args.self.now) (shown g.S.Store c.find.new.self) SELECT_ANSWER.now ps (Ok c.in_ok-row.field-0)) (search rules) c.in_ok-row.ensures in
    tells_found _ _ SELECT_ANSWER.now (Text c.args.key.now ∷ []) (TablesMean entry kept) (λ db is. subst (λ s. IsPlain (understood s SELECT_ANSWER.now)) (sym is.schema) select_answer.plain) (λ on found leaves. g.met.S.Store.settled c.args.self.now.conn.store found on leaves)
    c.in_ok-row.field-0 _ finds
    (λ means clean. sym (found_none kept c.args.key.now c.in_ok-row.field-0 c.in-None.is (answer_found _ _ entry kept means c.args.key.now c.in_ok-row.field-0 (finds.found clean))))

pub returns-in_err-value_at-in-Some : goal.returns-in_err-value_at-in-Some
returns-in_err-value_at-in-Some g c entry kept =
    let finds : Finds (shown g.S.Store c.args.self.now) (shown g.S.Store c.find.new.self) SELECT_ANSWER.now (Text c.args.key.now ∷ []) (Ok c.in_ok-row.field-0) = subst (λ ps. Finds (shown g.S.Store c.args.self.now) (shown g.S.Store c.find.new.self) SELECT_ANSWER.now ps (Ok c.in_ok-row.field-0)) (search rules) c.in_ok-row.ensures in
    tells_found _ _ SELECT_ANSWER.now (Text c.args.key.now ∷ []) (TablesMean entry kept) (λ db is. subst (λ s. IsPlain (understood s SELECT_ANSWER.now)) (sym is.schema) select_answer.plain) (λ on found leaves. g.met.S.Store.settled c.args.self.now.conn.store found on leaves)
    c.in_ok-row.field-0 _ finds
    (λ means clean.
    let it = found_some kept c.args.key.now c.in_ok-row.field-0 c.in-Some.row c.in-Some.is (answer_found _ _ entry kept means c.args.key.now c.in_ok-row.field-0 (finds.found clean)) in
    let at : HasValue c.in-Some.row 0 (Blob it.0) = has_value it.2 (omega arith) refl in
    passes_on c.from_residual-in_err-value_at-in-Some.result _ _ c.from_residual-in_err-value_at-in-Some.ensures.1
    (c.in_err-value_at-in-Some.ensures.found at.within (subst (λ v. (b : List ℕ) × (v ≡ Blob b)) (sym at.is) (it.0, refl))))

pub returns-in_ok-value_at-in-Some : goal.returns-in_ok-value_at-in-Some
returns-in_ok-value_at-in-Some g c entry kept =
    let finds : Finds (shown g.S.Store c.args.self.now) (shown g.S.Store c.find.new.self) SELECT_ANSWER.now (Text c.args.key.now ∷ []) (Ok c.in_ok-row.field-0) = subst (λ ps. Finds (shown g.S.Store c.args.self.now) (shown g.S.Store c.find.new.self) SELECT_ANSWER.now ps (Ok c.in_ok-row.field-0)) (search rules) c.in_ok-row.ensures in
    tells_found _ _ SELECT_ANSWER.now (Text c.args.key.now ∷ []) (TablesMean entry kept) (λ db is. subst (λ s. IsPlain (understood s SELECT_ANSWER.now)) (sym is.schema) select_answer.plain) (λ on found leaves. g.met.S.Store.settled c.args.self.now.conn.store found on leaves)
    c.in_ok-row.field-0 _ finds
    (λ means clean.
    let it = found_some kept c.args.key.now c.in_ok-row.field-0 c.in-Some.row c.in-Some.is (answer_found _ _ entry kept means c.args.key.now c.in_ok-row.field-0 (finds.found clean)) in
    let at : HasValue c.in-Some.row 0 (Blob it.0) = has_value it.2 (omega arith) refl in
    ap Some (blob_is _ _ it.0 (c.in_ok-value_at-in-Some.ensures.found at.within (subst (λ v. (b : List ℕ) × (v ≡ Blob b)) (sym at.is) (it.0, refl))) at.is) ∙ sym it.1)
