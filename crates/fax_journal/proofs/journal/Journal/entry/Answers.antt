use Rattle.std.proofs.Common.{◌≡◌, [], Some, sym, ap, subst, ◌∙◌}
use Rattle.sqlite.specs.Given.{IsPlain}
use Rattle.sqlite.specs.Listing.{understood}
use Rattle.fax_tables.specs.Fault.{OrUnavailable}
use Rattle.fax_tables.proofs.ResultLemmas.{passes_on}
use Rattle.fax_journal.specs.Journal.{TablesMean}
use Rattle.fax_journal.specs.declared.statements.TheConstants.{SELECT_ENTRY}
use Rattle.fax_journal.proofs.ChangeLemmas.{tells_found, tells_refused}
use Rattle.fax_journal.proofs.EntryLemmas.{entry_found, entry_is, none_entry, some_entry}
use Rattle.fax_journal.proofs.Texts.{select_entry}
use Rattle.fax_journal.proofs.journal.Journal.entry.Goals as goal

pub returns-in_err-row : goal.returns-in_err-row
returns-in_err-row g c entry kept =
    tells_refused _ _ SELECT_ENTRY.now [] (TablesMean entry kept) (λ db is. subst (λ s. IsPlain (understood s SELECT_ENTRY.now)) (sym is.schema) select_entry.plain) (λ on found leaves. g.met.S.Store.settled c.args.self.now.conn.store found on leaves)
    c.in_err-row.field-0.0 c.from_residual.result c.from_residual.ensures.1 c.in_err-row.ensures

pub returns-in-None : goal.returns-in-None
returns-in-None g c entry kept =
    tells_found _ _ SELECT_ENTRY.now [] (TablesMean entry kept) (λ db is. subst (λ s. IsPlain (understood s SELECT_ENTRY.now)) (sym is.schema) select_entry.plain) (λ on found leaves. g.met.S.Store.settled c.args.self.now.conn.store found on leaves)
    c.in_ok-row.field-0 _ c.in_ok-row.ensures
    (λ means clean. none_entry entry (sym c.in-None.is ∙ entry_found _ _ entry kept means c.in_ok-row.field-0 (c.in_ok-row.ensures.found clean)))

pub returns-in_err-entry_in-in-Some : goal.returns-in_err-entry_in-in-Some
returns-in_err-entry_in-in-Some g c entry kept =
    tells_found _ _ SELECT_ENTRY.now [] (TablesMean entry kept) (λ db is. subst (λ s. IsPlain (understood s SELECT_ENTRY.now)) (sym is.schema) select_entry.plain) (λ on found leaves. g.met.S.Store.settled c.args.self.now.conn.store found on leaves)
    c.in_ok-row.field-0 _ c.in_ok-row.ensures
    (λ means clean. some_entry entry c.in-Some.row (sym c.in-Some.is ∙ entry_found _ _ entry kept means c.in_ok-row.field-0 (c.in_ok-row.ensures.found clean)) means.valid
    (λ o. OrUnavailable c.from_residual-in_err-entry_in-in-Some.result (λ found. found ≡ o))
    (λ e is valid. passes_on c.from_residual-in_err-entry_in-in-Some.result _ _ c.from_residual-in_err-entry_in-in-Some.ensures.1 (c.in_err-entry_in-in-Some.ensures e is valid)))

pub returns-in_ok-entry_in-in-Some : goal.returns-in_ok-entry_in-in-Some
returns-in_ok-entry_in-in-Some g c entry kept =
    tells_found _ _ SELECT_ENTRY.now [] (TablesMean entry kept) (λ db is. subst (λ s. IsPlain (understood s SELECT_ENTRY.now)) (sym is.schema) select_entry.plain) (λ on found leaves. g.met.S.Store.settled c.args.self.now.conn.store found on leaves)
    c.in_ok-row.field-0 _ c.in_ok-row.ensures
    (λ means clean. entry_is entry _ c.in-Some.row (sym c.in-Some.is ∙ entry_found _ _ entry kept means c.in_ok-row.field-0 (c.in_ok-row.ensures.found clean)) means.valid
    (λ e is valid. ap Some (c.in_ok-entry_in-in-Some.ensures e is valid)))
