use Rattle.fax_tables.proofs.ResultLemmas.{passes_on}
use Rattle.fax_tables.proofs.TextLemmas.{name_text}
use Rattle.fax_journal.proofs.FormLemmas.{client_there, last_there, request_there, held_there}
use Rattle.fax_journal.proofs.ReadingLemmas.{same_entry}
use Rattle.fax_journal.proofs.reading.entry_in.Goals as goal

pub returns-in_err-client : goal.returns-in_err-client
returns-in_err-client c e is valid =
    passes_on c.from_residual.result _ _ c.from_residual.ensures.1 (c.in_err-client.ensures.found e.client (client_there e c.args.row.now is) (name_text e.client valid.client))

pub returns-in_err-last : goal.returns-in_err-last
returns-in_err-last c e is valid =
    passes_on c.from_residual-in_err-last.result _ _ c.from_residual-in_err-last.ensures.1 (c.in_err-last.ensures e.last (last_there e c.args.row.now is) valid.last)

pub returns-in_err-unanswered : goal.returns-in_err-unanswered
returns-in_err-unanswered c e is valid =
    passes_on c.from_residual-in_err-unanswered.result _ _ c.from_residual-in_err-unanswered.ensures.1 (c.in_err-unanswered.ensures e.unanswered (request_there e c.args.row.now is) valid.unanswered)

pub returns-in_err-held : goal.returns-in_err-held
returns-in_err-held c e is valid =
    passes_on c.from_residual-in_err-held.result _ _ c.from_residual-in_err-held.ensures.1 (c.in_err-held.ensures e.held (held_there e c.args.row.now is) valid.held)

pub returns : goal.returns
returns c e is valid =
    same_entry e _ _ _ _ (c.in_ok-client.ensures.found e.client (client_there e c.args.row.now is) (name_text e.client valid.client))
    (c.in_ok-last.ensures e.last (last_there e c.args.row.now is) valid.last)
    (c.in_ok-unanswered.ensures e.unanswered (request_there e c.args.row.now is) valid.unanswered)
    (c.in_ok-held.ensures e.held (held_there e c.args.row.now is) valid.held)
