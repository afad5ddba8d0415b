use Rattle.fax_run.proofs.OnceLemmas.{runs_are_sound, runs_send_no_imported_page, runs_send_once}
use Rattle.fax_run.proofs.laws.no_page_twice.Goals as goal

pub returns-clause-sound : goal.returns-clause-sound
returns-clause-sound c = runs_are_sound

pub returns-clause-sent : goal.returns-clause-sent
returns-clause-sent c = runs_send_once

pub returns-clause-imported : goal.returns-clause-imported
returns-clause-imported c = runs_send_no_imported_page
