use Rattle.fax_core.proofs.LawfulLemmas.{requests_keep, alterations_keep, grants_keep, reports_keep}
use Rattle.fax_core.proofs.laws.kept_records.Goals as goal

pub returns-clause-requests : goal.returns-clause-requests
returns-clause-requests c = requests_keep

pub returns-clause-alterations : goal.returns-clause-alterations
returns-clause-alterations c = alterations_keep

pub returns-clause-grants : goal.returns-clause-grants
returns-clause-grants c = grants_keep

pub returns-clause-reports : goal.returns-clause-reports
returns-clause-reports c = reports_keep
