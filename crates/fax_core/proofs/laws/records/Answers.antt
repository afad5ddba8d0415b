use Rattle.fax_core.proofs.FitsLemmas.{record_again, job_again, fits_decides}
use Rattle.fax_core.proofs.laws.records.Goals as goal

pub returns-clause-record : goal.returns-clause-record
returns-clause-record c = record_again

pub returns-clause-job : goal.returns-clause-job
returns-clause-job c = job_again

pub returns-clause-fits : goal.returns-clause-fits
returns-clause-fits c = fits_decides
