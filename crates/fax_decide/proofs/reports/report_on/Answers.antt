use Rattle.std.proofs.Common.{sym, ◌∙◌, true≢false}
use Rattle.fax_decide.proofs.KeptLemmas.{fits_there}
use Rattle.fax_decide.proofs.LookingLemmas.{gives, goes_on, no_call}
use Rattle.fax_decide.proofs.ReportLemmas.{goes_there}
use Rattle.fax_decide.proofs.reports.report_on.Goals as goal

pub returns-in-Call-clause-consults : goal.returns-in-Call-clause-consults
returns-in-Call-clause-consults g c = goes_on no_call (λ m k at none sound there few.
    rw c.in-Call.is (c.decide_call.ensures.decided m there few (λ is_open. (fits_there m c.args.t c.args.job c.args.grant sound there is_open, goes_there m c.args.t c.args.job c.args.grant sound there is_open))))

pub returns-in-Page-clause-consults : goal.returns-in-Page-clause-consults
returns-in-Page-clause-consults g c = goes_on no_call (λ m k at none sound there few.
    rw c.in-Page.is (c.decide_page.ensures.decided m there few (λ is_open. (fits_there m c.args.t c.args.job c.args.grant sound there is_open, goes_there m c.args.t c.args.job c.args.grant sound there is_open))))

pub returns-in-Outcome-clause-consults : goal.returns-in-Outcome-clause-consults
returns-in-Outcome-clause-consults g c = gives c.decide_outcome.ensures.consults (λ m k at decided sound there few.
    rw c.in-Outcome.is (decided sound there))

pub returns-then-not-fits-clause-consults : goal.returns-then-not-fits-clause-consults
returns-then-not-fits-clause-consults g c = goes_on no_call (λ m k at none sound there few.
    absurd (true≢false (sym (c.fits.ensures ∙ fits_there m c.args.t c.args.job c.args.grant sound there c.if-grant.true) ∙ c.if-not-fits.true)))
