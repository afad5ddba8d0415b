use Rattle.std.proofs.Common.{IfOk, subst, sym}
use Rattle.std.specs.Bool.{Decides}
use Rattle.fax_check.specs.Whole.{Shows}
use Rattle.fax_check.proofs.rows.shows.Goals as goal

pub returns-in-Jobs-clause-right : goal.returns-in-Jobs-clause-right
returns-in-Jobs-clause-right c = subst (λ query. IfOk c.shows_job.result (λ right. Decides right (Shows c.args.meta.now c.args.held.now query c.args.row.now))) (sym c.in-Jobs.is) c.shows_job.ensures.right

pub returns-in-Grants-clause-right : goal.returns-in-Grants-clause-right
returns-in-Grants-clause-right c = subst (λ query. IfOk c.shows_grant.result (λ right. Decides right (Shows c.args.meta.now c.args.held.now query c.args.row.now))) (sym c.in-Grants.is) c.shows_grant.ensures.right
