use Rattle.std.proofs.Common.{◌≡◌, ◌&&◌, ◌||◌, not, nat_lt, Ok, rules}
use Rattle.fax_check.specs.Whole.{is_held}
use Rattle.fax_check.proofs.RowsLemmas.{grant_decides, known_some, read_is, whole_row}
use Rattle.fax_tables.specs.Grant.{grant_shown}
use Rattle.fax_tables.specs.Tables.{IsLawfulGrant}
use Rattle.fax_check.proofs.rows.shows_grant.Goals.{then-grant-meta+then-not-grant, then-grant-meta+else-not-grant, else-grant-meta}
use Rattle.fax_check.proofs.rows.shows_grant.Goals as goal

pub returns-after-grant-meta-clause-right : goal.returns-after-grant-meta-clause-right
returns-after-grant-meta-clause-right c =
    let g = c.in-Some.grant in
    let read : c.grant_in.result ≡ Ok g = known_some c.grant_in.result g (search rules) in
    let shown : c.args.row.now ≡ grant_shown g = whole_row c.args.row.now (grant_shown g) (search rules) (search rules) in
    let lawful : IsLawfulGrant g = record { limits = search rules; modem = search rules } in
    let is : c.if-grant-meta.result ≡ (nat_lt g.number c.args.meta.now.next_grant && (not g.is_open || is_held c.args.held.now g)) =
    elim c.if-grant-meta.branch [ then-grant-meta+then-not-grant w ↦ search rules | then-grant-meta+else-not-grant w ↦ search rules | else-grant-meta w ↦ search rules ] in
    grant_decides c.args.row.now c.args.meta.now c.args.held.now g c.if-grant-meta.result shown lawful (λ x e l. read_is c.grant_in.result g x read (c.grant_in.ensures.found x e l)) is
