use Rattle.std.proofs.Common.{sym, ◌∙◌}
use Rattle.fax_store.proofs.AdoptLemmas.{version_found, version_shown}
use Rattle.fax_store.proofs.FrameLemmas.{tests_by}
use Rattle.fax_store.proofs.store.Store.test_version.Goals as goal

pub returns-then-is_version : goal.returns-then-is_version
returns-then-is_version g c =
    let rows = sym c.as_slice.ensures.value ∙ c.is_version.ensures.0 c.if-is_version.true in
    tests_by g.S.Store _ c.in_ok-rows.ensures.leaves
    (λ tables clean. version_found c.args.version _ _ tables c.in_ok-rows.rows.items (c.in_ok-rows.ensures.found clean) rows)

pub returns : goal.returns
returns g c =
    tests_by g.S.Store _ c.in_ok-rows.ensures.leaves (λ tables clean version.
    let rows = c.as_slice.ensures.value ∙ version_shown c.args.version _ _ tables c.in_ok-rows.rows.items (c.in_ok-rows.ensures.found clean) version in
    absurd (let tested = c.is_version.ensures.1 rows in let untold = c.if-is_version.false in cc))
