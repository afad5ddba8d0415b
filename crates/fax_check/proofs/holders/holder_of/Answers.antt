use Rattle.std.proofs.Common.{Some, subst, refl, rules}
use Rattle.std.specs.Prelude.{IsTrue}
use Rattle.sqlite.specs.Held.{state}
use Rattle.fax_check.specs.Holders.{IsJobFound}
use Rattle.fax_check.proofs.HolderLemmas.{misfit_found, no_job_found}
use Rattle.fax_check.proofs.TellsLemmas.{ok_as}
use Rattle.fax_core.specs.Fits.{fits}
use Rattle.fax_check.proofs.holders.holder_of.Goals.{in_default-via-in-Some+else-fits, in_default-via-in_default}
use Rattle.fax_check.proofs.holders.holder_of.Goals as goal

pub returns-in-Some : goal.returns-in-Some
returns-in-Some g c =
    let old = state g.S.Store c.args.conn.now in
    let new = state g.S.Store c.job_of.new.conn in
    let grant = c.args.grant in
    ok_as old new _ _ _ _ c.in_ok-job.ensures (λ stored found.
    let there = subst (IsJobFound old.now grant.job) c.in-Some.is found in
    let fit : IsTrue (fits c.in-Some.job (Some grant)) = search rules in
    (c.in-Some.job, record { has = there.0; its = there.1; fit = fit }, record { modem = refl; job = refl; grant = refl; dial = search rules }))

pub returns-in_default : goal.returns-in_default
returns-in_default g c =
    let old = state g.S.Store c.args.conn.now in
    let new = state g.S.Store c.job_of.new.conn in
    ok_as old new _ _ _ _ c.in_ok-job.ensures (λ stored found. elim c.in_default.branch [
      | in_default-via-in-Some+else-fits w ↦ misfit_found old.now stored c.args.grant w.in-Some.job (subst (IsJobFound old.now c.args.grant.job) w.in-Some.is found) (search rules)
      | in_default-via-in_default w ↦ no_job_found old.now stored c.args.grant (subst (IsJobFound old.now c.args.grant.job) w.in_default.is found)
    ])
