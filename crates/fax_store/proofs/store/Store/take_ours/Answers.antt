use Rattle.std.proofs.Common.{rules, ◌≡◌}
use Rattle.sqlite.specs.Held.{state}
use Rattle.fax_tables.specs.Tables.{version_of}
use Rattle.sqlite.specs.State.{HasCleanDisk}
use Rattle.fax_tables.proofs.CreateLemmas.{refused_keeps}
use Rattle.fax_store.specs.Adopt.{AreOnTheWay}
use Rattle.fax_store.specs.declared.store.TheConstants.{BEGIN}
use Rattle.fax_store.proofs.AdoptLemmas.{HasBegun, filling_holds_back, filling_kept, has_none, has_taken, not_taken, renewing_holds_back, renewing_kept, rests_committed, settles_done, settles_refused, starts, still_callable, still_means, still_version, takes_refused, taking_stops, told_strange, has_begun}
use Rattle.fax_store.proofs.StoreLemmas.{clean_in, commit_opens}
use Rattle.fax_store.proofs.StopLemmas.{begin_nothing}
use Rattle.fax_store.proofs.store.Store.take_ours.Goals as goal

pub returns-in_err-execute : goal.returns-in_err-execute
returns-in_err-execute g c =
    takes_refused _ _ _ _ _ c.from_residual.result c.from_residual.ensures.0 (clean_in c.execute.ensures.survives) (λ clean. refused_keeps _ _ BEGIN.now c.in_err-execute.field-0.0 (c.in_err-execute.ensures.runs clean))
    (begin_nothing _ _ c.execute.ensures.survives) (search rules)

pub returns-in_err-renew : goal.returns-in_err-renew
returns-in_err-renew g c =
    let begun : HasBegun (AreOnTheWay c.args.way) _ _ = has_begun c.in_ok-execute.field-0 c.requires c.execute.ensures.survives c.in_ok-execute.ensures.runs in
    let renews = c.in_err-renew.ensures.leaves in
    takes_refused _ _ _ _ _ c.from_residual-in_err-renew.result c.from_residual-in_err-renew.ensures.0 (λ clean. clean_in begun.survives (renews.clean clean))
    (renewing_kept c.args.way _ _ _ begun _ renews) (renewing_holds_back c.args.way _ _ _ begun _ renews) (search rules)

pub returns-in_err-fill : goal.returns-in_err-fill
returns-in_err-fill g c =
    let version : c.version_in-version.result ≡ version_of (state g.S.Store c.args.self.now.conn).now.schema = search rules in
    let begun : HasBegun (AreOnTheWay c.args.way) _ _ = has_begun c.in_ok-execute.field-0 c.requires c.execute.ensures.survives c.in_ok-execute.ensures.runs in
    let renews = c.in_ok-renew.ensures.leaves in
    let fills = c.in_err-fill.ensures.leaves in
    let result = c.from_residual-in_err-fill.result in
    let told = c.from_residual-in_err-fill.ensures in
    takes_refused _ _ _ _ _ result told.0 (λ clean. clean_in begun.survives (renews.clean (fills.clean clean)))
    (filling_kept c.args.way _ _ _ begun renews _ version _ _ fills) (filling_holds_back c.args.way _ _ _ begun renews _ version _ _ fills)
    (λ clean is ours. let at = fills.clean clean in
    c.in_err-fill.ensures.strange clean (told_strange result c.in_err-fill.field-0.0 told.1 is) (has_none c.args.way _ _ _ begun renews _ version at)
    (still_version c.args.way _ _ _ begun renews _ version at ours.version) (still_callable c.args.way _ _ _ begun renews _ version at ours.held))

pub returns-in_err-execute-2 : goal.returns-in_err-execute-2
returns-in_err-execute-2 g c =
    let version : c.version_in-version.result ≡ version_of (state g.S.Store c.args.self.now.conn).now.schema = search rules in
    let begun : HasBegun (AreOnTheWay c.args.way) _ _ = has_begun c.in_ok-execute.field-0 c.requires c.execute.ensures.survives c.in_ok-execute.ensures.runs in
    let renews = c.in_ok-renew.ensures.leaves in
    let fills = c.in_ok-fill.ensures.leaves in
    let clean3 = clean_in c.execute-2.ensures.survives in
    record {
      settles = settles_refused _ _ c.from_residual-in_err-execute-2.result c.from_residual-in_err-execute-2.ensures.0 (λ clean. clean_in begun.survives (renews.clean (fills.clean (clean3 clean))))
          (λ clean. not_taken c.args.way _ _ _ begun renews _ version _ fills _ c.in_err-execute-2.field-0.0 (clean3 clean) (c.in_err-execute-2.ensures.runs clean));
      taken = search rules;
      means = search rules;
      crash = taking_stops c.args.way _ _ _ begun renews _ version _ fills _ c.execute-2.ensures.survives;
      nothing = search rules;
      strange = search rules;
    }

pub returns : goal.returns
returns g c =
    let version : c.version_in-version.result ≡ version_of (state g.S.Store c.args.self.now.conn).now.schema = search rules in
    let begun : HasBegun (AreOnTheWay c.args.way) _ _ = has_begun c.in_ok-execute.field-0 c.requires c.execute.ensures.survives c.in_ok-execute.ensures.runs in
    let renews = c.in_ok-renew.ensures.leaves in
    let fills = c.in_ok-fill.ensures.leaves in
    let done = c.in_ok-execute-2.ensures.runs in
    let clean3 = clean_in c.execute-2.ensures.survives in
    let clean1 = λ (clean : HasCleanDisk (state g.S.Store c.execute-2.new.self)). renews.clean (fills.clean (clean3 clean)) in
    record {
      settles = settles_done _ _ _ (λ clean. clean_in begun.survives (clean1 clean)) (λ clean. (starts begun (clean1 clean)).was_open)
          (commit_opens _ _ c.execute-2.ensures.survives.clean c.in_ok-execute-2.field-0 done);
      taken = λ clean. has_taken c.args.way _ _ _ begun renews _ version _ fills _ c.in_ok-execute-2.field-0 (clean3 clean) (done clean);
      means = λ m k clean ours mean. let at = fills.clean (clean3 clean) in
          rests_committed _ _ c.in_ok-execute-2.field-0 (done clean) m k
          (c.in_ok-fill.ensures.counted m k (has_none c.args.way _ _ _ begun renews _ version at) (clean3 clean) (still_means c.args.way _ _ _ begun renews _ version at m k mean));
      crash = taking_stops c.args.way _ _ _ begun renews _ version _ fills _ c.execute-2.ensures.survives;
      nothing = search rules;
      strange = search rules;
    }
