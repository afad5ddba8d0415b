use Rattle.std.proofs.Common.{◌≢◌, [], rules}
use Rattle.sqlite.specs.Effect.{Database}
use Rattle.fax_schema.proofs.StatementTexts as texts
use Rattle.fax_schema.specs.Schema.{meta_tree}
use Rattle.fax_schema.specs.declared.statements.TheConstants.{UPDATE_VERSION}
use Rattle.fax_store.proofs.AdoptLemmas.{settled_earlier, strays_leaves, times_leave, version_raised}
use Rattle.fax_store.proofs.FrameLemmas.{edits_with}
use Rattle.fax_store.proofs.StatementLemmas.{edit_text}
use Rattle.fax_store.proofs.TurnLemmas.{or_refused_then, or_then, turns_edit}
use Rattle.fax_store.specs.Adopt.{HasNoStrays, HasThird, HasTimes}
use Rattle.fax_store.proofs.store.Store.settle_version.Goals as goal

pub run-requires : goal.run-requires
run-requires g c = edit_text UPDATE_VERSION.now _ tt texts.update_version

pub returns-in_err-time_jobs : goal.returns-in_err-time_jobs
returns-in_err-time_jobs g c = or_refused_then c.from_residual-in_err-time_jobs.result c.from_residual-in_err-time_jobs.ensures.1 strays_leaves c.in_ok-drop_strays.ensures.leaves c.in_err-time_jobs.ensures

pub returns : goal.returns
returns g c =
    let edits = edits_with g.S.Store _ _ _ UPDATE_VERSION.now _ [] (search rules) c.run.ensures in
    let earlier : c.args.version ≢ 3 = search rules in
    or_then {Q = HasNoStrays} {R = λ db after. (mid : Database) × HasTimes db mid × HasThird mid after} strays_leaves
    (λ was strays rest. settled_earlier c.args.version _ _ rest.0 _ earlier strays rest.1 rest.2) c.in_ok-drop_strays.ensures.leaves
    (or_then {Q = HasTimes} {R = HasThird} times_leave (λ was times third. (_, times, third)) c.in_ok-time_jobs.ensures.leaves (turns_edit g.S.Store meta_tree edits (λ was ran. version_raised _ _ was ran)))
