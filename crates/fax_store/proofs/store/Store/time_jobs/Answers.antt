use Rattle.std.proofs.Common.{◌≡◌, Ok, Some, subst, ◌∙◌, []}
use Rattle.sqlite.specs.Effect.{Database}
use Rattle.sqlite.specs.Held.{state}
use Rattle.fax_tables.specs.declared.fault.StoreFault.{StoreFault}
use Rattle.sqlite.specs.State.{HasCleanDisk, Shown}
use Rattle.sqlite_value.specs.Value.{owned}
use Rattle.fax_schema.proofs.TimesTexts.{select_phases}
use Rattle.fax_schema.specs.declared.statements.TheConstants.{SELECT_META, SELECT_PHASES}
use Rattle.fax_store.proofs.TimedLemmas.{all_timed}
use Rattle.fax_store.proofs.TurnLemmas.{IsSameAnd, or_then, same_leaves, turns_found, turns_then}
use Rattle.fax_store.specs.Adopt.{AreTimed, HasNone, Turns}
use Rattle.fax_store.specs.Store.{FindsRow}
use Rattle.fax_store.proofs.store.Store.time_jobs.Goals as goal

pub show-requires : goal.show-requires
show-requires g c = select_phases.plain

pub returns : goal.returns
returns g c =
    let s0 = state g.S.Store c.args.self.now.conn in
    let s1 = state g.S.Store c.find.new.self.conn in
    let s2 = state g.S.Store c.show.new.self.conn in
    let last = (state g.S.Store c.time_rows.new.self.conn).now in
    let rows = c.in_ok-jobs.jobs.items in
    let meta : HasCleanDisk s1 → FindsRow SELECT_META.now [] s0 s1 (Some c.in-Some.meta) = λ clean. subst (FindsRow SELECT_META.now [] s0 s1) c.in-Some.is (c.in_ok-meta.ensures.found clean) in
    let clock = owned c.in_ok-clock.clock in
    let first : Turns {E = StoreFault} HasNone (IsSameAnd (((s1.now ≡ s0.now) × FindsRow SELECT_META.now [] s0 s1 (Some c.in-Some.meta)) × Shown SELECT_PHASES.now [] s1 s2 rows)) s0 s2 (Ok c.in_ok-jobs.jobs) =
    turns_then {P = HasNone} {After = HasNone} {Q = IsSameAnd (FindsRow SELECT_META.now [] s0 s1 (Some c.in-Some.meta))} {R = IsSameAnd (Shown SELECT_PHASES.now [] s1 s2 rows)} same_leaves (λ was one two. (two.0 ∙ one.0, ((one.0, one.1), two.1)))
    (turns_found g.S.Store c.in_ok-meta.ensures.leaves meta) (turns_found g.S.Store c.in_ok-jobs.ensures.leaves c.in_ok-jobs.ensures.found) in
    or_then {R = AreTimed clock c.as_slice.result.now} same_leaves
    (λ was found timed. all_timed s0 s1 s2 c.in-Some.meta rows clock last was found.1.0.1 found.1.0.0 c.in_ok-clock.ensures.ok.1 found.1.1
    (subst (λ rs. AreTimed clock rs s0.now last) c.as_slice.ensures.value (subst (λ (d : Database). AreTimed clock c.as_slice.result.now d last) found.0 timed)))
    first c.time_rows.ensures
