use Rattle.std.proofs.Common.{inl, inr, refl, rules, subst}
use Rattle.std.specs.Prelude.{⊤}
use Rattle.sqlite.specs.Held.{state}
use Rattle.sqlite.specs.State.{HasCleanDisk}
use Rattle.fax_decide.proofs.FaultLemmas.{only_no_answer, passed_on}
use Rattle.fax_decide.proofs.WorkLemmas.{refused_with}
use Rattle.fax_decide.specs.Settings.{settings_of}
use Rattle.fax_store.proofs.FrameLemmas.{means_now}
use Rattle.fax_store.proofs.StoreLemmas.{means_stay}
use Rattle.fax_once.proofs.LookingLemmas.{told_leaves, verdict_answers}
use Rattle.fax_once.specs.Looking.{IsFound, IsFresh, IsKnown}
use Rattle.fax_once.proofs.queue.Queue.answer.Goals as goal

pub returns-in_err-reply-clause-leaves : goal.returns-in_err-reply-clause-leaves
returns-in_err-reply-clause-leaves g c =
    let look = c.in_err-reply.ensures.leaves in
    record { office = search rules; clean = look.clean; unchanged = λ refused. look.stays }

pub returns-in_err-reply-clause-seen : goal.returns-in_err-reply-clause-seen
returns-in_err-reply-clause-seen g c get = c.in_err-reply.ensures.leaves.stays

pub returns-in_err-reply-clause-repeated : goal.returns-in_err-reply-clause-repeated
returns-in_err-reply-clause-repeated g c db ours rests used = c.in_err-reply.ensures.leaves.stays db ours rests

pub returns-in_err-reply-clause-given : goal.returns-in_err-reply-clause-given
returns-in_err-reply-clause-given g c db ours rests given = c.in_err-reply.ensures.leaves.stays db ours rests

pub returns-in_err-reply-clause-crash : goal.returns-in_err-reply-clause-crash
returns-in_err-reply-clause-crash g c m k sound means found may = inl (c.in_err-reply.ensures.leaves.crash found may)

pub returns-in_err-reply-clause-answered : goal.returns-in_err-reply-clause-answered
returns-in_err-reply-clause-answered g c m k sound means clean =
    let look = c.in_err-reply.ensures.leaves in
    refused_with c.from_residual.result _ _ c.from_residual.ensures.0 (means_stay look.served look.stays m k means)

pub returns-in_err-reply-clause-cause : goal.returns-in_err-reply-clause-cause
returns-in_err-reply-clause-cause g c m k sound means serves =
    let given = c.from_residual in
    only_no_answer given.result (λ _. ⊤)
    (passed_on given.result c.in_err-reply.field-0.0 (λ _. ⊤) given.ensures.1 (c.in_err-reply.ensures.cause m m k sound (inl refl) (means_now means) serves))

pub returns-in-Known-clause-leaves : goal.returns-in-Known-clause-leaves
returns-in-Known-clause-leaves g c =
    let look = c.in_ok-reply.ensures.leaves in
    record { office = search rules; clean = look.clean; unchanged = λ refused. look.stays }

pub returns-in-Known-clause-seen : goal.returns-in-Known-clause-seen
returns-in-Known-clause-seen g c get = c.in_ok-reply.ensures.leaves.stays

pub returns-in-Known-clause-repeated : goal.returns-in-Known-clause-repeated
returns-in-Known-clause-repeated g c db ours rests used = c.in_ok-reply.ensures.leaves.stays db ours rests

pub returns-in-Known-clause-given : goal.returns-in-Known-clause-given
returns-in-Known-clause-given g c db ours rests given = c.in_ok-reply.ensures.leaves.stays db ours rests

pub returns-in-Known-clause-crash : goal.returns-in-Known-clause-crash
returns-in-Known-clause-crash g c m k sound means found may = inl (c.in_ok-reply.ensures.leaves.crash found may)

pub returns-in-Known-clause-answered : goal.returns-in-Known-clause-answered
returns-in-Known-clause-answered g c m k sound means clean =
    let look = c.in_ok-reply.ensures in
    let new = state g.S.Store c.look_up.new.store.conn in
    let s = settings_of c.args.self.now.office.setup c.args.self.now.office.controls in
    let found = subst (IsFound s c.args.arrival.now m k new) c.in-Known.is (look.found m m k sound (inl refl) (means_now means) clean) in
    (found.0, found.1, told_leaves m k c.in-Known.reply new found.0 found.2 (means_stay look.leaves.served look.leaves.stays m k means))

pub returns-in-New-clause-leaves : goal.returns-in-New-clause-leaves
returns-in-New-clause-leaves g c =
    let look = c.in_ok-reply.ensures.leaves in
    let step = c.step_once.ensures.leaves in
    record {
      office = search rules;
      clean = λ clean. look.clean (step.clean clean);
      unchanged = λ refused db ours rests. step.unchanged refused db ours (look.stays db ours rests);
    }

pub returns-in-New-clause-seen : goal.returns-in-New-clause-seen
returns-in-New-clause-seen g c get = absurd (subst IsKnown c.in-New.is (c.in_ok-reply.ensures.seen get))

pub returns-in-New-clause-repeated : goal.returns-in-New-clause-repeated
returns-in-New-clause-repeated g c db ours rests used serves =
    let look = c.in_ok-reply.ensures in
    let fresh = subst (IsFresh c.args.arrival.now (state g.S.Store c.look_up.new.store.conn)) c.in-New.is look.fresh in
    let read = fresh.2 (c.step_once.ensures.leaves.clean serves.clean) in
    absurd (subst IsKnown c.in-New.is (look.used db ours (rests (look.leaves.served read)).now read.clean used))

pub returns-in-New-clause-given : goal.returns-in-New-clause-given
returns-in-New-clause-given g c db ours rests given serves =
    let look = c.in_ok-reply.ensures in
    let fresh = subst (IsFresh c.args.arrival.now (state g.S.Store c.look_up.new.store.conn)) c.in-New.is look.fresh in
    let read = fresh.2 (c.step_once.ensures.leaves.clean serves.clean) in
    absurd (subst IsKnown c.in-New.is (look.given db ours (rests (look.leaves.served read)).now read.clean given))

pub returns-in-New-clause-crash : goal.returns-in-New-clause-crash
returns-in-New-clause-crash g c m k sound means found may =
    let look = c.in_ok-reply.ensures in
    let a = c.args.arrival.now in
    let mid = state g.S.Store c.look_up.new.store.conn in
    let s = settings_of c.args.self.now.office.setup c.args.self.now.office.controls in
    let fresh = subst (IsFresh a mid) c.in-New.is look.fresh in
    let finds = λ (clean : HasCleanDisk mid). subst (IsFound s a m k mid) c.in-New.is (look.found m m k sound (inl refl) (means_now means) clean) in
    let comes = c.step_once.ensures.comes m k sound (means_stay look.leaves.served look.leaves.stays m k means) fresh.0
    (record { opens = fresh.2; unkept = λ serves. (finds serves.clean).1 }) in
    elim (comes.crash found may) [
      | inl before ↦ inl (look.leaves.crash found before)
      | inr made ↦ inr (_, (finds made.0.clean).0, made.1)
    ]

pub returns-in-New-clause-answered : goal.returns-in-New-clause-answered
returns-in-New-clause-answered g c m k sound means clean =
    let look = c.in_ok-reply.ensures in
    let a = c.args.arrival.now in
    let mid = state g.S.Store c.look_up.new.store.conn in
    let s = settings_of c.args.self.now.office.setup c.args.self.now.office.controls in
    let fresh = subst (IsFresh a mid) c.in-New.is look.fresh in
    let finds = λ (clean : HasCleanDisk mid). subst (IsFound s a m k mid) c.in-New.is (look.found m m k sound (inl refl) (means_now means) clean) in
    let comes = c.step_once.ensures.comes m k sound (means_stay look.leaves.served look.leaves.stays m k means) fresh.0
    (record { opens = fresh.2; unkept = λ serves. (finds serves.clean).1 }) in
    verdict_answers c.step_once.result s a m k _ (state g.S.Store c.step_once.new.self.store.conn) (finds (c.step_once.ensures.leaves.clean clean)).0 (comes.leaves clean)

pub returns-in-New-clause-cause : goal.returns-in-New-clause-cause
returns-in-New-clause-cause g c m k sound means =
    let look = c.in_ok-reply.ensures in
    let a = c.args.arrival.now in
    let mid = state g.S.Store c.look_up.new.store.conn in
    let s = settings_of c.args.self.now.office.setup c.args.self.now.office.controls in
    let fresh = subst (IsFresh a mid) c.in-New.is look.fresh in
    let finds = λ (clean : HasCleanDisk mid). subst (IsFound s a m k mid) c.in-New.is (look.found m m k sound (inl refl) (means_now means) clean) in
    (c.step_once.ensures.comes m k sound (means_stay look.leaves.served look.leaves.stays m k means) fresh.0
    (record { opens = fresh.2; unkept = λ serves. (finds serves.clean).1 })).cause
