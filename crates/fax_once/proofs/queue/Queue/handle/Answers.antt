use Rattle.std.proofs.Common.{inl, inr, rules}
use Rattle.sqlite.specs.Held.{state}
use Rattle.fax_decide.specs.Settings.{settings_of}
use Rattle.fax_store.proofs.StoreLemmas.{means_stay}
use Rattle.fax_once.proofs.HandledLemmas.{stays_sound}
use Rattle.fax_once.proofs.StopLemmas.{stops_by_verdict, stops_failed}
use Rattle.fax_once.proofs.ShutLemmas.{never_failed, says_shut}
use Rattle.fax_once.proofs.VerdictLemmas.{gives_out, idle_by}
use Rattle.fax_once.proofs.queue.Queue.handle.Goals as goal

pub returns-in-Ok-clause-handled : goal.returns-in-Ok-clause-handled
returns-in-Ok-clause-handled g c m k sound means clean = inl (c.in-Ok.ensures.answered m k sound means clean)

pub returns-in-Err-clause-handled : goal.returns-in-Err-clause-handled
returns-in-Err-clause-handled g c m k sound means clean =
    inr (
      c.refused.ensures,
      gives_out (state g.S.Store c.is_shut.new.self.conn) m k clean
          (means_stay c.is_shut.ensures.leaves.served c.is_shut.ensures.leaves.stays m k (c.in-Err.ensures.answered m k sound means (c.is_shut.ensures.leaves.clean clean))),
    )

pub returns-in-Ok-clause-sound : goal.returns-in-Ok-clause-sound
returns-in-Ok-clause-sound g c m k sound means clean =
    stays_sound (settings_of c.args.self.now.office.setup c.args.self.now.office.controls) c.args.arrival.now m k c.in-Ok.reply (state g.S.Store c.answer.new.self.store.conn) sound
    (inl (c.in-Ok.ensures.answered m k sound means clean))

pub returns-in-Err-clause-sound : goal.returns-in-Err-clause-sound
returns-in-Err-clause-sound g c m k sound means clean =
    stays_sound (settings_of c.args.self.now.office.setup c.args.self.now.office.controls) c.args.arrival.now m k c.refused.result (state g.S.Store c.is_shut.new.self.conn) sound
    (returns-in-Err-clause-handled g c m k sound means clean)

pub returns-in-Err-clause-refused : goal.returns-in-Err-clause-refused
returns-in-Err-clause-refused g c refused db ours rests = c.is_shut.ensures.leaves.stays db ours (c.in-Err.ensures.leaves.unchanged tt db ours rests)

pub returns-in-Err-clause-seen : goal.returns-in-Err-clause-seen
returns-in-Err-clause-seen g c get db ours rests = c.is_shut.ensures.leaves.stays db ours (c.in-Err.ensures.seen get db ours rests)

pub returns-in-Err-clause-repeated : goal.returns-in-Err-clause-repeated
returns-in-Err-clause-repeated g c db ours rests used = c.is_shut.ensures.leaves.stays db ours (c.in-Err.ensures.repeated db ours rests used)

pub returns-in-Err-clause-crash : goal.returns-in-Err-clause-crash
returns-in-Err-clause-crash g c m k sound means =
    stops_failed (settings_of c.args.self.now.office.setup c.args.self.now.office.controls) c.args.arrival.now m k c.refused.result
    (state g.S.Store c.args.self.now.store.conn) (state g.S.Store c.is_shut.new.self.conn)
    (λ found may. c.in-Err.ensures.crash m k sound means found (c.is_shut.ensures.leaves.crash found may)) c.refused.ensures

pub returns-in-Ok-clause-crash : goal.returns-in-Ok-clause-crash
returns-in-Ok-clause-crash g c m k sound means found may =
    let it = c.in-Ok.ensures.answered m k sound means may.0 in
    stops_by_verdict (settings_of c.args.self.now.office.setup c.args.self.now.office.controls) c.args.arrival.now m k c.in-Ok.reply
    (state g.S.Store c.args.self.now.store.conn) (state g.S.Store c.answer.new.self.store.conn)
    (c.in-Ok.ensures.crash m k sound means) c.one_verdict.ensures.verdict it.0 it.1 it.2 found may

pub returns-in-Ok-clause-idle : goal.returns-in-Ok-clause-idle
returns-in-Ok-clause-idle g c m k sound means serves =
    idle_by (settings_of c.args.self.now.office.setup c.args.self.now.office.controls) c.args.arrival.now m k c.in-Ok.reply (state g.S.Store c.answer.new.self.store.conn)
    (inl (c.in-Ok.ensures.answered m k sound means serves.clean)) serves

pub returns-in-Err-clause-idle : goal.returns-in-Err-clause-idle
returns-in-Err-clause-idle g c m k sound means serves =
    idle_by (settings_of c.args.self.now.office.setup c.args.self.now.office.controls) c.args.arrival.now m k c.refused.result (state g.S.Store c.is_shut.new.self.conn)
    (returns-in-Err-clause-handled g c m k sound means serves.clean) serves

pub returns-in-Ok-clause-alone : goal.returns-in-Ok-clause-alone
returns-in-Ok-clause-alone g c serves found leaves = g.met.S.Store.settled c.answer.new.self.store.conn.store found serves.is_open leaves

pub returns-in-Err-clause-alone : goal.returns-in-Err-clause-alone
returns-in-Err-clause-alone g c serves found leaves = g.met.S.Store.settled c.is_shut.new.self.conn.store found serves.is_open leaves

pub returns-in-Err-clause-given : goal.returns-in-Err-clause-given
returns-in-Err-clause-given g c db ours rests given = c.is_shut.ensures.leaves.stays db ours (c.in-Err.ensures.given db ours rests given)

pub returns-in-Ok-clause-says : goal.returns-in-Ok-clause-says
returns-in-Ok-clause-says g c m k sound means clean failed =
    let old = state g.S.Store c.args.self.now.store.conn in
    absurd (never_failed (settings_of c.args.self.now.office.setup c.args.self.now.office.controls) c.args.arrival.now c.in-Ok.reply old
    (state g.S.Store c.answer.new.self.store.conn) c.no_verdict_is_unavailable.ensures (c.in-Ok.ensures.leaves.clean clean)
    (λ n l sane meant. c.in-Ok.ensures.answered n l sane meant clean) m k sound means failed)

pub returns-in-Err-clause-says : goal.returns-in-Err-clause-says
returns-in-Err-clause-says g c m k sound means clean failed = says_shut _ _ c.is_shut.result _ (search rules) (c.is_shut.ensures.says clean)
