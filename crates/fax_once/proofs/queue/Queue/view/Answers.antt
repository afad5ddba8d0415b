use Rattle.sqlite.specs.Held.{state}
use Rattle.fax_decide.specs.Settings.{settings_of}
use Rattle.fax_once.proofs.StopLemmas.{gets_nothing}
use Rattle.fax_once.proofs.queue.Queue.view.Goals as goal

pub returns-clause-viewed : goal.returns-clause-viewed
returns-clause-viewed g c m k sound means clean = (c.get-arrival.result, c.get-arrival.ensures.method, c.get-arrival.ensures.path, c.get-arrival.ensures.moment, c.handle.ensures.handled m k sound means clean)

pub returns-clause-stays : goal.returns-clause-stays
returns-clause-stays g c = c.handle.ensures.seen c.get-arrival.ensures.method

pub returns-clause-crash : goal.returns-clause-crash
returns-clause-crash g c m k sound means =
    gets_nothing (settings_of c.args.self.now.office.setup c.args.self.now.office.controls) c.get-arrival.result m k c.handle.result (state g.S.Store c.args.self.now.store.conn) (state g.S.Store c.handle.new.self.store.conn)
    c.get-arrival.ensures.method (c.handle.ensures.crash m k sound means)
