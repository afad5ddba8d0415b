use Rattle.std.proofs.Common.{ℕ, List, inl, inr, refl, sym, subst, ◌∙◌, false}
use Rattle.sqlite.specs.Held.{state}
use Rattle.fax_desk.specs.Replaying.{settings_in}
use Rattle.fax_http.specs.Device.{BrokeOff, Put}
use Rattle.faxqd.proofs.ListLemmas.{is_seen}
use Rattle.faxqd.proofs.list.list_queue.Goals as goal

pub returns-then-status-ne200-clause-shown : goal.returns-then-status-ne200-clause-shown
returns-then-status-ne200-clause-shown g c = (
  c.view-reply.result,
  is_seen (settings_in c.args.queue.office) c.args.moment (state g.S.Store c.args.queue.store.conn) (state g.S.Store c.view-reply.new.self.store.conn) c.view-reply.result
      c.view-reply.ensures.stays c.view-reply.ensures.clean c.view-reply.ensures.viewed c.view-reply.ensures.crash,
  rw c.failed.ensures.status (inl (λ e. c.if-status-ne200.true (c.status.ensures ∙ e), refl, c.failed.ensures.says)),
)

pub returns-in-Ok-clause-shown : goal.returns-in-Ok-clause-shown
returns-in-Ok-clause-shown g c = (
  c.view-reply.result,
  is_seen (settings_in c.args.queue.office) c.args.moment (state g.S.Store c.args.queue.store.conn) (state g.S.Store c.view-reply.new.self.store.conn) c.view-reply.result
      c.view-reply.ensures.stays c.view-reply.ensures.clean c.view-reply.ensures.viewed c.view-reply.ensures.crash,
  rw c.well.ensures.status (
    sym c.status.ensures ∙ c.if-status-ne200.false,
    subst (λ (bytes : List ℕ). Put g.W.Write.contents c.args.out.now c.put.new.self bytes false) c.body.ensures c.in-Ok.ensures.ok,
    c.well.ensures.says,
  ),
)

pub returns-clause-shown : goal.returns-clause-shown
returns-clause-shown g c = (
  c.view-reply.result,
  is_seen (settings_in c.args.queue.office) c.args.moment (state g.S.Store c.args.queue.store.conn) (state g.S.Store c.view-reply.new.self.store.conn) c.view-reply.result
      c.view-reply.ensures.stays c.view-reply.ensures.clean c.view-reply.ensures.viewed c.view-reply.ensures.crash,
  rw c.failed-in-Err.ensures.status (inr (
    sym c.status.ensures ∙ c.if-status-ne200.false,
    subst (λ (bytes : List ℕ). BrokeOff g.W.Write.contents c.args.out.now c.put.new.self bytes) c.body.ensures c.in-Err.ensures.err,
    c.failed-in-Err.ensures.says,
  )),
)
