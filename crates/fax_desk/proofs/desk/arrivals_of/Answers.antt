use Rattle.std.proofs.Common.{◌<◌, ◌&&◌, List, true, length, rules, subst, sym, take}
use Rattle.std.proofs.lemmas.List.{take_more}
use Rattle.fax_http.specs.declared.message.Message.{Message}
use Rattle.fax_desk.proofs.ArriveLemmas.{HaveArrived, none_arrived, one_arrived}
use Rattle.fax_desk.proofs.desk.arrivals_of.Goals as goal

pub loop-message-init : goal.loop-message-init
loop-message-init g c = record { as_many = λ _. search rules; arrived = none_arrived g.C.Clock.gives _ true _ (search rules) }

pub loop-message-preserved : goal.loop-message-preserved
loop-message-preserved g c =
    let i = c.loop-message.message-index in
    let here = c.loop-message.invariant in
    let are = c.loop-message.are_whole in
    let went = c.is_ok-are_whole.result in
    let all = c.args.messages.now in
    let low : i < length all = search rules in
    record {
      as_many = λ whole. search rules;
      arrived = subst (λ (messages : List Message). HaveArrived g.C.Clock.gives c.args.clock.now messages c.moment-moment.new.self (are && went) c.push.new.self.items)
          (sym (take_more all i _ low))
          (one_arrived g.C.Clock.gives _ _ _ (take i all) _ _ c.arrival_of.result are (are && went) c.loop-message.arrivals.items c.push.new.self.items here.arrived
          c.moment-moment.ensures c.arrival_of.ensures (λ whole. (search rules, search rules)));
    }
