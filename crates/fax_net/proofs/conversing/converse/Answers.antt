use Rattle.std.proofs.Common.{◌≡◌, ◌∙◌, ◌<◌, true, false, ap, sym, arith}
use Rattle.fax_http.specs.Serving.{replying}
use Rattle.fax_net.specs.History.{room, talk, untaken}
use Rattle.fax_net.specs.Link.{is_due}
use Rattle.fax_net.specs.Lists.{is_none}
use Rattle.fax_net.proofs.ConversingLemmas.{either_moved, goes_answered, goes_awaiting, goes_ended, nothing_pending, turned}
use Rattle.fax_net.proofs.HistoryLemmas.{goes_both, goes_does, goes_more, goes_takes, goes_writes}
use Rattle.fax_net.proofs.LinkLemmas.{due_parts}
use Rattle.fax_net.proofs.RoomLemmas.{none_untaken, others_less, room_left}
use Rattle.fax_net.proofs.conversing.converse.Goals as goal

pub returns : goal.returns
returns g c count start first earlier runs below kept fresh known =
    let did = g.P.Peers.did in
    let answers = (replying g.H.Handler.answers g.H.Handler.together) in
    let over = g.H.Handler.over in
    let place = c.args.place in
    let came = goes_takes did answers over count place below start first earlier c.args.peers.now c.args.handler.now runs
    c.take_in-came.new.peers c.args.link.now c.take_in-came.new.link c.take_in-came.result c.take_in-came.ensures.does kept in
    let roomy : c.args.is_full ≡ false → is_due c.take_in-came.new.link ≡ true → untaken came.later < room = (λ empty due.
    let taken = none_untaken (talk place came.later) c.take_in-came.new.link came.holds (due_parts c.take_in-came.new.link due).1 in
    let less = others_less place came.later earlier came.others taken in
    let under = room_left (untaken earlier) c.args.is_full known empty in
    omega (arith, less, under)) in
    let one = goes_answered did answers over count place below start first came.later c.take_in-came.new.peers c.args.handler.now came.runs c.take_in-came.new.link came.holds
    c.answer-answered.new.handler c.answer-answered.new.link c.requires.on c.args.is_full c.answer-answered.result roomy
    (λ due. came.also.1 ∙ fresh (ap is_none (nothing_pending c.take_in-came.result c.args.link.now c.take_in-came.new.link c.take_in-came.ensures.still c.take_in-came.ensures.paid due))) c.answer-answered.ensures in
    let first_two = goes_both did answers over count place start first earlier _ _ _ _ _ _ _ _ _ _ came one in
    let two = goes_ended did answers over count place below start first first_two.later c.take_in-came.new.peers c.answer-answered.new.handler first_two.runs c.answer-answered.new.link first_two.holds
    c.end_input-refused.new.self c.end_input-refused.result c.end_input-refused.ensures in
    let both = goes_both did answers over count place start first earlier _ _ _ _ _ _ _ _ _ _ first_two two in
    let three = goes_writes did answers over count place below start first both.later c.take_in-came.new.peers c.answer-answered.new.handler both.runs
    c.write-written.new.peers c.end_input-refused.new.self c.write-written.new.link c.write-written.result c.write-written.ensures.does both.holds in
    let written = goes_both did answers over count place start first earlier _ _ _ _ _ _ _ _ _ _ both three in
    let four = goes_does did answers over count place below start first written.later c.write-written.new.peers c.answer-answered.new.handler written.runs
    c.leave-ended.new.peers c.write-written.new.link c.leave-ended.new.link c.leave-ended.result c.leave-ended.ensures.does written.holds in
    let left = goes_both did answers over count place start first earlier _ _ _ _ _ _ _ _ _ _ written four in
    let next = goes_awaiting did answers over count place start first earlier _ _ c.leave-ended.new.link c.await_next.new.self _ _ left c.await_next.ensures in
    let has = λ (wrote : c.write-written.result ≡ true). next.has_moved (either_moved _ c.write-written.result c.leave-ended.result wrote) in
    let five = goes_more did answers over count place below start first next.later c.leave-ended.new.peers c.answer-answered.new.handler next.runs
    c.take_more-read.new.peers c.await_next.new.self c.take_more-read.new.link c.write-written.result c.take_more-read.result c.take_more-read.ensures.does next.holds has in
    let all = goes_both did answers over count place start first earlier _ _ _ _ _ _ _ _ _ _ next five in
    turned did answers over count place start first earlier c.take_more-read.new.peers c.args.handler.now c.answer-answered.new.handler c.args.is_full
    c.take_in-came.new.link c.answer-answered.new.link c.end_input-refused.new.self c.write-written.new.link c.leave-ended.new.link c.await_next.new.self c.take_more-read.new.link
    c.take_in-came.result c.answer-answered.result c.end_input-refused.result c.write-written.result c.leave-ended.result c.take_more-read.result (talk place next.later)
    c.answer-answered.ensures c.end_input-refused.ensures c.write-written.ensures.still c.leave-ended.ensures.still
    (λ unread is. c.requires.taken (sym (ap (λ l. l.stage) (c.take_in-came.ensures.still unread)) ∙ is)) c.leave-ended.ensures.left
    c.await_next.ensures c.take_more-read.ensures.still all (λ unwritten unended unread owes. all.also.2 unread (next.also unended (written.also unwritten owes))) below c.args.link.now kept c.take_in-came.ensures.still known
    c.hold-closed.new.peers c.hold-closed.new.link c.hold-closed.result c.awaits.result c.hold-closed.ensures c.awaits.ensures
