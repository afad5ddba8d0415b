use Rattle.std.proofs.Common.{subst, sym}
use Rattle.fax_http.specs.Message.{IsUnfinished}
use Rattle.fax_http.proofs.ExchangeLemmas.{ended, ends_here, goes_on, reading_stays, refused}
use Rattle.fax_http.proofs.exchange.serve_one.Goals as goal

pub returns-then-count-eq0 : goal.returns-then-count-eq0
returns-then-count-eq0 g c =
    let stays = c.in-NotYet.ensures.0 in
    ended g.R.Read.remaining g.W.Write.contents g.H.Handler.answers g.H.Handler.over _ _ _ _ _ _ _ _ _ _ _ _ c.end_input.result
    (reading_stays g.R.Read.remaining g.H.Handler.answers g.H.Handler.over _ _ _ _ _ _ _ _ _ _ c.loop-reply.invariant stays)
    (subst IsUnfinished (sym stays.same_bytes) c.in-NotYet.ensures.1)
    c.in-Ok.ensures.ok c.if-count-eq0.true c.end_input.ensures.none c.end_input.ensures.some

pub returns-in-Answered : goal.returns-in-Answered
returns-in-Answered g c =
    goes_on g.R.Read.remaining g.W.Write.contents g.H.Handler.answers g.H.Handler.over _ _ _ _ _ _ _ _ _ _ _ c.loop-reply.invariant
    _ c.in-Answered.ensures.0 c.in-Answered.ensures.1 c.in-Answered.ensures.2 c.write_reply.result c.write_reply.ensures

pub returns-in-Last : goal.returns-in-Last
returns-in-Last g c =
    ends_here g.R.Read.remaining g.W.Write.contents g.H.Handler.answers g.H.Handler.over _ _ _ _ _ _ _ _ _ _ _ c.loop-reply.invariant
    _ c.in-Last.ensures.0 c.in-Last.ensures.1 c.write_reply-in-Last.result c.write_reply-in-Last.ensures

pub returns-in-Refused : goal.returns-in-Refused
returns-in-Refused g c =
    refused g.R.Read.remaining g.W.Write.contents g.H.Handler.answers g.H.Handler.over _ _ _ _ _ _ _ _ _ _ _ c.loop-reply.invariant
    _ c.in-Refused.ensures c.refuse.result c.refuse.ensures
