use Rattle.std.proofs.Common.{◌≡◌, ◌-◌, drop, length, subst, refl}
use Rattle.fax_http.specs.Cut.{HoldsMessage, IfWhole}
use Rattle.fax_http.specs.Message.{IsTooLarge, StaysBad}
use Rattle.fax_http.proofs.TurnLemmas.{answered, never_begins}
use Rattle.fax_http.proofs.turn.answer_front.Goals as goal

pub returns-in-Ok-Whole : goal.returns-in-Ok-Whole
returns-in-Ok-Whole g c =
    let message = c.in-Ok-Whole.message in
    let rest = c.in-Ok-Whole.rest.now in
    answered g.H.Handler.answers g.H.Handler.over _ _ _ _ message rest
    (subst (λ i. HoldsMessage i message rest) c.bytes-input.ensures (subst (λ f. IfWhole f (HoldsMessage c.bytes-input.result.now)) c.in-Ok-Whole.field-0-is c.in-Ok-Whole.ensures.message))
    (subst (λ i. c.drop_front.new.self ≡ drop (length i - length rest) c.args.buffer.now) c.bytes-input.ensures c.drop_front.ensures)
    c.answer-found.result c.answer-found.ensures

pub returns-in-Err : goal.returns-in-Err
returns-in-Err g c =
    let begins = never_begins c.split_message.result c.args.buffer.now c.in-Err.broken c.in-Err.is
    (λ q. subst IsTooLarge c.bytes-input.ensures (c.split_message.ensures.too_large q))
    (λ q. subst StaysBad c.bytes-input.ensures (c.split_message.ensures.bad q)) in
    record {
      stays = record { same_handler = refl; same_bytes = refl };
      broken = c.in-Err.broken;
      some = begins.0;
      never = begins.1;
      spelled = c.refusal.ensures;
    }
