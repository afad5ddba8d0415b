use Rattle.std.proofs.Common.{IfSome, ap, inl, refl, rules, subst, sym, ◌∙◌}
use Rattle.fax_client.specs.Answered.{IsReadAs}
use Rattle.fax_client.specs.Message.{message_of}
use Rattle.fax_client.specs.Posting.{clients}
use Rattle.fax_client.proofs.CourseLemmas.{none_more, then_pauses, tries}
use Rattle.fax_client.proofs.SavedLemmas.{no_value}
use Rattle.fax_client.proofs.posting.ask_until_answered.Goals as goal

pub loop-init : goal.loop-init
loop-init g c = (search rules, c.in_ok-asked.ensures, λ first earlier x un own at. (earlier, (none_more earlier, at)))

pub returns-in_err-answer : goal.returns-in_err-answer
returns-in_err-answer g c first earlier x un own at =
    let now = c.loop.invariant.2 first earlier x un own at in
    let did = c.in_err-answer.ensures in
    let t = tries g.S.Store g.L.Line.carries g.L.Line.pauses clients first earlier now.0 _ _ _ x c.args.journal.now c.as_slice.result.now did.0 c.args.request.now now.1 did.1 (inl refl) un (c.as_slice.ensures.value ∙ c.loop.invariant.0 ∙ ap (λ n. message_of n c.args.request.now) (sym own)) in
    (t.0, t.1, no_value _ c.from_residual-in_err-answer.result c.from_residual-in_err-answer.ensures.0)

pub returns-in-Some : goal.returns-in-Some
returns-in-Some g c first earlier x un own at =
    let now = c.loop.invariant.2 first earlier x un own at in
    let did = c.in_ok-answer.ensures in
    let t = tries g.S.Store g.L.Line.carries g.L.Line.pauses clients first earlier now.0 _ _ _ x c.args.journal.now c.as_slice.result.now did.0 c.args.request.now now.1 did.1 (inl refl) un (c.as_slice.ensures.value ∙ c.loop.invariant.0 ∙ ap (λ n. message_of n c.args.request.now) (sym own)) in
    (t.0, t.1, record { journal = c.args.journal.now; back = did.0; came = t.2; read = subst (λ found. IfSome found (λ answered. IsReadAs c.args.request.now did.0 answered)) c.in-Some.is did.2 })

pub returns-then-not-pause : goal.returns-then-not-pause
returns-then-not-pause g c first earlier x un own at =
    let now = c.loop.invariant.2 first earlier x un own at in
    let did = c.in_ok-answer.ensures in
    let t = tries g.S.Store g.L.Line.carries g.L.Line.pauses clients first earlier now.0 _ _ _ x c.args.journal.now c.as_slice.result.now did.0 c.args.request.now now.1 did.1 (inl refl) un (c.as_slice.ensures.value ∙ c.loop.invariant.0 ∙ ap (λ n. message_of n c.args.request.now) (sym own)) in
    (_, then_pauses g.S.Store g.L.Line.carries g.L.Line.pauses clients first earlier t.0 _ _ x c.args.journal.now _ t.1 c.pause.ensures, tt)

pub loop-preserved : goal.loop-preserved
loop-preserved g c = (
  c.loop.invariant.0,
  c.loop.invariant.1,
  λ first earlier x un own at.
      let now = c.loop.invariant.2 first earlier x un own at in
      let did = c.in_ok-answer.ensures in
      let t = tries g.S.Store g.L.Line.carries g.L.Line.pauses clients first earlier now.0 _ _ _ x c.args.journal.now c.as_slice.result.now did.0 c.args.request.now now.1 did.1 (inl refl) un (c.as_slice.ensures.value ∙ c.loop.invariant.0 ∙ ap (λ n. message_of n c.args.request.now) (sym own)) in
      (_, then_pauses g.S.Store g.L.Line.carries g.L.Line.pauses clients first earlier t.0 _ _ x c.args.journal.now _ t.1 c.pause.ensures),
)

pub returns : goal.returns
returns g c first earlier x un own at =
    let now = c.loop.invariant.2 first earlier x un own at in
    (now.0, now.1, tt)

pub ask_once-requires : goal.ask_once-requires
ask_once-requires g c = c.loop.invariant.1
