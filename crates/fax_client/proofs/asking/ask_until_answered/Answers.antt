use Rattle.std.proofs.Common.{IfSome, ap, option_map, rules, subst, ◌∙◌}
use Rattle.fax_worker.specs.Answer.{answer_of}
use Rattle.fax_client.specs.Saved.{request_of}
use Rattle.fax_client.specs.Working.{IsReadIn, workers}
use Rattle.fax_client.proofs.CourseLemmas.{none_more, then_pauses, tries}
use Rattle.fax_client.proofs.SavedLemmas.{no_value}
use Rattle.fax_client.proofs.asking.ask_until_answered.Goals as goal

pub loop-init : goal.loop-init
loop-init g c = (search rules, λ kept first earlier un at. (earlier, (none_more earlier, at)))

pub returns-in_err-answer : goal.returns-in_err-answer
returns-in_err-answer g c kept first earlier un at =
    let l = c.loop in
    let now = l.invariant.1 kept first earlier un at in
    let did = c.in_err-answer.ensures in
    let t = tries g.S.Store g.L.Line.carries g.L.Line.pauses (workers kept) first earlier now.0 _ did.0 _ c.args.worker.now c.args.journal.now c.as_slice.result.now did.1 (request_of c.args.pending.now) now.1 did.2 did.3 (ap (option_map request_of) un) (c.as_slice.ensures.value ∙ l.invariant.0) in
    (t.0, t.1, no_value _ c.from_residual-in_err-answer.result c.from_residual-in_err-answer.ensures.0)

pub returns-in-Some : goal.returns-in-Some
returns-in-Some g c kept first earlier un at =
    let l = c.loop in
    let now = l.invariant.1 kept first earlier un at in
    let did = c.in_ok-answer.ensures in
    let t = tries g.S.Store g.L.Line.carries g.L.Line.pauses (workers kept) first earlier now.0 _ did.0 _ c.args.worker.now c.args.journal.now c.as_slice.result.now did.1 (request_of c.args.pending.now) now.1 did.2 did.3 (ap (option_map request_of) un) (c.as_slice.ensures.value ∙ l.invariant.0) in
    (t.0, t.1, record { journal = c.args.journal.now; back = did.1; came = t.2; read = subst (λ found. IfSome found (λ r. IsReadIn c.args.pending.now.ask did.1 (answer_of r.0))) c.in-Some.is did.4 })

pub returns-then-not-pause : goal.returns-then-not-pause
returns-then-not-pause g c kept first earlier un at =
    let l = c.loop in
    let now = l.invariant.1 kept first earlier un at in
    let did = c.in_ok-answer.ensures in
    let t = tries g.S.Store g.L.Line.carries g.L.Line.pauses (workers kept) first earlier now.0 _ did.0 _ c.args.worker.now c.args.journal.now c.as_slice.result.now did.1 (request_of c.args.pending.now) now.1 did.2 did.3 (ap (option_map request_of) un) (c.as_slice.ensures.value ∙ l.invariant.0) in
    (_, then_pauses g.S.Store g.L.Line.carries g.L.Line.pauses (workers kept) first earlier t.0 _ _ c.args.worker.now c.args.journal.now _ t.1 c.pause.ensures, tt)

pub loop-preserved : goal.loop-preserved
loop-preserved g c =
    let l = c.loop in (
      l.invariant.0,
      λ kept first earlier un at.
          let now = l.invariant.1 kept first earlier un at in
          let did = c.in_ok-answer.ensures in
          let t = tries g.S.Store g.L.Line.carries g.L.Line.pauses (workers kept) first earlier now.0 _ did.0 _ c.args.worker.now c.args.journal.now c.as_slice.result.now did.1 (request_of c.args.pending.now) now.1 did.2 did.3 (ap (option_map request_of) un) (c.as_slice.ensures.value ∙ l.invariant.0) in
          (_, then_pauses g.S.Store g.L.Line.carries g.L.Line.pauses (workers kept) first earlier t.0 _ _ c.args.worker.now c.args.journal.now _ t.1 c.pause.ensures),
    )

pub returns : goal.returns
returns g c kept first earlier un at =
    let now = c.loop.invariant.1 kept first earlier un at in
    (now.0, now.1, tt)
