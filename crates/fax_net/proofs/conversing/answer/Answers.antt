use Rattle.std.proofs.Common.{◌≡◌, ◌∙◌, true, false, rules, refl, inl, inr, subst, sym, arith}
use Rattle.fax_http.specs.Found.{Finds}
use Rattle.fax_http.specs.declared.turn.Found.TheVariants.{Answered, Last}
use Rattle.fax_net.specs.Link.{is_due, is_held}
use Rattle.fax_net.proofs.conversing.answer.Goals as goal

pub returns-in-Answered : goal.returns-in-Answered
returns-in-Answered g c =
    let due : is_due c.args.link.now ≡ true = search rules in
    let unheld : is_held c.args.is_full c.args.link.now ≡ false = search rules in
    inr (
      due,
      unheld,
      Answered c.in-Answered.reply,
      subst (λ v. Finds g.H.Handler.answers g.H.Handler.over c.args.handler.now c.answer_front.new.handler c.args.link.now.said v (Answered c.in-Answered.reply)) (sym c.owe.ensures.said) c.in-Answered.ensures,
      (
        refl,
        c.owe.ensures.pending,
        λ below. omega (arith, below, c.owe.ensures.messages, c.saturating_add-link.ensures),
        c.owe.ensures.is_awaited,
        elim c.stage_behind.ensures [
          | inl (going_on, few) ↦ inl (c.owe.ensures.stage_is ∙ going_on, omega (arith, few, c.owe.ensures.messages))
          | inr (ending, above) ↦ inr (c.owe.ensures.stage_is ∙ ending, omega (arith, above, c.owe.ensures.messages))
        ],
        c.owe.ensures.size,
      ),
    )

pub returns-in-Last : goal.returns-in-Last
returns-in-Last g c =
    let due : is_due c.args.link.now ≡ true = search rules in
    let unheld : is_held c.args.is_full c.args.link.now ≡ false = search rules in
    inr (
      due,
      unheld,
      Last c.in-Last.reply,
      subst (λ v. Finds g.H.Handler.answers g.H.Handler.over c.args.handler.now c.answer_front.new.handler c.args.link.now.said v (Last c.in-Last.reply)) (sym c.owe-in-Last.ensures.said) c.in-Last.ensures,
      (refl, c.owe-in-Last.ensures.pending, c.owe-in-Last.ensures.stage_is, c.owe-in-Last.ensures.size),
    )
