use Rattle.std.proofs.Common.{◌≡◌, ◌∙◌, ◌+◌, ◌++◌, [], ◌∷◌, ap, if◌then◌else◌, rules, true, None, Option, Some, arith, length-set, set, subst, sym}
use Rattle.std.specs.Result.{is_ok}
use Rattle.fax_http.specs.declared.cut.Cut.{Cut}
use Rattle.fax_net.specs.Joining.{GathersTo, IsDuePost}
use Rattle.fax_net.specs.declared.link.Link.{Link}
use Rattle.fax_net.proofs.JoiningLemmas.{gathers_nothing, gathers_one}
use Rattle.fax_net.proofs.joining.gather.Goals.{in-Some+in_ok-ok-in-Some, in-None}
use Rattle.fax_net.proofs.joining.gather.Goals as goal

pub loop-place-preserved : goal.loop-place-preserved
loop-place-preserved c = record {
  as_many = omega (arith, length-set {A = Option Cut}, c.loop-place.invariant.as_many);
  gathered =
      let links = c.args.links.now in
      let cuts = c.loop-place.cuts in
      let place = c.loop-place.place in
      let it = c.loop-place.invariant in
      elim c.match-due_post.branch [
        | in-Some+in_ok-ok-in-Some w ↦
            let before = c.loop-place.messages.items in
            let put : is_ok w.push.result ≡ true = search rules in
            let items = w.push.ensures.items ∙ ap (λ b. if b then before ++ w.in-Some.message ∷ [] else before) put in
            subst (λ cut. GathersTo (place + 1) links (set cuts place cut) c.match-due_post.messages.items) (sym w.cuts-is)
            (subst (λ items. GathersTo (place + 1) links (set cuts place (Some w.in-Some.cut)) items) (sym (ap (λ messages. messages.items) w.messages-is ∙ items))
            (gathers_one place links cuts c.loop-place.messages.items it.gathered c.index-links-place.result (omega arith) it.as_many w.in-Some.message w.in-Some.cut
            (subst (λ (l : Link). IsDuePost l w.in-Some.message w.in-Some.cut) c.index-links-place.is w.in-Some.ensures)))
        | in-None w ↦
            subst (λ cut. GathersTo (place + 1) links (set cuts place cut) c.match-due_post.messages.items) (sym w.cuts-is)
            (subst (λ messages. GathersTo (place + 1) links (set cuts place None) messages.items) (sym w.messages-is)
            (gathers_nothing place links cuts c.loop-place.messages.items it.gathered c.index-links-place.result (omega arith) it.as_many))
      ];
}
