use Rattle.std.proofs.Common.{◌≡◌, ◌∙◌, ◌+◌, ◌≤◌, List, ap, arith, get_or, length, subst, sym}
use Rattle.std.specs.Vec.Iter.{into_iter_items, into_iter_len}
use Rattle.fax_ask.specs.Response.{Response}
use Rattle.fax_net.specs.Joining.{FitsIn, replies_in}
use Rattle.fax_net.specs.declared.link.Link.{Link}
use Rattle.fax_net.proofs.JoiningLemmas.{GivenTo, gives_next, behind_next, gives_nothing, next_of, nothing_cut, nothing_left}
use Rattle.fax_net.proofs.joining.give_out.Goals.{in-Some, in-Some-next, in-None, in_default}
use Rattle.fax_net.proofs.joining.give_out.Goals as goal

pub take_reply-requires : goal.take_reply-requires
take_reply-requires c =
    let place = c.loop-place.place in
    let d = c.index-links-place.result in
    subst (λ (l : Link). c.in-Some.cut.used ≤ length l.said) (sym (c.loop-place.invariant.given.others place d (omega arith)))
    (subst (FitsIn (get_or c.args.links.now place d)) c.in-Some.is (c.requires.fits place d (omega arith)))

pub loop-place-preserved : goal.loop-place-preserved
loop-place-preserved c =
    let first = c.args.links.now in
    let links = c.loop-place.links in
    let cuts = c.args.cuts.now in
    let replies = replies_in c.args.replies in
    let left = into_iter_items c.loop-place.replies in
    let place = c.loop-place.place in
    let it = c.loop-place.invariant.given in
    elim c.match-cuts-place.branch [
      | in-Some w ↦ elim w.match-next.branch [
        | in-Some-next v ↦ record {
          given =
              subst (λ ls. GivenTo first ls cuts replies (into_iter_items c.match-cuts-place.replies) (place + 1)) (sym w.links-is)
              (gives_next first links cuts replies left place it (omega arith) c.requires.as_many w.index-links-place.result w.take_reply.new.self w.in-Some.cut w.match-next.reply
              (into_iter_items c.match-cuts-place.replies) w.in-Some.is w.take_reply.ensures (v.reply-is ∙ ap next_of (sym v.in-Some-next.ensures.items))
              (ap into_iter_items w.replies-is ∙ ap behind_next (sym v.in-Some-next.ensures.items)));
          counted = subst (λ rs. into_iter_len rs ≡ length (into_iter_items rs)) (sym w.replies-is)
              (omega (arith, c.loop-place.invariant.counted, v.in-Some-next.ensures.len, ap (λ (rs : List Response). length rs) v.in-Some-next.ensures.items));
        }
        | in-None v ↦
            let none = nothing_left left (sym c.loop-place.invariant.counted ∙ v.in-None.ensures.cases.0) in
            record {
              given =
                  subst (λ ls. GivenTo first ls cuts replies (into_iter_items c.match-cuts-place.replies) (place + 1)) (sym w.links-is)
                  (gives_next first links cuts replies left place it (omega arith) c.requires.as_many w.index-links-place.result w.take_reply.new.self w.in-Some.cut w.match-next.reply
                  (into_iter_items c.match-cuts-place.replies) w.in-Some.is w.take_reply.ensures (v.reply-is ∙ v.refused-reply.ensures ∙ ap next_of (sym none))
                  (ap into_iter_items w.replies-is ∙ sym v.in-None.ensures.items ∙ none ∙ ap behind_next (sym none)));
              counted = subst (λ rs. into_iter_len rs ≡ length (into_iter_items rs)) (sym w.replies-is)
                  (omega (arith, c.loop-place.invariant.counted, v.in-None.ensures.len, ap (λ (rs : List Response). length rs) v.in-None.ensures.items));
            }
      ]
      | in_default w ↦ record {
        given =
            subst (λ ls. GivenTo first ls cuts replies (into_iter_items c.match-cuts-place.replies) (place + 1)) (sym w.links-is)
            (subst (λ rs. GivenTo first links cuts replies (into_iter_items rs) (place + 1)) (sym w.replies-is)
            (gives_nothing first links cuts replies left place it (omega arith) c.requires.as_many (nothing_cut _ w.in_default.not-Some)));
        counted = subst (λ rs. into_iter_len rs ≡ length (into_iter_items rs)) (sym w.replies-is) c.loop-place.invariant.counted;
      }
    ]
