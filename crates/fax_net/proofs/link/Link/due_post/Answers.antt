use Rattle.std.proofs.Common.{◌∙◌, ap, subst, sym}
use Rattle.std.specs.Prelude.{IfSome}
use Rattle.fax_http.specs.Joined.{IsPost}
use Rattle.fax_net.specs.History.{asks_for_listing}
use Rattle.fax_net.proofs.JoiningLemmas.{due_post}
use Rattle.fax_net.proofs.link.Link.due_post.Goals as goal

pub returns : goal.returns
returns c =
    due_post c.args.self.now c.post_at.result (sym c.is_due.ensures ∙ c.if-not-is_due.false)
    (ap asks_for_listing (sym c.bytes.ensures) ∙ sym c.asks_for_listing.ensures ∙ c.if-asks_for_listing.false)
    (subst (λ bytes. IfSome c.post_at.result (λ it. IsPost bytes it.0 it.1)) c.bytes-2.ensures c.post_at.ensures)
