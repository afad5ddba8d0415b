use Rattle.std.proofs.Common.{◌∙◌, ◌++◌, ◌∷◌, [], ap}
use Rattle.std.specs.Str.{chars}
use Rattle.fax_text.specs.Column.{left, right}
use Rattle.fax_text.proofs.ListingLemmas.{and_then}
use Rattle.fax_text.proofs.listing.push_who.Goals as goal

pub returns : goal.returns
returns c =
    let number = c.in_ok-push_right.ensures ∙ ap (λ t. c.args.text.now.items ++ right 6 t) c.format.ensures.text in
    let priority = c.in_ok-push_right-2.ensures ∙ ap (λ t. c.push.new.self.items ++ right 3 t) c.format-2.ensures.text in
    let state = c.in_ok-push-3.ensures.items ∙ ap (λ t. c.push-2.new.self.items ++ (t ∷ [])) c.letter_of.ensures in
    let dial = c.in_ok-push_left.ensures ∙ ap (λ t. c.push-4.new.self.items ++ left 20 (chars t)) c.text.ensures.text in
    let tag = c.in_ok-push_left-2.ensures ∙ ap (λ t. c.push-5.new.self.items ++ left 12 (chars t)) c.as_str.ensures.text in
    and_then _ _ _ (and_then _ _ _ (and_then _ _ _ (and_then _ _ _ (and_then _ _ _ (and_then _ _ _ (and_then _ _ _ (and_then _ _ _ (and_then _ _ _ number c.in_ok-push.ensures.items) priority) c.in_ok-push-2.ensures.items) state) c.in_ok-push-4.ensures.items) dial) c.in_ok-push-5.ensures.items) tag) c.in_ok-push-6.ensures.items
