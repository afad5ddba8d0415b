use Rattle.std.proofs.Common.{◌≡◌, ◌∙◌, ap, ◌++◌, rules, unsigned_abs, w16}
use Rattle.std.proofs.lemmas.Int.{to_z-of_z}
use Rattle.fax_text.specs.Column.{zeros}
use Rattle.fax_text.proofs.ListingLemmas.{and_then}
use Rattle.fax_text.proofs.listing.push_time.Goals as goal

pub returns : goal.returns
returns c =
    let at = c.args.at in
    let value : c.unsigned_abs.result ≡ unsigned_abs at.year = c.unsigned_abs.ensures.value ∙ ap unsigned_abs (to_z-of_z w16 at.year (search rules)) in
    let year : c.push_zeros.new.text.items ≡ c.args.text.now.items ++ zeros 4 (unsigned_abs at.year) = c.in_ok-push_zeros.ensures ∙ ap (λ n. c.args.text.now.items ++ zeros 4 n) value in
    let month : c.push_zeros-2.new.text.items ≡ c.push.new.self.items ++ zeros 2 at.month = c.in_ok-push_zeros-2.ensures ∙ ap (λ n. c.push.new.self.items ++ zeros 2 n) c.from.ensures in
    let day : c.push_zeros-3.new.text.items ≡ c.push-2.new.self.items ++ zeros 2 at.day = c.in_ok-push_zeros-3.ensures ∙ ap (λ n. c.push-2.new.self.items ++ zeros 2 n) c.from-2.ensures in
    let hour : c.push_zeros-4.new.text.items ≡ c.push-3.new.self.items ++ zeros 2 at.hour = c.in_ok-push_zeros-4.ensures ∙ ap (λ n. c.push-3.new.self.items ++ zeros 2 n) c.from-3.ensures in
    let minute : c.push_zeros-5.new.text.items ≡ c.push-4.new.self.items ++ zeros 2 at.minute = c.in_ok-push_zeros-5.ensures ∙ ap (λ n. c.push-4.new.self.items ++ zeros 2 n) c.from-4.ensures in
    and_then _ _ _ (and_then _ _ _ (and_then _ _ _ (and_then _ _ _ (and_then _ _ _ (and_then _ _ _ (and_then _ _ _ (and_then _ _ _ year c.in_ok-push.ensures.items) month) c.in_ok-push-2.ensures.items) day) c.in_ok-push-3.ensures.items) hour) c.in_ok-push-4.ensures.items) minute
