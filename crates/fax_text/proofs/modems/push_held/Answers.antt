use Rattle.std.proofs.Common.{◌∙◌, ◌++◌, ap, codes}
use Rattle.fax_text.proofs.ListingLemmas.{and_then}
use Rattle.fax_text.proofs.modems.push_held.Goals as goal

pub returns : goal.returns
returns c =
    let grant = c.in_ok-push_pair.ensures ∙ ap (λ t. c.args.text.now.items ++ (codes " grant " ++ t)) c.format.ensures.text in
    let job = c.in_ok-push_pair-2.ensures ∙ ap (λ t. c.push_pair.new.text.items ++ (codes " job " ++ t)) c.format-2.ensures.text in
    let first_page = c.in_ok-push_pair-4.ensures ∙ ap (λ t. c.push_pair-3.new.text.items ++ (codes " pages " ++ t)) c.format-3.ensures.text in
    let last_page = c.in_ok-push_pair-5.ensures ∙ ap (λ t. c.push_pair-4.new.text.items ++ (codes "-" ++ t)) c.format-4.ensures.text in
    let call = c.in_ok-push_pair-6.ensures ∙ ap (λ t. c.push_pair-5.new.text.items ++ (codes " call " ++ t)) c.call_word.ensures in
    let confirmed = c.in_ok-push_pair-7.ensures ∙ ap (λ t. c.push_pair-6.new.text.items ++ (codes " confirmed " ++ t)) c.format-5.ensures.text in
    let start = c.args.text.now.items in
    let dial = and_then start _ _ (and_then start _ _ grant job) c.in_ok-push_pair-3.ensures in
    let pages = and_then start _ _ (and_then start _ _ dial first_page) last_page in
    and_then start _ _ (and_then start _ _ pages call) confirmed
