use Rattle.std.proofs.Common.{◌∙◌, ◌++◌, ap, codes}
use Rattle.fax_text.specs.Column.{behind_spaces}
use Rattle.fax_text.specs.Listing.{progress, status_column, time_text, who}
use Rattle.fax_text.proofs.ListingLemmas.{and_then, columns_joined, shown_line}
use Rattle.fax_text.proofs.listing.push_line.Goals as goal

pub returns : goal.returns
returns c =
    let row = c.args.row.now in
    let first = c.in_ok-push_who.ensures ∙ ap (λ j. c.args.text.now.items ++ who j row.1) c.fields-fields.ensures.fields in
    let second = c.in_ok-push_progress.ensures ∙ ap (λ j. c.push_who.new.text.items ++ progress j) c.fields-fields.ensures.fields in
    let last = c.in_ok-push_status.ensures ∙ ap (λ s. c.push_time.new.text.items ++ behind_spaces (status_column s)) (c.text.ensures.text ∙ ap (λ j. j.status) c.fields-fields.ensures.fields) in
    let whole = and_then _ _ _ (and_then _ _ _ (and_then _ _ _ (and_then _ _ _ first second) c.in_ok-push_time.ensures) last) c.in_ok-push.ensures.items in
    whole
    ∙ ap (λ t. c.args.text.now.items ++ (t ++ codes "\n")) (columns_joined row.0 row.1 (time_text c.time_of.result))
    ∙ ap (λ t. c.args.text.now.items ++ t) (shown_line c.args.zone.now row c.time_of.result c.time_of.ensures.counted)
