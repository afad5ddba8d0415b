use Rattle.std.proofs.Common.{◌∙◌, ◌++◌, ap, arith}
use Rattle.fax_text.proofs.TimesLemmas.{line_written}
use Rattle.fax_text.proofs.times.push_line.Goals as goal

pub returns : goal.returns
returns c =
    line_written c.args.text.now.items c.args.tag.now c.args.number (omega (arith, c.ranges.number.fits))
    (c.in_ok-extend_from_slice.ensures.items ∙ ap (λ t. c.args.text.now.items ++ t) c.as_bytes.ensures.value) c.in_ok-push.ensures.items
    (c.in_ok-extend_from_slice-2.ensures.items ∙ ap (λ t. c.push.new.self.items ++ t) (c.as_bytes-2.ensures.value ∙ c.format.ensures.text)) c.in_ok-push-2.ensures.items
