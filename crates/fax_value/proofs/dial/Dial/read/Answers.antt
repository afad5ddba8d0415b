use Rattle.std.proofs.Common.{◌≡◌, true, sym, ap, ◌∙◌}
use Rattle.fax_value.specs.Dial.{is_canonical}
use Rattle.fax_value.proofs.DialLemmas.{canonical_utf8}
use Rattle.fax_value.proofs.dial.Dial.read.Goals as goal

pub unwrap-text-requires : goal.unwrap-text-requires
unwrap-text-requires c =
    let h : is_canonical c.in_ok-kept.kept.items ≡ true = ap is_canonical c.in_ok-kept.ensures ∙ sym c.spells_number.ensures ∙ c.if-not-spells_number.false in
    c.from_utf8.ensures.succeeds (canonical_utf8 c.in_ok-kept.kept.items h)
