use Rattle.std.proofs.Common.{IfSome, Some, is_some, ap, arith}
use Rattle.std.specs.Str.{IsUtf8}
use Rattle.fax_tables.specs.Row.{HasValues}
use Rattle.fax_tables.proofs.ResultLemmas.{passes_on}
use Rattle.fax_journal.specs.Entry.{key_columns}
use Rattle.fax_journal.proofs.ReadingLemmas.{key_flag, none_there, some_is}
use Rattle.fax_journal.proofs.reading.key_in.Goals as goal

pub returns-in_err-flag_at : goal.returns-in_err-flag_at
returns-in_err-flag_at c key has utf8 = passes_on c.from_residual.result _ _ c.from_residual.ensures.1 (c.in_err-flag_at.ensures (is_some key) (key_flag c.args.row.now key has))

pub returns-then-not-branch : goal.returns-then-not-branch
returns-then-not-branch c key has utf8 = none_there key c.in_ok-flag_at.field-0 (grind (arith, c.if-not-branch.true)) (c.in_ok-flag_at.ensures (is_some key) (key_flag c.args.row.now key has))

pub returns : goal.returns
returns c key has utf8 =
    some_is key _ c.in_ok-flag_at.field-0 (grind (arith, c.if-not-branch.false)) (c.in_ok-flag_at.ensures (is_some key) (key_flag c.args.row.now key has))
    (λ k. HasValues c.args.row.now 6 (key_columns k)) (λ k. IfSome k IsUtf8)
    (λ k there valid. ap Some (c.in_ok-text_at.ensures.found k there.1.0 valid)) has utf8
