use Rattle.std.proofs.Common.{◌≡◌, IfSome, Some, is_some, ap, ap₂, ◌∙◌, arith}
use Rattle.fax_tables.specs.Fault.{OrUnavailable}
use Rattle.fax_tables.specs.Row.{HasValues}
use Rattle.fax_tables.proofs.ResultLemmas.{passes_on}
use Rattle.fax_worker.specs.Worker.{held_of}
use Rattle.fax_journal.specs.Entry.{IsHandedOut, held_columns}
use Rattle.fax_journal.proofs.ReadingLemmas.{held_flag, none_there, some_is, some_there}
use Rattle.fax_journal.proofs.reading.held_in.Goals as goal

pub returns-in_err-flag_at : goal.returns-in_err-flag_at
returns-in_err-flag_at c held has valid = passes_on c.from_residual.result _ _ c.from_residual.ensures.1 (c.in_err-flag_at.ensures (is_some held) (held_flag c.args.row.now held has))

pub returns-then-not-branch : goal.returns-then-not-branch
returns-then-not-branch c held has valid = none_there held c.in_ok-flag_at.field-0 (grind (arith, c.if-not-branch.true)) (c.in_ok-flag_at.ensures (is_some held) (held_flag c.args.row.now held has))

pub returns-in_err-handed : goal.returns-in_err-handed
returns-in_err-handed c held has valid =
    some_there held c.in_ok-flag_at.field-0 (grind (arith, c.if-not-branch.false)) (c.in_ok-flag_at.ensures (is_some held) (held_flag c.args.row.now held has))
    (λ h. HasValues c.args.row.now 8 (held_columns h) → IfSome h IsHandedOut → OrUnavailable c.from_residual-in_err-handed.result (λ found. found ≡ h))
    (λ h there lawful. passes_on c.from_residual-in_err-handed.result _ _ c.from_residual-in_err-handed.ensures.1 (c.in_err-handed.ensures h there lawful)) has valid

pub returns-in_err-call : goal.returns-in_err-call
returns-in_err-call c held has valid =
    some_there held c.in_ok-flag_at.field-0 (grind (arith, c.if-not-branch.false)) (c.in_ok-flag_at.ensures (is_some held) (held_flag c.args.row.now held has))
    (λ h. HasValues c.args.row.now 8 (held_columns h) → IfSome h IsHandedOut → OrUnavailable c.from_residual-in_err-call.result (λ found. found ≡ h))
    (λ h there lawful. passes_on c.from_residual-in_err-call.result _ _ c.from_residual-in_err-call.ensures.1 (c.in_err-call.ensures.found h.call there.1.1.1.1.1.1.0)) has valid

pub returns : goal.returns
returns c held has valid =
    some_is held _ c.in_ok-flag_at.field-0 (grind (arith, c.if-not-branch.false)) (c.in_ok-flag_at.ensures (is_some held) (held_flag c.args.row.now held has))
    (λ h. HasValues c.args.row.now 8 (held_columns h)) (λ h. IfSome h IsHandedOut)
    (λ h there lawful. ap Some (c.new.ensures
    ∙ ap₂ (λ k n. held_of c.in_ok-handed.handed k n) (c.in_ok-call.ensures.found h.call there.1.1.1.1.1.1.0) (c.in_ok-pages.ensures.found h.pages there.1.1.1.1.1.1.1.0 (let few = lawful.held.pages in omega arith))
    ∙ c.in_ok-handed.ensures h there lawful)) has valid
