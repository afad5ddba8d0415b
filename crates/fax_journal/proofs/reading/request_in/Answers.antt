use Rattle.std.proofs.Common.{◌≡◌, ℕ, List, IfSome, Some, is_some, refl, ap, subst, sym, arith}
use Rattle.sqlite.specs.declared.types.Value.{Value}
use Rattle.sqlite.specs.declared.types.Value.TheVariants.{Blob}
use Rattle.fax_tables.specs.Fault.{OrUnavailable}
use Rattle.fax_tables.specs.Row.{HasValues}
use Rattle.fax_tables.proofs.ResultLemmas.{passes_on}
use Rattle.fax_journal.specs.Entry.{IsRequest, request_columns}
use Rattle.fax_journal.proofs.ReadingLemmas.{request_flag, none_there, same_request, some_is, some_there}
use Rattle.fax_journal.proofs.reading.request_in.Goals as goal

-- a value that reads as one blob and is another
body_is : (v : Value) (body other : List ℕ) → v ≡ Blob body → v ≡ Blob other → body ≡ other
body_is v body other reads is = cc

pub returns-in_err-flag_at : goal.returns-in_err-flag_at
returns-in_err-flag_at c request has valid = passes_on c.from_residual.result _ _ c.from_residual.ensures.1 (c.in_err-flag_at.ensures (is_some request) (request_flag c.args.row.now request has))

pub returns-then-not-branch : goal.returns-then-not-branch
returns-then-not-branch c request has valid = none_there request c.in_ok-flag_at.field-0 (grind (arith, c.if-not-branch.true)) (c.in_ok-flag_at.ensures (is_some request) (request_flag c.args.row.now request has))

pub returns-in_err-number : goal.returns-in_err-number
returns-in_err-number c request has valid =
    some_there request c.in_ok-flag_at.field-0 (grind (arith, c.if-not-branch.false)) (c.in_ok-flag_at.ensures (is_some request) (request_flag c.args.row.now request has))
    (λ r. HasValues c.args.row.now 2 (request_columns r) → IfSome r IsRequest → OrUnavailable c.from_residual-in_err-number.result (λ found. found ≡ r))
    (λ r there lawful. passes_on c.from_residual-in_err-number.result _ _ c.from_residual-in_err-number.ensures.1 (c.in_err-number.ensures r.number there.1.0 lawful.number)) has valid

pub returns-in_err-key : goal.returns-in_err-key
returns-in_err-key c request has valid =
    some_there request c.in_ok-flag_at.field-0 (grind (arith, c.if-not-branch.false)) (c.in_ok-flag_at.ensures (is_some request) (request_flag c.args.row.now request has))
    (λ r. HasValues c.args.row.now 2 (request_columns r) → IfSome r IsRequest → OrUnavailable c.from_residual-in_err-key.result (λ found. found ≡ r))
    (λ r there lawful. passes_on c.from_residual-in_err-key.result _ _ c.from_residual-in_err-key.ensures.1 (c.in_err-key.ensures r.key there.1.1.1.1 lawful.key)) has valid

pub returns : goal.returns
returns c request has valid =
    some_is request _ c.in_ok-flag_at.field-0 (grind (arith, c.if-not-branch.false)) (c.in_ok-flag_at.ensures (is_some request) (request_flag c.args.row.now request has))
    (λ r. HasValues c.args.row.now 2 (request_columns r)) (λ r. IfSome r IsRequest)
    (λ r there lawful. ap Some (same_request r _ _ _ _ (c.in_ok-number.ensures r.number there.1.0 lawful.number) (c.in_ok-path.ensures.found r.path there.1.1.0 lawful.path) (body_is _ _ r.body (c.in_ok-body.ensures.found there.1.1.1.0.within (subst (λ v. (b : List ℕ) × (v ≡ Blob b)) (sym there.1.1.1.0.is) (r.body, refl))) there.1.1.1.0.is) (c.in_ok-key.ensures r.key there.1.1.1.1 lawful.key))) has valid
