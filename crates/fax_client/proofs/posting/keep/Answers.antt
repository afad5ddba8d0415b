use Rattle.std.proofs.Common.{◌≡◌, MatchResult, Some, ap, ap₂, rules, subst, sym, ◌∙◌}
use Rattle.fax_journal.specs.Calls.{shown}
use Rattle.fax_journal.specs.Journal.{with_answer}
use Rattle.fax_client.specs.Posting.{IsStored, kept_under}
use Rattle.fax_client.specs.Saved.{HasEntry, IsBetween, IsKept}
use Rattle.fax_client.specs.declared.answered.Answered.TheVariants.{Accepted}
use Rattle.fax_client.proofs.SavedLemmas.{fails, saved, unsaved}
use Rattle.fax_client.proofs.posting.keep.Goals as goal

pub returns-in_err-remember-in-Some-Accepted : goal.returns-in_err-remember-in-Some-Accepted
returns-in_err-remember-in-Some-Accepted g c kept e first is =
    let key_is : c.args.request.now.key ≡ Some c.as_str.result.now = search rules in
    let body_is : c.args.answered.now ≡ Accepted c.in-Some-Accepted.body = search rules in
    let is_with : kept_under c.args.request.now.key c.args.answered.now kept ≡ with_answer c.as_str.result.now (Some c.as_slice.result.now) kept =
    ap₂ (λ k a. kept_under k a kept) key_is body_is ∙ ap (λ b. with_answer c.as_str.result.now (Some b) kept) (sym c.as_slice.ensures.value) in
    subst
    (λ later. MatchResult c.from_residual.result (λ x. IsKept (HasEntry later (IsStored e)) (shown g.S.Store first) (shown g.S.Store c.remember.new.self))
    (λ x. IsBetween (HasEntry kept (IsStored e)) (HasEntry later (IsStored e)) (shown g.S.Store first) (shown g.S.Store c.remember.new.self))) (sym is_with)
    (fails _ _ c.from_residual.result c.from_residual.ensures.0
    (unsaved _ (IsStored e) (IsStored e) kept _ _ _ _ is c.in_err-remember-in-Some-Accepted.field-0.0 (λ entry. (entry, (λ h. h), c.in_err-remember-in-Some-Accepted.ensures.remembers entry kept))))

pub returns-in_ok-remember-in-Some-Accepted : goal.returns-in_ok-remember-in-Some-Accepted
returns-in_ok-remember-in-Some-Accepted g c kept e first is =
    let key_is : c.args.request.now.key ≡ Some c.as_str.result.now = search rules in
    let body_is : c.args.answered.now ≡ Accepted c.in-Some-Accepted.body = search rules in
    let is_with : kept_under c.args.request.now.key c.args.answered.now kept ≡ with_answer c.as_str.result.now (Some c.as_slice.result.now) kept =
    ap₂ (λ k a. kept_under k a kept) key_is body_is ∙ ap (λ b. with_answer c.as_str.result.now (Some b) kept) (sym c.as_slice.ensures.value) in
    subst (λ later. IsKept (HasEntry later (IsStored e)) (shown g.S.Store first) (shown g.S.Store c.remember.new.self)) (sym is_with)
    (saved _ (IsStored e) (IsStored e) kept _ _ _ _ is _ (λ entry. (entry, (λ h. h), c.in_ok-remember-in-Some-Accepted.ensures.remembers entry kept)))
