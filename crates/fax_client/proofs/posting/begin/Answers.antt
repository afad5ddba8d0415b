use Rattle.std.proofs.Common.{◌≡◌, ◌<◌, ℕ, Some, inl, inr, refl, rules, subst, sym, ◌∙◌}
use Rattle.fax_journal.specs.Entry.{Entry, Request}
use Rattle.fax_client.specs.Posting.{IsBegun, IsStored}
use Rattle.fax_client.specs.Saved.{HasEntry}
use Rattle.fax_client.proofs.SavedLemmas.{fails, unwritten}
use Rattle.fax_client.proofs.posting.begin.Goals as goal

as_begun : (e : Entry) (r : Request) (number : ℕ) → r.number ≡ number → ◌≡◌ {A = Entry} (record e { last = number; unanswered = Some r }) (record e { last = r.number; unanswered = Some r })
as_begun e r number is = rw is refl

pub returns-then-not-is_free : goal.returns-then-not-is_free
returns-then-not-is_free g c kept first is = (c.args.entry, inl refl, unwritten (HasEntry kept (IsStored c.args.entry)) _ _ is)

pub returns-in_default : goal.returns-in_default
returns-in_default g c kept first is = (c.args.entry, inl refl, unwritten (HasEntry kept (IsStored c.args.entry)) _ _ is)

pub returns-in_err-request : goal.returns-in_err-request
returns-in_err-request g c kept first is =
    fails _ _ c.from_residual.result c.from_residual.ensures.0 (c.args.entry, inl refl, unwritten (HasEntry kept (IsStored c.args.entry)) _ _ is)

pub returns-in_err-set : goal.returns-in_err-set
returns-in_err-set g c kept first is =
    let number_is = c.in_ok-request.ensures.number in
    let above : c.args.entry.last < c.in-Some.number = search rules in
    let begun : IsBegun c.args.entry c.in_ok-request.request c.with_request-begun.result = record {
      answered = c.is_free.ensures c.if-not-is_free.false;
      new = subst (λ n. c.args.entry.last < n) (sym number_is) above;
      becomes = c.with_request-begun.ensures ∙ as_begun c.args.entry c.in_ok-request.request _ number_is;
    } in
    fails _ _ c.from_residual-in_err-set.result c.from_residual-in_err-set.ensures.0 (c.with_request-begun.result, inr (c.in_ok-request.request, begun), c.in_err-set.ensures kept c.args.entry first is)

pub returns : goal.returns
returns g c kept first is =
    let number_is = c.in_ok-request.ensures.number in
    let above : c.args.entry.last < c.in-Some.number = search rules in
    let begun : IsBegun c.args.entry c.in_ok-request.request c.with_request-begun.result = record {
      answered = c.is_free.ensures c.if-not-is_free.false;
      new = subst (λ n. c.args.entry.last < n) (sym number_is) above;
      becomes = c.with_request-begun.ensures ∙ as_begun c.args.entry c.in_ok-request.request _ number_is;
    } in
    (c.in_ok-request.request, begun, c.in_ok-request.ensures.of, c.in_ok-set.ensures kept c.args.entry first is)
