use Rattle.std.proofs.Common.{◌≡◌, ap, option_and_then, rules, subst, sym, ◌∙◌}
use Rattle.fax_journal.specs.Entry.{Entry, Request}
use Rattle.fax_client.specs.Posting.{IsKeptUnder, clients}
use Rattle.fax_client.proofs.CourseLemmas.{further, none_more, stopped}
use Rattle.fax_client.proofs.PostingLemmas.{began, not_begun, not_taken, took}
use Rattle.fax_client.proofs.SavedLemmas.{fails, mapped}
use Rattle.fax_client.proofs.posting.give_up_if.Goals as goal

pub returns-then-not-wanted : goal.returns-then-not-wanted
returns-then-not-wanted g c kept first before at = (before, _, (none_more before, at))

pub returns-in_err-body : goal.returns-in_err-body
returns-in_err-body g c kept first before at =
    fails _ _ c.from_residual.result c.from_residual.ensures.0 (stopped g.S.Store g.L.Line.carries g.L.Line.pauses clients first before _ _ _ at)

pub returns-in_err-entry : goal.returns-in_err-entry
returns-in_err-entry g c kept first before at =
    let b = c.in_err-entry.ensures kept first.journal at.saved in
    fails _ _ c.from_residual-in_err-entry.result c.from_residual-in_err-entry.ensures.0 (not_begun g.S.Store g.L.Line.carries g.L.Line.pauses first before _ c.args.entry b.0 kept _ _ at b.1 b.2)

pub returns-in_default : goal.returns-in_default
returns-in_default g c kept first before at =
    let b = c.in_ok-entry.ensures kept first.journal at.saved in
    (_, _, began g.S.Store g.L.Line.carries g.L.Line.pauses first before before _ c.args.entry _ kept _ _ b.0 (none_more before, at) b.1 b.3)

pub returns-in-Ok : goal.returns-in-Ok
returns-in-Ok g c kept first before at =
    let b = c.in_ok-entry.ensures kept first.journal at.saved in
    let begun = began g.S.Store g.L.Line.carries g.L.Line.pauses first before before _ c.args.entry _ kept _ _ b.0 (none_more before, at) b.1 b.3 in
    let un = sym c.let_go-entry.ensures.request ∙ c.in-Some.is in
    let own : c.in_ok-entry.entry.client ≡ c.as_str.result.now = search rules in
    let asked = c.in-Ok.ensures first _ (record { entry = c.in_ok-entry.entry; answers = kept }) un own begun.1 in
    let all = further g.S.Store g.L.Line.carries g.L.Line.pauses clients first before _ asked.0 _ _ _ _ _ _ begun asked.1 in
    let no_key = ap (λ u. option_and_then (λ (r : Request). r.key) u) (sym un ∙ ap (λ (e : Entry). e.unanswered) b.1.becomes) ∙ b.2.key_is in
    let kept_is = subst (λ k. IsKeptUnder k c.in-Ok.field-0 kept) (sym no_key) tt in
    mapped c.set.result _ _ _ _
    (λ x saved. (_, _, took g.S.Store g.L.Line.carries g.L.Line.pauses first before asked.0 _ c.in_ok-entry.entry _ kept _ _ c.in-Some.request c.in-Ok.field-0 c.let_go-entry.ensures.entry all un asked.2 kept_is saved))
    (λ between. not_taken g.S.Store g.L.Line.carries g.L.Line.pauses first asked.0 _ c.in_ok-entry.entry _ kept _ _ c.in-Some.request c.in-Ok.field-0 c.let_go-entry.ensures.entry all.1 un asked.2 kept_is between)
    (c.set.ensures kept c.in_ok-entry.entry first.journal all.1.saved)

pub returns-in-Err-Later : goal.returns-in-Err-Later
returns-in-Err-Later g c kept first before at =
    let b = c.in_ok-entry.ensures kept first.journal at.saved in
    let begun = began g.S.Store g.L.Line.carries g.L.Line.pauses first before before _ c.args.entry _ kept _ _ b.0 (none_more before, at) b.1 b.3 in
    let un = sym c.let_go-entry.ensures.request ∙ c.in-Some.is in
    let own : c.in_ok-entry.entry.client ≡ c.as_str.result.now = search rules in
    let asked = c.in-Err-Later.ensures first _ (record { entry = c.in_ok-entry.entry; answers = kept }) un own begun.1 in
    (asked.0, _, further g.S.Store g.L.Line.carries g.L.Line.pauses clients first before _ asked.0 _ _ _ _ _ _ begun asked.1)

pub returns : goal.returns
returns g c kept first before at =
    let b = c.in_ok-entry.ensures kept first.journal at.saved in
    let begun = began g.S.Store g.L.Line.carries g.L.Line.pauses first before before _ c.args.entry _ kept _ _ b.0 (none_more before, at) b.1 b.3 in
    let un = sym c.let_go-entry.ensures.request ∙ c.in-Some.is in
    let own : c.in_ok-entry.entry.client ≡ c.as_str.result.now = search rules in
    let asked = c.in-Err.ensures first _ (record { entry = c.in_ok-entry.entry; answers = kept }) un own begun.1 in
    stopped g.S.Store g.L.Line.carries g.L.Line.pauses clients first asked.0 _ _ _ asked.1.1
