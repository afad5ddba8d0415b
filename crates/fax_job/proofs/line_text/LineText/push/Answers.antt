use Rattle.std.proofs.Common.{◌∙◌}
use Rattle.std.proofs.lemmas.Result.{err_from_is_err_and}
use Rattle.fax_job.proofs.LineTextLemmas.{places_kept, pairs_kept, places_more, pairs_more}
use Rattle.fax_job.proofs.line_text.LineText.push.Goals as goal

pub returns-in_err-place-clause-err : goal.returns-in_err-place-clause-err
returns-in_err-place-clause-err c =
    let p = err_from_is_err_and c.from_residual.result c.from_residual.ensures.1 in
    rw p.1 (pairs_kept _ _ c.self.inside.places.items c.in_err-place.ensures.kept c.self.invariant ∙ c.self.view_is)

pub invariant_of-self-in_err-push : goal.invariant_of-self-in_err-push
invariant_of-self-in_err-push c =
    rw c.in_err-push.ensures.items (places_kept _ _ c.self.inside.places.items c.in_ok-place.ensures.kept c.self.invariant)

pub returns-in_err-push-clause-err : goal.returns-in_err-push-clause-err
returns-in_err-push-clause-err c =
    let p = err_from_is_err_and c.from_residual-in_err-push.result c.from_residual-in_err-push.ensures.1 in
    rw (p.1, c.in_err-push.ensures.items) (pairs_kept _ _ c.self.inside.places.items c.in_ok-place.ensures.kept c.self.invariant ∙ c.self.view_is)

pub invariant_of-self-2 : goal.invariant_of-self-2
invariant_of-self-2 c =
    rw c.in_ok-push.ensures.items (places_more _ _ c.self.inside.places.items c.in_ok-place.place c.in_ok-place.ensures.kept c.self.invariant c.in_ok-place.ensures.place)

pub returns-clause-ok : goal.returns-clause-ok
returns-clause-ok c =
    rw (c.in_ok-push.ensures.items, ← c.self.view_is) (pairs_more _ _ c.self.inside.places.items c.in_ok-place.place _ c.in_ok-place.ensures.kept c.self.invariant c.in_ok-place.ensures.written)
