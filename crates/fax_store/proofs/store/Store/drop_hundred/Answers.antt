use Rattle.std.proofs.Common.{◌≤◌, subst, IfSome}
use Rattle.fax_store.proofs.FloorLemmas.{hundred_failed, hundred_none, hundred_refused, hundred_taken}
use Rattle.fax_store.proofs.store.Store.drop_hundred.Goals as goal

pub returns-in_err-last-clause-takes : goal.returns-in_err-last-clause-takes
returns-in_err-last-clause-takes g c = hundred_refused g.S.Store _ _ c.from_residual.result c.from_residual.ensures.1 c.in_err-last.ensures.leaves c.in_err-last.ensures.cause

pub returns-in-None-clause-takes : goal.returns-in-None-clause-takes
returns-in-None-clause-takes g c = hundred_none g.S.Store _ _ c.in_ok-last.ensures.leaves c.in_ok-last.ensures.answers c.in-None.is

pub returns-in_err-drop_through-in-Some-clause-takes : goal.returns-in_err-drop_through-in-Some-clause-takes
returns-in_err-drop_through-in-Some-clause-takes g c =
    let within : c.in-Some.last ≤ c.args.floor = subst (λ o. IfSome o (λ n. n ≤ c.args.floor)) c.in-Some.is c.in_ok-last.ensures.within in
    hundred_failed g.S.Store _ _ c.in_ok-last.ensures.leaves c.in_ok-last.ensures.answers c.in-Some.last c.in-Some.is within
    c.from_residual-in_err-drop_through-in-Some.result c.from_residual-in_err-drop_through-in-Some.ensures.1 c.in_err-drop_through-in-Some.ensures

pub returns-in_ok-drop_through-in-Some-clause-takes : goal.returns-in_ok-drop_through-in-Some-clause-takes
returns-in_ok-drop_through-in-Some-clause-takes g c =
    let within : c.in-Some.last ≤ c.args.floor = subst (λ o. IfSome o (λ n. n ≤ c.args.floor)) c.in-Some.is c.in_ok-last.ensures.within in
    hundred_taken g.S.Store _ _ c.in_ok-last.ensures.leaves c.in_ok-last.ensures.answers c.in-Some.last c.in-Some.is within c.in_ok-drop_through-in-Some.ensures
