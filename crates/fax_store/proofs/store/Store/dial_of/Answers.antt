use Rattle.std.proofs.Common.{◌≡◌, [], ◌∷◌, MatchOption, sym, ap, subst, ◌∙◌, rules, option_map}
use Rattle.std.proofs.lemmas.Option.{same_Some}
use Rattle.fax_store.proofs.FrameLemmas.{queries_with}
use Rattle.sqlite.specs.declared.types.Value.TheVariants.{Text}
use Rattle.sqlite_rules.specs.Lists.{Has}
use Rattle.fax_core.specs.Job.{Job}
use Rattle.fax_tables.specs.Row.{number}
use Rattle.fax_store.proofs.HeldLemmas.{dial_formed, dial_found, dial_there, dial_told}
use Rattle.fax_store.proofs.WorkLemmas.{told_cause, told_ok}
use Rattle.fax_store.proofs.store.Store.dial_of.Goals as goal

pub returns-in-Some-clause-answers : goal.returns-in-Some-clause-answers
returns-in-Some-clause-answers g c m k j tables rows job clean =
    let found = (queries_with g.S.Store _ _ _ _ _ (number c.args.job ∷ []) (search rules) c.in_ok-found.ensures).found clean in
    let told = sym c.in-Some.is ∙ dial_found c.args.job _ _ m k tables rows c.in_ok-found.field-0 found ∙ ap (option_map (λ (x : Job). Text x.dial ∷ [])) job in
    told_ok _ c.dial_in.result (c.dial_in.ensures.found j.dial (same_Some _ _ told) (dial_formed rows.0 m k rows.1 c.args.job j job))

pub returns-in-Some-clause-cause : goal.returns-in-Some-clause-cause
returns-in-Some-clause-cause g c tables can clean =
    let found = (queries_with g.S.Store _ _ _ _ _ (number c.args.job ∷ []) (search rules) c.in_ok-found.ensures).found clean in
    let told = dial_told c.args.job _ _ tables can found.0 found.1 _ (subst (λ o. MatchOption o (found.0 ≡ []) (Has found.0)) c.in-Some.is found.2) in
    told_cause _ c.dial_in.result (c.dial_in.ensures.found told.0 told.1 told.2)

pub returns-in-None-clause-cause : goal.returns-in-None-clause-cause
returns-in-None-clause-cause g c tables can clean =
    let found = (queries_with g.S.Store _ _ _ _ _ (number c.args.job ∷ []) (search rules) c.in_ok-found.ensures).found clean in
    absurd (dial_there c.args.job _ _ tables can found.0 found.1 (subst (λ o. MatchOption o (found.0 ≡ []) (Has found.0)) c.in-None.is found.2))
