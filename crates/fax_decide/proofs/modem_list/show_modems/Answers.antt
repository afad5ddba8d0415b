use Rattle.std.proofs.Common.{◌∙◌, [], List, ℕ, ap, flat_map, map, refl, sym}
use Rattle.fax_ask.specs.Answer.{Shown}
use Rattle.fax_ask.specs.Response.{accepted_response}
use Rattle.fax_core.specs.Ageing.{aged}
use Rattle.fax_core.specs.Queue.{open_grants}
use Rattle.fax_core.specs.declared.grants.Grant.{Grant}
use Rattle.fax_run.specs.Modems.{modem_shown, with_names}
use Rattle.fax_run.proofs.NameLemmas.{names_permuted, rises_names}
use Rattle.fax_decide.specs.Settings.{settings_of}
use Rattle.fax_decide.proofs.LookingLemmas.{both, by_reading, goes_on, stops, views}
use Rattle.fax_decide.proofs.modem_list.show_modems.Goals as goal

pub returns : goal.returns
returns g c t = views (goes_on (both (by_reading c.in_ok-holders.ensures.leaves c.in_ok-holders.ensures.answers) c.in_ok-text.ensures) (λ m k at calls sound.
    let s = settings_of c.args.office.now.setup c.args.office.now.controls in
    let own = c.args.office.now.setup.modems.items in
    let holders = c.in_ok-holders.holders.items in
    let names = c.as_slice.ensures.value ∙ c.in_ok-names.ensures ∙ ap (λ (modems : List (List ℕ)). with_names holders (with_names modems [])) c.modems.ensures
    ∙ sym (names_permuted (map (λ (x : Grant). x.modem) (open_grants m)) holders (with_names own []) (rises_names own [] tt) calls.0) in
    c.in_ok-told.ensures ∙ ap (λ (text : List ℕ). accepted_response (Shown text)) (c.as_slice-2.ensures.value ∙ calls.1 t sound ∙ ap (flat_map (modem_shown s (aged t m))) names)))

pub returns-in_err-text : goal.returns-in_err-text
returns-in_err-text g c t = views (stops c.from_residual-in_err-text.ensures.1
    (both (by_reading c.in_ok-holders.ensures.leaves c.in_ok-holders.ensures.answers) c.in_err-text.ensures) (λ m out why sound. out _ (why.1 t sound)))

pub returns-in_err-told : goal.returns-in_err-told
returns-in_err-told g c t = views (stops c.from_residual-in_err-told.ensures.1
    (both (by_reading c.in_ok-holders.ensures.leaves c.in_ok-holders.ensures.answers) c.in_ok-text.ensures) (λ m out calls sound. out _ refl))
