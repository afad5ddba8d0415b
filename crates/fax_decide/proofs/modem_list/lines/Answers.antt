use Rattle.std.proofs.Common.{◌≡◌, ◌∙◌, ◌+◌, ◌∷◌, ◌++◌, List, ℕ, ap, ap₂, append_assoc, append-nil, drop, flat_map, refl, sym}
use Rattle.std.proofs.lemmas.List.{drop_all, drop_more}
use Rattle.fax_core.specs.Ageing.{aged}
use Rattle.fax_core.specs.Machine.{held_by}
use Rattle.fax_run.specs.Modems.{grant_shown, modem_shown, standing}
use Rattle.fax_text.specs.Modems.{modem_line}
use Rattle.fax_decide.specs.Settings.{settings_of}
use Rattle.fax_decide.proofs.LookingLemmas.{both, goes_on, stops}
use Rattle.fax_decide.proofs.modem_list.lines.Goals as goal

pub returns-in_err-standing : goal.returns-in_err-standing
returns-in_err-standing g c = stops c.from_residual.ensures.1 (both c.loop-name.invariant c.in_err-standing.ensures) (λ m out why t sound. out _ why.1)

pub returns-in_err-held : goal.returns-in_err-held
returns-in_err-held g c =
    stops c.from_residual-in_err-held.ensures.1 (both (both c.loop-name.invariant c.in_ok-standing.ensures) c.in_err-held.ensures) (λ m out why t sound. out _ (why.1 t sound))

pub returns-in_err-push_line : goal.returns-in_err-push_line
returns-in_err-push_line g c =
    stops c.from_residual-in_err-push_line.ensures.1 (both (both c.loop-name.invariant c.in_ok-standing.ensures) c.in_ok-held.ensures) (λ m out calls t sound. out _ refl)

pub loop-name-preserved : goal.loop-name-preserved
loop-name-preserved g c = goes_on (both (both c.loop-name.invariant c.in_ok-standing.ensures) c.in_ok-held.ensures) (λ m k at calls t sound.
    let s = settings_of c.args.office.now.setup c.args.office.now.controls in
    let text = c.loop-name.text.items in
    let name = c.name-item.result in
    let later = drop (c.loop-name.name-index + 1) c.args.names.now in
    let line : modem_line name c.in_ok-standing.standing _ ≡ modem_shown s (aged t m) name =
    ap₂ (modem_line name) (calls.0.1 ∙ ap (standing s m) c.as_str.ensures.text) (calls.1 t sound ∙ ap (λ n. grant_shown (aged t m) (held_by n m)) c.as_str-in-loop-name.ensures.text) in
    calls.0.0 t sound
    ∙ ap (λ (xs : List (List ℕ)). text ++ flat_map (modem_shown s (aged t m)) xs) (drop_more c.args.names.now c.loop-name.name-index name c.loop-name-test.true ∙ ap (λ x. x ∷ later) (sym c.name-item.is))
    ∙ sym (append_assoc text (modem_shown s (aged t m) name) (flat_map (modem_shown s (aged t m)) later))
    ∙ ap (λ front. front ++ flat_map (modem_shown s (aged t m)) later) (ap (λ l. text ++ l) (sym line) ∙ sym c.in_ok-push_line.ensures))

pub returns : goal.returns
returns g c = goes_on c.loop-name.invariant (λ m k at seen t sound.
    let s = settings_of c.args.office.now.setup c.args.office.now.controls in
    let text = c.loop-name.text.items in
    sym (seen t sound ∙ ap (λ (xs : List (List ℕ)). text ++ flat_map (modem_shown s (aged t m)) xs) (drop_all c.loop-name.name-index c.args.names.now c.loop-name-test.false) ∙ append-nil text))
