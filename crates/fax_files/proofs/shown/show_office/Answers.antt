use Rattle.std.proofs.Common.{rules, subst}
use Rattle.fax_files.specs.Shown.{ShowsBoth}
use Rattle.fax_files.proofs.ShownLemmas.{shown_of, unread_controls}
use Rattle.fax_files.proofs.shown.show_office.Goals as goal

pub returns : goal.returns
returns c =
    let result = c.show_texts.result in
    shown_of c.args.files c.in_ok-setup.setup c.in_ok-controls.controls result c.in_ok-setup.ensures c.in_ok-controls.ensures
    (subst (λ text. ShowsBoth text c.in_ok-controls.controls.items result) c.as_slice.ensures.value
    (subst (λ text. ShowsBoth c.as_slice.result.now text result) c.as_slice-2.ensures.value c.show_texts.ensures))

pub returns-in_err-controls : goal.returns-in_err-controls
returns-in_err-controls c =
    unread_controls c.args.files c.in_ok-setup.setup c.in_err-controls.field-0.0 c.from_residual-in_err-controls.result c.in_ok-setup.ensures c.in_err-controls.ensures (search rules)
