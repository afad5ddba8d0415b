-- What the files of an office mean, once both were read.
use Rattle.std.proofs.Common.{◌≡◌, ℕ, Vec, Result, Ok, Err, inl, inr, subst, sym}
use Rattle.std.specs.declared.alloc.Global.{Global}
use Rattle.fax_files.specs.Office.{IsReadOf}
use Rattle.fax_files.specs.Shown.{IsShownOf, ShowsBoth}
use Rattle.fax_files.specs.declared.office.OfficeFault.{OfficeFault}
use Rattle.fax_files.specs.declared.shown.Shown.{Shown}
use Rattle.fax_text.specs.declared.server.OfficeFiles.{OfficeFiles}

-- what comes of the texts comes of the files
pub shown_of : (files : OfficeFiles) (setup controls : Vec ℕ Global) (result : Result Shown OfficeFault) → IsReadOf files.setup (Ok setup) → IsReadOf files.controls (Ok controls)
    → ShowsBoth setup.items controls.items result → IsShownOf files result
shown_of files setup controls (Ok shown) its theirs shows = record { setup = setup; controls = controls; setup_read = its; controls_read = theirs; shown = shows }
shown_of files setup controls (Err fault) its theirs shows = inr (inr (record { setup = setup; controls = controls; setup_read = its; controls_read = theirs; shown = shows }))

-- the controls can't be read, and the setup was
pub unread_controls : (files : OfficeFiles) (setup : Vec ℕ Global) (fault : OfficeFault) (result : Result Shown OfficeFault) → IsReadOf files.setup (Ok setup) → IsReadOf files.controls (Err fault)
    → result ≡ Err fault → IsShownOf files result
unread_controls files setup fault result its theirs is = subst (λ (r : Result Shown OfficeFault). IsShownOf files r) (sym is) (inr (inl ((setup, its), theirs)))
