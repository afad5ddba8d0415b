use Rattle.std.proofs.Common.{◌∙◌, ◌++◌, List, ℕ, ap}
use Rattle.std.specs.Prelude.{Vec}
use Rattle.std.specs.declared.alloc.Global.{Global}
use mathlib.Core.List.{append_assoc}
use Rattle.fax_text.proofs.import.import_request.Goals as goal

-- the head that was formatted, and the body behind it
pub returns : goal.returns
returns c =
    c.in_ok-extend_from_slice.ensures.items
    ∙ ap (λ (head : List ℕ). head ++ c.args.body.now) (ap (λ (bytes : Vec ℕ Global). bytes.items) c.into_bytes-text.ensures.value ∙ c.in_ok-head.ensures.ok)
    ∙ simp append_assoc
