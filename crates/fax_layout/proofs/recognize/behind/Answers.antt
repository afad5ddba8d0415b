use Rattle.std.proofs.Common.{true, false, refl, subst, sym}
use Rattle.fax_layout.specs.Shape.{Passes, indexed_as}
use Rattle.fax_layout.specs.declared.shape.Part.TheVariants as part
use Rattle.fax_layout.proofs.ShapeLemmas.{passes_index}
use Rattle.fax_layout.proofs.recognize.behind.Goals as goal

pub returns-in-Key : goal.returns-in-Key
returns-in-Key c =
    let left = c.args.left in
    let shape = c.in-Key.shape in
    subst (λ first. Passes left first c.behind_index.result) (sym c.in-Key.is) (passes_index left (part.Key shape) (indexed_as shape left.tree left.table true) c.behind_index.result (λ _. refl) (λ _. refl) c.behind_index.ensures)

pub returns-in-Index : goal.returns-in-Index
returns-in-Index c =
    let left = c.args.left in
    let shape = c.in-Index.shape in
    let table = c.in-Index.table in
    subst (λ first. Passes left first c.behind_index-in-Index.result) (sym c.in-Index.is) (passes_index left (part.Index shape table) (indexed_as shape left.tree table false) c.behind_index-in-Index.result (λ _. refl) (λ _. refl) c.behind_index-in-Index.ensures)
