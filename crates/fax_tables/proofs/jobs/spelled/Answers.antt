use Rattle.std.proofs.Common.{rules, ◌≡◌, ◌∙◌, sym, ap, subst, true, false}
use Rattle.std.specs.Str.{bytes_eq}
use Rattle.std.proofs.lemmas.Slice.Eq.{bytes_eq-Decides}
use Rattle.fax_job.specs.Spelling.{printed}
use Rattle.fax_tables.specs.Fault.{fault_by}
use Rattle.fax_tables.proofs.ResultLemmas.{passes_on}
use Rattle.fax_lines.specs.Spells.{Spells}
use Rattle.fax_tables.proofs.TextLemmas.{lines_kept, wants_memory}
use Rattle.fax_tables.proofs.jobs.spelled.Goals as goal

pub returns-in_err-lines-clause-found : goal.returns-in_err-lines-clause-found
returns-in_err-lines-clause-found c lines is pairs =
    let wants = wants_memory lines c.in_err-lines.field-0.0 (c.in_err-lines.ensures.only lines (subst (λ t. Spells t lines) (sym is) (lines_kept lines pairs))) in
    passes_on c.from_residual.result _ (λ found. found ≡ lines) c.from_residual.ensures.1 (ap fault_by wants)

pub returns-then-eq-clause-found : goal.returns-then-eq-clause-found
returns-then-eq-clause-found c lines is pairs = let e = c.in_ok-lines.ensures.only lines (subst (λ t. Spells t lines) (sym is) (lines_kept lines pairs)) in cc

pub returns-else-eq-clause-found : goal.returns-else-eq-clause-found
returns-else-eq-clause-found c lines is pairs =
    let e = c.in_ok-lines.ensures.only lines (subst (λ t. Spells t lines) (sym is) (lines_kept lines pairs)) in
    let same : c.in_ok-lines.lines ≡ lines = cc in
    let text : c.in_ok-spelling.spelling.items ≡ c.args.text.now = c.in_ok-spelling.ensures.printed ∙ ap printed same ∙ sym is in
    let yes : bytes_eq c.in_ok-spelling.spelling.items c.args.text.now ≡ true = (bytes_eq-Decides c.in_ok-spelling.spelling.items c.args.text.now).1 text in
    let no : bytes_eq c.in_ok-spelling.spelling.items c.args.text.now ≡ false = search rules in
    absurd cc
