use Rattle.std.proofs.Common.{rules, ◌∙◌, ◌++◌, List, ℕ, ap, sym}
use Rattle.fax_text.specs.Import.{import_message}
use Rattle.fax_files.proofs.SpoolLemmas.{and_one, handed_on}
use Rattle.fax_files.proofs.spool.import_requests.Goals as goal

pub returns-in_err-body : goal.returns-in_err-body
returns-in_err-body c = handed_on c.args.plan.now c.in-Ok.first _ c.from_residual.result c.in_err-body.field-0.0 (sym c.in-Ok.ensures.number) c.in_err-body.ensures.named c.from_residual.ensures

pub loop-file-preserved : goal.loop-file-preserved
loop-file-preserved c =
    let more = c.in_ok-extend_from_slice.ensures.items ∙ ap (λ (bytes : List ℕ). c.loop-file.text.items ++ bytes)
    (c.as_slice-in-loop-file.ensures.value ∙ c.in_ok-request.ensures ∙ ap (import_message c.args.plan.now.client.now c.loop-file.number) c.as_slice.ensures.value) in (
      and_one c.args.plan.now.client.now c.in-Ok.first c.loop-file.file-index c.loop-file.number c.loop-file.text.items c.in_ok-body.body.items c.extend_from_slice.new.self.items
          c.loop-file.invariant.0 c.loop-file.invariant.1 c.in_ok-body.ensures.short more,
      (let now = c.loop-file.invariant.1 in search rules),
    )
