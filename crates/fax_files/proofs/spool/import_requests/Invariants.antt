use Rattle.std.proofs.Common.{◌≡◌, ◌+◌}
use Rattle.fax_files.specs.Spool.{AreImports}
use Rattle.fax_files.proofs.spool.import_requests.Given as goal

abbrev pub invariant-loop-file : goal.invariant-loop-file
invariant-loop-file l = AreImports l.plan.client.now l.first l.file-index l.text.items × (l.number ≡ l.first + l.file-index)
