use Rattle.std.proofs.Common.{ap, ◌∙◌}
use Rattle.std.specs.Option.{is_some}
use Rattle.std.specs.Str.{bytes_eq}
use Rattle.fax_job.specs.Pair.{Pair}
use Rattle.fax_job.proofs.ListLemmas.{is_some-find}
use Rattle.fax_job.proofs.lines.Lines.has_tag.Goals as goal

pub returns : goal.returns
returns c = c.is_some.ensures ∙ ap is_some c.find.ensures ∙ is_some-find (λ (p : Pair). bytes_eq p.tag c.args.tag.now) c.args.self.now
