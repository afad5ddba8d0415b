use Rattle.std.proofs.Common.{rules}
use Rattle.std.proofs.lemmas.Iterator.{YieldsList-from_chars, YieldsList-from_map}
use Rattle.std.proofs.lemmas.Iterator.Adapters.{items_from_extend}
use Rattle.fax_text.specs.Column.{shown}
use Rattle.fax_text.proofs.column.push_shown.Goals as goal

pub returns : goal.returns
returns c =
    let all = items_from_extend c.extend.result c.extend.ensures.ran (YieldsList-from_map _ shown (YieldsList-from_chars c.args.field.now (search rules) cc) c.map.ensures.closure (λ x r q k. search rules)) in
    search rules
