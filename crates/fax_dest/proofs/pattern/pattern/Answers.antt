use Rattle.std.proofs.Common.{false}
use Rattle.fax_dest.proofs.PatternLemmas.{pattern_read, compiled_fine, compiled_big, compiled_bad}
use Rattle.fax_dest.proofs.pattern.pattern.Goals as goal

pub returns-in-Ok-clause-given : goal.returns-in-Ok-clause-given
returns-in-Ok-clause-given c = λ is_pattern grammar.
    let text = c.args.text.now in
    let made = c.in-Ok.ensures in
    (text, compiled_fine is_pattern text (grammar.reads text (pattern_read c.in-Ok.regex text made.source made.config made.read)), made.source)

pub returns-in-Err-Syntax-clause-given : goal.returns-in-Err-Syntax-clause-given
returns-in-Err-Syntax-clause-given c = λ is_pattern grammar.
    let text = c.args.text.now in
    let told = c.in-Err-Syntax in
    compiled_bad is_pattern false text (grammar.refuses text (told.field-0-0, rw told.field-0-is at told.ensures.by_grammar, rw told.field-0-is at told.ensures.kind))

pub returns-in-Err-CompiledTooBig-clause-given : goal.returns-in-Err-CompiledTooBig-clause-given
returns-in-Err-CompiledTooBig-clause-given c = λ is_pattern grammar.
    let text = c.args.text.now in
    let told = c.in-Err-CompiledTooBig in
    compiled_big is_pattern text (grammar.reads text (rw told.field-0-is at told.ensures.kind))
