use Rattle.std.proofs.Common.{sym}
use Rattle.fax_value.proofs.ValueLemmas.{ends_with_backslash_last}
use Rattle.fax_value.proofs.value.ends_with_backslash.Goals as goal

pub returns-in-len1-up : goal.returns-in-len1-up
returns-in-len1-up c = sym (ends_with_backslash_last c.args.text.now)
