use Rattle.std.proofs.Common.{◌+◌, ◌≤◌, ℕ, Bool, List, length}
use denote.Text.{Utf8}
use denote.Shadow.{shadow}
use Rattle.fax_dest.specs.Pattern.{IsGrammar}
use Rattle.fax_dest.proofs.SetupLemmas.{IsReadTo}
use Rattle.fax_dest.proofs.setup.Setup.read_text.Given as goal

abbrev pub invariant-loop-rest : goal.invariant-loop-rest
invariant-loop-rest l =
    ((is_pattern : List ℕ → Bool) → IsGrammar is_pattern → IsReadTo is_pattern l.text l.number l.setup l.rest) × (l.number + length l.rest ≤ length l.text) × shadow (Utf8 l.rest)

abbrev pub decreases-loop-rest : goal.decreases-loop-rest
decreases-loop-rest l = length l.rest
