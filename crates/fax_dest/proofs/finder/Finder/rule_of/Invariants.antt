use Rattle.std.proofs.Common.{◌≡◌, ℕ, ◌<◌, ◌≤◌, false, get_or, length}
use Rattle.fax_dest.specs.Controls.{matches}
use Rattle.fax_dest.specs.Finder.{IsFinderOf}
use Rattle.fax_dest.specs.declared.controls.Controls.{Controls}
use Rattle.fax_dest.specs.declared.controls.Entry.{Entry}
use Rattle.fax_dest.proofs.finder.Finder.rule_of.Given as goal

abbrev pub invariant-loop-place : goal.invariant-loop-place
invariant-loop-place l = record {
  same : l.self.rules ≡ l.initial.self.rules;
  reached : l.place ≤ length l.self.matchers.items;
  finds : (controls : Controls) → IsFinderOf controls l.initial.self → IsFinderOf controls l.self
      × ((k : ℕ) (d : Entry) → k < l.place → matches l.dial (get_or controls.rules.items k d) ≡ false);
}
