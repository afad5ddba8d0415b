-- What looks up the rules of numbers, one number after the other.
use Rattle.std.specs.Prelude.{◌≡◌, length, map, take}
use Rattle.regex.specs.Patterns.{Re}
use Rattle.regex.specs.Strings.{matcher_pattern, regex_pattern}
use Rattle.fax_dest.specs.declared.controls.Controls.{Controls}
use Rattle.fax_dest.specs.declared.controls.Entry.{Entry}
use Rattle.fax_dest.specs.declared.finder.Finder.{Finder}

abbrev pub entry_pattern : Entry → Re
entry_pattern entry = regex_pattern entry.pattern

-- it has the rules of the controls, and searches for the patterns of the first ones
pub record IsFinderOf (controls : Controls) (finder : Finder) : Type 0 where
  pub rules : finder.rules.now ≡ controls.rules.items
  pub searches : map matcher_pattern finder.matchers.items ≡ map entry_pattern (take (length finder.matchers.items) controls.rules.items)
