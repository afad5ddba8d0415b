-- What is wrong with the options of a command.
use Rattle.std.specs.Prelude.{◌≡◌, ◌⊎◌, ℕ, List, ◌++◌, codes, Option, Some, None, option_and_then, ⊤}
use Rattle.clap.specs.Walk.{Row, Text, all_of, first_of}
use Rattle.fax_text.specs.Option.{number_or_none, number_from, number_or}
use Rattle.fax_text.specs.declared.words.Misuse.{Misuse}
use Rattle.fax_text.specs.declared.words.Misuse.TheVariants as misuse

-- what is told of it
unfoldable pub misuse_text : Misuse → List ℕ
misuse_text misuse.Command = codes "no such command"
misuse_text misuse.Database = codes "--db is missing"
misuse_text misuse.Address = codes "--listen is missing"
misuse_text misuse.Connections = codes "--connections wants a number from 1 to 1000000"
misuse_text misuse.Timeout = codes "--timeout wants a number from 1 to 3600"
misuse_text misuse.Destination = codes "-d is missing"
misuse_text misuse.Pages = codes "--pages wants a number from 1 to 9999"
misuse_text misuse.Request = codes "--request is missing"
misuse_text misuse.Priority = codes "-P wants a number from 0 to 255"
misuse_text misuse.Tries = codes "-t wants a number from 1 to 1000"
misuse_text misuse.Dials = codes "-T wants a number from 1 to 1000"
misuse_text misuse.Moment = codes "--moment wants a number of 1 to 18 digits"
misuse_text misuse.Client = codes "--client is missing"
misuse_text misuse.File = codes "FILE is missing"
misuse_text misuse.To = codes "--to is missing"
misuse_text misuse.Journal = codes "--journal is missing"
misuse_text misuse.Wait = codes "--wait wants a number of 1 to 18 digits"
misuse_text misuse.Word = codes "the action is missing"
misuse_text misuse.NoMemory = codes "no memory"

-- the line that tells it
abbrev pub usage_line : Misuse → List ℕ
usage_line m = codes "error: " ++ misuse_text m ++ codes "\n"

-- it is wrong with these options
abbrev pub IsMisuse : List Row → Misuse → Type 0
IsMisuse rows misuse.Command = ⊥
IsMisuse rows misuse.Database = first_of (codes "db") rows ≡ None
IsMisuse rows misuse.Address = first_of (codes "listen") rows ≡ None
IsMisuse rows misuse.Connections = number_or 1000 1 1000000 (first_of (codes "connections") rows) ≡ None
IsMisuse rows misuse.Timeout = number_or 10 1 3600 (first_of (codes "timeout") rows) ≡ None
IsMisuse rows misuse.Destination = first_of (codes "destination") rows ≡ None
IsMisuse rows misuse.Pages = option_and_then (number_from 1 9999) (first_of (codes "pages") rows) ≡ None
IsMisuse rows misuse.Request = first_of (codes "request") rows ≡ None
IsMisuse rows misuse.Priority = number_or 127 0 255 (first_of (codes "priority") rows) ≡ None
IsMisuse rows misuse.Tries = number_or 3 1 1000 (first_of (codes "tries") rows) ≡ None
IsMisuse rows misuse.Dials = number_or 12 1 1000 (first_of (codes "dials") rows) ≡ None
IsMisuse rows misuse.Moment = number_or_none (first_of (codes "moment") rows) ≡ None
IsMisuse rows misuse.Client = first_of (codes "client") rows ≡ None
IsMisuse rows misuse.File = all_of (codes "file") rows ≡ None
IsMisuse rows misuse.To = first_of (codes "to") rows ≡ None
IsMisuse rows misuse.Journal = first_of (codes "journal") rows ≡ None
IsMisuse rows misuse.Wait = number_or_none (first_of (codes "wait") rows) ≡ None
IsMisuse rows misuse.Word = all_of (codes "word") rows ≡ None
IsMisuse rows misuse.NoMemory = ⊤

-- no command was named
pub record IsNoCommand (found : Option (Text × List Row)) : Type 0 where
  pub replay : (rows : List Row) → ¬ (found ≡ Some (codes "replay", rows))
  pub serve : (rows : List Row) → ¬ (found ≡ Some (codes "serve", rows))
  pub list : (rows : List Row) → ¬ (found ≡ Some (codes "list", rows))
  pub check : (rows : List Row) → ¬ (found ≡ Some (codes "check", rows))
  pub sendfax : (rows : List Row) → ¬ (found ≡ Some (codes "sendfax", rows))
  pub import : (rows : List Row) → ¬ (found ≡ Some (codes "import", rows))
  pub settings : (rows : List Row) → ¬ (found ≡ Some (codes "settings", rows))
  pub worker : (rows : List Row) → ¬ (found ≡ Some (codes "worker", rows))
  pub post : (rows : List Row) → ¬ (found ≡ Some (codes "post", rows))

-- it is wrong with what was found: no command was named, or one with such options
abbrev pub IsMisuseOf : Option (Text × List Row) → Misuse → Type 0
IsMisuseOf found m =
    ((m ≡ misuse.Command) × IsNoCommand found) ⊎ ((name : Text) × (rows : List Row) × (found ≡ Some (name, rows)) × IsMisuse rows m)
