-- Worked rows: the lines of faults in files.
use Rattle.std.specs.Prelude.{◌≡◌, codes, refl}
use Rattle.std.specs.Fmt.{digits}
use Rattle.fax_dest.specs.Fault.{fault_at, kind_word}
use Rattle.fax_dest.specs.declared.fault.FileKind.TheVariants.{BadHours, BadZone}
use Rattle.fax_text.specs.declared.import.ImportFault.TheVariants.{Request}
use Rattle.fax_files.specs.FaultLine.{office_line, open_line, unreadable, words_line}
use Rattle.fax_files.specs.declared.database.OpenFault.TheVariants.{Database}
use Rattle.fax_files.specs.declared.office.OfficeFault.TheVariants.{Controls, Setup}

-- a zone that there isn't, in the third line of a setup
bad_zone : office_line (Setup (fault_at 3 BadZone)) ≡ codes "faxqd: setup line 3: bad-zone\n"
unfolding kind_word digits
bad_zone = refl

-- hours that there aren't, far down in the controls
bad_hours : office_line (Controls (fault_at 10001 BadHours)) ≡ codes "faxqd: controls line 10001: bad-hours\n"
unfolding kind_word digits
bad_hours = refl

-- a setup that isn't there
no_such_setup : unreadable (codes "no/such.setup") ≡ codes "faxqd: cannot read no/such.setup\n"
no_such_setup = refl

-- a folder in place of a database
no_database : open_line Database ≡ codes "faxqd: database\n"
no_database = refl

-- a number that none can have
bad_request : words_line Request ≡ codes "faxqd: bad request\n"
bad_request = refl
