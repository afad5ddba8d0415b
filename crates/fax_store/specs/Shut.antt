-- What a store says of whether it is shut.
use Rattle.std.specs.Prelude.{◌≡◌, ◌⊎◌, Bool, true, false, [], Ok, Err, Result}
use Rattle.sqlite.specs.State.{State, IsNotRun, IsUnchanged}
use Rattle.sqlite.specs.declared.error.Error.{Error}
use Rattle.sqlite.specs.declared.error.Error.TheVariants.{SqliteFailure}
use Rattle.sqlite.specs.declared.error.ErrorCode.TheVariants.{Closed}
use Rattle.fax_store.specs.declared.store.TheConstants.{COMMIT}
use Rattle.fax_tables.specs.declared.fault.StoreFault.{StoreFault}
use Rattle.fax_tables.specs.declared.fault.StoreFault.TheVariants.{Unavailable}

-- what the error of a text that isn't compiled says: that the database is shut, or nothing
abbrev pub shut_by : Error → Result Bool StoreFault
shut_by (SqliteFailure Closed) = Ok true
shut_by _ = Err Unavailable

-- A text is compiled, and the database is open; or it isn't, and its error says whether the database is shut.
abbrev pub SaysShut : State → State → Result Bool StoreFault → Type 0
SaysShut old new result = ((result ≡ Ok false) × IsUnchanged old new) ⊎ ((e : Error) × (result ≡ shut_by e) × IsNotRun old new COMMIT.now [] e)
