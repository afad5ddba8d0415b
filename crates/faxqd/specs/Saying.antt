-- What is said on a device.
use Rattle.std.specs.Prelude.{◌⊎◌, ℕ, false, List, Option}
use Rattle.fax_http.specs.Device.{BrokeOff, Put}
use Rattle.fax_http.specs.declared.device.Watched.{Watched}

-- the line was written; or a front of it, and then the device failed
abbrev pub Says : {E : Type 0} → (E → Option (List ℕ)) → Watched E → Watched E → List ℕ → Type 0
Says contents err err₂ line = Put contents err err₂ line false ⊎ BrokeOff contents err err₂ line
