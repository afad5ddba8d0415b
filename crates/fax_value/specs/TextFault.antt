-- Why a text gave no value of its kind.
use Rattle.std.specs.Prelude.{Bool, true, false}
use Rattle.fax_value.specs.declared.text_fault.TextFault.{TextFault}
use Rattle.fax_value.specs.declared.text_fault.TextFault.TheVariants.{Bad, NoMemory}

abbrev pub is_no_memory : TextFault → Bool
is_no_memory NoMemory = true
is_no_memory Bad = false
