-- Only want of memory excuses a reading: no other fault of a line counts as that.
use Rattle.std.proofs.Common.{◌≡◌, true, refl}
use Rattle.fax_lines.specs.Reading as reading
use Rattle.fax_job.specs.declared.lines.LineKind.{LineKind}
use Rattle.fax_job.specs.declared.lines.LineKind.TheVariants as kind

-- a fault of a line that counts as want of memory is just that
pub memory_of_line : (fault : LineKind) → reading.is_memory fault ≡ true → fault ≡ kind.NoMemory
memory_of_line kind.NoMemory h = refl
memory_of_line kind.NotText h = cc
memory_of_line kind.NoColon h = cc
memory_of_line kind.BadTag h = cc
memory_of_line kind.Twice h = cc
memory_of_line kind.BadValue h = cc
memory_of_line kind.OpenEnd h = cc
