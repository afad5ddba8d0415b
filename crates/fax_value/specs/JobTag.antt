-- Tags that clients give their jobs.
use Rattle.std.specs.Prelude.{ℕ, Bool, IsTrue, ◌&&◌, List, length, nat_le, Result, Ok, Err, if◌then◌else◌}
use Rattle.fax_value.specs.Value.{is_value}
use Rattle.fax_value.specs.declared.text_fault.TextFault.{TextFault}
use Rattle.fax_value.specs.declared.text_fault.TextFault.TheVariants.{Bad}

abbrev pub is_job_tag : List ℕ → Bool
is_job_tag text = nat_le (length text) 200 && is_value text

abbrev pub IsJobTag : List ℕ → Type 0
IsJobTag text = IsTrue (is_job_tag text)

abbrev pub job_tag_of : List ℕ → Result (List ℕ) TextFault
job_tag_of text = if is_job_tag text then Ok text else Err Bad
