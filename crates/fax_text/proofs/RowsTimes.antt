-- Worked rows: the key lines of times.
use Rattle.std.specs.Prelude.{◌≡◌, codes, refl}
use Rattle.std.specs.Fmt.{digits}
use Rattle.fax_job.specs.Spelling.{printed}
use Rattle.fax_text.specs.Times.{times_lines}

-- of a job that isn't over
waiting_lines : printed (times_lines 1000 0) ≡ codes "submitted:1000\nended:0\n"
unfolding digits
waiting_lines = refl

-- of a job that is
ended_lines : printed (times_lines 1000 1086) ≡ codes "submitted:1000\nended:1086\n"
unfolding digits
ended_lines = refl
