-- The listing of jobs, after faxstat(1).
use Rattle.std.specs.Prelude.{◌≡◌, ℕ, List, [], ◌∷◌, ◌++◌, codes, flat_map, map, max, slice_index_or, unsigned_abs}
use Rattle.std.specs.Fmt.{decimal}
use Rattle.std.specs.List.Sorted.{IsNonDecreasingBy, IsPermutation}
use Rattle.std.specs.Str.{chars}
use Rattle.jiff.specs.Types.{TimeZone}
use Rattle.fax_hours.specs.declared.zone.Civil.{Civil}
use Rattle.fax_job.specs.declared.job.JobFields.{JobFields}
use Rattle.fax_text.specs.Civil.{civil_at}
use Rattle.fax_text.specs.Column.{left, right, shown, spaced, zeros}

-- a job and the number of its state
abbrev pub Listed : Type 0
Listed = JobFields × ℕ

abbrev pub number_of : Listed → ℕ
number_of job = job.0.job

-- the names of the columns, each as wide as its column; the last one is as long as it is
abbrev pub names : List (List ℕ)
names =
    right 6 (codes "JID") ∷ right 3 (codes "Pri") ∷ codes "S" ∷ left 20 (codes "Number") ∷ left 12 (codes "Tag")
    ∷ right 9 (codes "Pages") ∷ right 9 (codes "Dials") ∷ left 16 (codes "TTS") ∷ codes "Status" ∷ []

abbrev pub heading : List ℕ
heading = spaced names ++ codes "\n"

-- the letters of the states 1 to 8: suspended, pending, sleeping, blocked, ready, active, done, failed
abbrev pub letters : List ℕ
letters = codes "TPSBWRDF"

-- a number that is no state has the letter `?`
abbrev pub letter_of : ℕ → ℕ
letter_of state = slice_index_or (63 ∷ letters) state 63

-- so many of so many
abbrev pub ratio : ℕ → ℕ → List ℕ
ratio part whole = decimal part ++ codes ":" ++ decimal whole

-- `YYYY-MM-DD HH:MM`; a job's moments are in the years 1969 to 2100
abbrev pub time_text : Civil → List ℕ
time_text at =
    zeros 4 (unsigned_abs at.year) ++ codes "-" ++ zeros 2 at.month ++ codes "-" ++ zeros 2 at.day
    ++ codes " " ++ zeros 2 at.hour ++ codes ":" ++ zeros 2 at.minute

-- the status is no column where it is empty
abbrev pub status_column : List ℕ → List (List ℕ)
status_column [] = []
status_column (byte ∷ bytes) = map shown (chars (byte ∷ bytes)) ∷ []

-- what a clock in the zone shows at a moment, as text
unfoldable pub time_shown : TimeZone → ℕ → List ℕ
time_shown zone seconds = time_text (civil_at zone seconds)

-- the columns of a job, with the text of its time
abbrev pub columns : JobFields → ℕ → List ℕ → List (List ℕ)
columns job state time =
    right 6 (decimal job.job) ∷ right 3 (decimal job.priority) ∷ (letter_of state ∷ [])
    ∷ left 20 (chars job.dial) ∷ left 12 (chars job.jobtag)
    ∷ right 9 (ratio job.npages job.totpages) ∷ right 9 (ratio job.totdials job.maxdials)
    ∷ time ∷ status_column job.status

-- a job's line, by how a clock shows a moment: its time is the later of its time to send and its next time
abbrev pub line_of : (ℕ → List ℕ) → Listed → List ℕ
line_of shows job = spaced (columns job.0 job.1 (shows (max job.0.tts job.0.next))) ++ codes "\n"

-- the heading, and then a line for each job in the order in which they are given
unfoldable pub listing_of : (ℕ → List ℕ) → List Listed → List ℕ
listing_of shows jobs = heading ++ flat_map (line_of shows) jobs

-- the listing of all jobs in ascending order of their numbers, by a clock in the zone
pub record IsListing (zone : TimeZone) (jobs : List Listed) (text : List ℕ) : Type 0 where
  pub rows : List Listed
  pub all : IsPermutation jobs rows
  pub order : IsNonDecreasingBy number_of rows
  pub is : text ≡ listing_of (time_shown zone) rows

-- ---- parts of a line, as they are written

-- the columns that say which job it is, with a space behind each
abbrev pub who : JobFields → ℕ → List ℕ
who job state =
    right 6 (decimal job.job) ++ codes " " ++ right 3 (decimal job.priority) ++ codes " " ++ (letter_of state ∷ []) ++ codes " "
    ++ left 20 (chars job.dial) ++ codes " " ++ left 12 (chars job.jobtag) ++ codes " "

-- the columns that say how far it has come, likewise
abbrev pub progress : JobFields → List ℕ
progress job = right 9 (ratio job.npages job.totpages) ++ codes " " ++ right 9 (ratio job.totdials job.maxdials) ++ codes " "
