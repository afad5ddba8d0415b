-- The parts of a line, and lines one after the other.
use Rattle.std.proofs.Common.{◌≡◌, ◌∙◌, ℕ, ◌+◌, ◌<◌, List, [], ◌∷◌, ◌++◌, length, map, max, take, get_or, codes, refl, ap, sym, arith, append_assoc, append-nil, Bor}
use Rattle.std.proofs.Math.ListN.{get_or-map}
use Rattle.std.proofs.lemmas.List.{flat_map_more, length-map, map_push, take_more}
use Rattle.std.proofs.lemmas.List.Sorted.{IsNonDecreasingBy-from_default}
use Rattle.std.specs.List.Sorted.{IsNonDecreasingBy}
use Rattle.std.specs.Fmt.{decimal}
use Rattle.std.specs.Str.{chars}
use Rattle.jiff.specs.Types.{TimeZone}
use Rattle.fax_hours.specs.declared.zone.Civil.{Civil}
use Rattle.fax_job.specs.declared.job.JobFields.{JobFields}
use Rattle.fax_text.specs.Civil.{civil_at}
use Rattle.fax_text.specs.Column.{behind_spaces, left, right, shown, spaced}
use Rattle.fax_text.specs.Listing.{Listed, columns, heading, letter_of, line_of, listing_of, number_of, progress, ratio, status_column, time_shown, time_text, who}

-- one more part, behind what was written
pub and_then : (start part next : List ℕ) {before now : List ℕ} → before ≡ start ++ part → now ≡ before ++ next → now ≡ start ++ (part ++ next)
and_then start part next e f = f ∙ ap (λ t. t ++ next) e ∙ append_assoc start part next

-- the nine columns side by side, and then what stands behind them
side_by_side : (a b c d e f g h rest : List ℕ)
    → (((a ++ (32 ∷ []) ++ b ++ (32 ∷ []) ++ c ++ (32 ∷ []) ++ d ++ (32 ∷ []) ++ e ++ (32 ∷ [])) ++ (f ++ (32 ∷ []) ++ g ++ (32 ∷ []))) ++ h) ++ rest
    ≡ a ++ (32 ∷ b ++ (32 ∷ c ++ (32 ∷ d ++ (32 ∷ e ++ (32 ∷ f ++ (32 ∷ g ++ (32 ∷ h ++ rest)))))))
side_by_side a b c d e f g h rest = simp append_assoc

-- the columns of a job, joined, are its columns with spaces between them
pub columns_joined : (job : JobFields) (state : ℕ) (time : List ℕ)
    → who job state ++ progress job ++ time ++ behind_spaces (status_column job.status) ≡ spaced (columns job state time)
columns_joined job state time =
    side_by_side (right 6 (decimal job.job)) (right 3 (decimal job.priority)) (letter_of state ∷ []) (left 20 (chars job.dial)) (left 12 (chars job.jobtag))
    (right 9 (ratio job.npages job.totpages)) (right 9 (ratio job.totdials job.maxdials)) time (behind_spaces (status_column job.status))

-- a job with no status has no column for it
pub no_status : (status : List ℕ) → length status ≡ 0 → behind_spaces (status_column status) ≡ []
no_status [] h = refl
no_status (byte ∷ bytes) h = absurd (omega arith)

-- one with a status has it behind a space, as it is shown
pub some_status : (status : List ℕ) → 0 < length status → behind_spaces (status_column status) ≡ 32 ∷ map shown (chars status)
some_status [] h = absurd (omega arith)
some_status (byte ∷ bytes) h = append-nil _

-- a line of a time that the clock shows
pub shown_line : (zone : TimeZone) (job : Listed) (at : Civil) → at ≡ civil_at zone (max job.0.tts job.0.next)
    → spaced (columns job.0 job.1 (time_text at)) ++ codes "\n" ≡ line_of (time_shown zone) job
unfolding time_shown
shown_line zone job at e = ap (λ c. spaced (columns job.0 job.1 (time_text c)) ++ codes "\n") e

-- a listing of no jobs is its heading
pub no_lines : (shows : ℕ → List ℕ) → heading ≡ listing_of shows []
unfolding listing_of
no_lines shows = sym (append-nil heading)

-- a listing of one job more has its line behind the others
pub more_lines : (shows : ℕ → List ℕ) (rows : List Listed) (row : Listed) → listing_of shows rows ++ line_of shows row ≡ listing_of shows (rows ++ row ∷ [])
unfolding listing_of
more_lines shows rows row = flat_map_more (line_of shows) heading rows row

-- the same of a list of references, at the place that a loop has come to
pub more_rows : (shows : ℕ → List ℕ) (rows : List (Bor Listed)) (place : ℕ) (row : Bor Listed) (old new : List ℕ)
    → place < length rows → row ≡ get_or rows place row
    → old ≡ listing_of shows (map (λ r. r.now) (take place rows)) → new ≡ old ++ line_of shows row.now
    → new ≡ listing_of shows (map (λ r. r.now) (take (place + 1) rows))
more_rows shows rows place row old new inside at so_far added =
    let next : map (λ r. r.now) (take (place + 1) rows) ≡ map (λ r. r.now) (take place rows) ++ row.now ∷ [] =
    ap (map (λ r. r.now)) (take_more rows place row inside) ∙ map_push _ (take place rows) (get_or rows place row) ∙ ap (λ (r : Bor Listed). map (λ r. r.now) (take place rows) ++ r.now ∷ []) (sym at) in
    added ∙ ap (λ t. t ++ line_of shows row.now) so_far ∙ more_lines shows (map (λ r. r.now) (take place rows)) row.now ∙ ap (listing_of shows) (sym next)

-- what is in order behind references is in order
pub in_order : (rows : List (Bor Listed)) → IsNonDecreasingBy (λ row. row.now.0.job) rows → IsNonDecreasingBy number_of (map (λ row. row.now) rows)
in_order [] up = λ i j d le inside. absurd (omega arith)
in_order (first ∷ rest) up =
    let rows : List (Bor Listed) = first ∷ rest in
    let at : (k : ℕ) → get_or (map (λ row. row.now) rows) k first.now ≡ (get_or rows k first).now = λ k. get_or-map (λ row. row.now) rows k first in
    IsNonDecreasingBy-from_default number_of (map (λ row. row.now) rows) first.now
    (λ i j le inside. rw (at i, at j) (up i j first le (omega (arith, length-map rows (λ row. row.now)))))
