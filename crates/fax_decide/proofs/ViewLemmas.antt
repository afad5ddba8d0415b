-- What is shown of a job, and of all jobs.
use Rattle.std.proofs.Common.{◌≡◌, inl, inr, ℕ, zero, suc, ◌+◌, ◌-◌, ◌<◌, ◌≤◌, List, [], ◌∷◌, ◌++◌, All, get_or, length, map, Option, Some, refl, sym, ap, ap₂, subst, ◌∙◌, arith, option_map}
use Rattle.std.specs.List.Sorted.{IsStrictlyIncreasing}
use Rattle.std.proofs.lemmas.List.{drop-map, length-map}
use Rattle.std.proofs.lemmas.List.Elements.{All-head, All-tail}
use Rattle.std.proofs.lemmas.List.Folds.{flat_map-map}
use mathlib.Core.List.{map-map}
use Rattle.fax_job.specs.JobLines.{job_lines}
use Rattle.fax_job.specs.Spelling.{printed}
use Rattle.fax_job.specs.declared.job.JobFields.{JobFields}
use Rattle.fax_ask.specs.Answer.{Shown}
use Rattle.fax_ask.specs.Response.{accepted_response}
use Rattle.fax_ask.specs.declared.view.View.TheVariants as sight
use Rattle.fax_core.specs.Ageing.{aged, aged_job}
use Rattle.fax_core.specs.Job.{Job, fields_of, job_of}
use Rattle.fax_core.specs.Queue.{Queue, job_numbered}
use Rattle.fax_core.specs.Settings.{Settings}
use Rattle.fax_core.specs.Sound.{AscendBetween, Sound}
use Rattle.fax_core.specs.State.{calls_to, state}
use Rattle.fax_core.proofs.DecisionLemmas.{aged_number}
use Rattle.fax_core.proofs.FitsLemmas.{job_again, record_again}
use Rattle.fax_tables.specs.Job.{IsLawfulJob, brief}
use Rattle.fax_text.specs.Listing.{Listed, heading, line_of, listing_of, number_of}
use Rattle.fax_run.specs.View.{newest, viewed, view, with_state}
use Rattle.fax_layout.proofs.ColumnLemmas.{all_kept}
use Rattle.fax_store.specs.Job.{jobs_from}
use Rattle.fax_decide.specs.Newest.{HasNewest, InBrief}
use Rattle.fax_decide.proofs.NewestLemmas.{ascend_drop, is_later, newest_later, newest_map}
use Rattle.fax_decide.proofs.LinesLemmas.{aged_lined, lined, state_lined}
use Rattle.fax_decide.proofs.CallLemmas.{state_aged}

-- a job that is found is shown with its state
pub job_viewed : (s : Settings) (m : Queue) (t n : ℕ) (f : JobFields) (found : Option JobFields)
    → option_map (λ x. job_of x) found ≡ job_numbered n (aged t m) → found ≡ Some f
    → accepted_response (Shown (printed (job_lines f (state s m t (job_of f))))) ≡ view s m t (sight.Job n)
job_viewed s m t n f found is one =
    let there : Some (job_of f) ≡ job_numbered n (aged t m) = ap (λ o. option_map (λ (x : JobFields). job_of x) o) (sym one) ∙ is in
    ap₂ (λ (x : JobFields) (a : ℕ). accepted_response (Shown (printed (job_lines x a)))) (sym (record_again f)) (sym (state_aged s m t (job_of f)))
    ∙ ap (viewed s (aged t m) t) there

-- ---- the listing

-- mapping by what is alike of each element is alike
map_same : {X Y : Type 0} (f g : X → Y) (P : X → Type 0) → ((x : X) → P x → f x ≡ g x) → (xs : List X) → All P xs → map f xs ≡ map g xs
map_same f g P same [] all = refl
map_same f g P same (x ∷ xs) all = ap₂ ◌∷◌ (same x (All-head P x xs all)) (map_same f g P same xs (All-tail P x xs all))

-- an aged job with its state is its row
pub row_is : (s : Settings) (m : Queue) (t : ℕ) (f g : JobFields) (found : ℕ) → job_of g ≡ aged_job t (job_of f) → found ≡ state s m t (job_of g)
    → ◌≡◌ {A = Listed} (g, found) (with_state s m t (aged_job t (job_of f)))
row_is s m t f g found old told = ap₂ (λ (x : JobFields) (n : ℕ). (x, n)) (sym (record_again g)) told ∙ ap (with_state s m t) old

-- the rows of the listing have the jobs' numbers
numbers_seen : (s : Settings) (q : Queue) (t : ℕ) (jobs : List Job) → map number_of (map (with_state s q t) (map (aged_job t) jobs)) ≡ map (λ j. j.number) jobs
numbers_seen s q t [] = refl
numbers_seen s q t (j ∷ js) = ap₂ ◌∷◌ (aged_number t j) (numbers_seen s q t js)

-- each of ascending numbers is below the next
increasing : (low high : ℕ) (ns : List ℕ) → AscendBetween low ns high → IsStrictlyIncreasing ns
increasing low high [] ascend k inside = absurd (omega (arith, inside))
increasing low high (n ∷ []) ascend k inside = absurd (omega (arith, inside))
increasing low high (n ∷ o ∷ ns) ascend zero inside = (ascend.1).0
increasing low high (n ∷ o ∷ ns) ascend (suc k) inside =
    let on : suc (k + 1) ≡ suc k + 1 = omega arith in
    subst (λ i. get_or (o ∷ ns) k 0 < get_or (n ∷ o ∷ ns) i 0) on (increasing n high (o ∷ ns) ascend.1 k (omega (arith, inside)))

-- and stand in ascending order of their numbers
pub rows_ascend : (s : Settings) (m : Queue) (t : ℕ) → Sound m → IsStrictlyIncreasing (map number_of (map (with_state s (aged t m) t) (aged t m).jobs))
rows_ascend s m t sound =
    increasing 0 m.next_job _ (subst (λ ns. AscendBetween 0 ns m.next_job) (sym (numbers_seen s (aged t m) t m.jobs)) sound.jobs)

-- ---- without the extra lines

abbrev pub thin : Listed → Listed
thin row = (brief row.0, row.1)

-- a job without its lines is listed without them, with the state that it has in the aged queue
row_seen : (s : Settings) (m : Queue) (t : ℕ) (j : Job) → IsLawfulJob j
    → with_state s m t (aged_job t (job_of (brief (fields_of j)))) ≡ thin (with_state s (aged t m) t (aged_job t j))
row_seen s m t j lawful =
    let k = aged_job t j in
    ap (λ (x : Job). with_state s m t (aged_job t (lined [] x))) (job_again j lawful.pages) ∙ ap (with_state s m t) (sym (aged_lined [] t j))
    ∙ ap (λ (n : ℕ). (brief (fields_of k), n)) (state_lined [] k.phase k ((s.rule k.dial).hours t) (calls_to k.dial m) (s.rule k.dial).calls t ∙ sym (state_aged s m t k))

-- the records of jobs but their extra lines, aged, are the rows of their listing but these
pub briefs_seen : (s : Settings) (m : Queue) (t : ℕ) (jobs : List Job) (records : List JobFields) → All IsLawfulJob jobs → records ≡ map (λ j. brief (fields_of j)) jobs
    → map (λ f. with_state s m t (aged_job t (job_of f))) records ≡ map thin (map (with_state s (aged t m) t) (map (aged_job t) jobs))
briefs_seen s m t jobs records lawful is =
    let seen = with_state s (aged t m) t in
    ap (map (λ f. with_state s m t (aged_job t (job_of f)))) is ∙ map-map (λ f. with_state s m t (aged_job t (job_of f))) (λ j. brief (fields_of j)) jobs
    ∙ map_same _ (λ j. thin (seen (aged_job t j))) IsLawfulJob (row_seen s m t) jobs lawful
    ∙ sym (ap (map thin) (map-map seen (aged_job t) jobs) ∙ map-map thin (λ j. seen (aged_job t j)) jobs)

-- of some jobs, the last rows are those of the newest of all but their extra lines, where their newest are
module _ (s : Settings) (m : Queue) (t : ℕ) (records : List JobFields) (rows : List Listed) (are : rows ≡ map (λ f. with_state s m t (aged_job t (job_of f))) records) where
  newest_of : (jobs : List Job) → All IsLawfulJob jobs → InBrief jobs records → newest jobs ≡ newest m.jobs
      → newest rows ≡ map thin (map (with_state s (aged t m) t) (newest (aged t m).jobs))
  newest_of jobs lawful brief same =
      let seen = with_state s (aged t m) t in
      ap newest (are ∙ briefs_seen s m t jobs records lawful brief) ∙ newest_map thin (map seen (map (aged_job t) jobs))
      ∙ ap (map thin) (newest_map seen (map (aged_job t) jobs)
      ∙ ap (map seen) (newest_map (aged_job t) jobs ∙ ap (map (aged_job t)) same ∙ sym (newest_map (aged_job t) m.jobs)))

  -- so are those of the jobs that are read
  pub newest_seen : Sound m → All IsLawfulJob m.jobs → HasNewest m records → newest rows ≡ map thin (map (with_state s (aged t m) t) (newest (aged t m).jobs))
  newest_seen sound lawful (inl read) =
      let long = ap length read.are ∙ length-map (jobs_from read.first m) (λ j. brief (fields_of j)) in
      newest_of (jobs_from read.first m) (all_kept IsLawfulJob (is_later (λ (j : Job). j.number) read.first) m.jobs lawful) read.are
      (newest_later (λ (j : Job). j.number) read.first 0 m.next_job m.jobs sound.jobs (subst (λ n. 200 ≤ n) long read.enough))
  newest_seen sound lawful (inr all) = newest_of m.jobs lawful all refl

-- which have ascending numbers
pub newest_ascend : (s : Settings) (m : Queue) (t : ℕ) → Sound m → IsStrictlyIncreasing (map number_of (map (with_state s (aged t m) t) (newest (aged t m).jobs)))
newest_ascend s m t sound =
    let n = length m.jobs - 200 in
    let some = ascend_drop n 0 m.next_job (map (λ (j : Job). j.number) m.jobs) sound.jobs in
    let numbers = drop-map (λ (j : Job). j.number) n m.jobs ∙ sym (numbers_seen s (aged t m) t (newest m.jobs))
    ∙ ap (λ (js : List Job). map number_of (map (with_state s (aged t m) t) js)) (sym (newest_map (aged_job t) m.jobs)) in
    increasing some.0 m.next_job _ (subst (λ ns. AscendBetween some.0 ns m.next_job) numbers some.1)

-- the listing shows the same without the extra lines
pub listing_thin : (shows : ℕ → List ℕ) (rows : List Listed) → listing_of shows (map thin rows) ≡ listing_of shows rows
unfolding listing_of
listing_thin shows rows = ap (λ more. heading ++ more) (flat_map-map (line_of shows) thin rows)

-- and has the same numbers
pub numbers_thin : (rows : List Listed) → map number_of (map thin rows) ≡ map number_of rows
numbers_thin rows = map-map number_of thin rows
