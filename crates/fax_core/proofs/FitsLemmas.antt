-- Records of code and jobs, and the test of what fits.
use Rattle.std.proofs.Common.{◌≡◌, ℕ, ◌+◌, ◌-◌, ◌<◌, ◌≤◌, Bool, true, ◌&&◌, ◌||◌, eqb, leb, ltb, List, ◌++◌, length, refl, sym, ap, ◌∙◌, arith}
use Rattle.std.specs.Prelude.{Option, Some, None, is_some, Decides}
use Rattle.std.specs.List.{range_with_len}
use Rattle.std.proofs.lemmas.Bool.{and_parts, and_from, leb-true, ltb-true, eqb-true, le-leb, lt-ltb, eq-eqb}
use Rattle.std.proofs.lemmas.List.{length-append}
use Rattle.std.proofs.lemmas.List.FromFn.{length-range_with_len}
use Rattle.fax_job.specs.declared.job.JobFields.{JobFields}
use Rattle.fax_job.specs.declared.job.Phase.{Phase}
use Rattle.fax_job.specs.declared.job.Phase.TheVariants.{Held, Waiting, Granted, Done, Failed}
use Rattle.fax_job.specs.declared.job.Wish.{Wish}
use Rattle.fax_job.specs.declared.job.Wish.TheVariants.{Go, Hold, Kill}
use Rattle.fax_core.specs.declared.grants.Grant.{Grant}
use Rattle.fax_core.specs.Decisions.{is_go}
use Rattle.fax_core.specs.Fits.{is_counted, has_call_left, can_go_on, fits_phase, is_granted, fits}
use Rattle.fax_core.specs.Job.{Job, HasPages, job_of, fields_of}
use Rattle.fax_core.specs.Sound.{IsCounted, HasCallLeft, CanGoOn, FitsPhase, FitsFree, FitsGrant, Fits}
use Rattle.fax_core.proofs.PageLemmas.{tail_is, front_is}
use Rattle.fax_core.proofs.RangeLemmas.{has_pages}

-- ---- records and jobs

-- a record of code is that of its job
pub record_again : (f : JobFields) → fields_of (job_of f) ≡ f
record_again f = ap (λ (n : ℕ). record f { npages = n }) (length-range_with_len 1 f.npages)

-- a job with its pages in order is that of its record
pub job_again : (j : Job) → HasPages j → job_of (fields_of j) ≡ j
job_again j h =
    let front : range_with_len 1 (length j.sent) ≡ j.sent = sym (front_is j.sent j.left 1 j.totpages h) in
    let start : 1 + length j.sent ≡ length j.sent + 1 = omega arith in
    let rest : range_with_len (length j.sent + 1) (j.totpages - length j.sent) ≡ j.left = ap (λ (i : ℕ). range_with_len i (j.totpages - length j.sent)) (sym start) ∙ sym (tail_is j.sent j.left 1 j.totpages h) in
    ap (λ (ps : List ℕ). record j { sent = ps; left = range_with_len (length j.sent + 1) (j.totpages - length j.sent) }) front ∙ ap (λ (ps : List ℕ). record j { left = ps }) rest

-- ---- pages

-- as many pages are sent as there are, at most
within : (n all : ℕ) → range_with_len 1 n ++ range_with_len (n + 1) (all - n) ≡ range_with_len 1 all → n ≤ all
within n all h =
    let both : length (range_with_len 1 n ++ range_with_len (n + 1) (all - n)) ≡ length (range_with_len 1 n) + length (range_with_len (n + 1) (all - n)) = length-append (range_with_len 1 n) (range_with_len (n + 1) (all - n)) in
    let same : length (range_with_len 1 n ++ range_with_len (n + 1) (all - n)) ≡ length (range_with_len 1 all) = ap length h in
    omega (arith, both, same, length-range_with_len 1 n, length-range_with_len (n + 1) (all - n), length-range_with_len 1 all)

-- ---- counters

-- where the test says so, the counters are within their limits
counted : (f : JobFields) → is_counted f ≡ true → IsCounted (job_of f)
counted f h =
    let a = and_parts (leb f.npages f.totpages && leb f.ndials f.totdials && leb f.totdials f.maxdials && leb f.ntries f.tottries) (leb f.tottries f.maxtries) h in
    let b = and_parts (leb f.npages f.totpages && leb f.ndials f.totdials && leb f.totdials f.maxdials) (leb f.ntries f.tottries) a.0 in
    let c = and_parts (leb f.npages f.totpages && leb f.ndials f.totdials) (leb f.totdials f.maxdials) b.0 in
    let d = and_parts (leb f.npages f.totpages) (leb f.ndials f.totdials) c.0 in
    record {
      pages = has_pages f.npages f.totpages (leb-true f.npages f.totpages d.0);
      ndials = leb-true f.ndials f.totdials d.1;
      totdials = leb-true f.totdials f.maxdials c.1;
      ntries = leb-true f.ntries f.tottries b.1;
      tottries = leb-true f.tottries f.maxtries a.1;
    }

-- and where they are, it says so
is_counted_from : (f : JobFields) → IsCounted (job_of f) → is_counted f ≡ true
is_counted_from f h =
    and_from _ (leb f.tottries f.maxtries)
    (and_from _ (leb f.ntries f.tottries)
    (and_from _ (leb f.totdials f.maxdials)
    (and_from (leb f.npages f.totpages) (leb f.ndials f.totdials) (le-leb f.npages f.totpages (within f.npages f.totpages h.pages)) (le-leb f.ndials f.totdials h.ndials))
    (le-leb f.totdials f.maxdials h.totdials))
    (le-leb f.ntries f.tottries h.ntries))
    (le-leb f.tottries f.maxtries h.tottries)

-- where the test says so, a dial and a try are left
call_left : (f : JobFields) → has_call_left f ≡ true → HasCallLeft (job_of f)
call_left f h = let a = and_parts (ltb f.totdials f.maxdials) (ltb f.tottries f.maxtries) h in record { dials = ltb-true f.totdials f.maxdials a.0; tries = ltb-true f.tottries f.maxtries a.1 }

-- and where they are, it says so
call_left_from : (f : JobFields) → HasCallLeft (job_of f) → has_call_left f ≡ true
call_left_from f h = and_from (ltb f.totdials f.maxdials) (ltb f.tottries f.maxtries) (lt-ltb f.totdials f.maxdials h.dials) (lt-ltb f.tottries f.maxtries h.tries)

-- where the test says so, the job can go on
goes_on : (f : JobFields) → can_go_on f ≡ true → CanGoOn (job_of f)
goes_on f h =
    let a = and_parts (ltb f.npages f.totpages) (has_call_left f) h in
    let less : f.npages < f.totpages = ltb-true f.npages f.totpages a.0 in
    record { page = omega (arith, length-range_with_len (f.npages + 1) (f.totpages - f.npages)); call = call_left f a.1 }

-- and where it can, it says so
goes_on_from : (f : JobFields) → CanGoOn (job_of f) → can_go_on f ≡ true
goes_on_from f h = and_from (ltb f.npages f.totpages) (has_call_left f) (lt-ltb f.npages f.totpages (omega (arith, h.page, length-range_with_len (f.npages + 1) (f.totpages - f.npages)))) (call_left_from f h.call)

-- ---- phases and wishes

-- a wish that tests as to go is to go
go : (w : Wish) → is_go w ≡ true → w ≡ Go
go Go e = refl
go Hold e = cc
go Kill e = cc

-- a phase that tests as granted is granted
granted_phase : (p : Phase) → is_granted p ≡ true → p ≡ Granted
granted_phase Held e = cc
granted_phase Waiting e = cc
granted_phase Granted e = refl
granted_phase Done e = cc
granted_phase Failed e = cc

-- where the test says so, the job fits its phase
phase_fits : (p : Phase) (f : JobFields) → fits_phase p f ≡ true → FitsPhase p (job_of f)
phase_fits Held f h = goes_on f h
phase_fits Waiting f h = goes_on f h
phase_fits Granted f h = cc
phase_fits Done f h = tt
phase_fits Failed f h = tt

-- and where it does, it says so
fits_phase_from : (p : Phase) (f : JobFields) → FitsPhase p (job_of f) → fits_phase p f ≡ true
fits_phase_from Held f h = goes_on_from f h
fits_phase_from Waiting f h = goes_on_from f h
fits_phase_from Granted f h = absurd h
fits_phase_from Done f h = refl
fits_phase_from Failed f h = refl

-- ---- without a grant, and with one

-- where the test says so, the job fits without a grant
free_fits : (f : JobFields) → fits f None ≡ true → FitsFree (job_of f)
free_fits f h =
    let a = and_parts (is_counted f && is_go f.wish) (fits_phase f.phase f) h in
    let b = and_parts (is_counted f) (is_go f.wish) a.0 in
    record { counted = counted f b.0; wish = go f.wish b.1; phase = phase_fits f.phase f a.1 }

-- and where it does, it says so
fits_free : (f : JobFields) → FitsFree (job_of f) → fits f None ≡ true
fits_free f h = and_from (is_counted f && is_go f.wish) (fits_phase f.phase f) (and_from (is_counted f) (is_go f.wish) (is_counted_from f h.counted) (ap is_go h.wish)) (fits_phase_from f.phase f h.phase)

-- where no call is known, what is so instead is so
call_known : {A : Type 0} (o : Option A) (b : Bool) → (is_some o || b) ≡ true → o ≡ None → b ≡ true
call_known None b h e = h
call_known (Some c) b h e = cc

-- a call is known, or what is so instead is so
known_or : {A : Type 0} (o : Option A) (b : Bool) → (o ≡ None → b ≡ true) → (is_some o || b) ≡ true
known_or None b h = h refl
known_or (Some c) b h = refl

module _ (f : JobFields) (g : Grant) where
  abbrev t1 : Bool
  t1 = is_counted f && is_granted f.phase

  abbrev t2 : Bool
  t2 = eqb (g.first_page + g.confirmed) (f.npages + 1)

  abbrev t3 : Bool
  t3 = eqb g.last_page f.totpages

  abbrev t4 : Bool
  t4 = leb g.first_page g.last_page

  abbrev t5 : Bool
  t5 = is_some g.call || has_call_left f

  -- where the test says so, job and grant fit
  grant_fits : fits f (Some g) ≡ true → FitsGrant (job_of f) g
  grant_fits h =
      let a = and_parts (t1 && t2 && t3 && t4) t5 h in
      let b = and_parts (t1 && t2 && t3) t4 a.0 in
      let c = and_parts (t1 && t2) t3 b.0 in
      let d = and_parts t1 t2 c.0 in
      let e = and_parts (is_counted f) (is_granted f.phase) d.0 in
      let sum : g.first_page + g.confirmed ≡ f.npages + 1 = eqb-true (g.first_page + g.confirmed) (f.npages + 1) d.1 in
      record {
        counted = counted f e.0;
        phase = granted_phase f.phase e.1;
        confirmed = omega (arith, sum, length-range_with_len 1 f.npages);
        last_page = eqb-true g.last_page f.totpages c.1;
        first_page = leb-true g.first_page g.last_page b.1;
        call = λ none. call_left f (call_known g.call (has_call_left f) a.1 none);
      }

  -- and where they do, it says so
  fits_grant : FitsGrant (job_of f) g → fits f (Some g) ≡ true
  fits_grant h =
      let sum : g.first_page + g.confirmed ≡ f.npages + 1 = omega (arith, h.confirmed, length-range_with_len 1 f.npages) in
      and_from (t1 && t2 && t3 && t4) t5
      (and_from (t1 && t2 && t3) t4
      (and_from (t1 && t2) t3
      (and_from t1 t2
      (and_from (is_counted f) (is_granted f.phase) (is_counted_from f h.counted) (ap is_granted h.phase))
      (eq-eqb (g.first_page + g.confirmed) (f.npages + 1) sum))
      (eq-eqb g.last_page f.totpages h.last_page))
      (le-leb g.first_page g.last_page h.first_page))
      (known_or g.call (has_call_left f) (λ none. call_left_from f (h.call none)))

-- the test says just where job and grant, or job alone, fit
pub fits_decides : (f : JobFields) (o : Option Grant) → Decides (fits f o) (Fits (job_of f) o)
fits_decides f None = (free_fits f, fits_free f)
fits_decides f (Some g) = (grant_fits f g, fits_grant f g)
