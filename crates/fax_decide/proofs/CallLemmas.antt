-- How many calls are open to a number, after a change of a job or a grant.
use Rattle.std.proofs.Common.{◌≡◌, inl, inr, ℕ, ◌+◌, ◌-◌, ◌≤◌, ◌==◌, eqb, Bool, true, false, ◌&&◌, List, [], ◌∷◌, map, Option, Some, None, find, option_map, bytes_eq, refl, sym, ap, ap₂, subst, ◌∙◌, arith, eqb-true, ne_eqb}
use Rattle.std.specs.Cmp.Lexicographic.{bytes_decides}
use Rattle.std.proofs.lemmas.Bool.{cases_Bool}
use Rattle.fax_core.specs.Ageing.{aged, aged_job}
use Rattle.fax_core.specs.Job.{Job}
use Rattle.fax_core.specs.Machine.{with_job, with_grant}
use Rattle.fax_core.specs.Queue.{Queue, job_numbered, grant_numbered}
use Rattle.fax_core.specs.State.{is_of_number, calls_to, state, state_at}
use Rattle.fax_core.specs.Settings.{Settings}
use Rattle.fax_core.specs.Sound.{AscendBetween, Sound}
use Rattle.fax_core.specs.declared.grants.Grant.{Grant}
use Rattle.fax_core.proofs.DecisionLemmas.{aged_number}
use Rattle.fax_core.proofs.KeepLemmas.{numbered_job, same_job}
use Rattle.fax_core.proofs.PlaceLemmas.{in_place, find_placed, placed_here}
use Rattle.fax_store.proofs.CountLemmas.{calls_mapped, one, open_more, open_to, same_calls}
use Rattle.fax_decide.specs.State.{state_with}
use Rattle.fax_decide.proofs.RecordLemmas.{aged_same}

-- time closes no grant, and a job keeps its number to dial as it ages
pub calls_aged : (dial : List ℕ) (t : ℕ) (m : Queue) → calls_to dial (aged t m) ≡ calls_to dial m
calls_aged dial t m = sym (calls_mapped (aged_job t) m (aged_number t) dial (λ j has. aged_same (λ (k : Job). k.dial) t j refl))

-- nor does a change of a job to the same number, which keeps its own
pub calls_changed : (dial : List ℕ) (m : Queue) (j k : Job) → job_numbered j.number m ≡ Some k → j.dial ≡ k.dial → calls_to dial (with_job j m) ≡ calls_to dial m
calls_changed dial m j k is same =
    sym (same_calls dial m (with_job j m).jobs (λ g has. ap (is_of_number dial) (find_placed (λ (x : Job). x.number) g.job j m.jobs)
    ∙ by g.job (job_numbered g.job m) refl))
  where
    by : (a : ℕ) (o : Option Job) → job_numbered a m ≡ o → is_of_number dial (option_map (in_place (λ (x : Job). x.number) j) o) ≡ is_of_number dial o
    by a None of = refl
    by a (Some x) of = elim (cases_Bool (x.number == j.number)) [
      | inl here ↦
          (let at : a ≡ j.number = sym (numbered_job m a x of) ∙ eqb-true x.number j.number here in
          let one = same_job m j.number x k (subst (λ (b : ℕ). job_numbered b m ≡ Some x) at of) is in
          rw here (ap (λ text. bytes_eq text dial) (same ∙ ap (λ (y : Job). y.dial) (sym one))))
      | inr off ↦ rw off refl
    ]

-- ---- states

-- the state of a job is the same in the aged queue
pub state_aged : (s : Settings) (m : Queue) (t : ℕ) (j : Job) → state s (aged t m) t j ≡ state s m t j
state_aged s m t j = ap (λ calls. state_at j ((s.rule j.dial).hours t) calls (s.rule j.dial).calls t) (calls_aged j.dial t m)

-- and it is the same where the job itself was changed there
pub state_changed : (s : Settings) (m : Queue) (t : ℕ) (j k : Job) → job_numbered j.number (aged t m) ≡ Some k → j.dial ≡ k.dial → state s (with_job j (aged t m)) t j ≡ state s m t j
state_changed s m t j k is same =
    ap (λ calls. state_at j ((s.rule j.dial).hours t) calls (s.rule j.dial).calls t) (calls_changed j.dial (aged t m) j k is same ∙ calls_aged j.dial t m)

-- ---- a grant is closed

-- a grant that isn't there takes no place
untouched : (k : Grant) (low high : ℕ) (gs : List Grant) → AscendBetween low (map (λ g. g.number) gs) high → k.number ≤ low → map (in_place (λ (g : Grant). g.number) k) gs ≡ gs
untouched k low high [] ascend less = refl
untouched k low high (g ∷ gs) ascend less =
    let off : eqb g.number k.number ≡ false = ne_eqb g.number k.number (λ (same : g.number ≡ k.number). omega (arith, ascend.0, less, same)) in
    (rw off (ap (λ (hs : List Grant). g ∷ hs) (untouched k g.number high gs ascend.1 (omega (arith, ascend.0, less)))))

-- where an open grant that passes is closed in its place, one less is open
one_less : (of : Grant → Bool) (k g : Grant) (low high : ℕ) (gs : List Grant) → AscendBetween low (map (λ h. h.number) gs) high → find (λ h. eqb h.number k.number) gs ≡ Some g
    → k.is_open ≡ false → g.is_open ≡ true → of g ≡ true → open_to of (map (in_place (λ (h : Grant). h.number) k) gs) + 1 ≡ open_to of gs
one_less of k g low high [] ascend found shut open' counts = absurd cc
one_less of k g low high (h ∷ gs) ascend found shut open' counts =
    elim (cases_Bool (eqb h.number k.number)) [
      | inl here ↦
          let same : h ≡ g = (let f = (rw here at found) in cc) in
          let number : h.number ≡ k.number = eqb-true h.number k.number here in
          let ends : map (in_place (λ (x : Grant). x.number) k) gs ≡ gs = untouched k h.number high gs ascend.1 (omega (arith, number)) in
          (rw here (rw ends (
          let left : open_to of (k ∷ gs) ≡ 0 + open_to of gs = open_more of k gs ∙ ap (λ b. one (b && of k) + open_to of gs) shut in
          let right : open_to of (h ∷ gs) ≡ 1 + open_to of gs = open_more of h gs ∙ ap₂ (λ b c. one (b && c) + open_to of gs) (ap (λ (x : Grant). x.is_open) same ∙ open') (ap of same ∙ counts) in
          omega (arith, left, right))))
      | inr off ↦
          let tail = one_less of k g h.number high gs ascend.1 (rw off at found) shut open' counts in
          let left = open_more of h (map (in_place (λ (x : Grant). x.number) k) gs) in
          let right = open_more of h gs in
          (rw off (omega (arith, left, right, tail)))
    ]

-- the state of a job whose grant is closed: of the calls to its number, one is over
pub state_ended : (s : Settings) (m : Queue) (t : ℕ) (j k : Job) (g : Grant) → Sound m → job_numbered j.number (aged t m) ≡ Some k → j.dial ≡ k.dial
    → g.job ≡ j.number → grant_numbered g.number m ≡ Some g → g.is_open ≡ true
    → state s (with_grant (record g { is_open = false }) (with_job j (aged t m))) t j ≡ state_with s j (calls_to j.dial m - 1) t
state_ended s m t j k g sound is same of there open' =
    ap (λ n. state_at j ((s.rule j.dial).hours t) n (s.rule j.dial).calls t) (omega (arith, less, before))
  where
    placed' : job_numbered g.job (with_job j (aged t m)) ≡ Some j
    placed' = subst (λ (n : ℕ). job_numbered n (with_job j (aged t m)) ≡ Some j) (sym of) (placed_here (λ (x : Job). x.number) j.number j k (aged t m).jobs is refl)

    less : calls_to j.dial (with_grant (record g { is_open = false }) (with_job j (aged t m))) + 1 ≡ calls_to j.dial (with_job j (aged t m))
    less =
        one_less (λ (h : Grant). is_of_number j.dial (job_numbered h.job (with_job j (aged t m))))
        (record g { is_open = false }) g 0 m.next_grant m.grants sound.grants there refl open'
        (ap (is_of_number j.dial) placed' ∙ (bytes_decides j.dial j.dial).1 refl)

    before : calls_to j.dial (with_job j (aged t m)) ≡ calls_to j.dial m
    before = calls_changed j.dial (aged t m) j k is same ∙ calls_aged j.dial t m
