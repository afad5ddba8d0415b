-- A page that came in as sent with its job is in no grant.
use Rattle.std.proofs.Common.{◌≡◌, ℕ, ◌<◌, eqb, List, length, refl, subst, arith}
use Rattle.std.specs.Prelude.{Result, Ok, Err}
use Rattle.std.proofs.lemmas.Bool.{eq-eqb}
use Rattle.fax_job.specs.declared.import.Import.{Import}
use Rattle.fax_job.specs.declared.refusal.Refusal.{Refusal}
use Rattle.fax_core.specs.Ageing.{aged}
use Rattle.fax_core.specs.Ask.{HasCounts}
use Rattle.fax_core.specs.declared.ask.Ask.TheVariants.{Bring, Next}
use Rattle.fax_core.specs.Import.{bring}
use Rattle.fax_core.specs.Job.{Job}
use Rattle.fax_core.specs.Machine.{with_new_job, brought_in, step}
use Rattle.fax_core.specs.Queue.{Queue}
use Rattle.fax_core.specs.Reply.{Handed, Brought, Given, Taken}
use Rattle.fax_core.specs.Run.{Request, queue_after, AreLawful}
use Rattle.fax_core.specs.Settings.{Rule, Settings}
use Rattle.fax_core.specs.Sound.{IsJob, Sound}
use Rattle.fax_core.proofs.ImportLemmas.{IsBrought, bring_counts}
use Rattle.fax_core.proofs.PageLemmas.{KeepsSent, through, aged_keeps, run_keeps, sent_before, step_gives}
use Rattle.fax_core.proofs.PlaceLemmas.{absent, comes}
use Rattle.fax_core.proofs.StepLemmas.{taken_same, aged_sound, step_sound, run_sound}
use Rattle.fax_core.proofs.TimesLemmas.{by_stamp}

-- the job that came in stands under the number that is told
pub record Came (i : Import) (n : Queue) (number : ℕ) : Type 0 where
  pub job : Job
  pub there : IsJob n number job
  pub npages : length job.sent ≡ i.npages

-- a new job with the next number is found by it
pub new_there : (m : Queue) (j : Job) → Sound m → j.number ≡ m.next_job → IsJob (with_new_job j m) j.number j
new_there m j h number =
    comes (λ (k : Job). eqb k.number j.number) m.jobs j (absent (λ (k : Job). k.number) 0 m.next_job j.number m.jobs h.jobs (omega (arith, number))) (eq-eqb j.number j.number refl)

-- two replies to imports that are the same tell the same number
told : (a b c d : ℕ) → Brought a b ≡ Brought c d → a ≡ c
told a b c d e = cc

-- where an import is taken, its job stands under the number that is told
came_by : (s : Settings) (m : Queue) (t : ℕ) (rule : Rule) (i : Import) (d : Result Job Refusal) (n : Queue) (number state : ℕ) → Sound m → ((j : Job) → d ≡ Ok j → IsBrought i m.next_job j) → brought_in s m t rule d ≡ Taken n (Brought number state) → Came i n number
came_by s m t rule i (Ok j) n number state h is e =
    let f = is j refl in
    let same = taken_same (with_new_job j m) n _ (Brought number state) e in
    let here : j.number ≡ number = told _ _ _ _ same.1 in
    record {
      job = j;
      there = subst (λ (q : Queue). IsJob q number j) same.0 (subst (λ (a : ℕ). IsJob (with_new_job j m) a j) here (new_there m j h f.number));
      npages = f.npages;
    }
came_by s m t rule i (Err x) n number state h is e = cc

-- the same of a step, which ages the jobs first
pub came : (s : Settings) (m n : Queue) (t : ℕ) (i : Import) (number state : ℕ) → Sound m → step s m t (Bring i) ≡ Taken n (Brought number state) → Came i n number
came s m n t i number state h e =
    let d = bring i (s.rule i.order.dial) m.next_job s.max_jobs t in
    by_stamp (λ n. Came i n number) t (aged t m) (brought_in s (aged t m) t (s.rule i.order.dial) d) n (Brought number state) e (λ k it.
    let came = came_by s (aged t m) t (s.rule i.order.dial) i d k number state (aged_sound t m h) (λ j is. bring_counts i (s.rule i.order.dial) m.next_job s.max_jobs t j is) it in
    record { job = came.job; there = came.there; npages = came.npages })

-- a page that came in as sent lies before each grant that its job gets
pub not_granted : (s : Settings) (m n : Queue) (t : ℕ) (i : Import) (job state : ℕ) (rs : List Request) (u : ℕ) (modem : List ℕ) (l : Queue) (h : Handed)
    → Sound m → HasCounts i → AreLawful rs → step s m t (Bring i) ≡ Taken n (Brought job state) → step s (queue_after s n rs) u (Next modem) ≡ Taken l (Given h)
    → h.job ≡ job → i.npages < h.from
not_granted s m n t i job state rs u modem l h sound counts lawful taken given same =
    let c = came s m n t i job state sound taken in
    let after : Sound n = step_sound s m n t (Bring i) (Brought job state) sound counts taken in
    let end : Sound (queue_after s n rs) = run_sound s n rs after lawful in
    let kept : KeepsSent n (aged u (queue_after s n rs)) = through n (queue_after s n rs) (aged u (queue_after s n rs)) (run_keeps s n rs after lawful) (aged_keeps u (queue_after s n rs)) in
    let next = step_gives s (queue_after s n rs) l u modem h end given in
    let there : IsJob (aged u (queue_after s n rs)) job next.job = subst (λ (a : ℕ). IsJob (aged u (queue_after s n rs)) a next.job) same next.was_there in
    let more = sent_before (aged u (queue_after s n rs)) job c.job.sent next.job (kept.sent job c.job c.there) there in
    omega (arith, next.first, c.npages)
