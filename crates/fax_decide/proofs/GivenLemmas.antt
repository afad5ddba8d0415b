-- What a new grant makes of the queue, and what is told of a grant.
use Rattle.std.proofs.Common.{◌≡◌, ℕ, ◌+◌, ◌==◌, ◌&&◌, true, false, cond, not, List, refl, sym, ap, subst, ◌∙◌, arith, Option, Some, None, is_some, Result, Ok, option_map, bytes_eq, eq-eqb}
use Rattle.std.proofs.lemmas.Bool.{and_from}
use Rattle.fax_ask.specs.Answer.{Replied}
use Rattle.fax_ask.specs.Response.{Response, accepted_response}
use Rattle.fax_job.specs.declared.job.JobFields.{JobFields}
use Rattle.fax_job.specs.declared.refusal.Refusal.{Refusal}
use Rattle.fax_job.specs.declared.refusal.Refusal.TheVariants.{ModemBusy, ModemDown, NoModem}
use Rattle.fax_core.specs.declared.change.Change.{Change}
use Rattle.fax_core.specs.declared.grants.Grant.{Grant}
use Rattle.fax_core.specs.Ageing.{aged, aged_job}
use Rattle.fax_core.specs.Best.{best}
use Rattle.fax_core.specs.Change.{changed, decided_with}
use Rattle.fax_core.specs.Decisions.{JobAndGrant, grant, granted}
use Rattle.fax_core.specs.Job.{Job, job_of, fields_of}
use Rattle.fax_core.specs.Machine.{dial_of, given, given_best, given_free, given_to, handed, held_by, is_down, with_job, with_new_grant}
use Rattle.fax_core.specs.Queue.{Queue, grant_numbered, job_numbered, open_grants}
use Rattle.fax_core.specs.Reply as machine
use Rattle.fax_core.specs.Reply.{Step}
use Rattle.fax_core.specs.Settings.{Settings, has_modem}
use Rattle.fax_core.specs.Sound.{Sound, IsOpen}
use Rattle.fax_core.specs.Submission.{recorded}
use Rattle.fax_core.proofs.BestLemmas.{best_is}
use Rattle.fax_core.proofs.KeepLemmas.{numbered_job}
use Rattle.fax_core.proofs.PlaceLemmas.{found as found_by, found_in, placed_here}
use Rattle.fax_core.proofs.StepLemmas.{aged_sound}
use Rattle.fax_tables.specs.declared.grants.Hold.{Hold}
use Rattle.fax_tables.specs.Grant.{IsOpenGrant, as_hold}
use Rattle.fax_tables.specs.Job.{brief}
use Rattle.fax_store.specs.Job.{lines_of}
use Rattle.fax_decide.specs.Choice.{is_held_by}
use Rattle.fax_decide.specs.Records.{job_in}
use Rattle.fax_decide.specs.Decision.{IsTaken}
use Rattle.fax_decide.specs.Effect.{accepted}
use Rattle.fax_decide.specs.declared.effect.Effect.TheVariants.{NewGrant}
use Rattle.fax_core.specs.Stamp.{stamp}
use Rattle.fax_core.specs.Times.{has_ended}
use Rattle.fax_store.specs.Times.{is_over_as, with_ends}
use Rattle.fax_decide.proofs.EndLemmas.{stamp_put}
use Rattle.fax_decide.proofs.LinesLemmas.{lined}
use Rattle.fax_decide.proofs.RecordLemmas.{aged_numbered, aged_same, none_told, open_there}
use Rattle.fax_decide.proofs.FreeLemmas.{grant_placed}
use Rattle.fax_decide.proofs.JobLemmas.{order_kept, recorded_is, whole_changed}
use Rattle.fax_store.proofs.WorkLemmas.{there_as}

abbrev both : Job → Grant → JobAndGrant
both j g = record { job = j; grant = g }

-- the grant comes at the end, as the machine puts it
queue_is : (m : Queue) (t : ℕ) (f : JobFields) (j : Job) (g : Grant) → Sound m → job_in (aged t m) f ≡ j → g.number ≡ m.next_grant
    → (old : Job) → job_numbered f.job (aged t m) ≡ Some old → has_ended old.phase ≡ false
    → stamp t (aged t m) (with_new_grant (both j g) (aged t m)) ≡ accepted t (NewGrant f g) m
queue_is m t f j g sound is n old there goes =
    let whole = job_in (aged t m) f in
    ap (λ (k : Job). stamp t (aged t m) (with_new_grant (both k g) (aged t m))) (sym is)
    ∙ stamp_put t (aged t m) (with_new_grant (both whole g) (aged t m)) old whole refl there goes
    ∙ ap (λ (gs : List Grant). record (with_ends t (is_over_as whole) (with_job whole (aged t m))) { grants = gs; next_grant = m.next_grant + 1 }) (sym (grant_placed m g sound n))

-- the number to dial of the grant's job is that of its changed record
dial_there : (m : Queue) (c : Change) (j : Job) (f : JobFields) (g : Grant) → job_numbered j.number m ≡ Some j → g.job ≡ j.number → job_of f ≡ changed c j
    → dial_of (job_numbered g.job (with_new_grant (both (changed c j) g) m)) ≡ f.dial
dial_there m c j f g there of is =
    ap (λ (n : ℕ). dial_of (job_numbered n (with_new_grant (both (changed c j) g) m))) of
    ∙ ap dial_of (placed_here (λ (k : Job). k.number) j.number (changed c j) j m.jobs there refl)
    ∙ sym (ap (λ (k : Job). k.dial) is)

-- the changed job and its new grant are given
pub given_new : (m : Queue) (t : ℕ) (c : Change) (old f : JobFields) (g : Grant) (reply : Response)
    → Sound m → job_numbered old.job (aged t m) ≡ Some (job_of old) → g.job ≡ old.job → g.number ≡ m.next_grant
    → Ok (job_of f) ≡ recorded (Ok (changed c (job_of old))) → has_ended old.phase ≡ false → IsOpenGrant g
    → ((n : Queue) → dial_of (job_numbered g.job n) ≡ f.dial → reply ≡ accepted_response (Replied (machine.Given (handed g n))))
    → IsTaken (given (aged t m) (decided_with g (job_of old) (Ok c))) m t (NewGrant f g) reply
given_new m t c old f g reply sound there of n after goes new told =
    let j = job_of old in
    let bare : job_in (aged t m) old ≡ j = ap (λ (o : Option Job). lined (lines_of o) j) there in
    let here = there ∙ ap (λ (k : Job). Some k) (sym bare) in
    let left = with_new_grant (both (changed c j) g) (aged t m) in
    record {
      suits = order_kept m t c old f here after;
      within = new;
      left = omega (arith, n, new.limits.number.1);
      told = machine.Given (handed g left);
      taken = ap (λ (q : Queue). machine.Taken q (machine.Given (handed g left)))
          (queue_is m t f (changed c j) g sound (whole_changed m t c old f here after ∙ ap (changed c) bare) n j
          (subst (λ (i : ℕ). job_numbered i (aged t m) ≡ Some j) (sym (ap (λ (x : Job). x.number) (recorded_is (job_of f) (changed c j) after))) there) goes);
      given = refl;
      replied = told left (dial_there (aged t m) c j f g there of (recorded_is (job_of f) (changed c j) after));
    }

-- what holds of the change that was decided, with its grant, holds of what the machine decides
pub given_by : (P : Step → Type 0) (m : Queue) (j : Job) (modem : List ℕ) (n limit max : ℕ) (d : Result Change Refusal) (g : Grant) → g ≡ (granted j modem n).grant
    → decided_with (granted j modem n).grant j d ≡ grant j modem n limit → limit ≡ max → P (given m (decided_with g j d)) → P (given m (grant j modem n max))
given_by P m j modem n limit max d g is decided most holds =
    subst (λ (r : Result JobAndGrant Refusal). P (given m r)) (ap (λ (x : Grant). decided_with x j d) is ∙ decided ∙ ap (grant j modem n) most) holds

-- what holds of the best job's grant, by its number, holds of what the machine gives
pub best_given : (P : Step → Type 0) (s : Settings) (m : Queue) (t : ℕ) (modem : List ℕ) (f : JobFields) (n : ℕ)
    → Sound m → Some (job_of f) ≡ best s (aged t m) t modem → n ≡ m.next_grant
    → (job_numbered f.job (aged t m) ≡ Some (job_of f) → P (given (aged t m) (grant (job_of f) modem n s.max_grants)))
    → P (given_best s (aged t m) modem (best s (aged t m) t modem))
best_given P s m t modem f n sound is next holds =
    let there = (best_is s (aged t m) t modem (job_of f) (aged_sound t m sound) (sym is)).goes.there in
    subst (λ (o : Option Job). P (given_best s (aged t m) modem o)) is
    (subst (λ (i : ℕ). P (given (aged t m) (grant (job_of f) modem i s.max_grants))) next (holds there))

-- ---- the grant that a modem holds

module _ (m : Queue) (modem : List ℕ) (g : Grant) (hold : Hold) (sound : Sound m) (held : held_by modem m ≡ Some g) (is : hold ≡ as_hold g) where
  -- it is open under its number
  is_open : IsOpen m g.number g
  is_open = open_there m g sound (found_in (λ (x : Grant). bytes_eq x.modem modem) (open_grants m) g held)

  -- a hold has its grant
  pub hold_has_grant : grant_numbered hold.grant m ≡ Some g
  hold_has_grant = ap (λ (x : Hold). grant_numbered x.grant m) is ∙ is_open.0

  -- and its job
  pub hold_has_job : (j : Job) × (job_numbered hold.job m ≡ Some j)
  hold_has_job = let job = sound.held g.number g is_open in (job.0, ap (λ (x : Hold). job_numbered x.job m) is ∙ job.1)

  -- where the job is found without its lines, the grant is open, of it, and the modem's
  pub hold_is_its : (f : JobFields) → Some f ≡ option_map (λ j. brief (fields_of j)) (job_numbered hold.job m) → is_held_by modem f g ≡ true
  hold_is_its f found =
      let it = there_as (λ j. brief (fields_of j)) (job_numbered hold.job m) f found in
      let number : g.job ≡ f.job = sym (ap (λ (x : JobFields). x.job) it.2 ∙ numbered_job m hold.job it.0 it.1 ∙ ap (λ (x : Hold). x.job) is) in
      and_from (g.is_open && (g.job == f.job)) (bytes_eq g.modem modem) (and_from g.is_open (g.job == f.job) is_open.1 (eq-eqb g.job f.job number))
      (found_by (λ (x : Grant). bytes_eq x.modem modem) (open_grants m) g held)

  -- and the number that is dialed doesn't age
  pub hold_dials : (t : ℕ) (f : JobFields) → Some f ≡ option_map (λ j. brief (fields_of j)) (job_numbered hold.job m) → dial_of (job_numbered g.job (aged t m)) ≡ f.dial
  hold_dials t f found =
      let it = there_as (λ j. brief (fields_of j)) (job_numbered hold.job m) f found in
      ap (λ (x : Hold). dial_of (job_numbered x.job (aged t m))) (sym is) ∙ ap dial_of (aged_numbered m t hold.job ∙ ap (option_map (aged_job t)) it.1)
      ∙ aged_same (λ (k : Job). k.dial) t it.0 refl ∙ sym (ap (λ (x : JobFields). x.dial) it.2)

-- ---- a modem of the setup that isn't down

module _ (s : Settings) (m : Queue) (t : ℕ) (modem : List ℕ) (has : has_modem s modem ≡ true) (up : is_down modem m ≡ false) where
  -- what such a modem is given is by the grant that it holds, if any
  given_up : given_to s (aged t m) t modem ≡ given_free s (aged t m) t modem (held_by modem m)
  given_up =
      let down = cond (is_down modem m) (machine.Refused ModemDown machine.NoKeys) (given_free s (aged t m) t modem (held_by modem m)) in
      ap (λ b. cond (not b) (machine.Refused NoModem machine.NoKeys) down) has
      ∙ ap (λ b. cond b (machine.Refused ModemDown machine.NoKeys) (given_free s (aged t m) t modem (held_by modem m))) up

  -- it gets the best job where it holds no grant
  pub goes_free : (P : Step → Type 0) → None ≡ option_map as_hold (held_by modem m) → P (given_best s (aged t m) modem (best s (aged t m) t modem))
      → P (given_to s (aged t m) t modem)
  goes_free P none holds = subst P (sym (given_up ∙ ap (given_free s (aged t m) t modem) (none_told as_hold (held_by modem m) none))) holds

  -- and is refused where it holds one
  pub is_busy : (P : Step → Type 0) (hold : Hold) → Some hold ≡ option_map as_hold (held_by modem m)
      → ((g : Grant) → held_by modem m ≡ Some g → hold ≡ as_hold g → P (machine.Refused ModemBusy (machine.HeldGrant (is_some g.call) (handed g (aged t m)))))
      → P (given_to s (aged t m) t modem)
  is_busy P hold is told =
      let it = there_as as_hold (held_by modem m) hold is in
      subst P (sym (given_up ∙ ap (given_free s (aged t m) t modem) it.1)) (told it.0 it.1 it.2)
