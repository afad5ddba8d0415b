-- What becomes of a job that is brought in fits, and no refusal comes but those that are looked for.
use Rattle.std.proofs.Common.{◌≡◌, ℕ, ◌≤◌, false, not, ◌&&◌, eqb, leb, List, [], ◌∷◌, length, refl, subst, arith}
use Rattle.std.specs.Prelude.{Ok, is_some, nat_lt}
use Rattle.std.proofs.lemmas.Bool.{cond_both, leb-false}
use Rattle.std.proofs.lemmas.List.FromFn.{length-range_with_len}
use Rattle.fax_job.specs.declared.import.Import.{Import}
use Rattle.fax_job.specs.declared.job.Phase.{Phase}
use Rattle.fax_job.specs.declared.job.Phase.TheVariants as phase
use Rattle.fax_job.specs.declared.job.Wish.TheVariants.{Go}
use Rattle.fax_value.specs.Status.{too_many_dials, too_many_tries}
use Rattle.fax_core.specs.declared.state.State.TheVariants as sendq
use Rattle.fax_core.specs.Ask.{HasCounts}
use Rattle.fax_core.specs.Decisions.{is_over, is_empty}
use Rattle.fax_core.specs.Import.{old_job, is_ended, going_on, brought, bring}
use Rattle.fax_core.specs.Job.{Job}
use Rattle.fax_core.specs.Settings.{Rule}
use Rattle.fax_core.specs.Sound.{IsCounted, CanGoOn, FitsFree}
use Rattle.fax_core.specs.State.{state_number}
use Rattle.fax_core.proofs.DecisionLemmas.{not_refused, ok_same}
use Rattle.fax_core.proofs.RangeLemmas.{has_pages}

-- ---- what holds of a job in any phase and with any status holds of what becomes of it

module _ (P : Job → Type 0) where
  -- what holds of the job in any phase, with any status, holds of it once it is brought in
  pub brought_is : (state : ℕ) (j : Job) → ((p : Phase) (text : List ℕ) → P (record j { phase = p; status = text })) → P (brought state j)
  brought_is state j every =
      cond_both (eqb state (state_number sendq.Done)) _ _ P (λ e. every phase.Done j.status) (λ e.
      cond_both (eqb state (state_number sendq.Failed)) _ _ P (λ e. every phase.Failed j.status) (λ e.
      cond_both (is_empty j.left) _ _ P (λ e. every phase.Done []) (λ e.
      cond_both (leb j.maxdials j.totdials) _ _ P (λ e. every phase.Failed too_many_dials) (λ e.
      cond_both (leb j.maxtries j.tottries) _ _ P (λ e. every phase.Failed too_many_tries) (λ e.
      cond_both (eqb state (state_number sendq.Suspended)) _ _ P (λ e. every phase.Held j.status) (λ e. every phase.Waiting j.status))))))

-- ---- it fits without a grant

-- pages that aren't empty are one at least
some_left : (ps : List ℕ) → is_empty ps ≡ false → 1 ≤ length ps
some_left [] e = cc
some_left (p ∷ ps) e = omega arith

-- the counters stay within their limits in any phase
counted_in : (j : Job) (p : Phase) (text : List ℕ) → IsCounted j → IsCounted (record j { phase = p; status = text })
counted_in j p text h = record { pages = h.pages; ndials = h.ndials; totdials = h.totdials; ntries = h.ntries; tottries = h.tottries }

-- with a page, a dial and a try left, the job can go on in any phase
goes_on_in : (j : Job) (p : Phase) → is_empty j.left ≡ false → leb j.maxdials j.totdials ≡ false → leb j.maxtries j.tottries ≡ false → CanGoOn (record j { phase = p })
goes_on_in j p some dials tries = record {
  page = some_left j.left some;
  call = record { dials = leb-false j.maxdials j.totdials dials; tries = leb-false j.maxtries j.tottries tries };
}

-- a job that goes on from the older queue's state fits without a grant
going_fits : (state : ℕ) (j : Job) → IsCounted j → j.wish ≡ Go → FitsFree (going_on state j)
going_fits state j h go =
    cond_both (is_empty j.left) _ _ FitsFree (λ e. record { counted = counted_in j phase.Done [] h; wish = go; phase = tt }) (λ some.
    cond_both (leb j.maxdials j.totdials) _ _ FitsFree (λ e. record { counted = counted_in j phase.Failed too_many_dials h; wish = go; phase = tt }) (λ dials.
    cond_both (leb j.maxtries j.tottries) _ _ FitsFree (λ e. record { counted = counted_in j phase.Failed too_many_tries h; wish = go; phase = tt }) (λ tries.
    cond_both (eqb state (state_number sendq.Suspended)) _ _ FitsFree
    (λ e. record { counted = counted_in j phase.Held j.status h; wish = go; phase = goes_on_in j phase.Held some dials tries })
    (λ e. record { counted = counted_in j phase.Waiting j.status h; wish = go; phase = goes_on_in j phase.Waiting some dials tries }))))

-- so does one that is brought in
brought_fits : (state : ℕ) (j : Job) → IsCounted j → j.wish ≡ Go → FitsFree (brought state j)
brought_fits state j h go =
    cond_both (eqb state (state_number sendq.Done)) _ _ FitsFree (λ e. record { counted = counted_in j phase.Done j.status h; wish = go; phase = tt }) (λ e.
    cond_both (eqb state (state_number sendq.Failed)) _ _ FitsFree (λ e. record { counted = counted_in j phase.Failed j.status h; wish = go; phase = tt }) (λ e.
    going_fits state j h go))

-- the older queue's job has its counters within their limits
old_counted : (i : Import) (n t : ℕ) → HasCounts i → IsCounted (old_job i n t)
old_counted i n t h = record { pages = has_pages i.npages i.order.totpages h.npages; ndials = h.ndials; totdials = h.totdials; ntries = h.ntries; tottries = h.tottries }

-- ---- what a taken import makes

-- the new job: its number, its pages and its counters are those that came in, and it fits
pub record IsBrought (i : Import) (n : ℕ) (j : Job) : Type 0 where
  pub number : j.number ≡ n
  pub npages : length j.sent ≡ i.npages
  pub ntries : j.ntries ≡ i.ntries
  pub tottries : j.tottries ≡ i.tottries
  pub ndials : j.ndials ≡ i.ndials
  pub totdials : j.totdials ≡ i.totdials

-- what is brought in has the counters that came in
brought_counts : (i : Import) (n t : ℕ) → IsBrought i n (brought i.state (old_job i n t))
brought_counts i n t = brought_is (IsBrought i n) i.state (old_job i n t) (λ p text. record { number = refl; npages = length-range_with_len 1 i.npages; ntries = refl; tottries = refl; ndials = refl; totdials = refl })

-- an import that is taken makes this job
pub bring_is : (i : Import) (rule : Rule) (n max t : ℕ) (j : Job) → bring i rule n max t ≡ Ok j → brought i.state (old_job i n t) ≡ j
bring_is i rule n max t j e =
    let a = not_refused (not (is_ended i.state) && is_some rule.notice) _ _ j e in
    let b = not_refused (not (is_ended i.state) && is_over i.order.totpages rule.pages) _ _ j a.1 in
    let c = not_refused (nat_lt max n) _ (Ok (brought i.state (old_job i n t))) j b.1 in
    ok_same (brought i.state (old_job i n t)) j c.1

-- so it has the counters that came in
pub bring_counts : (i : Import) (rule : Rule) (n max t : ℕ) (j : Job) → bring i rule n max t ≡ Ok j → IsBrought i n j
bring_counts i rule n max t j e = subst (IsBrought i n) (bring_is i rule n max t j e) (brought_counts i n t)

-- and it fits without a grant
pub bring_fits : (i : Import) (rule : Rule) (n max t : ℕ) (j : Job) → HasCounts i → bring i rule n max t ≡ Ok j → FitsFree j
bring_fits i rule n max t j h e = subst FitsFree (bring_is i rule n max t j e) (brought_fits i.state (old_job i n t) (old_counted i n t h) refl)
