-- The new job of an order: its record, and that it is lawful where the order was read.
use Rattle.std.proofs.Common.{◌≡◌, ℕ, ◌≤◌, Bool, true, false, cond, not, ◌&&◌, eqb, leb, List, [], ◌∷◌, length, refl, sym, ap, subst, ◌∙◌, arith}
use Rattle.std.specs.Prelude.{Option, Some, None, Result, Ok, Err, IfOk, unwrap_or, option_and_then, codes}
use Rattle.std.specs.Option.{option_map, ok_or}
use Rattle.std.proofs.lemmas.Bool.{and_parts, and_from, le-leb, eqb-false}
use Rattle.fax_job.specs.declared.job.JobFields.{JobFields}
use Rattle.fax_job.specs.declared.order.Order.{Order}
use Rattle.fax_job.specs.declared.order.OrderFault.{OrderFault}
use Rattle.fax_job.specs.declared.order.OrderFault.TheVariants.{NoPages, BadKilltime}
use Rattle.fax_job.specs.declared.refusal.Refusal.TheVariants.{Unavailable}
use Rattle.fax_value.specs.Limits.{last_job, last_moment, most_attempts, most_pages}
use Rattle.fax_job.specs.Job.{is_lawful}
use Rattle.fax_job.specs.Order.{◌>>=◌, pages, dial_in, modem_in, jobtag_in, tts_in, killtime_in, priority_in, totpages_in, limit_in, maxtries_in, maxdials_in, moment_in, number_within, value_or_none, order_of}
use Rattle.fax_value.specs.Number.{number_of}
use Rattle.fax_job.specs.Pair.{Pair, are_unknown, extra_of}
use Rattle.fax_job.specs.Tag.{is_known}
use Rattle.fax_core.specs.Decisions.{new_job}
use Rattle.fax_core.specs.Job.{Job, job_of, fields_of}
use Rattle.fax_core.specs.Submission.{ReadOrdersAreLawful}
use Rattle.fax_core.proofs.FitsLemmas.{job_again}
use Rattle.fax_core.proofs.RecordLemmas.{IsKilltime, IsWithin, lawful_from}

-- ---- the values

-- a kill time is lawful, where 0 is none
zero_is_none : (seconds : ℕ) (none : Bool) → eqb seconds 0 ≡ none → IsKilltime (cond none None (Some seconds))
zero_is_none seconds true e = refl
zero_is_none seconds false e = le-leb 1 seconds (omega (arith, eqb-false seconds 0 e))

-- a kill time that is read is lawful
killtime_of : (empty : Bool) (number : Option ℕ) → IfOk (ok_or (cond empty (Some None) (option_map (λ seconds. cond (eqb seconds 0) None (Some seconds)) number)) BadKilltime) IsKilltime
killtime_of true number = refl
killtime_of false None = tt
killtime_of false (Some seconds) = zero_is_none seconds (eqb seconds 0) refl

-- pages up to the most are within their limits, unless they are 0
pages_of_number : (number : ℕ) (none : Bool) → eqb number 0 ≡ none → leb number most_pages ≡ true → IfOk (cond none (Err NoPages) (Ok number)) (IsWithin most_pages)
pages_of_number number true e h = tt
pages_of_number number false e h = and_from (leb 1 number) (leb number most_pages) (le-leb 1 number (omega (arith, eqb-false number 0 e))) h

-- so are pages that may be too many
pages_of : (number : ℕ) (within : Bool) → leb number most_pages ≡ within → IfOk (pages (cond within (Some number) None)) (IsWithin most_pages)
pages_of number false h = tt
pages_of number true h = pages_of_number number (eqb number 0) refl h

-- so are pages that are read
totpages_of : (empty : Bool) (number : Option ℕ) → IfOk (cond empty (Err NoPages) (pages (option_and_then (λ n. cond (leb n most_pages) (Some n) None) number))) (IsWithin most_pages)
totpages_of true number = tt
totpages_of false None = tt
totpages_of false (Some n) = pages_of n (leb n most_pages) refl

module _ (default : ℕ) (fault : OrderFault) (lawful : IsWithin most_attempts default) where
  -- a limit up to the most is within its limits, where 0 is the default
  limit_of_number : (number : ℕ) (none : Bool) → eqb number 0 ≡ none → leb number most_attempts ≡ true → IsWithin most_attempts (cond none default number)
  limit_of_number number true e h = lawful
  limit_of_number number false e h = and_from (leb 1 number) (leb number most_attempts) (le-leb 1 number (omega (arith, eqb-false number 0 e))) h

  -- so is one that may be too great
  limit_within : (number : ℕ) (within : Bool) → leb number most_attempts ≡ within → IfOk (ok_or (option_map (λ limit. cond (eqb limit 0) default limit) (cond within (Some number) None)) fault) (IsWithin most_attempts)
  limit_within number false h = tt
  limit_within number true h = limit_of_number number (eqb number 0) refl h

  -- so is what is read of a limit
  limit_of : (empty : Bool) (number : Option ℕ) → IfOk (ok_or (cond empty (Some default) (option_map (λ limit. cond (eqb limit 0) default limit) (option_and_then (λ n. cond (leb n most_attempts) (Some n) None) number))) fault) (IsWithin most_attempts)
  limit_of true number = lawful
  limit_of false None = tt
  limit_of false (Some n) = limit_within n (leb n most_attempts) refl

-- the kill time of a value is lawful
pub killtime_is : (value : List ℕ) → IfOk (killtime_in value) IsKilltime
unfolding killtime_in moment_in
killtime_is value = killtime_of (eqb (length value) 0) (number_within value last_moment)

-- the pages of a value are within their limits
totpages_is : (value : List ℕ) → IfOk (totpages_in value) (IsWithin most_pages)
unfolding totpages_in number_within
totpages_is value = totpages_of (eqb (length value) 0) (number_of value)

-- the limit of tries of a value is within its limits
pub maxtries_is : (value : List ℕ) → IfOk (maxtries_in value) (IsWithin most_attempts)
unfolding maxtries_in limit_in number_within
maxtries_is value = limit_of 3 _ refl (eqb (length value) 0) (number_of value)

-- and that of dials
pub maxdials_is : (value : List ℕ) → IfOk (maxdials_in value) (IsWithin most_attempts)
unfolding maxdials_in limit_in number_within
maxdials_is value = limit_of 12 _ refl (eqb (length value) 0) (number_of value)

-- ---- the extra lines

-- a line of a known tag isn't among the extra lines, so all of these are unknown
one_more : (p : Pair) (ps : List Pair) (known : Bool) → is_known p.tag ≡ known → are_unknown (extra_of ps) ≡ true → are_unknown (cond (not known) (p ∷ extra_of ps) (extra_of ps)) ≡ true
one_more p ps true e h = h
one_more p ps false e h = and_from (not (is_known p.tag)) (are_unknown (extra_of ps)) (subst (λ (k : Bool). not k ≡ true) (sym e) refl) h

-- the extra lines have no known tag
unknown : (ps : List Pair) → are_unknown (extra_of ps) ≡ true
unknown [] = refl
unknown (p ∷ ps) = one_more p ps (is_known p.tag) refl (unknown ps)

-- ---- the order

-- what the values must be
pub record IsFit (o : Order) : Type 0 where
  pub killtime : IsKilltime o.killtime
  pub totpages : IsWithin most_pages o.totpages
  pub maxtries : IsWithin most_attempts o.maxtries
  pub maxdials : IsWithin most_attempts o.maxdials
  pub extra : are_unknown o.extra ≡ true

-- an order is fit where its kill time, pages, limits and extra lines are
fit : (dial modem jobtag : Result (List ℕ) OrderFault) (tts killtime : Result (Option ℕ) OrderFault) (priority totpages maxtries maxdials : Result ℕ OrderFault) (extra : List Pair)
    → IfOk killtime IsKilltime → IfOk totpages (IsWithin most_pages) → IfOk maxtries (IsWithin most_attempts) → IfOk maxdials (IsWithin most_attempts) → are_unknown extra ≡ true
    → IfOk (dial >>= λ d. modem >>= λ m. jobtag >>= λ j. tts >>= λ t. killtime >>= λ k. priority >>= λ p. totpages >>= λ g. maxtries >>= λ a. maxdials >>= λ b. Ok (record { dial = d; modem = m; jobtag = j; tts = t; killtime = k; priority = p; totpages = g; maxtries = a; maxdials = b; extra = extra })) IsFit
fit (Err e) m j t k p g a b extra hk hg ha hb he = tt
fit (Ok d) (Err e) j t k p g a b extra hk hg ha hb he = tt
fit (Ok d) (Ok m) (Err e) t k p g a b extra hk hg ha hb he = tt
fit (Ok d) (Ok m) (Ok j) (Err e) k p g a b extra hk hg ha hb he = tt
fit (Ok d) (Ok m) (Ok j) (Ok t) (Err e) p g a b extra hk hg ha hb he = tt
fit (Ok d) (Ok m) (Ok j) (Ok t) (Ok k) (Err e) g a b extra hk hg ha hb he = tt
fit (Ok d) (Ok m) (Ok j) (Ok t) (Ok k) (Ok p) (Err e) a b extra hk hg ha hb he = tt
fit (Ok d) (Ok m) (Ok j) (Ok t) (Ok k) (Ok p) (Ok g) (Err e) b extra hk hg ha hb he = tt
fit (Ok d) (Ok m) (Ok j) (Ok t) (Ok k) (Ok p) (Ok g) (Ok a) (Err e) extra hk hg ha hb he = tt
fit (Ok d) (Ok m) (Ok j) (Ok t) (Ok k) (Ok p) (Ok g) (Ok a) (Ok b) extra hk hg ha hb he = record { killtime = hk; totpages = hg; maxtries = ha; maxdials = hb; extra = he }

-- each order that is read is fit
pub read_fit : (ps : List Pair) → IfOk (order_of ps) IsFit
unfolding order_of
read_fit ps = fit (dial_in (value_or_none ps (codes "number"))) (modem_in (value_or_none ps (codes "modem"))) (jobtag_in (value_or_none ps (codes "jobtag"))) (tts_in (value_or_none ps (codes "tts"))) (killtime_in (value_or_none ps (codes "killtime"))) (priority_in (value_or_none ps (codes "priority"))) (totpages_in (value_or_none ps (codes "totpages"))) (maxtries_in (value_or_none ps (codes "maxtries"))) (maxdials_in (value_or_none ps (codes "maxdials"))) (extra_of ps)
    (killtime_is (value_or_none ps (codes "killtime"))) (totpages_is (value_or_none ps (codes "totpages"))) (maxtries_is (value_or_none ps (codes "maxtries"))) (maxdials_is (value_or_none ps (codes "maxdials"))) (unknown ps)

-- ---- the job

-- none of them is used
unused : (greatest number : ℕ) → IsWithin greatest number → (leb 0 number && leb 1 number && leb number greatest) ≡ true
unused greatest number h =
    let parts = and_parts (leb 1 number) (leb number greatest) h in
    and_from _ (leb number greatest) (and_from (leb 0 number) (leb 1 number) (le-leb 0 number (omega arith)) parts.0) parts.1

-- a new job of a fit order, with a lawful number, is lawful
lawful_job : (o : Order) (n t : ℕ) → IsFit o → leb 1 n ≡ true → leb n last_job ≡ true → is_lawful (fields_of (new_job o n t)) ≡ true
lawful_job o n t h first last =
    lawful_from (fields_of (new_job o n t)) (record {
      number = and_from (leb 1 n) (leb n last_job) first last;
      killtime = h.killtime;
      pages = unused most_pages o.totpages h.totpages;
      tries = unused most_attempts o.maxtries h.maxtries;
      dials = unused most_attempts o.maxdials h.maxdials;
      next = refl;
      extra = h.extra;
    })

-- so is that of an order that was read
read_lawful : (ps : List Pair) (o : Order) (n t : ℕ) → order_of ps ≡ Ok o → 1 ≤ n → n ≤ last_job → is_lawful (fields_of (new_job o n t)) ≡ true
read_lawful ps o n t e first last = lawful_job o n t (subst (λ (r : Result Order OrderFault). IfOk r IsFit) e (read_fit ps)) (le-leb 1 n first) (le-leb n last_job last)

pub read_recorded : ReadOrdersAreLawful
read_recorded ps o n t e first last = ap (λ (lawful : Bool). cond lawful (Ok (new_job o n t)) (Err Unavailable)) (read_lawful ps o n t e first last)

-- the record of the new job is that job
pub new_again : (o : Order) (n t : ℕ) → job_of (fields_of (new_job o n t)) ≡ new_job o n t
new_again o n t = job_again (new_job o n t) refl

-- the job that is made of its record is it, where a lawful record holds it
pub made : (j : Job) (f g : JobFields) (lawful : Bool) → job_of f ≡ j → cond lawful (Some f) None ≡ Some g → Ok (job_of g) ≡ cond lawful (Ok j) (Err Unavailable)
made j f g true again e = ap (λ (o : Option JobFields). Ok (job_of (unwrap_or o f))) (sym e) ∙ ap (λ (k : Job). Ok k) again
made j f g false again e = cc
