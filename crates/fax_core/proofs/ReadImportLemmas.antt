-- An import that was read makes a job that a lawful record holds, and its numbers are within their limits.
use Rattle.std.proofs.Common.{◌≡◌, ℕ, ◌≤◌, Bool, true, false, cond, ◌&&◌, eqb, leb, List, length, refl, ap, subst, arith}
use Rattle.std.specs.Prelude.{Option, Some, None, Result, Ok, Err, IfOk, min, max, option_and_then, codes}
use Rattle.std.specs.Option.{option_map, ok_or}
use Rattle.std.proofs.lemmas.Bool.{and_parts, and_from, leb-true, le-leb}
use Rattle.std.proofs.lemmas.List.FromFn.{length-range_with_len}
use Rattle.fax_job.specs.declared.import.Import.{Import}
use Rattle.fax_job.specs.declared.order.Order.{Order}
use Rattle.fax_job.specs.declared.order.OrderFault.{OrderFault}
use Rattle.fax_job.specs.declared.refusal.Refusal.TheVariants.{Unavailable}
use Rattle.fax_job.specs.Import.{count_in, npages_in, ntries_in, tottries_in, ndials_in, totdials_in, state_in, raised, import_of}
use Rattle.fax_job.specs.Job.{is_lawful}
use Rattle.fax_value.specs.Limits.{last_job, most_attempts, most_pages}
use Rattle.fax_value.specs.Number.{number_of}
use Rattle.fax_job.specs.Order.{◌>>=◌, number_within, value_or_none, order_of}
use Rattle.fax_job.specs.Pair.{Pair}
use Rattle.fax_core.specs.Ask.{HasCounts}
use Rattle.fax_core.specs.Import.{old_job, brought, ReadImportsAreLawful}
use Rattle.fax_core.specs.Job.{Job, fields_of}
use Rattle.fax_core.proofs.ImportLemmas.{brought_is}
use Rattle.fax_core.proofs.NewJobLemmas.{IsFit, read_fit}
use Rattle.fax_core.proofs.RecordLemmas.{IsWithin, lawful_from}

-- ---- the values

-- a count that isn't too great is at most the greatest
count_within : (greatest number : ℕ) (within : Bool) → leb number greatest ≡ within → (fault : OrderFault) → IfOk (ok_or (cond within (Some number) None) fault) (λ n. n ≤ greatest)
count_within greatest number true h fault = leb-true number greatest h
count_within greatest number false h fault = tt

-- so is what is read of a count, which is 0 where it is empty
count_of : (greatest : ℕ) (empty : Bool) (number : Option ℕ) (fault : OrderFault) → IfOk (ok_or (cond empty (Some 0) (option_and_then (λ n. cond (leb n greatest) (Some n) None) number)) fault) (λ n. n ≤ greatest)
count_of greatest true number fault = omega arith
count_of greatest false None fault = tt
count_of greatest false (Some n) fault = count_within greatest n (leb n greatest) refl fault

-- the tries of a page are at most 1000
ntries_is : (value : List ℕ) → IfOk (ntries_in value) (λ n. n ≤ most_attempts)
unfolding ntries_in count_in number_within
ntries_is value = count_of most_attempts (eqb (length value) 0) (number_of value) _

-- and all tries
tottries_is : (value : List ℕ) → IfOk (tottries_in value) (λ n. n ≤ most_attempts)
unfolding tottries_in count_in number_within
tottries_is value = count_of most_attempts (eqb (length value) 0) (number_of value) _

-- and the dials in a row
ndials_is : (value : List ℕ) → IfOk (ndials_in value) (λ n. n ≤ most_attempts)
unfolding ndials_in count_in number_within
ndials_is value = count_of most_attempts (eqb (length value) 0) (number_of value) _

-- and all dials
totdials_is : (value : List ℕ) → IfOk (totdials_in value) (λ n. n ≤ most_attempts)
unfolding totdials_in count_in number_within
totdials_is value = count_of most_attempts (eqb (length value) 0) (number_of value) _

-- the pages sent are cut to those there are
npages_of : (all : ℕ) (count : Option ℕ) (fault : OrderFault) → IfOk (ok_or (option_map (λ pages. min pages all) count) fault) (λ n. n ≤ all)
npages_of all None fault = tt
npages_of all (Some n) fault = omega arith

-- so no more are sent than there are
npages_is : (value : List ℕ) (all : ℕ) → IfOk (npages_in value all) (λ n. n ≤ all)
unfolding npages_in
npages_is value all = npages_of all (count_in value most_pages) _

-- ---- the import

-- what the numbers must be
pub record IsFitImport (i : Import) : Type 0 where
  pub order : IsFit i.order
  pub npages : i.npages ≤ i.order.totpages
  pub ntries : i.ntries ≤ i.tottries
  pub tottries : i.tottries ≤ i.order.maxtries
  pub ndials : i.ndials ≤ i.totdials
  pub totdials : i.totdials ≤ i.order.maxdials

-- a limit raised to lawful counts is within its limits
raised_within : (limit a b : ℕ) → IsWithin most_attempts limit → a ≤ most_attempts → b ≤ most_attempts → IsWithin most_attempts (max limit (max a b))
raised_within limit a b h x y =
    let parts = and_parts (leb 1 limit) (leb limit most_attempts) h in
    let low : 1 ≤ limit = leb-true 1 limit parts.0 in
    let high : limit ≤ most_attempts = leb-true limit most_attempts parts.1 in
    and_from _ (leb (max limit (max a b)) most_attempts) (le-leb 1 (max limit (max a b)) (omega arith)) (le-leb (max limit (max a b)) most_attempts (omega arith))

-- with its limits raised to its counts, an import is fit
raised_fit : (o : Order) (npages ntries tottries ndials totdials state : ℕ) (status : List ℕ) → IsFit o → npages ≤ o.totpages → ntries ≤ most_attempts → tottries ≤ most_attempts → ndials ≤ most_attempts → totdials ≤ most_attempts
    → IsFitImport (raised (record { order = o; npages = npages; ntries = ntries; tottries = tottries; ndials = ndials; totdials = totdials; state = state; status = status }))
raised_fit o npages ntries tottries ndials totdials state status h p a b c d = record {
  order = record { killtime = h.killtime; totpages = h.totpages; maxtries = raised_within o.maxtries tottries ntries h.maxtries b a; maxdials = raised_within o.maxdials totdials ndials h.maxdials d c; extra = h.extra };
  npages = p;
  ntries = omega arith;
  tottries = omega arith;
  ndials = omega arith;
  totdials = omega arith;
}

module _ (o : Order) (status : List ℕ) (h : IsFit o) where
  -- an import of a fit order is fit where its counts are at most the greatest
  fit_counts : (npages ntries tottries ndials totdials state : Result ℕ OrderFault)
      → IfOk npages (λ n. n ≤ o.totpages) → IfOk ntries (λ n. n ≤ most_attempts) → IfOk tottries (λ n. n ≤ most_attempts) → IfOk ndials (λ n. n ≤ most_attempts) → IfOk totdials (λ n. n ≤ most_attempts)
      → IfOk (npages >>= λ p. ntries >>= λ a. tottries >>= λ b. ndials >>= λ c. totdials >>= λ d. state >>= λ s. Ok (raised (record { order = o; npages = p; ntries = a; tottries = b; ndials = c; totdials = d; state = s; status = status }))) IsFitImport
  fit_counts (Err e) a b c d s hp ha hb hc hd = tt
  fit_counts (Ok p) (Err e) b c d s hp ha hb hc hd = tt
  fit_counts (Ok p) (Ok a) (Err e) c d s hp ha hb hc hd = tt
  fit_counts (Ok p) (Ok a) (Ok b) (Err e) d s hp ha hb hc hd = tt
  fit_counts (Ok p) (Ok a) (Ok b) (Ok c) (Err e) s hp ha hb hc hd = tt
  fit_counts (Ok p) (Ok a) (Ok b) (Ok c) (Ok d) (Err e) hp ha hb hc hd = tt
  fit_counts (Ok p) (Ok a) (Ok b) (Ok c) (Ok d) (Ok s) hp ha hb hc hd = raised_fit o p a b c d s status h hp ha hb hc hd

-- what is read behind a fit order is fit
with_order : (order : Result Order OrderFault) (rest : Order → Result Import OrderFault) → IfOk order IsFit → ((o : Order) → IsFit o → IfOk (rest o) IsFitImport) → IfOk (order >>= rest) IsFitImport
with_order (Ok o) rest h f = f o h
with_order (Err e) rest h f = tt

-- each import that is read is fit
read_import : (ps : List Pair) → IfOk (import_of ps) IsFitImport
unfolding import_of
read_import ps =
    with_order (order_of ps) _ (read_fit ps) (λ o h.
    fit_counts o (value_or_none ps (codes "status")) h (npages_in (value_or_none ps (codes "npages")) o.totpages) (ntries_in (value_or_none ps (codes "ntries"))) (tottries_in (value_or_none ps (codes "tottries"))) (ndials_in (value_or_none ps (codes "ndials"))) (totdials_in (value_or_none ps (codes "totdials"))) (state_in (value_or_none ps (codes "state")))
    (npages_is (value_or_none ps (codes "npages")) o.totpages) (ntries_is (value_or_none ps (codes "ntries"))) (tottries_is (value_or_none ps (codes "tottries"))) (ndials_is (value_or_none ps (codes "ndials"))) (totdials_is (value_or_none ps (codes "totdials"))))

-- the same of an import that was read
read_fit_import : (ps : List Pair) (i : Import) → import_of ps ≡ Ok i → IsFitImport i
read_fit_import ps i e = subst (λ (r : Result Import OrderFault). IfOk r IsFitImport) e (read_import ps)

-- what is within limits is at least 1
one_at_least : (greatest number : ℕ) → IsWithin greatest number → 1 ≤ number
one_at_least greatest number h = leb-true 1 number (and_parts (leb 1 number) (leb number greatest) h).0

-- an import that was read is lawful
pub read_counts : (ps : List Pair) (i : Import) → import_of ps ≡ Ok i → HasCounts i
read_counts ps i e =
    let h = read_fit_import ps i e in
    record {
      limits = record { pages = one_at_least most_pages i.order.totpages h.order.totpages; tries = one_at_least most_attempts i.order.maxtries h.order.maxtries; dials = one_at_least most_attempts i.order.maxdials h.order.maxdials };
      npages = h.npages;
      ntries = h.ntries;
      tottries = h.tottries;
      ndials = h.ndials;
      totdials = h.totdials;
    }

-- ---- its job

-- counters in order with a lawful limit pass the test
used : (greatest row all limit : ℕ) → row ≤ all → all ≤ limit → IsWithin greatest limit → (leb row all && leb all limit && leb 1 limit && leb limit greatest) ≡ true
used greatest row all limit a b w =
    let parts = and_parts (leb 1 limit) (leb limit greatest) w in
    and_from _ (leb limit greatest) (and_from _ (leb 1 limit) (and_from (leb row all) (leb all limit) (le-leb row all a) (le-leb all limit b)) parts.0) parts.1

-- so do pages sent of lawful pages
some_sent : (sent all : ℕ) → sent ≤ all → IsWithin most_pages all → (leb sent all && leb 1 all && leb all most_pages) ≡ true
some_sent sent all h w =
    let parts = and_parts (leb 1 all) (leb all most_pages) w in
    and_from _ (leb all most_pages) (and_from (leb sent all) (leb 1 all) (le-leb sent all h) parts.0) parts.1

-- the older queue's job of a fit import, with a lawful number, is lawful
lawful_old : (i : Import) (n t : ℕ) → IsFitImport i → leb 1 n ≡ true → leb n last_job ≡ true → is_lawful (fields_of (old_job i n t)) ≡ true
lawful_old i n t h first last =
    let sent : length (old_job i n t).sent ≤ i.order.totpages = omega (arith, length-range_with_len 1 i.npages, h.npages) in
    lawful_from (fields_of (old_job i n t)) (record {
      number = and_from (leb 1 n) (leb n last_job) first last;
      killtime = h.order.killtime;
      pages = some_sent (length (old_job i n t).sent) i.order.totpages sent h.order.totpages;
      tries = used most_attempts i.ntries i.tottries i.order.maxtries h.ntries h.tottries h.order.maxtries;
      dials = used most_attempts i.ndials i.totdials i.order.maxdials h.ndials h.totdials h.order.maxdials;
      next = refl;
      extra = h.order.extra;
    })

pub read_old_recorded : ReadImportsAreLawful
read_old_recorded ps i n t e first last =
    let j : Job = brought i.state (old_job i n t) in
    let old : is_lawful (fields_of (old_job i n t)) ≡ true = lawful_old i n t (read_fit_import ps i e) (le-leb 1 n first) (le-leb n last_job last) in
    let lawful : is_lawful (fields_of j) ≡ true = brought_is (λ (k : Job). is_lawful (fields_of k) ≡ true) i.state (old_job i n t) (λ p text. old) in
    ap (λ (b : Bool). cond b (Ok j) (Err Unavailable)) lawful
