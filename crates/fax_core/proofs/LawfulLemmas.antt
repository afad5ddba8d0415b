-- A job that a lawful record holds: what is decided of it has one too.
use Rattle.std.proofs.Common.{◌≡◌, ℕ, ◌+◌, ◌≤◌, Bool, true, false, cond, not, ◌&&◌, ◌||◌, eqb, leb, ltb, List, [], ◌∷◌, ◌++◌, length, refl, ap, subst, arith}
use Rattle.std.specs.Prelude.{Option, Some, None, Result, Ok, Err, IfOk, IfSome, is_some, is_none, unwrap_or, codes}
use Rattle.std.proofs.lemmas.Bool.{and_parts, and_from, leb-true, leb-false, le-leb}
use Rattle.std.proofs.lemmas.List.{length-append}
use Rattle.std.proofs.lemmas.List.FromFn.{length-range_with_len}
use Rattle.fax_value.specs.Limits.{last_next, most_attempts, most_pages}
use Rattle.fax_job.specs.Alter.{alter_of, changes_of, if_there}
use Rattle.fax_job.specs.Order.{◌>>=◌, modem_in, jobtag_in, tts_in, killtime_in, priority_in, maxtries_in, maxdials_in}
use Rattle.fax_job.specs.Pair.{Pair, value_of}
use Rattle.fax_job.specs.declared.alter.Alter.{Alter}
use Rattle.fax_job.specs.declared.job.Call.{Call}
use Rattle.fax_job.specs.declared.job.Call.TheVariants.{Connected, Busy, NoAnswer, NoCarrier, Other}
use Rattle.fax_job.specs.declared.job.Phase.{Phase}
use Rattle.fax_job.specs.declared.job.Phase.TheVariants.{Held, Waiting, Granted, Done, Failed}
use Rattle.fax_job.specs.declared.job.Wish.{Wish}
use Rattle.fax_job.specs.declared.job.Wish.TheVariants.{Go, Hold, Kill}
use Rattle.fax_job.specs.declared.order.OrderFault.{OrderFault}
use Rattle.fax_job.specs.declared.refusal.Refusal.{Refusal}
use Rattle.fax_job.specs.declared.refusal.Refusal.TheVariants.{CallKnown, CallMissing, Full, GrantClosed, LimitReached, NotConnected, PageOrder, PagesLeft, PagesMismatch}
use Rattle.fax_core.specs.declared.grants.Grant.{Grant}
use Rattle.fax_core.specs.declared.report.Ending.{Ending}
use Rattle.fax_core.specs.declared.report.Ending.TheVariants as ending
use Rattle.fax_core.specs.declared.report.Outcome.{Outcome}
use Rattle.fax_value.specs.Status.{killed, kill_time_expired, too_many_dials, too_many_tries, unable_to_transmit}
use Rattle.fax_core.specs.Ageing.{is_past}
use Rattle.fax_core.specs.Decisions.{JobAndGrant, suspend_in, resume_in, kill_in, altered, alter_in, granted, after_call, call, is_connected, page_of, page, is_kill, phase_after, failed, retried, ended, ended_by, is_done, is_empty, outcome}
use Rattle.fax_core.specs.Job.{Job, HasPages, fields_of}
use Rattle.fax_core.specs.Laws.{HasRecord, HasJobRecord, RequestsKeepRecords, AlterationsKeepRecords, GrantsKeepRecords, ReportsKeepRecords}
use Rattle.fax_core.specs.Sound.{FitsGrant, HasCallLeft}
use Rattle.fax_core.proofs.NewJobLemmas.{killtime_is, maxtries_is, maxdials_is}
use Rattle.fax_core.proofs.RecordLemmas.{IsKilltime, IsWithin, within_limits_of, lawful_from}

-- ---- counters

-- at most so many in a row, in all and by the limit, which is within 1 to 1000
counters : (row all limit : ℕ) → row ≤ all → all ≤ limit → IsWithin most_attempts limit → (leb row all && leb all limit && leb 1 limit && leb limit most_attempts) ≡ true
counters row all limit a b w =
    let parts = and_parts (leb 1 limit) (leb limit most_attempts) w in
    and_from _ (leb limit most_attempts) (and_from _ (leb 1 limit) (and_from (leb row all) (leb all limit) (le-leb row all a) (le-leb all limit b)) parts.0) parts.1

record AreCounters (a b c : ℕ) : Type 0 where
  row : a ≤ b
  all : b ≤ c
  limit : IsWithin most_attempts c

-- counters that pass the test are in order, with a limit from 1 to 1000
counters_of : (a b c : ℕ) → (leb a b && leb b c && leb 1 c && leb c most_attempts) ≡ true → AreCounters a b c
counters_of a b c h =
    let most = and_parts (leb a b && leb b c && leb 1 c) (leb c most_attempts) h in
    let least = and_parts (leb a b && leb b c) (leb 1 c) most.0 in
    let rest = and_parts (leb a b) (leb b c) least.0 in
    record { row = leb-true a b rest.0; all = leb-true b c rest.1; limit = and_from (leb 1 c) (leb c most_attempts) least.1 most.1 }

-- ---- one of several

-- what holds of what is decided holds where a test may refuse it before
kept_if : {A : Type 0} (P : A → Type 0) (b : Bool) (refusal : Refusal) (next : Result A Refusal) → IfOk next P → IfOk (cond b (Err refusal) next) P
kept_if P true refusal next h = tt
kept_if P false refusal next h = h

-- ---- a client's requests

-- a suspended job has a record, where it had one
suspended : (p : Phase) (w : Wish) (j : Job) → HasRecord j → IfOk (suspend_in p w j) HasRecord
suspended Held w j h = h
suspended Waiting w j h = h
suspended Granted Go j h = h
suspended Granted Hold j h = h
suspended Granted Kill j h = tt
suspended Done w j h = tt
suspended Failed w j h = tt

-- so has a resumed one
resumed : (p : Phase) (w : Wish) (j : Job) → HasRecord j → IfOk (resume_in p w j) HasRecord
resumed Held w j h = h
resumed Waiting w j h = tt
resumed Granted Go j h = tt
resumed Granted Hold j h = h
resumed Granted Kill j h = tt
resumed Done w j h = tt
resumed Failed w j h = tt

-- and a killed one
killed_kept : (p : Phase) (j : Job) → HasRecord j → IfOk (kill_in p j) HasRecord
killed_kept Held j h = h
killed_kept Waiting j h = h
killed_kept Granted j h = h
killed_kept Done j h = tt
killed_kept Failed j h = tt

pub requests_keep : RequestsKeepRecords
requests_keep j h = (suspended j.phase j.wish j h, resumed j.phase j.wish j h, killed_kept j.phase j h)

-- ---- alterations

-- what the values must be that are said
record IsFitAlter (a : Alter) : Type 0 where
  killtime : IfSome a.killtime IsKilltime
  maxtries : IfSome a.maxtries (IsWithin most_attempts)
  maxdials : IfSome a.maxdials (IsWithin most_attempts)

-- what is read of a value that is said is fit
said : {A : Type 0} (P : A → Type 0) (r : Result A OrderFault) → IfOk r P → IfOk (r >>= λ x. Ok (Some x)) (λ o. IfSome o P)
said P (Ok x) h = h
said P (Err e) h = tt

-- so is what is read of one that may be said
there : {A : Type 0} (P : A → Type 0) (value_in : List ℕ → Result A OrderFault) → ((value : List ℕ) → IfOk (value_in value) P) → (o : Option (List ℕ)) → IfOk (if_there value_in o) (λ x. IfSome x P)
there P value_in each None = tt
there P value_in each (Some value) = said P (value_in value) (each value)

-- an alteration is fit where its kill time and limits are
fit : (modem jobtag : Result (Option (List ℕ)) OrderFault) (tts killtime : Result (Option (Option ℕ)) OrderFault) (priority maxtries maxdials : Result (Option ℕ) OrderFault)
    → IfOk killtime (λ o. IfSome o IsKilltime) → IfOk maxtries (λ o. IfSome o (IsWithin most_attempts)) → IfOk maxdials (λ o. IfSome o (IsWithin most_attempts))
    → IfOk (modem >>= λ m. jobtag >>= λ j. tts >>= λ t. killtime >>= λ k. priority >>= λ p. maxtries >>= λ a. maxdials >>= λ b. Ok (record { modem = m; jobtag = j; tts = t; killtime = k; priority = p; maxtries = a; maxdials = b })) IsFitAlter
fit (Err e) j t k p a b hk ha hb = tt
fit (Ok m) (Err e) t k p a b hk ha hb = tt
fit (Ok m) (Ok j) (Err e) k p a b hk ha hb = tt
fit (Ok m) (Ok j) (Ok t) (Err e) p a b hk ha hb = tt
fit (Ok m) (Ok j) (Ok t) (Ok k) (Err e) a b hk ha hb = tt
fit (Ok m) (Ok j) (Ok t) (Ok k) (Ok p) (Err e) b hk ha hb = tt
fit (Ok m) (Ok j) (Ok t) (Ok k) (Ok p) (Ok a) (Err e) hk ha hb = tt
fit (Ok m) (Ok j) (Ok t) (Ok k) (Ok p) (Ok a) (Ok b) hk ha hb = record { killtime = hk; maxtries = ha; maxdials = hb }

-- what is read of changes is fit
changes_fit : (ps : List Pair) → IfOk (changes_of ps) IsFitAlter
unfolding changes_of
changes_fit ps = fit (if_there modem_in (value_of (codes "modem") ps)) (if_there jobtag_in (value_of (codes "jobtag") ps)) (if_there tts_in (value_of (codes "tts") ps)) (if_there killtime_in (value_of (codes "killtime") ps)) (if_there priority_in (value_of (codes "priority") ps)) (if_there maxtries_in (value_of (codes "maxtries") ps)) (if_there maxdials_in (value_of (codes "maxdials") ps))
    (there IsKilltime killtime_in killtime_is (value_of (codes "killtime") ps)) (there (IsWithin most_attempts) maxtries_in maxtries_is (value_of (codes "maxtries") ps)) (there (IsWithin most_attempts) maxdials_in maxdials_is (value_of (codes "maxdials") ps))

-- so it is where a test may refuse it
fit_where : (b : Bool) (r : Result Alter OrderFault) (e : OrderFault) → IfOk r IsFitAlter → IfOk (cond b r (Err e)) IsFitAlter
fit_where true r e h = h
fit_where false r e h = tt

-- so each alteration that is read is fit
read_alter_fit : (ps : List Pair) → IfOk (alter_of ps) IsFitAlter
unfolding alter_of
read_alter_fit ps = fit_where _ (changes_of ps) _ (changes_fit ps)

-- a value that is said, or the old one
new_or_old : {A : Type 0} (P : A → Type 0) (o : Option A) (old : A) → IfSome o P → P old → P (unwrap_or o old)
new_or_old P None old h was = was
new_or_old P (Some new) old h was = h

-- a number that another isn't at most is at most that
not_over : (x y : ℕ) → leb y x ≡ false → x ≤ y
not_over x y e = omega (arith, leb-false y x e)

-- an altered job has a record, unless a limit is reached
kept_within : (a : Alter) (j : Job) (t : ℕ) (x y : Bool) → leb (altered a j t).maxdials j.totdials ≡ x → leb (altered a j t).maxtries j.tottries ≡ y
    → IsFitAlter a → HasRecord j → IfOk (cond (x || y) (Err LimitReached) (Ok (altered a j t))) HasRecord
kept_within a j t true y ex ey fits h = tt
kept_within a j t false true ex ey fits h = tt
kept_within a j t false false ex ey fits h =
    let old = within_limits_of (fields_of j) h in
    let tries = counters_of j.ntries j.tottries j.maxtries old.tries in
    let dials = counters_of j.ndials j.totdials j.maxdials old.dials in
    lawful_from (fields_of (altered a j t)) (record {
      number = old.number;
      killtime = new_or_old IsKilltime a.killtime j.killtime fits.killtime old.killtime;
      pages = old.pages;
      tries = counters j.ntries j.tottries (altered a j t).maxtries tries.row (not_over j.tottries (altered a j t).maxtries ey) (new_or_old (IsWithin most_attempts) a.maxtries j.maxtries fits.maxtries tries.limit);
      dials = counters j.ndials j.totdials (altered a j t).maxdials dials.row (not_over j.totdials (altered a j t).maxdials ex) (new_or_old (IsWithin most_attempts) a.maxdials j.maxdials fits.maxdials dials.limit);
      next = old.next;
      extra = old.extra;
    })

-- a job that was altered has a record, where it had one
altered_kept : (p : Phase) (a : Alter) (j : Job) (t : ℕ) → IsFitAlter a → HasRecord j → IfOk (alter_in p a j t) HasRecord
altered_kept Held a j t fits h = kept_within a j t (leb (altered a j t).maxdials j.totdials) (leb (altered a j t).maxtries j.tottries) refl refl fits h
altered_kept Waiting a j t fits h = tt
altered_kept Granted a j t fits h = tt
altered_kept Done a j t fits h = tt
altered_kept Failed a j t fits h = tt

pub alterations_keep : AlterationsKeepRecords
alterations_keep ps a j t e h = altered_kept j.phase a j t (subst (λ (r : Result Alter OrderFault). IfOk r IsFitAlter) e (read_alter_fit ps)) h

-- ---- grants

pub grants_keep : GrantsKeepRecords
grants_keep j modem number greatest h = kept_if HasJobRecord (ltb greatest number) Full (Ok (granted j modem number)) h

-- ---- reports

-- one more dial
dialed_more : (j : Job) → HasCallLeft j → HasRecord j → HasRecord (record j { totdials = j.totdials + 1; ndials = j.ndials + 1 })
dialed_more j left h =
    let old = within_limits_of (fields_of j) h in
    let dials = counters_of j.ndials j.totdials j.maxdials old.dials in
    lawful_from (fields_of (record j { totdials = j.totdials + 1; ndials = j.ndials + 1 })) (record {
      number = old.number;
      killtime = old.killtime;
      pages = old.pages;
      tries = old.tries;
      dials = counters (j.ndials + 1) (j.totdials + 1) j.maxdials (omega (arith, dials.row)) (omega (arith, left.dials)) dials.limit;
      next = old.next;
      extra = old.extra;
    })

-- after a call a job with a dial and a try left has a record
dialed : (c : Call) (j : Job) → HasCallLeft j → HasRecord j → HasRecord (after_call c j)
dialed Connected j left h =
    let old = within_limits_of (fields_of j) h in
    let tries = counters_of j.ntries j.tottries j.maxtries old.tries in
    let dials = counters_of j.ndials j.totdials j.maxdials old.dials in
    lawful_from (fields_of (after_call Connected j)) (record {
      number = old.number;
      killtime = old.killtime;
      pages = old.pages;
      tries = counters (j.ntries + 1) (j.tottries + 1) j.maxtries (omega (arith, tries.row)) (omega (arith, left.tries)) tries.limit;
      dials = counters 0 (j.totdials + 1) j.maxdials (omega arith) (omega (arith, left.dials)) dials.limit;
      next = old.next;
      extra = old.extra;
    })
dialed Busy j left h = dialed_more j left h
dialed NoAnswer j left h = dialed_more j left h
dialed NoCarrier j left h = dialed_more j left h
dialed Other j left h = dialed_more j left h

-- the same of a call that is reported once
called : (c : Call) (j : Job) (g : Grant) (o : Option Call) → g.call ≡ o → FitsGrant j g → HasRecord j
    → IfOk (cond (is_some o) (Err CallKnown) (Ok (record { job = after_call c j; grant = record g { call = Some c } }))) HasJobRecord
called c j g None e fits h = dialed c j (fits.call e) h
called c j g (Some known) e fits h = tt

-- with one page more sent, no more are sent than there are
one_more_page : (j : Job) (p : ℕ) (rest : List ℕ) → HasPages j → j.left ≡ p ∷ rest → length (j.sent ++ p ∷ []) ≤ j.totpages
one_more_page j p rest h e =
    let all = ap (λ (ps : List ℕ). length ps) h in
    let both = length-append j.sent j.left in
    let some = ap (λ (ps : List ℕ). length ps) e in
    let more = length-append j.sent (p ∷ []) in
    omega (arith, all, both, some, more, length-range_with_len 1 j.totpages)

-- after a page a job has a record
confirmed : (n : ℕ) (j : Job) (g : Grant) (left : List ℕ) → j.left ≡ left → HasPages j → HasRecord j → IfOk (page_of left n j g) HasJobRecord
confirmed n j g [] e pages h = tt
confirmed n j g (p ∷ rest) e pages h =
    kept_if HasJobRecord (not (eqb p n)) PageOrder (Ok (record { job = record j { sent = j.sent ++ p ∷ []; left = rest; ntries = 0 }; grant = record g { confirmed = g.confirmed + 1 } })) confirmed_job
  where
    confirmed_job : HasRecord (record j { sent = j.sent ++ p ∷ []; left = rest; ntries = 0 })
    confirmed_job =
        let old = within_limits_of (fields_of j) h in
        let tries = counters_of j.ntries j.tottries j.maxtries old.tries in
        let parts = and_parts (leb (length j.sent) j.totpages && leb 1 j.totpages) (leb j.totpages most_pages) old.pages in
        let least = and_parts (leb (length j.sent) j.totpages) (leb 1 j.totpages) parts.0 in
        lawful_from (fields_of (record j { sent = j.sent ++ p ∷ []; left = rest; ntries = 0 })) (record {
          number = old.number;
          killtime = old.killtime;
          pages = and_from _ (leb j.totpages most_pages) (and_from (leb (length (j.sent ++ p ∷ [])) j.totpages) (leb 1 j.totpages) (le-leb (length (j.sent ++ p ∷ [])) j.totpages (one_more_page j p rest pages e)) least.1) parts.1;
          tries = counters 0 j.tottries j.maxtries (omega arith) tries.all tries.limit;
          dials = old.dials;
          next = old.next;
          extra = old.extra;
        })

-- a retry waits until a moment that is not too late
waits : (j : Job) (phase : Phase) (next : ℕ) (reason : List ℕ) → next ≤ last_next → HasRecord j → HasRecord (record j { phase = phase; wish = Go; next = next; status = reason })
waits j phase next reason late h =
    let old = within_limits_of (fields_of j) h in
    lawful_from (fields_of (record j { phase = phase; wish = Go; next = next; status = reason })) (record {
      number = old.number;
      killtime = old.killtime;
      pages = old.pages;
      tries = old.tries;
      dials = old.dials;
      next = le-leb next last_next late;
      extra = old.extra;
    })

-- what each of six cases has, the one that is picked has
one_of : (a b c d e : Bool) (v w x y z last : Job) → HasRecord v → HasRecord w → HasRecord x → HasRecord y → HasRecord z → HasRecord last
    → HasRecord (cond a v (cond b w (cond c x (cond d y (cond e z last)))))
one_of true b c d e v w x y z last hv hw hx hy hz h = hv
one_of false true c d e v w x y z last hv hw hx hy hz h = hw
one_of false false true d e v w x y z last hv hw hx hy hz h = hx
one_of false false false true e v w x y z last hv hw hx hy hz h = hy
one_of false false false false true v w x y z last hv hw hx hy hz h = hz
one_of false false false false false v w x y z last hv hw hx hy hz h = h

-- a job that is tried again has a record
retried_kept : (j : Job) (reason : List ℕ) (delay t : ℕ) → t + delay ≤ last_next → HasRecord j → HasRecord (retried j reason delay t)
retried_kept j reason delay t late h =
    one_of (is_kill j.wish) (is_past j.killtime t) (leb j.maxdials j.totdials) (leb j.maxtries j.tottries) (leb 3 j.ntries)
    (failed j killed) (failed j kill_time_expired) (failed j too_many_dials) (failed j too_many_tries) (failed j unable_to_transmit)
    (record j { phase = phase_after j.wish; wish = Go; next = t + delay; status = reason })
    h h h h h (waits j (phase_after j.wish) (t + delay) reason late h)

-- so has one that ended in any way
ended_kept : (e : Ending) (j : Job) (reason : List ℕ) (delay t : ℕ) → t + delay ≤ last_next → HasRecord j → HasRecord (ended_by e j reason delay t)
ended_kept ending.Done j reason delay t late h = h
ended_kept ending.Fail j reason delay t late h = h
ended_kept ending.Retry j reason delay t late h = retried_kept j reason delay t late h

-- and one whose grant ended in any way
all_ended : (left : List ℕ) (o : Outcome) (j : Job) (delay t : ℕ) → t + delay ≤ last_next → HasRecord j → HasRecord (ended left o j delay t)
all_ended [] o j delay t late h = h
all_ended (p ∷ rest) o j delay t late h = ended_kept o.ending j o.reason delay t late h

-- a call that is taken leaves a job with a record
call_kept : (c : Call) (j : Job) (g : Grant) → FitsGrant j g → HasRecord j → IfOk (call c j g) HasJobRecord
call_kept c j g fits h =
    kept_if HasJobRecord (not g.is_open) GrantClosed
    (cond (is_some g.call) (Err CallKnown) (Ok (record { job = after_call c j; grant = record g { call = Some c } })))
    (called c j g g.call refl fits h)

-- so does a page
page_kept : (n : ℕ) (j : Job) (g : Grant) → FitsGrant j g → HasRecord j → IfOk (page n j g) HasJobRecord
page_kept n j g fits h =
    kept_if HasJobRecord (not g.is_open) GrantClosed (cond (not (is_connected g.call)) (Err NotConnected) (page_of j.left n j g))
    (kept_if HasJobRecord (not (is_connected g.call)) NotConnected (page_of j.left n j g)
    (confirmed n j g j.left refl fits.counted.pages h))

-- an outcome that is taken by all five tests
ended_if : (a b c d e : Bool) (v w x y z : Refusal) (both : JobAndGrant) → HasJobRecord both
    → IfOk (cond a (Err v) (cond b (Err w) (cond c (Err x) (cond d (Err y) (cond e (Err z) (Ok both)))))) HasJobRecord
ended_if true b c d e v w x y z both h = tt
ended_if false true c d e v w x y z both h = tt
ended_if false false true d e v w x y z both h = tt
ended_if false false false true e v w x y z both h = tt
ended_if false false false false true v w x y z both h = tt
ended_if false false false false false v w x y z both h = h

-- an outcome that is taken leaves a job with a record
outcome_kept : (o : Outcome) (j : Job) (g : Grant) (delay t : ℕ) → t + delay ≤ last_next → HasRecord j → IfOk (outcome o j g delay t) HasJobRecord
outcome_kept o j g delay t late h =
    ended_if (not g.is_open) (not o.dialed && is_some g.call) (o.dialed && is_none g.call) (not (eqb o.pages g.confirmed)) (is_done o.ending && not (is_empty j.left))
    GrantClosed CallKnown CallMissing PagesMismatch PagesLeft
    (record { job = ended j.left o j delay t; grant = record g { is_open = false } })
    (all_ended j.left o j delay t late h)

pub reports_keep : ReportsKeepRecords
reports_keep j g fits h = ((λ c. call_kept c j g fits h), (λ n. page_kept n j g fits h), (λ o delay t late. outcome_kept o j g delay t late h))
