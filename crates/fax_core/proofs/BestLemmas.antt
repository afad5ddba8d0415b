-- The best job is the least of those that may go, and the only one.
use Rattle.std.proofs.Common.{◌≡◌, ◌⊎◌, inl, inr, ℕ, ◌<◌, Bool, true, false, cond, not, ◌&&◌, ◌||◌, eqb, leb, ltb, List, [], ◌∷◌, refl, sym, ap, subst, ◌∙◌, arith}
use Rattle.std.specs.Prelude.{Some, None, find}
use Rattle.std.proofs.lemmas.Bool.{and_parts, and_from, le-leb, ltb-false, eqb-true, not-true, not_from_false, true≢false}
use Rattle.std.proofs.lemmas.Bool.Decides.{nat_tests}
use Rattle.fax_job.specs.declared.job.Phase.{Phase}
use Rattle.fax_job.specs.declared.job.Phase.TheVariants.{Held, Waiting, Granted, Done, Failed}
use Rattle.fax_core.specs.Ageing.{is_past}
use Rattle.fax_core.specs.Best.{better, may_go, going, is_least, best, Precedes, MayGo, IsBest}
use Rattle.fax_core.specs.Job.{Job}
use Rattle.fax_core.specs.Queue.{Queue, job_numbered}
use Rattle.fax_core.specs.Settings.{Settings}
use Rattle.fax_core.specs.Sound.{Sound}
use Rattle.fax_core.specs.State.{calls_to, state_in, waiting_state, state, is_waiting, is_due}
use Rattle.fax_core.proofs.PlaceLemmas.{In, found, found_in, none_passes, in_filter, of_filter, in_found}

-- ---- the order

abbrev lex : ℕ → ℕ → ℕ → ℕ → ℕ → ℕ → Bool
lex p t n q u k = ltb p q || (eqb p q && (ltb t u || (eqb t u && ltb n k)))

-- nothing comes before itself
lex_not_itself : (p t n : ℕ) → lex p t n p t n ≡ false
lex_not_itself p t n = grind (arith, nat_tests)

-- what comes before one that comes before a third comes before that
lex_through : (p t n q u k r v l : ℕ) → lex p t n q u k ≡ true → lex q u k r v l ≡ true → lex p t n r v l ≡ true
lex_through p t n q u k r v l a b = grind (arith, nat_tests)

-- two of which neither comes before the other have the same number
lex_total : (p t n q u k : ℕ) → lex p t n q u k ≡ false → lex q u k p t n ≡ false → n ≡ k
lex_total p t n q u k a b = grind (arith, nat_tests)

-- no job is better than itself
not_itself : (j : Job) → better j j ≡ false
not_itself j = lex_not_itself j.priority j.tts j.number

-- a job that is better than one that is better than a third is better than that
through : (i j k : Job) → better i j ≡ true → better j k ≡ true → better i k ≡ true
through i j k a b = lex_through i.priority i.tts i.number j.priority j.tts j.number k.priority k.tts k.number a b

-- two jobs of which neither is better have the same number
pub same_number : (j k : Job) → better j k ≡ false → better k j ≡ false → j.number ≡ k.number
same_number j k a b = lex_total j.priority j.tts j.number k.priority k.tts k.number a b

-- a job that isn't better doesn't precede
not_precedes : (j k : Job) → better j k ≡ false → Precedes j k → ⊥
not_precedes j k e p = lex_not j.priority j.tts j.number k.priority k.tts k.number e p
  where
    lex_not : (p t n q u k : ℕ) → lex p t n q u k ≡ false → (p < q) ⊎ ((p ≡ q) × ((t < u) ⊎ ((t ≡ u) × (n < k)))) → ⊥
    lex_not p t n q u k e h = grind (arith, nat_tests)

-- where none of its ways holds, the comparison in turn says no
lex_is : (p t n q u k : ℕ) → ((p < q) ⊎ ((p ≡ q) × ((t < u) ⊎ ((t ≡ u) × (n < k)))) → ⊥) → lex p t n q u k ≡ false
lex_is p t n q u k h = by (lex p t n q u k) refl
  where
    of : lex p t n q u k ≡ true → (p < q) ⊎ ((p ≡ q) × ((t < u) ⊎ ((t ≡ u) × (n < k))))
    of e = grind (arith, nat_tests)

    by : (b : Bool) → lex p t n q u k ≡ b → lex p t n q u k ≡ false
    by true e = absurd (h (of e))
    by false e = e

-- a job that doesn't precede isn't better
not_better : (j k : Job) → ¬ Precedes j k → better j k ≡ false
not_better j k h = lex_is j.priority j.tts j.number k.priority k.tts k.number h

-- ---- a list has a least

record HasLeast (js : List Job) : Type 0 where
  least : Job
  there : In least js
  is : is_least js least ≡ true

-- none of the jobs precedes
all_not : (ys : List Job) (l x : Job) → better x l ≡ true → is_least ys l ≡ true → is_least ys x ≡ true
all_not [] l x e h = refl
all_not (y ∷ ys) l x e h =
    let parts = and_parts (not (better y l)) (is_least ys l) h in
    let here : better y x ≡ false = lower (better y x) refl parts.0 in
    and_from (not (better y x)) (is_least ys x) (not_from_false (better y x) here) (all_not ys l x e parts.1)
  where
    lower : (b : Bool) → better y x ≡ b → not (better y l) ≡ true → better y x ≡ false
    lower true t n = absurd (true≢false (sym (through y x l t e) ∙ not-true (better y l) n))
    lower false t n = t

-- where the rest of a list has a least, the whole list has
more_least : (x : Job) (ys : List Job) (l : Job) → In l ys → is_least ys l ≡ true → (b : Bool) → better x l ≡ b → HasLeast (x ∷ ys)
more_least x ys l i h true e = record {
  least = x;
  there = inl refl;
  is = and_from (not (better x x)) (is_least ys x) (not_from_false (better x x) (not_itself x)) (all_not ys l x e h);
}
more_least x ys l i h false e = record { least = l; there = inr i; is = and_from (not (better x l)) (is_least ys l) (not_from_false (better x l) e) h }

-- a list of one job or more has a least
has_least : (x : Job) (ys : List Job) → HasLeast (x ∷ ys)
has_least x [] = record { least = x; there = inl refl; is = and_from (not (better x x)) true (not_from_false (better x x) (not_itself x)) refl }
has_least x (y ∷ ys) = let h = has_least y ys in more_least x (y ∷ ys) h.least h.there h.is (better x h.least) refl

-- what is least is so beside each
least_beside : (js : List Job) (j k : Job) → is_least js j ≡ true → In k js → better k j ≡ false
least_beside [] j k h i = absurd i
least_beside (y ∷ ys) j k h (inl s) =
    let parts = and_parts (not (better y j)) (is_least ys j) h in
    sym (ap (λ (z : Job). better z j) s) ∙ not-true (better y j) parts.0
least_beside (y ∷ ys) j k h (inr i) = least_beside ys j k (and_parts (not (better y j)) (is_least ys j) h).1 i

-- ---- the best job

-- a ready job waits
pub ready_waits : (p : Phase) (j : Job) (h : Bool) (c l t : ℕ) → state_in p j h c l t ≡ 5 → p ≡ Waiting
ready_waits Done j h c l t e = absurd (omega (arith, e))
ready_waits Failed j h c l t e = absurd (omega (arith, e))
ready_waits Granted j h c l t e = absurd (omega (arith, e))
ready_waits Held j h c l t e = absurd (held (is_past j.killtime t) e)
  where
    held : (b : Bool) → Path ℕ (cond b 8 1) 5 → ⊥
    held true e = omega (arith, e)
    held false e = omega (arith, e)
ready_waits Waiting j h c l t e = refl

-- where 5 comes of a choice of 8 or a number, it is the number
not_8 : (b : Bool) (n : ℕ) → Path ℕ (cond b 8 n) 5 → (b ≡ false) × (n ≡ 5)
not_8 true n e = absurd (omega (arith, e))
not_8 false n e = (refl, e)

-- where 5 comes of the cases of a waiting job, it is too early neither by time to send nor by next time
due_by : (a b c d : Bool) → Path ℕ (cond a 2 (cond b 3 (cond (not c) 2 (cond d 4 5)))) 5 → (a ≡ false) × (b ≡ false)
due_by true b c d e = absurd (omega (arith, e))
due_by false true c d e = absurd (omega (arith, e))
due_by false false c d e = (refl, refl)

-- a ready job is due
due_in : (p : Phase) (j : Job) (h : Bool) (c l t : ℕ) → state_in p j h c l t ≡ 5 → (is_waiting p && not (is_past j.killtime t) && leb j.tts t && leb j.next t) ≡ true
due_in Done j h c l t e = absurd (omega (arith, e))
due_in Failed j h c l t e = absurd (omega (arith, e))
due_in Granted j h c l t e = absurd (omega (arith, e))
due_in Held j h c l t e = let r = not_8 (is_past j.killtime t) 1 e in absurd (omega (arith, r.1))
due_in Waiting j h c l t e =
    let r = not_8 (is_past j.killtime t) (waiting_state j h c l t) e in
    let u = due_by (ltb t j.tts) (ltb t j.next) h (leb l c) r.1 in
    and_from (not (is_past j.killtime t) && leb j.tts t) (leb j.next t)
    (and_from (not (is_past j.killtime t)) (leb j.tts t) (not_from_false (is_past j.killtime t) r.0) (le-leb j.tts t (ltb-false t j.tts u.0)))
    (le-leb j.next t (ltb-false t j.next u.1))

-- a ready job of a queue is due
pub ready_due : (s : Settings) (m : Queue) (t : ℕ) (j : Job) → state s m t j ≡ 5 → is_due j t ≡ true
ready_due s m t j e = due_in j.phase j ((s.rule j.dial).hours t) (calls_to j.dial m) (s.rule j.dial).calls t e

-- a job among those that may go may go
goes_by : (s : Settings) (m : Queue) (t : ℕ) (modem : List ℕ) (j : Job) → Sound m → In j (going s m t modem) → MayGo s m t modem j
goes_by s m t modem j h i =
    let f = of_filter (may_go s m t modem) m.jobs j i in
    let parts = and_parts (eqb (state s m t j) 5) (s.admits j.modem modem) f.1 in
    record { there = in_found (λ (k : Job). k.number) 0 m.next_job m.jobs j h.jobs f.0; ready = eqb-true (state s m t j) 5 parts.0; admitted = parts.1 }

-- a job that may go is among those
goes_in : (s : Settings) (m : Queue) (t : ℕ) (modem : List ℕ) (k : Job) → MayGo s m t modem k → In k (going s m t modem)
goes_in s m t modem k g =
    in_filter (may_go s m t modem) m.jobs k (and_from (eqb (state s m t k) 5) (s.admits k.modem modem) (ap (λ (n : ℕ). eqb n 5) g.ready) g.admitted)
    (found_in (λ (j : Job). eqb j.number k.number) m.jobs k g.there)

-- the best of a sound queue is the best
pub best_is : (s : Settings) (m : Queue) (t : ℕ) (modem : List ℕ) (j : Job) → Sound m → best s m t modem ≡ Some j → IsBest s m t modem j
best_is s m t modem j h e = record {
  goes = goes_by s m t modem j h (found_in (is_least (going s m t modem)) (going s m t modem) j e);
  least = λ k g. not_precedes k j (least_beside (going s m t modem) j k (found (is_least (going s m t modem)) (going s m t modem) j e) (goes_in s m t modem k g));
}

-- a list of which none is least has no job
none_least : (js : List Job) → find (is_least js) js ≡ None → (k : Job) → In k js → ⊥
none_least [] e k i = i
none_least (y ∷ ys) e k i =
    let l = has_least y ys in
    true≢false (sym l.is ∙ none_passes (is_least (y ∷ ys)) (y ∷ ys) l.least e l.there)

-- where there is no best, no job may go
pub none_goes : (s : Settings) (m : Queue) (t : ℕ) (modem : List ℕ) → best s m t modem ≡ None → (k : Job) → MayGo s m t modem k → ⊥
none_goes s m t modem e k g = none_least (going s m t modem) e k (goes_in s m t modem k g)

-- there is one best at most
pub best_alone : (s : Settings) (m : Queue) (t : ℕ) (modem : List ℕ) (j k : Job) → IsBest s m t modem j → IsBest s m t modem k → j ≡ k
best_alone s m t modem j k a b =
    let same : j.number ≡ k.number = same_number j k (not_better j k (b.least j a.goes)) (not_better k j (a.least k b.goes)) in
    let there : job_numbered k.number m ≡ Some j = subst (λ (n : ℕ). job_numbered n m ≡ Some j) same a.goes.there in
    cc (there, b.goes.there)
