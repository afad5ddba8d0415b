-- What a row of a job's columns has in each place.
use Rattle.std.proofs.Common.{◌≡◌, ℕ, nat_lt, suc, [], ◌∷◌, ◌++◌, map, take, drop, get_or, unwrap_or, ◌+◌, ◌<◌, ◌≤◌, ◌^◌, true, false, ◌&&◌, if◌then◌else◌, List, Option, Some, None, length, length-append, refl, sym, ap, ap₂, subst, add-one, drop-cons, ◌∙◌, arith}
use Rattle.std.proofs.lemmas.Bool.{and_parts, ltb-true}
use Rattle.std.proofs.lemmas.Bool.Decides.{nat_tests}
use Rattle.std.proofs.lemmas.List.{map-append, take_more}
use Rattle.std.proofs.lemmas.Option.{none-some, same_Some}
use Rattle.sqlite.specs.Order.{Row, column}
use Rattle.sqlite.specs.declared.types.Value.{Value}
use Rattle.fax_job.specs.declared.job.JobFields.{JobFields}
use Rattle.fax_job.specs.Job.{is_lawful, is_lawful_killtime, IsLawful}
use Rattle.fax_job.specs.Pair.{Pair}
use Rattle.fax_job.specs.declared.job.Phase.{Phase}
use Rattle.fax_job.specs.declared.job.Wish.{Wish}
use Rattle.fax_tables.specs.Job.{brief, brief_shown, job_shown}
use Rattle.fax_tables.specs.Row.{HasValue, HasValues, number, phase_number, wish_number}
use Rattle.fax_job.specs.Spelling.{printed}
use Rattle.sqlite.specs.declared.types.Value.TheVariants.{Null, Text}

-- a row that is this one has the value of this one in its place
pub has_value : {row shown : Row} {at : ℕ} {v : Value} → row ≡ shown → at < length shown → column shown at ≡ v → HasValue row at v
has_value {at} is within there = record { within = subst (λ r. at < length r) (sym is) within; is = ap (λ r. column r at) is ∙ there }

-- values that stand one behind the other are what is left of the row there, as far as they go
pub first_from : (row values : Row) (at : ℕ) → HasValues row at values → take (length values) (drop at row) ≡ values
first_from row [] at has = refl
first_from row (value ∷ values) at has =
    ap (take (suc (length values))) (drop-cons row at Null has.0.within)
    ∙ ap₂ ◌∷◌ has.0.is (first_from row values (suc at) (subst (λ i. HasValues row i values) (add-one at) has.1))

-- rows that begin with what elements show, and one more
pub one_more_row : {X : Type 0} (n : ℕ) (shown : X → Row) (rows : List Row) (i : ℕ) (row : Row) (xs : List X) (x : X) → i < length rows → row ≡ get_or rows i row
    → map (take n) (take i rows) ≡ map shown xs → take n row ≡ shown x → map (take n) (take (i + 1) rows) ≡ map shown (xs ++ x ∷ [])
one_more_row n shown rows i row xs x low is before here =
    ap (map (take n)) (take_more rows i row low ∙ ap (λ (r : Row). take i rows ++ r ∷ []) (sym is)) ∙ map-append (take n) (take i rows) (row ∷ [])
    ∙ ap₂ (λ front (r : Row). front ++ r ∷ []) before here ∙ sym (map-append shown xs (x ∷ []))

-- the same of a row that begins with all columns of a job but its extra lines
pub begins : {row : Row} {at : ℕ} {v : Value} (job : JobFields) (behind : Row) → row ≡ brief_shown job ++ behind → nat_lt at 19 ≡ true → column (brief_shown job ++ behind) at ≡ v → HasValue row at v
begins {at} job behind is low there = has_value is (omega (arith, ltb-true at 19 low, length-append (brief_shown job) behind)) there

-- a lawful job is lawful without its extra lines
pub brief_lawful : (job : JobFields) → IsLawful job → IsLawful (brief job)
brief_lawful job h = ap (λ b. b && true) (and_parts _ _ h).0

-- what is made of fields has them
pub made : (f : JobFields) (r : Option JobFields) (j : JobFields) → r ≡ (if is_lawful f then Some f else None) → r ≡ Some j → j ≡ f
made f r j new is =
    (elim (is_lawful f) as (λ b. Some j ≡ (if b then Some f else None) → j ≡ f) [ true ↦ same_Some j f | false ↦ λ no. absurd cc ]) (sym is ∙ new)

-- fields of a lawful job are a job
pub not_none : (f g : JobFields) (r : Option JobFields) → r ≡ (if is_lawful f then Some f else None) → f ≡ g → IsLawful g → r ≡ None → ⊥
not_none f g r new same lawful is = let yes : is_lawful f ≡ true = ap is_lawful same ∙ lawful in none-some f (sym is ∙ new ∙ ap (λ b. if b then Some f else None) yes)

-- the numbers of a lawful job fit their columns
pub record Fits (job : JobFields) : Type 0 where
  pub number : job.job < 2 ^ 32
  pub npages : job.npages < 2 ^ 16
  pub totpages : job.totpages < 2 ^ 16
  pub ntries : job.ntries < 2 ^ 16
  pub tottries : job.tottries < 2 ^ 16
  pub maxtries : job.maxtries < 2 ^ 16
  pub ndials : job.ndials < 2 ^ 16
  pub totdials : job.totdials < 2 ^ 16
  pub maxdials : job.maxdials < 2 ^ 16
  pub next : job.next < 2 ^ 32

-- a lawful job's numbers fit their columns
pub fits : (job : JobFields) → IsLawful job → Fits job
fits job h = record {
  number = grind (arith, nat_tests);
  npages = grind (arith, nat_tests);
  totpages = grind (arith, nat_tests);
  ntries = grind (arith, nat_tests);
  tottries = grind (arith, nat_tests);
  maxtries = grind (arith, nat_tests);
  ndials = grind (arith, nat_tests);
  totdials = grind (arith, nat_tests);
  maxdials = grind (arith, nat_tests);
  next = grind (arith, nat_tests);
}

-- a lawful job has a lawful kill time
pub killtime_of : (job : JobFields) → IsLawful job → is_lawful_killtime job.killtime ≡ true
killtime_of job h = (and_parts _ _ (and_parts _ _ (and_parts _ _ (and_parts _ _ (and_parts _ _ (and_parts _ _ h).0).0).0).0).0).1

-- a job with the fields of another is the other
pub same_fields : (j : JobFields) (job : ℕ) (dial : List ℕ) (modem : List ℕ) (jobtag : List ℕ) (tts : ℕ) (killtime : Option ℕ) (priority : ℕ) (npages : ℕ) (totpages : ℕ) (ntries : ℕ) (tottries : ℕ) (maxtries : ℕ) (ndials : ℕ) (totdials : ℕ) (maxdials : ℕ) (phase : Phase) (wish : Wish) (next : ℕ) (status : List ℕ) (extra : List Pair)
    → job ≡ j.job → dial ≡ j.dial → modem ≡ j.modem → jobtag ≡ j.jobtag → tts ≡ j.tts → killtime ≡ j.killtime → priority ≡ j.priority → npages ≡ j.npages → totpages ≡ j.totpages → ntries ≡ j.ntries → tottries ≡ j.tottries → maxtries ≡ j.maxtries → ndials ≡ j.ndials → totdials ≡ j.totdials → maxdials ≡ j.maxdials → phase ≡ j.phase → wish ≡ j.wish → next ≡ j.next → status ≡ j.status → extra ≡ j.extra
    → ◌≡◌ {A = JobFields} (record { job = job; dial = dial; modem = modem; jobtag = jobtag; tts = tts; killtime = killtime; priority = priority; npages = npages; totpages = totpages; ntries = ntries; tottries = tottries; maxtries = maxtries; ndials = ndials; totdials = totdials; maxdials = maxdials; phase = phase; wish = wish; next = next; status = status; extra = extra }) j
same_fields j job dial modem jobtag tts killtime priority npages totpages ntries tottries maxtries ndials totdials maxdials phase wish next status extra e0 e1 e2 e3 e4 e5 e6 e7 e8 e9 e10 e11 e12 e13 e14 e15 e16 e17 e18 e19 = rw (e0, e1, e2, e3, e4, e5, e6, e7, e8, e9, e10, e11, e12, e13, e14, e15, e16, e17, e18, e19) refl

-- a row that begins with what a job shows has the fields of no other with its kill time, phase and wish
pub brief_of : (row : Row) (j f : JobFields) (behind : Row) → row ≡ brief_shown j ++ behind → HasValues row 0 (brief_shown f)
    → f.killtime ≡ j.killtime → f.phase ≡ j.phase → f.wish ≡ j.wish → f ≡ record j { extra = f.extra }
brief_of row j f behind is has killtime phase wish =
    let same : brief_shown f ≡ brief_shown j = sym (first_from row (brief_shown f) 0 has) ∙ ap (take 19) is in
    same_fields (record j { extra = f.extra }) _ _ _ _ _ _ _ _ _ _ _ _ _ _ _ _ _ _ _ _
    (cc) (cc) (cc) (cc) (cc) killtime (cc) (cc) (cc) (cc) (cc) (cc) (cc) (cc) (cc) phase wish (cc) (cc) refl

-- what a change of a job is told
abbrev pub change_params : JobFields → Row
change_params f =
    number f.job ∷ Text f.modem ∷ Text f.jobtag ∷ Text f.status ∷ number f.tts ∷ number (unwrap_or f.killtime 0) ∷ number f.priority ∷ number f.npages ∷ number f.ntries ∷ number f.tottries ∷ number f.maxtries
    ∷ number f.ndials ∷ number f.totdials ∷ number f.maxdials ∷ number (phase_number f.phase) ∷ number (wish_number f.wish) ∷ number f.next ∷ []

-- values that are those of a job are its row
pub shown_by : (j : JobFields) (dial modem jobtag status extra : List ℕ) (tts killtime priority npages totpages ntries tottries maxtries ndials totdials maxdials phase wish : ℕ)
    → dial ≡ j.dial → modem ≡ j.modem → jobtag ≡ j.jobtag → status ≡ j.status → extra ≡ printed j.extra → tts ≡ j.tts → killtime ≡ unwrap_or j.killtime 0 → priority ≡ j.priority → npages ≡ j.npages → totpages ≡ j.totpages → ntries ≡ j.ntries → tottries ≡ j.tottries → maxtries ≡ j.maxtries → ndials ≡ j.ndials → totdials ≡ j.totdials → maxdials ≡ j.maxdials → phase ≡ phase_number j.phase → wish ≡ wish_number j.wish
    → number j.job ∷ Text dial ∷ Text modem ∷ Text jobtag ∷ Text status ∷ number tts ∷ number killtime ∷ number priority ∷ number npages ∷ number totpages ∷ number ntries ∷ number tottries ∷ number maxtries ∷ number ndials ∷ number totdials ∷ number maxdials ∷ number phase ∷ number wish ∷ number j.next ∷ Text extra ∷ [] ≡ job_shown j
shown_by j dial modem jobtag status extra tts killtime priority npages totpages ntries tottries maxtries ndials totdials maxdials phase wish e0 e1 e2 e3 e4 e5 e6 e7 e8 e9 e10 e11 e12 e13 e14 e15 e16 e17 = rw (e0, e1, e2, e3, e4, e5, e6, e7, e8, e9, e10, e11, e12, e13, e14, e15, e16, e17) refl

-- values that are those of a job are what a change of it is told
pub changed_by : (j : JobFields) (modem jobtag status : List ℕ) (tts killtime priority npages ntries tottries maxtries ndials totdials maxdials phase wish : ℕ)
    → modem ≡ j.modem → jobtag ≡ j.jobtag → status ≡ j.status → tts ≡ j.tts → killtime ≡ unwrap_or j.killtime 0 → priority ≡ j.priority → npages ≡ j.npages → ntries ≡ j.ntries → tottries ≡ j.tottries → maxtries ≡ j.maxtries → ndials ≡ j.ndials → totdials ≡ j.totdials → maxdials ≡ j.maxdials → phase ≡ phase_number j.phase → wish ≡ wish_number j.wish
    → number j.job ∷ Text modem ∷ Text jobtag ∷ Text status ∷ number tts ∷ number killtime ∷ number priority ∷ number npages ∷ number ntries ∷ number tottries ∷ number maxtries ∷ number ndials ∷ number totdials ∷ number maxdials ∷ number phase ∷ number wish ∷ number j.next ∷ [] ≡ change_params j
changed_by j modem jobtag status tts killtime priority npages ntries tottries maxtries ndials totdials maxdials phase wish e0 e1 e2 e3 e4 e5 e6 e7 e8 e9 e10 e11 e12 e13 e14 = rw (e0, e1, e2, e3, e4, e5, e6, e7, e8, e9, e10, e11, e12, e13, e14) refl

-- no more pages of a lawful job are sent than it has
pub sent_low : (job : JobFields) → IsLawful job → job.npages ≤ job.totpages
sent_low job h =
    grind (arith, nat_tests)
