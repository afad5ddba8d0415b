-- What is read is lawful: orders and alterations keep their limits.
use Rattle.std.proofs.Common.{◌≡◌, ℕ, ◌≤◌, Bool, true, false, cond, ◌&&◌, eqb, leb, List, refl, subst, arith}
use Rattle.std.specs.Prelude.{Option, Some, None, Result, Ok, Err, IfOk, IfSome, option_and_then, codes}
use Rattle.std.specs.List.{list_all}
use Rattle.std.specs.Option.{option_map, ok_or}
use Rattle.std.proofs.lemmas.Bool.{and_parts, leb-true, eqb-false}
use Rattle.fax_job.specs.declared.alter.Alter.{Alter}
use Rattle.fax_job.specs.declared.order.Order.{Order}
use Rattle.fax_job.specs.declared.order.OrderFault.{OrderFault}
use Rattle.fax_job.specs.declared.order.OrderFault.TheVariants.{NotAlterable}
use Rattle.fax_job.specs.declared.refusal.Refusal.TheVariants.{Unavailable}
use Rattle.fax_job.specs.Alter.{if_there, is_alterable, changes_of, alter_of}
use Rattle.fax_job.specs.Job.{is_lawful, are_lawful_pages, are_lawful_tries, are_lawful_dials}
use Rattle.fax_value.specs.Limits.{last_next, most_attempts, most_pages}
use Rattle.fax_value.specs.Number.{number_of}
use Rattle.fax_job.specs.Order.{◌>>=◌, modem_in, jobtag_in, tts_in, killtime_in, priority_in, limit_in, maxtries_in, maxdials_in, number_within, order_of}
use Rattle.fax_job.specs.Pair.{Pair, value_of, are_unknown}
use Rattle.fax_core.specs.Ask as machine
use Rattle.fax_core.specs.Decisions.{new_job}
use Rattle.fax_core.specs.Job.{Job, fields_of}
use Rattle.fax_core.proofs.NewJobLemmas.{read_recorded}
use Rattle.fax_ask.specs.Ask.{HasLimits}

-- ---- orders

-- a job that is let pass is lawful
lawful_by : (j : Job) (lawful : Bool) → cond lawful (Ok j) (Err Unavailable) ≡ Ok j → lawful ≡ true
lawful_by j true e = refl
lawful_by j false e = absurd cc

-- a number that passes a test of at least 1 is that
least_of : (front first last : Bool) (n : ℕ) → ((front && leb 1 n) && last) ≡ true → 1 ≤ n
least_of front first last n h = leb-true 1 n (and_parts front (leb 1 n) (and_parts (front && leb 1 n) last h).0).1

-- an order that is read has its limits
pub order_limits : (lines : List Pair) (order : Order) → order_of lines ≡ Ok order → machine.HasLimits order
order_limits lines order e =
    let new = new_job order 1 0 in
    let f = fields_of new in
    let all : is_lawful f ≡ true = lawful_by new (is_lawful f) (read_recorded lines order 1 0 e (omega arith) (omega arith)) in
    let a = and_parts _ (are_unknown f.extra) all in
    let b = and_parts _ (leb f.next last_next) a.0 in
    let c = and_parts _ (are_lawful_dials f) b.0 in
    let d = and_parts _ (are_lawful_tries f) c.0 in
    let p = and_parts _ (are_lawful_pages f) d.0 in
    record {
      pages = least_of (leb 0 order.totpages) true (leb order.totpages most_pages) order.totpages p.1;
      tries = least_of (leb 0 0 && leb 0 order.maxtries) true (leb order.maxtries most_attempts) order.maxtries d.1;
      dials = least_of (leb 0 0 && leb 0 order.maxdials) true (leb order.maxdials most_attempts) order.maxdials c.1;
    }

-- ---- alterations

abbrev IsLimit : ℕ → Type 0
IsLimit n = (1 ≤ n) × (n ≤ most_attempts)

module _ (default : ℕ) (fault : OrderFault) (lawful : IsLimit default) where
  -- a limit up to the most is lawful, where 0 is the default
  limit_of_number : (number : ℕ) (none : Bool) → eqb number 0 ≡ none → leb number most_attempts ≡ true → IsLimit (cond none default number)
  limit_of_number number true e h = lawful
  limit_of_number number false e h = let not_zero = eqb-false number 0 e in (omega arith, leb-true number 1000 h)

  -- so is one that may be too great
  limit_within : (number : ℕ) (within : Bool) → leb number most_attempts ≡ within → IfOk (ok_or (option_map (λ limit. cond (eqb limit 0) default limit) (cond within (Some number) None)) fault) IsLimit
  limit_within number false h = tt
  limit_within number true h = limit_of_number number (eqb number 0) refl h

  -- so is what is read of a limit
  limit_of : (empty : Bool) (number : Option ℕ) → IfOk (ok_or (cond empty (Some default) (option_map (λ limit. cond (eqb limit 0) default limit) (option_and_then (λ n. cond (leb n most_attempts) (Some n) None) number))) fault) IsLimit
  limit_of true number = lawful
  limit_of false None = tt
  limit_of false (Some n) = limit_within n (leb n most_attempts) refl

-- the limit of tries of a value is lawful
maxtries_is : (value : List ℕ) → IfOk (maxtries_in value) IsLimit
unfolding maxtries_in limit_in number_within
maxtries_is value = limit_of 3 _ (omega arith, omega arith) _ (number_of value)

-- and that of dials
maxdials_is : (value : List ℕ) → IfOk (maxdials_in value) IsLimit
unfolding maxdials_in limit_in number_within
maxdials_is value = limit_of 12 _ (omega arith, omega arith) _ (number_of value)

-- what is said of a limit is lawful
there_by : (r : Result ℕ OrderFault) → IfOk r IsLimit → IfOk (r >>= λ x. Ok (Some x)) (λ o. IfSome o IsLimit)
there_by (Ok x) h = h
there_by (Err f) h = tt

-- so is one that may be said
there : (value_in : List ℕ → Result ℕ OrderFault) (each : (value : List ℕ) → IfOk (value_in value) IsLimit) (o : Option (List ℕ)) → IfOk (if_there value_in o) (λ x. IfSome x IsLimit)
there value_in each None = tt
there value_in each (Some value) = there_by (value_in value) (each value)

-- an alteration has its limits where they are lawful
fit : (modem jobtag : Result (Option (List ℕ)) OrderFault) (tts killtime : Result (Option (Option ℕ)) OrderFault) (priority maxtries maxdials : Result (Option ℕ) OrderFault)
    → IfOk maxtries (λ x. IfSome x IsLimit) → IfOk maxdials (λ x. IfSome x IsLimit)
    → IfOk (modem >>= λ m. jobtag >>= λ j. tts >>= λ t. killtime >>= λ k. priority >>= λ p. maxtries >>= λ a. maxdials >>= λ b. Ok (record { modem = m; jobtag = j; tts = t; killtime = k; priority = p; maxtries = a; maxdials = b })) HasLimits
fit (Err e) j t k p a b ha hb = tt
fit (Ok m) (Err e) t k p a b ha hb = tt
fit (Ok m) (Ok j) (Err e) k p a b ha hb = tt
fit (Ok m) (Ok j) (Ok t) (Err e) p a b ha hb = tt
fit (Ok m) (Ok j) (Ok t) (Ok k) (Err e) a b ha hb = tt
fit (Ok m) (Ok j) (Ok t) (Ok k) (Ok p) (Err e) b ha hb = tt
fit (Ok m) (Ok j) (Ok t) (Ok k) (Ok p) (Ok a) (Err e) ha hb = tt
fit (Ok m) (Ok j) (Ok t) (Ok k) (Ok p) (Ok a) (Ok b) ha hb = record { tries = ha; dials = hb }

-- changes that are read have their limits
changes_fit : (lines : List Pair) → IfOk (changes_of lines) HasLimits
unfolding changes_of
changes_fit lines =
    fit (if_there modem_in (value_of (codes "modem") lines)) (if_there jobtag_in (value_of (codes "jobtag") lines)) (if_there tts_in (value_of (codes "tts") lines)) (if_there killtime_in (value_of (codes "killtime") lines)) (if_there priority_in (value_of (codes "priority") lines)) (if_there maxtries_in (value_of (codes "maxtries") lines)) (if_there maxdials_in (value_of (codes "maxdials") lines))
    (there maxtries_in maxtries_is (value_of (codes "maxtries") lines)) (there maxdials_in maxdials_is (value_of (codes "maxdials") lines))

-- so they have behind a test
tested : (lines : List Pair) (alterable : Bool) → IfOk (changes_of lines) HasLimits → IfOk (cond alterable (changes_of lines) (Err NotAlterable)) HasLimits
tested lines true h = h
tested lines false h = tt

-- so an alteration has that is read
alter_fit : (lines : List Pair) → IfOk (alter_of lines) HasLimits
unfolding alter_of
alter_fit lines = tested lines (list_all (λ (p : Pair). is_alterable p.tag) lines) (changes_fit lines)

-- the same of one that was read
pub alter_limits : (lines : List Pair) (changes : Alter) → alter_of lines ≡ Ok changes → HasLimits changes
alter_limits lines changes e = subst (λ (r : Result Alter OrderFault). IfOk r HasLimits) e (alter_fit lines)
