-- Rows have one meaning: each record stands in one row, and each row has one record.
use Rattle.std.proofs.Common.{◌≡◌, ℕ, zero, suc, ◌≤◌, ◌==◌, pos, Bool, true, false, List, [], ◌∷◌, map, drop, unwrap_or, Option, Some, None, if◌then◌else◌, All, refl, sym, ap, ap₂, subst, ◌∙◌, arith, ℤ}
use Rattle.std.proofs.Math.Path.{fun_ext}
use Rattle.std.proofs.lemmas.List.Elements.{All-head, All-tail}
use Rattle.sqlite.specs.Effect.{Database}
use Rattle.sqlite.specs.Order.{Row, column}
use Rattle.sqlite.specs.declared.types.Value.{Value}
use Rattle.sqlite.specs.declared.types.Value.TheVariants.{Blob, Int, Text}
use Rattle.fax_job.specs.Job.{is_lawful_killtime}
use Rattle.fax_value.specs.Name.{IsName}
use Rattle.fax_job.specs.Spelling.{printed}
use Rattle.fax_job.specs.declared.job.Call.{Call}
use Rattle.fax_job.specs.declared.job.Call.TheVariants.{Connected, Busy, NoAnswer, NoCarrier, Other}
use Rattle.fax_job.specs.declared.job.Phase.{Phase}
use Rattle.fax_job.specs.declared.job.Phase.TheVariants.{Held, Waiting, Granted, Done, Failed}
use Rattle.fax_job.specs.declared.job.Wish.{Wish}
use Rattle.fax_job.specs.declared.job.Wish.TheVariants.{Go, Hold, Kill}
use Rattle.fax_lines.proofs.PrintedLemmas.{printed_spells}
use Rattle.fax_lines.proofs.TextLemmas.{spelled_alone}
use Rattle.fax_lines.specs.Spells.{Spells}
use Rattle.fax_core.proofs.FitsLemmas.{job_again}
use Rattle.fax_core.specs.Job.{Job, fields_of, job_of}
use Rattle.fax_core.specs.Ledger.{Ledger, IsLawfulEntry}
use Rattle.fax_core.specs.Queue.{Queue, Entry}
use Rattle.fax_core.specs.declared.times.Times.{Times}
use Rattle.fax_core.specs.declared.grants.Grant.{Grant}
use Rattle.fax_schema.specs.Schema.{down_tree, floors_tree, grants_tree, jobs_tree, meta_tree, replies_tree, times_tree}
use Rattle.fax_store.specs.Meaning.{RowsHaveOneMeaning}
use Rattle.fax_tables.proofs.RowLemmas.{killtime_of, same_fields}
use Rattle.fax_tables.specs.Job.{IsLawfulJob}
use Rattle.fax_tables.specs.Row.{call_columns, call_number, down_columns, entry_columns, grant_row, job_row, meta_row, phase_number, times_row, wish_number}
use Rattle.fax_tables.specs.Tables.{AreCounted, AreLawfulTimes, IsLawfulGrant, TablesMean}

-- ---- values

-- the text, the bytes, and the number of a value
abbrev text_in : Value → List ℕ
text_in (Text text) = text
text_in other = []

abbrev blob_in : Value → List ℕ
blob_in (Blob bytes) = bytes
blob_in other = []

abbrev whole : ℤ → ℕ
whole (pos n) = n
whole other = 0

abbrev number_in : Value → ℕ
number_in (Int n) = whole n
number_in other = 0

-- ---- what a number stands for

abbrev phase_at : ℕ → Phase
phase_at n = if n == 0 then Held else if n == 1 then Waiting else if n == 2 then Granted else if n == 3 then Done else Failed

phase_back : (phase : Phase) → phase_at (phase_number phase) ≡ phase
phase_back Held = refl
phase_back _ = refl

abbrev wish_at : ℕ → Wish
wish_at n = if n == 0 then Go else if n == 1 then Hold else Kill

wish_back : (wish : Wish) → wish_at (wish_number wish) ≡ wish
wish_back Go = refl
wish_back _ = refl

abbrev call_at : ℕ → Option Call
call_at n = if n == 0 then None else if n == 1 then Some Connected else if n == 2 then Some Busy else if n == 3 then Some NoAnswer else if n == 4 then Some NoCarrier else Some Other

call_back : (call : Option Call) → call_at (call_number call) ≡ call
call_back None = refl
call_back (Some Connected) = refl
call_back (Some _) = refl

-- a number stands for one of them
one_of : {X : Type 0} (number : X → ℕ) (at : ℕ → X) → ((x : X) → at (number x) ≡ x) → (x y : X) → number x ≡ number y → x ≡ y
one_of number at back x y is = sym (back x) ∙ ap at is ∙ back y

-- 0 is written for no kill time, and no kill time is 0
one_killtime : (a b : Option ℕ) → is_lawful_killtime a ≡ true → is_lawful_killtime b ≡ true → unwrap_or a 0 ≡ unwrap_or b 0 → a ≡ b
one_killtime None None lawful other is = refl
one_killtime None (Some t) lawful other is = absurd (let no = rw (← is) at other in cc)
one_killtime (Some t) None lawful other is = absurd (let no = rw is at lawful in cc)
one_killtime (Some t) (Some u) lawful other is = ap Some is

-- ---- records

-- a row has one job
one_job : (a b : Job) → IsLawfulJob a → IsLawfulJob b → job_row (fields_of a) ≡ job_row (fields_of b) → a ≡ b
one_job a b lawful other is =
    let f = fields_of a in
    let g = fields_of b in
    let number = λ (at : ℕ). ap (λ row. number_in (column row at)) is in
    let text = λ (at : ℕ). ap (λ row. text_in (column row at)) is in
    let killtime = one_killtime f.killtime g.killtime (killtime_of f lawful.limits) (killtime_of g other.limits) (number 8) in
    let extra = spelled_alone (printed f.extra) f.extra g.extra (printed_spells f.extra lawful.formed.extra)
    (subst (λ text. Spells text g.extra) (sym (text 6)) (printed_spells g.extra other.formed.extra)) in
    let phase = one_of phase_number phase_at phase_back f.phase g.phase (number 18) in
    let wish = one_of wish_number wish_at wish_back f.wish g.wish (number 19) in
    let same : f ≡ g =
    same_fields g f.job f.dial f.modem f.jobtag f.tts f.killtime f.priority f.npages f.totpages f.ntries f.tottries f.maxtries f.ndials f.totdials f.maxdials f.phase f.wish f.next f.status f.extra
    (number 0) (text 2) (text 3) (text 4) (number 7) killtime (number 9) (number 10) (number 11) (number 12) (number 13) (number 14) (number 15) (number 16) (number 17) phase wish (number 20) (text 5) extra in
    sym (job_again a lawful.pages) ∙ ap job_of same ∙ job_again b other.pages

-- a row has one grant
open_back : (is_open : Bool) → ((if is_open then 0 else 1) == 0) ≡ is_open
open_back true = refl
open_back false = refl

one_grant : (a b : Grant) → grant_row a ≡ grant_row b → a ≡ b
one_grant a b is =
    let number = λ (at : ℕ). ap (λ row. number_in (column row at)) is in
    let call = one_of call_number call_at call_back a.call b.call (number 6) in
    let is_open = sym (open_back a.is_open) ∙ ap (λ n. n == 0) (number 8) ∙ open_back b.is_open in
    λ i. record {
      number = number 0 i;
      job = number 2 i;
      modem = text_in (column (is i) 3);
      first_page = number 4 i;
      last_page = number 5 i;
      call = call i;
      confirmed = number 7 i;
      is_open = is_open i;
    }

-- and one kept reply
pub one_entry : (a b : Entry) → entry_columns a ≡ entry_columns b → a ≡ b
one_entry a b is = λ i. record {
  client = text_in (column (is i) 0);
  number = number_in (column (is i) 1);
  said = blob_in (column (is i) 2);
  status = number_in (column (is i) 3);
  body = blob_in (column (is i) 4);
}

-- and one job's times
one_times : (a b : Times) → times_row a ≡ times_row b → a ≡ b
one_times a b is = λ i. record {
  job = number_in (column (is i) 0);
  submitted = number_in (column (is i) 2);
  ended = number_in (column (is i) 3);
}

-- rows have one list of records
one_of_each : {X : Type 0} (show : X → Row) (Lawful : X → Type 0) → ((a b : X) → Lawful a → Lawful b → show a ≡ show b → a ≡ b)
    → (xs ys : List X) → All Lawful xs → All Lawful ys → map show xs ≡ map show ys → xs ≡ ys
one_of_each show Lawful each [] [] are others is = refl
one_of_each show Lawful each [] (y ∷ ys) are others is = absurd cc
one_of_each show Lawful each (x ∷ xs) [] are others is = absurd cc
one_of_each show Lawful each (x ∷ xs) (y ∷ ys) are others is =
    let here : show x ≡ show y = cc in
    let behind : map show xs ≡ map show ys = cc in
    ap₂ ◌∷◌ (each x y (All-head Lawful x xs are) (All-head Lawful y ys others) here) (one_of_each show Lawful each xs ys (All-tail Lawful x xs are) (All-tail Lawful y ys others) behind)

-- ---- floors

-- where one of two counts of the same rows isn't 0, the other is the same
counted_once : (count other : List ℕ → ℕ) (columns : List Row) → AreCounted count columns → AreCounted other columns → (text : List ℕ) → 1 ≤ count text → count text ≡ other text
counted_once count other columns are others text some =
    let it = others.each (call_columns text (count text)) (are.all text some) in
    let same : text ≡ it.0 = ap (λ row. text_in (column row 0)) it.1 in
    ap (λ row. number_in (column row 1)) it.1 ∙ ap other (sym same)

-- so the same rows count the same
counted_alike : (count other : List ℕ → ℕ) (columns : List Row) → AreCounted count columns → AreCounted other columns → (text : List ℕ) → count text ≡ other text
counted_alike count other columns are others text = by (count text) refl (other text) refl
  where
    by : (n : ℕ) → count text ≡ n → (o : ℕ) → other text ≡ o → count text ≡ other text
    by zero none zero nothing = none ∙ sym nothing
    by zero none (suc o) more = sym (counted_once other count columns others are text (omega (arith, more)))
    by (suc n) some o more = counted_once count other columns are others text (omega (arith, some))

-- ---- all tables

-- two databases with the same rows in all tables but `holds` and `calls` mean the same
same_meaning : (a b : Database) (m n : Queue) (k l : Ledger) → TablesMean a m k → TablesMean b n l
    → a.trees jobs_tree ≡ b.trees jobs_tree → a.trees grants_tree ≡ b.trees grants_tree → a.trees down_tree ≡ b.trees down_tree → a.trees replies_tree ≡ b.trees replies_tree
    → a.trees meta_tree ≡ b.trees meta_tree → a.trees floors_tree ≡ b.trees floors_tree → a.trees times_tree ≡ b.trees times_tree → (m ≡ n) × (k ≡ l)
same_meaning a b m n k l here there jobs grants down replies meta floors times =
    let row : meta_row m ∷ [] ≡ meta_row n ∷ [] = sym here.meta ∙ meta ∙ there.meta in
    let number = λ (at : ℕ). ap (λ rows. number_in (column (first rows) at)) row in
    let all_jobs : m.jobs ≡ n.jobs =
    one_of_each (λ j. job_row (fields_of j)) IsLawfulJob one_job m.jobs n.jobs here.lawful.jobs there.lawful.jobs (sym here.jobs ∙ jobs ∙ there.jobs) in
    let all_grants : m.grants ≡ n.grants = one_of_each grant_row IsLawfulGrant (λ x y _ _. one_grant x y) m.grants n.grants here.lawful.grants there.lawful.grants (sym here.grants ∙ grants ∙ there.grants) in
    let all_down : m.down ≡ n.down =
    one_of_each down_columns IsName (λ x y _ _ is. ap (λ row. text_in (column row 0)) is) m.down n.down here.lawful.down there.lawful.down (sym here.down ∙ ap (map (drop 1)) down ∙ there.down) in
    let all_replies : k.replies ≡ l.replies = one_of_each entry_columns IsLawfulEntry (λ x y _ _. one_entry x y) k.replies l.replies here.lawful.replies there.lawful.replies (sym here.replies ∙ ap (map (drop 1)) replies ∙ there.replies) in
    let all_times : m.times ≡ n.times = one_of_each times_row AreLawfulTimes (λ x y _ _. one_times x y) m.times n.times here.lawful.times there.lawful.times (sym here.times ∙ times ∙ there.times) in
    let counts = subst (AreCounted k.floor) (ap (map (drop 1)) floors) here.floors in
    let all_floors : k.floor ≡ l.floor = fun_ext (counted_alike k.floor l.floor _ counts there.floors) in (
      λ i. record { jobs = all_jobs i; grants = all_grants i; down = all_down i; times = all_times i; clock = number 2 i; next_job = number 3 i; next_grant = number 4 i },
      λ i. record { replies = all_replies i; floor = all_floors i },
    )
  where
    first : List Row → Row
    first [] = []
    first (r ∷ rows) = r

pub rows_have_one_meaning : RowsHaveOneMeaning
rows_have_one_meaning db m n k l here there =
    let a = here.same in
    let b = there.same in
    same_meaning here.full there.full m n k l here.means there.means
    (a.rows.0 ∙ sym b.rows.0) (a.grants ∙ sym b.grants) (a.rows.1.1.0 ∙ sym b.rows.1.1.0) (a.rows.1.1.1.0 ∙ sym b.rows.1.1.1.0)
    (a.meta ∙ sym b.meta) (a.floors ∙ sym b.floors) (a.times ∙ sym b.times)
