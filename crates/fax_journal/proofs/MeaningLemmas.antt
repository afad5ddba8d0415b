-- What a database means is one thing.
use Rattle.std.proofs.Common.{◌≡◌, inl, inr, ℕ, zero, suc, List, [], ◌∷◌, ◌++◌, length, Option, Some, None, refl, sym, ap, ap₂, subst, ◌∙◌, arith}
use Rattle.sqlite.specs.Effect.{Database, IsDatabase}
use Rattle.sqlite.specs.Order.{Row}
use Rattle.fax_job.specs.declared.job.Call.{Call}
use Rattle.fax_job.specs.declared.job.Call.TheVariants.{Connected, Busy, NoAnswer, NoCarrier, Other}
use Rattle.fax_layout.proofs.DatabaseLemmas.{same_database}
use Rattle.fax_tables.specs.Row.{call_number}
use Rattle.fax_worker.specs.Worker.{Held}
use Rattle.fax_journal.specs.Entry.{Entry, Request, entry_columns, entry_rows, held_columns, key_columns, request_columns}
use Rattle.fax_journal.specs.Journal.{Answers, AreAnswers, FileMeans, answer_columns}
use Rattle.fax_journal.specs.Meaning.{FilesHaveOneMeaning, FoundMeansTheSame}
use Rattle.fax_journal.specs.Schema.{answers_tree}
use Rattle.fax_journal.proofs.AdoptLemmas.{bare_of, new_of, ours_of}
use Rattle.fax_journal.proofs.FormLemmas.{request_length}
use Rattle.fax_journal.proofs.ReadingLemmas.{same_entry, same_request}

-- ---- columns are of one value

-- the call of a number
call_of : ℕ → Option Call
call_of (suc zero) = Some Connected
call_of (suc (suc zero)) = Some Busy
call_of (suc (suc (suc zero))) = Some NoAnswer
call_of (suc (suc (suc (suc zero)))) = Some NoCarrier
call_of (suc (suc (suc (suc (suc zero))))) = Some Other
call_of n = None

decoded : (call : Option Call) → call_of (call_number call) ≡ call
unfolding call_of
decoded None = refl
decoded (Some Connected) = refl
decoded (Some Busy) = refl
decoded (Some NoAnswer) = refl
decoded (Some NoCarrier) = refl
decoded (Some Other) = refl

one_call : (a b : Option Call) → call_number a ≡ call_number b → a ≡ b
one_call a b is = sym (decoded a) ∙ ap call_of is ∙ decoded b

one_key : (a b : Option (List ℕ)) → key_columns a ≡ key_columns b → a ≡ b
one_key None None is = refl
one_key None (Some y) is = absurd (let e : ◌≡◌ {A = ℕ} 0 1 = cc in omega (arith, e))
one_key (Some x) None is = absurd (let e : ◌≡◌ {A = ℕ} 1 0 = cc in omega (arith, e))
one_key (Some x) (Some y) is = let same : x ≡ y = cc in ap Some same

one_request : (a b : Option Request) → request_columns a ≡ request_columns b → a ≡ b
one_request None None is = refl
one_request None (Some s) is = absurd (let e : ◌≡◌ {A = ℕ} 0 1 = cc in omega (arith, e))
one_request (Some r) None is = absurd (let e : ◌≡◌ {A = ℕ} 1 0 = cc in omega (arith, e))
one_request (Some r) (Some s) is =
    let number_is : r.number ≡ s.number = cc in
    let path_is : r.path ≡ s.path = cc in
    let body_is : r.body ≡ s.body = cc in
    let key_is : key_columns r.key ≡ key_columns s.key = cc in
    ap Some (same_request s r.number r.path r.body r.key number_is path_is body_is (one_key r.key s.key key_is))

same_held : (h : Held) (grant job : ℕ) (dial : List ℕ) (first_page last_page : ℕ) (call : Option Call) (pages : ℕ) → grant ≡ h.grant → job ≡ h.job → dial ≡ h.dial → first_page ≡ h.first_page → last_page ≡ h.last_page → call ≡ h.call → pages ≡ h.pages
    → ◌≡◌ {A = Held} (record { grant = grant; job = job; dial = dial; first_page = first_page; last_page = last_page; call = call; pages = pages }) h
same_held h grant job dial first_page last_page call pages e0 e1 e2 e3 e4 e5 e6 = rw (e0, e1, e2, e3, e4, e5, e6) refl

one_held : (a b : Option Held) → held_columns a ≡ held_columns b → a ≡ b
one_held None None is = refl
one_held None (Some h) is = absurd (let e : ◌≡◌ {A = ℕ} 0 1 = cc in omega (arith, e))
one_held (Some g) None is = absurd (let e : ◌≡◌ {A = ℕ} 1 0 = cc in omega (arith, e))
one_held (Some g) (Some h) is =
    let grant_is : g.grant ≡ h.grant = cc in
    let job_is : g.job ≡ h.job = cc in
    let dial_is : g.dial ≡ h.dial = cc in
    let first_is : g.first_page ≡ h.first_page = cc in
    let last_is : g.last_page ≡ h.last_page = cc in
    let call_is : call_number g.call ≡ call_number h.call = cc in
    let pages_is : g.pages ≡ h.pages = cc in
    ap Some (same_held h g.grant g.job g.dial g.first_page g.last_page g.call g.pages grant_is job_is dial_is first_is last_is (one_call g.call h.call call_is) pages_is)

-- two lists of one length, with others after them
split : (a b c d : Row) → length a ≡ length c → a ++ b ≡ c ++ d → (a ≡ c) × (b ≡ d)
split [] b [] d long is = (refl, is)
split [] b (z ∷ zs) d long is = absurd (omega (arith, long))
split (x ∷ xs) b [] d long is = absurd (omega (arith, long))
split (x ∷ xs) b (z ∷ zs) d long is =
    let first : x ≡ z = cc in
    let rest : xs ++ b ≡ zs ++ d = cc in
    let both = split xs b zs d (omega (arith, long)) rest in
    (ap₂ ◌∷◌ first both.0, both.1)

one_entry : (e f : Entry) → entry_columns e ≡ entry_columns f → e ≡ f
one_entry e f is =
    let client_is : e.client ≡ f.client = cc in
    let last_is : e.last ≡ f.last = cc in
    let rest : request_columns e.unanswered ++ held_columns e.held ≡ request_columns f.unanswered ++ held_columns f.held = cc in
    let both = split (request_columns e.unanswered) (held_columns e.held) (request_columns f.unanswered) (held_columns f.held) (request_length e.unanswered ∙ sym (request_length f.unanswered)) rest in
    same_entry f e.client e.last e.unanswered e.held client_is last_is (one_request e.unanswered f.unanswered both.0) (one_held e.held f.held both.1)

one_of_rows : (e f : Option Entry) → entry_rows e ≡ entry_rows f → e ≡ f
one_of_rows None None is = refl
one_of_rows None (Some f) is = absurd (let no = is in cc)
one_of_rows (Some e) None is = absurd (let no = is in cc)
one_of_rows (Some e) (Some f) is = let columns : entry_columns e ≡ entry_columns f = cc in ap Some (one_entry e f columns)

-- ---- rows are of one answer under each key

-- an answer that is remembered by the one meaning is by the other
one_way : (kept other : Answers) (rows : List Row) → AreAnswers kept rows → AreAnswers other rows → (key v : List ℕ) → kept key ≡ Some v → other key ≡ Some v
one_way kept other rows was also key v is =
    let r = was.all key v is in
    let it = also.each r.0 r.1 in
    let columns : answer_columns key v ≡ answer_columns it.0 it.1 = sym r.2 ∙ it.2 in
    let key_is : key ≡ it.0 = cc in
    let answer_is : v ≡ it.1 = cc in
    ap other key_is ∙ it.3 ∙ ap Some (sym answer_is)

one_answer : (kept other : Answers) (rows : List Row) → AreAnswers kept rows → AreAnswers other rows → (key : List ℕ) → kept key ≡ other key
one_answer kept other rows was also key = by (kept key) (other key) refl refl
  where
    by : (o p : Option (List ℕ)) → kept key ≡ o → other key ≡ p → kept key ≡ other key
    by None None of_kept of_other = of_kept ∙ sym of_other
    by (Some v) p of_kept of_other = of_kept ∙ sym (one_way kept other rows was also key v of_kept)
    by None (Some w) of_kept of_other = one_way other kept rows also was key w of_other ∙ sym of_other

-- ---- of a file

pub files_have_one_meaning : FilesHaveOneMeaning
files_have_one_meaning db e f kept other (inl new) second =
    let it = new_of f other db new.schema second in (new.entry ∙ sym it.entry, λ key. new.answers key ∙ sym (it.answers key))
files_have_one_meaning db e f kept other (inr (inl bare)) second =
    let it = bare_of f other db bare.schema second in (one_of_rows e f (sym bare.entry ∙ it.entry), λ key. bare.answers key ∙ sym (it.answers key))
files_have_one_meaning db e f kept other (inr (inr ours)) second =
    let it = ours_of f other db ours.schema second in (one_of_rows e f (sym ours.entry ∙ it.entry), one_answer kept other (db.trees answers_tree) ours.answers it.answers)

sound_of : (e : Option Entry) (kept : Answers) (db : Database) → FileMeans e kept db → IsDatabase db
sound_of e kept db (inl new) = new.sound
sound_of e kept db (inr (inl bare)) = bare.sound
sound_of e kept db (inr (inr ours)) = ours.sound

pub found_means_the_same : FoundMeansTheSame
found_means_the_same db e kept found it sound trees = subst (FileMeans e kept) (same_database it.0 db (it.1 ∙ sym trees) (sound_of e kept it.0 it.2) sound) it.2
