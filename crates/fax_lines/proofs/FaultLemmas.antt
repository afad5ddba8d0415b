-- A fault behind entries is what reading tells.
use Rattle.std.proofs.Common.{◌≡◌, ℕ, ◌+◌, Bool, true, false, cond, eqb, List, [], ◌∷◌, ◌++◌, length, refl, sym, ap, subst, ◌∙◌, append_assoc, length-append, inl, inr, arith}
use Rattle.std.specs.Prelude.{Option, Some, None, Result, Ok, Err, codes}
use Rattle.std.specs.List.{list_all}
use Rattle.std.proofs.lemmas.Bool.{and_right, eqb-true}
use Rattle.std.proofs.lemmas.List.{append-nil}
use Rattle.fax_job.specs.declared.lines.LineFault.{LineFault}
use Rattle.fax_job.specs.declared.lines.LineKind.{LineKind}
use Rattle.fax_job.specs.declared.lines.LineKind.TheVariants.{NotText, NoColon, BadTag, Twice, BadValue, OpenEnd, NoMemory}
use Rattle.fax_job.specs.Pair.{Pair, pair, has_tag}
use Rattle.fax_lines.specs.Reading.{lines, is_skipped, parts_of, at_parts, entry_of, begin_step, go_on_step, read_on, fault_at}
use Rattle.fax_value.specs.Blank.{without_blanks, is_blank, begins_with_blank}
use Rattle.fax_lines.specs.Spells.{Entry, Stated, entry_text, has_byte, Faces, Begins, HasBadPart, IsFault, IsFaultBehind, IsFirstFault, Spells, pairs}
use Rattle.fax_job.specs.Tag.{is_known}
use Rattle.fax_value.specs.Value.{is_plain, is_status_byte}
use Rattle.fax_lines.proofs.EntryLemmas.{continued, entry_lines, entry_lines_are, all_lines_are, Lacks-from}
use Rattle.fax_lines.proofs.FoundLemmas.{closed, last, continued_is, plain_blank}
use Rattle.fax_lines.proofs.LineLemmas.{at_colon_some, at_colon_none, before_backslash_some}
use Rattle.fax_lines.proofs.SpelledLemmas.{IsHead, begun, first_part, start_front, plain_append, plain_one, plain_of_status, bytes_mid, first_of_pair, passes}
use Rattle.fax_lines.proofs.TextLemmas.{Read, spelled}

-- ---- lines that begin a status

-- reading comes from the lines to those behind, with a status that goes on
record Opens (ls : List (List ℕ)) (n : ℕ) (seen : List Pair) (begun : Option (List ℕ)) (behind : List (List ℕ)) (value : List ℕ) (count : ℕ) : Type 0 where
  pub place : ℕ
  pub counted : place ≡ n + count
  pub same : read_on ls n seen begun ≡ read_on behind place seen (Some value)

record IsMore (v begun c w : List ℕ) : Type 0 where
  pub made : v ≡ begun ++ (c ++ w)
  pub plain : is_plain c ≡ true
  pub bytes : list_all is_status_byte v ≡ true

-- a line of the value that ends with a backslash, and those behind, open it
more_feed : (v begun c bs : List ℕ) (n : ℕ) (seen : List Pair) (X : List (List ℕ)) → is_plain c ≡ true → Opens (closed [] bs ++ X) (n + 1) seen (Some (begun ++ c ++ 10 ∷ [])) X v (length (closed [] bs)) → Opens ((c ++ 92 ∷ []) ∷ (closed [] bs ++ X)) n seen (Some begun) X v (length ((c ++ 92 ∷ []) ∷ closed [] bs))
unfolding read_on go_on_step
more_feed v begun c bs n seen X plain rest =
    record { place = rest.place; counted = omega (arith, rest.counted); same = rw (plain_append c (92 ∷ []) plain refl, before_backslash_some c) rest.same }

-- the next byte of the value, an LF or not, goes on opening it
more_by : (v begun c : List ℕ) (b : ℕ) (bs : List ℕ) (n : ℕ) (seen : List Pair) (X : List (List ℕ)) (t : Bool) → eqb b 10 ≡ t → IsMore v begun c (b ∷ bs) → cond t (last [] bs) (last (c ++ b ∷ []) bs) ≡ []
    → ((begun c : List ℕ) (n : ℕ) → IsMore v begun c bs → last c bs ≡ [] → Opens (closed c bs ++ X) n seen (Some begun) X v (length (closed c bs)))
    → Opens (cond t ((c ++ 92 ∷ []) ∷ closed [] bs) (closed (c ++ b ∷ []) bs) ++ X) n seen (Some begun) X v (length (cond t ((c ++ 92 ∷ []) ∷ closed [] bs) (closed (c ++ b ∷ []) bs)))
more_by v begun c b bs n seen X true e h over ih =
    let made : v ≡ (begun ++ c ++ 10 ∷ []) ++ bs = h.made ∙ ap (λ (x : ℕ). begun ++ (c ++ x ∷ bs)) (eqb-true b 10 e) ∙ sym (append_assoc (begun ++ c) (10 ∷ []) bs ∙ append_assoc begun c (10 ∷ bs)) in
    more_feed v begun c bs n seen X h.plain (ih (begun ++ c ++ 10 ∷ []) [] (n + 1) (record { made = made; plain = refl; bytes = h.bytes }) over)
more_by v begun c b bs n seen X false e h over ih =
    let byte : is_status_byte b ≡ true = bytes_mid (begun ++ c) b bs (ap (list_all is_status_byte) (append_assoc begun c (b ∷ bs) ∙ sym h.made) ∙ h.bytes) in
    ih begun (c ++ b ∷ []) n (record {
      made = h.made ∙ ap (λ (x : List ℕ). begun ++ x) (sym (append_assoc c (b ∷ []) bs));
      plain = plain_append c (b ∷ []) h.plain (plain_one b (plain_of_status b byte e));
      bytes = h.bytes;
    }) over

-- the lines of a value that ends with an LF open it, behind what it has begun with
more : (w v begun c : List ℕ) (n : ℕ) (seen : List Pair) (X : List (List ℕ)) → IsMore v begun c w → last c w ≡ [] → Opens (closed c w ++ X) n seen (Some begun) X v (length (closed c w))
unfolding closed last
more [] v begun c n seen X h over =
    let made : begun ≡ v = sym (append-nil begun) ∙ ap (λ (x : List ℕ). begun ++ x) (sym over ∙ sym (append-nil c)) ∙ sym h.made in
    record { place = n; counted = omega arith; same = ap (λ (x : List ℕ). read_on X n seen (Some x)) made }
more (b ∷ bs) v begun c n seen X h over = more_by v begun c b bs n seen X (eqb b 10) refl h over (λ begun c n h over. more bs v begun c n seen X h over)

record IsStart (v c w : List ℕ) : Type 0 where
  pub made : v ≡ c ++ w
  pub plain : is_plain c ≡ true
  pub start : begins_with_blank v ≡ false
  pub bytes : list_all is_status_byte v ≡ true

abbrev status_head : List ℕ → List ℕ
status_head blanks = codes "status" ++ 58 ∷ blanks

-- the first line, with the tag and a backslash at its end, opens a status
first_feed : (blanks v c bs : List ℕ) (n : ℕ) (seen : List Pair) (X : List (List ℕ)) → IsHead seen (codes "status") blanks → begins_with_blank (c ++ 92 ∷ []) ≡ false → is_plain c ≡ true → Opens (closed [] bs ++ X) (n + 1) seen (Some (c ++ 10 ∷ [])) X v (length (closed [] bs)) → Opens ((status_head blanks ++ c ++ 92 ∷ []) ∷ (closed [] bs ++ X)) n seen None X v (length ((status_head blanks ++ c ++ 92 ∷ []) ∷ closed [] bs))
unfolding read_on
first_feed blanks v c bs n seen X head start plain rest =
    let line = begun (n + 1) seen (codes "status") blanks (c ++ 92 ∷ []) head start (plain_append c (92 ∷ []) plain refl) in
    record { place = rest.place; counted = omega (arith, rest.counted); same = rw (append_assoc (status_head blanks) c (92 ∷ []), line, first_part (codes "status") c refl) rest.same }

-- the next byte of its first line, an LF or not, goes on opening it
first_by : (blanks v c : List ℕ) (b : ℕ) (bs : List ℕ) (n : ℕ) (seen : List Pair) (X : List (List ℕ)) (t : Bool) → eqb b 10 ≡ t → IsHead seen (codes "status") blanks → IsStart v c (b ∷ bs) → cond t (last [] bs) (last (status_head blanks ++ c ++ b ∷ []) bs) ≡ []
    → ((c : List ℕ) → IsStart v c bs → last (status_head blanks ++ c) bs ≡ [] → Opens (closed (status_head blanks ++ c) bs ++ X) n seen None X v (length (closed (status_head blanks ++ c) bs)))
    → Opens (cond t ((status_head blanks ++ c ++ 92 ∷ []) ∷ closed [] bs) (closed (status_head blanks ++ c ++ b ∷ []) bs) ++ X) n seen None X v (length (cond t ((status_head blanks ++ c ++ 92 ∷ []) ∷ closed [] bs) (closed (status_head blanks ++ c ++ b ∷ []) bs)))
first_by blanks v c b bs n seen X true e head h over ih =
    let made : v ≡ (c ++ 10 ∷ []) ++ bs = h.made ∙ ap (λ (x : ℕ). c ++ x ∷ bs) (eqb-true b 10 e) ∙ sym (append_assoc c (10 ∷ []) bs) in
    first_feed blanks v c bs n seen X head (start_front c (b ∷ bs) (ap begins_with_blank (sym h.made) ∙ h.start)) h.plain (more bs v (c ++ 10 ∷ []) [] (n + 1) seen X (record { made = made; plain = refl; bytes = h.bytes }) over)
first_by blanks v c b bs n seen X false e head h over ih =
    let byte : is_status_byte b ≡ true = bytes_mid c b bs (ap (list_all is_status_byte) (sym h.made) ∙ h.bytes) in
    let longer : status_head blanks ++ c ++ b ∷ [] ≡ status_head blanks ++ (c ++ b ∷ []) = append_assoc (status_head blanks) c (b ∷ []) in
    let next : IsStart v (c ++ b ∷ []) bs = record { made = h.made ∙ sym (append_assoc c (b ∷ []) bs); plain = plain_append c (b ∷ []) h.plain (plain_one b (plain_of_status b byte e)); start = h.start; bytes = h.bytes } in
    subst (λ (x : List ℕ). Opens (closed x bs ++ X) n seen None X v (length (closed x bs))) (sym longer) (ih (c ++ b ∷ []) next (ap (λ (x : List ℕ). last x bs) (sym longer) ∙ over))

-- the lines of a status that ends with an LF open it
first : (w blanks v c : List ℕ) (n : ℕ) (seen : List Pair) (X : List (List ℕ)) → IsHead seen (codes "status") blanks → IsStart v c w → last (status_head blanks ++ c) w ≡ [] → Opens (closed (status_head blanks ++ c) w ++ X) n seen None X v (length (closed (status_head blanks ++ c) w))
unfolding closed last
first [] blanks v c n seen X head h over = absurd cc
first (b ∷ bs) blanks v c n seen X head h over = first_by blanks v c b bs n seen X (eqb b 10) refl head h over (λ c h over. first bs blanks v c n seen X head h over)

-- two lists with one more element
record SameEnds (xs ys : List (List ℕ)) (x y : List ℕ) : Type 0 where
  pub front : xs ≡ ys
  pub end : x ≡ y

-- lists with one more element each that are the same are so in both parts
ends_same : (xs ys : List (List ℕ)) (x y : List ℕ) → xs ++ x ∷ [] ≡ ys ++ y ∷ [] → SameEnds xs ys x y
ends_same [] [] x y e = record { front = refl; end = cc }
ends_same [] (b ∷ ys) x y e = absurd (omega (arith, ap length e, length-append ys (y ∷ [])))
ends_same (a ∷ xs) [] x y e = absurd (omega (arith, ap length e, length-append xs (x ∷ [])))
ends_same (a ∷ xs) (b ∷ ys) x y e =
    let tails : xs ++ x ∷ [] ≡ ys ++ y ∷ [] = cc in
    let heads : a ≡ b = cc in
    let rest = ends_same xs ys x y tails in
    record { front = rw heads (ap (λ (ls : List (List ℕ)). b ∷ ls) rest.front); end = rest.end }

-- the lines that begin a status open it
opens : (o X : List (List ℕ)) (n : ℕ) (seen : List Pair) (h : Begins seen o) → Opens (o ++ X) n seen None X h.value (length o)
opens o X n seen h =
    let e : Entry = Stated h.blanks (pair (codes "status") h.value) in
    let lines_of : lines (entry_text (Stated h.blanks (pair (codes "status") h.value))) ≡ continued (status_head h.blanks) h.value = ap lines (sym (append-nil (entry_text e))) ∙ entry_lines_are e [] h.formed ∙ append-nil (entry_lines e) in
    let both = ends_same (closed (status_head h.blanks) h.value) o (last (status_head h.blanks) h.value) [] (sym (continued_is h.value (status_head h.blanks)) ∙ sym lines_of ∙ h.made) in
    let value = first_of_pair (pair (codes "status") h.value) h.formed.1 in
    let head : IsHead seen (codes "status") h.blanks = record { formed = refl; hash = refl; once = and_right (is_known (codes "status")) (has_tag (codes "status") seen) h.fresh; blank = h.formed.0 } in
    let nothing : status_head h.blanks ++ [] ≡ status_head h.blanks = append-nil (status_head h.blanks) in
    let opened = first h.value h.blanks h.value [] n seen X head (record { made = refl; plain = refl; start = value.start; bytes = value.bytes }) (ap (λ (x : List ℕ). last x h.value) nothing ∙ both.end) in
    subst (λ (ls : List (List ℕ)). Opens (ls ++ X) n seen None X h.value (length ls)) (ap (λ (x : List ℕ). closed x h.value) nothing ∙ both.front) opened

-- ---- one line

-- with a byte more in front, a text is plain just where it is without its blanks
plain_behind_by : (b : ℕ) (bs : List ℕ) (t : Bool) → is_blank b ≡ t → is_plain (without_blanks bs) ≡ is_plain bs → is_plain (cond t (without_blanks bs) (b ∷ bs)) ≡ is_plain (b ∷ bs)
plain_behind_by b bs true e h = h ∙ sym (rw (plain_blank b e) refl)
plain_behind_by b bs false e h = refl

-- a text is plain just where it is without the blanks in front
plain_behind : (bs : List ℕ) → is_plain (without_blanks bs) ≡ is_plain bs
plain_behind [] = refl
plain_behind (b ∷ bs) = plain_behind_by b bs (is_blank b) refl (plain_behind bs)

-- where a line that counts is no entry, the lines have its fault
one_line : (line : List ℕ) (behind rest : List (List ℕ)) (n : ℕ) (seen : List Pair) (kind : LineKind) (number : ℕ) → rest ≡ line ∷ behind → number ≡ 1 → is_skipped line ≡ false → entry_of seen line ≡ Err kind → read_on rest n seen None ≡ Err (fault_at (n + number) kind)
unfolding read_on begin_step
one_line line behind rest n seen kind number here counted counts e = rw (here, counted, counts, e) refl

-- a line without a colon has that fault
no_colon : (seen : List Pair) (line : List ℕ) → has_byte 58 line ≡ false → entry_of seen line ≡ Err NoColon
unfolding entry_of
no_colon seen line h = ap (at_parts seen) (at_colon_none line (Lacks-from 58 line h))

-- a line with a colon is read in its two parts
with_colon : (seen : List Pair) (front back : List ℕ) → has_byte 58 front ≡ false → entry_of seen (front ++ 58 ∷ back) ≡ parts_of seen front back
unfolding entry_of
with_colon seen front back h = ap (at_parts seen) (at_colon_some front back (Lacks-from 58 front h))

-- where the two parts have a fault, the lines do
faced : (seen : List Pair) (rest : List (List ℕ)) (front back : List ℕ) (n number : ℕ) (kind : LineKind) → Faces rest front back → number ≡ 1 → parts_of seen front back ≡ Err kind → read_on rest n seen None ≡ Err (fault_at (n + number) kind)
faced seen rest front back n number kind h counted e = one_line (front ++ 58 ∷ back) h.behind rest n seen kind number h.first counted h.counts (with_colon seen front back h.colon ∙ e)

-- a line that isn't plain is a fault of the status that it goes on
bad_line : (line : List ℕ) (behind : List (List ℕ)) (m : ℕ) (seen : List Pair) (value : List ℕ) → is_plain line ≡ false → read_on (line ∷ behind) m seen (Some value) ≡ Err (fault_at (m + 1) BadValue)
unfolding read_on go_on_step
bad_line line behind m seen value bad = rw bad refl

-- so a bad part of a status is one
bad_part : (seen : List Pair) (rest : List (List ℕ)) (number n : ℕ) → HasBadPart seen rest number → read_on rest n seen None ≡ Err (fault_at (n + number) BadValue)
bad_part seen rest number n h =
    let opened = opens h.begun (h.line ∷ h.behind) n seen h.begins in
    let place : opened.place + 1 ≡ n + number = omega (arith, opened.counted, h.counted) in
    ap (λ (ls : List (List ℕ)). read_on ls n seen None) h.here ∙ opened.same ∙ bad_line h.line h.behind opened.place seen h.begins.value h.bad ∙ ap (λ (k : ℕ). Err (fault_at k BadValue)) place

-- lines that end while a status goes on have an open end
ended_open : (m : ℕ) (seen : List Pair) (value : List ℕ) → read_on [] m seen (Some value) ≡ Err (fault_at m OpenEnd)
unfolding read_on
ended_open m seen value = refl

-- so lines that begin a status and end have one
open_end : (seen : List Pair) (rest : List (List ℕ)) (number n : ℕ) → number ≡ length rest → Begins seen rest → read_on rest n seen None ≡ Err (fault_at (n + number) OpenEnd)
open_end seen rest number n counted h =
    let opened = opens rest [] n seen h in
    let place : opened.place ≡ n + number = omega (arith, opened.counted, counted) in
    ap (λ (ls : List (List ℕ)). read_on ls n seen None) (sym (append-nil rest)) ∙ opened.same ∙ ended_open opened.place seen h.value ∙ ap (λ (k : ℕ). Err (fault_at k OpenEnd)) place

-- each fault is what reading tells
told : (kind : LineKind) (seen : List Pair) (rest : List (List ℕ)) (number n : ℕ) → IsFault kind seen rest number → read_on rest n seen None ≡ Err (fault_at (n + number) kind)
told NotText seen rest number n h = absurd h
told NoColon seen rest number n h = one_line h.1.line h.1.behind rest n seen NoColon number h.1.first h.0 h.1.counts (no_colon seen h.1.line h.1.colon)
told BadTag seen rest number n h = faced seen rest h.1 h.2 n number BadTag h.3 h.0 (rw h.4 refl)
told Twice seen rest number n h = faced seen rest h.1 h.2 n number Twice h.3 h.0 (rw (h.4, h.5) refl)
told BadValue seen rest number n h =
    elim h [
      | inl p ↦ faced seen rest p.1.tag p.1.back n number BadValue p.1.faces p.0 (rw (p.1.formed, p.1.once, plain_behind p.1.back ∙ p.1.bad) refl)
      | inr q ↦ bad_part seen rest number n q
    ]
told OpenEnd seen rest number n h = open_end seen rest number n h.0 h.1
told NoMemory seen rest number n h = absurd h

-- ---- the text

-- a fault behind entries is what reading the text tells
fault_told : (text : List ℕ) (fault : LineFault) → IsFaultBehind text fault → Read text ≡ Err fault
fault_told text fault h =
    let lines_of = all_lines_are h.entries h.formed in
    let passed = passes h.entries h.rest 0 [] h.formed h.once in
    let line : passed.place + h.number ≡ fault.line = omega (arith, passed.counted, h.line, ap length lines_of) in
    ap (λ (ls : List (List ℕ)). read_on ls 0 [] None) (h.made ∙ ap (λ (ls : List (List ℕ)). ls ++ h.rest) lines_of)
    ∙ passed.same
    ∙ told fault.kind (pairs h.entries) h.rest h.number passed.place h.wrong
    ∙ ap (λ (k : ℕ). Err (fault_at k fault.kind)) line

abbrev failed : LineFault → Result (List Pair) LineFault
failed fault = Err fault

-- what fails with one fault fails with that alone
failed_is : (f g : LineFault) → failed f ≡ failed g → f ≡ g
failed_is f g e = cc

-- a text has one first fault
pub first_fault_alone : (text : List ℕ) (f g : LineFault) → IsFirstFault text f → IsFirstFault text g → f ≡ g
first_fault_alone text f g p q =
    elim p [
      | inl no_text ↦ elim q [ inl same ↦ no_text.0 ∙ sym same.0 | inr behind ↦ absurd (no_text.1 behind.utf8) ]
      | inr behind ↦ elim q [
        | inl no_text ↦ absurd (no_text.1 behind.utf8)
        | inr other ↦ failed_is f g (sym (fault_told text f behind) ∙ fault_told text g other)
      ]
    ]

-- a text with a fault spells no list
pub fault_or_list : (text : List ℕ) (fault : LineFault) (ps : List Pair) → IsFirstFault text fault → Spells text ps → ⊥
fault_or_list text fault ps p h =
    elim p [
      | inl no_text ↦ no_text.1 h.utf8
      | inr behind ↦ let both : failed fault ≡ Ok ps = sym (fault_told text fault behind) ∙ spelled text ps h in cc
    ]
