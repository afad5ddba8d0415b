-- What reading finds: entries that the lines are made of, or entries and a fault behind them.
use Rattle.std.proofs.Common.{◌≡◌, ℕ, ◌+◌, Bool, true, false, cond, not, ◌&&◌, ◌⊎◌, eqb, leb, List, [], ◌∷◌, ◌++◌, length, refl, sym, ap, subst, ◌∙◌, append_assoc, length-append, inl, inr, arith}
use Rattle.std.specs.Prelude.{Option, Some, None, Result, Ok, Err, codes}
use Rattle.std.specs.List.{AllByRecursion, list_all}
use Rattle.std.specs.Option.{option_map}
use Rattle.std.specs.Result.{MatchResult}
use Rattle.std.specs.Str.{IsUtf8}
use Rattle.std.proofs.lemmas.Bool.{and_parts, and_from, and_right, or_parts, or_from, or_right, or_cases, ne_eqb, eqb-true, leb-true, not-true, not-false}
use Rattle.std.proofs.lemmas.List.{append-nil}
use Rattle.std.proofs.lemmas.List.Concat.{flat_map-cons}
use Rattle.std.proofs.lemmas.Slice.Eq.{bytes_eq-Decides}
use Rattle.fax_job.specs.declared.lines.LineFault.{LineFault}
use Rattle.fax_job.specs.declared.lines.LineKind.{LineKind}
use Rattle.fax_job.specs.declared.lines.LineKind.TheVariants.{NoColon, BadTag, Twice, BadValue, OpenEnd}
use Rattle.fax_job.specs.Pair.{Pair, pair, has_tag, is_once}
use Rattle.fax_lines.specs.Reading.{onto, lines, is_skipped, at_colon, before_backslash, begun_part, parts_of, at_parts, entry_of, taken_part, entered, begin_step, gone_on, go_on_step, step, ended, then_read, read_on, fault_at, IsEntry, IsOpen}
use Rattle.fax_value.specs.Blank.{without_blanks, is_blank}
use Rattle.fax_lines.specs.Spells.{Entry, Skipped, Stated, entry_text, has_byte, IsFormed, stated, pairs, Faces, Begins, IsFault, Spells, IsFaultBehind}
use Rattle.fax_job.specs.Tag.{is_tag, is_known}
use Rattle.fax_value.specs.Value.{is_plain_byte, is_plain}
use Rattle.fax_lines.proofs.EntryLemmas.{continued, entry_lines, entry_lines_are, all_lines, all_lines_are}
use Rattle.fax_lines.proofs.LineLemmas.{done, two, some_is, at_colon_parts, before_backslash_parts}
use Rattle.fax_job.proofs.PairLemmas.{once_push}
use Rattle.fax_lines.proofs.StatusLemmas.{entry_is, plain_front, is_pair_from, is_status_from, pair_of_entry, part_of, open_first, open_more, pair_of_parts, once_of_parts}

-- ---- reports

-- the lines are those of entries that state what was read behind the pairs seen
record Made (seen : List Pair) (ls : List (List ℕ)) (ps : List Pair) : Type 0 where
  pub entries : List Entry
  pub formed : AllByRecursion IsFormed entries
  pub made : ls ≡ all_lines entries
  pub stated : ps ≡ seen ++ pairs entries
  pub once : is_once ps ≡ true

-- behind the lines of entries stands a fault
record Behind (n : ℕ) (seen : List Pair) (ls : List (List ℕ)) (fault : LineFault) : Type 0 where
  pub entries : List Entry
  pub rest : List (List ℕ)
  pub number : ℕ
  pub formed : AllByRecursion IsFormed entries
  pub once : is_once (seen ++ pairs entries) ≡ true
  pub made : ls ≡ all_lines entries ++ rest
  pub wrong : IsFault fault.kind (seen ++ pairs entries) rest number
  pub line : fault.line ≡ n + length (all_lines entries) + number

abbrev Report : ℕ → List Pair → List (List ℕ) → Result (List Pair) LineFault → Type 0
Report n seen ls r = MatchResult r (Made seen ls) (Behind n seen ls)

-- the pairs of an entry and of those behind are theirs
pairs_cons : (e : Entry) (es : List Entry) (seen : List Pair) → (seen ++ stated e) ++ pairs es ≡ seen ++ pairs (e ∷ es)
pairs_cons e es seen = append_assoc seen (stated e) (pairs es) ∙ ap (λ (ps : List Pair). seen ++ ps) (sym (flat_map-cons stated e es))

-- one more entry in front
in_front : (e : Entry) (n : ℕ) (seen : List Pair) (ls : List (List ℕ)) (r : Result (List Pair) LineFault) → IsFormed e → Report (n + length (entry_lines e)) (seen ++ stated e) ls r → Report n seen (entry_lines e ++ ls) r
in_front e n seen ls (Ok ps) formed h = record {
  entries = e ∷ h.entries;
  formed = (formed, h.formed);
  made = ap (λ (x : List (List ℕ)). entry_lines e ++ x) h.made;
  stated = h.stated ∙ pairs_cons e h.entries seen;
  once = h.once;
}
in_front e n seen ls (Err fault) formed h = record {
  entries = e ∷ h.entries;
  rest = h.rest;
  number = h.number;
  formed = (formed, h.formed);
  once = ap is_once (sym (pairs_cons e h.entries seen)) ∙ h.once;
  made = ap (λ (x : List (List ℕ)). entry_lines e ++ x) h.made ∙ sym (append_assoc (entry_lines e) (all_lines h.entries) h.rest);
  wrong = subst (λ (ps : List Pair). IsFault fault.kind ps h.rest h.number) (pairs_cons e h.entries seen) h.wrong;
  line = omega (arith, h.line, length-append (entry_lines e) (all_lines h.entries));
}

-- a fault right here
here : (n : ℕ) (seen : List Pair) (ls : List (List ℕ)) (number : ℕ) (fault : LineFault) → is_once seen ≡ true → IsFault fault.kind seen ls number → fault.line ≡ n + number → Behind n seen ls fault
here n seen ls number fault once wrong line = record {
  entries = [];
  rest = ls;
  number = number;
  formed = tt;
  once = ap is_once (append-nil seen) ∙ once;
  made = refl;
  wrong = subst (λ (ps : List Pair). IsFault fault.kind ps ls number) (sym (append-nil seen)) wrong;
  line = omega (arith, line);
}

-- ---- one line

-- what stands before the first colon has none, with a byte more in front
front_by : (b : ℕ) (bs x y : List ℕ) (t : Bool) (r : Option (List ℕ × List ℕ)) → eqb b 58 ≡ t → ((x y : List ℕ) → r ≡ Some (x, y) → has_byte 58 x ≡ false) → cond t (done (two [] bs)) (option_map (λ (parts : List ℕ × List ℕ). two (b ∷ parts.0) parts.1) r) ≡ done (two x y) → has_byte 58 x ≡ false
front_by b bs x y true r e ih given = subst (λ (q : List ℕ × List ℕ). has_byte 58 q.0 ≡ false) (some_is (two [] bs) (two x y) given) refl
front_by b bs x y false None e ih given = absurd cc
front_by b bs x y false (Some p) e ih given =
    subst (λ (q : List ℕ × List ℕ). has_byte 58 q.0 ≡ false) (some_is (two (b ∷ p.0) p.1) (two x y) given) (or_from (eqb b 58) (has_byte 58 p.0) e (ih p.0 p.1 refl))

-- what stands before the first colon has none
front_lacks : (bs x y : List ℕ) → at_colon bs ≡ Some (x, y) → has_byte 58 x ≡ false
front_lacks [] x y e = absurd cc
front_lacks (b ∷ bs) x y e = front_by b bs x y (eqb b 58) (at_colon bs) refl (front_lacks bs) e

abbrev no_parts : Option (List ℕ × List ℕ)
no_parts = None

-- a text that isn't cut at a colon has none, with a byte more in front
none_by : (b : ℕ) (bs : List ℕ) (t : Bool) (r : Option (List ℕ × List ℕ)) → eqb b 58 ≡ t → (r ≡ None → has_byte 58 bs ≡ false) → cond t (done (two [] bs)) (option_map (λ (parts : List ℕ × List ℕ). two (b ∷ parts.0) parts.1) r) ≡ no_parts → has_byte 58 (b ∷ bs) ≡ false
none_by b bs true r e ih given = absurd cc
none_by b bs false None e ih given = or_from (eqb b 58) (has_byte 58 bs) e (ih refl)
none_by b bs false (Some p) e ih given = absurd cc

-- a text that isn't cut at a colon has none
colon_lacks : (bs : List ℕ) → at_colon bs ≡ None → has_byte 58 bs ≡ false
colon_lacks [] e = refl
colon_lacks (b ∷ bs) e = none_by b bs (eqb b 58) (at_colon bs) refl (colon_lacks bs) e

-- the blanks in front of a text
front_blanks : List ℕ → List ℕ
front_blanks [] = []
front_blanks (b ∷ bs) = cond (is_blank b) (b ∷ front_blanks bs) []

-- a text is its blanks in front and the rest, with a byte more in front
blanks_by : (b : ℕ) (bs : List ℕ) (t : Bool) → is_blank b ≡ t → (bs ≡ front_blanks bs ++ without_blanks bs) → b ∷ bs ≡ cond t (b ∷ front_blanks bs) [] ++ cond t (without_blanks bs) (b ∷ bs)
blanks_by b bs true e h = ap (λ (x : List ℕ). b ∷ x) h
blanks_by b bs false e h = refl

-- a text is its blanks in front and the rest
blanks_made : (bs : List ℕ) → bs ≡ front_blanks bs ++ without_blanks bs
unfolding front_blanks
blanks_made [] = refl
blanks_made (b ∷ bs) = blanks_by b bs (is_blank b) refl (blanks_made bs)

-- the blanks in front are blanks, with a byte more in front
blanks_all : (b : ℕ) (bs : List ℕ) (t : Bool) → is_blank b ≡ t → list_all is_blank (front_blanks bs) ≡ true → list_all is_blank (cond t (b ∷ front_blanks bs) []) ≡ true
blanks_all b bs true e h = and_from (is_blank b) (list_all is_blank (front_blanks bs)) e h
blanks_all b bs false e h = refl

-- the blanks in front are blanks
blanks_blank : (bs : List ℕ) → list_all is_blank (front_blanks bs) ≡ true
unfolding front_blanks
blanks_blank [] = refl
blanks_blank (b ∷ bs) = blanks_all b bs (is_blank b) refl (blanks_blank bs)

-- a blank is plain
pub plain_blank : (b : ℕ) → is_blank b ≡ true → is_plain_byte b ≡ true
plain_blank b h =
    elim (or_cases (eqb b 32) (eqb b 9) h) [
      | inl e ↦ subst (λ (x : ℕ). is_plain_byte x ≡ true) (sym (eqb-true b 32 e)) refl
      | inr e ↦ or_right (leb 32 b && not (eqb b 127)) (eqb b 9) e
    ]

-- a text that isn't plain behind its blanks isn't plain, with a byte more in front
bad_by : (b : ℕ) (bs : List ℕ) (t : Bool) → is_blank b ≡ t → (is_plain (without_blanks bs) ≡ false → is_plain bs ≡ false) → is_plain (cond t (without_blanks bs) (b ∷ bs)) ≡ false → is_plain (b ∷ bs) ≡ false
bad_by b bs true e ih h = and_right (is_plain_byte b) (is_plain bs) (ih h)
bad_by b bs false e ih h = h

-- a text that isn't plain behind its blanks isn't plain
bad_back : (bs : List ℕ) → is_plain (without_blanks bs) ≡ false → is_plain bs ≡ false
bad_back [] h = h
bad_back (b ∷ bs) h = bad_by b bs (is_blank b) refl (bad_back bs) h

-- the line states the pair
record States (line : List ℕ) (p : Pair) : Type 0 where
  pub blanks : List ℕ
  pub blank : list_all is_blank blanks ≡ true
  pub made : (p.tag ++ 58 ∷ blanks) ++ p.value ≡ line

abbrev okay : Pair → Result Pair LineKind
okay p = Ok p

abbrev kind_of : LineKind → Result Pair LineKind
kind_of kind = Err kind

-- which test of a line failed, or none
record Failed (b : Bool) (kind wanted : LineKind) : Type 0 where
  pub test : b ≡ true
  pub same : kind ≡ wanted

-- where a test refuses, it failed, or what is behind it did
guard_err : (b : Bool) (kind : LineKind) (r : Result Pair LineKind) (wanted : LineKind) → cond b (kind_of kind) r ≡ kind_of wanted → Failed b kind wanted ⊎ ((b ≡ false) × (r ≡ kind_of wanted))
guard_err true kind r wanted e = inl (record { test = refl; same = cc })
guard_err false kind r wanted e = inr (refl, e)

-- what is let pass wasn't refused by the test before it
guard_ok : (b : Bool) (kind : LineKind) (r : Result Pair LineKind) (p : Pair) → cond b (kind_of kind) r ≡ okay p → (b ≡ false) × (r ≡ okay p)
guard_ok true kind r p e = absurd cc
guard_ok false kind r p e = (refl, e)

-- what is read as one pair is that alone
ok_is : (p q : Pair) → okay p ≡ okay q → p ≡ q
ok_is p q e = cc

-- the two parts of a line state the pair
states_parts : (seen : List Pair) (line tag rest : List ℕ) (p : Pair) → line ≡ tag ++ 58 ∷ rest → parts_of seen tag rest ≡ okay p → States line p
states_parts seen line tag rest p cut e =
    let a = guard_ok (not (is_tag tag)) BadTag _ p e in
    let b = guard_ok (is_known tag && has_tag tag seen) Twice _ p a.1 in
    let c = guard_ok (not (is_plain (without_blanks rest))) BadValue _ p b.1 in
    subst (States line) (ok_is (pair tag (without_blanks rest)) p c.1) (record {
      blanks = front_blanks rest;
      blank = blanks_blank rest;
      made = append_assoc tag (58 ∷ front_blanks rest) (without_blanks rest) ∙ ap (λ (x : List ℕ). tag ++ 58 ∷ x) (sym (blanks_made rest)) ∙ sym cut;
    })

-- a line cut at its colon, or not, states the pair that it is read as
states_at : (seen : List Pair) (line : List ℕ) (r : Option (List ℕ × List ℕ)) (p : Pair) → at_colon line ≡ r → at_parts seen r ≡ okay p → States line p
states_at seen line None p cut e = absurd cc
states_at seen line (Some parts) p cut e = states_parts seen line parts.0 parts.1 p (at_colon_parts line parts.0 parts.1 cut) e

-- a line states the pair that it is read as
states : (seen : List Pair) (line : List ℕ) (p : Pair) → entry_of seen line ≡ okay p → States line p
unfolding entry_of
states seen line p e = states_at seen line (at_colon line) p refl e

-- a line that counts, cut at its colon, has these two parts first
faces : (line : List ℕ) (ls : List (List ℕ)) (tag rest : List ℕ) → is_skipped line ≡ false → at_colon line ≡ Some (tag, rest) → Faces (line ∷ ls) tag rest
faces line ls tag rest counts cut =
    let parts = at_colon_parts line tag rest cut in
    record {
      behind = ls;
      first = ap (λ (l : List ℕ). l ∷ ls) parts;
      counts = ap is_skipped (sym parts) ∙ counts;
      colon = front_lacks line tag rest cut;
    }

-- what refuses the two parts of a line is its fault
fault_parts : (seen : List Pair) (line : List ℕ) (ls : List (List ℕ)) (tag rest : List ℕ) (kind : LineKind) → Faces (line ∷ ls) tag rest → parts_of seen tag rest ≡ kind_of kind → IsFault kind seen (line ∷ ls) 1
fault_parts seen line ls tag rest kind faced e =
    elim (guard_err (not (is_tag tag)) BadTag _ kind e) [
      | inl f ↦ subst (λ (k : LineKind). IsFault k seen (line ∷ ls) 1) f.same (refl, tag, rest, faced, not-true (is_tag tag) f.test)
      | inr a ↦ elim (guard_err (is_known tag && has_tag tag seen) Twice _ kind a.1) [
        | inl f ↦ subst (λ (k : LineKind). IsFault k seen (line ∷ ls) 1) f.same (refl, tag, rest, faced, not-false (is_tag tag) a.0, f.test)
        | inr b ↦ elim (guard_err (not (is_plain (without_blanks rest))) BadValue _ kind b.1) [
          | inl f ↦ subst (λ (k : LineKind). IsFault k seen (line ∷ ls) 1) f.same (inl (
            refl,
            record {
              tag = tag;
              back = rest;
              faces = faced;
              formed = not-false (is_tag tag) a.0;
              once = b.0;
              bad = bad_back rest (not-true (is_plain (without_blanks rest)) f.test);
            },
          ))
          | inr c ↦ absurd cc
        ]
      ]
    ]

-- what refuses a line cut at its colon, or not, is its fault
fault_line : (seen : List Pair) (line : List ℕ) (ls : List (List ℕ)) (r : Option (List ℕ × List ℕ)) (kind : LineKind) → is_skipped line ≡ false → at_colon line ≡ r → at_parts seen r ≡ kind_of kind → IsFault kind seen (line ∷ ls) 1
fault_line seen line ls None kind counts cut e =
    let same : NoColon ≡ kind = cc in
    subst (λ (k : LineKind). IsFault k seen (line ∷ ls) 1) same (refl, record { line = line; behind = ls; first = refl; counts = counts; colon = colon_lacks line cut })
fault_line seen line ls (Some parts) kind counts cut e = fault_parts seen line ls parts.0 parts.1 kind (faces line ls parts.0 parts.1 counts cut) e

-- what refuses a line is its fault
fault_of : (seen : List Pair) (line : List ℕ) (ls : List (List ℕ)) (kind : LineKind) → is_skipped line ≡ false → entry_of seen line ≡ kind_of kind → IsFault kind seen (line ∷ ls) 1
unfolding entry_of
fault_of seen line ls kind counts e = fault_line seen line ls (at_colon line) kind counts refl e

-- ---- the lines of a value that goes on

unfoldable pub closed : List ℕ → List ℕ → List (List ℕ)
closed begun [] = []
closed begun (b ∷ bs) = cond (eqb b 10) ((begun ++ 92 ∷ []) ∷ closed [] bs) (closed (begun ++ b ∷ []) bs)

unfoldable pub last : List ℕ → List ℕ → List ℕ
last begun [] = begun
last begun (b ∷ bs) = cond (eqb b 10) (last [] bs) (last (begun ++ b ∷ []) bs)

-- the lines of a value are those it closes and the last, with a byte more in front
continued_by : (b : ℕ) (bs begun : List ℕ) (t : Bool) → ((c : List ℕ) → continued c bs ≡ closed c bs ++ last c bs ∷ []) → cond t ((begun ++ 92 ∷ []) ∷ continued [] bs) (continued (begun ++ b ∷ []) bs) ≡ cond t ((begun ++ 92 ∷ []) ∷ closed [] bs) (closed (begun ++ b ∷ []) bs) ++ cond t (last [] bs) (last (begun ++ b ∷ []) bs) ∷ []
continued_by b bs begun true ih = ap (λ (ls : List (List ℕ)). (begun ++ 92 ∷ []) ∷ ls) (ih [])
continued_by b bs begun false ih = ih (begun ++ b ∷ [])

-- the lines of a value are those it closes and the last
pub continued_is : (v begun : List ℕ) → continued begun v ≡ closed begun v ++ last begun v ∷ []
unfolding closed last
continued_is [] begun = refl
continued_is (b ∷ bs) begun = continued_by b bs begun (eqb b 10) (continued_is bs)

-- two parts of a value close the lines of the one and then of the other, with a byte more in front
closed_by : (b : ℕ) (bs w begun : List ℕ) (t : Bool) → ((c : List ℕ) → closed c (bs ++ w) ≡ closed c bs ++ closed (last c bs) w) → cond t ((begun ++ 92 ∷ []) ∷ closed [] (bs ++ w)) (closed (begun ++ b ∷ []) (bs ++ w)) ≡ cond t ((begun ++ 92 ∷ []) ∷ closed [] bs) (closed (begun ++ b ∷ []) bs) ++ closed (cond t (last [] bs) (last (begun ++ b ∷ []) bs)) w
closed_by b bs w begun true ih = ap (λ (ls : List (List ℕ)). (begun ++ 92 ∷ []) ∷ ls) (ih [])
closed_by b bs w begun false ih = ih (begun ++ b ∷ [])

-- two parts of a value close the lines of the one and then of the other
closed_append : (v w begun : List ℕ) → closed begun (v ++ w) ≡ closed begun v ++ closed (last begun v) w
unfolding closed last
closed_append [] w begun = refl
closed_append (b ∷ bs) w begun = closed_by b bs w begun (eqb b 10) (closed_append bs w)

-- the last line of two parts is that of the second, behind that of the first, with a byte more in front
last_by : (b : ℕ) (bs w begun : List ℕ) (t : Bool) → ((c : List ℕ) → last c (bs ++ w) ≡ last (last c bs) w) → cond t (last [] (bs ++ w)) (last (begun ++ b ∷ []) (bs ++ w)) ≡ last (cond t (last [] bs) (last (begun ++ b ∷ []) bs)) w
last_by b bs w begun true ih = ih []
last_by b bs w begun false ih = ih (begun ++ b ∷ [])

-- the last line of two parts is that of the second, behind that of the first
last_append : (v w begun : List ℕ) → last begun (v ++ w) ≡ last (last begun v) w
unfolding last
last_append [] w begun = refl
last_append (b ∷ bs) w begun = last_by b bs w begun (eqb b 10) (last_append bs w)

-- a value without an LF closes no line
closed_plain : (v begun : List ℕ) → has_byte 10 v ≡ false → closed begun v ≡ []
unfolding closed
closed_plain [] begun h = refl
closed_plain (b ∷ bs) begun h =
    let parts = or_parts (eqb b 10) (has_byte 10 bs) h in
    rw parts.0 (closed_plain bs (begun ++ b ∷ []) parts.1)

-- its last line is what it has begun with, and itself
last_plain : (v begun : List ℕ) → has_byte 10 v ≡ false → last begun v ≡ begun ++ v
unfolding last
last_plain [] begun h = sym (append-nil begun)
last_plain (b ∷ bs) begun h =
    let parts = or_parts (eqb b 10) (has_byte 10 bs) h in
    rw parts.0 (last_plain bs (begun ++ b ∷ []) parts.1 ∙ append_assoc begun (b ∷ []) bs)

-- an LF closes a line with a backslash
closed_feed : (begun : List ℕ) → closed begun (10 ∷ []) ≡ (begun ++ 92 ∷ []) ∷ []
unfolding closed
closed_feed begun = refl

-- and leaves nothing on the last
last_feed : (begun : List ℕ) → last begun (10 ∷ []) ≡ []
unfolding last
last_feed begun = refl

-- one more part
closed_part : (begun part : List ℕ) → has_byte 10 part ≡ false → closed begun (part ++ 10 ∷ []) ≡ (begun ++ part ++ 92 ∷ []) ∷ []
closed_part begun part h = closed_append part (10 ∷ []) begun ∙ rw (closed_plain part begun h, last_plain part begun h) (closed_feed (begun ++ part))

-- a part with an LF at its end leaves nothing on the last
last_part : (begun part : List ℕ) → last begun (part ++ 10 ∷ []) ≡ []
last_part begun part = last_append part (10 ∷ []) begun ∙ last_feed (last begun part)

-- a plain text has no LF
plain_no_feed : (bs : List ℕ) → is_plain bs ≡ true → has_byte 10 bs ≡ false
plain_no_feed [] h = refl
plain_no_feed (b ∷ bs) h =
    let parts = and_parts (is_plain_byte b) (is_plain bs) h in
    or_from (eqb b 10) (has_byte 10 bs)
    (elim (or_cases (leb 32 b && not (eqb b 127)) (eqb b 9) parts.0) [
      | inl p ↦ ne_eqb b 10 (λ e. absurd (omega (arith, leb-true 32 b (and_parts (leb 32 b) (not (eqb b 127)) p).0, e)))
      | inr p ↦ ne_eqb b 10 (λ e. absurd (omega (arith, eqb-true b 9 p, e)))
    ])
    (plain_no_feed bs parts.1)

-- ---- all lines

-- the lines of a status that has begun
record Opened (seen : List Pair) (o : List (List ℕ)) (value : List ℕ) : Type 0 where
  pub blanks : List ℕ
  pub blank : list_all is_blank blanks ≡ true
  pub made : o ≡ closed (codes "status" ++ 58 ∷ blanks) value
  pub over : last (codes "status" ++ 58 ∷ blanks) value ≡ []
  pub goes_on : IsOpen seen value

abbrev IsAt : List Pair → List (List ℕ) → Option (List ℕ) → Type 0
IsAt seen o None = o ≡ []
IsAt seen o (Some value) = Opened seen o value

abbrev HaveNoFeed : List (List ℕ) → Type 0
HaveNoFeed ls = AllByRecursion (λ l. has_byte 10 l ≡ false) ls

abbrev Claim : List (List ℕ) → Type 0
Claim ls = (n m : ℕ) (seen : List Pair) (o : List (List ℕ)) (begun : Option (List ℕ)) → m ≡ n + length o → IsAt seen o begun → is_once seen ≡ true → Report n seen (o ++ ls) (read_on ls m seen begun)

-- a status that goes on is formed as it stands
status_formed : (seen : List Pair) (o : List (List ℕ)) (value : List ℕ) (h : Opened seen o value) → IsFormed (Stated h.blanks (pair (codes "status") value))
status_formed seen o value h = (h.blank, is_pair_from (pair (codes "status") value) refl refl (is_status_from value h.goes_on.start h.goes_on.end h.goes_on.bytes))

-- its lines begin it
begins : (seen : List Pair) (o : List (List ℕ)) (value : List ℕ) → Opened seen o value → Begins seen o
begins seen o value h =
    let e : Entry = Stated h.blanks (pair (codes "status") value) in
    let formed : IsFormed (Stated h.blanks (pair (codes "status") value)) = status_formed seen o value h in
    let lines_of : lines (entry_text e) ≡ entry_lines e = ap lines (sym (append-nil (entry_text e))) ∙ entry_lines_are e [] formed ∙ append-nil (entry_lines e) in
    let head = codes "status" ++ 58 ∷ h.blanks in
    record {
      blanks = h.blanks;
      value = value;
      formed = formed;
      fresh = h.goes_on.fresh;
      made = lines_of ∙ continued_is value head ∙ rw (sym h.made, h.over) refl;
    }

-- what ends here was made of entries, or its status is open
ends : (n m : ℕ) (seen : List Pair) (o : List (List ℕ)) (begun : Option (List ℕ)) → m ≡ n + length o → IsAt seen o begun → is_once seen ≡ true → Report n seen (o ++ []) (ended m seen begun)
ends n m seen o None e at once = record { entries = []; formed = tt; made = append-nil o ∙ at; stated = sym (append-nil seen); once = once }
ends n m seen o (Some value) e at once =
    subst (λ (ls : List (List ℕ)). Behind n seen ls (fault_at m OpenEnd)) (sym (append-nil o)) (here n seen o (length o) (fault_at m OpenEnd) once (refl, begins seen o value at) e)

-- the line states a pair of one line
one_line : (line : List ℕ) (ls : List (List ℕ)) (n m : ℕ) (seen : List Pair) (p : Pair) → m ≡ n → is_once seen ≡ true → IsEntry seen p → begun_part p ≡ None → States line p → Claim ls → Report n seen (line ∷ ls) (read_on ls (m + 1) (seen ++ p ∷ []) None)
one_line line ls n m seen p e once entry whole stated_by ih =
    let formed : IsFormed (Stated stated_by.blanks p) = (stated_by.blank, pair_of_entry seen p whole entry) in
    let no_feed = plain_no_feed p.value entry.plain in
    let head = p.tag ++ 58 ∷ stated_by.blanks in
    let lines_of : entry_lines (Stated stated_by.blanks p) ≡ line ∷ [] = continued_is p.value head ∙ rw (closed_plain p.value head no_feed, last_plain p.value head no_feed, stated_by.made) refl in
    let count : length (entry_lines (Stated stated_by.blanks p)) ≡ 1 = ap length lines_of in
    let rest : Report (n + length (entry_lines (Stated stated_by.blanks p))) (seen ++ p ∷ []) ls (read_on ls (m + 1) (seen ++ p ∷ []) None) = ih (n + length (entry_lines (Stated stated_by.blanks p))) (m + 1) (seen ++ p ∷ []) [] None (omega (arith, e, count)) refl (once_push seen p once entry.once) in
    subst (λ (front : List (List ℕ)). Report n seen (front ++ ls) (read_on ls (m + 1) (seen ++ p ∷ []) None)) lines_of (in_front (Stated stated_by.blanks p) n seen ls (read_on ls (m + 1) (seen ++ p ∷ []) None) formed rest)

-- the line begins a status that goes on
opened_by : (line : List ℕ) (seen : List Pair) (p : Pair) (part : List ℕ) → IsEntry seen p → begun_part p ≡ Some part → States line p → Opened seen (line ∷ []) (part ++ 10 ∷ [])
opened_by line seen p part entry cut stated_by =
    let both = part_of p part cut in
    let tag : p.tag ≡ codes "status" = (bytes_eq-Decides p.tag (codes "status")).0 both.0 in
    let value : p.value ≡ part ++ 92 ∷ [] = before_backslash_parts p.value part both.1 in
    let plain : is_plain part ≡ true = plain_front part (92 ∷ []) (ap is_plain (sym value) ∙ entry.plain) in
    let head = codes "status" ++ 58 ∷ stated_by.blanks in
    let made_of : head ++ part ++ 92 ∷ [] ≡ line = append_assoc head part (92 ∷ []) ∙ ap (λ (x : List ℕ). head ++ x) (sym value) ∙ ap (λ (t : List ℕ). (t ++ 58 ∷ stated_by.blanks) ++ p.value) (sym tag) ∙ stated_by.made in
    record {
      blanks = stated_by.blanks;
      blank = stated_by.blank;
      made = sym (closed_part head part (plain_no_feed part plain) ∙ ap (λ (x : List ℕ). x ∷ []) made_of);
      over = last_part head part;
      goes_on = open_first seen p part entry cut;
    }

-- a line that is an entry goes on, whether it begins a status or not
taken_by : (line : List ℕ) (ls : List (List ℕ)) (n m : ℕ) (seen : List Pair) (p : Pair) (b : Option (List ℕ)) → m ≡ n → is_once seen ≡ true → IsEntry seen p → begun_part p ≡ b → States line p → Claim ls → Report n seen (line ∷ ls) (read_on ls (m + 1) (taken_part seen p b).0 (taken_part seen p b).1)
taken_by line ls n m seen p None e once entry cut stated_by ih = one_line line ls n m seen p e once entry cut stated_by ih
taken_by line ls n m seen p (Some part) e once entry cut stated_by ih = ih n (m + 1) seen (line ∷ []) (Some (part ++ 10 ∷ [])) (omega (arith, e)) (opened_by line seen p part entry cut stated_by) once

-- a line that counts goes on, or is a fault
entered_by : (line : List ℕ) (ls : List (List ℕ)) (n m : ℕ) (seen : List Pair) (r : Result Pair LineKind) → m ≡ n → is_once seen ≡ true → is_skipped line ≡ false → entry_of seen line ≡ r → Claim ls → Report n seen (line ∷ ls) (then_read (entered (m + 1) seen r) (λ state. read_on ls (m + 1) state.0 state.1))
entered_by line ls n m seen (Ok p) e once counts given ih = taken_by line ls n m seen p (begun_part p) e once (entry_is seen line p counts given) refl (states seen line p given) ih
entered_by line ls n m seen (Err kind) e once counts given ih = here n seen (line ∷ ls) 1 (fault_at (m + 1) kind) once (fault_of seen line ls kind counts given) (omega (arith, e))

-- a line goes on, whether it counts or not
begun_by : (line : List ℕ) (ls : List (List ℕ)) (n m : ℕ) (seen : List Pair) (t : Bool) → m ≡ n → is_once seen ≡ true → has_byte 10 line ≡ false → is_skipped line ≡ t → Claim ls → Report n seen (line ∷ ls) (then_read (cond t (Ok (seen, None)) (entered (m + 1) seen (entry_of seen line))) (λ state. read_on ls (m + 1) state.0 state.1))
begun_by line ls n m seen true e once no_feed given ih =
    let rest : Report (n + 1) seen ls (read_on ls (m + 1) seen None) = ih (n + 1) (m + 1) seen [] None (omega (arith, e)) refl once in
    in_front (Skipped line) n seen ls (read_on ls (m + 1) seen None) (given, no_feed) (subst (λ (ps : List Pair). Report (n + 1) ps ls (read_on ls (m + 1) seen None)) (sym (append-nil seen)) rest)
begun_by line ls n m seen false e once no_feed given ih = entered_by line ls n m seen (entry_of seen line) e once given refl ih

-- the line ends a status
whole_by : (line : List ℕ) (ls : List (List ℕ)) (n m : ℕ) (seen : List Pair) (o : List (List ℕ)) (value : List ℕ) → m ≡ n + length o → is_once seen ≡ true → Opened seen o value → is_plain line ≡ true → before_backslash line ≡ None → Claim ls → Report n seen (o ++ line ∷ ls) (read_on ls (m + 1) (seen ++ pair (codes "status") (value ++ line) ∷ []) None)
whole_by line ls n m seen o value e once at plain whole ih =
    let p : Pair = pair (codes "status") (value ++ line) in
    let head = codes "status" ++ 58 ∷ at.blanks in
    let no_feed = plain_no_feed line plain in
    let lines_of : entry_lines (Stated at.blanks (pair (codes "status") (value ++ line))) ≡ o ++ line ∷ [] = continued_is (value ++ line) head ∙ rw (closed_append value line head, last_append value line head, at.over, closed_plain line [] no_feed, last_plain line [] no_feed, sym at.made, append-nil o) refl in
    let count : length (entry_lines (Stated at.blanks (pair (codes "status") (value ++ line)))) ≡ length o + 1 = ap length lines_of ∙ length-append o (line ∷ []) in
    let rest : Report (n + length (entry_lines (Stated at.blanks p))) (seen ++ p ∷ []) ls (read_on ls (m + 1) (seen ++ p ∷ []) None) = ih (n + length (entry_lines (Stated at.blanks p))) (m + 1) (seen ++ p ∷ []) [] None (omega (arith, e, count)) refl (once_push seen p once (once_of_parts seen value at.goes_on)) in
    subst (λ (whole_lines : List (List ℕ)). Report n seen whole_lines (read_on ls (m + 1) (seen ++ p ∷ []) None)) (ap (λ (front : List (List ℕ)). front ++ ls) lines_of ∙ append_assoc o (line ∷ []) ls) (in_front (Stated at.blanks p) n seen ls (read_on ls (m + 1) (seen ++ p ∷ []) None) (at.blank, pair_of_parts seen value line at.goes_on plain whole) rest)

-- a line of a status goes on, whether it ends it or not
gone_by : (line : List ℕ) (ls : List (List ℕ)) (n m : ℕ) (seen : List Pair) (o : List (List ℕ)) (value : List ℕ) (b : Option (List ℕ)) → m ≡ n + length o → is_once seen ≡ true → Opened seen o value → is_plain line ≡ true → before_backslash line ≡ b → Claim ls → Report n seen (o ++ line ∷ ls) (read_on ls (m + 1) (gone_on seen value line b).0 (gone_on seen value line b).1)
gone_by line ls n m seen o value None e once at plain cut ih = whole_by line ls n m seen o value e once at plain cut ih
gone_by line ls n m seen o value (Some part) e once at plain cut ih =
    let head = codes "status" ++ 58 ∷ at.blanks in
    let cut_of : line ≡ part ++ 92 ∷ [] = before_backslash_parts line part cut in
    let no_feed = plain_no_feed part (plain_front part (92 ∷ []) (ap is_plain (sym cut_of) ∙ plain)) in
    let regrouped : value ++ part ++ 10 ∷ [] ≡ value ++ (part ++ 10 ∷ []) = append_assoc value part (10 ∷ []) in
    let more : Opened seen (o ++ line ∷ []) (value ++ part ++ 10 ∷ []) = record {
      blanks = at.blanks;
      blank = at.blank;
      made = sym (ap (closed head) regrouped ∙ closed_append value (part ++ 10 ∷ []) head ∙ rw (at.over, closed_part [] part no_feed, sym at.made, sym cut_of) refl);
      over = ap (last head) regrouped ∙ last_append value (part ++ 10 ∷ []) head ∙ last_part (last head value) part;
      goes_on = open_more seen value line part at.goes_on plain cut;
    } in
    subst (λ (whole_lines : List (List ℕ)). Report n seen whole_lines (read_on ls (m + 1) seen (Some (value ++ part ++ 10 ∷ [])))) (append_assoc o (line ∷ []) ls) (ih n (m + 1) seen (o ++ line ∷ []) (Some (value ++ part ++ 10 ∷ [])) (omega (arith, e, length-append o (line ∷ []))) more once)

-- a line of a status goes on, or isn't plain
part_by : (line : List ℕ) (ls : List (List ℕ)) (n m : ℕ) (seen : List Pair) (o : List (List ℕ)) (value : List ℕ) (t : Bool) → m ≡ n + length o → is_once seen ≡ true → Opened seen o value → is_plain line ≡ t → Claim ls → Report n seen (o ++ line ∷ ls) (then_read (cond (not t) (Err (fault_at (m + 1) BadValue)) (Ok (gone_on seen value line (before_backslash line)))) (λ state. read_on ls (m + 1) state.0 state.1))
part_by line ls n m seen o value true e once at plain ih = gone_by line ls n m seen o value (before_backslash line) e once at plain refl ih
part_by line ls n m seen o value false e once at plain ih =
    here n seen (o ++ line ∷ ls) (length o + 1) (fault_at (m + 1) BadValue) once (inr (record { begun = o; line = line; behind = ls; here = refl; counted = refl; begins = begins seen o value at; bad = plain })) (omega (arith, e))

-- each line goes on, whether a status has begun or not
step_by : (line : List ℕ) (ls : List (List ℕ)) (n m : ℕ) (seen : List Pair) (o : List (List ℕ)) (begun : Option (List ℕ)) → has_byte 10 line ≡ false → m ≡ n + length o → IsAt seen o begun → is_once seen ≡ true → Claim ls → Report n seen (o ++ line ∷ ls) (then_read (step (m + 1) seen begun line) (λ state. read_on ls (m + 1) state.0 state.1))
unfolding begin_step go_on_step
step_by line ls n m seen o None no_feed e at once ih =
    let flat : m ≡ n = omega (arith, e, ap length at) in
    subst (λ (front : List (List ℕ)). Report n seen (front ++ line ∷ ls) (then_read (step (m + 1) seen None line) (λ state. read_on ls (m + 1) state.0 state.1))) (sym at) (begun_by line ls n m seen (is_skipped line) flat once no_feed refl ih)
step_by line ls n m seen o (Some value) no_feed e at once ih = part_by line ls n m seen o value (is_plain line) e once at refl ih

-- all lines are made of entries, or have a fault behind some
claim : (ls : List (List ℕ)) → HaveNoFeed ls → Claim ls
unfolding read_on
claim [] h n m seen o begun e at once = ends n m seen o begun e at once
claim (line ∷ ls) h n m seen o begun e at once = step_by line ls n m seen o begun h.0 e at once (claim ls h.1)

-- ---- the text

-- a byte that is no LF before lines leaves them without one
onto_no_feed : (b : ℕ) (ls : List (List ℕ)) → eqb b 10 ≡ false → HaveNoFeed ls → HaveNoFeed (onto b ls)
onto_no_feed b [] e h = (or_from (eqb b 10) false e refl, tt)
onto_no_feed b (l ∷ ls) e h = (or_from (eqb b 10) (has_byte 10 l) e h.0, h.1)

-- so does a byte, an LF or not, before a text
feed_by : (b : ℕ) (bs : List ℕ) (t : Bool) → eqb b 10 ≡ t → HaveNoFeed (lines bs) → HaveNoFeed (cond t ([] ∷ lines bs) (onto b (lines bs)))
feed_by b bs true e h = (refl, h)
feed_by b bs false e h = onto_no_feed b (lines bs) e h

-- the lines of a text have no LF
lines_no_feed : (text : List ℕ) → HaveNoFeed (lines text)
lines_no_feed [] = tt
lines_no_feed (b ∷ bs) = feed_by b bs (eqb b 10) refl (lines_no_feed bs)

-- what is made of a text's lines, the text spells, or has as its fault
found_by : (text : List ℕ) (r : Result (List Pair) LineFault) → IsUtf8 text → Report 0 [] (lines text) r → MatchResult r (Spells text) (IsFaultBehind text)
found_by text (Ok ps) utf8 h = record {
  entries = h.entries;
  formed = h.formed;
  made = h.made ∙ sym (all_lines_are h.entries h.formed);
  stated = h.stated;
  once = h.once;
  utf8 = utf8;
}
found_by text (Err fault) utf8 h = record {
  entries = h.entries;
  rest = h.rest;
  number = h.number;
  formed = h.formed;
  once = h.once;
  made = h.made ∙ ap (λ (ls : List (List ℕ)). ls ++ h.rest) (sym (all_lines_are h.entries h.formed));
  wrong = h.wrong;
  line = omega (arith, h.line, ap length (all_lines_are h.entries h.formed));
  utf8 = utf8;
}

-- reading finds the list that a text spells, or the fault behind its entries
pub found : (text : List ℕ) → IsUtf8 text → MatchResult (read_on (lines text) 0 [] None) (Spells text) (IsFaultBehind text)
found text utf8 = found_by text (read_on (lines text) 0 [] None) utf8 (claim (lines text) (lines_no_feed text) 0 0 [] [] None refl refl refl)
