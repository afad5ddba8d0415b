-- What a router answers on rows that begin with words, or with a parameter.
use Rattle.std.proofs.Common.{◌≡◌, ◌≢◌, ℕ, zero, suc, ◌-◌, ◌<◌, ◌≤◌, List, [], ◌∷◌, ◌++◌, length, drop, Option, Some, None, Bool, true, false, cond, ltb, ◌&&◌, refl, sym, ap, ap₂, ◌∙◌, arith, nat_eq, ◌==◌, length-append, drop_at}
use Rattle.std.specs.Prelude.{not}
use Rattle.std.specs.List.{list_all, ends_with}
use Rattle.std.specs.Str.{bytes_eq}
use Rattle.std.proofs.lemmas.Bool.{and_parts, eqb-true, false≢true, le-ltb, lt-ltb, ltb-true, ne_eqb}
use Rattle.std.proofs.lemmas.Bool.Decides.{nat_tests}
use Rattle.matchit.specs.Rows.{RowsOf, param_token, catch_all_token}
use Rattle.matchit.specs.Seek.{own, step, or_else, seek, first, segment, has_slash, better, longest_from, longest_suffix, with_suffix, param_step}

-- a text, and what follows its slash, if it has one
abbrev pub joined : List ℕ → Option (List ℕ) → List ℕ
joined text None = text
joined text (Some rest) = text ++ 47 ∷ rest

-- bytes with no slash
abbrev pub is_word : List ℕ → Bool
is_word word = list_all (λ b. ltb b 256 && not (b == 47)) word

-- a word's first byte is a byte and no slash, and the rest is a word
pub word_parts : (x : ℕ) (w : List ℕ) → is_word (x ∷ w) ≡ true → (x < 256) × (x ≢ 47) × (is_word w ≡ true)
word_parts x w h =
    let both = and_parts (ltb x 256 && not (x == 47)) (is_word w) h in
    let here = and_parts (ltb x 256) (not (x == 47)) both.0 in
    (ltb-true x 256 here.0, λ e. absurd (grind (arith, nat_tests)), both.1)

-- a text without a slash doesn't begin with one, nor has its rest one
free_parts : (b : ℕ) (text : List ℕ) → has_slash (b ∷ text) ≡ false → (b ≢ 47) × (has_slash text ≡ false)
free_parts b text h = by (b == 47) refl h
  where
    by : (v : Bool) → (b == 47) ≡ v → cond v true (has_slash text) ≡ false → (b ≢ 47) × (has_slash text ≡ false)
    by true e f = absurd cc
    by false e f = (λ q. absurd (grind (arith, nat_tests)), f)

-- a byte before a text comes before what it is joined to
pub joined_more : (b : ℕ) (text : List ℕ) (o : Option (List ℕ)) → joined (b ∷ text) o ≡ b ∷ joined text o
joined_more b text None = refl
joined_more b text (Some rest) = refl

-- ---- texts and slashes

-- a text without a slash doesn't end with one
no_end_slash : (text : List ℕ) → has_slash text ≡ false → ends_with nat_eq text (47 ∷ []) ≡ false
no_end_slash [] f = refl
no_end_slash (b ∷ []) f =
    let n = (free_parts b [] f).0 in
    grind (arith, nat_tests)
no_end_slash (b ∷ c ∷ text) f =
    let n : suc (suc (length text)) - 1 ≡ suc (suc (length text) - 1) = omega arith in
    rw n (no_end_slash (c ∷ text) (free_parts b (c ∷ text) f).1)

-- a text with a slash behind it does
end_slash : (text : List ℕ) → ends_with nat_eq (text ++ 47 ∷ []) (47 ∷ []) ≡ true
end_slash text =
    let n : length (text ++ 47 ∷ []) - 1 ≡ length text = omega (arith, length-append text (47 ∷ [])) in
    rw (n, drop_at text (47 ∷ []) (length text) refl)

-- a text without a slash is its own segment
segment_free : (text : List ℕ) → has_slash text ≡ false → segment text ≡ text
segment_free [] f = refl
segment_free (b ∷ text) f =
    let p = free_parts b text f in
    let e : (b == 47) ≡ false = ne_eqb b 47 p.0 in
    rw e (ap (λ rest. b ∷ rest) (segment_free text p.1))

-- the segment of a text ends with its first slash
pub segment_cut : (text rest : List ℕ) → has_slash text ≡ false → segment (text ++ 47 ∷ rest) ≡ text ++ 47 ∷ []
segment_cut [] rest f = refl
segment_cut (b ∷ text) rest f =
    let p = free_parts b text f in
    let e : (b == 47) ≡ false = ne_eqb b 47 p.0 in
    rw e (ap (λ more. b ∷ more) (segment_cut text rest p.1))

cut_has_slash : (text rest : List ℕ) → has_slash (text ++ 47 ∷ rest) ≡ true
cut_has_slash [] rest = refl
cut_has_slash (b ∷ text) rest = by (b == 47) (cut_has_slash text rest)
  where
    by : (v : Bool) → has_slash (text ++ 47 ∷ rest) ≡ true → cond v true (has_slash (text ++ 47 ∷ rest)) ≡ true
    by true ih = refl
    by false ih = ih

-- in a segment that is a slash alone, no suffix is better than none
one_is_short : (suffix : List ℕ) → better (47 ∷ []) [] suffix ≡ []
one_is_short [] = refl
one_is_short (b ∷ suffix) =
    let n : ltb (suc (length suffix)) 1 ≡ false = le-ltb (suc (length suffix)) 1 (omega arith) in
    rw n (either (ltb 0 (suc (length suffix))))
  where
    either : (v : Bool) → cond {A = List ℕ} (v && false) (b ∷ suffix) [] ≡ []
    either true = refl
    either false = refl

-- in a segment without a slash, a slash is no better than none
free_is_best : (seg : List ℕ) → has_slash seg ≡ false → better seg [] (47 ∷ []) ≡ []
free_is_best seg f =
    let e = no_end_slash seg f in
    rw e (by (ltb 1 (length seg)))
  where
    by : (v : Bool) → cond {A = List ℕ} (v && false) (47 ∷ []) [] ≡ []
    by true = refl
    by false = refl

-- in one with a slash at its end, it is
cut_is_best : (b : ℕ) (text : List ℕ) → better (b ∷ (text ++ 47 ∷ [])) [] (47 ∷ []) ≡ 47 ∷ []
cut_is_best b text =
    let e = end_slash (b ∷ text) in
    let l : ltb 1 (suc (length (text ++ 47 ∷ []))) ≡ true = lt-ltb 1 (suc (length (text ++ 47 ∷ []))) (omega (arith, length-append text (47 ∷ []))) in
    rw (l, e)

module _ {K : Type 0} where
  -- the rows with these tokens in front
  abbrev pub led_by : List ℕ → RowsOf K → RowsOf K
  led_by w [] = []
  led_by w ((t, key) ∷ rest) = (w ++ t, key) ∷ led_by w rest

  -- a route that ends here, if one does
  abbrev pub ends_of : Option K → RowsOf K
  ends_of None = []
  ends_of (Some key) = ([], key) ∷ []

  -- what is found behind a text: a route that ends, or one behind the slash
  abbrev pub behind : Option K → RowsOf K → Option (List ℕ) → Option K
  behind end next None = end
  behind end next (Some rest) = first next rest

  -- rows that begin with bytes alone
  pub record IsPlain (rs : RowsOf K) : Type 0 where
    pub params : step param_token rs ≡ []
    pub catches : step catch_all_token rs ≡ []

  -- ---- steps

  -- without rows a parameter steps to none
  param_step_empty : (p : List ℕ) → (param_step {K = K} [] p).1 ≡ []
  unfolding param_step
  param_step_empty p =
      elim (has_slash p) as (λ v. (cond {A = ℕ × RowsOf K} v (0, []) (length p, [])).1 ≡ []) [
        | true ↦ refl
        | false ↦ refl
      ]

  -- without rows nothing is found
  pub seek_empty : (k : ℕ) (p : List ℕ) → seek {K = K} k [] p ≡ None
  unfolding seek
  seek_empty k [] = refl
  seek_empty (suc k) (b ∷ p) = seek_empty k p
  seek_empty zero (b ∷ p) = simp (seek_empty 0 p, param_step_empty (b ∷ p), seek_empty (((param_step {K = K} [] (b ∷ p)).0) - 1) p)

  -- to seek past so many bytes is to seek from there
  seek_drop : (k : ℕ) (rs : RowsOf K) (p : List ℕ) → seek k rs p ≡ seek 0 rs (drop k p)
  unfolding seek
  seek_drop zero rs p = refl
  seek_drop (suc k) rs [] = refl
  seek_drop (suc k) rs (b ∷ p) = seek_drop k rs p

  -- a first choice or none is the first
  pub or_none : (a : Option K) → or_else a None ≡ a
  or_none None = refl
  or_none (Some key) = refl

  -- two lists of rows step each by itself
  step_append : (b : ℕ) (x y : RowsOf K) → step b (x ++ y) ≡ step b x ++ step b y
  step_append b [] y = refl
  step_append b (([], key) ∷ x) y = step_append b x y
  step_append b ((a ∷ t, key) ∷ x) y =
      elim (a == b) as (λ v. cond v ((t, key) ∷ step b (x ++ y)) (step b (x ++ y)) ≡ cond v ((t, key) ∷ step b x) (step b x) ++ step b y) [
        | true ↦ ap (λ rows. (t, key) ∷ rows) (step_append b x y)
        | false ↦ step_append b x y
      ]

  -- the route that ends in either is the first's, or the second's
  own_append : (x y : RowsOf K) → own (x ++ y) ≡ or_else (own x) (own y)
  own_append [] y = refl
  own_append (([], key) ∷ x) y = refl
  own_append ((a ∷ t, key) ∷ x) y = own_append x y

  -- none ends in rows with a byte in front
  own_led : (x : ℕ) (w : List ℕ) (rs : RowsOf K) → own (led_by (x ∷ w) rs) ≡ None
  own_led x w [] = refl
  own_led x w ((t, key) ∷ rs) = own_led x w rs

  -- a route that ends here does
  own_ends : (end : Option K) → own (ends_of end) ≡ end
  own_ends None = refl
  own_ends (Some key) = refl

  -- it goes on with no byte
  step_ends : (b : ℕ) (end : Option K) → step b (ends_of end) ≡ []
  step_ends b None = refl
  step_ends b (Some key) = refl

  -- rows with nothing in front are the rows
  led_by_none : (rs : RowsOf K) → led_by [] rs ≡ rs
  led_by_none [] = refl
  led_by_none ((t, key) ∷ rs) = ap (λ rows. (t, key) ∷ rows) (led_by_none rs)

  append_none : (rs : RowsOf K) → rs ++ [] ≡ rs
  append_none [] = refl
  append_none (r ∷ rs) = ap (λ rows. r ∷ rows) (append_none rs)

  -- rows with a byte in front step with it
  step_hit : (b : ℕ) (w : List ℕ) (rs : RowsOf K) → step b (led_by (b ∷ w) rs) ≡ led_by w rs
  step_hit b w [] = refl
  step_hit b w ((t, key) ∷ rs) =
      let e : (b == b) ≡ true = grind (arith, nat_tests) in
      rw e (ap (λ rows. (w ++ t, key) ∷ rows) (step_hit b w rs))

  -- and with no other
  step_miss : (b x : ℕ) (w : List ℕ) (rs : RowsOf K) → x ≢ b → step b (led_by (x ∷ w) rs) ≡ []
  step_miss b x w [] n = refl
  step_miss b x w ((t, key) ∷ rs) n =
      let e : (x == b) ≡ false = grind (arith, nat_tests) in
      rw e (step_miss b x w rs n)

  -- rows under a byte, with a route that may end here
  under : (x : ℕ) (w : List ℕ) (next : RowsOf K) (end : Option K) → x < 256 → IsPlain (led_by (x ∷ w) next ++ ends_of end)
  under x w next end low =
      let n : x ≢ param_token = λ e. omega arith in
      let m : x ≢ catch_all_token = λ e. omega arith in
      record {
        params = step_append param_token (led_by (x ∷ w) next) (ends_of end) ∙ rw (step_miss param_token x w next n) (step_ends param_token end);
        catches = step_append catch_all_token (led_by (x ∷ w) next) (ends_of end) ∙ rw (step_miss catch_all_token x w next m) (step_ends catch_all_token end);
      }

  -- rows of bytes alone find what they step to
  pub seek_byte : (rs : RowsOf K) (b : ℕ) (p : List ℕ) → IsPlain rs → seek 0 rs (b ∷ p) ≡ seek 0 (step b rs) p
  unfolding seek
  seek_byte rs b p plain =
      simp (plain.params, plain.catches, param_step_empty (b ∷ p), seek_empty ((param_step {K = K} [] (b ∷ p)).0 - 1) p, or_none)

  -- rows under a byte step with it
  step_under : (x : ℕ) (w : List ℕ) (next : RowsOf K) (end : Option K) → step x (led_by (x ∷ w) next ++ ends_of end) ≡ led_by w next
  step_under x w next end =
      step_append x (led_by (x ∷ w) next) (ends_of end) ∙ rw (step_hit x w next, step_ends x end) (append_none (led_by w next))

  -- and with no other
  step_beside : (b x : ℕ) (w : List ℕ) (next : RowsOf K) (end : Option K) → x ≢ b → step b (led_by (x ∷ w) next ++ ends_of end) ≡ []
  step_beside b x w next end n =
      step_append b (led_by (x ∷ w) next) (ends_of end) ∙ rw (step_miss b x w next n) (step_ends b end)

  -- rows under a byte begin with bytes alone
  plain_led : (x : ℕ) (w : List ℕ) (rs : RowsOf K) → x < 256 → IsPlain (led_by (x ∷ w) rs)
  plain_led x w rs low =
      let n : x ≢ param_token = λ e. omega arith in
      let m : x ≢ catch_all_token = λ e. omega arith in
      record {
        params = step_miss param_token x w rs n;
        catches = step_miss catch_all_token x w rs m;
      }

  -- ---- words

  -- a word, and then an end or a slash
  pub word : (w text : List ℕ) (next : RowsOf K) (end : Option K) (o : Option (List ℕ)) → is_word w ≡ true → has_slash text ≡ false
      → first (led_by w (led_by (47 ∷ []) next ++ ends_of end)) (joined text o) ≡ cond (bytes_eq text w) (behind end next o) None
  unfolding seek
  word [] [] next end None h f =
      ap own (led_by_none (led_by (47 ∷ []) next ++ ends_of end)) ∙ own_append (led_by (47 ∷ []) next) (ends_of end)
      ∙ rw (own_led 47 [] next) (own_ends end)
  word [] [] next end (Some rest) h f =
      ap (λ rows. seek 0 rows (47 ∷ rest)) (led_by_none (led_by (47 ∷ []) next ++ ends_of end))
      ∙ seek_byte (led_by (47 ∷ []) next ++ ends_of end) 47 rest (under 47 [] next end (omega arith))
      ∙ ap (λ rows. seek 0 rows rest) (step_under 47 [] next end ∙ led_by_none next)
  word [] (b ∷ text) next end o h f =
      let n = (free_parts b text f).0 in
      ap (λ p. seek 0 (led_by [] (led_by (47 ∷ []) next ++ ends_of end)) p) (joined_more b text o)
      ∙ ap (λ rows. seek 0 rows (b ∷ joined text o)) (led_by_none (led_by (47 ∷ []) next ++ ends_of end))
      ∙ seek_byte (led_by (47 ∷ []) next ++ ends_of end) b (joined text o) (under 47 [] next end (omega arith))
      ∙ ap (λ rows. seek 0 rows (joined text o)) (step_beside b 47 [] next end (λ e. n (sym e)))
      ∙ seek_empty 0 (joined text o)
  word (x ∷ w) [] next end None h f = own_led x w (led_by (47 ∷ []) next ++ ends_of end)
  word (x ∷ w) [] next end (Some rest) h f =
      let p = word_parts x w h in
      seek_byte (led_by (x ∷ w) (led_by (47 ∷ []) next ++ ends_of end)) 47 rest (plain_led x w (led_by (47 ∷ []) next ++ ends_of end) p.0)
      ∙ ap (λ rows. seek 0 rows rest) (step_miss 47 x w (led_by (47 ∷ []) next ++ ends_of end) p.1)
      ∙ seek_empty 0 rest
  word (x ∷ w) (b ∷ text) next end o h f =
      let p = word_parts x w h in
      let g = free_parts b text f in
      ap (λ q. seek 0 (led_by (x ∷ w) (led_by (47 ∷ []) next ++ ends_of end)) q) (joined_more b text o)
      ∙ seek_byte (led_by (x ∷ w) (led_by (47 ∷ []) next ++ ends_of end)) b (joined text o) (plain_led x w (led_by (47 ∷ []) next ++ ends_of end) p.0)
      ∙ by (nat_eq b x) refl (word w text next end o p.2 g.1)
    where
      by : (v : Bool) → nat_eq b x ≡ v
          → first (led_by w (led_by (47 ∷ []) next ++ ends_of end)) (joined text o) ≡ cond (bytes_eq text w) (behind end next o) None
          → seek 0 (step b (led_by (x ∷ w) (led_by (47 ∷ []) next ++ ends_of end))) (joined text o) ≡ cond (v && bytes_eq text w) (behind end next o) None
      by true e ih =
          ap (λ (c : ℕ). seek 0 (step c (led_by (x ∷ w) (led_by (47 ∷ []) next ++ ends_of end))) (joined text o)) (eqb-true b x e)
          ∙ ap (λ rows. seek 0 rows (joined text o)) (step_hit x w (led_by (47 ∷ []) next ++ ends_of end))
          ∙ ih
      by false e ih =
          let n : x ≢ b = λ q. grind (arith, nat_tests) in
          ap (λ rows. seek 0 rows (joined text o)) (step_miss b x w (led_by (47 ∷ []) next ++ ends_of end) n)
          ∙ seek_empty 0 (joined text o)

  -- rows under a byte, and others that begin with other bytes
  pub branch : (x : ℕ) (w : List ℕ) (rs others : RowsOf K) (path : List ℕ) → x < 256 → step x others ≡ [] → IsPlain others
      → first (led_by (x ∷ w) rs ++ others) path ≡ or_else (first (led_by (x ∷ w) rs) path) (first others path)
  unfolding seek
  branch x w rs others [] low none plain = own_append (led_by (x ∷ w) rs) others
  branch x w rs others (b ∷ p) low none plain =
      let lead = plain_led x w rs low in
      seek_byte (led_by (x ∷ w) rs ++ others) b p (record {
        params = step_append param_token (led_by (x ∷ w) rs) others ∙ rw lead.params plain.params;
        catches = step_append catch_all_token (led_by (x ∷ w) rs) others ∙ rw lead.catches plain.catches;
      })
      ∙ ap (λ rows. seek 0 rows p) (step_append b (led_by (x ∷ w) rs) others)
      ∙ by (x == b) refl
      ∙ sym (rw (seek_byte (led_by (x ∷ w) rs) b p lead, seek_byte others b p plain))
    where
      by : (v : Bool) → (x == b) ≡ v
          → seek 0 (step b (led_by (x ∷ w) rs) ++ step b others) p ≡ or_else (seek 0 (step b (led_by (x ∷ w) rs)) p) (seek 0 (step b others) p)
      by true e =
          let same : b ≡ x = sym (eqb-true x b e) in
          let gone : step b others ≡ [] = ap (λ (c : ℕ). step c others) same ∙ none in
          rw (gone, append_none (step b (led_by (x ∷ w) rs)), seek_empty 0 p) (sym (or_none (seek 0 (step b (led_by (x ∷ w) rs)) p)))
      by false e =
          let n : x ≢ b = λ q. grind (arith, nat_tests) in
          rw (step_miss b x w rs n, seek_empty 0 p)

  -- ---- parameters

  -- of a segment that is a slash alone no suffix is found
  longest_one : (rs : RowsOf K) → longest_from (47 ∷ []) [] rs ≡ []
  longest_one [] = refl
  longest_one ((t, key) ∷ rs) = ap (λ best. longest_from (47 ∷ []) best rs) (one_is_short (segment t)) ∙ longest_one rs

  -- of a segment without a slash no suffix is found
  longest_last : (seg : List ℕ) (next : RowsOf K) (end : Option K) → has_slash seg ≡ false → longest_from seg [] (led_by (47 ∷ []) next ++ ends_of end) ≡ []
  longest_last seg [] None f = refl
  longest_last seg [] (Some key) f = refl
  longest_last seg ((t, key) ∷ next) end f =
      ap (λ best. longest_from seg best (led_by (47 ∷ []) next ++ ends_of end)) (free_is_best seg f) ∙ longest_last seg next end f

  -- where a slash is the best so far, it is the suffix that is found
  longest_slash : (seg : List ℕ) (next : RowsOf K) (end : Option K) → longest_from seg (47 ∷ []) (led_by (47 ∷ []) next ++ ends_of end) ≡ 47 ∷ []
  longest_slash seg [] None = refl
  longest_slash seg [] (Some key) = refl
  longest_slash seg ((t, key) ∷ next) end = longest_slash seg next end

  -- the rows behind the slash are those with it in front
  with_slash : (next : RowsOf K) (end : Option K) → with_suffix (47 ∷ []) (led_by (47 ∷ []) next ++ ends_of end) ≡ led_by (47 ∷ []) next
  with_slash [] None = refl
  with_slash [] (Some key) = refl
  with_slash ((t, key) ∷ next) end = ap (λ rows. (47 ∷ t, key) ∷ rows) (with_slash next end)

  -- a parameter takes nothing before a slash
  at_slash : (rs : RowsOf K) (rest : List ℕ) → param_step rs (47 ∷ rest) ≡ (0, [])
  unfolding param_step
  at_slash rs rest = rw (longest_one rs)

  -- at the end it takes the whole path
  in_last : (path : List ℕ) (next : RowsOf K) (end : Option K) → has_slash path ≡ false
      → param_step (led_by (47 ∷ []) next ++ ends_of end) path ≡ (length path, led_by (47 ∷ []) next ++ ends_of end)
  unfolding param_step
  in_last path next end f = rw (segment_free path f, longest_last path next end f, f)

  -- it takes the segment but for the suffix found, or else a path without a slash
  param_step_by : (rs : RowsOf K) (path suffix : List ℕ) → longest_suffix (segment path) rs ≡ suffix
      → param_step rs path ≡ cond (ltb 0 (length suffix)) (length (segment path) - length suffix, with_suffix suffix rs) (cond (has_slash path) (0, []) (length path, rs))
  unfolding param_step
  param_step_by rs path suffix e =
      ap (λ (s : List ℕ). cond (ltb 0 (length s)) (length (segment path) - length s, with_suffix s rs) (cond (has_slash path) (0, []) (length path, rs))) e

  -- before a slash it takes the text up to it
  in_middle : (b : ℕ) (text rest : List ℕ) (row : List ℕ × K) (next : RowsOf K) (end : Option K) → has_slash (b ∷ text) ≡ false
      → param_step (led_by (47 ∷ []) (row ∷ next) ++ ends_of end) (b ∷ (text ++ 47 ∷ rest)) ≡ (suc (length text), led_by (47 ∷ []) (row ∷ next))
  in_middle b text rest row next end f =
      let rows : RowsOf K = led_by (47 ∷ []) (row ∷ next) ++ ends_of end in
      let cut = segment_cut (b ∷ text) rest f in
      let best : longest_suffix (segment (b ∷ (text ++ 47 ∷ rest))) rows ≡ 47 ∷ [] =
      ap (λ (seg : List ℕ). longest_from seg [] rows) cut
      ∙ ap (λ found. longest_from (b ∷ (text ++ 47 ∷ [])) found (led_by (47 ∷ []) next ++ ends_of end)) (cut_is_best b text)
      ∙ longest_slash (b ∷ (text ++ 47 ∷ [])) next end in
      let n : length (segment (b ∷ (text ++ 47 ∷ rest))) - 1 ≡ suc (length text) = omega (arith, ap length cut, length-append text (47 ∷ [])) in
      param_step_by rows (b ∷ (text ++ 47 ∷ rest)) (47 ∷ []) best
      ∙ ap₂ (λ (count : ℕ) (more : RowsOf K). (count, more)) n (with_slash (row ∷ next) end)

  -- rows with a parameter in front step with it alone
  under_param : (rs : RowsOf K) → (step param_token (led_by (param_token ∷ []) rs) ≡ rs) × (step catch_all_token (led_by (param_token ∷ []) rs) ≡ [])
  under_param rs =
      let n : param_token ≢ catch_all_token = λ e. omega arith in
      (step_hit param_token [] rs ∙ led_by_none rs, step_miss catch_all_token param_token [] rs n)

  -- a parameter is all that these rows go on with
  taken : (b : ℕ) (p : List ℕ) (rs : RowsOf K) → b < 256
      → first (led_by (param_token ∷ []) rs) (b ∷ p) ≡ seek ((param_step rs (b ∷ p)).0 - 1) (param_step rs (b ∷ p)).1 p
  unfolding seek
  taken b p rs low =
      let n : param_token ≢ b = λ e. omega arith in
      let u = under_param rs in
      simp (step_miss b param_token [] rs n, u.0, u.1, seek_empty 0 p, or_none)

  -- past the end a route is found that ends here
  no_bytes_left : (k : ℕ) (rs : RowsOf K) (p : List ℕ) → length p ≤ k → seek k rs p ≡ own rs
  unfolding seek
  no_bytes_left k rs [] h = refl
  no_bytes_left zero rs (b ∷ p) h = absurd (omega arith)
  no_bytes_left (suc k) rs (b ∷ p) h = no_bytes_left k rs p (omega arith)

  -- a text that a parameter takes, and then an end or a slash; `b` is a byte, and not a token of its own
  pub param : (b : ℕ) (text : List ℕ) (row : List ℕ × K) (next : RowsOf K) (end : Option K) (o : Option (List ℕ)) → b < 256 → has_slash (b ∷ text) ≡ false
      → first (led_by (param_token ∷ []) (led_by (47 ∷ []) (row ∷ next) ++ ends_of end)) (joined (b ∷ text) o) ≡ behind end (row ∷ next) o
  param b text row next end o low f =
      let rows : RowsOf K = led_by (47 ∷ []) (row ∷ next) ++ ends_of end in
      ap (first (led_by (param_token ∷ []) rows)) (joined_more b text o)
      ∙ taken b (joined text o) rows low ∙ by o f
    where
      by : (o : Option (List ℕ)) → has_slash (b ∷ text) ≡ false
          → seek ((param_step (led_by (47 ∷ []) (row ∷ next) ++ ends_of end) (b ∷ joined text o)).0 - 1)
          (param_step (led_by (47 ∷ []) (row ∷ next) ++ ends_of end) (b ∷ joined text o)).1 (joined text o)
          ≡ behind end (row ∷ next) o
      by None f =
          ap (λ (z : ℕ × RowsOf K). seek (z.0 - 1) z.1 text) (in_last (b ∷ text) (row ∷ next) end f)
          ∙ no_bytes_left (suc (length text) - 1) (led_by (47 ∷ []) (row ∷ next) ++ ends_of end) text (omega arith)
          ∙ own_append (led_by (47 ∷ []) (row ∷ next)) (ends_of end)
          ∙ rw (own_led 47 [] (row ∷ next)) (own_ends end)
      by (Some rest) f =
          ap (λ (z : ℕ × RowsOf K). seek (z.0 - 1) z.1 (text ++ 47 ∷ rest)) (in_middle b text rest row next end f)
          ∙ seek_drop (suc (length text) - 1) (led_by (47 ∷ []) (row ∷ next)) (text ++ 47 ∷ rest)
          ∙ ap (λ p. seek 0 (led_by (47 ∷ []) (row ∷ next)) p) (drop_at text (47 ∷ rest) (suc (length text) - 1) (omega arith))
          ∙ seek_byte (led_by (47 ∷ []) (row ∷ next)) 47 rest (plain_led 47 [] (row ∷ next) (omega arith))
          ∙ ap (λ rows. seek 0 rows rest) (step_hit 47 [] (row ∷ next) ∙ led_by_none (row ∷ next))

  -- no text: the parameter takes nothing
  pub no_param : (rows : RowsOf K) (o : Option (List ℕ)) → first (led_by (param_token ∷ []) rows) (joined [] o) ≡ None
  unfolding seek
  no_param rows None = own_led param_token [] rows
  no_param rows (Some rest) =
      taken 47 rest rows (omega arith)
      ∙ ap (λ (z : ℕ × RowsOf K). seek (z.0 - 1) z.1 rest) (at_slash rows rest)
      ∙ seek_empty (0 - 1) rest

  -- the same, where rows go on behind the slash
  pub param_on : (b : ℕ) (text : List ℕ) (next : RowsOf K) (end : Option K) (o : Option (List ℕ)) → ltb 0 (length next) ≡ true → b < 256 → has_slash (b ∷ text) ≡ false
      → first (led_by (param_token ∷ []) (led_by (47 ∷ []) next ++ ends_of end)) (joined (b ∷ text) o) ≡ behind end next o
  param_on b text [] end o some low f = absurd (false≢true some)
  param_on b text (row ∷ next) end o some low f = param b text row next end o low f
