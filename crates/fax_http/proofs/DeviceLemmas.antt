-- What goes through a device in two parts goes through it.
use Rattle.std.proofs.Common.{◌≡◌, ℕ, ◌+◌, ◌-◌, ◌<◌, Bool, true, false, List, [], ◌++◌, length, take, drop, Option, None, Some, refl, ap, subst, sym, ◌∙◌, append_assoc, append-nil, arith, length-append}
use Rattle.std.proofs.lemmas.List.{take-append-drop, take_rest}
use Rattle.std.specs.Io.KnownBytes.{Appends, Consumes, Keeps}
use Rattle.fax_http.specs.declared.device.Watched.{Watched}
use Rattle.fax_http.specs.Device.{BrokeOff, Put, Took, counted}

-- known bytes that stay grow by none
pub appends_none : (a : Option (List ℕ)) → Appends a a []
appends_none None = tt
appends_none (Some xs) = sym (append-nil xs)

-- the same of bytes that are kept
pub appends_kept : (a b : Option (List ℕ)) → Keeps a b → Appends a b []
appends_kept None b k = tt
appends_kept (Some xs) None k = absurd k
appends_kept (Some xs) (Some ys) k = k ∙ sym (append-nil xs)

-- known bytes that grow by xs and then by ys grow by both
pub appends_both : (a b c : Option (List ℕ)) (xs ys : List ℕ) → Appends a b xs → Appends b c ys → Appends a c (xs ++ ys)
appends_both None b c xs ys p q = tt
appends_both (Some x) None c xs ys p q = absurd p
appends_both (Some x) (Some y) None xs ys p q = absurd q
appends_both (Some x) (Some y) (Some z) xs ys p q = q ∙ ap (λ v. v ++ ys) p ∙ append_assoc x xs ys

-- known bytes that stay lose none
pub consumes_none : (a : Option (List ℕ)) → Consumes a a []
consumes_none None = tt
consumes_none (Some xs) = refl

-- the same of bytes that are kept
pub consumes_kept : (a b : Option (List ℕ)) → Keeps a b → Consumes a b []
consumes_kept None b k = tt
consumes_kept (Some xs) None k = absurd k
consumes_kept (Some xs) (Some ys) k = sym k

-- known bytes that lose xs and then ys lose both
pub consumes_both : (a b c : Option (List ℕ)) (xs ys : List ℕ) → Consumes a b xs → Consumes b c ys → Consumes a c (xs ++ ys)
consumes_both None b c xs ys p q = tt
consumes_both (Some x) None c xs ys p q = absurd p
consumes_both (Some x) (Some y) None xs ys p q = absurd q
consumes_both (Some x) (Some y) (Some z) xs ys p q = p ∙ ap (λ v. xs ++ v) q ∙ sym (append_assoc xs ys z)

-- a count goes on from where it was
counted_on : (a b c m n k : ℕ) → counted b ≡ counted (a + m) → counted c ≡ counted (b + n) → k ≡ m + n → counted c ≡ counted (a + k)
counted_on a b c m n k p q e = omega (arith, p, q, e)

module _ {W : Type 0} (contents : W → Option (List ℕ)) where
  -- a writer that stays, and hasn't failed, has written nothing more
  pub put_none : (w : Watched W) → w.failed ≡ false → Put contents w w [] false
  put_none w going = record { appended = appends_none (contents w.device); passed = omega arith; failed_is = going }

  -- bytes written and then others are both written
  pub put_both : (a b c : Watched W) (xs ys : List ℕ) (failed : Bool) → Put contents a b xs false → Put contents b c ys failed → Put contents a c (xs ++ ys) failed
  put_both a b c xs ys failed p q = record {
    appended = appends_both (contents a.device) (contents b.device) (contents c.device) xs ys p.appended q.appended;
    passed = counted_on a.passed b.passed c.passed (length xs) (length ys) (length (xs ++ ys)) p.passed q.passed (length-append xs ys);
    failed_is = q.failed_is;
  }

  -- some of the bytes were written, and the rest wasn't yet
  pub record HasPut (a b : Watched W) (bytes rest : List ℕ) : Type 0 where
    pub front : List ℕ
    pub parts : bytes ≡ front ++ rest
    pub put : Put contents a b front false

  -- of bytes that are to be written none was written yet
  pub has_put_none : (a : Watched W) (bytes : List ℕ) → a.failed ≡ false → HasPut a a bytes bytes
  has_put_none a bytes going = record { front = []; parts = refl; put = put_none a going }

  -- what is written of the rest leaves that much less
  pub has_put_more : (a b c : Watched W) (bytes rest : List ℕ) (n : ℕ) → HasPut a b bytes rest → Put contents b c (take n rest) false
      → HasPut a c bytes (take (length rest - n) (drop n rest))
  has_put_more a b c bytes rest n h p = record {
    front = h.front ++ take n rest;
    parts =
        h.parts ∙ ap (λ v. h.front ++ v) (sym (take-append-drop n rest)) ∙ sym (append_assoc h.front (take n rest) (drop n rest))
        ∙ ap (λ v. (h.front ++ take n rest) ++ v) (sym (take_rest rest n));
    put = put_both a b c h.front (take n rest) false h.put p;
  }

  -- where no rest is left, all is written
  pub has_put_all : (a b : Watched W) (bytes rest : List ℕ) → HasPut a b bytes rest → rest ≡ [] → Put contents a b bytes false
  has_put_all a b bytes rest h none =
      subst (λ v. Put contents a b v false) (sym (h.parts ∙ ap (λ v. h.front ++ v) none ∙ append-nil h.front)) h.put

  -- where some is left and the writer fails, it broke off
  pub has_put_some : (a b c : Watched W) (bytes rest : List ℕ) → HasPut a b bytes rest → 0 < length rest → Put contents b c [] true → BrokeOff contents a c bytes
  has_put_some a b c bytes rest h some p = record {
    front = h.front;
    back = rest;
    parts = h.parts;
    some = some;
    put = subst (λ v. Put contents a c v true) (append-nil h.front) (put_both a b c h.front [] true h.put p);
  }

  -- a writer that broke off in some bytes broke off in these with others behind
  pub broke_in_front : (a b : Watched W) (xs ys : List ℕ) → BrokeOff contents a b xs → BrokeOff contents a b (xs ++ ys)
  broke_in_front a b xs ys o = record {
    front = o.front;
    back = o.back ++ ys;
    parts = ap (λ v. v ++ ys) o.parts ∙ append_assoc o.front o.back ys;
    some = omega (arith, o.some, length-append o.back ys);
    put = o.put;
  }

  -- a writer that wrote some and broke off in others broke off in both
  pub broke_behind : (a b c : Watched W) (xs ys : List ℕ) → Put contents a b xs false → BrokeOff contents b c ys → BrokeOff contents a c (xs ++ ys)
  broke_behind a b c xs ys p o = record {
    front = xs ++ o.front;
    back = o.back;
    parts = ap (λ v. xs ++ v) o.parts ∙ sym (append_assoc xs o.front o.back);
    some = o.some;
    put = put_both a b c xs o.front true p o.put;
  }

module _ {R : Type 0} (remaining : R → Option (List ℕ)) where
  -- a reader that stays, and hasn't failed, has read nothing more
  pub took_none : (r : Watched R) → r.failed ≡ false → Took remaining r r [] false
  took_none r going = record { consumed = consumes_none (remaining r.device); passed = omega arith; failed_is = going }

  -- bytes read and then others are both read
  pub took_both : (a b c : Watched R) (xs ys : List ℕ) (failed : Bool) → Took remaining a b xs false → Took remaining b c ys failed → Took remaining a c (xs ++ ys) failed
  took_both a b c xs ys failed p q = record {
    consumed = consumes_both (remaining a.device) (remaining b.device) (remaining c.device) xs ys p.consumed q.consumed;
    passed = counted_on a.passed b.passed c.passed (length xs) (length ys) (length (xs ++ ys)) p.passed q.passed (length-append xs ys);
    failed_is = q.failed_is;
  }
