-- A line is written in parts.
use Rattle.std.proofs.Common.{◌≡◌, ℕ, ◌+◌, Bool, true, false, List, [], ◌∷◌, ◌++◌, length, Option, None, Some, Result, Ok, Err, ap, sym, ◌∙◌, append_assoc, arith, length-append}
use Rattle.std.specs.Prelude.{OnErr, OnOk}
use Rattle.std.specs.Io.KnownBytes.{Appends}
use Rattle.fax_ending.specs.FaultLine.{spelled, spelled_place}
use Rattle.fax_ending.specs.declared.fault_line.FaultLine.{FaultLine}
use Rattle.fax_http.specs.declared.device.Watched.{Watched}
use Rattle.fax_http.specs.Device.{BrokeOff, Put, counted}

-- known bytes that grow by xs and then by ys grow by both
appends_both : (a b c : Option (List ℕ)) (xs ys : List ℕ) → Appends a b xs → Appends b c ys → Appends a c (xs ++ ys)
appends_both None b c xs ys p q = tt
appends_both (Some x) None c xs ys p q = absurd p
appends_both (Some x) (Some y) None xs ys p q = absurd q
appends_both (Some x) (Some y) (Some z) xs ys p q = q ∙ ap (λ v. v ++ ys) p ∙ append_assoc x xs ys

-- a count goes on from where it was
counted_on : (a b c m n k : ℕ) → counted b ≡ counted (a + m) → counted c ≡ counted (b + n) → k ≡ m + n → counted c ≡ counted (a + k)
counted_on a b c m n k p q e = omega (arith, p, q, e)

module _ {E : Type 0} (contents : E → Option (List ℕ)) (a b c : Watched E) (front behind : List ℕ) (first : Put contents a b front false) where
  -- a part and what stands behind it are both written
  pub put_on : (failed : Bool) → Put contents b c behind failed → Put contents a c (front ++ behind) failed
  put_on failed second = record {
    appended = appends_both (contents a.device) (contents b.device) (contents c.device) front behind first.appended second.appended;
    passed = counted_on a.passed b.passed c.passed (length front) (length behind) (length (front ++ behind)) first.passed second.passed (length-append front behind);
    failed_is = second.failed_is;
  }

-- a device that broke off in a part broke off in the line
pub broke_in : {E : Type 0} (contents : E → Option (List ℕ)) (a b : Watched E) (part behind : List ℕ) → BrokeOff contents a b part → BrokeOff contents a b (part ++ behind)
broke_in contents a b part behind o = record {
  front = o.front;
  back = o.back ++ behind;
  parts = ap (λ v. v ++ behind) o.parts ∙ append_assoc o.front o.back behind;
  some = omega (arith, o.some, length-append o.back behind);
  put = o.put;
}

-- one that wrote a part and broke off in what stands behind it broke off in both
pub broke_on : {E : Type 0} (contents : E → Option (List ℕ)) (a b c : Watched E) (front behind : List ℕ) → Put contents a b front false → BrokeOff contents b c behind
    → BrokeOff contents a c (front ++ behind)
broke_on contents a b c front behind p o = record {
  front = front ++ o.front;
  back = o.back;
  parts = ap (λ v. front ++ v) o.parts ∙ sym (append_assoc front o.front o.back);
  some = o.some;
  put = put_on contents a b c front o.front p true o.put;
}

-- ---- a line

module _ {E : Type 0} (contents : E → Option (List ℕ)) (line : FaultLine) (a b c : Watched E) where
  abbrev what : List ℕ
  what = line.what.now

  abbrev place : List ℕ
  place = spelled_place line.place

  abbrev end : List ℕ
  end = 10 ∷ []

  -- a device that breaks off in a part of a line broke off in the line
  pub broke_in_place : Put contents a b what false → BrokeOff contents b c place → BrokeOff contents a c (spelled line)
  broke_in_place p o =
      broke_in contents a c (what ++ place ++ line.between.now ++ line.word.now) end
      (broke_in contents a c (what ++ place ++ line.between.now) line.word.now (broke_in contents a c (what ++ place) line.between.now (broke_on contents a b c what place p o)))

  pub broke_between : Put contents a b (what ++ place) false → BrokeOff contents b c line.between.now → BrokeOff contents a c (spelled line)
  broke_between p o =
      broke_in contents a c (what ++ place ++ line.between.now ++ line.word.now) end
      (broke_in contents a c (what ++ place ++ line.between.now) line.word.now (broke_on contents a b c (what ++ place) line.between.now p o))

  pub broke_in_word : Put contents a b (what ++ place ++ line.between.now) false → BrokeOff contents b c line.word.now → BrokeOff contents a c (spelled line)
  broke_in_word p o = broke_in contents a c (what ++ place ++ line.between.now ++ line.word.now) end (broke_on contents a b c (what ++ place ++ line.between.now) line.word.now p o)

  pub broke_at_end : Put contents a b (what ++ place ++ line.between.now ++ line.word.now) false → BrokeOff contents b c end → BrokeOff contents a c (spelled line)
  broke_at_end p o = broke_on contents a b c (what ++ place ++ line.between.now ++ line.word.now) end p o

-- ---- results

pub on_err : {T F : Type 0} (r : Result T F) (P : Type 0) → P → OnErr r P
on_err (Ok x) P p = tt
on_err (Err e) P p = p

pub on_err_so : {T F : Type 0} (r : Result T F) (P Q : Type 0) → (P → Q) → OnErr r P → OnErr r Q
on_err_so (Ok x) P Q so p = tt
on_err_so (Err e) P Q so p = so p

pub on_ok_so : {T F : Type 0} (r : Result T F) (P Q : Type 0) → (P → Q) → OnOk r P → OnOk r Q
on_ok_so (Ok x) P Q so p = so p
on_ok_so (Err e) P Q so p = tt
