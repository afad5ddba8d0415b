-- A path and its texts: an LF in one of them, and that there is one.
use Rattle.std.proofs.Common.{◌≡◌, ℕ, Bool, true, false, cond, eqb, ◌||◌, List, [], ◌∷◌, refl, sym, ap, ◌∙◌}
use Rattle.std.specs.List.{list_any}
use Rattle.std.proofs.lemmas.Bool.{eqb-true}
use Rattle.fax_lines.specs.Reading.{onto}
use Rattle.fax_lines.specs.Spells.{has_byte}
use Rattle.fax_ask.specs.Path.{parts}

-- ---- a path has an LF where one of its texts has one

-- three truths may be grouped either way
or_assoc : (x y z : Bool) → (x || (y || z)) ≡ ((x || y) || z)
or_assoc true y z = refl
or_assoc false y z = refl

-- a byte put before the first text is among the texts, or one of theirs is
any_onto : (c b : ℕ) (texts : List (List ℕ)) → list_any (has_byte c) (onto b texts) ≡ (eqb b c || list_any (has_byte c) texts)
any_onto c b [] = sym (or_assoc (eqb b c) false false)
any_onto c b (text ∷ texts) = sym (or_assoc (eqb b c) (has_byte c text) (list_any (has_byte c) texts))

-- one byte more, a slash or not, has an LF where its texts have
byte_of : (b : ℕ) (bs : List ℕ) (slash : Bool) → eqb b 47 ≡ slash → has_byte 10 bs ≡ list_any (has_byte 10) (parts bs) → has_byte 10 (b ∷ bs) ≡ list_any (has_byte 10) (cond slash ([] ∷ parts bs) (onto b (parts bs)))
byte_of b bs true e h = ap (λ (n : ℕ). eqb n 10 || has_byte 10 bs) (eqb-true b 47 e) ∙ h
byte_of b bs false e h = ap (λ (t : Bool). eqb b 10 || t) h ∙ sym (any_onto 10 b (parts bs))

-- a path has an LF just where one of its texts has
pub byte_of_parts : (path : List ℕ) → has_byte 10 path ≡ list_any (has_byte 10) (parts path)
byte_of_parts [] = refl
byte_of_parts (b ∷ bs) = byte_of b bs (eqb b 47) refl (byte_of_parts bs)

-- ---- every path has a text

abbrev pub IsFilled : List (List ℕ) → Type 0
IsFilled texts = (text : List ℕ) × (more : List (List ℕ)) × (texts ≡ text ∷ more)

-- a byte put before texts leaves some
onto_fills : (b : ℕ) (texts : List (List ℕ)) → IsFilled (onto b texts)
onto_fills b [] = (b ∷ [], [], refl)
onto_fills b (text ∷ texts) = (b ∷ text, texts, refl)

-- a byte more, a slash or not, leaves some texts
filled_by : (b : ℕ) (bs : List ℕ) (slash : Bool) → IsFilled (cond slash ([] ∷ parts bs) (onto b (parts bs)))
filled_by b bs true = ([], parts bs, refl)
filled_by b bs false = onto_fills b (parts bs)

-- each path has a text
pub filled : (path : List ℕ) → IsFilled (parts path)
filled [] = ([], [], refl)
filled (b ∷ bs) = filled_by b bs (eqb b 47)
