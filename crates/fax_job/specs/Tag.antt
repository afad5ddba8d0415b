-- Tags of key lines.
use Rattle.std.specs.Prelude.{ℕ, Bool, not, ◌&&◌, ◌==◌, List, [], ◌∷◌, length, nat_le, codes}
use Rattle.std.specs.List.{list_all, list_any}
use Rattle.std.specs.Str.{bytes_eq}

-- a byte of 33 to 126 but `:`
abbrev pub is_tag_byte : ℕ → Bool
is_tag_byte byte = nat_le 33 byte && nat_le byte 126 && not (byte == 58)

-- 1 to 64 bytes of 33 to 126 without `:`
abbrev pub is_tag : List ℕ → Bool
is_tag text = nat_le 1 (length text) && nat_le (length text) 64 && list_all is_tag_byte text

-- sendq(5): the tags of a job description, in the order in which a job is written
abbrev pub known_tags : List (List ℕ)
known_tags = codes "jobid" ∷ codes "number" ∷ codes "modem" ∷ codes "jobtag" ∷ codes "tts" ∷ codes "killtime" ∷ codes "priority" ∷ codes "npages" ∷ codes "totpages" ∷ codes "ntries" ∷ codes "tottries" ∷ codes "maxtries" ∷ codes "ndials" ∷ codes "totdials" ∷ codes "maxdials" ∷ codes "state" ∷ codes "status" ∷ []

unfoldable pub is_known : List ℕ → Bool
is_known tag = list_any (λ known. bytes_eq known tag) known_tags
