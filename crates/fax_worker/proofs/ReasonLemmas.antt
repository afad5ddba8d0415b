-- A reason is a status.
use Rattle.std.proofs.Common.{◌≡◌, arith, eqb, ℕ, ◌≤◌, ◌&&◌, true, false, not, List, [], ◌∷◌, length, refl, ap}
use Rattle.std.proofs.lemmas.Bool.{and_from, and_parts, leb-true, ne_eqb, not-true}
use Rattle.std.specs.List.{list_all}
use Rattle.std.specs.Prelude.{nat_le}
use Rattle.fax_value.specs.Blank.{begins_with_blank}
use Rattle.fax_value.specs.Value.{IsStatus, ends_with_backslash, is_status_byte}
use Rattle.fax_ask.specs.Report.{begins_with_space, is_reason, is_reason_byte}

-- a byte that a reason may have is one that a status may have
status_byte : (byte : ℕ) → is_reason_byte byte ≡ true → is_status_byte byte ≡ true
status_byte byte is = rw is refl

-- so all of a reason are
status_bytes : (text : List ℕ) → list_all is_reason_byte text ≡ true → list_all is_status_byte text ≡ true
status_bytes [] all = refl
status_bytes (byte ∷ bytes) all =
    let parts = and_parts (is_reason_byte byte) (list_all is_reason_byte bytes) all in
    and_from (is_status_byte byte) (list_all is_status_byte bytes) (status_byte byte parts.0) (status_bytes bytes parts.1)

-- it begins with no blank
no_blank : (text : List ℕ) → begins_with_space text ≡ false → list_all is_reason_byte text ≡ true → begins_with_blank text ≡ false
no_blank [] begins all = refl
no_blank (byte ∷ bytes) begins all =
    let first = (and_parts (is_reason_byte byte) (list_all is_reason_byte bytes) all).0 in
    let least : 32 ≤ byte = leb-true 32 byte (and_parts (nat_le 32 byte) (not (eqb byte 127)) first).0 in
    rw (begins, ne_eqb byte 9 (λ is. omega (arith, least, is))) refl

-- so a reason is a status
pub reason_is_status : (text : List ℕ) → is_reason text ≡ true → IsStatus text
reason_is_status text is =
    let short = nat_le (length text) 200 in
    let first = not (begins_with_space text) in
    let last = not (ends_with_backslash text) in
    let bytes = and_parts (short && first && last) (list_all is_reason_byte text) is in
    let ends = and_parts (short && first) last bytes.0 in
    let begins = not-true (begins_with_space text) (and_parts short first ends.0).1 in
    and_from (not (begins_with_blank text) && last) (list_all is_status_byte text)
    (and_from (not (begins_with_blank text)) last (ap not (no_blank text begins bytes.1)) ends.1)
    (status_bytes text bytes.1)
