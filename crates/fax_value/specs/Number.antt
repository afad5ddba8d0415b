-- Numbers as texts write them.
use Rattle.std.specs.Prelude.{ℕ, Bool, false, ◌&&◌, ◌==◌, List, [], ◌∷◌, length, nat_le, nat_lt, ◌^◌, Option, Some, None, if◌then◌else◌}
use Rattle.std.specs.Char.{is_ascii_digit}
use Rattle.std.specs.List.{list_all}
use Rattle.std.specs.Str.Parse.{digits_value}

-- 1 to 18 digits; leading zeros are allowed
abbrev pub is_number : List ℕ → Bool
is_number text = nat_le 1 (length text) && nat_le (length text) 18 && list_all is_ascii_digit text

-- the number that a text writes in base ten, if it writes one
abbrev pub number_of : List ℕ → Option ℕ
number_of text = if is_number text then Some (digits_value 10 text) else None

abbrev pub begins_with_zero : List ℕ → Bool
begins_with_zero [] = false
begins_with_zero (byte ∷ bytes) = byte == 48

-- a request's number has no zero in front
abbrev pub request_number_of : List ℕ → Option ℕ
request_number_of text = if begins_with_zero text then None else number_of text

-- a number that requests have
abbrev pub request_number : ℕ → Option ℕ
request_number n = if nat_lt 0 n && nat_lt n (10 ^ 18) then Some n else None
