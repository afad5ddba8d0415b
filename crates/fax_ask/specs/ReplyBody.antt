-- The body of a reply, wherever its bytes stand.
use Rattle.std.specs.Prelude.{ℕ, Bool, true, false, List, string_bytes}
use Rattle.fax_ask.specs.declared.reply.Body.{Body}
use Rattle.fax_ask.specs.declared.reply.Body.TheVariants.{Short, Made, Kept, Text}

abbrev pub body_bytes : Body → List ℕ
body_bytes (Short text) = text.bytes
body_bytes (Made text) = string_bytes text
body_bytes (Kept bytes) = bytes.items
body_bytes (Text bytes) = bytes.items

abbrev pub body_is_json : Body → Bool
body_is_json (Short text) = true
body_is_json (Made text) = true
body_is_json (Kept bytes) = true
body_is_json (Text bytes) = false
