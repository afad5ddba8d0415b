-- Methods of requests.
use Rattle.std.specs.Prelude.{ℕ, List, codes, if◌then◌else◌}
use Rattle.std.specs.Str.{bytes_eq}
use Rattle.fax_ask.specs.declared.method.Method.{Method}
use Rattle.fax_ask.specs.declared.method.Method.TheVariants.{Get, Post, Another}

-- RFC 9110, section 9.1: the names of methods are case-sensitive
abbrev pub method_of : List ℕ → Method
method_of name = if bytes_eq name (codes "GET") then Get else (if bytes_eq name (codes "POST") then Post else Another)
