-- Messages to the queue (RFC 9112).
use Rattle.std.specs.Prelude.{ℕ, List, ◌++◌, codes, length}
use Rattle.std.specs.Fmt.{decimal}
use Rattle.fax_journal.specs.Entry.{Request}

-- the head of a POST to a path, by that client under that number, with a body of that length
abbrev pub post_head : List ℕ → ℕ → List ℕ → ℕ → List ℕ
post_head client number path length =
    codes "POST " ++ path ++ codes " HTTP/1.1\r\nHost: localhost\r\nFax-Client: " ++ client
    ++ codes "\r\nFax-Number: " ++ decimal number
    ++ codes "\r\nContent-Length: " ++ decimal length
    ++ codes "\r\n\r\n"

-- the POST of a client's request
abbrev pub message_of : List ℕ → Request → List ℕ
message_of client r = post_head client r.number r.path (length r.body) ++ r.body

-- asks which modems there are, and what they hold
abbrev pub get_modems : List ℕ
get_modems = codes "GET /modems HTTP/1.1\r\nHost: localhost\r\n\r\n"
