use Rattle.std.specs.Prelude.{ℕ, List, [], ◌++◌, Bool, codes, decimal, unwrap_or, if◌then◌else◌}
use Rattle.http.specs.StatusCode.{reason_phrase}

-- the phrase of a status (RFC 9110, section 15)
unfoldable pub phrase_of : ℕ → List ℕ
phrase_of status = unwrap_or (reason_phrase status) []

-- the media type of a body (RFC 9110, section 8.3)
abbrev pub media_type : Bool → List ℕ
media_type is_json = if is_json then codes "application/json" else codes "text/plain"

-- the field that says that no reply follows (RFC 9112, section 9.6)
abbrev pub closing_field : Bool → List ℕ
closing_field is_last = if is_last then codes "Connection: close\r\n" else []

-- the head of a reply: status, whether its body is JSON, how long that is, and whether it is the last reply
unfoldable pub head_bytes : ℕ → Bool → ℕ → Bool → List ℕ
head_bytes status is_json body_length is_last =
    codes "HTTP/1.1 " ++ decimal status ++ codes " " ++ phrase_of status
    ++ codes "\r\nContent-Type: " ++ media_type is_json
    ++ codes "\r\nContent-Length: " ++ decimal body_length
    ++ codes "\r\n" ++ closing_field is_last ++ codes "\r\n"
