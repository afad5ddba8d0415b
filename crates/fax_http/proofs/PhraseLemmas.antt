-- The phrases of statuses are short.
use Rattle.std.proofs.Common.{ℕ, ◌≤◌, Bool, List, [], length, lit≤}
use Rattle.std.specs.Prelude.{◌==◌, Option, Some, None, codes, unwrap_or, if◌then◌else◌, true, false}
use Rattle.http.specs.StatusCode.{reason_phrase}
use Rattle.fax_http.specs.Reply.{phrase_of}

record IsShort (phrase : Option (List ℕ)) : Type 0 where
  short : length (unwrap_or phrase []) ≤ 31

-- a phrase of at most 31 bytes, or a short one else, is short
short_if : (b : Bool) (phrase : List ℕ) (rest : Option (List ℕ)) → length phrase ≤ 31 → IsShort rest → IsShort (if b then Some phrase else rest)
short_if b phrase rest here there =
    elim b as (λ c. IsShort (if c then Some phrase else rest)) [ true ↦ record { short = here } | false ↦ there ]

-- where there is no phrase, that is short
none : IsShort None
none = record { short = lit≤ tt }

-- each status has a short phrase or none
all_short : (status : ℕ) → IsShort (reason_phrase status)
all_short status =
    short_if (status == 100) (codes "Continue") _ (lit≤ tt) (
    short_if (status == 101) (codes "Switching Protocols") _ (lit≤ tt) (
    short_if (status == 102) (codes "Processing") _ (lit≤ tt) (
    short_if (status == 103) (codes "Early Hints") _ (lit≤ tt) (
    short_if (status == 200) (codes "OK") _ (lit≤ tt) (
    short_if (status == 201) (codes "Created") _ (lit≤ tt) (
    short_if (status == 202) (codes "Accepted") _ (lit≤ tt) (
    short_if (status == 203) (codes "Non Authoritative Information") _ (lit≤ tt) (
    short_if (status == 204) (codes "No Content") _ (lit≤ tt) (
    short_if (status == 205) (codes "Reset Content") _ (lit≤ tt) (
    short_if (status == 206) (codes "Partial Content") _ (lit≤ tt) (
    short_if (status == 207) (codes "Multi-Status") _ (lit≤ tt) (
    short_if (status == 208) (codes "Already Reported") _ (lit≤ tt) (
    short_if (status == 226) (codes "IM Used") _ (lit≤ tt) (
    short_if (status == 300) (codes "Multiple Choices") _ (lit≤ tt) (
    short_if (status == 301) (codes "Moved Permanently") _ (lit≤ tt) (
    short_if (status == 302) (codes "Found") _ (lit≤ tt) (
    short_if (status == 303) (codes "See Other") _ (lit≤ tt) (
    short_if (status == 304) (codes "Not Modified") _ (lit≤ tt) (
    short_if (status == 305) (codes "Use Proxy") _ (lit≤ tt) (
    short_if (status == 307) (codes "Temporary Redirect") _ (lit≤ tt) (
    short_if (status == 308) (codes "Permanent Redirect") _ (lit≤ tt) (
    short_if (status == 400) (codes "Bad Request") _ (lit≤ tt) (
    short_if (status == 401) (codes "Unauthorized") _ (lit≤ tt) (
    short_if (status == 402) (codes "Payment Required") _ (lit≤ tt) (
    short_if (status == 403) (codes "Forbidden") _ (lit≤ tt) (
    short_if (status == 404) (codes "Not Found") _ (lit≤ tt) (
    short_if (status == 405) (codes "Method Not Allowed") _ (lit≤ tt) (
    short_if (status == 406) (codes "Not Acceptable") _ (lit≤ tt) (
    short_if (status == 407) (codes "Proxy Authentication Required") _ (lit≤ tt) (
    short_if (status == 408) (codes "Request Timeout") _ (lit≤ tt) (
    short_if (status == 409) (codes "Conflict") _ (lit≤ tt) (
    short_if (status == 410) (codes "Gone") _ (lit≤ tt) (
    short_if (status == 411) (codes "Length Required") _ (lit≤ tt) (
    short_if (status == 412) (codes "Precondition Failed") _ (lit≤ tt) (
    short_if (status == 413) (codes "Payload Too Large") _ (lit≤ tt) (
    short_if (status == 414) (codes "URI Too Long") _ (lit≤ tt) (
    short_if (status == 415) (codes "Unsupported Media Type") _ (lit≤ tt) (
    short_if (status == 416) (codes "Range Not Satisfiable") _ (lit≤ tt) (
    short_if (status == 417) (codes "Expectation Failed") _ (lit≤ tt) (
    short_if (status == 418) (codes "I'm a teapot") _ (lit≤ tt) (
    short_if (status == 421) (codes "Misdirected Request") _ (lit≤ tt) (
    short_if (status == 422) (codes "Unprocessable Entity") _ (lit≤ tt) (
    short_if (status == 423) (codes "Locked") _ (lit≤ tt) (
    short_if (status == 424) (codes "Failed Dependency") _ (lit≤ tt) (
    short_if (status == 425) (codes "Too Early") _ (lit≤ tt) (
    short_if (status == 426) (codes "Upgrade Required") _ (lit≤ tt) (
    short_if (status == 428) (codes "Precondition Required") _ (lit≤ tt) (
    short_if (status == 429) (codes "Too Many Requests") _ (lit≤ tt) (
    short_if (status == 431) (codes "Request Header Fields Too Large") _ (lit≤ tt) (
    short_if (status == 451) (codes "Unavailable For Legal Reasons") _ (lit≤ tt) (
    short_if (status == 500) (codes "Internal Server Error") _ (lit≤ tt) (
    short_if (status == 501) (codes "Not Implemented") _ (lit≤ tt) (
    short_if (status == 502) (codes "Bad Gateway") _ (lit≤ tt) (
    short_if (status == 503) (codes "Service Unavailable") _ (lit≤ tt) (
    short_if (status == 504) (codes "Gateway Timeout") _ (lit≤ tt) (
    short_if (status == 505) (codes "HTTP Version Not Supported") _ (lit≤ tt) (
    short_if (status == 506) (codes "Variant Also Negotiates") _ (lit≤ tt) (
    short_if (status == 507) (codes "Insufficient Storage") _ (lit≤ tt) (
    short_if (status == 508) (codes "Loop Detected") _ (lit≤ tt) (
    short_if (status == 510) (codes "Not Extended") _ (lit≤ tt) (
    short_if (status == 511) (codes "Network Authentication Required") _ (lit≤ tt) (
    none))))))))))))))))))))))))))))))))))))))))))))))))))))))))))))))

-- so each status has one of at most 31 bytes
pub short_phrase : (status : ℕ) → length (phrase_of status) ≤ 31
unfolding phrase_of
short_phrase status = (all_short status).short
