-- A path that names a request has no LF.
use Rattle.std.proofs.Common.{◌≡◌, ℕ, Bool, true, false, cond, eqb, leb, ◌&&◌, List, [], ◌∷◌, length, refl, sym, ap, ◌∙◌, arith, option_map}
use Rattle.std.specs.Prelude.{Option, Some, None, codes, option_and_then}
use Rattle.std.specs.Char.{is_ascii_digit}
use Rattle.std.specs.Cmp.Lexicographic.{bytes_decides}
use Rattle.std.specs.List.{list_all, list_any}
use Rattle.std.specs.Str.{bytes_eq}
use Rattle.std.specs.Str.Parse.{digits_value}
use Rattle.std.proofs.lemmas.Bool.{and_parts, or_from, ne_eqb, eqb-true, leb-true}
use Rattle.std.proofs.lemmas.List.{nil_from_length}
use Rattle.std.proofs.lemmas.Bool.{false≢true}
use Rattle.std.proofs.lemmas.Option.{same_Some}
use Rattle.fax_value.specs.Name.{is_name, is_name_byte}
use Rattle.fax_value.specs.Number.{begins_with_zero, is_number, number_of, request_number_of}
use Rattle.fax_lines.specs.Spells.{has_byte}
use Rattle.fax_ask.specs.Laws.{RoutedPathsLackLf}
use Rattle.fax_ask.specs.declared.method.Method.{Method}
use Rattle.fax_ask.specs.declared.method.Method.TheVariants.{Get, Post, Another}
use Rattle.fax_ask.specs.declared.request.Action.TheVariants.{Suspend, Resume, Kill, Alter}
use Rattle.fax_ask.specs.declared.request.ReportKind.TheVariants.{Call, Page, Outcome}
use Rattle.fax_ask.specs.declared.request.Request.{Request}
use Rattle.fax_ask.specs.declared.request.Request.TheVariants.{OnJob, Mark, Next, OnGrant, Floor, Purge, Show}
use Rattle.fax_ask.specs.Path.{parts, two_texts}
use Rattle.fax_ask.specs.declared.view.View.TheVariants as view
use Rattle.fax_ask.specs.Request.{job_request, job_times, jobs_request, modem_action, modem_request, modems_request, grant_report, grant_request, grants_request, imports_request, numbers_request, root_request, path_request, request_of, job_action}
use Rattle.fax_ask.proofs.PathLemmas.{byte_of_parts}

-- no text has an LF
abbrev lacks_lf : List (List ℕ) → Type 0
lacks_lf texts = list_any (has_byte 10) texts ≡ false

-- a text without an LF before texts without one
one_more : (text : List ℕ) (texts : List (List ℕ)) → has_byte 10 text ≡ false → lacks_lf texts → lacks_lf (text ∷ texts)
one_more text texts h t = or_from (has_byte 10 text) (list_any (has_byte 10) texts) h t

-- a text that is a word without an LF has none
same_text : (text word : List ℕ) → bytes_eq text word ≡ true → has_byte 10 word ≡ false → has_byte 10 text ≡ false
same_text text word e h = ap (has_byte 10) ((bytes_decides text word).0 e) ∙ h

-- a digit is no LF
digit_is_no_lf : (byte : ℕ) → is_ascii_digit byte ≡ true → eqb byte 10 ≡ false
digit_is_no_lf byte h =
    let from = leb-true 48 byte (and_parts (leb 48 byte) (leb byte 57) h).0 in
    ne_eqb byte 10 (λ e. omega arith)

-- digits have none
digits_lack_lf : (text : List ℕ) → list_all is_ascii_digit text ≡ true → has_byte 10 text ≡ false
digits_lack_lf [] h = refl
digits_lack_lf (byte ∷ text) h =
    let both = and_parts (is_ascii_digit byte) (list_all is_ascii_digit text) h in
    or_from (eqb byte 10) (has_byte 10 text) (digit_is_no_lf byte both.0) (digits_lack_lf text both.1)

-- what is read as a number has none
of_number : (text : List ℕ) (n : ℕ) (is : Bool) → is_number text ≡ is → cond is (Some (digits_value 10 text)) None ≡ Some n → has_byte 10 text ≡ false
of_number text n true e h = digits_lack_lf text (and_parts (leb 1 (length text) && leb (length text) 18) (list_all is_ascii_digit text) e).1
of_number text n false e h = absurd cc

-- nor has what is read as one without a zero in front
numbers_lack_lf : (text : List ℕ) (n : ℕ) (zero : Bool) → cond zero None (number_of text) ≡ Some n → has_byte 10 text ≡ false
numbers_lack_lf text n true h = absurd cc
numbers_lack_lf text n false h = of_number text n (is_number text) refl h

-- ---- the table

-- an action on a job that names a request has no LF
in_action : (job : ℕ) (action : List ℕ) (request : Request) (a b c d : Bool)
    → bytes_eq action (codes "suspend") ≡ a → bytes_eq action (codes "resume") ≡ b → bytes_eq action (codes "kill") ≡ c → bytes_eq action (codes "alter") ≡ d
    → cond a (Some (OnJob job Suspend)) (cond b (Some (OnJob job Resume)) (cond c (Some (OnJob job Kill)) (cond d (Some (OnJob job Alter)) None))) ≡ Some request
    → has_byte 10 action ≡ false
in_action job action request true b c d e f g h is = same_text action (codes "suspend") e refl
in_action job action request false true c d e f g h is = same_text action (codes "resume") f refl
in_action job action request false false true d e f g h is = same_text action (codes "kill") g refl
in_action job action request false false false true e f g h is = same_text action (codes "alter") h refl
in_action job action request false false false false e f g h is = absurd cc

-- nor has what shows something at /jobs/{id}
in_view : (id : List ℕ) (request : Request) (newest : Bool) (number : Option ℕ) → bytes_eq id (codes "newest") ≡ newest → request_number_of id ≡ number
    → option_map Show (cond newest (Some view.Newest) (option_map view.Job number)) ≡ Some request → has_byte 10 id ≡ false
in_view id request true number named e is = same_text id (codes "newest") named refl
in_view id request false None named e is = absurd cc
in_view id request false (Some job) named e is = numbers_lack_lf id job (begins_with_zero id) e

-- nor has a job's number before an action that names a request
in_posted : (id action : List ℕ) (request : Request) (number : Option ℕ) → request_number_of id ≡ number
    → option_and_then (λ job. job_action job action) number ≡ Some request → lacks_lf (id ∷ action ∷ [])
in_posted id action request None e is = absurd cc
in_posted id action request (Some job) e is =
    one_more id (action ∷ []) (numbers_lack_lf id job (begins_with_zero id) e)
    (one_more action [] (in_action job action request _ _ _ _ refl refl refl refl is) refl)

-- nor have a job's number and the word of its times
in_times : (id word : List ℕ) (request : Request) (number : Option ℕ) → request_number_of id ≡ number
    → option_and_then (λ job. job_times job word) number ≡ Some request → lacks_lf (id ∷ word ∷ [])
in_times id word request None e is = absurd cc
in_times id word request (Some job) e is =
    one_more id (word ∷ []) (numbers_lack_lf id job (begins_with_zero id) e)
    (one_more word [] (by (bytes_eq word (codes "times")) refl is) refl)
  where
    by : (named : Bool) → bytes_eq word (codes "times") ≡ named → cond named (Some (Show (view.Times job))) None ≡ Some request → has_byte 10 word ≡ false
    by true f h = same_text word (codes "times") f refl
    by false f h = absurd cc

-- nor has the word of a purge
in_purge : (id : List ℕ) (request : Request) (named : Bool) → bytes_eq id (codes "purge") ≡ named → cond named (Some Purge) None ≡ Some request → has_byte 10 id ≡ false
in_purge id request true e is = same_text id (codes "purge") e refl
in_purge id request false e is = absurd cc

-- nor have the texts from {id} on
in_job : (method : Method) (id : List ℕ) (rest : List (List ℕ)) (request : Request) → job_request method id rest ≡ Some request → lacks_lf (id ∷ rest)
in_job Get id [] request is = one_more id [] (in_view id request _ _ refl refl is) refl
in_job Get id (word ∷ []) request is = in_times id word request (request_number_of id) refl is
in_job Get id (word ∷ more ∷ rest) request is = absurd cc
in_job Post id [] request is = one_more id [] (in_purge id request (bytes_eq id (codes "purge")) refl is) refl
in_job Post id (action ∷ []) request is = in_posted id action request (request_number_of id) refl is
in_job Post id (action ∷ more ∷ rest) request is = absurd cc
in_job Another id rest request is = absurd cc

-- nor have the texts behind `jobs`
in_jobs : (method : Method) (rest : List (List ℕ)) (request : Request) → jobs_request method rest ≡ Some request → lacks_lf rest
in_jobs Get [] request is = refl
in_jobs Post [] request is = refl
in_jobs Another [] request is = refl
in_jobs Get (id ∷ rest) request is = in_job Get id rest request is
in_jobs Post (id ∷ rest) request is = in_job Post id rest request is
in_jobs Another (id ∷ rest) request is = in_job Another id rest request is

-- ---- modems and grants

-- a byte of a name is no LF
name_byte_is_no_lf : (byte : ℕ) → is_name_byte byte ≡ true → eqb byte 10 ≡ false
name_byte_is_no_lf byte h = ne_eqb byte 10 (λ e. let other : is_name_byte 10 ≡ true = sym (ap is_name_byte e) ∙ h in absurd (false≢true other))

-- bytes of names have none
bytes_lack_lf : (text : List ℕ) → list_all is_name_byte text ≡ true → has_byte 10 text ≡ false
bytes_lack_lf [] h = refl
bytes_lack_lf (byte ∷ text) h =
    let both = and_parts (is_name_byte byte) (list_all is_name_byte text) h in
    or_from (eqb byte 10) (has_byte 10 text) (name_byte_is_no_lf byte both.0) (bytes_lack_lf text both.1)

-- a name has none
names_lack_lf : (text : List ℕ) → is_name text ≡ true → has_byte 10 text ≡ false
names_lack_lf text h = bytes_lack_lf text (and_parts (leb 1 (length text) && leb (length text) 32) (list_all is_name_byte text) h).1

-- two texts without an LF are texts without one
in_two : (rest : List (List ℕ)) (texts : List ℕ × List ℕ) → two_texts rest ≡ Some texts → has_byte 10 texts.0 ≡ false → has_byte 10 texts.1 ≡ false → lacks_lf rest
in_two [] texts e h g = absurd cc
in_two (first ∷ []) texts e h g = absurd cc
in_two (first ∷ second ∷ []) texts e h g =
    let same = same_Some (first, second) texts e in
    one_more first (second ∷ []) (ap (λ (t : List ℕ × List ℕ). has_byte 10 t.0) same ∙ h)
    (one_more second [] (ap (λ (t : List ℕ × List ℕ). has_byte 10 t.1) same ∙ g) refl)
in_two (first ∷ second ∷ third ∷ more) texts e h g = absurd cc

-- an action on a modem that names a request has none
in_modem_action : (modem action : List ℕ) (request : Request) (a b c : Bool)
    → bytes_eq action (codes "ready") ≡ a → bytes_eq action (codes "down") ≡ b → bytes_eq action (codes "next") ≡ c
    → cond a (Some (Mark modem false)) (cond b (Some (Mark modem true)) (cond c (Some (Next modem)) None)) ≡ Some request
    → has_byte 10 action ≡ false
in_modem_action modem action request true b c e f g is = same_text action (codes "ready") e refl
in_modem_action modem action request false true c e f g is = same_text action (codes "down") f refl
in_modem_action modem action request false false true e f g is = same_text action (codes "next") g refl
in_modem_action modem action request false false false e f g is = absurd cc

-- nor have a modem's name and its action
in_named : (rest : List (List ℕ)) (texts : List ℕ × List ℕ) (request : Request) (named : Bool) → two_texts rest ≡ Some texts → is_name texts.0 ≡ named
    → cond named (modem_action texts.0 texts.1) None ≡ Some request → lacks_lf rest
in_named rest texts request true e n is =
    in_two rest texts e (names_lack_lf texts.0 n) (in_modem_action texts.0 texts.1 request _ _ _ refl refl refl is)
in_named rest texts request false e n is = absurd cc

-- nor have two texts that name a request of a modem, if they are two
in_modem : (rest : List (List ℕ)) (request : Request) (o : Option (List ℕ × List ℕ)) → two_texts rest ≡ o → modem_request o ≡ Some request → lacks_lf rest
in_modem rest request None e is = absurd cc
in_modem rest request (Some texts) e is = in_named rest texts request (is_name texts.0) e refl is

-- nor have the texts behind `modems`
in_modems : (method : Method) (rest : List (List ℕ)) (request : Request) → modems_request method rest ≡ Some request → lacks_lf rest
in_modems Get [] request is = refl
in_modems Get (text ∷ rest) request is = absurd cc
in_modems Post rest request is = in_modem rest request (two_texts rest) refl is
in_modems Another rest request is = absurd cc

-- a report on a grant that names a request has none
in_report : (grant : ℕ) (report : List ℕ) (request : Request) (a b c : Bool)
    → bytes_eq report (codes "call") ≡ a → bytes_eq report (codes "page") ≡ b → bytes_eq report (codes "outcome") ≡ c
    → cond a (Some (OnGrant grant Call)) (cond b (Some (OnGrant grant Page)) (cond c (Some (OnGrant grant Outcome)) None)) ≡ Some request
    → has_byte 10 report ≡ false
in_report grant report request true b c e f g is = same_text report (codes "call") e refl
in_report grant report request false true c e f g is = same_text report (codes "page") f refl
in_report grant report request false false true e f g is = same_text report (codes "outcome") g refl
in_report grant report request false false false e f g is = absurd cc

-- nor have a grant's number and its report
in_numbered : (rest : List (List ℕ)) (texts : List ℕ × List ℕ) (request : Request) (number : Option ℕ) → two_texts rest ≡ Some texts → request_number_of texts.0 ≡ number
    → option_and_then (λ grant. grant_report grant texts.1) number ≡ Some request → lacks_lf rest
in_numbered rest texts request None e n is = absurd cc
in_numbered rest texts request (Some grant) e n is =
    in_two rest texts e (numbers_lack_lf texts.0 grant (begins_with_zero texts.0) n) (in_report grant texts.1 request _ _ _ refl refl refl is)

-- nor have two texts that name a request on a grant, if they are two
in_grant : (rest : List (List ℕ)) (request : Request) (o : Option (List ℕ × List ℕ)) → two_texts rest ≡ o → grant_request o ≡ Some request → lacks_lf rest
in_grant rest request None e is = absurd cc
in_grant rest request (Some texts) e is = in_numbered rest texts request (request_number_of texts.0) e refl is

-- ---- imports

-- the texts behind `imports` have none
in_imports : (method : Method) (rest : List (List ℕ)) (request : Request) → imports_request method rest ≡ Some request → lacks_lf rest
in_imports Get rest request is = absurd cc
in_imports Post [] request is = refl
in_imports Post (text ∷ rest) request is = absurd cc
in_imports Another rest request is = absurd cc

-- ---- numbers

-- nor have those behind `numbers`
in_numbers : (method : Method) (rest : List (List ℕ)) (request : Request) → numbers_request method rest ≡ Some request → lacks_lf rest
in_numbers Get rest request is = absurd cc
in_numbers Post [] request is = absurd cc
in_numbers Post (text ∷ []) request is = by (bytes_eq text (codes "floor")) refl is
  where
    by : (named : Bool) → bytes_eq text (codes "floor") ≡ named → cond named (Some Floor) None ≡ Some request → lacks_lf (text ∷ [])
    by true e h = one_more text [] (same_text text (codes "floor") e refl) refl
    by false e h = absurd cc
in_numbers Post (text ∷ other ∷ rest) request is = absurd cc
in_numbers Another rest request is = absurd cc

-- nor have those behind `grants`
in_grants : (method : Method) (rest : List (List ℕ)) (request : Request) → grants_request method rest ≡ Some request → lacks_lf rest
in_grants Get rest request is = absurd cc
in_grants Post rest request is = in_grant rest request (two_texts rest) refl is
in_grants Another rest request is = absurd cc

-- ---- the whole

-- a collection's name and the texts behind it that name a request have none
in_collection : (method : Method) (collection : List ℕ) (rest : List (List ℕ)) (request : Request) (jobs modems grants imports numbers : Bool)
    → bytes_eq collection (codes "jobs") ≡ jobs → bytes_eq collection (codes "modems") ≡ modems → bytes_eq collection (codes "grants") ≡ grants → bytes_eq collection (codes "imports") ≡ imports → bytes_eq collection (codes "numbers") ≡ numbers
    → cond jobs (jobs_request method rest) (cond modems (modems_request method rest) (cond grants (grants_request method rest) (cond imports (imports_request method rest) (cond numbers (numbers_request method rest) None)))) ≡ Some request
    → lacks_lf (collection ∷ rest)
in_collection method collection rest request true modems grants imports numbers e f g h i is = one_more collection rest (same_text collection (codes "jobs") e refl) (in_jobs method rest request is)
in_collection method collection rest request false true grants imports numbers e f g h i is = one_more collection rest (same_text collection (codes "modems") f refl) (in_modems method rest request is)
in_collection method collection rest request false false true imports numbers e f g h i is = one_more collection rest (same_text collection (codes "grants") g refl) (in_grants method rest request is)
in_collection method collection rest request false false false true numbers e f g h i is = one_more collection rest (same_text collection (codes "imports") h refl) (in_imports method rest request is)
in_collection method collection rest request false false false false true e f g h i is = one_more collection rest (same_text collection (codes "numbers") i refl) (in_numbers method rest request is)
in_collection method collection rest request false false false false false e f g h i is = absurd cc

-- nor have the texts behind the first slash
in_root : (method : Method) (rest : List (List ℕ)) (request : Request) → root_request method rest ≡ Some request → lacks_lf rest
in_root method [] request is = refl
in_root method (collection ∷ rest) request is = in_collection method collection rest request _ _ _ _ _ refl refl refl refl refl is

-- nor have these with the empty text in front of them
in_lead : (method : Method) (lead : List ℕ) (rest : List (List ℕ)) (request : Request) (empty : Bool) → eqb (length lead) 0 ≡ empty
    → cond empty (root_request method rest) None ≡ Some request → lacks_lf (lead ∷ rest)
in_lead method lead rest request true e is =
    one_more lead rest (ap (has_byte 10) (nil_from_length lead (eqb-true (length lead) 0 e))) (in_root method rest request is)
in_lead method lead rest request false e is = absurd cc

-- nor has any text of a path
in_path : (method : Method) (texts : List (List ℕ)) (request : Request) → path_request method texts ≡ Some request → lacks_lf texts
in_path method [] request is = refl
in_path method (lead ∷ rest) request is = in_lead method lead rest request (eqb (length lead) 0) refl is

-- so a path that names a request has none
pub routed_paths_lack_lf : RoutedPathsLackLf
unfolding request_of
routed_paths_lack_lf method path request is = byte_of_parts path ∙ in_path method (parts path) request is
