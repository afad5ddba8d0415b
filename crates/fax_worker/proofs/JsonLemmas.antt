-- What is written for a JSON value is read back as that value.
use Rattle.std.proofs.Common.{◌≡◌, ◌≤◌, ◌<◌, ◌^◌, [], ◌∷◌, Bool, true, false, Some, option_map, option_and_then, decimal, refl, sym, ap, ◌∙◌, append-nil, IsUtf8}
use Rattle.std.proofs.lemmas.Fmt.{IsAscii-decimal}
use Rattle.std.proofs.lemmas.Str.{IsUtf8-append, IsUtf8-from_ascii}
use Rattle.std.specs.Prelude.{⊤}
use Rattle.json.specs.Json as json
use Rattle.json.specs.Lex.{tokens}
use Rattle.json.specs.Print.{quoted}
use Rattle.json.specs.Tree as tree
use Rattle.json.proofs.Printed.Decimals.{IsNumber-decimal}
use Rattle.json.proofs.Printed.Tokens.{tokens-print}
use Rattle.json.proofs.Printed.Trees.{ArePrintable-json_tokens, value-json_tokens}
use Rattle.json.proofs.Printed.Utf8.{IsUtf8-are_ascii, IsUtf8-boolean, IsUtf8-quoted}
use Rattle.serde_json.specs.Data.{Num, unsigned, negative, float, Data, null, boolean, number, string, array, object, Members, no_members, member, put}
use Rattle.serde_json.specs.Read.{max_depth, of_json, of_members}
use Rattle.serde_json.specs.Written.{comma_if, compact_text, members_text, members_outline, outline}
use Rattle.serde_json.proofs.Numbers.{number_of-decimal}
use Rattle.serde_json.proofs.Texts.{print-outline}
use Rattle.fax_ask.specs.Report.{IsJson}

-- the members, put one after another
abbrev pub put_all : Members → Members → Members
put_all no_members found = found
put_all (member k d ms) found = put_all ms (put k d found)

-- numbers of 64 bits, UTF-8, and objects whose keys ascend
abbrev pub IsPlainNum : Num → Type 0
IsPlainNum (unsigned n) = n < 2 ^ 64
IsPlainNum (negative z) = ⊥
IsPlainNum (float x) = ⊥

abbrev mutual
  pub IsPlain : Data → Type 0
  IsPlain null = ⊥
  IsPlain (boolean b) = ⊤
  IsPlain (number n) = IsPlainNum n
  IsPlain (string s) = IsUtf8 s
  IsPlain (array ds) = ⊥
  IsPlain (object ms) = ArePlain ms × (put_all ms no_members ≡ ms)

  pub ArePlain : Members → Type 0
  ArePlain no_members = ⊤
  ArePlain (member k d ms) = IsUtf8 k × IsPlain d × ArePlain ms

-- ---- numbers have texts

numbered_num : (n : Num) → IsPlainNum n → tree.HasNumbers (outline (number n))
numbered_num (unsigned n) small = IsNumber-decimal n small
numbered_num (negative z) h = absurd h
numbered_num (float x) h = absurd h

mutual
  numbered : (d : Data) → IsPlain d → tree.HasNumbers (outline d)
  numbered null h = absurd h
  numbered (boolean b) h = tt
  numbered (number n) h = numbered_num n h
  numbered (string s) h = tt
  numbered (array ds) h = absurd h
  numbered (object ms) h = numbered_all ms h.0

  numbered_all : (ms : Members) → ArePlain ms → tree.MembersHaveNumbers (members_outline ms)
  numbered_all no_members h = tt
  numbered_all (member k d ms) h = (numbered d h.1, numbered_all ms h.2)

-- ---- the outline reads as the value

reads_num : (n : Num) → IsPlainNum n → of_json (outline (number n)) ≡ Some (number n)
reads_num (unsigned n) small = ap (option_map number) (number_of-decimal n small)
reads_num (negative z) h = absurd h
reads_num (float x) h = absurd h

mutual
  reads : (d : Data) → IsPlain d → of_json (outline d) ≡ Some d
  reads null h = absurd h
  reads (boolean b) h = refl
  reads (number n) h = reads_num n h
  reads (string s) h = refl
  reads (array ds) h = absurd h
  reads (object ms) h = ap (option_map object) (reads_all ms no_members h.0 ∙ ap Some h.1)

  reads_all : (ms found : Members) → ArePlain ms → of_members (members_outline ms) found ≡ Some (put_all ms found)
  reads_all no_members found h = refl
  reads_all (member k d ms) found h =
      ap (option_and_then (λ (e : Data). of_members (members_outline ms) (put k e found))) (reads d h.1)
      ∙ reads_all ms (put k d found) h.2

-- ---- the text is UTF-8

utf8_num : (n : Num) → IsPlainNum n → IsUtf8 (compact_text (number n))
utf8_num (unsigned n) small = IsUtf8-from_ascii (decimal n) (IsAscii-decimal n small)
utf8_num (negative z) h = absurd h
utf8_num (float x) h = absurd h

utf8_comma : (later : Bool) → IsUtf8 (comma_if later)
utf8_comma true = IsUtf8-are_ascii (44 ∷ []) refl
utf8_comma false = IsUtf8-are_ascii [] refl

mutual
  utf8 : (d : Data) → IsPlain d → IsUtf8 (compact_text d)
  utf8 null h = absurd h
  utf8 (boolean b) h = IsUtf8-boolean b
  utf8 (number n) h = utf8_num n h
  utf8 (string s) h = IsUtf8-quoted s h
  utf8 (array ds) h = absurd h
  utf8 (object ms) h = IsUtf8-append (123 ∷ []) (members_text false ms) (IsUtf8-are_ascii (123 ∷ []) refl) (utf8_all false ms h.0)

  utf8_all : (later : Bool) (ms : Members) → ArePlain ms → IsUtf8 (members_text later ms)
  utf8_all later no_members h = IsUtf8-are_ascii (125 ∷ []) refl
  utf8_all later (member k d ms) h =
      IsUtf8-append (comma_if later) _ (utf8_comma later)
      (IsUtf8-append (quoted k) _ (IsUtf8-quoted k h.0)
      (IsUtf8-append (58 ∷ []) _ (IsUtf8-are_ascii (58 ∷ []) refl)
      (IsUtf8-append (compact_text d) (members_text true ms) (utf8 d h.1) (utf8_all true ms h.2))))

-- ---- the text is that JSON

lexed : (d : Data) → IsPlain d → tokens (compact_text d) ≡ tree.json_tokens (outline d)
lexed d h = ap tokens (sym (print-outline d)) ∙ tokens-print (tree.json_tokens (outline d)) (ArePrintable-json_tokens (outline d) (numbered d h))

pub text_is_json : (d : Data) → IsPlain d → tree.depth (outline d) ≤ max_depth → IsJson (compact_text d) d
text_is_json d h shallow = record {
  text = utf8 d h;
  written =
      ap (λ ts. option_and_then of_json (option_and_then (λ p. json.if_last p.0 p.1) (json.value max_depth ts))) (lexed d h ∙ sym (append-nil (tree.json_tokens (outline d))))
      ∙ (ap (λ o. option_and_then of_json (option_and_then (λ p. json.if_last p.0 p.1) o)) (value-json_tokens (outline d) max_depth [] shallow)
      ∙ reads d h);
}
