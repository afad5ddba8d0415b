-- Imports, one more at the end.
use Rattle.std.proofs.Common.{◌≡◌, inl, inr, ℕ, ◌+◌, ◌≤◌, List, [], ◌∷◌, ◌++◌, length, refl, sym, ap, subst, ◌∙◌, append_assoc, arith}
use Rattle.std.specs.Prelude.{IsErr, IsErrAnd, Result, Ok, Err, Vec}
use Rattle.std.specs.Borrow.{Bor}
use Rattle.std.specs.declared.alloc.Global.{Global}
use Rattle.std.proofs.lemmas.List.{append-nil, length-append}
use Rattle.std.proofs.lemmas.List.Elements.{All-append, All-cons}
use Rattle.fax_files.specs.Spool.{AreImports, IsNamed, MakesImports, longest_body}
use Rattle.fax_files.specs.declared.spool.SpoolFault.{SpoolFault}
use Rattle.fax_files.specs.declared.spool.SpoolFault.TheVariants.{Words, Unreadable, TooLarge, NoMemory}
use Rattle.fax_text.specs.Import.{first_number, import_message, import_messages}
use Rattle.fax_text.specs.declared.import_words.ImportPlan.{ImportPlan}

-- the messages of one body more are those before and its own, with the next number
one_more : (client : List ℕ) (first number : ℕ) (bodies : List (List ℕ)) (body : List ℕ) → number ≡ first + length bodies → import_messages client first (bodies ++ body ∷ []) ≡ import_messages client first bodies ++ import_message client number body
one_more client first number [] body is =
    let here : first ≡ number = omega arith in
    append-nil (import_message client first body) ∙ ap (λ (n : ℕ). import_message client n body) here
one_more client first number (b ∷ bodies) body is =
    let here : number ≡ (first + 1) + length bodies = omega arith in
    ap (λ (rest : List ℕ). import_message client first b ++ rest) (one_more client (first + 1) number bodies body here)
    ∙ sym (append_assoc (import_message client first b) (import_messages client (first + 1) bodies) (import_message client number body))

-- no text is no imports
pub none_yet : (client : List ℕ) (first : ℕ) (text : List ℕ) → text ≡ [] → AreImports client first 0 text
none_yet client first text is = record { bodies = []; many_are = refl; short = λ k d low. absurd (omega (arith, low)); spelled = is }

-- the file behind those, with the next number
pub and_one : (client : List ℕ) (first many number : ℕ) (text body after : List ℕ) → AreImports client first many text → number ≡ first + many → length body ≤ longest_body → after ≡ text ++ import_message client number body
    → AreImports client first (many + 1) after
and_one client first many number text body after are next short is =
    let place : number ≡ first + length are.bodies = next ∙ ap (λ (n : ℕ). first + n) (sym are.many_are) in
    record {
      bodies = are.bodies ++ body ∷ [];
      many_are = length-append are.bodies (body ∷ []) ∙ ap (λ (n : ℕ). n + 1) are.many_are;
      short = All-append (λ (b : List ℕ). length b ≤ longest_body) are.bodies (body ∷ []) are.short
          (All-cons (λ (b : List ℕ). length b ≤ longest_body) body [] short (λ k d low. absurd (omega (arith, low))));
      spelled = is ∙ ap (λ (t : List ℕ). t ++ import_message client number body) are.spelled ∙ sym (one_more client first number are.bodies body place);
    }

-- a file's fault is no fault of the words
pub handed_on : (plan : ImportPlan) (first : ℕ) (name : Bor (List ℕ)) (result : Result (Vec ℕ Global) SpoolFault) (fault : SpoolFault) → first_number plan ≡ Ok first → IsNamed name (Err fault) → IsErr result × IsErrAnd result (λ told. told ≡ fault)
    → MakesImports plan result
handed_on plan first name (Ok made) fault is named told = absurd told.1
handed_on plan first name (Err other) fault is named told = by other (subst (λ (f : SpoolFault). IsNamed name (Err f)) (sym told.1) named)
  where
    by : (f : SpoolFault) → IsNamed name (Err f) → MakesImports plan (Err f)
    by (Words w) (inl e) = absurd cc
    by (Words w) (inr (inl e)) = absurd cc
    by (Words w) (inr (inr e)) = absurd cc
    by (Unreadable n) h = (first, is)
    by (TooLarge n) h = (first, is)
    by NoMemory h = (first, is)
