-- The texts that `format!` writes, piece by piece, as the definitions join them.
use Rattle.std.proofs.Common.{◌≡◌, ℕ, Bool, List, ◌++◌, ap, ◌∙◌}
use Rattle.std.specs.Prelude.{codes, decimal}
use Rattle.json.specs.Print.{quoted}
use Rattle.fax_core.specs.Reply.{Handed}
use Rattle.fax_ask.specs.Response.{bool_text, handed_keys}
use mathlib.Core.List.{append_assoc}

-- nine texts join the same, however they are grouped
nine : (a b c d e f g h i : List ℕ) → a ++ (b ++ (c ++ (d ++ (e ++ (f ++ (g ++ (h ++ i))))))) ≡ a ++ b ++ c ++ d ++ e ++ f ++ g ++ h ++ i
nine a b c d e f g h i = simp append_assoc

-- so do ten
ten : (a b c d e f g h i j : List ℕ) → a ++ (b ++ (c ++ (d ++ (e ++ (f ++ (g ++ (h ++ (i ++ j)))))))) ≡ a ++ b ++ c ++ d ++ e ++ f ++ g ++ h ++ i ++ j
ten a b c d e f g h i j = simp append_assoc

-- a grant is spelled as `format!` writes it
pub handed_is : (handed : Handed) (number : List ℕ) → number ≡ quoted handed.dial
    → codes "\"from\":" ++ (decimal handed.from ++ (codes ",\"grant\":" ++ (decimal handed.grant ++ (codes ",\"job\":" ++ (decimal handed.job ++ (codes ",\"number\":" ++ (number ++ (codes ",\"to\":" ++ decimal handed.to))))))))
    ≡ handed_keys handed
handed_is handed number e =
    ten (codes "\"from\":") (decimal handed.from) (codes ",\"grant\":") (decimal handed.grant) (codes ",\"job\":") (decimal handed.job) (codes ",\"number\":") number (codes ",\"to\":") (decimal handed.to)
    ∙ ap (λ (text : List ℕ). codes "\"from\":" ++ decimal handed.from ++ codes ",\"grant\":" ++ decimal handed.grant ++ codes ",\"job\":" ++ decimal handed.job ++ codes ",\"number\":" ++ text ++ codes ",\"to\":" ++ decimal handed.to) e

-- so is a refusal with the grant that a modem holds
pub held_is : (called keys word : List ℕ) (number : ℕ) (is_called : Bool) (handed : Handed) → called ≡ bool_text is_called → keys ≡ handed_keys handed
    → codes "{\"held\":{\"called\":" ++ (called ++ (codes "," ++ (keys ++ (codes "},\"no\":" ++ (decimal number ++ (codes ",\"word\":\"" ++ (word ++ codes "\"}")))))))
    ≡ codes "{\"held\":{\"called\":" ++ bool_text is_called ++ codes "," ++ handed_keys handed ++ codes "},\"no\":" ++ decimal number ++ codes ",\"word\":\"" ++ word ++ codes "\"}"
held_is called keys word number is_called handed e f =
    nine (codes "{\"held\":{\"called\":") called (codes ",") keys (codes "},\"no\":") (decimal number) (codes ",\"word\":\"") word (codes "\"}")
    ∙ (ap (λ (text : List ℕ). codes "{\"held\":{\"called\":" ++ text ++ codes "," ++ keys ++ codes "},\"no\":" ++ decimal number ++ codes ",\"word\":\"" ++ word ++ codes "\"}") e
    ∙ ap (λ (text : List ℕ). codes "{\"held\":{\"called\":" ++ bool_text is_called ++ codes "," ++ text ++ codes "},\"no\":" ++ decimal number ++ codes ",\"word\":\"" ++ word ++ codes "\"}") f)
