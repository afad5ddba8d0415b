-- The body of a submission, piece by piece.
use Rattle.std.proofs.Common.{◌≡◌, ◌∙◌, ℕ, List, ◌++◌, Option, ap, codes}
use Rattle.std.specs.Fmt.{decimal}
use Rattle.std.specs.Option.{option_map}
use Rattle.fax_text.specs.Sendfax.{body, key_line, key_line_of, limit_lines}
use Rattle.fax_text.specs.declared.sendfax.SendPlan.{SendPlan}
use mathlib.Core.List.{append_assoc}

-- four lines are joined piece by piece
four_lines : (a p b g c m d n nl : List ℕ)
    → a ++ (p ++ (nl ++ (b ++ (g ++ (nl ++ (c ++ (m ++ (nl ++ (d ++ (n ++ nl)))))))))) ≡ (a ++ p ++ nl) ++ (b ++ g ++ nl) ++ (c ++ m ++ nl) ++ (d ++ n ++ nl)
four_lines a p b g c m d n nl = simp append_assoc

-- the lines of priority, pages, tries and dials are joined piece by piece
pub limits_are : (priority pages tries dials : List ℕ)
    → codes "priority:" ++ (priority ++ (codes "\ntotpages:" ++ (pages ++ (codes "\nmaxtries:" ++ (tries ++ (codes "\nmaxdials:" ++ (dials ++ codes "\n")))))))
    ≡ key_line (codes "priority") priority ++ key_line (codes "totpages") pages ++ key_line (codes "maxtries") tries ++ key_line (codes "maxdials") dials
limits_are priority pages tries dials =
    four_lines (codes "priority:") priority (codes "totpages:") pages (codes "maxtries:") tries (codes "maxdials:") dials (codes "\n")

-- a line and four parts behind it are joined piece by piece
five_parts : (a d nl t k l j : List ℕ) → a ++ (d ++ (nl ++ (t ++ (k ++ (l ++ j))))) ≡ (a ++ d ++ nl) ++ t ++ k ++ l ++ j
five_parts a d nl t k l j = simp append_assoc

-- the body of a submission is joined of its lines
pub body_is : (plan : SendPlan) (dial : List ℕ) (at kill : Option ℕ) (tag : Option (List ℕ)) (number tts killtime limits jobtag : List ℕ)
    → number ≡ dial → tts ≡ key_line_of (codes "tts") (option_map decimal at) → killtime ≡ key_line_of (codes "killtime") (option_map decimal kill)
    → limits ≡ limit_lines plan → jobtag ≡ key_line_of (codes "jobtag") tag
    → codes "number:" ++ (number ++ (codes "\n" ++ (tts ++ (killtime ++ (limits ++ jobtag))))) ≡ body plan dial at kill tag
body_is plan dial at kill tag number tts killtime limits jobtag n t k l j =
    let send = key_line_of (codes "tts") (option_map decimal at) in
    let last = key_line_of (codes "killtime") (option_map decimal kill) in
    five_parts (codes "number:") number (codes "\n") tts killtime limits jobtag
    ∙ ap (λ x. key_line (codes "number") x ++ tts ++ killtime ++ limits ++ jobtag) n
    ∙ ap (λ x. key_line (codes "number") dial ++ x ++ killtime ++ limits ++ jobtag) t
    ∙ ap (λ x. key_line (codes "number") dial ++ send ++ x ++ limits ++ jobtag) k
    ∙ ap (λ x. key_line (codes "number") dial ++ send ++ last ++ x ++ jobtag) l
    ∙ ap (λ x. key_line (codes "number") dial ++ send ++ last ++ limit_lines plan ++ x) j
