use Rattle.std.proofs.Common.{◌≡◌, ℕ, ◌+◌, [], ◌∷◌, ◌&&◌, true, ap, ap₂, ◌∙◌, rules, arith, nat_le, nat_lt}
use Rattle.std.proofs.Math.Bool.{and-true}
use Rattle.std.proofs.lemmas.Bool.Decides.{nat_tests}
use Rattle.fax_store.specs.declared.candidates.Front.TheVariants.{First, Number, Time, Priority}
use Rattle.fax_tables.specs.Row.{number}
use Rattle.fax_layout.proofs.CompareLemmas.{at_least, is_number, more_than}
use Rattle.fax_schema.proofs.StatementTexts.{number_tests, other_tests, priority_tests, time_tests}
use Rattle.fax_schema.proofs.StatementTexts.{select_behind_number, select_behind_priority, select_behind_time, select_first}
use Rattle.fax_store.proofs.CandidateLemmas.{answers_page, is_not}
use Rattle.fax_store.proofs.store.Store.page.Goals as goal

-- more than a number is from the next on
from_next : (n a : ℕ) → nat_le (n + 1) a ≡ nat_lt n a
from_next n a = grind (arith, nat_tests)

pub returns-in-First : goal.returns-in-First
returns-in-First g c =
    let asked = c.args.asked.now in
    answers_page g.S.Store asked c.args.most [] other_tests First select_first (λ j. ap (λ b. b && true) (is_not asked.but j)) c.in-First.is
    (search rules) c.show.ensures

pub returns-in-Number : goal.returns-in-Number
returns-in-Number g c =
    let asked = c.args.asked.now in
    let p = c.in-Number.priority in
    let s = c.in-Number.tts in
    let n = c.in-Number.job in
    answers_page g.S.Store asked c.args.most (number p ∷ number s ∷ number n ∷ []) number_tests (Number p s n) select_behind_number
    (λ j. ap₂ ◌&&◌ (is_not asked.but j) (ap₂ ◌&&◌ (is_number j.priority p) (ap₂ ◌&&◌ (is_number j.tts s) (ap (λ b. b && true) (more_than j.number n) ∙ and-true _))))
    c.in-Number.is (search rules) c.show-in-Number.ensures

pub returns-in-Time : goal.returns-in-Time
returns-in-Time g c =
    let asked = c.args.asked.now in
    let p = c.in-Time.priority in
    let s = c.in-Time.tts in
    answers_page g.S.Store asked c.args.most (number p ∷ number (s + 1) ∷ []) time_tests (Time p s) select_behind_time
    (λ j. ap₂ ◌&&◌ (is_not asked.but j) (ap₂ ◌&&◌ (is_number j.priority p) (ap (λ b. b && true) (at_least j.tts (s + 1) ∙ from_next s j.tts) ∙ and-true _)))
    c.in-Time.is (search rules) c.show-in-Time.ensures

pub returns-in-Priority : goal.returns-in-Priority
returns-in-Priority g c =
    let asked = c.args.asked.now in
    let p = c.in-Priority.priority in
    answers_page g.S.Store asked c.args.most (number (p + 1) ∷ []) priority_tests (Priority p) select_behind_priority
    (λ j. ap₂ ◌&&◌ (is_not asked.but j) (ap (λ b. b && true) (at_least j.priority (p + 1) ∙ from_next p j.priority) ∙ and-true _)) c.in-Priority.is
    (search rules) c.show-in-Priority.ensures
