use Rattle.std.proofs.Common.{◌≡◌, ℕ, ◌≤◌, List, length, rules, subst, sym}
use Rattle.fax_http.specs.Reply.{phrase_of}
use Rattle.fax_http.proofs.PhraseLemmas.{short_phrase}
use Rattle.fax_http.proofs.head.phrase.Goals as goal

pub returns-clause-short : goal.returns-clause-short
unfolding phrase_of
returns-clause-short c =
    let text : c.unwrap_or.result.now ≡ phrase_of c.args.status = search rules in
    subst (λ (p : List ℕ). length p ≤ 31) (sym text) (short_phrase c.args.status)
