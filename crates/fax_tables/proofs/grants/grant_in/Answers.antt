use Rattle.std.proofs.Common.{◌≡◌, refl, arith}
use Rattle.fax_tables.proofs.ResultLemmas.{passes_on}
use Rattle.fax_tables.proofs.RowLemmas.{has_value}
use Rattle.fax_tables.proofs.TextLemmas.{name_text}
use Rattle.fax_tables.proofs.grants.grant_in.Goals as goal

pub returns-in_err-name_at-clause-found : goal.returns-in_err-name_at-clause-found
returns-in_err-name_at-clause-found c g is lawful =
    passes_on c.from_residual-in_err-name_at.result _ (λ grant. grant ≡ g) c.from_residual-in_err-name_at.ensures.1
    (c.in_err-name_at.ensures.found g.modem (has_value is (omega arith) refl) (name_text g.modem lawful.modem))
