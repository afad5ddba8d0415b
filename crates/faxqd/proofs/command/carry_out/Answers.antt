use Rattle.std.proofs.Common.{refl, subst, sym}
use Rattle.fax_ending.specs.Ending.{spoken}
use Rattle.faxqd.specs.Command.{CarriesOut}
use Rattle.faxqd.proofs.CheckLemmas.{checks_with}
use Rattle.faxqd.proofs.ListLemmas.{lists_with}
use Rattle.faxqd.proofs.ServeLemmas.{ends_with}
use Rattle.faxqd.proofs.command.carry_out.Goals as goal

pub returns-in-Serve : goal.returns-in-Serve
returns-in-Serve g c =
    let ending = c.serve.result.0 in
    subst (λ plan. CarriesOut g.R.Read.remaining g.W.Write.contents c.args.reader.now c.args.reader.now c.args.out.now c.serve.new.out plan ending.status (spoken ending)) (sym c.in-Serve.is)
    (refl, ends_with _ _ _ g.N.Network.opened g.P.Peers.did _ _ c.in-Serve.plan _ ending.status (spoken ending) c.serve.result.1 c.serve.ensures.serves)

pub returns-in-List : goal.returns-in-List
returns-in-List g c =
    let ending = c.list.result.0 in
    subst (λ plan. CarriesOut g.R.Read.remaining g.W.Write.contents c.args.reader.now c.args.reader.now c.args.out.now c.list.new.out plan ending.status (spoken ending)) (sym c.in-List.is)
    (refl, lists_with _ _ _ _ c.in-List.plan ending.status (spoken ending) c.list.result.1 c.list.ensures.lists)

pub returns-in-Check : goal.returns-in-Check
returns-in-Check g c =
    let ending = c.check.result.0 in
    subst (λ plan. CarriesOut g.R.Read.remaining g.W.Write.contents c.args.reader.now c.args.reader.now c.args.out.now c.check.new.out plan ending.status (spoken ending)) (sym c.in-Check.is)
    (refl, checks_with _ _ _ _ ending.status (spoken ending) c.check.result.1 c.check.ensures.checks)
