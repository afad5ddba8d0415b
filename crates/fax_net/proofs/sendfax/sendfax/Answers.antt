use Rattle.std.proofs.Common.{List, ℕ, Option, subst, sym}
use Rattle.std.specs.Borrow.{Bor}
use Rattle.std.specs.Prelude.{MatchOption}
use Rattle.fax_ending.specs.Ending.{spoken}
use Rattle.fax_net.specs.Sendfax.{Prints, Sends}
use Rattle.fax_net.proofs.SendfaxLemmas.{prints_of, sends_of}
use Rattle.fax_net.proofs.sendfax.sendfax.Goals as goal

pub returns-in-None : goal.returns-in-None
returns-in-None g c =
    let status = c.tell.result.status in
    let line = spoken c.tell.result in
    subst (λ (to : Option (Bor (List ℕ))). MatchOption to (Prints g.W.Write.contents c.args.out.now c.tell.new.out c.args.plan.now status line)
    (λ _. Sends g.W.Write.contents c.args.out.now c.tell.new.out c.args.plan.now status line)) (sym c.in-None.is)
    (prints_of _ _ _ c.args.plan.now c.moment_of-moment.result c.moment_of-moment.ensures c.request-made.result c.request-made.ensures status line c.tell.ensures)

pub returns-in-Some : goal.returns-in-Some
returns-in-Some g c =
    let status = c.hand_in.result.status in
    let line = spoken c.hand_in.result in
    subst (λ (to : Option (Bor (List ℕ))). MatchOption to (Prints g.W.Write.contents c.args.out.now c.hand_in.new.out c.args.plan.now status line)
    (λ _. Sends g.W.Write.contents c.args.out.now c.hand_in.new.out c.args.plan.now status line)) (sym c.in-Some.is)
    (sends_of _ _ _ c.args.plan.now c.moment_of-moment.result c.moment_of-moment.ensures c.request-made.result c.request-made.ensures status line c.hand_in.ensures)
