use Rattle.std.proofs.Common.{arith, inl, subst, sym}
use Rattle.fax_net.specs.Joining.{Gathers, replies_in}
use Rattle.fax_net.proofs.JoiningLemmas.{fits_in, turns_are}
use Rattle.fax_net.proofs.joining.answer_posts.Goals as goal

pub give_out-requires-clause-fits : goal.give_out-requires-clause-fits
give_out-requires-clause-fits g c = λ place d below. fits_in _ _ _ (c.in-Some.ensures.gathered.each place d below)

pub returns : goal.returns
returns g c =
    let it = subst (Gathers c.args.links.now c.gather.new.cuts) (sym c.deref.ensures.value) c.in-Some.ensures.gathered in
    inl (record {
      cuts = c.gather.new.cuts;
      asked = it.asked;
      replies = replies_in c.answer_all-replies.result;
      as_many = it.as_many;
      each = it.each;
      gives = c.give_out.ensures;
      answered = c.answer_all-replies.ensures.answered _ (turns_are c.args.links.now (omega (arith, c.requires.places)) c.gather.new.cuts _ it c.answer_all-replies.result (omega (arith, c.gather.ensures.as_many, c.requires.places)) c.answer_all-replies.ensures.as_many);
    })
