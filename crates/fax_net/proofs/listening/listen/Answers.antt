use Rattle.std.proofs.Common.{◌∙◌, [], inl, inr, refl, subst, sym}
use Rattle.fax_http.specs.Serving.{replying}
use Rattle.fax_ending.specs.Ending.{spoken}
use Rattle.fax_net.specs.History.{turns_of}
use Rattle.fax_net.specs.Listening.{Listens}
use Rattle.fax_net.proofs.ListeningLemmas.{answers_of, has_listened}
use Rattle.fax_net.proofs.listening.listen.Goals as goal

pub returns : goal.returns
returns g c =
    let s = c.serve_many.ensures in record {
      served = (
        turns_of s.history,
        subst (λ status. Listens g.W.Write.contents c.args.out.now c.put.new.self g.N.Network.opened g.P.Peers.did c.args.plan.connections (turns_of s.history) (g.H.Handler.over c.serve_many.new.handler) status (spoken c.well.result)) (sym c.well.ensures.status) (
          has_listened g.W.Write.contents c.args.out.now c.put.new.self g.N.Network.opened g.P.Peers.did (replying g.H.Handler.answers g.H.Handler.together) g.H.Handler.over _ _ _ c.args.handler.now c.serve_many.new.handler c.in-Ok.ensures c.in-Ok-put.ensures.ok s,
          sym c.is_over.ensures ∙ c.if-is_over.false,
          c.well.ensures.says,
        ),
        answers_of (replying g.H.Handler.answers g.H.Handler.together) g.H.Handler.over c.args.handler.now s.history c.serve_many.new.handler s.runs.answered,
      );
    }

pub returns-then-is_over : goal.returns-then-is_over
returns-then-is_over g c =
    let s = c.serve_many.ensures in record {
      served = (
        turns_of s.history,
        subst (λ status. Listens g.W.Write.contents c.args.out.now c.put.new.self g.N.Network.opened g.P.Peers.did c.args.plan.connections (turns_of s.history) (g.H.Handler.over c.serve_many.new.handler) status (spoken c.failed-then-is_over.result)) (sym c.failed-then-is_over.ensures.status)
            (inr (
              has_listened g.W.Write.contents c.args.out.now c.put.new.self g.N.Network.opened g.P.Peers.did (replying g.H.Handler.answers g.H.Handler.together) g.H.Handler.over _ _ _ c.args.handler.now c.serve_many.new.handler c.in-Ok.ensures c.in-Ok-put.ensures.ok s,
              sym c.is_over.ensures ∙ c.if-is_over.true,
              c.failed-then-is_over.ensures.says,
            )),
        answers_of (replying g.H.Handler.answers g.H.Handler.together) g.H.Handler.over c.args.handler.now s.history c.serve_many.new.handler s.runs.answered,
      );
    }

pub returns-in-Err : goal.returns-in-Err
returns-in-Err g c = record {
  served = (
    [],
    subst (λ status. Listens g.W.Write.contents c.args.out.now c.args.out.now g.N.Network.opened g.P.Peers.did c.args.plan.connections [] (g.H.Handler.over c.args.handler.now) status (spoken c.bind_ending.result)) (sym c.bind_ending.ensures.status) (inl (refl, inl (refl, inl (c.in-Err.fault, c.bind_ending.ensures.says)))),
    record { parts = []; are = refl; answered = refl },
  );
}

pub returns-in_default : goal.returns-in_default
returns-in_default g c = record {
  served = (
    [],
    subst (λ status. Listens g.W.Write.contents c.args.out.now c.args.out.now g.N.Network.opened g.P.Peers.did c.args.plan.connections [] (g.H.Handler.over c.args.handler.now) status (spoken c.failed.result)) (sym c.failed.ensures.status) (inl (refl, inl (refl, inr c.failed.ensures.says))),
    record { parts = []; are = refl; answered = refl },
  );
}
