use Rattle.std.proofs.Common.{◌∙◌, Ok, refl, rules, subst}
use Rattle.std.specs.Prelude.{⊤}
use Rattle.fax_decide.proofs.FaultLemmas.{no_memory, only_no_answer}
use Rattle.fax_decide.proofs.WorkLemmas.{refused_any, refused_with}
use Rattle.fax_store.proofs.FrameLemmas.{follows_at}
use Rattle.fax_once.specs.Accepting.{Accepts}
use Rattle.fax_once.specs.declared.acceptance.Answered.TheVariants.{Accepted}
use Rattle.fax_once.proofs.CauseLemmas.{gave_out}
use Rattle.fax_once.proofs.accepting.accept.Goals as goal

pub returns-in_err-said : goal.returns-in_err-said
returns-in_err-said g c =
    let given = c.from_residual in
    record {
      leaves = follows_at g.S.Store c.args.work.now;
      goes_on = search rules;
      gives = search rules;
      changes = λ m₀ m k₀ k aged suits works. refused_with given.result _ _ given.ensures.0 works;
      cause = λ m₀ m k₀ k works serves aged fits. only_no_answer given.result (λ _. ⊤) (no_memory given.result (λ _. ⊤) given.ensures.1);
    }

pub returns-in_err-write_accepted : goal.returns-in_err-write_accepted
returns-in_err-write_accepted g c =
    let given = c.from_residual-in_err-write_accepted in
    let wrote = c.write_accepted.ensures.writes in
    let fails = c.in_err-write_accepted.ensures.writes.fails in
    record {
      leaves = wrote.leaves;
      goes_on = search rules;
      gives = search rules;
      changes = λ m₀ m k₀ k aged suits works. refused_with given.result _ _ given.ensures.0 (refused_any _ _ m₀ _ m k₀ _ k fails (wrote.changes m₀ m k₀ k (aged, suits) works));
      cause = λ m₀ m k₀ k works serves aged fits. gave_out given.result c.in_err-write_accepted.field-0.0 given.ensures.1
          (c.in_err-write_accepted.ensures.writes.cause m₀ m k₀ k works serves (aged, fits));
    }

pub returns : goal.returns
returns g c =
    let wrote = c.write_accepted.ensures.writes in
    subst (λ said. Accepts g.S.Store c.args.work.now c.write_accepted.new.work (Ok (Accepted c.args.reply)) c.args.decided_at c.args.is_aged c.args.effect.now c.args.sender.now said c.args.reply)
    (c.deref.ensures.value ∙ c.in_ok-said.ensures) (record {
      leaves = wrote.leaves;
      goes_on = c.in_ok-write_accepted.ensures.goes_on;
      gives = (refl, c.in_ok-write_accepted.ensures.kept);
      changes = λ m₀ m k₀ k aged suits works. wrote.changes m₀ m k₀ k (aged, suits) works;
      cause = λ m₀ m k₀ k works serves aged fits. tt;
    })
