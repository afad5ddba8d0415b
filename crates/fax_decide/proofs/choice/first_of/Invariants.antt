use Rattle.std.specs.Prelude.{⊤}
use Rattle.std.proofs.Common.{◌≡◌, [], Ok}
use Rattle.std.specs.Vec.Iter.{into_iter_items}
use Rattle.fax_store.specs.Candidates.{StandsAt}
use Rattle.fax_decide.specs.Choice.{HasLearned}
use Rattle.fax_decide.specs.Looking.{Consults}
use Rattle.fax_decide.specs.Settings.{settings_of}
use Rattle.fax_decide.proofs.ChoiceLemmas.{NoneWent}
use Rattle.fax_decide.proofs.choice.first_of.Given as goal

abbrev pub invariant-loop : goal.invariant-loop
invariant-loop g l = record {
  same_reference : l.candidates.store.ghost_name ≡ l.initial.candidates.store.ghost_name;
  asked : l.candidates.asked ≡ l.initial.candidates.asked;
  consults : Consults g.S.Store {A = ⊤} {E = ⊤} l.initial.candidates.store.now l.candidates.store.now (Ok tt) (λ m. l.initial.candidates.asked.t ≡ l.t
      → StandsAt l.initial.candidates.asked m [] (into_iter_items l.initial.candidates.page) l.initial.candidates.front l.initial.candidates.most → HasLearned l.office m l.t l.initial.learned
      → HasLearned l.office m l.t l.learned
      × NoneWent (settings_of l.office.setup l.office.controls) m l.modem l.initial.candidates.asked l.counter
      (into_iter_items l.candidates.page) l.candidates.front l.candidates.most);
}
