use Rattle.std.proofs.Common.{◌≡◌, true, false, refl, sym, ◌∙◌, rules}
use Rattle.fax_core.specs.Machine.{is_down, with_mark}
use Rattle.fax_value.specs.Name.{IsName}
use Rattle.fax_store.proofs.ModemLemmas as modems
use Rattle.fax_store.proofs.FrameLemmas.{inserts_with, move_by, only_unavailable, reads_on, refused_as, runs_of, runs_then, writes_if_refused}
use Rattle.fax_store.proofs.store.Store.add_mark.Goals as goal

pub returns-then-branch : goal.returns-then-branch
returns-then-branch g c = record {
  leaves = search rules;
  written = λ m₀ m k₀ k works s. let modem = c.args.modem.now in
      let first = reads_on g.S.Store c.in_ok-is_down.ensures.leaves c.in_ok-is_down.ensures.answers m₀ m k₀ k works s in
      rw (modems.marked_already modem m (sym first.0 ∙ c.if-branch.true)) first.1;
  cause = search rules;
}

pub returns : goal.returns
returns g c =
    let modem = c.args.modem.now in
    let lawful : IsName modem = search rules in
    let reads = reads_on g.S.Store c.in_ok-is_down.ensures.leaves c.in_ok-is_down.ensures.answers in
    let inserts = inserts_with g.S.Store _ _ _ _ _ (modems.params modem) (search rules) c.insert.ensures in
    record {
      leaves = runs_then g.S.Store (runs_of g.S.Store c.in_ok-is_down.ensures.leaves) c.insert.ensures.leaves;
      written = λ m₀ m k₀ k works s. let first = reads m₀ m k₀ k works (inserts.leaves.served s) in
          move_by _ _ _ (modems.params modem) 6 c.insert.result m₀ m (with_mark modem true m) k₀ k k inserts.leaves.served (λ _. first.1) s
          (inserts.ran s.clean) (inserts.left s.clean) (λ means has. modems.mark_added modem _ _ m k means lawful (sym first.0 ∙ c.if-branch.false) has);
      cause = λ m₀ m k₀ k works s named. let first = reads m₀ m k₀ k works (inserts.leaves.served s) in
          only_unavailable _ _ _ (modems.params modem) c.insert.result (λ m k. is_down modem m ≡ false) inserts.leaves.served inserts.told
          (λ m k means free e h. modems.mark_goes modem _ _ m k means free e h) m₀ m k₀ k (λ _. first.1) s (sym first.0 ∙ c.if-branch.false);
    }

pub returns-in_err-is_down : goal.returns-in_err-is_down
returns-in_err-is_down g c =
    let told = c.from_residual.ensures.1 in
    writes_if_refused g.S.Store _ told (runs_of g.S.Store c.in_err-is_down.ensures.leaves) (λ m₀ m k₀ k works s fits.
    refused_as c.from_residual.result c.in_err-is_down.field-0.0 told (c.in_err-is_down.ensures.answers m k (λ at. ((works at).goes_on refl).means) s))
