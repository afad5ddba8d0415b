use Rattle.std.proofs.Common.{◌≡◌, ◌∙◌, [], ◌∷◌, false, length, ap, refl, sym, subst, rules}
use Rattle.std.proofs.lemmas.List.{nil_from_length}
use Rattle.fax_core.specs.Queue.{Queue}
use Rattle.fax_store.specs.Calls.{shown}
use Rattle.fax_store.specs.Times.{is_among, with_ends}
use Rattle.fax_store.specs.Work.{IsUnderWay, Steps}
use Rattle.fax_store.proofs.JobLemmas.{expired_by, none_expired}
use Rattle.fax_tables.proofs.IndexLemmas.{length_map}
use Rattle.fax_tables.specs.Row.{number}
use Rattle.fax_store.proofs.FrameLemmas.{finds_as, reads_on, runs_of, runs_then, writes_refused}
use Rattle.fax_store.proofs.store.Store.expire_in.Goals as goal

pub returns-in_err-expired : goal.returns-in_err-expired
returns-in_err-expired g c =
    writes_refused g.S.Store _ c.from_residual.ensures.1 (runs_of g.S.Store c.in_err-expired.ensures.leaves) c.in_err-expired.ensures.cause

pub returns-then-len-eq0 : goal.returns-then-len-eq0
returns-then-len-eq0 g c = record {
  leaves = runs_of g.S.Store (finds_as g.S.Store _ _ _ _ c.in_ok-expired.ensures.leaves);
  written = λ m₀ m k₀ k works s.
      let first = reads_on g.S.Store c.in_ok-expired.ensures.leaves c.in_ok-expired.ensures.answers m₀ m k₀ k works s in
      let old = shown g.S.Store c.args.self.now in
      let means = ((works (c.in_ok-expired.ensures.leaves.served s)).goes_on refl).means in
      let few : length c.in_ok-expired.expired.items ≡ 0 = search rules in
      let none = nil_from_length first.0.0 (sym (length_map (λ n. number n ∷ []) first.0.0) ∙ sym (ap length first.0.1) ∙ few) in
      subst (λ (n : Queue). IsUnderWay (shown g.S.Store c.expired.new.self) false m₀ k₀ n k)
      (sym (none_expired c.args.phase c.args.t old old m k means (λ n. sym (first.0.2 n) ∙ ap (λ ns. is_among ns n) none))) first.1;
  cause = tt;
}

pub returns-in_err-end_rows : goal.returns-in_err-end_rows
returns-in_err-end_rows g c =
    writes_refused g.S.Store _ c.from_residual-in_err-end_rows.ensures.1 (runs_then g.S.Store (runs_of g.S.Store c.in_ok-expired.ensures.leaves) c.in_err-end_rows.ensures.leaves) c.in_err-end_rows.ensures.cause

pub returns : goal.returns
returns g c = record {
  leaves = runs_then g.S.Store (runs_then g.S.Store (runs_of g.S.Store c.in_ok-expired.ensures.leaves) c.in_ok-end_rows.ensures.leaves) c.fail_in.ensures.leaves;
  written = λ m₀ m k₀ k works s.
      let after = shown g.S.Store c.fail_in.new.self in
      let at_end = c.fail_in.ensures.leaves.served s in
      let first = reads_on g.S.Store c.in_ok-expired.ensures.leaves c.in_ok-expired.ensures.answers m₀ m k₀ k works (c.in_ok-end_rows.ensures.leaves.served at_end) in
      let numbers = first.0.0 in
      let ended = c.in_ok-end_rows.ensures.written numbers (ap (λ rows. rows) c.as_slice.ensures.value ∙ first.0.1) in
      subst (λ (n : Queue). Steps after c.fail_in.result m₀ k₀ n k) (expired_by c.args.phase c.args.t m numbers first.0.2)
      (c.fail_in.ensures.written m₀ (with_ends c.args.t (is_among numbers) m) k₀ k (λ _. ended.written m₀ m k₀ k (λ _. first.1) at_end) s);
  cause = c.fail_in.ensures.cause;
}
