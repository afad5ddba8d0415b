use Rattle.std.proofs.Common.{◌≤◌, ap, rules}
use Rattle.fax_store.specs.Job.{with_expired}
use Rattle.fax_tables.specs.declared.meta.Meta.{Meta}
use Rattle.fax_value.specs.Limits.{last_moment}
use Rattle.fax_once.proofs.KnownLemmas.{moved_stand}
use Rattle.fax_once.proofs.known.Known.after.Goals as goal

pub returns : goal.returns
returns c tables m knows was lawful left =
    let now : c.args.t ≤ last_moment = search rules in
    record {
      numbers = moved_stand c.args.self.now.numbers c.args.t c.args.effect.now c.args.before c.numbered-after.result tables m knows.numbers now lawful was left
          (c.numbered-after.ensures (with_expired c.args.t m) left (ap (λ (meta : Meta). meta.next_job) was) (ap (λ (meta : Meta). meta.next_grant) was)) _ c.moved.ensures;
      aged = c.aged_after.ensures m;
    }
