use Rattle.std.proofs.Common.{◌≡◌, nat_lt, true, subst, sym, rules, arith}
use Rattle.std.proofs.lemmas.Bool.Decides.{nat_tests}
use Rattle.fax_check.proofs.RowsLemmas.{call_from, call_to}
use Rattle.fax_check.specs.Whole.{dialing}
use Rattle.fax_tables.specs.Row.{HasNumber, HasValue}
use Rattle.sqlite.specs.declared.types.Value.TheVariants.{Text}
use Rattle.fax_check.proofs.rows.shows_call.Goals as goal

pub returns-then-count-gt0 : goal.returns-then-count-gt0
returns-then-count-gt0 c =
    let value : HasValue c.args.row.now 0 (Text c.in-Ok-Text.dial.now) = record { within = search rules; is = search rules } in
    let some : nat_lt 0 (dialing c.in-Ok-Text.dial.now c.args.held.now) ≡ true = subst (λ n. nat_lt 0 n ≡ true) c.dialing-count.ensures (search rules) in (
      λ on. call_to c.args.held.now c.args.row.now c.in-Ok-Text.dial.now value some (subst (HasNumber c.args.row.now 1) c.dialing-count.ensures (c.has_count.ensures.0 on)),
      λ it. c.has_count.ensures.1 (subst (HasNumber c.args.row.now 1) (sym c.dialing-count.ensures) (call_from c.args.held.now c.args.row.now c.in-Ok-Text.dial.now value it).1),
    )

pub returns-else-count-gt0 : goal.returns-else-count-gt0
returns-else-count-gt0 c =
    let value : HasValue c.args.row.now 0 (Text c.in-Ok-Text.dial.now) = record { within = search rules; is = search rules } in (
      λ on. absurd (let no = c.if-count-gt0.false in let some = on in grind (arith, nat_tests)),
      λ it. subst (λ n. nat_lt 0 n ≡ true) (sym c.dialing-count.ensures) (call_from c.args.held.now c.args.row.now c.in-Ok-Text.dial.now value it).0,
    )
