use Rattle.std.proofs.Common.{◌+◌, false, ℕ, arith, sym, rules, length}
use Rattle.std.proofs.lemmas.Bool.{eqb-true}
use Rattle.std.proofs.lemmas.List.{nil_from_length}
use Rattle.fax_dest.specs.Fault.{is_memory, is_big}
use Rattle.fax_dest.proofs.FaultLemmas.{MatchBool-weaker}
use Rattle.fax_dest.proofs.SetupLemmas.{at_one, read_more, read_fault, read_last}
use Rattle.fax_dest.proofs.setup.Setup.read_text.Goals as goal

pub returns-in-Err : goal.returns-in-Err
returns-in-Err c = λ is_pattern grammar.
    let l = c.loop-rest in
    (at_one (l.number + 1) (is_big c.in-Err.kind), MatchBool-weaker (is_memory c.in-Err.kind) (read_fault is_pattern c.args.text.now l.number l.setup c.cut_line.result.0.now l.rest.now c.cut_line.result.1.now c.in-Err.kind (l.invariant.0 is_pattern grammar) c.cut_line.ensures.lines) (c.in-Err.ensures is_pattern grammar))

pub loop-rest-preserved : goal.loop-rest-preserved
loop-rest-preserved c =
    let l = c.loop-rest in (
      λ is_pattern grammar.
          let taken = c.in_default.ensures is_pattern grammar in
          read_more is_pattern c.args.text.now l.number l.setup c.take.new.self c.cut_line.result.0.now l.rest.now c.cut_line.result.1.now taken.0 (l.invariant.0 is_pattern grammar) c.cut_line.ensures.lines taken.1 taken.2,
      omega (arith, c.cut_line.ensures.shorter, l.invariant.1),
      search rules,
    )

pub returns : goal.returns
returns c = λ is_pattern grammar.
    let l = c.loop-rest in
    (λ (k : ℕ). false, read_last is_pattern c.args.text.now l.number l.setup l.rest.now (l.invariant.0 is_pattern grammar) (nil_from_length l.rest.now (eqb-true (length l.rest.now) 0 (sym c.loop-rest-test.ensures))))
