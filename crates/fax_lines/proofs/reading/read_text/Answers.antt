use Rattle.std.proofs.Common.{◌≡◌, [], true, eqb, length, ap, ◌∙◌, arith, rules}
use Rattle.std.specs.Prelude.{None}
use Rattle.std.specs.Option.{option_map}
use Rattle.std.specs.String.{string_bytes}
use Rattle.std.proofs.lemmas.Bool.{eqb-true}
use Rattle.std.proofs.lemmas.List.{nil_from_length}
use Rattle.std.proofs.lemmas.Result.{err_from_is_err_and}
use Rattle.fax_lines.specs.Reading.{lines, read_on, ended, is_no_memory}
use Rattle.fax_lines.proofs.ReadLemmas.{goes_on, fails, is_done}
use Rattle.fax_lines.proofs.reading.read_text.Goals as goal

pub returns-in_err-begun : goal.returns-in_err-begun
returns-in_err-begun c =
    let p = err_from_is_err_and c.from_residual.result c.from_residual.ensures.1 in
    let l = c.loop-rest in
    rw (p.1, p.2) (fails (is_no_memory c.in_err-begun.field-0.0) (lines l.rest.now) c.cut_line.result.0.now (lines c.cut_line.result.1.now) l.number l.lines (option_map string_bytes l.begun) c.in_err-begun.field-0.0 (read_on (lines c.args.text.now) 0 [] None) c.cut_line.ensures.lines c.in_err-begun.ensures.step l.invariant.0)

pub loop-rest-preserved : goal.loop-rest-preserved
loop-rest-preserved c =
    let l = c.loop-rest in (
      goes_on (lines l.rest.now) c.cut_line.result.0.now (lines c.cut_line.result.1.now) l.number l.lines (option_map string_bytes l.begun) (c.step.new.lines, option_map string_bytes c.in_ok-begun.begun) (read_on (lines c.args.text.now) 0 [] None) c.cut_line.ensures.lines c.in_ok-begun.ensures.step l.invariant.0,
      c.in_ok-begun.ensures.opened,
      omega (arith, c.cut_line.ensures.shorter, l.invariant.2),
      search rules,
    )

pub returns-in-None : goal.returns-in-None
returns-in-None c =
    let l = c.loop-rest in
    let none_left : eqb (length l.rest.now) 0 ≡ true = cc in
    let over = ap lines (nil_from_length l.rest.now (eqb-true (length l.rest.now) 0 none_left)) in
    let state = ap (option_map string_bytes) c.in-None.is in
    is_done (lines l.rest.now) l.number l.lines (option_map string_bytes l.begun) (read_on (lines c.args.text.now) 0 [] None) over l.invariant.0 ∙ ap (ended l.number l.lines) state

pub returns-in-Some : goal.returns-in-Some
returns-in-Some c =
    let l = c.loop-rest in
    let none_left : eqb (length l.rest.now) 0 ≡ true = cc in
    let over = ap lines (nil_from_length l.rest.now (eqb-true (length l.rest.now) 0 none_left)) in
    let state = ap (option_map string_bytes) c.in-Some.is in
    is_done (lines l.rest.now) l.number l.lines (option_map string_bytes l.begun) (read_on (lines c.args.text.now) 0 [] None) over l.invariant.0 ∙ ap (ended l.number l.lines) state
