use Rattle.std.proofs.Common.{◌++◌, ◌∷◌, [], false}
use Rattle.fax_ending.specs.FaultLine.{spelled, spelled_place}
use Rattle.fax_http.specs.Device.{BrokeOff, Put}
use Rattle.faxqd.proofs.SayingLemmas.{broke_at_end, broke_between, broke_in_place, broke_in_word, on_err, on_err_so, on_ok_so, put_on}
use Rattle.faxqd.proofs.saying.say.Goals as goal

pub returns-in_err-put_place-clause-err : goal.returns-in_err-put_place-clause-err
returns-in_err-put_place-clause-err g c =
    let out = g.E.Write.contents in
    let line = c.args.line in
    on_err c.from_residual-in_err-put_place.result (BrokeOff out c.args.err.now c.put_place.new.err (spelled line))
    (broke_in_place out line c.args.err.now c.put_text.new.err c.put_place.new.err c.in_ok-put_text.ensures.ok c.in_err-put_place.ensures.err)

pub returns-in_err-put_text-2-clause-err : goal.returns-in_err-put_text-2-clause-err
returns-in_err-put_text-2-clause-err g c =
    let out = g.E.Write.contents in
    let line = c.args.line in
    let start = c.args.err.now in
    let one = c.put_text.new.err in
    let two = c.put_place.new.err in
    on_err c.from_residual-in_err-put_text-2.result (BrokeOff out start c.put_text-2.new.err (spelled line))
    (broke_between out line start two c.put_text-2.new.err (put_on out start one two line.what.now (spelled_place line.place) c.in_ok-put_text.ensures.ok false c.in_ok-put_place.ensures.ok) c.in_err-put_text-2.ensures.err)

pub returns-in_err-put_text-3-clause-err : goal.returns-in_err-put_text-3-clause-err
returns-in_err-put_text-3-clause-err g c =
    let out = g.E.Write.contents in
    let line = c.args.line in
    let start = c.args.err.now in
    let one = c.put_text.new.err in
    let two = c.put_place.new.err in
    let three = c.put_text-2.new.err in
    let place = spelled_place line.place in
    let first = put_on out start one two line.what.now place c.in_ok-put_text.ensures.ok false c.in_ok-put_place.ensures.ok in
    on_err c.from_residual-in_err-put_text-3.result (BrokeOff out start c.put_text-3.new.err (spelled line))
    (broke_in_word out line start three c.put_text-3.new.err (put_on out start two three (line.what.now ++ place) line.between.now first false c.in_ok-put_text-2.ensures.ok) c.in_err-put_text-3.ensures.err)

pub returns-clause-ok : goal.returns-clause-ok
returns-clause-ok g c =
    let out = g.E.Write.contents in
    let line = c.args.line in
    let start = c.args.err.now in
    let one = c.put_text.new.err in
    let two = c.put_place.new.err in
    let three = c.put_text-2.new.err in
    let four = c.put_text-3.new.err in
    let place = spelled_place line.place in
    let first = put_on out start one two line.what.now place c.in_ok-put_text.ensures.ok false c.in_ok-put_place.ensures.ok in
    let second = put_on out start two three (line.what.now ++ place) line.between.now first false c.in_ok-put_text-2.ensures.ok in
    let third = put_on out start three four (line.what.now ++ place ++ line.between.now) line.word.now second false c.in_ok-put_text-3.ensures.ok in
    on_ok_so c.put_text-4.result (Put out four c.put_text-4.new.err (10 ∷ []) false) (Put out start c.put_text-4.new.err (spelled line) false)
    (λ p. put_on out start four c.put_text-4.new.err (line.what.now ++ place ++ line.between.now ++ line.word.now) (10 ∷ []) third false p) c.put_text-4.ensures.ok

pub returns-clause-err : goal.returns-clause-err
returns-clause-err g c =
    let out = g.E.Write.contents in
    let line = c.args.line in
    let start = c.args.err.now in
    let one = c.put_text.new.err in
    let two = c.put_place.new.err in
    let three = c.put_text-2.new.err in
    let four = c.put_text-3.new.err in
    let place = spelled_place line.place in
    let first = put_on out start one two line.what.now place c.in_ok-put_text.ensures.ok false c.in_ok-put_place.ensures.ok in
    let second = put_on out start two three (line.what.now ++ place) line.between.now first false c.in_ok-put_text-2.ensures.ok in
    let third = put_on out start three four (line.what.now ++ place ++ line.between.now) line.word.now second false c.in_ok-put_text-3.ensures.ok in
    on_err_so c.put_text-4.result (BrokeOff out four c.put_text-4.new.err (10 ∷ [])) (BrokeOff out start c.put_text-4.new.err (spelled line))
    (λ o. broke_at_end out line start four c.put_text-4.new.err third o) c.put_text-4.ensures.err
