use Rattle.std.proofs.Common.{◌∙◌, List, ℕ, refl, subst, sym}
use Rattle.fax_http.specs.Device.{BrokeOff}
use Rattle.fax_text.specs.declared.words.WordsFault.TheVariants.{Help, NoMemory}
use Rattle.faxqd.specs.Command.{Tells}
use Rattle.faxqd.specs.Saying.{Says}
use Rattle.faxqd.proofs.command.refuse.Goals as goal

pub returns-in-Err : goal.returns-in-Err
returns-in-Err g c =
    let says = subst (λ (line : List ℕ). Says g.E.Write.contents c.args.err.now c.say_at_end.new.err line) c.failed.ensures.says c.say_at_end.ensures.says in
    let broke = subst (λ (bytes : List ℕ). BrokeOff g.W.Write.contents c.args.out.now c.put.new.self bytes) c.as_bytes.ensures.value c.in-Err.ensures.err in
    subst (λ fault. Tells g.W.Write.contents g.E.Write.contents c.args.out.now c.put.new.self c.args.err.now c.say_at_end.new.err fault c.say_at_end.result) (sym c.in-Help.is)
    (subst (λ status. Tells g.W.Write.contents g.E.Write.contents c.args.out.now c.put.new.self c.args.err.now c.say_at_end.new.err (Help c.in-Help.text) status)
    (sym (c.say_at_end.ensures.status ∙ c.failed.ensures.status)) (broke, says))

pub returns-in-NoMemory : goal.returns-in-NoMemory
returns-in-NoMemory g c =
    let err = c.say_at_end-in-NoMemory.new.err in
    let says = subst (λ (line : List ℕ). Says g.E.Write.contents c.args.err.now err line) c.failed-in-NoMemory.ensures.says c.say_at_end-in-NoMemory.ensures.says in
    subst (λ fault. Tells g.W.Write.contents g.E.Write.contents c.args.out.now c.args.out.now c.args.err.now err fault c.say_at_end-in-NoMemory.result) (sym c.in-NoMemory.is)
    (subst (λ status. Tells g.W.Write.contents g.E.Write.contents c.args.out.now c.args.out.now c.args.err.now err NoMemory status)
    (sym (c.say_at_end-in-NoMemory.ensures.status ∙ c.failed-in-NoMemory.ensures.status)) (refl, says))
