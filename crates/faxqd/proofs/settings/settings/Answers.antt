use Rattle.std.proofs.Common.{ℕ, List, inr, subst, sym}
use Rattle.fax_ending.specs.Ending.{spoken}
use Rattle.fax_http.specs.Device.{BrokeOff, Put}
use Rattle.faxqd.specs.Settings.{ShowsSettings}
use Rattle.faxqd.proofs.settings.settings.Goals as goal

pub returns-in-Ok-put : goal.returns-in-Ok-put
returns-in-Ok-put g c =
    let put = subst (λ (bytes : List ℕ). Put g.W.Write.contents c.args.out.now c.put.new.self bytes _) c.as_bytes.ensures.value c.in-Ok-put.ensures.ok in
    subst (λ status. ShowsSettings g.W.Write.contents c.args.out.now c.put.new.self c.args.files status (spoken c.unused.result)) (sym c.unused.ensures.status)
    (c.in-Ok.shown, c.in-Ok.ensures, c.if-shown.true, put, c.unused.ensures.says)

pub returns-in-Ok-2 : goal.returns-in-Ok-2
returns-in-Ok-2 g c =
    let put = subst (λ (bytes : List ℕ). Put g.W.Write.contents c.args.out.now c.put.new.self bytes _) c.as_bytes.ensures.value c.in-Ok-2.ensures.ok in
    subst (λ status. ShowsSettings g.W.Write.contents c.args.out.now c.put.new.self c.args.files status (spoken c.well.result)) (sym c.well.ensures.status)
    (c.in-Ok.shown, c.in-Ok.ensures, c.if-shown.false, put, c.well.ensures.says)

pub returns-in-Ok : goal.returns-in-Ok
returns-in-Ok g c =
    let broke = subst (λ (bytes : List ℕ). BrokeOff g.W.Write.contents c.args.out.now c.put.new.self bytes) c.as_bytes.ensures.value c.in-Err-put.ensures.err in
    subst (λ status. ShowsSettings g.W.Write.contents c.args.out.now c.put.new.self c.args.files status (spoken c.failed.result)) (sym c.failed.ensures.status)
    (inr (c.in-Ok.shown, c.in-Ok.ensures, broke, c.failed.ensures.says))
