use Rattle.std.proofs.Common.{ap, sym, refl, ◌∙◌}
use Rattle.std.proofs.lemmas.List.{map_push}
use Rattle.std.specs.Prelude.{Ok}
use Rattle.fax_dest.specs.Setting.{ModemNamed, ClassOf, DelayAfter, JobsUpTo, GrantsUpTo, ZoneOf, Nothing, numbered, texted}
use Rattle.fax_dest.specs.Setup.{class_text}
use Rattle.fax_dest.proofs.setup.Setup.set.Goals as goal

pub returns-in_ok-push-in-Modem : goal.returns-in_ok-push-in-Modem
returns-in_ok-push-in-Modem c = λ is_pattern grammar.
    (ModemNamed c.in_ok-name_of-in-Modem.field-0, rw c.in-Modem.is (ap (λ r. texted ModemNamed r) c.in_ok-name_of-in-Modem.ensures.read), record { shown = rw c.in_ok-push-in-Modem.ensures.items refl; zone = refl })

pub returns-in_ok-push-in-ModemClass : goal.returns-in_ok-push-in-ModemClass
returns-in_ok-push-in-ModemClass c = λ is_pattern grammar.
    let class = c.in_ok-read-in-ModemClass.field-0 in
    let made = c.in_ok-read-in-ModemClass.ensures is_pattern grammar in
    (ClassOf (class_text class), rw c.in-ModemClass.is (made.1 ∙ ap (λ setting. Ok setting) made.2), record { shown = rw (c.in_ok-push-in-ModemClass.ensures.items, map_push class_text c.args.self.now.classes.items class) refl; zone = refl })

pub returns-in_ok-number_in-in-Delay : goal.returns-in_ok-number_in-in-Delay
returns-in_ok-number_in-in-Delay c = λ is_pattern grammar.
    (DelayAfter c.in-Delay.call c.in_ok-number_in-in-Delay.field-0, rw c.in-Delay.is (ap (λ r. numbered (DelayAfter c.in-Delay.call) r) (sym c.in_ok-number_in-in-Delay.ensures.value)), record { shown = c.set_delay.ensures.shown; zone = c.set_delay.ensures.zone })

pub returns-in_ok-self-in-MaxJobs : goal.returns-in_ok-self-in-MaxJobs
returns-in_ok-self-in-MaxJobs c = λ is_pattern grammar.
    (JobsUpTo c.in_ok-self-in-MaxJobs.field-0, rw c.in-MaxJobs.is (ap (λ r. numbered JobsUpTo r) (sym c.in_ok-self-in-MaxJobs.ensures.value)), record { shown = refl; zone = refl })

pub returns-in_ok-self-in-MaxGrants : goal.returns-in_ok-self-in-MaxGrants
returns-in_ok-self-in-MaxGrants c = λ is_pattern grammar.
    (GrantsUpTo c.in_ok-self-in-MaxGrants.field-0, rw c.in-MaxGrants.is (ap (λ r. numbered GrantsUpTo r) (sym c.in_ok-self-in-MaxGrants.ensures.value)), record { shown = refl; zone = refl })

pub returns-in_ok-self-in-TimeZone : goal.returns-in_ok-self-in-TimeZone
returns-in_ok-self-in-TimeZone c = λ is_pattern grammar.
    (ZoneOf c.args.value.now, rw c.in-TimeZone.is (ap (λ r. texted ZoneOf r) c.in_ok-self-in-TimeZone.ensures.0), record { shown = refl; zone = c.in_ok-self-in-TimeZone.ensures.1 })

pub returns-in-Another : goal.returns-in-Another
returns-in-Another c = λ is_pattern grammar. (Nothing, rw c.in-Another.is refl, record { shown = refl; zone = refl })
