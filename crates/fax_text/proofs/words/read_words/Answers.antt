use Rattle.std.proofs.Common.{◌≡◌, ◌∙◌, ◌⊎◌, ap, sym, subst, map, string_bytes, Ok, Err}
use Rattle.clap.specs.Faults.{fault_of, is_simple_and_free}
use Rattle.clap.specs.Kinds.{IsAmong}
use Rattle.clap.specs.Simple.{is_simple, subcommand_of, subcommand_rows_of}
use Rattle.clap.specs.Values.{kind_of}
use Rattle.clap.specs.declared.error.kind.ErrorKind.TheVariants.{OutOfMemory}
use Rattle.fax_text.proofs.WordsLemmas.{fixed_of, is_free, is_plain, reads_fault, reads_misuse}
use Rattle.fax_text.specs.Misuse.{IsMisuseOf}
use Rattle.fax_text.specs.Words.{IsNoPlan, IsPlanOf, Reads, program}
use Rattle.fax_text.proofs.words.read_words.Goals as goal

pub returns-in-Err : goal.returns-in-Err
returns-in-Err c =
    let is_program = c.in_ok-command.ensures in
    let words = map string_bytes c.args.words.now in
    let kind = kind_of c.in-Err.error in
    let reads : Reads words (Err c.in_ok-explain-in-Err.field-0) =
    reads_fault words kind c.in_ok-explain-in-Err.field-0
    (subst (λ a. (kind ≡ OutOfMemory) ⊎ IsAmong kind (fault_of a words)) is_program
    (c.in-Err.ensures.kinds (ap is_simple_and_free is_program ∙ is_free)))
    c.in_ok-explain-in-Err.ensures in
    record { reads = reads; fixed = fixed_of words (Err c.in_ok-explain-in-Err.field-0) reads }

pub returns-in-Ok-plan_in : goal.returns-in-Ok-plan_in
returns-in-Ok-plan_in c =
    let is_program = c.in_ok-command.ensures in
    let words = map string_bytes c.args.words.now in
    let found : subcommand_rows_of c.in-Ok.matches ≡ subcommand_of program words =
    (c.in-Ok.ensures.matches (ap is_simple is_program ∙ is_plain)).1 ∙ ap (λ a. subcommand_of a words) is_program in
    let reads : Reads words (Ok c.in-Ok-plan_in.plan) = (
      subst (λ f. IsPlanOf f c.in-Ok-plan_in.plan) found c.in-Ok-plan_in.ensures.ok,
      ap (λ a. fault_of a words) (sym is_program) ∙ c.in-Ok.ensures.kinds (ap is_simple_and_free is_program ∙ is_free),
    ) in
    record { reads = reads; fixed = fixed_of words (Ok c.in-Ok-plan_in.plan) reads }

pub returns : goal.returns
returns c =
    let is_program = c.in_ok-command.ensures in
    let words = map string_bytes c.args.words.now in
    let found : subcommand_rows_of c.in-Ok.matches ≡ subcommand_of program words =
    (c.in-Ok.ensures.matches (ap is_simple is_program ∙ is_plain)).1 ∙ ap (λ a. subcommand_of a words) is_program in
    let fault = c.in_ok-tell-in-Err-plan_in.field-0 in
    let reads : Reads words (Err fault) = reads_misuse words c.in-Err-plan_in.misuse fault
    (ap (λ a. fault_of a words) (sym is_program) ∙ c.in-Ok.ensures.kinds (ap is_simple_and_free is_program ∙ is_free))
    (λ other. subst IsNoPlan found (c.in-Err-plan_in.ensures.err other)) (subst (λ f. IsMisuseOf f c.in-Err-plan_in.misuse) found c.in-Err-plan_in.ensures.misuse)
    c.in_ok-tell-in-Err-plan_in.ensures in
    record { reads = reads; fixed = fixed_of words (Err fault) reads }
