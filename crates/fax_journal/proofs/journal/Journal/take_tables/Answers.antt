use Rattle.std.proofs.Common.{sym, ◌∙◌}
use Rattle.fax_journal.proofs.AdoptLemmas.{made_both, made_second, refused_first}
use Rattle.fax_journal.proofs.journal.Journal.take_tables.Goals as goal

pub returns-in_err-create_journal : goal.returns-in_err-create_journal
returns-in_err-create_journal g c =
    refused_first _ _ c.in_err-create_journal.field-0.0 c.from_residual.result c.from_residual.ensures.1 c.in_err-create_journal.ensures.cause (sym c.schema.ensures.value ∙ c.has_no_tables.ensures.0 c.if-has_no_tables.true)
    c.in_err-create_journal.ensures.makes

pub returns-then-has_no_tables : goal.returns-then-has_no_tables
returns-then-has_no_tables g c =
    made_both _ _ _ (sym c.schema.ensures.value ∙ c.has_no_tables.ensures.0 c.if-has_no_tables.true) c.in_ok-create_journal.ensures.makes c.create_answers.result c.create_answers.ensures.cause c.create_answers.ensures.makes

pub returns-then-branch : goal.returns-then-branch
returns-then-branch g c =
    made_second _ _ c.create_answers-then-branch.result c.create_answers-then-branch.ensures.cause (sym c.schema-2.ensures.value ∙ c.in_ok-has_layout.ensures.0 c.if-branch.true) c.create_answers-then-branch.ensures.makes
