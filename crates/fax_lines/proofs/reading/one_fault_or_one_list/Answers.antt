use Rattle.fax_lines.proofs.FaultLemmas.{first_fault_alone, fault_or_list}
use Rattle.fax_lines.proofs.reading.one_fault_or_one_list.Goals as goal

pub returns-clause-one : goal.returns-clause-one
returns-clause-one c = first_fault_alone

pub returns-clause-no_list : goal.returns-clause-no_list
returns-clause-no_list c = fault_or_list
