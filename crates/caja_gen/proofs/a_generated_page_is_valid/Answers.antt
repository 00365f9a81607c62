use Rattle.caja_gen.proofs.Sound.{is_valid, none_stands, few_arguments}
use Rattle.caja_gen.proofs.a_generated_page_is_valid.Goals as goal

pub returns-clause-valid : goal.returns-clause-valid
returns-clause-valid c = is_valid

pub returns-clause-cajoled : goal.returns-clause-cajoled
returns-clause-cajoled c = none_stands

pub returns-clause-arguments : goal.returns-clause-arguments
returns-clause-arguments c = few_arguments
