use Rattle.scope_rules.proofs.Checked.{has_module}
use Rattle.scope_rules.proofs.a_program_without_faults_has_a_module.Goals as goal

pub returns : goal.returns
returns c = has_module
