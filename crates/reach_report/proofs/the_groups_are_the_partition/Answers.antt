-- The contract is the law of what is listed.
use Rattle.reach_report.proofs.Laws as laws
use Rattle.reach_report.proofs.the_groups_are_the_partition.Goals as goal

pub returns : goal.returns
returns c = laws.the_partition_is_listed
