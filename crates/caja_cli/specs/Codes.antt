-- The exit statuses of the program.
use Rattle.std.specs.Prelude.{ℕ}
use Rattle.caja_cli.specs.declared.status.Status.{Status}
use Rattle.caja_cli.specs.declared.status.Status.TheVariants.{Done, Usage, Refused, ReadFault, WriteFault, Memory, Number, Depth, Steps, NoRoom, Convert}

abbrev pub code_of : Status → ℕ
code_of Done = 0
code_of Usage = 2
code_of Refused = 3
code_of ReadFault = 4
code_of WriteFault = 5
code_of Memory = 6
code_of Number = 7
code_of Depth = 8
code_of Steps = 9
code_of NoRoom = 10
code_of Convert = 11
