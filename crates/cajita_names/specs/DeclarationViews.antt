-- What a declaration in the program says.
use Rattle.es3_tree.specs.PlacedView.{word}
use Rattle.cajita_names.specs.declared.declarations.Role.{Role as RolePart}
use Rattle.cajita_names.specs.declared.declarations.Role.TheVariants as r
use Rattle.cajita_names.specs.declared.declarations.Declaration.{Declaration as DeclarationPart}
use Rattle.cajita_names.specs.Declarations.{Role, Declaration, parameter, variable, loop_variable, function}

abbrev pub role_of : RolePart → Role
role_of r.Parameter = parameter
role_of r.Variable = variable
role_of r.LoopVariable = loop_variable
role_of r.Function = function

abbrev pub declaration_of : DeclarationPart → Declaration
declaration_of d = record { word = word d.name; role = role_of d.role }
