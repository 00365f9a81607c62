-- What is declared around a part, the innermost first, and what a name is there (ES3 10.1.4).
use Rattle.std.specs.Prelude.{ℕ, ◌&&◌, ◌||◌, not, Bool, true, false, List, codes, if◌then◌else◌}
use Rattle.std.specs.List.{list_any}
use Rattle.caja_units.specs.Units.{same_units}
use Rattle.cajita_names.specs.Rules.{is_among}
use Rattle.cajita_names.specs.Declarations as d
use Rattle.cajita_names.specs.Declarations.{Role, Declaration}

pub data Scope : Type 0 where
  -- the body of a module, and the names that it may import: those that are granted, and the fixed ones
  in_module : List Declaration → List (List ℕ) → Scope
  -- the body of a function
  in_function : List Declaration → Scope → Scope
  -- the block of a `catch` with its name (12.14), a function expression with its own name (13)
  in_catch : List ℕ → Scope → Scope
  in_named : List ℕ → Scope → Scope

abbrev pub is_function : Role → Bool
is_function d.function = true
is_function r = false

abbrev pub is_parameter : Role → Bool
is_parameter d.parameter = true
is_parameter r = false

abbrev pub declares : List Declaration → List ℕ → Bool
declares ds x = list_any (λ e. same_units x e.word.text) ds

-- a name that a body declares as a function and otherwise too counts as a function
abbrev pub declares_function : List Declaration → List ℕ → Bool
declares_function ds x = list_any (λ e. is_function e.role && same_units x e.word.text) ds

abbrev pub declares_parameter : List Declaration → List ℕ → Bool
declares_parameter ds x = list_any (λ e. is_parameter e.role && same_units x e.word.text) ds

-- what a name is: it may be written to; it is settled; it is an import; or nothing around declares it
pub data Binding : Type 0 where
  changing settled imported unbound : Binding

abbrev pub own : List Declaration → List ℕ → Binding
own ds x = if declares_function ds x then settled else changing

abbrev pub bound : Scope → List ℕ → Binding
bound (in_module ds names) x = if declares ds x then own ds x else if is_among names x then imported else unbound
bound (in_function ds s) x = if declares ds x then own ds x else bound s x
bound (in_catch y s) x = if same_units x y then changing else bound s x
bound (in_named y s) x = if same_units x y then settled else bound s x

abbrev pub is_within : Scope → Bool
is_within (in_module ds names) = false
is_within (in_function ds s) = true
is_within (in_catch x s) = is_within s
is_within (in_named x s) = is_within s

-- whether the body around declares the name, or a `catch` in that body has it
abbrev pub has_own : Scope → List ℕ → Bool
has_own (in_module ds names) x = declares ds x
has_own (in_function ds s) x = declares ds x
has_own (in_catch y s) x = same_units x y || has_own s x
has_own (in_named y s) x = has_own s x

-- `arguments` is no name like others (10.1.8)
abbrev pub is_arguments : List ℕ → Bool
is_arguments x = same_units x (codes "arguments")

abbrev pub is_eval : List ℕ → Bool
is_eval x = same_units x (codes "eval")

abbrev pub is_unbound : Binding → Bool
is_unbound unbound = true
is_unbound b = false

abbrev pub is_settled : Binding → Bool
is_settled settled = true
is_settled imported = true
is_settled b = false

abbrev pub is_imported : Binding → Bool
is_imported imported = true
is_imported b = false

-- a name that nothing declares; `arguments` outside functions
abbrev pub lacks : Scope → List ℕ → Bool
lacks s x = if is_arguments x then not (is_within s) else is_unbound (bound s x)

-- a name that may not be written to: an import, a declared function, the own name of a function expression
abbrev pub keeps : Scope → List ℕ → Bool
keeps s x = not (is_arguments x) && is_settled (bound s x)

-- a name that the module imports
abbrev pub imports : Scope → List ℕ → Bool
imports s x = not (is_arguments x) && is_imported (bound s x)
