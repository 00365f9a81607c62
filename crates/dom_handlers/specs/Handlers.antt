-- What is called when something happens to a node.
use Rattle.std.specs.Prelude.{ℕ, List, [], ◌∷◌, ◌++◌, Option, Some, None, Bool, true, false, nat_eq, codes, if◌then◌else◌}
use Rattle.caja_units.specs.Units.{same_units}
use Rattle.es3_objects.specs.declared.value.Value.{Value}
use Rattle.dom_handlers.specs.declared.kinds.EventKind.{EventKind}
use Rattle.dom_handlers.specs.declared.kinds.EventKind.TheVariants.{Click, Input}
use Rattle.dom_handlers.specs.declared.kinds.Handler.{Handler}

-- what happens, by the name that modules give it
abbrev pub kind_of : List ℕ → Option EventKind
kind_of us = if same_units us (codes "click") then Some Click else if same_units us (codes "input") then Some Input else None

abbrev pub same_kind : EventKind → EventKind → Bool
same_kind Click Click = true
same_kind Input Input = true
same_kind a b = false

-- a handler is registered behind all others
abbrev pub registered : ℕ → EventKind → Value → List Handler → List Handler
registered n k f hs = hs ++ record { node = n; kind = k; function = f } ∷ []

-- the handlers of a node, in the order in which they were registered
abbrev pub listening : ℕ → List Handler → List Handler
listening n [] = []
listening n (x ∷ xs) = if nat_eq x.node n then x ∷ listening n xs else listening n xs

-- the functions of the handlers of one kind, in their order
abbrev pub of_kind : EventKind → List Handler → List Value
of_kind k [] = []
of_kind k (x ∷ xs) = if same_kind k x.kind then x.function ∷ of_kind k xs else of_kind k xs

-- what is called when this happens to a node, in the order in which it was registered
abbrev pub functions_of : EventKind → ℕ → List Handler → List Value
functions_of k n hs = of_kind k (listening n hs)
