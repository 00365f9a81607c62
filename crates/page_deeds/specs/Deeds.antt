-- What a page is to do: its modules are loaded, and its events are done. Modules, cells, granted roots of its document and events are known by their numbers, each
-- from 0; a node by its root and its number there.
use Rattle.std.specs.Prelude.{ℕ, ℤ, Bool, List}

-- a value in which no object is
pub data Plain : Type 0 where
  null : Plain
  truth : Bool → Plain
  number : ℤ → Plain
  -- its 16-bit units
  text : List ℕ → Plain

-- what a module is granted: a cell, the result of a module that was loaded before, a plain value, a root of the document
pub data Grant : Type 0 where
  a_cell : ℕ → Grant
  a_result : ℕ → Grant
  a_plain : Plain → Grant
  a_root : ℕ → Grant

-- each grant under the name by which the module imports it
abbrev pub Grants : Type 0
Grants = List (List ℕ × Grant)

-- what is done, over the programs P of modules. An event has a number, by which the log names it
pub data Deed (P : Type 0) : Type 0 where
  -- a module is loaded
  to_load : ℕ → P → Grants → Deed P
  -- of a module's result a key is called, with arguments
  to_call : ℕ → ℕ → List ℕ → List Plain → Deed P
  -- the first function in a module's queue is called
  to_tick : ℕ → ℕ → Deed P
  -- a node is clicked: the event, the id by which the page asks for it, its root, its number there
  to_click : ℕ → List ℕ → ℕ → ℕ → Deed P
  -- a text is put into a node, and then it is told so
  to_input : ℕ → List ℕ → ℕ → ℕ → List ℕ → Deed P

-- the same deeds over other programs
abbrev pub over_programs : {P Q : Type 0} → (P → Q) → Deed P → Deed Q
over_programs f (to_load m p gs) = to_load m (f p) gs
over_programs f (to_call k m key args) = to_call k m key args
over_programs f (to_tick k m) = to_tick k m
over_programs f (to_click k id root n) = to_click k id root n
over_programs f (to_input k id root n us) = to_input k id root n us

-- whose something is: a module's, or a root's
pub data Owner : Type 0 where
  of_module : ℕ → Owner
  of_root : ℕ → Owner

abbrev pub owner_of : {P : Type 0} → Deed P → Owner
owner_of (to_load m p gs) = of_module m
owner_of (to_call k m key args) = of_module m
owner_of (to_tick k m) = of_module m
owner_of (to_click k id root n) = of_root root
owner_of (to_input k id root n us) = of_root root

-- what the log calls a deed
pub data Label : Type 0 where
  of_load : ℕ → Label
  of_call : ℕ → ℕ → List ℕ → Label
  of_tick : ℕ → ℕ → Label
  -- the event, the id, and the root that the node belongs to
  of_click : ℕ → List ℕ → ℕ → Label
  of_input : ℕ → List ℕ → ℕ → Label

abbrev pub label_of : {P : Type 0} → Deed P → Label
label_of (to_load m p gs) = of_load m
label_of (to_call k m key args) = of_call k m key
label_of (to_tick k m) = of_tick k m
label_of (to_click k id root n) = of_click k id root
label_of (to_input k id root n us) = of_input k id root

abbrev pub labelled : Label → Owner
labelled (of_load m) = of_module m
labelled (of_call k m key) = of_module m
labelled (of_tick k m) = of_module m
labelled (of_click k id root) = of_root root
labelled (of_input k id root) = of_root root
