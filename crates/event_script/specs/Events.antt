-- What an event asks for. Modules are known by their numbers, from 0, and elements of the document by their ids.
use Rattle.std.specs.Prelude.{ℕ, List, map}
use Rattle.page_deeds.specs.Deeds.{Plain, Deed, to_call, to_tick, to_click, to_input}
use Rattle.host_rules.specs.Plain.{plain}
use Rattle.event_script.specs.declared.Event.{Event}
use Rattle.event_script.specs.declared.Event.TheVariants.{Call, Click, Input, Tick}

pub data Asked : Type 0 where
  -- of a module's result a key is called, with arguments
  a_call : ℕ → List ℕ → List Plain → Asked
  -- the element with an id is clicked
  a_click : List ℕ → Asked
  -- a text is put into the element with an id
  an_input : List ℕ → List ℕ → Asked
  -- the first function in a module's queue is called
  a_tick : ℕ → Asked

abbrev pub asked : Event → Asked
asked (Call m key args) = a_call m key (map plain args.items)
asked (Click id) = a_click id
asked (Input id us) = an_input id us
asked (Tick m) = a_tick m

-- the deed that event k of a page is, where each id that is asked for names a root and a node of it
abbrev pub deed_of : {P : Type 0} → (List ℕ → ℕ × ℕ) → ℕ → Asked → Deed P
deed_of node_of k (a_call m key args) = to_call k m key args
deed_of node_of k (a_click id) = to_click k id (node_of id).0 (node_of id).1
deed_of node_of k (an_input id us) = to_input k id (node_of id).0 (node_of id).1 us
deed_of node_of k (a_tick m) = to_tick k m
