-- What an event begins: the call of a function by the page itself, which gets what comes of it.
use Rattle.std.specs.Prelude.{ℕ, List, [], ◌∷◌, Option, Some, None, length, slice_get, codes, if◌then◌else◌}
use Rattle.acts.specs.Acts.{answer, fault, calling, task}
use Rattle.rows.specs.Rows.{Native, type_error}
use Rattle.rows.specs.Names.{sort_of, is_exophoric}
use Rattle.rows.specs.Events.{call_key}
use Rattle.cajita_tree.specs.Tree as c
use Rattle.cajita_meaning.specs.World.{Name, made_name, Value, undefined, object, Object, a_closure, an_error, World, next_scope}
use Rattle.cajita_meaning.specs.Doing as d
use Rattle.cajita_meaning.specs.Asking.{Completion, gave, threw, Reply, bad, a_native, making, passing, good_value, entry_reply, body_reply, native_at, telling_all}

-- the page, in the place of a module that an object goes to: no module has its number
abbrev pub the_page : ℕ
the_page = 64

-- what a module gives to the page, and what it throws to it
abbrev pub given_out : ℕ → Value → World → Reply
given_out m v w = passing m the_page (v ∷ []) (good_value v w)

abbrev pub thrown_out : ℕ → Value → World → Reply
thrown_out m v w = passing m the_page (v ∷ []) (answer bad (v ∷ []) w)

-- a TypeError that the module of an event throws to the page
abbrev pub refused_out : List ℕ → ℕ → World → Reply
refused_out message m w = making (an_error type_error message) m w (λ v w'. thrown_out m v w')

-- a function that no module made is called as the module whose event it is
abbrev pub native_out : ℕ → Completion → World → Reply
native_out m (gave v) w = given_out m v w
native_out m (threw v) w = thrown_out m v w
native_out m e w = good_value undefined w

abbrev pub native_event : ℕ → Option Native → Name → Value → List Value → World → Reply
native_event m (Some f) n t vs w = calling (task (a_native f 0) m ((if is_exophoric (sort_of f) then t else object n) ∷ vs)) w (λ e w'. native_out m e w')
native_event m None n t vs w = refused_out (codes "not a function") m w

-- a closure runs as the module that made it, and what it returns or throws goes to the page
abbrev pub closure_event : ℕ → Option Object → ℕ → List Value → World → Reply
closure_event m (Some (a_closure f chain)) maker vs w = entry_reply f chain maker vs 0 the_page w
closure_event m o maker vs w = refused_out (codes "not a function") m w

-- a call by the page, with a receiver and arguments, for a module; it is not recorded, and no call is open around it
abbrev pub page_call : ℕ → Value → Value → List Value → World → Reply
page_call m (object (made_name maker n)) t vs w = closure_event m (slice_get (w.objects maker) n) maker vs w
page_call m (object n) t vs w = native_event m (native_at n) n t vs w
page_call m f t vs w = refused_out (codes "not a function") m w

abbrev pub event_outcome : ℕ → d.Outcome → World → Reply
event_outcome m (d.gives v) w = given_out m v w
event_outcome m (d.throws v) w = thrown_out m v w
event_outcome m (d.stops f) w = fault f w
event_outcome m (d.lists ks) w = good_value undefined w
event_outcome m (d.calls recorded f t vs) w = page_call m f t vs w

abbrev pub event_reply : ℕ → d.Done → Reply
event_reply m e = telling_all e.items (event_outcome m e.outcome e.world)

-- the key of a value is called, for a module: the value stands first, and the arguments behind it
abbrev pub key_event : ℕ → List ℕ → List Value → World → Reply
key_event m k vs w = event_reply m (d.does m (call_key k (length vs)) (d.given vs) w [])

-- what is called when something happens to a node: a closure, whose maker is granted the node; nothing else is registered
abbrev pub handler_entry : ℕ → Option Object → Name → World → Reply
handler_entry m (Some (a_closure (c.fun name params args body) chain)) node w =
    telling_all (d.granted m node ∷ []) (body_reply body params args (object node ∷ []) (next_scope m w) (record { chain = next_scope m w ∷ chain; calls = 1 }) m the_page w)
handler_entry m o node w = good_value undefined w

abbrev pub node_event : Name → Value → World → Reply
node_event node (object (made_name m n)) w = handler_entry m (slice_get (w.objects m) n) node w
node_event node f w = good_value undefined w

-- a function that waited is called, for the module in whose queue it stood
abbrev pub tick_event : ℕ → Value → World → Reply
tick_event m f w = page_call m f undefined [] w
