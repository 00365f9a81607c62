-- The global names keep a store closed, and so the store in which a text begins names live objects alone.
use Rattle.std.proofs.Common.{ℕ, ◌+◌, ◌<◌, ◌≤◌, true, List, [], ◌∷◌, None, All, length, rules, arith, lt_of_lt_of_le, le_trans}
use Rattle.std.specs.Prelude.{codes}
use Rattle.std.proofs.lemmas.List.Elements.{All-head, All-tail, All-from_recursion}
use Rattle.es3_objects.specs.declared.value.Value.TheVariants.{Undefined, Bool, Obj}
use Rattle.es3_objects.specs.declared.value.Class.TheVariants as class
use Rattle.es3_objects.specs.declared.value.FuncKind.TheVariants.{Constructor}
use Rattle.es3_objects.specs.declared.value.Proto.{Proto}
use Rattle.es3_objects.specs.declared.value.Proto.TheVariants as proto
use Rattle.es3_heap.specs.Objects.{Object, Objects, with_object, hidden_attrs, fixed_attrs}
use Rattle.es3_heap.specs.Making.{made, proto_id}
use Rattle.es3_live.specs.Live.{AreClosed, Later}
use Rattle.es3_live.proofs.Writing.{Grown, same_objects, grown_trans, define_grown}
use Rattle.es3_live.proofs.Making.{new_within, made_grown, made_function_grown, proto_there}
use Rattle.rows.specs.Names.{function_methods, text_methods, array_methods}
use Rattle.heap_rows.specs.Marks.{call_mark}
use Rattle.heap_rows.specs.Opening.{runtime_id, built_ins_there}
use Rattle.doc_nodes.specs.Rows.{Doc}
use Rattle.module_loader.specs.Turns.{page_objects}
use Rattle.global_names.specs.Opening.{object_number, function_number, array_number, math_place, constructors, with_hidden, with_constructor, with_constructors, with_names, placed, with_methods, with_call_marks, array_calls, text_calls, with_marks, global_attrs, with_functions, with_globals, with_prototypes, with_global_names, text_globals}
use Rattle.live_openings.proofs.Nodes.{page_there, page_closed}

-- a property that holds an object which is there

hidden_grown : (o : ℕ) (k : List ℕ) (place : ℕ) (h : Objects) → AreClosed h → place < length h.list → Grown h (with_hidden o k place h)
hidden_grown o k place h closed there = define_grown h o k (Obj place) hidden_attrs closed there

-- the global functions, which stand below n

abbrev ConstructorBelow : ℕ → List ℕ × ℕ × Proto → Type 0
ConstructorBelow n c = c.1 < n

constructor_grown : (n globals : ℕ) (c : List ℕ × ℕ × Proto) (h : Objects) → AreClosed h → n ≤ length h.list → ConstructorBelow n c → Grown h (with_constructor globals c h)
constructor_grown n globals c h closed many below =
    let there = lt_of_lt_of_le below many in
    let first = define_grown h c.1 (codes "prototype") (Obj (proto_id c.2)) fixed_attrs closed (proto_there h c.2 closed) in
    let second = hidden_grown (proto_id c.2) (codes "constructor") c.1 _ first.closed (lt_of_lt_of_le there first.later.more) in
    let both = grown_trans first second in
    grown_trans both (hidden_grown globals c.0 c.1 _ second.closed (lt_of_lt_of_le there both.later.more))

constructors_grown : (n globals : ℕ) (cs : List (List ℕ × ℕ × Proto)) (h : Objects) → AreClosed h → n ≤ length h.list → All (ConstructorBelow n) cs → Grown h (with_constructors globals cs h)
constructors_grown n globals [] h closed many below = same_objects h closed
constructors_grown n globals (c ∷ cs) h closed many below =
    let first = constructor_grown n globals c h closed many (All-head (ConstructorBelow n) c cs below) in
    grown_trans first (constructors_grown n globals cs _ first.closed (le_trans many first.later.more) (All-tail (ConstructorBelow n) c cs below))

constructors_below : (n : ℕ) → 82 ≤ n → All (ConstructorBelow (n + 3)) (constructors n)
constructors_below n many =
    All-from_recursion (ConstructorBelow (n + 3)) (constructors n)
    (omega arith, (omega arith, (omega arith, (omega (arith, many), (omega (arith, many), (omega (arith, many), (omega (arith, many), (omega (arith, many), (omega (arith, many), tt)))))))))

-- the methods, which stand among the built-in functions

abbrev MethodBelow : ℕ → List ℕ × ℕ → Type 0
MethodBelow n m = m.1 < n

methods_grown : (o : ℕ) (ms : List (List ℕ × ℕ)) (h : Objects) → AreClosed h → 82 ≤ length h.list → All (MethodBelow 82) ms → Grown h (with_methods o ms h)
methods_grown o [] h closed many below = same_objects h closed
methods_grown o (m ∷ ms) h closed many below =
    let first = hidden_grown o m.0 m.1 h closed (lt_of_lt_of_le (All-head (MethodBelow 82) m ms below) many) in
    grown_trans first (methods_grown o ms _ first.closed (le_trans many first.later.more) (All-tail (MethodBelow 82) m ms below))

function_methods_below : All (MethodBelow 82) (placed function_methods)
function_methods_below = search (rules, arith)

text_methods_below : All (MethodBelow 82) (placed text_methods)
text_methods_below = search (rules, arith)

array_methods_below : All (MethodBelow 82) (placed array_methods)
array_methods_below = search (rules, arith)

prototypes_grown : (h : Objects) → built_ins_there h → AreClosed h → Grown h (with_prototypes h)
unfolding with_prototypes
prototypes_grown h there closed =
    let first = methods_grown (proto_id proto.Function) (placed function_methods) h closed there function_methods_below in
    let second = methods_grown (proto_id proto.String) (placed text_methods) _ first.closed (le_trans there first.later.more) text_methods_below in
    let both = grown_trans first second in
    grown_trans both (methods_grown (proto_id proto.Array) (placed array_methods) _ second.closed (le_trans there both.later.more) array_methods_below)

-- the marks of methods that modules may call

call_marks_grown : (o : ℕ) (ks : List (List ℕ)) (h : Objects) → AreClosed h → Grown h (with_call_marks o ks h)
call_marks_grown o [] h closed = same_objects h closed
call_marks_grown o (k ∷ ks) h closed =
    let first = define_grown h o (call_mark k) (Bool true) hidden_attrs closed tt in
    grown_trans first (call_marks_grown o ks _ first.closed)

marks_grown : (h : Objects) → AreClosed h → Grown h (with_marks h)
unfolding with_marks
marks_grown h closed =
    let first = call_marks_grown (proto_id proto.String) text_calls h closed in
    grown_trans first (call_marks_grown (proto_id proto.Array) array_calls _ first.closed)

-- the three functions and the global object behind them

functions_grown : (h : Objects) → AreClosed h → Grown h (with_functions h)
functions_grown h closed =
    let first = made_function_grown h (Constructor object_number) 0 closed in
    let second = made_function_grown _ (Constructor function_number) 0 first.closed in
    grown_trans first (grown_trans second (made_function_grown _ (Constructor array_number) 0 second.closed))

-- a store that has grown from another, with the global object behind three others
record WithNames (h g : Objects) : Type 0 where
  pub grown : Grown h g
  pub globals : length h.list + 3 < length g.list

four_more : (h : Objects) (a b c d : Object) → length h.list + 3 < length (with_object (with_object (with_object (with_object h a) b) c) d).list
four_more h a b c d =
    let first = new_within h a in
    let second = new_within (with_object h a) b in
    let third = new_within (with_object (with_object h a) b) c in
    let fourth = new_within (with_object (with_object (with_object h a) b) c) d in
    omega (arith, first, second, third, fourth)

globals_kept : (h : Objects) → AreClosed h → WithNames h (with_globals (length h.list + 3) (with_functions h))
globals_kept h closed =
    let first = functions_grown h closed in
    let second = made_grown (with_functions h) class.Object None first.closed tt in
    let third = define_grown (made class.Object None (with_functions h)) (length h.list + 3) (codes "undefined") Undefined global_attrs second.closed tt in
    record { grown = grown_trans first (grown_trans second third); globals = lt_of_lt_of_le (four_more h _ _ _ _) third.later.more }

global_names_kept : (h : Objects) → built_ins_there h → AreClosed h → WithNames h (with_global_names h)
unfolding with_global_names with_names
global_names_kept h there closed =
    let n = length h.list in
    let first = globals_kept h closed in
    let begun = with_globals (n + 3) (with_functions h) in
    let second = constructors_grown (n + 3) (n + 3) (constructors n) begun first.grown.closed (let many = first.globals in omega (arith, many)) (constructors_below n there) in
    let both = grown_trans first.grown second in
    let third = hidden_grown (n + 3) (codes "Math") math_place _ second.closed (let many = le_trans there both.later.more in omega (arith, many)) in
    let three = grown_trans both third in
    let fourth = hidden_grown (n + 3) (codes "___") runtime_id _ third.closed (let many = le_trans there three.later.more in omega (arith, many)) in
    let four = grown_trans three fourth in
    let fifth = prototypes_grown _ (le_trans there four.later.more) fourth.closed in
    let last = grown_trans fifth (marks_grown _ fifth.closed) in
    record { grown = grown_trans four last; globals = lt_of_lt_of_le first.globals (le_trans second.later.more (le_trans third.later.more (le_trans fourth.later.more last.later.more))) }

text_kept : (modules cells : ℕ) (d : Doc) → WithNames (page_objects modules cells d) (with_global_names (page_objects modules cells d))
text_kept modules cells d = global_names_kept (page_objects modules cells d) (page_there modules cells d) (page_closed modules cells d)

pub text_later : (modules cells : ℕ) (d : Doc) → Later (page_objects modules cells d) (with_global_names (page_objects modules cells d))
text_later modules cells d = (text_kept modules cells d).grown.later

pub text_there : (modules cells : ℕ) (d : Doc) → built_ins_there (with_global_names (page_objects modules cells d))
text_there modules cells d = le_trans (page_there modules cells d) (text_later modules cells d).more

pub text_globals_there : (modules cells : ℕ) (d : Doc) → text_globals (page_objects modules cells d) < length (with_global_names (page_objects modules cells d)).list
text_globals_there modules cells d = (text_kept modules cells d).globals

pub text_closed : (modules cells : ℕ) (d : Doc) → AreClosed (with_global_names (page_objects modules cells d))
text_closed modules cells d = (text_kept modules cells d).grown.closed
