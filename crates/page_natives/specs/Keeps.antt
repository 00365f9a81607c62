-- The natives of a page name live objects alone.
use Rattle.std.proofs.Common.{ℕ, zero, suc, ◌<◌, get_or, Bool, true, false, List, [], ◌∷◌, ◌++◌, All, length, Option, Some, None, Ok, Err, lt_of_lt_of_le, le_trans}
use Rattle.std.proofs.lemmas.List.Elements.{All-nil, All-head, All-tail, All-push, All-weaker}
use Rattle.std.specs.Prelude.{codes, Result}
use Rattle.plans.specs.Plans.{Fault}
use Rattle.es3_objects.specs.declared.value.Value.{Value}
use Rattle.es3_objects.specs.declared.value.Value.TheVariants as v
use Rattle.es3_heap.specs.Objects.{Objects}
use Rattle.es3_convert.specs.Conversions.{and_then, text_of}
use Rattle.es3_language.specs.Natives.{Turn}
use Rattle.es3_live.specs.Live.{IsLive, AreClosed, Later}
use Rattle.es3_live.specs.Keeps.{AfterCall, KeepsLive}
use Rattle.es3_live.proofs.Growth.{all_more, later_refl}
use Rattle.rows.specs.Rows as r
use Rattle.heap_rows.specs.Doing.{Told, said, Done}
use Rattle.heap_rows.specs.Opening.{built_ins_there}
use Rattle.row_outcomes.specs.Arguments.{argument, told}
use Rattle.live_rows.specs.Live.{LiveDone}
use Rattle.live_rows.proofs.Made.{throws_live, copy_live}
use Rattle.live_tables.proofs.Among.{built_in_live}
use Rattle.guard_marks.specs.Closures.{is_closure}
use Rattle.tamed_dom.specs.Lent.{Lent}
use Rattle.tamed_dom.specs.Ends as ends
use Rattle.tamed_dom.specs.Methods.{node_turn}
use Rattle.guard_runtime.specs.Guards as guards
use Rattle.guard_runtime.proofs.Live.{load_module_live, guard_live}
use Rattle.page_log.specs.Items.{touch_told}
use Rattle.page_natives.specs.declared.built_ins.Tool.{Tool}
use Rattle.page_natives.specs.declared.built_ins.Tool.TheVariants as tool
use Rattle.page_natives.specs.declared.built_ins.Method.{Method}
use Rattle.page_natives.specs.declared.built_ins.Method.TheVariants as m
use Rattle.page_natives.specs.declared.built_ins.BuiltIn.{BuiltIn}
use Rattle.page_natives.specs.declared.built_ins.BuiltIn.TheVariants as b
use Rattle.page_natives.specs.declared.natives.Callee.{Callee}
use Rattle.page_natives.specs.declared.natives.Callee.TheVariants as c
use Rattle.page_natives.specs.Objects.{object_from, array_from}
use Rattle.page_natives.specs.Answered.{turn_of}
use Rattle.page_natives.specs.BuiltIns.{tool_done, method_done, done_of}
use Rattle.page_natives.specs.Natives.{Kept, kept_fits, imports_of, tells, callee_of, cell_value, cell_done, set_done, with_kept, queue_of, added, say_done, with_said, later_done, with_waiting, with_node_turn, done_by, kept_by, turn_by, page_table}
use Rattle.page_natives.specs.NodeKeeps.{LiveLent, lent_more, AfterNode, put_holds, new_array_live, argument_live, node_live}

-- the functions that are no rows

refused : (by : ℕ) (h : Objects) → AreClosed h → LiveDone h (Rattle.row_outcomes.specs.Comes.throws (codes "not allowed") by h)
refused by h closed = throws_live by (codes "not allowed") h [] closed

object_live : (by : ℕ) (x : Value) (h : Objects) → AreClosed h → IsLive (length h.list) x → LiveDone h (object_from by x h)
object_live by v.Undefined h closed live = copy_live false by v.Undefined h [] closed
object_live by v.Null h closed live = copy_live false by v.Undefined h [] closed
object_live by (v.Bool b) h closed live = refused by h closed
object_live by (v.Num n) h closed live = refused by h closed
object_live by (v.Text us) h closed live = refused by h closed
object_live by (v.Obj o) h closed live = record { later = later_refl h; closed = closed; answer = live }

array_from_live : (by : ℕ) (vs : List Value) (h : Objects) → AreClosed h → All (IsLive (length h.list)) vs → LiveDone h (array_from by vs h)
array_from_live by [] h closed live = new_array_live by h [] closed live
array_from_live by (v.Num n ∷ []) h closed live = refused by h closed
array_from_live by (v.Undefined ∷ []) h closed live = new_array_live by h (v.Undefined ∷ []) closed live
array_from_live by (v.Null ∷ []) h closed live = new_array_live by h (v.Null ∷ []) closed live
array_from_live by (v.Bool b ∷ []) h closed live = new_array_live by h (v.Bool b ∷ []) closed live
array_from_live by (v.Text us ∷ []) h closed live = new_array_live by h (v.Text us ∷ []) closed live
array_from_live by (v.Obj o ∷ []) h closed live = new_array_live by h (v.Obj o ∷ []) closed live
array_from_live by (v.Num n ∷ y ∷ vs) h closed live = new_array_live by h (v.Num n ∷ y ∷ vs) closed live
array_from_live by (x ∷ y ∷ vs) h closed live = new_array_live by h (x ∷ y ∷ vs) closed live

text_live : (t : Result (List ℕ) Fault) (h : Objects) → AreClosed h → LiveDone h (told (and_then t (λ us. Ok (v.Text us))) h)
text_live (Ok us) h closed = record { later = later_refl h; closed = closed; answer = tt }
text_live (Err f) h closed = record { later = later_refl h; closed = closed; answer = tt }

-- the rows

tool_live : (f : Tool) (by : ℕ) (this : Value) (args : List Value) (h : Objects) → built_ins_there h → AreClosed h → IsLive (length h.list) this → All (IsLive (length h.list)) args → LiveDone h (tool_done f by this args h)
tool_live tool.Freeze by this args h there closed a b = built_in_live r.freeze by this args h there closed a b
tool_live tool.IsFrozen by this args h there closed a b = built_in_live r.is_frozen by this args h there closed a b
tool_live tool.Copy by this args h there closed a b = built_in_live r.copy by this args h there closed a b
tool_live tool.Snapshot by this args h there closed a b = built_in_live r.snapshot by this args h there closed a b
tool_live tool.IsArray by this args h there closed a b = built_in_live r.is_array by this args h there closed a b
tool_live tool.IsRecord by this args h there closed a b = built_in_live r.is_record by this args h there closed a b
tool_live tool.Keys by this args h there closed a b = built_in_live r.keys by this args h there closed a b

method_live : (f : Method) (by : ℕ) (this : Value) (args : List Value) (h : Objects) → built_ins_there h → AreClosed h → IsLive (length h.list) this → All (IsLive (length h.list)) args → LiveDone h (method_done f by this args h)
method_live m.CharAt by this args h there closed a b = built_in_live r.char_at by this args h there closed a b
method_live m.CharCodeAt by this args h there closed a b = built_in_live r.char_code_at by this args h there closed a b
method_live m.IndexOf by this args h there closed a b = built_in_live r.index_of by this args h there closed a b
method_live m.LastIndexOf by this args h there closed a b = built_in_live r.last_index_of by this args h there closed a b
method_live m.SliceText by this args h there closed a b = built_in_live r.slice_text by this args h there closed a b
method_live m.Substring by this args h there closed a b = built_in_live r.substring by this args h there closed a b
method_live m.Split by this args h there closed a b = built_in_live r.split by this args h there closed a b
method_live m.ConcatText by this args h there closed a b = built_in_live r.concat_text by this args h there closed a b
method_live m.Concat by this args h there closed a b = built_in_live r.concat by this args h there closed a b
method_live m.Join by this args h there closed a b = built_in_live r.join by this args h there closed a b
method_live m.Slice by this args h there closed a b = built_in_live r.slice by this args h there closed a b
method_live m.Push by this args h there closed a b = built_in_live r.push by this args h there closed a b
method_live m.Unshift by this args h there closed a b = built_in_live r.unshift by this args h there closed a b
method_live m.Pop by this args h there closed a b = built_in_live r.pop by this args h there closed a b
method_live m.Shift by this args h there closed a b = built_in_live r.shift by this args h there closed a b
method_live m.Reverse by this args h there closed a b = built_in_live r.turn by this args h there closed a b

done_live : (f : BuiltIn) (by : ℕ) (this : Value) (args : List Value) (h : Objects) → built_ins_there h → AreClosed h → IsLive (length h.list) this → All (IsLive (length h.list)) args → LiveDone h (done_of f by this args h)
done_live (b.Tool f) by this args h there closed a l = tool_live f by this args h there closed a l
done_live b.Abs by this args h there closed a l = built_in_live r.abs by this args h there closed a l
done_live b.Floor by this args h there closed a l = built_in_live r.floor by this args h there closed a l
done_live b.Ceil by this args h there closed a l = built_in_live r.ceil by this args h there closed a l
done_live b.Round by this args h there closed a l = built_in_live r.round by this args h there closed a l
done_live b.Max by this args h there closed a l = built_in_live r.max by this args h there closed a l
done_live b.Min by this args h there closed a l = built_in_live r.min by this args h there closed a l
done_live b.Number by this args h there closed a l = built_in_live r.number_from by this args h there closed a l
done_live b.String by this args h there closed a l = built_in_live r.text_from by this args h there closed a l
done_live b.Boolean by this args h there closed a l = built_in_live r.truth_from by this args h there closed a l
done_live b.Error by this args h there closed a l = built_in_live (r.makes r.error) by this args h there closed a l
done_live b.TypeError by this args h there closed a l = built_in_live (r.makes r.type_error) by this args h there closed a l
done_live b.RangeError by this args h there closed a l = built_in_live (r.makes r.range_error) by this args h there closed a l
done_live b.Call by this args h there closed a l = built_in_live r.call by this args h there closed a l
done_live b.Apply by this args h there closed a l = built_in_live r.apply by this args h there closed a l
done_live (b.Method m) by this args h there closed a l = method_live m by this args h there closed a l
done_live b.Object by this args h there closed a l = object_live by (argument 0 args) h closed (argument_live (length h.list) 0 args l)
done_live b.Function by this args h there closed a l = refused by h closed
done_live b.Array by this args h there closed a l = array_from_live by args h closed l
done_live b.ToString by this args h there closed a l = text_live (text_of h this) h closed
done_live b.ValueOf by this args h there closed a l = record { later = later_refl h; closed = closed; answer = a }

-- the functions of modules and cells

say_live : (t : Result (List ℕ) Fault) (h : Objects) → AreClosed h → LiveDone h (say_done t h)
say_live (Ok us) h closed = record { later = later_refl h; closed = closed; answer = tt }
say_live (Err f) h closed = record { later = later_refl h; closed = closed; answer = tt }

later_live : (waits : Bool) (by : ℕ) (h : Objects) → AreClosed h → LiveDone h (later_done waits by h)
later_live true by h closed = record { later = later_refl h; closed = closed; answer = tt }
later_live false by h closed = throws_live by (codes "bad argument") h [] closed

cell_live : (n cell : ℕ) (cells : List Value) → All (IsLive n) cells → IsLive n (cell_value cell cells)
cell_live n cell [] live = tt
cell_live n zero (x ∷ cells) live = All-head (IsLive n) x cells live
cell_live n (suc cell) (x ∷ cells) live = cell_live n cell cells (All-tail (IsLive n) x cells live)

queue_live : (n m : ℕ) (qs : List (List Value)) → All (All (IsLive n)) qs → All (IsLive n) (queue_of m qs)
queue_live n m [] live = All-nil (IsLive n)
queue_live n zero (q ∷ qs) live = All-head (All (IsLive n)) q qs live
queue_live n (suc m) (q ∷ qs) live = queue_live n m qs (All-tail (All (IsLive n)) q qs live)

added_live : (n m : ℕ) (f : Value) (qs : List (List Value)) → All (All (IsLive n)) qs → IsLive n f → All (All (IsLive n)) (added m f qs)
added_live n m f qs all live =
    put_holds (All (IsLive n)) [] m (queue_of m qs ++ f ∷ []) qs (All-nil (IsLive n)) (All-push (IsLive n) (queue_of m qs) f (queue_live n m qs all) live) all

-- what a module may import, or the runtime in its place
imported_live : (n runtime : ℕ) (imports : List ℕ) (m : ℕ) → runtime < n → All (λ o. o < n) imports → get_or imports m runtime < n
imported_live n runtime [] m there live = there
imported_live n runtime (o ∷ imports) zero there live = All-head (λ i. i < n) o imports live
imported_live n runtime (o ∷ imports) (suc m) there live = imported_live n runtime imports m there (All-tail (λ i. i < n) o imports live)

-- what is told names no object
told_fits : (items : List Told) (h : Objects) (z : Kept) → kept_fits z h → kept_fits (tells items z) h
told_fits items h z fits = record { runtime = fits.runtime; imports = fits.imports; built_ins = fits.built_ins; cells = fits.cells; waiting = fits.waiting; facets = fits.facets; handlers = fits.handlers }

said_fits : (m : ℕ) (t : Result (List ℕ) Fault) (h : Objects) (z : Kept) → kept_fits z h → kept_fits (with_said m t z) h
said_fits m (Ok us) h z fits = told_fits (said m us ∷ []) h z fits
said_fits m (Err f) h z fits = fits

waiting_fits : (m : ℕ) (waits : Bool) (x : Value) (h : Objects) (z : Kept) → kept_fits z h → IsLive (length h.list) x → kept_fits (with_waiting m waits x z) h
waiting_fits m true x h z fits live = record {
  runtime = fits.runtime;
  imports = fits.imports;
  built_ins = fits.built_ins;
  cells = fits.cells;
  waiting = added_live (length h.list) m x z.waiting fits.waiting live;
  facets = fits.facets;
  handlers = fits.handlers;
}
waiting_fits m false x h z fits live = fits

-- what is lent of the document

lent_of : (z : Kept) (h : Objects) → kept_fits z h → LiveLent (length h.list) z.dom
lent_of z h fits = record { facets = fits.facets; handlers = fits.handlers }

fits_later : (z : Kept) (h g : Objects) → kept_fits z h → Later h g → kept_fits z g
fits_later z h g fits later = record {
  runtime = lt_of_lt_of_le fits.runtime later.more;
  imports = All-weaker (λ o. o < length h.list) (λ o. o < length g.list) (λ o there. lt_of_lt_of_le there later.more) z.imports fits.imports;
  built_ins = le_trans fits.built_ins later.more;
  cells = all_more z.cells later.more fits.cells;
  waiting = All-weaker (All (IsLive (length h.list))) (All (IsLive (length g.list))) (λ q. all_more q later.more) z.waiting fits.waiting;
  facets = (lent_more z.dom later.more (lent_of z h fits)).facets;
  handlers = (lent_more z.dom later.more (lent_of z h fits)).handlers;
}

-- all of them

-- what came to this, where what is kept then fits the objects that there were
steady : (d : Done) (k : Kept) (h : Objects) → LiveDone h d → kept_fits k h → AfterCall kept_fits h (turn_of d k)
steady d k h live fits = record { later = live.later; closed = live.closed; answer = live.answer; kept = fits_later k h d.heap fits live.later }

set_fits : (cell : ℕ) (x : Value) (h : Objects) (z : Kept) → kept_fits z h → IsLive (length h.list) x → kept_fits (with_kept cell x z) h
set_fits cell x h z fits live = record {
  runtime = fits.runtime;
  imports = fits.imports;
  built_ins = fits.built_ins;
  cells = put_holds (IsLive (length h.list)) v.Undefined cell x z.cells tt live fits.cells;
  waiting = fits.waiting;
  facets = fits.facets;
  handlers = fits.handlers;
}

node_after : (t : Turn Lent) (h : Objects) (z : Kept) → AfterNode h t → kept_fits z h → AfterCall kept_fits h (turn_of (ends.done_of t) (with_node_turn t z))
node_after t h z after fits = let more = fits_later z h t.heap fits after.done.later in record {
  later = after.done.later;
  closed = after.done.closed;
  answer = after.done.answer;
  kept = record { runtime = more.runtime; imports = more.imports; built_ins = more.built_ins; cells = more.cells; waiting = more.waiting; facets = after.lent.facets; handlers = after.lent.handlers };
}

callee_after : (f : Callee) (by : ℕ) (this : Value) (args : List Value) (h : Objects) (z : Kept) → kept_fits z h → AreClosed h → IsLive (length h.list) this → All (IsLive (length h.list)) args
    → AfterCall kept_fits h (turn_of (done_by f by this args h z) (kept_by f by this args h z))
callee_after (c.BuiltIn f) by this args h z fits closed a l = steady (done_of f by this args h) z h (done_live f by this args h fits.built_ins closed a l) fits
callee_after (c.OfNode m) by this args h z fits closed a l = node_after (node_turn z.answers m by this args h z.dom) h z (node_live z.answers m by this args h z.dom closed l (lent_of z h fits)) fits
callee_after c.LoadModule by this args h z fits closed a l =
    steady (guards.load_module z.runtime (imports_of by z) by (argument 0 args) h) z h
    (load_module_live z.runtime (imports_of by z) by (argument 0 args) h closed fits.runtime (imported_live (length h.list) z.runtime z.imports by fits.runtime fits.imports) (argument_live (length h.list) 0 args l))
    fits
callee_after (c.Guard g) by this args h z fits closed a l =
    steady (guards.done_of g by args h) (tells (guards.done_of g by args h).items z) h (guard_live g by args h fits.built_ins closed l) (told_fits (guards.done_of g by args h).items h z fits)
callee_after (c.Say m) by this args h z fits closed a l =
    steady (say_done (text_of h (argument 0 args)) h) (with_said m (text_of h (argument 0 args)) z) h (say_live (text_of h (argument 0 args)) h closed) (said_fits m (text_of h (argument 0 args)) h z fits)
callee_after (c.Later m) by this args h z fits closed a l =
    let f = argument 0 args in
    steady (later_done (is_closure h f) by h) (with_waiting m (is_closure h f) f z) h (later_live (is_closure h f) by h closed) (waiting_fits m (is_closure h f) f h z fits (argument_live (length h.list) 0 args l))
callee_after (c.Get cell) by this args h z fits closed a l =
    steady (cell_done cell z.cells h) z h (record { later = later_refl h; closed = closed; answer = cell_live (length h.list) cell z.cells fits.cells }) fits
callee_after (c.Set cell) by this args h z fits closed a l =
    steady (set_done h) (with_kept cell (argument 0 args) z) h (record { later = later_refl h; closed = closed; answer = tt }) (set_fits cell (argument 0 args) h z fits (argument_live (length h.list) 0 args l))

answer_live : (f : Option Callee) (by : ℕ) (this : Value) (args : List Value) (h : Objects) (z : Kept) → kept_fits z h → AreClosed h → IsLive (length h.list) this → All (IsLive (length h.list)) args → AfterCall kept_fits h (turn_by f by this args h z)
answer_live (Some f) by this args h z fits closed a l = callee_after f by this args h z fits closed a l
answer_live None by this args h z fits closed a l =
    let d = throws_live by (codes "not a function") h [] closed in
    record { later = d.later; closed = d.closed; answer = d.answer; kept = fits_later z h _ fits d.later }

pub page_keeps_live : KeepsLive kept_fits page_table
page_keeps_live = record {
  called = λ which by this args h z fits closed a l. answer_live (callee_of which) by this args h z fits closed a l;
  touched = λ i h z fits. told_fits (touch_told i ∷ []) h z fits;
  later = λ h g z fits later. fits_later z h g fits later;
}
