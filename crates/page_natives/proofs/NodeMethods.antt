-- The methods of nodes do what their rows do, and what is lent of the document stays whole.
use Rattle.std.proofs.Common.{◌≡◌, ℕ, Bool, true, false, List, ◌++◌, Option, Some, None, Result, Ok, Err, refl, sym, ap, ◌∙◌, subst}
use Rattle.plans.specs.Plans.{Fault}
use Rattle.es3_objects.specs.declared.value.Value.{Value}
use Rattle.es3_objects.specs.declared.value.Stop.{Stop}
use Rattle.es3_objects.specs.declared.value.Stop.TheVariants as stop
use Rattle.es3_heap.specs.Objects.{Objects}
use Rattle.es3_language.specs.Natives.{Turn}
use Rattle.es3_moves.specs.Answers.{Answers}
use Rattle.node_deeds.specs.declared.told.Change.{Change}
use Rattle.node_deeds.specs.declared.told.Change.TheVariants as line
use Rattle.heap_rows.specs.Doing.{Told}
use Rattle.row_outcomes.specs.declared.Outcome.{Outcome}
use Rattle.row_outcomes.specs.Comes.{Comes}
use Rattle.tamed_dom.specs.Lent.{Lent, told as without_line}
use Rattle.tamed_dom.specs.Ends.{done_of, Leaves}
use Rattle.tamed_dom.specs.Methods.{node_turn}
use Rattle.node_rows.specs.Promises as rows
use Rattle.node_rows.specs.Promises.{lines_told}
use Rattle.node_rows.specs.Whole.{IsWhole}
use Rattle.page_natives.specs.declared.natives.Callee.TheVariants as c
use Rattle.page_natives.specs.Answered.{answered, turn_of}
use Rattle.page_natives.specs.Nodes.{changes_told}
use Rattle.guard_marks.specs.Closures.{is_closure}
use Rattle.es3_convert.specs.Conversions.{text_of}
use Rattle.row_outcomes.specs.Arguments.{argument}
use Rattle.page_natives.specs.Natives.{Kept, queue_of, cell_value, with_said, with_waiting, with_node_turn}
use Rattle.page_natives.specs.NodeMethods.{NodeMethodsDoTheirRows, CalleesKeepWhole}
use Rattle.page_natives.proofs.Answered.{comes_answers}

-- what a method answers, and what is kept when the line of its change is told

abbrev with_lent : Kept → Lent → Kept
with_lent z y = record z { told = z.told ++ changes_told y.change; dom = without_line y }

pub node_answers : (t : Turn Lent) (z k : Kept) (y : Lent) (r : Result Outcome Stop) (h : Objects) → Comes (done_of t) r h → Leaves r t.state y → k ≡ record z { told = z.told ++ changes_told y.change; dom = without_line y }
    → Answers (turn_of (done_of t) (with_node_turn t z)) (answered r) h k
node_answers t z k y (Err stop.Memory) h comes leaves is = tt
node_answers t z k y (Ok x) h comes leaves is = subst (λ q. Answers (turn_of (done_of t) (with_node_turn t z)) (answered (Ok x)) h q) (ap (with_lent z) leaves ∙ sym is) (comes_answers (done_of t) (with_node_turn t z) (Ok x) h comes)
node_answers t z k y (Err stop.Number) h comes leaves is = subst (λ q. Answers (turn_of (done_of t) (with_node_turn t z)) (answered (Err stop.Number)) h q) (ap (with_lent z) leaves ∙ sym is) (comes_answers (done_of t) (with_node_turn t z) (Err stop.Number) h comes)
node_answers t z k y (Err stop.Depth) h comes leaves is = subst (λ q. Answers (turn_of (done_of t) (with_node_turn t z)) (answered (Err stop.Depth)) h q) (ap (with_lent z) leaves ∙ sym is) (comes_answers (done_of t) (with_node_turn t z) (Err stop.Depth) h comes)
node_answers t z k y (Err stop.Convert) h comes leaves is = subst (λ q. Answers (turn_of (done_of t) (with_node_turn t z)) (answered (Err stop.Convert)) h q) (ap (with_lent z) leaves ∙ sym is) (comes_answers (done_of t) (with_node_turn t z) (Err stop.Convert) h comes)
node_answers t z k y (Err stop.Steps) h comes leaves is = absurd comes

abbrev told_and_lent : Kept → List Told → Lent → Kept
told_and_lent z l y = record z { told = l; dom = y }

pub kept_is : (z : Kept) (l : List Told) (d y : Lent) (x : Option Change) → l ≡ z.told ++ changes_told x → x ≡ y.change → d ≡ without_line y
    → (let k : Kept = record z { told = l; dom = d } in k) ≡ record z { told = z.told ++ changes_told y.change; dom = without_line y }
kept_is z l d y x told line taken = ap (λ k. told_and_lent z k d) (told ∙ ap (λ w. z.told ++ changes_told w) line) ∙ ap (told_and_lent z (z.told ++ changes_told y.change)) taken

-- the lines are those of the rows

line_same : (x : Change) → changes_told (Some x) ≡ lines_told (Some x)
line_same (line.Append root p k) = refl
line_same (line.Remove root p k) = refl
line_same (line.Set root n name v) = refl
line_same (line.Text root n us) = refl

lines_same : (x : Option Change) → changes_told x ≡ lines_told x
lines_same None = refl
lines_same (Some x) = line_same x

-- nothing of it is in the line of the last change
whole_told : (z : Lent) → IsWhole z → IsWhole (without_line z)
whole_told z whole = record { doc = whole.doc; clear = whole.clear; objects = whole.objects; handlers = whole.handlers }

said_whole : (m : ℕ) (t : Result (List ℕ) Fault) (z : Kept) → IsWhole z.dom → IsWhole (with_said m t z).dom × ((with_said m t z).answers ≡ z.answers)
said_whole m (Ok us) z whole = (whole, refl)
said_whole m (Err f) z whole = (whole, refl)

waiting_whole : (m : ℕ) (waits : Bool) (x : Value) (z : Kept) → IsWhole z.dom → IsWhole (with_waiting m waits x z).dom × ((with_waiting m waits x z).answers ≡ z.answers)
waiting_whole m true x z whole = (whole, refl)
waiting_whole m false x z whole = (whole, refl)

module _ (law : rows.NodeMethodsDoTheirRows) where
  abbrev cells_in : Kept → ℕ → Value
  cells_in z cell = cell_value cell z.cells

  abbrev queues_in : Kept → ℕ → List Value
  queues_in z m = queue_of m z.waiting

  pub method_rows : NodeMethodsDoTheirRows
  method_rows rules m by this args h z ruled whole =
      let t = node_turn z.answers m by this args h z.dom in
      let came = law z.answers rules m by this args h z.dom (cells_in z) (queues_in z) ruled whole in
      record {
        reply = came.reply;
        heap = came.heap;
        told = ap (λ l. z.told ++ l) (lines_same t.state.change ∙ sym came.items);
        cells = came.page.cells;
        queues = came.page.queues;
        nodes = came.page.nodes;
        facets = came.page.facets;
        handlers = came.page.handlers;
        runtime = refl;
        imports = refl;
        touching = refl;
        answers = refl;
      }

  pub whole_kept : CalleesKeepWhole
  whole_kept rules (c.OfNode m) by this args h z ruled whole =
      let t = node_turn z.answers m by this args h z.dom in
      (whole_told t.state (law z.answers rules m by this args h z.dom (cells_in z) (queues_in z) ruled whole).whole, refl)
  whole_kept rules (c.BuiltIn f) by this args h z ruled whole = (whole, refl)
  whole_kept rules c.LoadModule by this args h z ruled whole = (whole, refl)
  whole_kept rules (c.Guard g) by this args h z ruled whole = (whole, refl)
  whole_kept rules (c.Say m) by this args h z ruled whole = said_whole m (text_of h (argument 0 args)) z whole
  whole_kept rules (c.Later m) by this args h z ruled whole = waiting_whole m (is_closure h (argument 0 args)) (argument 0 args) z whole
  whole_kept rules (c.Get cell) by this args h z ruled whole = (whole, refl)
  whole_kept rules (c.Set cell) by this args h z ruled whole = (whole, refl)
