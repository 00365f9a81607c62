-- What the frames of the reader say.
use Rattle.std.specs.Prelude.{map}
use Rattle.es3_tree.specs.PlacedView.{word, words, word_of, expr, stmt, first, loop_target, of_handler}
use Rattle.es3_grammar.specs.Frames as m
use Rattle.es3_expr.specs.Views.{join_of}
use Rattle.es3_frames.specs.Boxed.{of_maybe_boxed}
use Rattle.es3_frames.specs.Lists.{field_of, item_of, clause_of}
use Rattle.es3_frames.specs.declared.frames.Opened.{Opened}
use Rattle.es3_frames.specs.declared.frames.Opened.TheVariants as o
use Rattle.es3_frames.specs.declared.frames.Head.{Head}
use Rattle.es3_frames.specs.declared.frames.Waiting.{Waiting}
use Rattle.es3_frames.specs.declared.frames.Waiting.TheVariants as w
use Rattle.es3_frames.specs.declared.frames.Bracket.{Bracket}
use Rattle.es3_frames.specs.declared.frames.Bracket.TheVariants as b
use Rattle.es3_frames.specs.declared.frames.Root.{Root}
use Rattle.es3_frames.specs.declared.frames.Root.TheVariants as r
use Rattle.es3_frames.specs.declared.frames.Outer.{Outer}
use Rattle.es3_frames.specs.declared.frames.Outer.TheVariants as u
use Rattle.es3_frames.specs.declared.frames.Body.{Body}
use Rattle.es3_frames.specs.declared.frames.Body.TheVariants as y
use Rattle.es3_frames.specs.declared.frames.Frame.{Frame}
use Rattle.es3_frames.specs.declared.frames.Frame.TheVariants as f

abbrev pub opened_of : Opened → m.Opened
opened_of o.Array = m.an_array
opened_of (o.Call x) = m.a_call (expr x.tree.value)
opened_of (o.New x) = m.a_new (expr x.tree.value)

abbrev pub head_of : Head → m.Head
head_of h = m.head h.declared (word_of h.name) h.at

abbrev pub waiting_of : Waiting → m.Frame
waiting_of w.New = m.new_of
waiting_of (w.Step up) = m.prefix_step up
waiting_of (w.Prefix op at) = m.prefix op at
waiting_of (w.Join j x) = m.join (join_of j) (expr x.tree.value)
waiting_of (w.Branch x y) = m.either (expr x.tree.value) (expr y.tree.value)

abbrev pub bracket_of : Bracket → m.Frame
bracket_of b.Paren = m.paren
bracket_of (b.Subscript x) = m.subscript (expr x.tree.value)
bracket_of (b.List o xs) = m.items (opened_of o) (map expr xs.list.items)
bracket_of (b.Field fs n) = m.field (map field_of fs.list.items) (word n)
bracket_of (b.Test x) = m.test (expr x.tree.value)

abbrev pub root_of : Root → m.Frame
root_of r.Statement = m.statement
root_of (r.Value h n is) = m.value h (word n) (map item_of is.list.items)
root_of r.If = m.if_test
root_of r.While = m.while_test
root_of (r.Do x) = m.do_test (stmt x.tree.value)
root_of r.ForFirst = m.for_first
root_of (r.ForTest x) = m.for_test (first x.tree.value)
root_of (r.ForStep x y) = m.for_step (first x.tree.value) (of_maybe_boxed y.tree)
root_of (r.ForObject x) = m.for_object (loop_target x.tree.value)
root_of (r.Return at) = m.giving at
root_of r.Throw = m.throwing
root_of (r.With at) = m.with_head at
root_of r.Switch = m.switch_head
root_of (r.Case x cs) = m.case_test (expr x.tree.value) (map clause_of cs.list.items)

abbrev pub outer_of : Outer → m.Frame
outer_of (u.Then x) = m.then_of (expr x.tree.value)
outer_of (u.Else x y) = m.else_of (expr x.tree.value) (stmt y.tree.value)
outer_of (u.While x) = m.while_body (expr x.tree.value)
outer_of u.Do = m.do_body
outer_of (u.For x y z) = m.for_body (first x.tree.value) (of_maybe_boxed y.tree) (of_maybe_boxed z.tree)
outer_of (u.ForIn x y) = m.in_body (loop_target x.tree.value) (expr y.tree.value)
outer_of (u.With x at) = m.with_body (expr x.tree.value) at
outer_of (u.Label n) = m.label_of (word n)

abbrev pub body_of : Body → m.Body
body_of y.Program = m.a_program
body_of y.Block = m.a_block
body_of (y.Function h ps) = m.a_function (head_of h) (words ps.items)
body_of (y.Clause x cs z) = m.a_clause (expr x.tree.value) (map clause_of cs.list.items) (of_maybe_boxed z.tree)
body_of y.Try = m.a_try
body_of (y.Catch ss n) = m.a_catch (map stmt ss.list.items) (word n)
body_of (y.Finally ss h) = m.a_finally (map stmt ss.list.items) (of_handler h.tree)

abbrev pub frame_of : Frame → m.Frame
frame_of (f.Waiting x) = waiting_of x
frame_of (f.Bracket x) = bracket_of x
frame_of (f.Root x) = root_of x
frame_of (f.Outer x) = outer_of x
frame_of (f.List x ss) = m.body (body_of x) (map stmt ss.list.items)
