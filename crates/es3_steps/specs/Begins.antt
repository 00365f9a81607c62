-- What the beginnings of statements are in the grammar.
use Rattle.std.specs.Prelude.{◌≡◌, Bool, true, false, ◌∷◌, map, Option, Some, None}
use Rattle.es3_tree.specs.PlacedView.{stmt}
use Rattle.es3_grammar.specs.Frames.{Stack, body}
use Rattle.es3_grammar.specs.Machine as m
use Rattle.es3_frames.specs.declared.parts.Stmts.{Stmts}
use Rattle.es3_frames.specs.declared.frames.Body.{Body}
use Rattle.es3_steps.specs.declared.begin.Beginning.{Beginning}
use Rattle.es3_steps.specs.declared.begin.Beginning.TheVariants as b
use Rattle.es3_frames.specs.Views.{body_of}

abbrev pub begin_of : Beginning → m.Begin
begin_of b.Block = m.a_block_begins
begin_of b.ListEnd = m.a_list_ends
begin_of b.Empty = m.an_empty
begin_of (b.Jump breaks) = m.a_break breaks
begin_of b.NextClause = m.a_next_clause
begin_of b.Do = m.a_do
begin_of b.For = m.a_for
begin_of b.Declaration = m.a_declaration
begin_of b.If = m.an_if
begin_of b.Return = m.a_return
begin_of b.Switch = m.a_switch
begin_of b.Throw = m.a_throw
begin_of b.Try = m.a_try_begins
begin_of b.Var = m.a_var
begin_of b.While = m.a_while
begin_of b.With = m.a_with

abbrev pub maybe_begin : Option Beginning → Option m.Begin
maybe_begin None = None
maybe_begin (Some x) = Some (begin_of x)

-- the innermost frame is a list of statements
abbrev pub in_list : Stack → Bool
in_list (body x ss ∷ k) = true
in_list k = false

-- the innermost frame was a list of statements and was taken off, or it was none
abbrev pub ListPopped : Option (Body × Stmts) → Stack → Stack → Type 0
ListPopped None old new = in_list old ≡ false
ListPopped (Some (x, ss)) old new = old ≡ body (body_of x) (map stmt ss.list.items) ∷ new
