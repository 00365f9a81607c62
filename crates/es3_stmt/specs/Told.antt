-- What becomes of tokens that are read within a limit of nesting, in the grammar's words, and what an answer tells of them.
use Rattle.std.specs.Prelude.{◌≡◌, ℕ, List, Result, Ok, Err}
use Rattle.es3_tree.specs.Tree as t
use Rattle.es3_tree.specs.Placed.{Placed}
use Rattle.es3_tree.specs.PlacedView as view
use Rattle.es3_tree.specs.declared.Program.{Program}
use Rattle.es3_grammar.specs.Spots.{Spot}
use Rattle.es3_grammar.specs.Limit.{Within, BeginsWithin}
use Rattle.es3_grammar.specs.Within.{RefusedAt, DeepAt}
use Rattle.es3_grammar.specs.Answers.{Answer, read, syntax, deep}
use Rattle.es3_stmt.specs.declared.read.ReadError.{ReadError}
use Rattle.es3_stmt.specs.declared.read.ReadError.TheVariants as error
use Rattle.es3_stmt.specs.Reads.{Reads}

-- the tokens spell no program within the limit
abbrev pub NoProgram : ℕ → List Spot → Type 0
NoProgram limit u = (p : Placed t.program) → Within limit p u → ⊥

-- what is so of the tokens u of a source that has `end` bytes, and the answer to it: there is just one
pub data Becomes (limit end : ℕ) (u : List Spot) : Answer → Type 0 where
  -- they spell the program within the limit
  spelled : (p : Placed t.program) → Within limit p u → Becomes limit end u (read p)
  -- c is the first of them with which no program goes on, and those before it begin one within the limit: the byte where c begins
  refused_at : (c : Spot) (k : List Spot) → RefusedAt limit u c k → Becomes limit end u (syntax c.1)
  -- they begin a program within the limit, and spell none within it: the byte where the source ends
  breaks_off : BeginsWithin limit u → NoProgram limit u → Becomes limit end u (syntax end)
  -- c is the first of them with which only programs past the limit go on, and those before it begin one within it
  deep_at : (c : Spot) (k : List Spot) → DeepAt limit u c k → Becomes limit end u deep

-- what an answer tells
abbrev pub Tells : ℕ → ℕ → List Spot → Result Program ReadError → Type 0
Tells limit end u (Ok p) = Within limit (view.program p) u
Tells limit end u (Err (error.Syntax at)) = NoProgram limit u × Becomes limit end u (syntax at)
Tells limit end u (Err (error.TooDeep at)) = NoProgram limit u × Becomes limit end u deep × (at ≡ 0)
Tells limit end u (Err error.Memory) = Unit {0}

-- an answer comes only where it is so, and where something is so, its answer comes, unless memory is wanting
pub record IsTold (limit end : ℕ) (u : List Spot) (r : Result Program ReadError) : Type 0 where
  pub only : Tells limit end u r
  pub always : (a : Answer) → Becomes limit end u a → Reads r a
