-- The reading of a text as a function, from left to right with a stack of open elements. That it is the grammar, and refuses where that refuses, is proved.
use Rattle.std.specs.Prelude.{ℕ, zero, suc, ◌+◌, ◌-◌, List, [], ◌∷◌, Bool, true, false, ◌&&◌, nat_lt, Option, Some, None, length, take, if◌then◌else◌}
use Rattle.std.specs.List.{list_all}
use Rattle.std.specs.Char.{len_utf8}
use Rattle.caja_units.specs.Units.{same_units}
use Rattle.html_grammar.specs.Characters.{is_space}
use Rattle.html_grammar.specs.Tables.{is_in, void}
use Rattle.html_grammar.specs.Tags.{Attr, Refusal, mismatch, too_deep, Fault}
use Rattle.html_grammar.specs.Point.{Step, text, skip, start, end, refuse, point}
use Rattle.html_grammar.specs.Trees.{Tree, many, text_node, element, none, snoc, most}
use Rattle.html_grammar.specs.Refusals.{width}

-- an open element: its name and attributes, and the trees before it
pub record Open : Type 0 where
  pub name : List ℕ
  pub attrs : List Attr
  pub before : Tree many

pub data Answer : Type 0 where
  trees : Tree many → Answer
  refused : Refusal → ℕ → Answer

abbrev pub inner_name : List Open → List ℕ
inner_name [] = []
inner_name (o ∷ k) = o.name

abbrev pub ended : ℕ → List Open → Tree many → Answer
ended p [] h = trees h
ended p (o ∷ k) h = refused mismatch p

-- a fault in a piece that begins at the byte p, or else a
abbrev pub faulty : ℕ → List ℕ → Option Fault → Answer → Answer
faulty p s None a = a
faulty p s (Some f) a = refused f.0 (p + width (take f.1 s))

abbrev pub opened : (List Open → Tree many → Answer) → List Open → Tree many → List ℕ → List Attr → Answer
opened f k h n xs =
    if is_in void n then f k (snoc h (element n xs none))
    else f (record { name = n; attrs = xs; before = h } ∷ k) none

-- the tag that ends an element of the name n, before which h was read; x is the fault in it
abbrev pub closes : (List Open → Tree many → Answer) → ℕ → List ℕ → List Open → Tree many → List ℕ → Option Fault → Answer
closes f p s [] h n x = refused mismatch p
closes f p s (o ∷ k) h n x = if same_units o.name n then faulty p s x (f k (snoc o.before (element o.name o.attrs h))) else refused mismatch p

-- a step at the byte p, at the front of s, within the open elements k, behind the trees h. f goes on, where so many characters are still to be passed
abbrev pub goes : (ℕ → Bool → List Open → Tree many → Answer) → ℕ → Bool → List Open → Tree many → List ℕ → Step → Answer
goes f p b k h s (text us n) = f (n - 1) (b && list_all is_space (take n s)) k (snoc h (text_node us))
goes f p b k h s (skip n) = f (n - 1) false k h
goes f p b k h s (start n xs x m) =
    if nat_lt (length k) most then faulty p s x (opened (λ k h. f (m - 1) false k h) k h n xs) else refused too_deep p
goes f p b k h s (end n x m) = closes (λ k h. f (m - 1) false k h) p s k h n x
goes f p b k h s (refuse r m) = refused r (p + width (take m s))

-- what is read of s, which begins at the byte p, where n characters of a piece are still to be passed. b: nothing but white space stands before;
-- k: the open elements, the innermost first; h: the trees that stand before within the innermost
unfoldable pub read_from : ℕ → ℕ → Bool → List Open → Tree many → List ℕ → Answer
read_from n p b k h [] = ended p k h
read_from (suc n) p b k h (c ∷ s) = read_from n (p + len_utf8 c) b k h s
read_from zero p b k h (c ∷ s) = goes (λ n b k h. read_from n (p + len_utf8 c) b k h s) p b k h (c ∷ s) (point b (inner_name k) (c ∷ s))

-- the characters of a whole text
abbrev pub read : List ℕ → Answer
read s = read_from 0 0 true [] none s
