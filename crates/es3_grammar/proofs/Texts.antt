-- The texts that are read alone: programs, and expressions.
use Rattle.std.proofs.Common.{◌≡◌, []}
use Rattle.es3_tree.specs.Tree as t
use Rattle.es3_tree.specs.Placed.{Placed}
use Rattle.es3_grammar.specs.Frames.{State, want}
use Rattle.es3_grammar.specs.Machine.{Answer, whole, phrase, beginning}

pub data Kind : Type 0 where
  programs : Kind
  phrases : Kind

abbrev pub sort : Kind → t.Sort
sort programs = t.program
sort phrases = t.expr

-- where the machine begins to read such a text, and what it answers
abbrev pub outset : Kind → State
outset programs = beginning
outset phrases = want []

abbrev pub said : (kind : Kind) → Placed (sort kind) → Answer
said programs p = whole p
said phrases x = phrase x

pub said_is : (kind : Kind) (x y : Placed (sort kind)) → said kind x ≡ said kind y → x ≡ y
said_is programs x y e = cc
said_is phrases x y e = cc
