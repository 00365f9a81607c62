-- Trees of HTML: texts, and elements with attributes and content.
use Rattle.std.specs.Prelude.{ℕ, List}
use Rattle.html_grammar.specs.Tags.{Attr}

-- one tree, or many in a row
pub data Sort : Type 0 where
  one many : Sort

pub data Tree : Sort → Type 0 where
  text_node : List ℕ → Tree one
  element : List ℕ → List Attr → Tree many → Tree one
  none : Tree many
  more : Tree one → Tree many → Tree many

-- a tree behind others
abbrev pub snoc : Tree many → Tree one → Tree many
snoc none t = more t none
snoc (more u us) t = more u (snoc us t)

-- trees before others
abbrev pub append : Tree many → Tree many → Tree many
append none t = t
append (more x h) t = more x (append h t)

-- how many elements nest, one within another, at most; those without content count
abbrev pub most : ℕ
most = 128
