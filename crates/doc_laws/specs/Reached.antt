-- What holds of every document that is reached: of the one that cleaned HTML gives, and after each change.
use Rattle.std.specs.Prelude.{◌≡◌, ℕ, ◌+◌, ◌≤◌, ◌&&◌, List, Option, Some, None, is_some, Result, Ok, codes}
use Rattle.html_grammar.specs.Trees.{Sort, one, many, Tree, text_node, element, none, more}
use Rattle.html_kept.specs.Printed as html
use Rattle.doc_nodes.specs.declared.node.NewNode.{NewNode}
use Rattle.doc_nodes.specs.declared.node.DocError.{DocError}
use Rattle.doc_nodes.specs.Rows.{Doc, value_at}
use Rattle.doc_nodes.specs.Changes.{append, remove, set_attr, set_text, create, granted, root_at, is_node}
use Rattle.doc_tree.specs.Cleaned.{attrs_from, from_clean}
use Rattle.doc_tree.specs.Printing.{print}
use Rattle.doc_laws.specs.Forest.{IsForest, one_if}
use Rattle.doc_laws.specs.Owned.{Owned, IsRoot, SameRoots, Grows}

pub record Reached (d : Doc) : Type 0 where
  pub forest : IsForest d
  pub owned : Owned d
  pub roots : SameRoots d

-- a change keeps this, and no owner changes
abbrev pub Keeps : (Doc → Result Doc DocError) → Type 0
Keeps f = (d e : Doc) → Reached d → f d ≡ Ok e → Reached e × Grows d e

abbrev pub AppendKeeps : Type 0
AppendKeeps = (p c : ℕ) → Keeps (append p c)

abbrev pub RemoveKeeps : Type 0
RemoveKeeps = (p c : ℕ) → Keeps (remove p c)

abbrev pub SetAttrKeeps : Type 0
SetAttrKeeps = (n : ℕ) (name v : List ℕ) → Keeps (set_attr n name v)

abbrev pub SetTextKeeps : Type 0
SetTextKeeps = (n : ℕ) (us : List ℕ) → Keeps (set_text n us)

abbrev pub CreateKeeps : Type 0
CreateKeeps = (root : ℕ) (c : NewNode) (d : Doc) → Reached d → IsRoot d (Some root) → Reached (create root c d) × Grows d (create root c d)

-- how many elements have the id of a granted root
abbrev pub begins : List (List ℕ) → ℕ → (s : Sort) → Tree s → ℕ
begins ids r _ (text_node us) = 0
begins ids r _ (element tag xs ts) = one_if (is_node r (granted ids (value_at (codes "id") (attrs_from xs)))) + begins ids r many ts
begins ids r _ none = 0
begins ids r _ (more t ts) = begins ids r one t + begins ids r many ts

-- how many elements with the id of a granted root stand within another root
abbrev pub inside : List (List ℕ) → Option ℕ → (s : Sort) → Tree s → ℕ
inside ids around _ (text_node us) = 0
inside ids around _ (element tag xs ts) = one_if (is_some around && is_some (granted ids (value_at (codes "id") (attrs_from xs)))) + inside ids (root_at ids around (attrs_from xs)) many ts
inside ids around _ none = 0
inside ids around _ (more t ts) = inside ids around one t + inside ids around many ts

-- no id of a granted root stands twice, and no root is inside another
pub record IsGrantable (ids : List (List ℕ)) (ts : Tree many) : Type 0 where
  pub once : (r : ℕ) → begins ids r many ts ≤ 1
  pub apart : inside ids None many ts ≡ 0

abbrev pub CleanIsReached : Type 0
CleanIsReached = (ids : List (List ℕ)) (ts : Tree many) → IsGrantable ids ts → Reached (from_clean ids ts)

-- for any ids
abbrev pub CleanIsForest : Type 0
CleanIsForest = (ids : List (List ℕ)) (ts : Tree many) → IsForest (from_clean ids ts) × Owned (from_clean ids ts)

-- the document of cleaned HTML is written as the HTML is
abbrev pub CleanIsWritten : Type 0
CleanIsWritten = (ids : List (List ℕ)) (ts : Tree many) → print (from_clean ids ts) ≡ html.printed many ts
