-- What trees a text spells: the grammar of HTML, over the pieces that stand in the text.
use Rattle.std.specs.Prelude.{◌≡◌, ℕ, suc, ◌<◌, ◌≤◌, List, [], Bool, true, false, ◌&&◌, None, length, take, drop}
use Rattle.std.specs.List.{list_all}
use Rattle.html_grammar.specs.Characters.{is_space}
use Rattle.html_grammar.specs.Tables.{is_in, void}
use Rattle.html_grammar.specs.Tags.{Attr}
use Rattle.html_grammar.specs.Point.{text, skip, start, end, point}
use Rattle.html_grammar.specs.Trees.{Tree, many, text_node, element, none, more, most}

-- some characters at the front of s, and no more than there are
abbrev pub Front : ℕ → List ℕ → Type 0
Front n s = (0 < n) × (n ≤ length s)

-- The trees t stand at the front of s, and r is left. d: so many elements are open; n: the name of the innermost, and no name where none is; b and c: whether
-- nothing but white space stands before s, and before r.
pub data Reads : ℕ → List ℕ → Tree many → Bool → List ℕ → Bool → List ℕ → Type 0 where
  nothing : (d : ℕ) (n : List ℕ) (b : Bool) (s : List ℕ) → Reads d n none b s b s
  -- a text is a tree
  a_text : (d : ℕ) (n : List ℕ) (t : Tree many) (b c : Bool) (s r us : List ℕ) (k : ℕ) → point b n s ≡ text us k → Front k s
      → Reads d n t (b && list_all is_space (take k s)) (drop k s) c r → Reads d n (more (text_node us) t) b s c r
  -- a comment or a document type is none
  a_comment : (d : ℕ) (n : List ℕ) (t : Tree many) (b c : Bool) (s r : List ℕ) (k : ℕ) → point b n s ≡ skip k → Front k s
      → Reads d n t false (drop k s) c r → Reads d n t b s c r
  -- the tag of an element without content is a tree
  an_empty : (d : ℕ) (n : List ℕ) (t : Tree many) (b c : Bool) (s r m : List ℕ) (xs : List Attr) (k : ℕ) → d < most → is_in void m ≡ true → point b n s ≡ start m xs None k → Front k s
      → Reads d n t false (drop k s) c r → Reads d n (more (element m xs none) t) b s c r
  -- the tag of any other element, trees, and the tag that ends an element of the same name are one
  an_element : (d : ℕ) (n : List ℕ) (t u : Tree many) (b c e : Bool) (s q r m : List ℕ) (xs : List Attr) (k j : ℕ) → d < most → is_in void m ≡ false → point b n s ≡ start m xs None k → Front k s
      → Reads (suc d) m u false (drop k s) e q → point e m q ≡ end m None j → Front j q
      → Reads d n t false (drop j q) c r → Reads d n (more (element m xs u) t) b s c r

-- the trees of a whole text
abbrev pub Spells : Tree many → List ℕ → Type 0
Spells t s = (c : Bool) × Reads 0 [] t true s c []
