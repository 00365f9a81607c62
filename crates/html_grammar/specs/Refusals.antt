-- Where a text is refused: at the first place where its front doesn't go on.
use Rattle.std.specs.Prelude.{◌≡◌, ℕ, ◌+◌, ◌<◌, ◌≤◌, List, [], ◌∷◌, Bool, true, false, ◌&&◌, Option, None, Some, length, take, drop}
use Rattle.std.specs.List.{sum_by, list_all}
use Rattle.std.specs.Char.{len_utf8}
use Rattle.caja_units.specs.Units.{same_units}
use Rattle.html_grammar.specs.Characters.{is_space}
use Rattle.html_grammar.specs.Tables.{is_in, void}
use Rattle.html_grammar.specs.Tags.{Attr, Refusal, mismatch, too_deep, Fault}
use Rattle.html_grammar.specs.Point.{text, skip, start, end, refuse, point}
use Rattle.html_grammar.specs.Trees.{most}
use Rattle.html_grammar.specs.Document.{Front}

-- how many bytes characters have in UTF-8
abbrev pub width : List ℕ → ℕ
width s = sum_by len_utf8 s

-- the name of the innermost open element, and no name where none is open
abbrev pub innermost : List (List ℕ) → List ℕ
innermost [] = []
innermost (n ∷ k) = n

-- A front of the text s goes on: it is cut into pieces, and r is left, which begins at the byte p. k: the names of the elements that are open behind it, the
-- innermost first; b: whether it is nothing but white space.
pub data GoesOn (s : List ℕ) : List (List ℕ) → Bool → ℕ → List ℕ → Type 0 where
  begins_here : GoesOn s [] true 0 s
  a_text : (k : List (List ℕ)) (b : Bool) (p : ℕ) (r us : List ℕ) (n : ℕ) → GoesOn s k b p r → point b (innermost k) r ≡ text us n → Front n r
      → GoesOn s k (b && list_all is_space (take n r)) (p + width (take n r)) (drop n r)
  a_comment : (k : List (List ℕ)) (b : Bool) (p : ℕ) (r : List ℕ) (n : ℕ) → GoesOn s k b p r → point b (innermost k) r ≡ skip n → Front n r
      → GoesOn s k false (p + width (take n r)) (drop n r)
  an_empty : (k : List (List ℕ)) (b : Bool) (p : ℕ) (r m : List ℕ) (xs : List Attr) (n : ℕ) → GoesOn s k b p r → length k < most → is_in void m ≡ true
      → point b (innermost k) r ≡ start m xs None n → Front n r → GoesOn s k false (p + width (take n r)) (drop n r)
  an_open : (k : List (List ℕ)) (b : Bool) (p : ℕ) (r m : List ℕ) (xs : List Attr) (n : ℕ) → GoesOn s k b p r → length k < most → is_in void m ≡ false
      → point b (innermost k) r ≡ start m xs None n → Front n r → GoesOn s (m ∷ k) false (p + width (take n r)) (drop n r)
  an_end : (k : List (List ℕ)) (b : Bool) (p : ℕ) (r m : List ℕ) (n : ℕ) → GoesOn s (m ∷ k) b p r → point b m r ≡ end m None n → Front n r
      → GoesOn s k false (p + width (take n r)) (drop n r)

-- Behind a front which leaves r, from the byte p on, nothing goes on, and that is told of a byte.
pub data Stops : List (List ℕ) → Bool → ℕ → List ℕ → Refusal → ℕ → Type 0 where
  -- what stands there is no piece
  no_piece : (k : List (List ℕ)) (b : Bool) (p : ℕ) (r : List ℕ) (x : Refusal) (n : ℕ) → 0 < length r → point b (innermost k) r ≡ refuse x n → Stops k b p r x (p + width (take n r))
  -- the tag of an element too many
  one_too_many : (k : List (List ℕ)) (b : Bool) (p : ℕ) (r m : List ℕ) (xs : List Attr) (f : Option Fault) (n : ℕ) → most ≤ length k → point b (innermost k) r ≡ start m xs f n → Front n r
      → Stops k b p r too_deep p
  -- a tag with a fault in it
  a_fault : (k : List (List ℕ)) (b : Bool) (p : ℕ) (r m : List ℕ) (xs : List Attr) (x : Refusal) (j n : ℕ) → length k < most → point b (innermost k) r ≡ start m xs (Some (x, j)) n → Front n r
      → Stops k b p r x (p + width (take j r))
  -- the tag that ends an element where none is open, or another, or with a fault in it
  nothing_ends : (b : Bool) (p : ℕ) (r m : List ℕ) (f : Option Fault) (n : ℕ) → point b [] r ≡ end m f n → Front n r → Stops [] b p r mismatch p
  another_ends : (k : List (List ℕ)) (b : Bool) (p : ℕ) (r o m : List ℕ) (f : Option Fault) (n : ℕ) → same_units o m ≡ false → point b o r ≡ end m f n → Front n r → Stops (o ∷ k) b p r mismatch p
  a_fault_at_the_end : (k : List (List ℕ)) (b : Bool) (p : ℕ) (r m : List ℕ) (x : Refusal) (j n : ℕ) → point b m r ≡ end m (Some (x, j)) n → Front n r → Stops (m ∷ k) b p r x (p + width (take j r))
  -- the text ends while an element is open
  left_open : (k : List (List ℕ)) (b : Bool) (p : ℕ) (o : List ℕ) → Stops (o ∷ k) b p [] mismatch p

-- the text s is refused, and that is told of the byte p
pub record Refused (x : Refusal) (p : ℕ) (s : List ℕ) : Type 0 where
  pub open_names : List (List ℕ)
  pub is_blank : Bool
  pub place : ℕ
  pub left : List ℕ
  pub front : GoesOn s open_names is_blank place left
  pub stops : Stops open_names is_blank place left x p
