-- Tags: what stands between the name of a tag and its end.
use Rattle.std.specs.Prelude.{ℕ, zero, suc, ◌+◌, ◌-◌, List, [], ◌∷◌, ◌++◌, Bool, true, false, ◌&&◌, ◌||◌, nat_eq, Option, Some, None, length, take, drop, map, if◌then◌else◌}
use Rattle.std.specs.List.{prefix_len}
use Rattle.html_grammar.specs.Characters.{is_space, is_attr, is_quote, is_bare_end, lower, begins, is}
use Rattle.html_grammar.specs.Tables.{is_in}
use Rattle.html_grammar.specs.Runs.{Run, units, unknown_at, run, run_length}

pub record Attr : Type 0 where
  pub name : List ℕ
  pub value : List ℕ

pub data Refusal : Type 0 where
  open_tag mismatch bad_reference bad_attr too_deep : Refusal

-- a refusal, and how many characters behind the beginning of its piece it stands
abbrev pub Fault : Type 0
Fault = Refusal × ℕ

-- what stands at a point within a tag
pub data Part : Type 0 where
  -- so many characters end the tag
  close : ℕ → Part
  gap : Part
  -- an attribute; where in it a reference names no character, if one does; how many characters it has
  attr : Attr → Option ℕ → ℕ → Part
  -- a character that belongs to nothing
  wrong : Part
  -- the tag has no end
  unclosed : Part

abbrev pub attribute : List ℕ → List ℕ → Option ℕ → ℕ → Part
attribute n v u k = attr (record { name = n; value = v }) u k

-- a value that begins behind k characters, and has so many more behind it
abbrev pub valued : List ℕ → ℕ → ℕ → Run → Part
valued n k j (units us m) = attribute n us None (k + m + j)
valued n k j (unknown_at i m) = attribute n [] (Some (k + i)) (k + m + j)

abbrev pub ends_bare : List ℕ → Bool
ends_bare s = begins is_bare_end s

-- a value between quotes: it is closed where something is left behind its characters
abbrev pub quoted : List ℕ → ℕ → ℕ → Run → Part
quoted n k left r = if nat_eq (run_length r) left then unclosed else valued n k 1 r

-- what stands behind the `=` of an attribute, which is the kth character
abbrev pub value : List ℕ → ℕ → List ℕ → Part
value n k [] = attribute n [] None k
value n k (q ∷ s) = if is_quote q then quoted n (k + 1) (length s) (run (begins (is q)) 0 s) else valued n k 0 (run ends_bare 0 (q ∷ s))

-- an attribute: its name, put in lower case, with or without a value
abbrev pub attr_at : List ℕ → Part
attr_at s =
    let n = prefix_len is_attr s in
    if begins (is 61) (drop n s) then value (map lower (take n s)) (n + 1) (drop (n + 1) s) else attribute (map lower (take n s)) [] None n

-- a tag begins an element, or one without content, or it ends an element
pub data Kind : Type 0 where
  begins_element begins_void ends_element : Kind

abbrev pub is_void_tag : Kind → Bool
is_void_tag begins_element = false
is_void_tag begins_void = true
is_void_tag ends_element = false

abbrev pub is_end_tag : Kind → Bool
is_end_tag begins_element = false
is_end_tag begins_void = false
is_end_tag ends_element = true

-- the tag of an element without content may end in `/>`
unfoldable pub part : Kind → List ℕ → Part
part t [] = unclosed
part t (c ∷ s) =
    if nat_eq c 62 then close 1
    else if nat_eq c 47 && is_void_tag t && begins (is 62) s then close 2
    else if is_space c then gap
    else if is_attr c then attr_at (c ∷ s)
    else wrong

pub data Inside : Type 0 where
  -- attributes, the first fault, and how many characters there are up to the end
  closed : List Attr → Option Fault → ℕ → Inside
  endless : Inside

abbrev pub or_later : Option Fault → Option Fault → Option Fault
or_later None g = g
or_later (Some f) g = Some f

-- the same with this attribute and this fault before it
abbrev pub before : List Attr → Option Fault → Inside → Inside
before xs f (closed bs g n) = closed (xs ++ bs) (or_later f g) n
before bs f endless = endless

abbrev pub unknown_fault : ℕ → Option ℕ → Option Fault
unknown_fault i None = None
unknown_fault i (Some k) = Some (bad_reference, i + k)

-- whether an attribute of this name, behind attributes of those, may not stand in a tag
abbrev pub is_fault : Kind → List (List ℕ) → List ℕ → Bool
is_fault t seen n = is_end_tag t || is_in seen n

-- an attribute is a fault at its beginning in the tag that ends an element, and where its name stands before it
abbrev pub attr_fault : Kind → List (List ℕ) → ℕ → Attr → Option ℕ → Option Fault
attr_fault t seen i a u = if is_fault t seen a.name then Some (bad_attr, i) else unknown_fault i u

-- a part at the ith character, behind attributes of these names; f goes on, where so many characters are still to be passed
abbrev pub goes : Kind → (List (List ℕ) → ℕ → Inside) → List (List ℕ) → ℕ → Part → Inside
goes t f seen i (close n) = closed [] None (i + n)
goes t f seen i gap = f seen 0
goes t f seen i (attr a u n) = before (a ∷ []) (attr_fault t seen i a u) (f (seen ++ a.name ∷ []) (n - 1))
goes t f seen i wrong = before [] (Some (bad_attr, i)) (f seen 0)
goes t f seen i unclosed = endless

-- n characters of a part are still to be passed; i counts from the beginning of the tag
unfoldable pub inside : Kind → List (List ℕ) → ℕ → ℕ → List ℕ → Inside
inside t seen n i [] = endless
inside t seen (suc n) i (c ∷ s) = inside t seen n (i + 1) s
inside t seen zero i (c ∷ s) = goes t (λ seen n. inside t seen n (i + 1) s) seen i (part t (c ∷ s))
