-- Trees that the table lets stand.
use Rattle.std.specs.Prelude.{◌≡◌, ℕ, ◌<◌, true, List, [], ◌∷◌, Some, length, map}
use Rattle.html_grammar.specs.Tables.{is_in}
use Rattle.html_grammar.specs.Tags.{Attr}
use Rattle.html_grammar.specs.Trees.{Sort, one, many, Tree, text_node, element, none, more}
use Rattle.html_kept.specs.Table.{Answers, listed, rows, attr_value}

-- the names of the table's attributes
abbrev pub attr_names : List (List ℕ)
attr_names = map (λ r. r.attr) rows

-- an attribute of the element n whose value is kept of some value
abbrev pub IsKeptAttr : Answers → List ℕ → Attr → Type 0
IsKeptAttr a n x = (us : List ℕ) × (attr_value a n x.name us ≡ Some x.value)

abbrev pub AreKept : Answers → List ℕ → List Attr → Type 0
AreKept a n [] = Unit {0}
AreKept a n (x ∷ xs) = IsKeptAttr a n x × AreKept a n xs

-- the trees don't begin with a text
abbrev pub NoTextFirst : Tree many → Type 0
NoTextFirst none = Unit {0}
NoTextFirst (more (text_node us) ts) = ⊥
NoTextFirst (more (element n xs us) ts) = Unit {0}

-- texts don't stand side by side
abbrev pub NotBeside : Tree one → Tree many → Type 0
NotBeside (text_node us) ts = NoTextFirst ts
NotBeside (element n xs us) ts = Unit {0}

-- each element is listed, each attribute is one of the table with a value that is kept, no text is empty, and no two stand side by side
abbrev pub OfTable : Answers → (s : Sort) → Tree s → Type 0
OfTable a _ (text_node us) = 0 < length us
OfTable a _ (element n xs ts) = (is_in listed n ≡ true) × AreKept a n xs × OfTable a many ts
OfTable a _ none = Unit {0}
OfTable a _ (more t ts) = OfTable a one t × OfTable a many ts × NotBeside t ts
