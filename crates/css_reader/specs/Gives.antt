-- What the program's answers are by the reading from left to right, and what they say by the grammar.
use Rattle.std.specs.Prelude.{◌≡◌, ◌⊎◌, ℕ, ◌+◌, ◌<◌, List, [], Bool, true, false, Result, Ok, Err, length, take, drop, get_or}
use Rattle.css_grammar.specs.Sheets as s
use Rattle.css_grammar.specs.Grammar.{Spells, Begins}
use Rattle.css_grammar.specs.Refusals.{width}
use Rattle.css_grammar.specs.Machine as m
use Rattle.css_tree.specs.declared.Css.{Css}
use Rattle.css_tree.specs.declared.CssError.{CssError}
use Rattle.css_tree.specs.declared.CssError.TheVariants as e
use Rattle.css_tree.specs.Views.{rules_of, sheet_of}
use Rattle.css_reader.specs.declared.reading.Answer.{Answer}
use Rattle.css_reader.specs.declared.reading.Answer.TheVariants as a

abbrev pub both_empty : List (List ℕ) → List ℕ → Bool
both_empty [] [] = true
both_empty _ _ = false

-- the answer at the end
abbrev pub Ends : Answer → m.Answer → Type 0
Ends (a.Sheet rs) x = x ≡ m.sheet (rules_of rs.items)
Ends a.Part x = x ≡ m.part
Ends (a.Stopped i) x = ⊥

-- the answer for a text
abbrev pub Gives : Answer → List ℕ → Type 0
Gives (a.Sheet rs) u = m.read u ≡ m.sheet (rules_of rs.items)
Gives a.Part u = m.read u ≡ m.part
Gives (a.Stopped i) u = m.read u ≡ m.stopped (drop i u)

-- some sheet goes on behind the text, and it spells none
abbrev pub Wanting : List ℕ → Type 0
Wanting u = Begins u × ((rs : List s.Rule) → Spells rs u → ⊥)

-- the unit at i is the first with which no sheet goes on
abbrev pub StopsIn : List ℕ → ℕ → Type 0
StopsIn u i = (i < length u) × Begins (take i u) × (Begins (take (i + 1) u) → ⊥)

abbrev pub Says : Answer → List ℕ → Type 0
Says (a.Sheet rs) u = Spells (rules_of rs.items) u
Says a.Part u = Wanting u
Says (a.Stopped i) u = StopsIn u i

-- a backslash, an `@`, or another unit at this byte
abbrev pub Refuses : CssError → ℕ → ℕ → Type 0
Refuses (e.Escape p) c q = (c ≡ 92) × (p ≡ q)
Refuses (e.AtRule p) c q = (c ≡ 64) × (p ≡ q)
Refuses (e.Syntax p) c q = ((c ≡ 92 → ⊥) × (c ≡ 64 → ⊥)) × (p ≡ q)
Refuses e.Memory c q = ⊥

abbrev pub Fails : CssError → List ℕ → Type 0
Fails e.Memory u = Unit {0}
Fails (e.Syntax p) u = (Wanting u × (p ≡ width u)) ⊎ ((i : ℕ) × StopsIn u i × Refuses (e.Syntax p) (get_or u i 0) (width (take i u)))
Fails r u = (i : ℕ) × StopsIn u i × Refuses r (get_or u i 0) (width (take i u))

abbrev pub Decoded : Result Css CssError → List ℕ → Type 0
Decoded (Ok c) u = Spells (sheet_of c) u
Decoded (Err r) u = Fails r u
