-- Which selectors are kept (CSS 2.1, 5): those of tags, `*`, classes, ids and `:hover`, joined by white space and `>`.
use Rattle.std.specs.Prelude.{ℕ, [], ◌∷◌, Bool, true, false, ◌&&◌, ◌||◌, not, nat_eq, if◌then◌else◌}
use Rattle.css_grammar.specs.Characters.{class, is_more}
use Rattle.css_grammar.specs.Sheets.{Text}

-- `[`, with which an attribute selector begins (5.8), `(`, and the combinators `+` (5.7) and `~`
abbrev pub is_dropped : ℕ → Bool
is_dropped c = nat_eq c 91 || nat_eq c 40 || nat_eq c 43 || nat_eq c 126

-- whether a text begins with what a word goes on with
abbrev pub begins_more : Text → Bool
begins_more [] = false
begins_more (c ∷ s) = is_more (class c)

-- whether a text begins with the word `hover`, by its letters
abbrev pub is_hover : Text → Bool
is_hover (h ∷ o ∷ v ∷ e ∷ r ∷ s) = nat_eq h 104 && nat_eq o 111 && nat_eq v 118 && nat_eq e 101 && nat_eq r 114 && not (begins_more s)
is_hover _ = false

-- whether a selector, as it is printed, has none of the parts that are dropped: no `[..]`, `+`, `~`, `::word` or `:word(..)`, and no `:word` but `:hover` (5.11.3)
unfoldable pub keeps : Text → Bool
keeps [] = true
keeps (c ∷ s) = if is_dropped c then false else if nat_eq c 58 then (if is_hover s then keeps s else false) else keeps s
