-- What is read of a source is the program that it spells.
use Rattle.std.proofs.Common.{◌≡◌, ℕ, List, length, refl, sym, ap, ◌∙◌}
use Rattle.std.specs.Prelude.{Ok, Err}
use Rattle.es3_tree.specs.Tree as t
use Rattle.es3_tree.specs.Placed.{Placed}
use Rattle.es3_tokens.specs.Cut as cut
use Rattle.es3_grammar.specs.Spots.{Spot, spots}
use Rattle.es3_grammar.specs.Limit.{Within}
use Rattle.es3_grammar.specs.Within as within
use Rattle.es3_grammar.specs.Within.{Reading, read_within}
use Rattle.es3_grammar.specs.Answers.{answer_of}
use Rattle.es3_grammar.proofs.Limits.{within_sound, within_complete}
use Rattle.page_cajole.specs.Source.{spelled, Spells, source_of, of_cut, of_tokens}
use Rattle.page_cajole.specs.declared.source.Limits.{Limits}

-- what is read within the limit is spelled within it
read_is_spelled : (deepest end : ℕ) (u : List Spot) (r : Reading) (x : Placed t.program) → read_within deepest u ≡ r → of_tokens (answer_of end r) ≡ spelled x → Within deepest x u
read_is_spelled deepest end u (within.program y) x is e = within_sound deepest x u (is ∙ ap within.program cc)
read_is_spelled deepest end u within.broken x is e = absurd cc
read_is_spelled deepest end u (within.refused v) x is e = absurd cc
read_is_spelled deepest end u (within.too_deep v) x is e = absurd cc

cut_is_spelled : (l : Limits) (input : List ℕ) (a : cut.Answer) (x : Placed t.program) → cut.cut l.longest input ≡ a → of_cut l.deepest (length input) a ≡ spelled x → Spells l input x
cut_is_spelled l input (Err r) x is e = absurd cc
cut_is_spelled l input (Ok ts) x is e = record { spelled_by = ts; cut = is; within = read_is_spelled l.deepest (length input) (spots ts) (read_within l.deepest (spots ts)) x refl e }

pub spelled_where_read : (l : Limits) (input : List ℕ) (x : Placed t.program) → source_of l input ≡ spelled x → Spells l input x
spelled_where_read l input x e = cut_is_spelled l input (cut.cut l.longest input) x refl e

pub read_where_spelled : (l : Limits) (input : List ℕ) (x : Placed t.program) → Spells l input x → source_of l input ≡ spelled x
read_where_spelled l input x h =
    ap (of_cut l.deepest (length input)) h.cut
    ∙ ap (λ r. of_tokens (answer_of (length input) r)) (within_complete l.deepest x (spots h.spelled_by) h.within)

pub one_tree : (l : Limits) (input : List ℕ) (x y : Placed t.program) → Spells l input x → Spells l input y → x ≡ y
one_tree l input x y h i = let e : spelled x ≡ spelled y = sym (read_where_spelled l input x h) ∙ read_where_spelled l input y i in cc
