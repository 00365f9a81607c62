-- Texts with the longest expression at their front, and where reading stops.
use Rattle.std.proofs.Common.{◌≡◌, ℕ, Bool, true, false, List, [], ◌∷◌, length, Option, Some, None, Ok, Err, refl, ◌&&◌, nat_eq}
use Rattle.std.specs.Prelude.{codes}
use Rattle.std.specs.List.{list_all}
use Rattle.es3_tokens.specs.Longest.{longest}
use Rattle.es3_tokens.specs.Texts.{body}
use Rattle.es3_tokens.specs.Gaps.{comment_end}
use Rattle.es3_tokens.specs.Cut as cut
use Rattle.es3_tokens.specs.Cut.{cut_chars, cut_from, point}
use Rattle.es3_grammar.specs.Spots.{spots, look_up}
use Rattle.es3_grammar.specs.Machine.{settle, resume, step, all_of, finished}
use Rattle.es3_grammar.specs.Longest.{Stop, used_up, refused_at, deep_at, run_longest, read_longest}

-- how reading stops, with so many tokens behind the one that is refused or too deep
data Place : Type 0 where
  at_the_end : Place
  refuses : ℕ → Place
  too_deep : ℕ → Place

abbrev stands : Place → Stop → Bool
stands at_the_end used_up = true
stands (refuses n) (refused_at c k) = nat_eq n (length k)
stands (too_deep n) (deep_at c k) = nat_eq n (length k)
stands p s = false

abbrev same_count : Option ℕ → Option ℕ → Bool
same_count None None = true
same_count (Some n) (Some m) = nat_eq n m
same_count a b = false

abbrev shows : cut.Answer → ℕ → Option ℕ → Place → Bool
shows (Ok ts) limit n p = same_count n (read_longest limit (spots ts)).best && stands p (read_longest limit (spots ts)).stop
shows (Err e) limit n p = false

-- a text, a limit, how many tokens the longest expression has, where reading stops
abbrev rows : List (List ℕ × ℕ × Option ℕ × Place)
rows =
    (codes "", 8, None, at_the_end)
    ∷ (codes "a", 1, Some 1, at_the_end)
    ∷ (codes "a", 0, None, too_deep 0)
    ∷ (codes "-", 1, None, too_deep 0)
    ∷ (codes "a +++b", 8, Some 4, at_the_end)
    ∷ (codes "a + b, c", 8, Some 5, at_the_end)
    ∷ (codes "a + b; c", 8, Some 3, refuses 1)
    ∷ (codes "a + )", 8, Some 1, refuses 0)
    ∷ (codes ")", 8, None, refuses 0)
    ∷ (codes "a b", 8, Some 1, refuses 0)
    ∷ (codes "a + ((((", 1, Some 1, too_deep 4)
    ∷ (codes "((((a))))", 2, Some 9, at_the_end)
    ∷ (codes "(((((a)))))", 2, None, too_deep 6)
    ∷ (codes "a ? b", 8, Some 1, at_the_end)
    ∷ (codes "a ? b : c d", 8, Some 5, refuses 0)
    ∷ (codes "a + b = c", 8, Some 3, refuses 1)
    ∷ (codes "a = b = c", 8, Some 5, at_the_end)
    ∷ (codes "++1", 8, None, at_the_end)
    ∷ (codes "++new a", 8, None, at_the_end)
    ∷ (codes "++new a().b", 8, Some 7, at_the_end)
    ∷ (codes "{a: 1} }", 8, Some 5, refuses 0)
    ∷ (codes "function () { return a; } () }", 8, Some 10, refuses 0)
    ∷ (codes "f(a, b", 8, Some 1, at_the_end)
    ∷ []

longest_stand : list_all (λ r. shows (cut_chars r.0) r.1 r.2 r.3) rows ≡ true
unfolding longest body comment_end point cut_from look_up settle resume step all_of finished run_longest
longest_stand = refl
