-- Texts with the brackets that are open behind them, and whether the shortest end opens one more.
use Rattle.std.proofs.Common.{◌≡◌, ℕ, Bool, true, false, List, [], ◌∷◌, Option, Some, None, Ok, Err, refl, not, ◌&&◌, nat_eq}
use Rattle.std.specs.Prelude.{codes}
use Rattle.std.specs.List.{list_all}
use Rattle.es3_tokens.specs.Longest.{longest}
use Rattle.es3_tokens.specs.Texts.{body}
use Rattle.es3_tokens.specs.Gaps.{comment_end}
use Rattle.es3_tokens.specs.Cut as cut
use Rattle.es3_tokens.specs.Cut.{cut_chars, cut_from, point}
use Rattle.es3_grammar.specs.Spots.{Spot, spots, look_up}
use Rattle.es3_grammar.specs.Frames.{State}
use Rattle.es3_grammar.specs.Machine.{settle, resume, step, beginning}
use Rattle.es3_grammar.specs.Sums.{brackets_in, peak}

-- the state behind these tokens
abbrev came : Option State → List Spot → Option State
came None k = None
came (Some s) [] = Some s
came (Some s) (c ∷ k) = came (step s c) k

abbrev behind : cut.Answer → Option State
behind (Ok ts) = came (Some beginning) (spots ts)
behind (Err e) = None

abbrev shows : Option State → ℕ → Bool → Bool
shows None n b = false
shows (Some s) n true = nat_eq (brackets_in s) n && peak s
shows (Some s) n false = nat_eq (brackets_in s) n && not (peak s)

-- behind a text so many are open, and the end opens one more or not
abbrev rows : List (List ℕ × ℕ × Bool)
rows =
    (codes "a = 1 +", 0, false)
    ∷ (codes "f(", 1, false)
    ∷ (codes "a = [{a: f(", 3, false)
    ∷ (codes "a = {b", 1, false)
    ∷ (codes "new a", 0, false)
    ∷ (codes "++new a", 0, true)
    ∷ (codes "(++new a", 1, true)
    ∷ (codes "++new (a", 1, false)
    ∷ (codes "function", 0, true)
    ∷ (codes "function f(a)", 0, true)
    ∷ (codes "function f(a) {", 1, false)
    ∷ (codes "do a;", 0, true)
    ∷ (codes "do if (a) b = ", 0, true)
    ∷ (codes "do { a;", 1, false)
    ∷ (codes "do a; while", 0, true)
    ∷ (codes "for (var a = 1", 1, false)
    ∷ (codes "switch (a)", 0, true)
    ∷ (codes "switch (a) { case b: c;", 1, false)
    ∷ (codes "try {", 1, false)
    ∷ (codes "try {}", 0, true)
    ∷ (codes "try {} catch (a", 1, false)
    ∷ (codes "try {} catch (a) {}", 0, false)
    ∷ []

brackets_stand : list_all (λ r. shows (behind (cut_chars r.0)) r.1 r.2) rows ≡ true
unfolding longest body comment_end point cut_from look_up settle resume step
brackets_stand = refl
