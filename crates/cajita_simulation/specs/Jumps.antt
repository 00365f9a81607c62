-- Jumps and their targets: none of a module's own statements jumps out of the module.
use Rattle.std.specs.Prelude.{◌≡◌, ℕ, Bool, true, false, ◌||◌, List, [], ◌∷◌, Option}
use Rattle.cajita_tree.specs.Tree as c
use Rattle.cajita_meaning.specs.Direct.{is_to, is_label}

-- what stands around a part: the targets of a `break`, of a `continue`, and whether it is a function's, which a `return` leaves
pub record Jumps : Type 0 where
  pub breaks : Option (List ℕ) → Bool
  pub continues : Option (List ℕ) → Bool
  pub returns : Bool

abbrev pub no_jumps : Jumps
no_jumps = record { breaks = λ l. false; continues = λ l. false; returns = false }

-- around the statements of a function
abbrev pub function_jumps : Jumps
function_jumps = record { breaks = λ l. false; continues = λ l. false; returns = true }

abbrev pub all_jumps : Jumps
all_jumps = record { breaks = λ l. true; continues = λ l. true; returns = true }

-- around the body of a loop and the clauses of a `switch`, with the labels before it; around the statement of a label
abbrev pub in_loop : List (List ℕ) → Jumps → Jumps
in_loop ls J = record { breaks = λ l. J.breaks l || is_to l ls; continues = λ l. J.continues l || is_to l ls; returns = J.returns }

abbrev pub in_switch : List (List ℕ) → Jumps → Jumps
in_switch ls J = record { breaks = λ l. J.breaks l || is_to l ls; continues = J.continues; returns = J.returns }

abbrev pub in_label : List ℕ → Jumps → Jumps
in_label k J = record { breaks = λ l. J.breaks l || is_label l k; continues = J.continues; returns = J.returns }

-- each jump of a part has its target, where these labels stand before a statement; the jumps of a function are its own
abbrev pub Targets : Jumps → List (List ℕ) → (s : c.Sort) → c.Tree s → Type 0
Targets J ls _ (c.block xs) = Targets J [] _ xs
Targets J ls _ (c.branch e x y) = Targets J [] _ x × Targets J [] _ y
Targets J ls _ (c.while_loop e x) = Targets (in_loop ls J) [] _ x
Targets J ls _ (c.do_loop x e) = Targets (in_loop ls J) [] _ x
Targets J ls _ (c.for_loop i e u x) = Targets (in_loop ls J) [] _ x
Targets J ls _ (c.for_in x e b) = Targets (in_loop ls J) [] _ b
Targets J ls _ (c.continue l) = J.continues l ≡ true
Targets J ls _ (c.break l) = J.breaks l ≡ true
Targets J ls _ (c.return e) = J.returns ≡ true
Targets J ls _ (c.switch e cs) = Targets (in_switch ls J) [] _ cs
Targets J ls _ (c.label l x) = Targets (in_label l J) (l ∷ ls) _ x
Targets J ls _ (c.try xs h f) = Targets J [] _ xs × Targets J [] _ h × Targets J [] _ f
Targets J ls _ (c.more_stmts x rest) = Targets J [] _ x × Targets J [] _ rest
Targets J ls _ (c.some_stmt x) = Targets J [] _ x
Targets J ls _ (c.some_block xs) = Targets J [] _ xs
Targets J ls _ (c.more_cases e xs cs) = Targets J [] _ xs × Targets J [] _ cs
Targets J ls _ (c.some_handler x xs) = Targets J [] _ xs
Targets J ls _ x = Unit {0}
