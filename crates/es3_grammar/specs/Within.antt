-- Reading within a limit: what is read is refused at the first token from which no text within the limit goes on.
use Rattle.std.specs.Prelude.{ℕ, ◌*◌, ◌≡◌, List, [], ◌∷◌, ◌++◌, Bool, ◌&&◌, Option, Some, None, nat_le, if◌then◌else◌}
use Rattle.es3_tree.specs.Tree as t
use Rattle.es3_tree.specs.Placed.{Placed}
use Rattle.es3_grammar.specs.Spots.{Spot}
use Rattle.es3_grammar.specs.Frames.{State}
use Rattle.es3_grammar.specs.Machine.{Answer, whole, phrase, part, stopped, step, ending, beginning}
use Rattle.es3_grammar.specs.Begins.{Begins}
use Rattle.es3_grammar.specs.Ends.{height, tail}
use Rattle.es3_grammar.specs.Limit.{turn, most, BeginsWithin}

-- a whole program; tokens that break off; tokens from one on with which no program goes on; tokens from one on with which only deeper programs go on
pub data Reading : Type 0 where
  program : Placed t.program → Reading
  broken : Reading
  refused : List Spot → Reading
  too_deep : List Spot → Reading

abbrev pub reading_of : Answer → Reading
reading_of (whole p) = program p
reading_of part = broken
reading_of (phrase x) = broken
reading_of (stopped k) = refused k

-- the shortest end of a text from this state is within the limit, where so many brackets are open
abbrev pub is_within : ℕ → ℕ → State → Bool
is_within limit o s = nat_le (height s) limit && nat_le (most o (tail s)) (2 * limit)

abbrev pub goes_within : (State → Reading) → ℕ → ℕ → List Spot → Option State → Reading
goes_within f limit o k None = refused k
goes_within f limit o k (Some s) = if is_within limit o s then f s else too_deep k

unfoldable pub run_within : ℕ → ℕ → List Spot → State → Reading
run_within limit o [] s = reading_of (ending s)
run_within limit o (c ∷ k) s = goes_within (run_within limit (turn o c) k) limit (turn o c) (c ∷ k) (step s c)

abbrev pub read_within : ℕ → List Spot → Reading
read_within limit u = run_within limit 0 u beginning

-- `token` is the first of the tokens u with which no program within the limit goes on, but a deeper one does
pub record DeepAt (limit : ℕ) (u : List Spot) (token : Spot) (rest : List Spot) : Type 0 where
  pub front : List Spot
  pub parts : u ≡ front ++ token ∷ rest
  pub within : BeginsWithin limit front
  pub begins : Begins (front ++ token ∷ [])
  pub ends : BeginsWithin limit (front ++ token ∷ []) → ⊥

-- `token` is the first of the tokens u with which no program goes on, and the tokens before it begin one within the limit
pub record RefusedAt (limit : ℕ) (u : List Spot) (token : Spot) (rest : List Spot) : Type 0 where
  pub front : List Spot
  pub parts : u ≡ front ++ token ∷ rest
  pub within : BeginsWithin limit front
  pub ends : Begins (front ++ token ∷ []) → ⊥
