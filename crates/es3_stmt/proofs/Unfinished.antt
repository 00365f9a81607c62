-- Where nothing whole was read.
use Rattle.std.proofs.Common.{◌≡◌, ℕ, [], ◌∷◌, Option, Some, None, refl}
use Rattle.es3_tree.specs.PlacedView.{expr}
use Rattle.es3_tree.specs.declared.Name.{Name}
use Rattle.es3_lexer.specs.Tables.{punct_number}
use Rattle.es3_grammar.specs.Levels.{E}
use Rattle.es3_grammar.specs.Frames as m
use Rattle.es3_grammar.specs.Machine.{part, filled, finished, ending}
use Rattle.es3_grammar.specs.Within.{broken, reading_of}
use Rattle.es3_frames.specs.declared.parts.Done.{Done}
use Rattle.es3_frames.specs.declared.parts.Stmts.{Stmts}
use Rattle.es3_frames.specs.declared.frames.After.{After}
use Rattle.es3_frames.specs.declared.frames.After.TheVariants as a
use Rattle.es3_frames.specs.declared.frames.State.{State}
use Rattle.es3_frames.specs.declared.frames.State.TheVariants as s
use Rattle.es3_frames.specs.Views.{behind, state_of}

-- an expression is no program
an_expression : (k : m.Stack) (x : E) → broken ≡ reading_of (finished k x)
unfolding finished
an_expression [] x = refl
an_expression (f ∷ k) x = go (λ y. an_expression k y) (filled f x)
  where
    go : ((y : E) → broken ≡ reading_of (finished k y)) → (o : Option E) → broken ≡ reading_of (elim o [ Some y ↦ finished k y | None ↦ part ])
    go rec None = refl
    go rec (Some y) = rec y

a_token_more : (n : ℕ) (x : After) (k : m.Stack) → broken ≡ reading_of (ending (behind n x k))
a_token_more n a.Brace k = refl
a_token_more n _ k = refl

pub unfinished : (z : State) (k : m.Stack) → (z ≡ s.Start → ⊥) → ((x : Done) → z ≡ s.Ended x → ⊥) → ((ss : Stmts) (n : Name) (hs : Stmts) → z ≡ s.Caught ss n hs → ⊥) → broken ≡ reading_of (ending (state_of z k))
unfinished s.Start k p q r = absurd (p refl)
unfinished (s.Ended x) k p q r = absurd (q x refl)
unfinished (s.Caught ss n hs) k p q r = absurd (r ss n hs refl)
unfinished (s.Have x) k p q r = an_expression k (expr x.tree.value)
unfinished (s.Past x) k p q r = an_expression k (expr x.tree.value)
unfinished (s.Await n x) k p q r = a_token_more (punct_number n) x k
unfinished _ k p q r = refl
