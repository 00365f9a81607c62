-- Where no expression is whole.
use Rattle.std.proofs.Common.{◌≡◌, ℕ, false, [], ◌∷◌, refl}
use Rattle.es3_tree.specs.PlacedView.{stmt}
use Rattle.es3_lexer.specs.Tables.{punct_number}
use Rattle.es3_grammar.specs.Levels.{E}
use Rattle.es3_grammar.specs.Grammar.{S}
use Rattle.es3_grammar.specs.Frames as m
use Rattle.es3_grammar.specs.Machine.{Answer, whole, phrase, part, stopped, all_of, program_at, ending}
use Rattle.es3_grammar.specs.Longest.{is_phrase}
use Rattle.es3_grammar.proofs.Stops.{no_phrase_all}
use Rattle.es3_frames.specs.declared.parts.Part.{Part}
use Rattle.es3_frames.specs.declared.frames.After.{After}
use Rattle.es3_frames.specs.declared.frames.After.TheVariants as a
use Rattle.es3_frames.specs.declared.frames.State.{State}
use Rattle.es3_frames.specs.declared.frames.State.TheVariants as s
use Rattle.es3_frames.specs.Views.{behind, state_of}

no_phrase : (r : Answer) → ((y : E) → r ≡ phrase y → ⊥) → false ≡ is_phrase r
no_phrase (phrase y) h = absurd (h y refl)
no_phrase (whole p) h = refl
no_phrase part h = refl
no_phrase (stopped k) h = refl

statement_ends : (k : m.Stack) (x : S) → false ≡ is_phrase (all_of k x)
statement_ends k x = no_phrase (all_of k x) (λ y e. no_phrase_all k x y e)

list_ends : (k : m.Stack) → false ≡ is_phrase (program_at k)
list_ends (m.body m.a_program ss ∷ []) = refl
list_ends _ = refl

a_token_more : (n : ℕ) (x : After) (k : m.Stack) → false ≡ is_phrase (ending (behind n x k))
a_token_more n a.Brace k = refl
a_token_more n _ k = refl

pub no_expression : (z : State) (k : m.Stack) → ((x : Part) → z ≡ s.Have x → ⊥) → ((x : Part) → z ≡ s.Past x → ⊥) → false ≡ is_phrase (ending (state_of z k))
no_expression (s.Have x) k p q = absurd (p x refl)
no_expression (s.Past x) k p q = absurd (q x refl)
no_expression s.Start k p q = list_ends k
no_expression (s.Ended x) k p q = statement_ends k (stmt x.tree.value)
no_expression (s.Caught ss n hs) k p q = statement_ends k _
no_expression (s.Await n x) k p q = a_token_more (punct_number n) x k
no_expression _ k p q = refl
