-- Pieces before others, and on a stack.
use Rattle.std.proofs.Common.{◌≡◌, ◌+◌, ◌<◌, ℕ, List, [], ◌∷◌, ◌++◌, refl, sym, ap, ◌∙◌, arith, append_assoc}
use Rattle.std.proofs.lemmas.List.{append-nil}
use Rattle.es3_tree.specs.Token.{Token}
use Rattle.es3_printed.specs.Text.{onto}
use Rattle.es3_printer.specs.declared.piece.Piece.{Piece}
use Rattle.es3_printer.specs.Pieces.{tokens_of, all_tokens, pending}
use Rattle.es3_printer.specs.Nodes.{weight, weights, weight_of}

pub all-append : (ps qs : List Piece) → all_tokens (ps ++ qs) ≡ all_tokens ps ++ all_tokens qs
all-append [] qs = refl
all-append (p ∷ ps) qs = ap (λ z. tokens_of p ++ z) (all-append ps qs) ∙ sym (append_assoc (tokens_of p) (all_tokens ps) (all_tokens qs))

pub pending-append : (ps : List Piece) (p : Piece) → pending (ps ++ p ∷ []) ≡ tokens_of p ++ pending ps
pending-append [] p = sym (append-nil (tokens_of p))
pending-append (q ∷ ps) p = ap (λ z. z ++ tokens_of q) (pending-append ps p) ∙ append_assoc (tokens_of p) (pending ps) (tokens_of q)

pub weights-append : (ps qs : List Piece) → weights (ps ++ qs) ≡ weights ps + weights qs
weights-append [] qs = omega arith
weights-append (p ∷ ps) qs = let e = weights-append ps qs in omega (arith, e)

pub weight-append : (ps : List Piece) (p : Piece) → weight (ps ++ p ∷ []) ≡ weight_of p + weight ps
weight-append [] p = omega arith
weight-append (q ∷ ps) p = let e = weight-append ps p in omega (arith, e)

-- the last of the pieces that are left is put on the stack
pub one_more : (left rest stack more : List Piece) (p : Piece) (u : List Token) (n : ℕ) → left ≡ rest ++ p ∷ [] → more ≡ stack ++ p ∷ []
    → all_tokens left ++ pending stack ≡ u → weights left + weight stack ≡ n
    → (all_tokens rest ++ pending more ≡ u) × (weights rest + weight more ≡ n)
one_more left rest stack more p u n l m e f = (
  ap (λ z. all_tokens rest ++ z) (ap pending m ∙ pending-append stack p)
      ∙ sym (append_assoc (all_tokens rest) (tokens_of p) (pending stack))
      ∙ ap (λ z. z ++ pending stack) (sym (ap all_tokens l ∙ all-append rest (p ∷ []) ∙ ap (λ z. all_tokens rest ++ z) (append-nil (tokens_of p))))
      ∙ e,
  let a = ap weight m ∙ weight-append stack p in let b = ap weights l ∙ weights-append rest (p ∷ []) in omega (arith, a, b, f),
)

-- the last piece of the stack is taken and printed

pub begun : (stack : List Piece) (p : Piece) (u : List Token) (out : List ℕ) → pending stack ≡ all_tokens (p ∷ []) ++ [] → tokens_of p ≡ u → onto out (pending stack) ≡ onto out u
begun stack p u out e f = ap (onto out) (e ∙ append-nil (tokens_of p ++ []) ∙ append-nil (tokens_of p) ∙ f)

pub taken : (stack rest more : List Piece) (p : Piece) (out new whole : List ℕ) → stack ≡ rest ++ p ∷ [] → onto new (pending more) ≡ onto out (tokens_of p ++ pending rest)
    → onto out (pending stack) ≡ whole → onto new (pending more) ≡ whole
taken stack rest more p out new whole s e f = e ∙ ap (onto out) (sym (ap pending s ∙ pending-append rest p)) ∙ f

pub lighter : (stack rest more : List Piece) (p : Piece) → stack ≡ rest ++ p ∷ [] → weight more < weight rest + weight_of p → weight more < weight stack
lighter stack rest more p s lt = let e = ap weight s ∙ weight-append rest p in omega (arith, e, lt)
