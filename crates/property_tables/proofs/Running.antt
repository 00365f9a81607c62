-- Calls one after another: a call more.
use Rattle.std.proofs.Common.{◌≡◌, ℕ, suc, ◌+◌, ◌<◌, List, [], ◌∷◌, ◌++◌, length, get_or, take, drop, refl, ap, sym, ◌∙◌, append_assoc, arith}
use Rattle.std.proofs.lemmas.List.{take_more}
use Rattle.std.proofs.Math.Seq.{drop-cons}
use Rattle.property_tables.specs.declared.run.PropCall.{PropCall}
use Rattle.property_tables.specs.declared.run.PropReply.{PropReply}
use Rattle.property_tables.specs.Fields.{Entries}
use Rattle.property_tables.specs.Running.{reply, left, replies, left_by}

module _ {V A : Type 0} where
  left_by-append : (xs ys : List (PropCall V A)) (es : Entries V A) → left_by (xs ++ ys) es ≡ left_by ys (left_by xs es)
  left_by-append [] ys es = refl
  left_by-append (x ∷ xs) ys es = left_by-append xs ys (left x es)

  -- a call more, after those before it
  pub left-more : (cs : List (PropCall V A)) (i : ℕ) (x d : PropCall V A) (h h' h0 : Entries V A) → i < length cs → x ≡ get_or cs i d → h ≡ left_by (take i cs) h0 → h' ≡ left x h → h' ≡ left_by (take (i + 1) cs) h0
  left-more cs i x d h h' h0 within read before after =
      let more : take (i + 1) cs ≡ take i cs ++ x ∷ [] = take_more cs i d within ∙ ap (λ y. take i cs ++ y ∷ []) (sym read) in
      after ∙ ap (left x) before ∙ sym (ap (λ l. left_by l h0) more ∙ left_by-append (take i cs) (x ∷ []) h0)

  pub told-more : (cs : List (PropCall V A)) (i : ℕ) (x d : PropCall V A) (told told' all : List (PropReply V A)) (r : PropReply V A) (h h' : Entries V A) → i < length cs → x ≡ get_or cs i d
      → told ++ replies (drop i cs) h ≡ all → r ≡ reply x h → h' ≡ left x h → told' ≡ told ++ r ∷ [] → told' ++ replies (drop (i + 1) cs) h' ≡ all
  told-more cs i x d told told' all r h h' within read before is after more =
      let next : i + 1 ≡ suc i = omega arith in
      let rest : drop i cs ≡ x ∷ drop (i + 1) cs = drop-cons cs i d within ∙ ap (λ y. y ∷ drop (suc i) cs) (sym read) ∙ ap (λ n. x ∷ drop n cs) (sym next) in
      ap (λ t. t ++ replies (drop (i + 1) cs) h') more ∙ append_assoc told (r ∷ []) (replies (drop (i + 1) cs) h')
      ∙ ap (λ y. told ++ y ∷ replies (drop (i + 1) cs) h') is ∙ ap (λ e. told ++ reply x h ∷ replies (drop (i + 1) cs) e) after
      ∙ sym (ap (λ l. told ++ replies l h) rest) ∙ before
