use Rattle.std.proofs.Common.{◌≡◌, ℕ, List, [], ◌∷◌, ◌++◌, length, ap, ◌∙◌, arith, length-append, append-nil}
use Rattle.std.specs.List.{concat}
use Rattle.text_pieces.proofs.Concat.{prepended}
use Rattle.text_pieces.proofs.pieces.Pieces.prepended.Goals as goal

-- the new list, and the text that it is
listed : (ps near kept start shared list : List (List ℕ)) (us first piece text : List ℕ)
    → ps ≡ near ++ kept → first ≡ us ++ concat near → start ≡ [] → shared ≡ start ++ piece ∷ [] → list ≡ shared ++ kept → piece ≡ first → concat ps ≡ text
    → concat list ≡ us ++ text
listed ps near kept start shared list us first piece text split is none pushed some made view =
    ap concat (some ∙ ap (λ (l : List (List ℕ)). l ++ kept) (pushed ∙ ap (λ (l : List (List ℕ)). l ++ piece ∷ []) none))
    ∙ ap (λ (p : List ℕ). concat (p ∷ kept)) made
    ∙ prepended ps near kept us first split is
    ∙ ap (λ (t : List ℕ). us ++ t) view

pub returns : goal.returns
returns c =
    listed c.deref.result.now c.split_at.result.0.now c.split_at.result.1.now c.in_ok-list.list.items c.push.new.self.items c.share.new.list.items
    c.args.units.now c.in_ok-first.first.items c.in_ok-new.field-0 c.args.self.now
    c.split_at.ensures.by_index.0 (c.in_ok-first.ensures ∙ append-nil _) c.in_ok-list.ensures.items c.in_ok-push.ensures.items c.in_ok-share.ensures c.in_ok-new.ensures
    (ap concat c.deref.ensures.value ∙ c.self.view_is)

pub invariant_of-result : goal.invariant_of-result
invariant_of-result c =
    (omega (arith, c.self.invariant.0, ap length c.self.view_is, ap length (returns c), length-append c.args.units.now c.args.self.now), omega (arith, c.self.invariant.1))
