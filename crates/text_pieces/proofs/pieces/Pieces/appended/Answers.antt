use Rattle.std.proofs.Common.{◌≡◌, ℕ, List, [], ◌∷◌, ◌++◌, length, ap, ◌∙◌, arith, length-append}
use Rattle.std.specs.List.{concat}
use Rattle.text_pieces.proofs.Concat.{appended}
use Rattle.text_pieces.proofs.pieces.Pieces.appended.Goals as goal

-- the new list, and the text that it is
listed : (ps kept near start shared list : List (List ℕ)) (us last piece text : List ℕ)
    → ps ≡ kept ++ near → last ≡ concat near ++ us → start ≡ [] → shared ≡ start ++ kept → list ≡ shared ++ piece ∷ [] → piece ≡ last → concat ps ≡ text
    → concat list ≡ text ++ us
listed ps kept near start shared list us last piece text split is none some pushed made view =
    ap concat (pushed ∙ ap (λ (l : List (List ℕ)). l ++ piece ∷ []) (some ∙ ap (λ (l : List (List ℕ)). l ++ kept) none))
    ∙ ap (λ (p : List ℕ). concat (kept ++ p ∷ [])) made
    ∙ appended ps kept near us last split is
    ∙ ap (λ (t : List ℕ). t ++ us) view

pub returns : goal.returns
returns c =
    listed c.deref.result.now c.split_at.result.0.now c.split_at.result.1.now c.in_ok-list.list.items c.share.new.list.items c.push.new.self.items
    c.args.units.now c.in_ok-last.last.items c.in_ok-new.field-0 c.args.self.now
    c.split_at.ensures.by_index.0 c.in_ok-last.ensures c.in_ok-list.ensures.items c.in_ok-share.ensures c.in_ok-push.ensures.items c.in_ok-new.ensures
    (ap concat c.deref.ensures.value ∙ c.self.view_is)

pub invariant_of-result : goal.invariant_of-result
invariant_of-result c =
    (omega (arith, c.self.invariant.0, ap length c.self.view_is, ap length (returns c), length-append c.args.self.now c.args.units.now), omega (arith, c.self.invariant.1))
