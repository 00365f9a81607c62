use Rattle.std.proofs.Common.{◌≡◌, ℕ, ◌+◌, ◌-◌, ◌<◌, min, List, ◌++◌, length, get_or, take, drop, refl, ap, sym, ◌∙◌, arith, append_assoc}
use Rattle.std.specs.List.{concat}
use Rattle.text_pieces.proofs.Concat.{concat_rest, cut}
use Rattle.text_pieces.proofs.pieces.part.Goals as goal

-- what is taken of one piece, and the rest of those behind it
more : (ps : List (List ℕ)) (k : ℕ) (p units here part longer whole : List ℕ) (skip left start n : ℕ)
    → k < length ps → p ≡ get_or ps k p → units ≡ p → start ≡ min skip (length units) → n ≡ min (length units - start) left → here ≡ take n (drop start units)
    → longer ≡ part ++ here → part ++ take left (drop skip (concat (drop k ps))) ≡ whole
    → longer ++ take (left - n) (drop (skip - start) (concat (drop (k + 1) ps))) ≡ whole
more ps k p units here part longer whole skip left start n lt is same begins count taken joined before =
    let rest : List ℕ = concat (drop (k + 1) ps) in
    ap (λ (us : List ℕ). us ++ take (left - n) (drop (skip - start) rest)) (joined ∙ ap (λ (us : List ℕ). part ++ us) taken)
    ∙ append_assoc part (take n (drop start units)) (take (left - n) (drop (skip - start) rest))
    ∙ ap (λ (us : List ℕ). part ++ us) (sym (cut units rest skip left start n begins count))
    ∙ ap (λ (us : List ℕ). part ++ take left (drop skip (us ++ rest))) same
    ∙ ap (λ (us : List ℕ). part ++ take left (drop skip us)) (sym (concat_rest ps k p lt is))
    ∙ before

pub loop-piece-preserved : goal.loop-piece-preserved
loop-piece-preserved c =
    more c.args.pieces.now c.loop-piece.piece-index c.piece-item.result c.units-units.result.now _ c.loop-piece.part.items c.extend_from_slice.new.self.items _
    c.loop-piece.skip c.loop-piece.left c.min-start.result _
    c.loop-piece-test.true c.piece-item.is c.units-units.ensures (omega (arith, c.min-start.ensures)) (omega (arith, c.min-start.ensures, c.min-end.ensures, c.saturating_add.ensures)) refl c.in_ok-extend_from_slice.ensures.items c.loop-piece.invariant
