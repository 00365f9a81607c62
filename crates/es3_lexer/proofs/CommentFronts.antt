-- The laws of comments for characters that are not split, and the loop to the end of one.
use Rattle.std.proofs.Common.{◌≡◌, ℕ, suc, ◌+◌, ◌<◌, Bool, true, false, List, [], ◌∷◌, Option, Some, None, refl, sym, ap, ◌∙◌, arith, length, take, drop, add-one}
use Rattle.std.specs.Prelude.{if◌then◌else◌}
use Rattle.std.specs.List.{list_any, prefix_len}
use Rattle.std.proofs.Math.Seq.{drop-length, drop-cons}
use Rattle.std.proofs.lemmas.List.{length-drop}
use Rattle.es3_tokens.proofs.Comments.{end_cons, end_nil, point_block, point_line_comment, point_open}
use Rattle.es3_tokens.proofs.Tests.{eq_of}
use Rattle.es3_tokens.specs.Characters.{begins, is_line, is_slash, is_star}
use Rattle.es3_tokens.specs.Cut.{point, refuse, skip}
use Rattle.es3_tokens.specs.Gaps.{comment_end, not_line, one_more}
use Rattle.es3_tokens.specs.Refusals.{open_comment}
use Rattle.es3_tokens.specs.Steps.{closes, later}

pub block_front : (o : Bool) (s w : List ℕ) (k n : ℕ) (b : Bool) → begins is_slash s ≡ true → begins is_star (drop 1 s) ≡ true → w ≡ drop 2 s → Some k ≡ comment_end w → n ≡ 2 + k → b ≡ list_any is_line (take k w) → skip b n ≡ point o s
block_front o [] w k n b h g e i j l = absurd cc
block_front o (c ∷ []) w k n b h g e i j l = absurd cc
block_front o (c ∷ x ∷ s) w k n b h g e i j l =
    let p : c ≡ 47 = eq_of c 47 h in
    let q : x ≡ 42 = eq_of x 42 g in
    let f : n ≡ suc (suc k) = omega arith in
    let m : comment_end s ≡ Some k = ap comment_end (sym e) ∙ sym i in
    rw (p, q) (rw (l, f, e) (sym (point_block o s k m)))

pub open_front : (o : Bool) (s w : List ℕ) → begins is_slash s ≡ true → begins is_star (drop 1 s) ≡ true → w ≡ drop 2 s → None ≡ comment_end w → refuse open_comment ≡ point o s
open_front o [] w h g e i = absurd cc
open_front o (c ∷ []) w h g e i = absurd cc
open_front o (c ∷ x ∷ s) w h g e i =
    let p : c ≡ 47 = eq_of c 47 h in
    let q : x ≡ 42 = eq_of x 42 g in
    rw (p, q) (sym (point_open o s (ap comment_end (sym e) ∙ sym i)))

pub line_comment_front : (o : Bool) (s w : List ℕ) (k n : ℕ) → begins is_slash s ≡ true → begins is_slash (drop 1 s) ≡ true → w ≡ drop 2 s → k ≡ prefix_len not_line w → n ≡ 2 + k → skip false n ≡ point o s
line_comment_front o [] w k n h g e i j = absurd cc
line_comment_front o (c ∷ []) w k n h g e i j = absurd cc
line_comment_front o (c ∷ x ∷ s) w k n h g e i j =
    let p : c ≡ 47 = eq_of c 47 h in
    let q : x ≡ 47 = eq_of x 47 g in
    let f : k ≡ prefix_len not_line s = i ∙ ap (prefix_len not_line) e in
    let m : n ≡ suc (suc (prefix_len not_line s)) = omega (arith, f) in
    rw (p, q) (rw m (sym (point_line_comment o s)))

later_more : (i : ℕ) (o : Option ℕ) → later (i + 1) o ≡ later i (one_more o)
later_more i None = refl
later_more i (Some k) = let e : i + 1 + k ≡ i + suc k = omega arith in ap (λ n. Some n) e

end_at : (s : List ℕ) → 0 < length s → comment_end s ≡ (if closes s then Some 2 else one_more (comment_end (drop 1 s)))
end_at [] lt = absurd (omega arith)
end_at (c ∷ s) lt = end_cons c s

drop_one : (s : List ℕ) (i : ℕ) → i < length s → drop 1 (drop i s) ≡ drop (i + 1) s
drop_one s i lt = ap (drop 1) (drop-cons s i 0 lt) ∙ ap (λ j. drop j s) (sym (add-one i))

left_some : (s : List ℕ) (i : ℕ) → i < length s → 0 < length (drop i s)
left_some s i lt = omega (arith, length-drop i s)

pub end_more : (s : List ℕ) (i : ℕ) (o : Option ℕ) → i < length s → closes (drop i s) ≡ false → later i (comment_end (drop i s)) ≡ o → later (i + 1) (comment_end (drop (i + 1) s)) ≡ o
end_more s i o lt h e =
    later_more i (comment_end (drop (i + 1) s)) ∙ ap (λ r. later i (one_more (comment_end r))) (sym (drop_one s i lt))
    ∙ ap (later i) (ap (λ b. if b then Some 2 else one_more (comment_end (drop 1 (drop i s)))) (sym h) ∙ sym (end_at (drop i s) (left_some s i lt))) ∙ e

pub end_found : (s : List ℕ) (i : ℕ) (o : Option ℕ) → i < length s → closes (drop i s) ≡ true → later i (comment_end (drop i s)) ≡ o → Some (i + 2) ≡ o
end_found s i o lt h e = ap (later i) (sym (ap (λ b. if b then Some 2 else one_more (comment_end (drop 1 (drop i s)))) h) ∙ sym (end_at (drop i s) (left_some s i lt))) ∙ e

pub end_last : (s : List ℕ) (i : ℕ) (o : Option ℕ) → i ≡ length s → later i (comment_end (drop i s)) ≡ o → None ≡ o
end_last s i o is e = sym (ap (λ r. later i (comment_end r)) (ap (λ n. drop n s) is ∙ drop-length s) ∙ ap (later i) end_nil) ∙ e
