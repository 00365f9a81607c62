-- Reading back names and words: what is written before no part of a name is the name or the word.
use Rattle.std.proofs.Common.{◌≡◌, ℕ, suc, ◌+◌, Bool, true, false, cond, List, [], ◌∷◌, ◌++◌, refl, ap, ◌∙◌, arith, length, take, drop}
use Rattle.std.specs.List.{list_all, prefix_len}
use Rattle.std.proofs.Math.Seq.{take-append_seam}
use Rattle.es3_tokens.specs.Characters.{is_letter, is_part, begins}
use Rattle.es3_tokens.specs.Tokens.{is_name, named}
use Rattle.es3_tokens.specs.Cut.{accept, point}
use Rattle.es3_tokens.proofs.Names.{point_name}
use Rattle.es3_tokens.proofs.Tests.{and_parts}

pub drop_seam : (w r : List ℕ) → drop (length w) (w ++ r) ≡ r
drop_seam [] r = refl
drop_seam (c ∷ w) r = drop_seam w r

-- how many pass, where all of the first do and the next one doesn't
pub prefix_seam : (p : ℕ → Bool) (w r : List ℕ) → list_all p w ≡ true → begins p r ≡ false → prefix_len p (w ++ r) ≡ length w
prefix_seam p [] [] h e = refl
prefix_seam p [] (c ∷ r) h e = ap (λ b. cond b (1 + prefix_len p r) 0) e
prefix_seam p (c ∷ w) r h e =
    let a = and_parts (p c) (list_all p w) h in
    let i = prefix_seam p w r a.1 e in
    ap (λ b. cond b (1 + prefix_len p (w ++ r)) 0) a.0 ∙ (let f : 1 + prefix_len p (w ++ r) ≡ length (c ∷ w) = omega (arith, i) in f)

pub back_name : (o : Bool) (w r : List ℕ) → is_name w ≡ true → begins is_part r ≡ false → point o (w ++ r) ≡ accept (named w) (length w)
back_name o [] r h e = absurd cc
back_name o (c ∷ w) r h e =
    let a = and_parts (is_letter c) (list_all is_part w) h in
    point_name o c (w ++ r) a.0
    ∙ ap (λ (n : ℕ). accept (named (c ∷ take n (w ++ r))) (suc n)) (prefix_seam is_part w r a.1 e)
    ∙ ap (λ (v : List ℕ). accept (named (c ∷ v)) (suc (length w))) (take-append_seam w r)
