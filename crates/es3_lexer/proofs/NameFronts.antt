-- The law of names for characters that are not split.
use Rattle.std.proofs.Common.{◌≡◌, ℕ, suc, ◌+◌, ◌<◌, ◌&&◌, ◌||◌, Bool, true, List, [], ◌∷◌, sym, ap, ◌∙◌, arith, take, drop, get_or}
use Rattle.std.specs.List.{list_all, prefix_len, All}
use Rattle.std.proofs.lemmas.Bool.Decides.{nat_tests}
use Rattle.std.proofs.lemmas.List.Sums.{AllPass-from_list_all}
use Rattle.es3_tokens.proofs.Longest.{passes}
use Rattle.es3_tokens.proofs.Names.{point_name}
use Rattle.es3_tokens.specs.Characters.{begins, is_digit, is_letter, is_part}
use Rattle.es3_tokens.specs.Cut.{accept, point}
use Rattle.es3_tokens.specs.Tokens.{named}

pub name_front : (o : Bool) (s : List ℕ) (k n : ℕ) → begins is_letter s ≡ true → k ≡ prefix_len is_part (drop 1 s) → n ≡ 1 + k → point o s ≡ accept (named (take n s)) n
name_front o [] k n h e i = absurd cc
name_front o (c ∷ s) k n h e i =
    let f : suc (prefix_len is_part s) ≡ n = omega (arith, e) in
    point_name o c s h ∙ ap (λ j. accept (named (take j (c ∷ s))) j) f

part_small : (c : ℕ) → is_part c ≡ true → c < 128
part_small c h = grind (arith, nat_tests)

pub name_small : (s : List ℕ) (k n : ℕ) → begins is_letter s ≡ true → k ≡ prefix_len is_part (drop 1 s) → n ≡ 1 + k → All (λ c. c < 128) (take n s)
name_small [] k n h e i = absurd cc
name_small (c ∷ s) k n h e i =
    let f : suc (prefix_len is_part s) ≡ n = omega (arith, e) in
    let q : is_part c ≡ true = ap (λ b. b || is_digit c) h in
    let a : list_all is_part (c ∷ take (prefix_len is_part s) s) ≡ true = ap (λ b. b && list_all is_part (take (prefix_len is_part s) s)) q ∙ passes is_part s in
    let b : list_all is_part (take n (c ∷ s)) ≡ true = ap (λ j. list_all is_part (take j (c ∷ s))) (sym f) ∙ a in
    λ j d lt. part_small (get_or (take n (c ∷ s)) j d) (AllPass-from_list_all is_part (take n (c ∷ s)) b j d lt)
