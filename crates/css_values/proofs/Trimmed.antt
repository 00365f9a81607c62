-- A text without white space at the end, by how much of it stands there.
use Rattle.std.proofs.Common.{◌≡◌, ℕ, ◌-◌, List, [], ◌∷◌, ◌++◌, refl, sym, ap, ◌∙◌, length, take, drop, append_assoc, append-nil}
use Rattle.std.specs.Prelude.{reverse}
use Rattle.std.specs.List.{prefix_len, suffix_len}
use Rattle.std.proofs.Math.Seq.{take-append_seam}
use Rattle.std.proofs.lemmas.List.{reverse-reverse, reverse-append, length-reverse, length-drop, take-append-drop}
use Rattle.css_kept.specs.Table.{is_space, reversed, trimmed_front, trimmed}

turned : (s r : List ℕ) → reversed s r ≡ reverse s ++ r
turned [] r = refl
turned (c ∷ s) r = turned s (c ∷ r) ∙ sym (append_assoc (reverse s) (c ∷ []) r) ∙ ap (λ (x : List ℕ). x ++ r) (sym (reverse-append (c ∷ []) s))

turned_whole : (s : List ℕ) → reversed s [] ≡ reverse s
turned_whole s = turned s [] ∙ append-nil (reverse s)

turned_twice : (s : List ℕ) (n : ℕ) → reverse (drop n (reverse s)) ≡ take (length s - n) s
turned_twice s n =
    let d : List ℕ = drop n (reverse s) in
    let f : List ℕ = take n (reverse s) in
    let whole : s ≡ reverse d ++ reverse f = sym (reverse-reverse s) ∙ ap (λ (x : List ℕ). reverse x) (sym (take-append-drop n (reverse s))) ∙ reverse-append f d in
    let count : length (reverse d) ≡ length s - n = length-reverse d ∙ length-drop n (reverse s) ∙ ap (λ (k : ℕ). k - n) (length-reverse s) in
    sym (take-append_seam (reverse d) (reverse f)) ∙ ap (λ (k : ℕ). take k (reverse d ++ reverse f)) count ∙ ap (λ (x : List ℕ). take (length s - n) x) (sym whole)

without_end : (s : List ℕ) → reversed (trimmed_front (reversed s [])) [] ≡ take (length s - suffix_len is_space s) s
without_end s = turned_whole (trimmed_front (reversed s [])) ∙ ap (λ (x : List ℕ). reverse (trimmed_front x)) (turned_whole s) ∙ turned_twice s (suffix_len is_space s)

pub trimmed_is : (s t u : List ℕ) (i j : ℕ) → u ≡ take (length t - j) t → t ≡ drop i s → i ≡ prefix_len is_space s → j ≡ suffix_len is_space t → u ≡ trimmed s
trimmed_is s t u i j taken dropped before behind =
    taken ∙ ap (λ (k : ℕ). take (length t - k) t) behind ∙ sym (without_end t) ∙ ap (λ (x : List ℕ). reversed (trimmed_front (reversed x [])) []) (dropped ∙ ap (λ (k : ℕ). drop k s) before)
