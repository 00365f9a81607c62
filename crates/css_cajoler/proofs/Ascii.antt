-- A text of ASCII is its own bytes.
use Rattle.std.proofs.Common.{◌≡◌, ℕ, ◌≤◌, List, [], ◌++◌, true, sym, ap, ◌∙◌, length, take, drop}
use Rattle.std.specs.Char.{is_ascii}
use Rattle.std.specs.List.{list_all}
use Rattle.std.proofs.Math.ListN.{drop_of_length-le}
use Rattle.std.proofs.lemmas.Bool.{ltb-true}
use Rattle.std.proofs.lemmas.List.{append-nil, take-append-drop}
use Rattle.std.proofs.lemmas.List.Sums.{AllPass-from_list_all}
use Rattle.caja_units.specs.Utf8.{utf8_of}
use Rattle.caja_units.proofs.Ascii.{utf8_of-ascii}

own_bytes : (us : List ℕ) → list_all is_ascii us ≡ true → utf8_of us ≡ us
own_bytes us h = let each = AllPass-from_list_all is_ascii us h in utf8_of-ascii us (λ k d l. ltb-true _ _ (each k d l))

-- all units are written, and no other than those of ASCII were met
pub whole : (out before us : List ℕ) (i : ℕ) → length us ≤ i → out ≡ before ++ take i us → list_all is_ascii (drop i us) ≡ list_all is_ascii us → out ≡ before ++ utf8_of us
whole out before us i past written rest =
    let none : drop i us ≡ [] = drop_of_length-le us past in
    let all : take i us ≡ us = sym (append-nil (take i us)) ∙ ap (λ (d : List ℕ). take i us ++ d) (sym none) ∙ take-append-drop i us in
    let ascii : list_all is_ascii us ≡ true = sym rest ∙ ap (list_all is_ascii) none in
    written ∙ ap (λ (bs : List ℕ). before ++ bs) (all ∙ sym (own_bytes us ascii))
