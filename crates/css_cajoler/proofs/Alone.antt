-- What is kept of the value of an image that stands alone.
use Rattle.std.proofs.Common.{◌≡◌, ℕ, Bool, true, false, List, [], ◌∷◌, ◌++◌, Option, Some, None, refl, nat_eq, codes}
use Rattle.std.specs.Prelude.{if◌then◌else◌}
use Rattle.std.specs.List.{starts_with}
use Rattle.caja_units.specs.Units.{same_units}
use Rattle.css_kept.specs.Table.{Answers, image_of, is_without, link, printed_link}
use Rattle.css_cajoler.specs.Views.{linked, image_value, alone}

by_quote : (b : Bool) (w : List ℕ) → (if b then Some (w ∷ []) else None) ≡ alone (if b then Some w else None)
by_quote true w = refl
by_quote false w = refl

by_tests : (v : List ℕ) (b c : Bool) (o : Option (List ℕ)) → (if b then Some (v ∷ []) else if c then printed_link o else None) ≡ alone (if b then Some v else if c then linked o else None)
by_tests v true c o = refl
by_tests v false true None = refl
by_tests v false true (Some u) = by_quote (is_without 34 u) (codes "url(\"" ++ u ++ codes "\")")
by_tests v false false o = refl

pub alone_is : (a : Answers) (v : List ℕ) → image_of a (v ∷ []) ≡ alone (image_value a v)
alone_is a v = by_tests v (same_units v (codes "none")) (starts_with nat_eq v (codes "url(")) (a.for_style (link v))
