-- The row that was picked, among rows as they are kept.
use Rattle.std.proofs.Common.{◌≡◌, ℕ, ◌<◌, ◌≤◌, List, length, get_or, refl, sym, ap, ◌∙◌}
use Rattle.std.specs.List.{slice_get}
use Rattle.std.specs.Option.{option_map}
use Rattle.std.proofs.lemmas.Option.{slice_get-map, slice_get_read, slice_get_past}
use Rattle.page_deeds.specs.Deeds.{Plain}
use Rattle.host_rules.specs.Plain.{plain}
use Rattle.host_services.specs.Services.{value_or}
use Rattle.host_services.specs.View.{row_of, rows_of}
use Rattle.host_services.specs.declared.service.Row.{Row}

pub value_here : (items : List Row) (other : Plain) (k j : ℕ) (r : Row) → k ≡ j → k < length items → r ≡ get_or items k r → plain r.value ≡ value_or other (slice_get (rows_of items) j)
value_here items other k j r same lt is =
    sym (ap (λ i. value_or other (slice_get (rows_of items) i)) (sym same) ∙ ap (value_or other) (slice_get-map row_of items k ∙ ap (option_map row_of) (slice_get_read items (length items) k r refl lt is)))

pub value_past : (items : List Row) (other : Plain) (k j : ℕ) → k ≡ j → length items ≤ k → other ≡ value_or other (slice_get (rows_of items) j)
value_past items other k j same le =
    sym (ap (λ i. value_or other (slice_get (rows_of items) i)) (sym same) ∙ ap (value_or other) (slice_get-map row_of items k ∙ ap (option_map row_of) (slice_get_past items k le)))
