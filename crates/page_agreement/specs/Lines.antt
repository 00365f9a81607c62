-- The lines that a log has of a group of modules.
use Rattle.std.specs.Prelude.{ℕ, Bool, false, List, [], Option, Some, None, nat_eq, slice_get, filter}
use Rattle.std.specs.List.{list_any}
use Rattle.page_deeds.specs.Deeds.{Owner, of_module, of_root, labelled, Grant, a_cell, a_result, a_plain, a_root, Grants}
use Rattle.heap_rows.specs.Doing.{Told, touched, said, changed_node, ended}
use Rattle.page_log.specs.Log.{log}
use Rattle.page_manifest.specs.Page.{Module, Page}
use Rattle.page_manifest.specs.Deeds.{all_given}
use Rattle.page_roots.specs.Roots.{roots_of, number_in}
use Rattle.manifest_deeds.specs.Names.{page_names}

-- a number is among some
abbrev pub is_among : List ℕ → ℕ → Bool
is_among g m = list_any (nat_eq m) g

-- what a module is granted, its roots by their numbers in the page
abbrev pub given_in : Page → Module → Grants
given_in p m = all_given (number_in (roots_of p)) m.grants

abbrev pub given_at : Page → Option Module → Grants
given_at p None = []
given_at p (Some m) = given_in p m

abbrev pub is_root : ℕ → Grant → Bool
is_root r (a_cell c) = false
is_root r (a_result m) = false
is_root r (a_plain v) = false
is_root r (a_root k) = nat_eq r k

-- whether one of the group's modules is granted something
abbrev pub has_granted : (Grant → Bool) → Page → List ℕ → Bool
has_granted is_it p g = list_any (λ i. list_any (λ x. is_it x.1) (given_at p (slice_get p.modules i))) g

-- whether the root of this number is the group's
abbrev pub has_root : Page → List ℕ → ℕ → Bool
has_root p g r = has_granted (is_root r) p g

-- whether something is a group's
abbrev pub is_of : Page → List ℕ → Owner → Bool
is_of p g (of_module m) = is_among g m
is_of p g (of_root r) = has_root p g r

-- whether a line is of a group: who touches, who says something, whose turn ended is in it, or a node of one of its roots changed, or was clicked or got a text
abbrev pub is_line_of : Page → List ℕ → Told → Bool
is_line_of p g (touched m t o key) = is_among g m
is_line_of p g (said m us) = is_among g m
is_line_of p g (changed_node r k c) = has_root p g r
is_line_of p g (ended l e) = is_of p g (labelled l)

-- the lines of a group, in their order: those of its modules and of its roots
abbrev pub told_of : Page → List ℕ → List Told → List Told
told_of p g ts = filter (is_line_of p g) ts

abbrev pub group_log : Page → List ℕ → List Told → List ℕ
group_log p g ts = log (page_names p) (told_of p g ts)
