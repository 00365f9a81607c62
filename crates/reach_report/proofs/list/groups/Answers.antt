-- One module more is passed; at the end all are.
use Rattle.std.proofs.Common.{◌≡◌, ◌<◌, ℕ, Vec, Global, map, filter, take, get_or, length, ap, sym, ◌∙◌, arith}
use Rattle.std.specs.List.{list_any}
use Rattle.std.proofs.lemmas.List.{map_push, get_or_default}
use Rattle.std.proofs.lemmas.List.FromFn.{length-map-range_with_len}
use Rattle.reach_report.specs.declared.Node.TheVariants.{Module}
use Rattle.reach_report.specs.Links.{same_node, representative}
use Rattle.reach_report.specs.Groups.{below, is_with, firsts}
use Rattle.reach_report.proofs.Loops.{groups_grow, groups_stay}
use Rattle.reach_report.proofs.list.groups.Goals as goal
use Rattle.reach_report.proofs.list.groups.Goals.{then-not-has+in_ok-places_of+in_ok-push, else-not-has}

pub places_of-requires : goal.places_of-requires
places_of-requires c =
    omega (arith, ap length c.deref-then-not-has.ensures.value, ap length c.in_ok-labels.ensures, length-map-range_with_len (λ m. representative c.args.links.now (Module m)) 0 c.args.modules, c.ranges.modules.fits)

pub loop-m-preserved : goal.loop-m-preserved
loop-m-preserved c =
    let labels = c.deref-label-items.result.now in
    let m = c.loop-m.m in
    let label = get_or labels m (Module 0) in
    let are = c.deref-label-items.ensures.value ∙ c.in_ok-labels.ensures in
    let long : length labels ≡ c.args.modules = ap length are ∙ length-map-range_with_len (λ k. representative c.args.links.now (Module k)) 0 c.args.modules in
    let here : m < length labels = omega arith in
    let within : m < c.args.modules = omega arith in
    let read = get_or_default labels m (Module 0) label here in
    let has = c.has.ensures ∙ ap (λ xs. list_any (λ x. same_node x label) (take m xs)) (c.deref.ensures.value ∙ sym c.deref-label-items.ensures.value) in
    elim c.if-not-has.branch [
      | then-not-has+in_ok-places_of+in_ok-push w ↦
          ap (λ (v : Vec (Vec ℕ Global) Global). map (λ (g : Vec ℕ Global). g.items) v.items) w.found-is
          ∙ ap (map (λ (g : Vec ℕ Global). g.items)) w.in_ok-push.ensures.items
          ∙ map_push (λ (g : Vec ℕ Global). g.items) c.loop-m.found.items w.in_ok-places_of.field-0
          ∙ groups_grow c.args.links.now c.args.modules labels are m label c.has.result _ _ within read has w.if-not-has.true
          (w.in_ok-places_of.ensures ∙ ap (λ xs. filter (λ k. same_node (get_or xs k label) label) (below (length xs))) (w.deref-then-not-has.ensures.value ∙ sym c.deref-label-items.ensures.value)
          ∙ ap (λ j. filter (λ k. same_node (get_or labels k label) label) (below j)) long)
          c.loop-m.invariant
      | else-not-has w ↦
          ap (λ (v : Vec (Vec ℕ Global) Global). map (λ (g : Vec ℕ Global). g.items) v.items) w.found-is
          ∙ groups_stay c.args.links.now c.args.modules labels are m label c.has.result _ within read has w.if-not-has.false c.loop-m.invariant
    ]

pub returns : goal.returns
returns c =
    let long : length c.in_ok-labels.labels.items ≡ c.args.modules = ap length c.in_ok-labels.ensures ∙ length-map-range_with_len (λ m. representative c.args.links.now (Module m)) 0 c.args.modules in
    let e : c.loop-m.m ≡ c.args.modules = omega arith in
    c.loop-m.invariant ∙ ap (λ m. map (λ f. filter (is_with c.args.links.now f) (below c.args.modules)) (firsts c.args.links.now m)) e
