-- The groups that are listed are the classes of the least partition.
use Rattle.std.proofs.Common.{◌≡◌, ℕ, ◌<◌, true, map, length, All, sym, ap, subst}
use Rattle.std.specs.Prelude.{◌↔◌, slice_index}
use Rattle.std.specs.List.Sorted.{IsStrictlyIncreasing}
use Rattle.reach_report.specs.declared.Node.TheVariants.{Module}
use Rattle.reach_report.specs.Links.{Links, Linked, same_node, representative}
use Rattle.reach_report.specs.Groups.{is_with, groups, StandTogether, StandsInOne}
use Rattle.reach_report.proofs.Classes.{node_true, node_itself, groups_are_classes}
use Rattle.reach_report.proofs.Partition as partition

module _ (ls : Links) where
  itself : (m : ℕ) → is_with ls m m ≡ true
  itself m = node_itself (representative ls (Module m))

  -- two that are together are so with the same ones
  alike : (m n : ℕ) → is_with ls m n ≡ true → (k : ℕ) → is_with ls m k ≡ is_with ls n k
  alike m n h k = ap (same_node (representative ls (Module k))) (sym (node_true (representative ls (Module n)) (representative ls (Module m)) h))

  pub the_partition_is_listed : (m k n : ℕ) → m < n → k < n → StandTogether (groups ls n) m k ↔ Linked ls (Module m) (Module k)
  the_partition_is_listed m k n lm lk =
      let classes = groups_are_classes ls (Module m) (Module k) in (
        λ s. classes.0 (sym (node_true (representative ls (Module k)) (representative ls (Module m)) (partition.only_together (is_with ls) itself alike m k n s))),
        λ l. partition.together (is_with ls) itself alike m k n lm lk (subst (λ x. same_node x (representative ls (Module m)) ≡ true) (classes.1 l) (itself m)),
      )

  pub each_stands_in_one : (m n : ℕ) → m < n → StandsInOne (groups ls n) m
  each_stands_in_one = partition.in_one (is_with ls) itself alike

  pub modules_alone : (n : ℕ) → All (All (λ m. m < n)) (groups ls n)
  modules_alone = partition.each_below (is_with ls) itself alike

  pub none_is_empty : (n : ℕ) → All (λ g. 0 < length g) (groups ls n)
  none_is_empty = partition.none_is_empty (is_with ls) itself alike

  pub each_ascends : (n : ℕ) → All IsStrictlyIncreasing (groups ls n)
  each_ascends = partition.each_ascends (is_with ls) itself alike

  pub first_ones_ascend : (n : ℕ) → IsStrictlyIncreasing (map (λ g. slice_index g 0) (groups ls n))
  first_ones_ascend = partition.first_ones_ascend (is_with ls) itself alike
