-- The roots so far, and those that the grants which are left add.
use Rattle.std.proofs.Common.{◌≡◌, ◌≤◌, length, drop}
use Rattle.page_manifest.specs.View.{grants}
use Rattle.page_roots.specs.Roots.{with_grants}
use Rattle.page_roots.specs.Numbered.{numbered}
use Rattle.page_roots.proofs.granted.add_grants.Given as goal

abbrev pub invariant-loop-grant : goal.invariant-loop-grant
invariant-loop-grant l = record {
  few : length l.list.items ≤ 4294967295;
  found : l.numbers ≡ numbered 0 l.list.items;
  so_far : with_grants l.owner (grants (drop l.grant-index l.grants)) l.list.items ≡ with_grants l.owner (grants l.grants) l.fn.list.items;
}
