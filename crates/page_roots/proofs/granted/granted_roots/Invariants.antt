-- The roots so far, and those that the modules which are left add.
use Rattle.std.proofs.Common.{◌≡◌, ◌≤◌, length, drop, map}
use Rattle.page_manifest.specs.View.{page, module_spec}
use Rattle.page_roots.specs.Roots.{with_modules, roots_of}
use Rattle.page_roots.specs.Numbered.{numbered}
use Rattle.page_roots.proofs.granted.granted_roots.Given as goal

abbrev pub invariant-loop-m : goal.invariant-loop-m
invariant-loop-m l = record {
  few : length l.list.items ≤ 4294967295;
  found : l.numbers ≡ numbered 0 l.list.items;
  so_far : with_modules l.m (map module_spec (drop l.m l.page.modules.items)) l.list.items ≡ roots_of (page l.page);
}
