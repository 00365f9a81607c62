-- A store in which no text ran yet, and natives that only throw.
use Rattle.std.proofs.Common.{ℕ, ◌<◌, [], None, length, arith, rules}
use Rattle.std.proofs.lemmas.List.Elements.{All-nil}
use Rattle.es3_tree.specs.Tree as t
use Rattle.es3_objects.specs.declared.value.Class.TheVariants as class
use Rattle.es3_heap.specs.Objects.{Objects}
use Rattle.es3_language.specs.Store.{Shared}
use Rattle.es3_heap.specs.Making.{new_objects}
use Rattle.es3_language.specs.Rows.{empty_store, no_natives}
use Rattle.es3_language.specs.Meaning.{run_program}
use Rattle.es3_live.specs.Live.{AreClosed}
use Rattle.es3_live.specs.Runs.{LiveScope, LiveStore}
use Rattle.es3_live.specs.Keeps.{KeepsLive}
use Rattle.es3_kept.specs.Kept.{KeptRun, AlwaysFits}
use Rattle.es3_live.proofs.Growth.{later_refl}
use Rattle.es3_live.proofs.Making.{made_grown}
use Rattle.es3_kept.proofs.Meaning.{program_kept}

pub new_store_live : (h : Objects) (g : ℕ) → AreClosed h → g < length h.list → LiveStore (record { heap = h; scopes = []; codes = []; globals = g; shared = [] })
new_store_live h g closed there = record {
  heap = closed;
  scopes = All-nil (LiveScope (length h.list));
  globals = there;
  shared = All-nil (λ (i : Shared). i.object < length h.list);
}

pub throwing_keeps : KeepsLive AlwaysFits no_natives
throwing_keeps = record {
  called = λ which by this vs h z f closed a b. record { later = later_refl h; closed = closed; answer = tt; kept = tt };
  touched = λ i h z f. tt;
  later = λ h h' z f n. tt;
}

first_closed : AreClosed new_objects
first_closed = search rules

pub program_alone_kept : (p : t.Tree t.program) (by n : ℕ) → KeptRun AlwaysFits empty_store.heap (run_program no_natives p by empty_store tt n)
program_alone_kept p by n = program_kept throwing_keeps p by empty_store tt n (new_store_live empty_store.heap 10 (made_grown new_objects class.Object None first_closed tt).closed (omega arith)) tt
