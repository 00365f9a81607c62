-- Where a machine is: what the host changes of it, and what a run leaves. All that is used of the relation between a machine and a store stands here.
use Rattle.std.proofs.Common.{◌≡◌, ℕ, ◌-◌, Option, Ok, Err, refl, sym, ap, ◌∙◌, subst, arith}
use Rattle.plans.specs.Plans.{over}
use Rattle.es3_objects.specs.declared.value.Stop.{Stop}
use Rattle.es3_objects.specs.declared.value.Stop.TheVariants as stop
use Rattle.es3_heap.specs.Objects.{Objects}
use Rattle.es3_language.specs.Store.{Store, with_heap}
use Rattle.es3_language.specs.Meaning.{Run as TurnRun}
use Rattle.es3_moves.specs.declared.natives.Completion.{Completion}
use Rattle.es3_machine.specs.Machine.{Started, Ran, run_started}
use Rattle.es3_machine.specs.Held.{Held, store_in, new_store}
use Rattle.page_natives.specs.Natives.{Kept, kept_of, page_table}
use Rattle.page_runner.specs.Runner.{HasStore, IsCut, TurnOver}
use Rattle.page_runner.specs.declared.runner.Runner.{Runner}

-- the objects
pub heap_here : (h : Objects) (m : Held) (x : Store) → HasStore h m x → x.heap ≡ h
heap_here h m x here = ap (λ s. s.heap) here

-- a new machine
pub new_here : (h : Objects) (m : Held) (globals : ℕ) → ((g : Objects) → store_in g m ≡ new_store g globals) → HasStore h m (new_store h globals)
new_here h m globals new = sym (new h)

-- the host changes objects
pub changed_here : (h g : Objects) (m : Held) (x : Store) → HasStore h m x → HasStore g m (with_heap x g)
changed_here h g m x here = ap (λ s. with_heap s g) here

-- something is started
pub started_here : (h : Objects) (m m1 : Held) (x : Store) → ((g : Objects) → store_in g m1 ≡ store_in g m) → HasStore h m x → HasStore h m1 x
started_here h m m1 x same here = here ∙ sym (same h)

-- what was started has run

cut : (e : Stop) (r : TurnRun Kept) (n : ℕ) (x : Store) (z : Kept) → Ran (Err e) r n x z → IsCut e z r
cut stop.Number r n x z ran = (x, ran.0, ran.1)
cut stop.Depth r n x z ran = (x, ran.0, ran.1)
cut stop.Convert r n x z ran = (x, ran.0, ran.1)
cut stop.Steps r n x z ran = (x, 0, ran)
cut stop.Memory r n x z ran = tt

pub run_cut : (started : Option Started) (e : Stop) (h g : Objects) (m m1 : Held) (x : Store) (z z1 : Kept) (n : ℕ) → HasStore h m x → Ran (Err e) (run_started page_table started (store_in h m) z n) n (store_in g m1) z1
    → IsCut e z1 (run_started page_table started x z n)
run_cut started e h g m m1 x z z1 n here ran = subst (λ s. IsCut e z1 (run_started page_table started s z n)) (sym here) (cut e _ n (store_in g m1) z1 ran)

pub run_over : (started : Option Started) (c : Completion) (taken : ℕ) (h : Objects) (m : Held) (x : Store) (z : Kept) (n : ℕ) (p : Runner) → HasStore h m x
    → Ran (Ok (c, taken)) (run_started page_table started (store_in h m) z n) n (store_in p.heap p.machine) (kept_of p.natives) → p.left ≡ n - taken → TurnOver c (run_started page_table started x z n) p
run_over started c taken h m x z n p here ran left =
    let counted = ran.count in
    let same : ran.left ≡ p.left = omega (arith, counted, left) in
    record {
      how = ran.how;
      store = store_in p.heap p.machine;
      here = refl;
      run = ap (λ s. run_started page_table started s z n) here ∙ ran.run ∙ ap (over ran.how (store_in p.heap p.machine) (kept_of p.natives)) same;
      came_to = ran.came_to;
    }
