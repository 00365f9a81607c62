-- Endings of statements on both sides, and what goes on after any of them.
use Rattle.std.proofs.Common.{◌≡◌, ℕ, ◌≤◌, true, List, None, refl, subst}
use Rattle.es3_heap.specs.Objects.{Objects}
use Rattle.es3_language.specs.Store.{Store}
use Rattle.es3_language.specs.Meaning as Target
use Rattle.cajita_meaning.specs.World.{World}
use Rattle.cajita_meaning.specs.Direct.{Item}
use Rattle.page_natives.specs.Natives.{Kept}
use Rattle.cajita_simulation.proofs.Doing as Source
use Rattle.cajita_simulation.proofs.Relation.{Val, val_keep, Here, Tags, Temps, Rel, Keeps, Stays}
use Rattle.cajita_simulation.proofs.Laws.{Jumps, bare, NextEffect, Cont, Cont', M}

-- endings that correspond: a jump has its target
abbrev pub EndIs : Jumps → Objects → Source.Completion → Target.Completion → Type 0
EndIs J h (Source.normal a) (Target.normal b) = Unit {0}
EndIs J h (Source.broke l) (Target.broke l' b) = (l ≡ l') × (J.breaks l ≡ true)
EndIs J h (Source.continued l) (Target.continued l' b) = (l ≡ l') × (J.continues l ≡ true)
EndIs J h (Source.returned v) (Target.returned e) = (J.returns ≡ true) × Val h v e
EndIs J h (Source.threw v) (Target.threw e) = Val h v e
EndIs J h _ _ = ⊥

pub end_keep : (J : Jumps) {a b : Objects} {i j : ℕ} → Keeps a i b j → (e : Source.Completion) (e' : Target.Completion) → EndIs J a e e' → EndIs J b e e'
end_keep J k (Source.normal a) (Target.normal b) p = tt
end_keep J k (Source.broke l) (Target.broke l' b) p = p
end_keep J k (Source.continued l) (Target.continued l' b) p = p
end_keep J k (Source.returned v) (Target.returned e) p = (p.0, val_keep k v e p.1)
end_keep J k (Source.threw v) (Target.threw e) p = val_keep k v e p
end_keep J k _ _ p = absurd p

-- what goes on after each of them, and the same one by one
pub record All (J : Jumps) (H : Here) (T : Temps) (d k : ℕ) (w0 : World) (g0 : Tags) (s0 : Store) (i : ℕ) (next : Cont) (next' : Cont') : Type 0 where
  pub on : (c : ℕ) → c ≤ d → (e : Source.Completion) (e' : Target.Completion) (w : World) (z : List Item) (n : ℕ) (g : Tags) (s : Store) (y : Kept) (m : ℕ) → EndIs J s.heap e e' → Rel H T k w z n g s y m → Stays w0 g0 s0 i w g s m → M H c (next e w) z n (next' e' s) y m

pub each : {J : Jumps} {H : Here} {T : Temps} {d k : ℕ} {w : World} {g : Tags} {s : Store} {i : ℕ} {next : Cont} {next' : Cont'} → All J H T d k w g s i next next' → NextEffect bare J H T d k w g s i next next'
each x = record {
  finishes = record {
    on = λ c le a b w z n g s y m r k. x.on c le (Source.normal None) (Target.normal b) w z n g s y m tt r k;
    breaks = λ c le l to b w z n g s y m r k. x.on c le (Source.broke l) (Target.broke l b) w z n g s y m (refl, to) r k;
    continues = λ c le l to b w z n g s y m r k. x.on c le (Source.continued l) (Target.continued l b) w z n g s y m (refl, to) r k;
  };
  returns = λ to. record { on = λ c le v e w z n g s y m is r k. x.on c le (Source.returned v) (Target.returned e) w z n g s y m (to, is) r k };
  throws = record { on = λ c le v e w z n g s y m is r k. x.on c le (Source.threw v) (Target.threw e) w z n g s y m is r k };
}

-- an ending goes on, without a value
pub ended : {J : Jumps} {H : Here} {T : Temps} {d k : ℕ} {w0 : World} {g0 : Tags} {s0 : Store} {i : ℕ} {next : Cont} {next' : Cont'} → NextEffect bare J H T d k w0 g0 s0 i next next' → (a : ℕ) → a ≤ d → (e : Source.Completion) (e' : Target.Completion) (w : World) (z : List Item) (n : ℕ) (g : Tags) (s : Store) (y : Kept) (m : ℕ) → EndIs J s.heap e e' → Rel H T k w z n g s y m → Stays w0 g0 s0 i w g s m → M H a (next (Source.shut e) w) z n (next' e' s) y m
ended x a le (Source.normal p) (Target.normal b) w z n g s y m is r k = x.finishes.on a le tt b w z n g s y m r k
ended {H = H} {next = next} {next' = next'} x a le (Source.broke l) (Target.broke l' b) w z n g s y m is r k = subst (λ q. M H a (next (Source.broke l) w) z n (next' (Target.broke q b) s) y m) is.0 (x.finishes.breaks a le l is.1 b w z n g s y m r k)
ended {H = H} {next = next} {next' = next'} x a le (Source.continued l) (Target.continued l' b) w z n g s y m is r k = subst (λ q. M H a (next (Source.continued l) w) z n (next' (Target.continued q b) s) y m) is.0 (x.finishes.continues a le l is.1 b w z n g s y m r k)
ended x a le (Source.returned v) (Target.returned e) w z n g s y m is r k = (x.returns is.0).on a le v e w z n g s y m is.1 r k
ended x a le (Source.threw v) (Target.threw e) w z n g s y m is r k = x.throws.on a le v e w z n g s y m is r k
ended x a le _ _ w z n g s y m is r k = absurd is
