-- What holds of the pages that are made.
use Rattle.std.proofs.Common.{◌≡◌, ◌∙◌, ℕ, ◌<◌, ◌≤◌, ◌%◌, min, Bool, true, false, not, true≢false, List, [], ◌∷◌, length, map, get_or, Option, Some, None, is_some, refl, sym, ap, subst, arith}
use Rattle.std.specs.Prelude.{All, nat_eq, slice_get, if◌then◌else◌}
use Rattle.std.specs.List.{list_all, range_with_len}
use Rattle.std.proofs.lemmas.List.Elements.{All-nil}
use Rattle.std.proofs.lemmas.List.FromFn.{length-range_with_len, get_or-range_with_len, length-map-range_with_len, get_or-map-range_with_len}
use Rattle.std.proofs.lemmas.List.Folds.{list_all_at}
use Rattle.std.proofs.lemmas.Option.{slice_get_within, get_or_from_slice_get}
use Rattle.std.specs.Fmt.{digits}
use Rattle.url_rule.specs.Table.{Row}
use Rattle.manifest_names.specs.Names.{is_name}
use Rattle.page_manifest.specs.Bound.{once_each}
use Rattle.page_manifest.specs.Page.{cajita, valija, as_it_stands, Module}
use Rattle.page_manifest.specs.Valid.{AreOnce, FewArguments, IsAsked, IsModule, IsValid}
use Rattle.caja_gen.specs.Generated.{event_of, generated, language_of, module_of, most_modules}

-- what is told of each number below n, is told of each element that is made of one
made_of : {X : Type 0} (P : X → Type 0) (f : ℕ → X) (n : ℕ) → ((k : ℕ) → k < n → P (f k)) → All P (map f (range_with_len 0 n))
made_of P f n holds k d below =
    let small : k < n = omega (arith, length-map-range_with_len f 0 n) in
    subst P (sym (get_or-map-range_with_len f 0 n k k d small (omega arith))) (holds k small)

-- a test that passes at each number below n
passes_at : (p : ℕ → Bool) (n : ℕ) → list_all p (range_with_len 0 n) ≡ true → (k : ℕ) → k < n → p k ≡ true
passes_at p n all k small = go (p k) refl
  where
    go : (b : Bool) → p k ≡ b → p k ≡ true
    go true is = is
    go false is =
        let there : get_or (range_with_len 0 n) k 0 ≡ k = get_or-range_with_len 0 n k 0 small ∙ omega arith in
        absurd (true≢false (sym all ∙ list_all_at p (range_with_len 0 n) k 0 (omega (arith, length-range_with_len 0 n)) (ap p there ∙ is)))

-- the names of so many modules
abbrev names : ℕ → List (List ℕ)
names k = map (λ m. m.name) (map module_of (range_with_len 0 k))

abbrev are_once : ℕ → Bool
are_once k = not (is_some (once_each (names k)))

abbrev is_named : ℕ → Bool
is_named k = is_name (module_of k).name

all_once : list_all are_once (range_with_len 0 17) ≡ true
unfolding digits
all_once = refl

all_named : list_all is_named (range_with_len 0 16) ≡ true
unfolding digits
all_named = refl

none_of : {A : Type 0} (o : Option A) → not (is_some o) ≡ true → o ≡ None
none_of None is = refl
none_of (Some a) is = absurd (true≢false (sym is))

once : (k : ℕ) → k ≤ 16 → AreOnce (names k)
once k few = none_of (once_each (names k)) (passes_at are_once 17 all_once k (omega arith))

-- the module of a number below 16
sound_module : (i k : ℕ) → k < 16 → IsModule 0 i (module_of k)
sound_module i k small = record {
  named = passes_at is_named 16 all_named k small;
  few = omega arith;
  spelled = All-nil _;
  once = refl;
  granted = All-nil _;
}

few_modules : (n : ℕ) → length (map module_of (range_with_len 0 (min n most_modules))) ≤ 16
few_modules n = omega (arith, length-map-range_with_len module_of 0 (min n most_modules))

module_in : (n i : ℕ) (m : Module) → slice_get (map module_of (range_with_len 0 (min n most_modules))) i ≡ Some m → IsModule 0 i m
module_in n i m at =
    let list = map module_of (range_with_len 0 (min n most_modules)) in
    let within = slice_get_within list i m at in
    let small : i < min n most_modules = omega (arith, length-map-range_with_len module_of 0 (min n most_modules)) in
    subst (λ m. IsModule 0 i m)
    (sym (get_or-map-range_with_len module_of 0 (min n most_modules) i i m small (omega arith)) ∙ get_or_from_slice_get list i m m at)
    (sound_module i i (omega arith))

pub is_valid : (rule : List Row) (n : ℕ) → 1 ≤ n → n ≤ 2000 → IsValid (generated rule n)
is_valid rule n some few =
    let k = min n most_modules in
    let count : length (map module_of (range_with_len 0 k)) ≡ k = length-map-range_with_len module_of 0 k in
    record {
      few_styles = omega arith;
      few_cells = omega arith;
      few_modules = omega (arith, few_modules n);
      few_events = omega (arith, length-map-range_with_len (event_of k) 0 n);
      cells_named = All-nil _;
      cells_once = refl;
      modules_once = once k (omega arith);
      modules = λ i m at. module_in n i m at;
      events = made_of (IsAsked (length (map module_of (range_with_len 0 k)))) (event_of k) n (λ j small. called k (omega arith) j count);
    }
  where
    called : (k : ℕ) → 0 < k → (j : ℕ) {count : ℕ} → count ≡ k → j % k < count
    called k some j same = omega (arith, same)

stands : (k : ℕ) → as_it_stands (language_of k) ≡ false
stands k = go (nat_eq (k % 2) 0)
  where
    go : (b : Bool) → as_it_stands (if b then cajita else valija) ≡ false
    go true = refl
    go false = refl

pub none_stands : (rule : List Row) (n : ℕ) → All (λ m. as_it_stands m.language ≡ false) (generated rule n).modules
none_stands rule n = made_of (λ m. as_it_stands m.language ≡ false) module_of (min n most_modules) (λ k small. stands k)

few_each : (modules : ℕ) (js : List ℕ) → FewArguments (map (event_of modules) js)
few_each modules [] = tt
few_each modules (j ∷ js) = (omega arith, few_each modules js)

pub few_arguments : (rule : List Row) (n : ℕ) → FewArguments (generated rule n).events
few_arguments rule n = few_each (min n most_modules) (range_with_len 0 n)
