-- What is declared around a part of a source, and around what stands for it.
use Rattle.std.proofs.Common.{◌≡◌, ℕ, ◌<◌, Bool, true, false, List, [], ◌∷◌, cond, refl, sym, ap, ◌∙◌}
use Rattle.std.specs.Prelude.{◌||◌, not}
use Rattle.caja_units.specs.Units.{same_units}
use Rattle.cajita_names.specs.Rules.{is_among}
use Rattle.cajita_names.specs.Declarations as role
use Rattle.cajita_names.specs.Declarations.{Declaration, declared_as}
use Rattle.cajita_names.specs.Scope.{Scope, Binding, in_module, in_function, in_catch, in_named, changing, settled, imported, unbound, bound, own, declares, declares_function, has_own, is_within, is_unbound, is_settled, is_imported}
use Rattle.valija_rules.specs.Words.{is_taken}
use Rattle.valija_forms.specs.Forms.{word, temporary, prelude_name, receiver_name}
use Rattle.valija_accepted.proofs.Lists.{never, neither, or_left, or_right, not_true, pick_front, pick_back}

-- what a name is in the source, and what it is then: one that is declared may be written to, and one that is imported is known
abbrev pub stands : Binding → Binding → Bool
stands unbound b = true
stands imported b = not (is_unbound b)
stands changing changing = true
stands settled changing = true
stands changing b = false
stands settled b = false

pub known_there : (b d : Binding) → stands b d ≡ true → is_unbound b ≡ false → is_unbound d ≡ false
known_there unbound d h e = never (sym e)
known_there imported d h e = not_true (is_unbound d) h
known_there changing changing h e = refl
known_there changing d h e = never h
known_there settled changing h e = refl
known_there settled d h e = never h

pub written_there : (b d : Binding) → stands b d ≡ true → is_unbound b ≡ false → is_imported b ≡ false → is_settled d ≡ false
written_there unbound d h e i = never (sym e)
written_there imported d h e i = never (sym i)
written_there changing changing h e i = refl
written_there changing d h e i = never h
written_there settled changing h e i = refl
written_there settled d h e i = never h

-- a name that is declared
abbrev pub is_placed : Binding → Bool
is_placed changing = true
is_placed settled = true
is_placed imported = false
is_placed unbound = false

pub placed_known : (b : Binding) → is_placed b ≡ true → is_unbound b ≡ false
placed_known changing h = refl
placed_known settled h = refl
placed_known imported h = never h
placed_known unbound h = never h

pub placed_own : (b : Binding) → is_placed b ≡ true → is_imported b ≡ false
placed_own changing h = refl
placed_own settled h = refl
placed_own imported h = never h
placed_own unbound h = never h

-- the object of the prelude is known
pub record Home (s : Scope) : Type 0 where
  pub there : is_unbound (bound s prelude_name) ≡ false

-- a temporary may be written to
pub record Holds (s : Scope) (i : ℕ) : Type 0 where
  pub free : bound s (temporary i) ≡ changing

-- the names around
pub record Outer (s r : Scope) : Type 0 where
  pub names : (x : List ℕ) → stands (bound s x) (bound r x) ≡ true
  pub home : Home r

-- and, in a body that takes so many temporaries, what is the body's own
pub record Fits (s r : Scope) (total : ℕ) : Type 0 where
  pub outer : Outer s r
  pub within : is_within r ≡ is_within s
  pub receiver : is_within s ≡ true → is_unbound (bound r receiver_name) ≡ false
  pub owned : (x : List ℕ) → is_taken x ≡ false → has_own s x ≡ false → has_own r x ≡ false
  pub temporaries : (i : ℕ) → i < total → Holds r i

-- what a body declares, and what its lowered body does: the same names, as variables, and further ones that the source can't have
pub record Enters (ds es : List Declaration) (total : ℕ) : Type 0 where
  pub more : (x : List ℕ) → declares ds x ≡ true → declares es x ≡ true
  pub variable : (x : List ℕ) → declares_function es x ≡ false
  pub few : (x : List ℕ) → is_taken x ≡ false → declares ds x ≡ false → declares es x ≡ false
  pub temporaries : (i : ℕ) → i < total → declares es (temporary i) ≡ true

-- ---- names in a body

abbrev in_body : List Declaration → List ℕ → Binding → Binding
in_body ds x b = cond (declares ds x) (own ds x) b

own_is : (b : Bool) → is_placed (cond b settled changing) ≡ true
own_is true = refl
own_is false = refl

own_changing : (b : Bool) → b ≡ false → cond b settled changing ≡ changing
own_changing true e = never (sym e)
own_changing false e = refl

stands_changing : (b : Binding) → stands b changing ≡ true
stands_changing changing = refl
stands_changing settled = refl
stands_changing imported = refl
stands_changing unbound = refl

module _ {ds es : List Declaration} {total : ℕ} (h : Enters ds es total) where
  declared_there : (x : List ℕ) (d : Binding) → declares es x ≡ true → in_body es x d ≡ changing
  declared_there x d e = pick_front (declares es x) (own es x) d e ∙ own_changing (declares_function es x) (h.variable x)

  pub names_in : (x : List ℕ) (b d : Binding) → stands b d ≡ true → stands (in_body ds x b) (in_body es x d) ≡ true
  names_in x b d k =
      let cases = elim (declares ds x) as (λ c. declares ds x ≡ c → stands (cond c (own ds x) b) (in_body es x d) ≡ true) [
        | true ↦ λ e. ap (stands (own ds x)) (declared_there x d (h.more x e)) ∙ stands_changing (own ds x)
        | false ↦ λ e. further (declares es x) refl
      ] in cases refl
    where
      further : (c : Bool) → declares es x ≡ c → stands b (in_body es x d) ≡ true
      further true e = ap (stands b) (declared_there x d e) ∙ stands_changing b
      further false e = ap (stands b) (pick_back (declares es x) (own es x) d e) ∙ k

  pub temporary_in : (i : ℕ) (d : Binding) → i < total → in_body es (temporary i) d ≡ changing
  temporary_in i d e = declared_there (temporary i) d (h.temporaries i e)

pub still_known : (ds : List Declaration) (x : List ℕ) (b : Binding) → is_unbound b ≡ false → is_unbound (in_body ds x b) ≡ false
still_known ds x b k = by (declares ds x) (declares_function ds x)
  where
    by : (c d : Bool) → is_unbound (cond c (cond d settled changing) b) ≡ false
    by true true = refl
    by true false = refl
    by false d = k

pub placed_in : (ds : List Declaration) (x : List ℕ) (b : Binding) → declares ds x ≡ true → is_placed (in_body ds x b) ≡ true
placed_in ds x b e = ap is_placed (pick_front (declares ds x) (own ds x) b e) ∙ own_is (declares_function ds x)

-- ---- scopes within scopes

pub around_function : {ds es : List Declaration} {total : ℕ} {s r : Scope} → Outer s r → Enters ds es total → declares es receiver_name ≡ true → Fits (in_function ds s) (in_function es r) total
around_function {ds} {es} {total} {s} {r} o h receiver = record {
  outer = record {
    names = λ x. names_in h x (bound s x) (bound r x) (o.names x);
    home = record { there = still_known es prelude_name (bound r prelude_name) o.home.there };
  };
  within = refl;
  receiver = λ w. placed_known (bound (in_function es r) receiver_name) (placed_in es receiver_name (bound r receiver_name) receiver);
  owned = λ x own none. h.few x own none;
  temporaries = λ i e. record { free = temporary_in h i (bound r (temporary i)) e };
}

-- a function expression with a name stands in a function that declares the name as a variable
pub around_named : {s r : Scope} (f : List ℕ) → Outer s r → Outer (in_named f s) (in_function (declared_as role.variable (word f) ∷ []) r)
around_named {s} {r} f o = record {
  names = λ x. by x (same_units x f);
  home = record { there = still_known (declared_as role.variable (word f) ∷ []) prelude_name (bound r prelude_name) o.home.there };
}
  where
    by : (x : List ℕ) (b : Bool) → stands (cond b settled (bound s x)) (cond (b || false) changing (bound r x)) ≡ true
    by x true = refl
    by x false = o.names x

-- the block of a `catch`
pub around_catch : {s r : Scope} {total : ℕ} (y : List ℕ) → Fits s r total → Fits (in_catch y s) (in_catch y r) total
around_catch {s} {r} y h = record {
  outer = record {
    names = λ x. by x (same_units x y);
    home = record { there = known (same_units prelude_name y) (bound r prelude_name) h.outer.home.there };
  };
  within = h.within;
  receiver = λ w. known (same_units receiver_name y) (bound r receiver_name) (h.receiver w);
  owned = λ x own none. neither (same_units x y) (has_own r x) (or_left (same_units x y) (has_own s x) none) (h.owned x own (or_right (same_units x y) (has_own s x) none));
  temporaries = λ i e. let f = h.temporaries i e in record { free = still (same_units (temporary i) y) (bound r (temporary i)) f.free };
}
  where
    by : (x : List ℕ) (b : Bool) → stands (cond b changing (bound s x)) (cond b changing (bound r x)) ≡ true
    by x true = refl
    by x false = h.outer.names x

    known : (b : Bool) (d : Binding) → is_unbound d ≡ false → is_unbound (cond b changing d) ≡ false
    known true d k = refl
    known false d k = k

    still : (b : Bool) (d : Binding) → d ≡ changing → cond b changing d ≡ changing
    still true d k = refl
    still false d k = k

-- a module that imports the same names
pub around_module : {ds es : List Declaration} {total : ℕ} (names : List (List ℕ)) → Enters ds es total → declares es prelude_name ≡ true → Fits (in_module ds names) (in_module es names) total
around_module {ds} {es} names h prelude = record {
  outer = record {
    names = λ x. names_in h x (cond (is_among names x) imported unbound) (cond (is_among names x) imported unbound) (same (is_among names x));
    home = record { there = placed_known (bound (in_module es names) prelude_name) (placed_in es prelude_name (cond (is_among names prelude_name) imported unbound) prelude) };
  };
  within = refl;
  receiver = λ w. never w;
  owned = λ x own none. h.few x own none;
  temporaries = λ i e. record { free = temporary_in h i (cond (is_among names (temporary i)) imported unbound) e };
}
  where
    same : (b : Bool) → stands (cond b imported unbound) (cond b imported unbound) ≡ true
    same true = refl
    same false = refl
