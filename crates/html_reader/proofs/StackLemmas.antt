-- The open elements, the innermost first.
use Rattle.std.proofs.Common.{◌≡◌, ◌≢◌, ℕ, suc, ◌+◌, ◌-◌, true, false, List, [], ◌∷◌, ◌++◌, Option, Some, length, refl, sym, ap, ◌∙◌, arith}
use Rattle.std.specs.Prelude.{slice_get, if◌then◌else◌}
use Rattle.caja_units.specs.Units.{same_units}
use Rattle.html_grammar.specs.Tables.{is_in, void}
use Rattle.html_grammar.specs.Tags.{Attr, Fault, mismatch}
use Rattle.html_grammar.specs.Trees as t
use Rattle.html_grammar.specs.Reading as h
use Rattle.html_tree.specs.Views.{attrs_of, trees}
use Rattle.html_reader.specs.Stacks.{open_of, over, stack}
use Rattle.html_tree.specs.declared.Html.{Html}
use Rattle.html_reader.specs.declared.reading.Open.{Open}

pub over_push : (os : List Open) (o : Open) (k : List h.Open) → over (os ++ o ∷ []) k ≡ open_of o ∷ over os k
over_push [] o k = refl
over_push (p ∷ os) o k = over_push os o (open_of p ∷ k)

pub stack_push : (os : List Open) (o : Open) → stack (os ++ o ∷ []) ≡ open_of o ∷ stack os
stack_push os o = over_push os o []

over_length : (os : List Open) (k : List h.Open) → length (over os k) ≡ length os + length k
over_length [] k = omega arith
over_length (o ∷ os) k = let e = over_length os (open_of o ∷ k) in omega (arith, e)

pub stack_length : (os : List Open) → length (stack os) ≡ length os
stack_length os = let e = over_length os [] in omega (arith, e)

pub record Ends (xs : List Open) (x : Open) : Type 0 where
  pub front : List Open
  pub is : xs ≡ front ++ x ∷ []

one_before : (y z : Open) (xs : List Open) → (length (y ∷ z ∷ xs) - 1) ≡ suc (length (z ∷ xs) - 1)
one_before y z xs = omega arith

behind : (y z : Open) (xs : List Open) (x : Open) → Ends (z ∷ xs) x → Ends (y ∷ z ∷ xs) x
behind y z xs x r = record { front = y ∷ r.front; is = ap (λ s. y ∷ s) r.is }

pub ends : (xs : List Open) (x : Open) → slice_get xs (length xs - 1) ≡ Some x → Ends xs x
ends [] x e = absurd cc
ends (y ∷ []) x e = record { front = []; is = cc }
ends (y ∷ z ∷ xs) x e = behind y z xs x (ends (z ∷ xs) x (rw (one_before y z xs) at e))

pub last_name : (xs : List Open) (x : Open) → Ends xs x → x.name ≡ h.inner_name (stack xs)
last_name xs x e = sym (ap h.inner_name (ap stack e.is ∙ stack_push e.front x))

ended_some : (p : ℕ) (k : List h.Open) (g : t.Tree t.many) → length k ≢ 0 → h.ended p k g ≡ h.refused mismatch p
ended_some p [] g e = absurd (e refl)
ended_some p (o ∷ k) g e = refl

pub not_ended : (p : ℕ) (os : List Open) (g : t.Tree t.many) → length os ≢ 0 → h.ended p (stack os) g ≡ h.refused mismatch p
not_ended p os g e = ended_some p (stack os) g (λ i. e (sym (stack_length os) ∙ i))

pub begin_law : (f : List h.Open → t.Tree t.many → h.Answer) (os ps : List Open) (o : Open) (g gs : List Html) (n : List ℕ) (xs : List Attr) → is_in void n ≡ false → o.name ≡ n → attrs_of o.attrs.items ≡ xs → o.before.items ≡ g
    → ps ≡ os ++ o ∷ [] → gs ≡ [] → h.opened f (stack os) (trees g) n xs ≡ f (stack ps) (trees gs)
begin_law f os ps o g gs n xs v a b c d e =
    let opening : h.Open = record { name = n; attrs = xs; before = trees g } in
    ap (λ b. if b then f (stack os) (t.snoc (trees g) (t.element n xs t.none)) else f (opening ∷ stack os) t.none) v
    ∙ ap (λ (m : List ℕ). f (record { name = m; attrs = xs; before = trees g } ∷ stack os) t.none) (sym a)
    ∙ ap (λ (ys : List Attr). f (record { name = o.name; attrs = ys; before = trees g } ∷ stack os) t.none) (sym b)
    ∙ ap (λ (ts : List Html). f (record { name = o.name; attrs = attrs_of o.attrs.items; before = trees ts } ∷ stack os) t.none) (sym c)
    ∙ ap (λ k. f k t.none) (sym (stack_push os o) ∙ ap stack (sym d)) ∙ ap (λ (ts : List Html). f (stack ps) (trees ts)) (sym e)

pub finish_law : (f : List h.Open → t.Tree t.many → h.Answer) (p : ℕ) (s : List ℕ) (x : Option Fault) (os ps : List Open) (o : Open) (g : List Html) (n : List ℕ) (new : t.Tree t.many) → os ≡ ps ++ o ∷ [] → same_units o.name n ≡ true
    → new ≡ t.snoc (trees o.before.items) (t.element o.name (attrs_of o.attrs.items) (trees g)) → h.closes f p s (stack os) (trees g) n x ≡ h.faulty p s x (f (stack ps) new)
finish_law f p s x os ps o g n new e i d =
    ap (λ k. h.closes f p s k (trees g) n x) (ap stack e ∙ stack_push ps o)
    ∙ ap (λ b. if b then h.faulty p s x (f (stack ps) (t.snoc (trees o.before.items) (t.element o.name (attrs_of o.attrs.items) (trees g)))) else h.refused mismatch p) i
    ∙ ap (λ t. h.faulty p s x (f (stack ps) t)) (sym d)

pub other_law : (f : List h.Open → t.Tree t.many → h.Answer) (p : ℕ) (s : List ℕ) (x : Option Fault) (os ps : List Open) (o : Open) (g : List Html) (n : List ℕ) → os ≡ ps ++ o ∷ [] → same_units o.name n ≡ false
    → h.closes f p s (stack os) (trees g) n x ≡ h.refused mismatch p
other_law f p s x os ps o g n e i =
    ap (λ k. h.closes f p s k (trees g) n x) (ap stack e ∙ stack_push ps o)
    ∙ ap (λ b. if b then h.faulty p s x (f (stack ps) (t.snoc (trees o.before.items) (t.element o.name (attrs_of o.attrs.items) (trees g)))) else h.refused mismatch p) i
