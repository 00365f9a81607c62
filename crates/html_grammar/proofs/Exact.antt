-- Reading is the grammar: trees are read exactly where a text spells them, and a refusal exactly where its front doesn't go on.
use Rattle.std.proofs.Common.{◌≡◌, ℕ, ◌+◌, ◌<◌, ◌≤◌, Bool, true, false, List, [], ◌∷◌, Option, None, Some, refl, sym, ap, subst, ◌∙◌, arith, nat_lt, length, take, drop}
use Rattle.std.specs.Prelude.{if◌then◌else◌, ◌⊎◌}
use Rattle.std.proofs.Common.{inl, inr}
use Rattle.std.proofs.lemmas.Bool.Decides.{nat_tests}
use Rattle.caja_units.specs.Units.{same_units}
use Rattle.html_grammar.specs.Tables.{is_in, void}
use Rattle.html_grammar.specs.Tags.{Attr, Fault, Refusal, too_deep, mismatch}
use Rattle.html_grammar.specs.Point.{Step, text, skip, start, end, refuse, point}
use Rattle.html_grammar.specs.Trees.{Tree, many, text_node, element, none, snoc, most}
use Rattle.html_grammar.specs.Document.{Front, Spells}
use Rattle.html_grammar.specs.Refusals.{width, innermost, GoesOn, begins_here, a_text, a_comment, an_empty, an_open, an_end, Stops, no_piece, one_too_many, a_fault, nothing_ends, another_ends, a_fault_at_the_end, left_open, Refused}
use Rattle.html_grammar.specs.Reading.{Open, Answer, trees, refused, opened, faulty, inner_name, read_from, read}
use Rattle.html_grammar.proofs.Pieces.{same_self, read_text, read_skip, read_start, read_end, read_refuse, read_end_of_text}
use Rattle.html_grammar.proofs.Sound.{spelled_is_read}
use Rattle.html_grammar.proofs.Complete.{names_of, same_inner, length-names, Says, says}

-- what is read of a front that goes on: its open elements have these names
pub record Front_read (s : List ℕ) (k : List (List ℕ)) (b : Bool) (p : ℕ) (r : List ℕ) : Type 0 where
  pub stack : List Open
  pub trees_before : Tree many
  pub named : names_of stack ≡ k
  pub reads : read s ≡ read_from 0 p b stack trees_before r

few : (n m : ℕ) → n < m → nat_lt n m ≡ true
few n m h = grind (arith, nat_tests)

not_few : (n m : ℕ) → m ≤ n → nat_lt n m ≡ false
not_few n m h = grind (arith, nat_tests)

-- the same piece, within the open elements that have these names
piece : (b : Bool) (k : List (List ℕ)) (o : List Open) (r : List ℕ) (x : Step) → names_of o ≡ k → point b (innermost k) r ≡ x → point b (inner_name o) r ≡ x
piece b k o r x n e = ap (λ m. point b m r) (sym (same_inner o) ∙ ap innermost n) ∙ e

shallow : (k : List (List ℕ)) (o : List Open) → names_of o ≡ k → length k < most → nat_lt (length o) most ≡ true
shallow k o n lt = few (length o) most (let a = length-names o in let c = ap length n in omega (arith, a, c, lt))

read_open : (p : ℕ) (b : Bool) (o : List Open) (h : Tree many) (r m : List ℕ) (xs : List Attr) (n : ℕ) → nat_lt (length o) most ≡ true → point b (inner_name o) r ≡ start m xs None n → Front n r
    → read_from 0 p b o h r ≡ opened (λ k h. read_from 0 (p + width (take n r)) false k h (drop n r)) o h m xs
read_open p b o h r m xs n lt e f = read_start p b o h r m xs None n e f ∙ ap (λ c. if c then opened (λ k h. read_from 0 (p + width (take n r)) false k h (drop n r)) o h m xs else refused too_deep p) lt

by_test : {A : Type 0} (b c : Bool) (x y : A) → b ≡ c → (if b then x else y) ≡ (if c then x else y)
by_test b c x y e = ap (λ b. if b then x else y) e

-- an element of this name ends
popped : (p : ℕ) (b : Bool) (o : List Open) (h : Tree many) (m : List ℕ) (k : List (List ℕ)) (r : List ℕ) (n : ℕ) (a : Answer) → names_of o ≡ m ∷ k → a ≡ read_from 0 p b o h r → point b m r ≡ end m None n → Front n r
    → (o' : List Open) × (h' : Tree many) × (names_of o' ≡ k) × (a ≡ read_from 0 (p + width (take n r)) false o' h' (drop n r))
popped p b [] h m k r n a i e f fr = absurd cc
popped p b (o ∷ os) h m k r n a i e f fr =
    let first : o.name ≡ m = cc in
    let rest : names_of os ≡ k = cc in
    let f' : point b o.name r ≡ end m None n = ap (λ n. point b n r) first ∙ f in (
      os,
      snoc o.before (element o.name o.attrs h),
      rest,
      e ∙ read_end p b (o ∷ os) h r m None n f' fr
          ∙ by_test (same_units o.name m) true (read_from 0 (p + width (take n r)) false os (snoc o.before (element o.name o.attrs h)) (drop n r)) (refused mismatch p) (ap (λ (n : List ℕ). same_units n m) first ∙ same_self m),
    )

front : {s : List ℕ} {k : List (List ℕ)} {b : Bool} {p : ℕ} {r : List ℕ} → GoesOn s k b p r → Front_read s k b p r
front begins_here = record { stack = []; trees_before = none; named = refl; reads = refl }
front {s} (a_text k b p r us n g e f) =
    let x = front g in
    record {
      stack = x.stack;
      trees_before = snoc x.trees_before (text_node us);
      named = x.named;
      reads = x.reads ∙ read_text p b x.stack x.trees_before r us n (piece b k x.stack r (text us n) x.named e) f;
    }
front {s} (a_comment k b p r n g e f) =
    let x = front g in
    record {
      stack = x.stack;
      trees_before = x.trees_before;
      named = x.named;
      reads = x.reads ∙ read_skip p b x.stack x.trees_before r n (piece b k x.stack r (skip n) x.named e) f;
    }
front {s} (an_empty k b p r m xs n g lt v e f) =
    let x = front g in
    record {
      stack = x.stack;
      trees_before = snoc x.trees_before (element m xs none);
      named = x.named;
      reads = x.reads ∙ read_open p b x.stack x.trees_before r m xs n (shallow k x.stack x.named lt) (piece b k x.stack r (start m xs None n) x.named e) f
          ∙ by_test (is_in void m) true _ _ v;
    }
front {s} (an_open k b p r m xs n g lt v e f) =
    let x = front g in
    record {
      stack = record { name = m; attrs = xs; before = x.trees_before } ∷ x.stack;
      trees_before = none;
      named = ap (λ (l : List (List ℕ)). m ∷ l) x.named;
      reads = x.reads ∙ read_open p b x.stack x.trees_before r m xs n (shallow k x.stack x.named lt) (piece b k x.stack r (start m xs None n) x.named e) f
          ∙ by_test (is_in void m) false _ _ v;
    }
front {s} (an_end k b p r m n g e f) =
    let x = front g in
    let y = popped p b x.stack x.trees_before m k r n (read s) x.named x.reads e f in
    record { stack = y.0; trees_before = y.1; named = y.2; reads = y.3 }

-- the first open element
first_name : (o : List Open) (m : List ℕ) (k : List (List ℕ)) → names_of o ≡ m ∷ k → (x : Open) × (os : List Open) × (o ≡ x ∷ os) × (x.name ≡ m)
first_name [] m k e = absurd cc
first_name (x ∷ os) m k e = (x, os, refl, cc)

no_names : (o : List Open) → names_of o ≡ [] → o ≡ []
no_names [] e = refl
no_names (x ∷ os) e = absurd cc

ends_at : (p : ℕ) (b : Bool) (o : List Open) (h : Tree many) (r m a : List ℕ) (k : List (List ℕ)) (f : Option Fault) (n : ℕ) → names_of o ≡ m ∷ k → point b m r ≡ end a f n → Front n r
    → (y : Answer) × (read_from 0 p b o h r ≡ (if same_units m a then faulty p r f y else refused mismatch p))
ends_at p b o h r m a k f n i e fr =
    let x = first_name o m k i in
    let y = read_from 0 (p + width (take n r)) false x.1 (snoc x.0.before (element x.0.name x.0.attrs h)) (drop n r) in
    (y, ap (λ o. read_from 0 p b o h r) x.2 ∙ read_end p b (x.0 ∷ x.1) h r a f n (ap (λ n. point b n r) x.3 ∙ e) fr ∙ by_test (same_units x.0.name a) (same_units m a) (faulty p r f y) (refused mismatch p) (ap (λ (n : List ℕ). same_units n a) x.3))

stop : {k : List (List ℕ)} {b : Bool} {p : ℕ} {r : List ℕ} {x : Refusal} {q : ℕ} → Stops k b p r x q → (o : List Open) (h : Tree many) → names_of o ≡ k → read_from 0 p b o h r ≡ refused x q
stop (no_piece k b p r x n lt e) o h i = read_refuse p b o h r x n (piece b k o r (refuse x n) i e) lt
stop (one_too_many k b p r m xs f n ge e fr) o h i =
    read_start p b o h r m xs f n (piece b k o r (start m xs f n) i e) fr
    ∙ by_test (nat_lt (length o) most) false _ (refused too_deep p) (not_few (length o) most (let a = length-names o in let c = ap length i in omega (arith, a, c, ge)))
stop (a_fault k b p r m xs x j n lt e fr) o h i =
    read_start p b o h r m xs (Some (x, j)) n (piece b k o r (start m xs (Some (x, j)) n) i e) fr
    ∙ by_test (nat_lt (length o) most) true (refused x (p + width (take j r))) (refused too_deep p) (shallow k o i lt)
stop (nothing_ends b p r m f n e fr) o h i =
    ap (λ o. read_from 0 p b o h r) (no_names o i) ∙ read_end p b [] h r m f n e fr
stop (another_ends k b p r m a f n other e fr) o h i =
    let y = ends_at p b o h r m a k f n i e fr in y.1 ∙ by_test (same_units m a) false (faulty p r f y.0) (refused mismatch p) other
stop (a_fault_at_the_end k b p r m x j n e fr) o h i =
    let y = ends_at p b o h r m m k (Some (x, j)) n i e fr in y.1 ∙ by_test (same_units m m) true (refused x (p + width (take j r))) (refused mismatch p) (same_self m)
stop (left_open k b p m) o h i = let x = first_name o m k i in ap (λ o. read_from 0 p b o h []) x.2 ∙ read_end_of_text p b (x.0 ∷ x.1) h

pub refused_is_read : (x : Refusal) (p : ℕ) (s : List ℕ) → Refused x p s → read s ≡ refused x p
refused_is_read x p s y = let f = front y.front in f.reads ∙ stop y.stops f.stack f.trees_before f.named

pub read_is_spelled : (t : Tree many) (s : List ℕ) → read s ≡ trees t → Spells t s
read_is_spelled t s e = subst (Says s) e (says s)

pub read_is_refused : (x : Refusal) (p : ℕ) (s : List ℕ) → read s ≡ refused x p → Refused x p s
read_is_refused x p s e = subst (Says s) e (says s)

-- ---- the laws

pub one_document : (t u : Tree many) (s : List ℕ) → Spells t s → Spells u s → t ≡ u
one_document t u s x y = let e : trees t ≡ trees u = sym (spelled_is_read t s x) ∙ spelled_is_read u s y in cc

pub one_refusal : (x y : Refusal) (p q : ℕ) (s : List ℕ) → Refused x p s → Refused y q s → (x ≡ y) × (p ≡ q)
one_refusal x y p q s a b = let e : refused x p ≡ refused y q = sym (refused_is_read x p s a) ∙ refused_is_read y q s b in (cc, cc)

pub not_both : (t : Tree many) (x : Refusal) (p : ℕ) (s : List ℕ) → Spells t s → Refused x p s → ⊥
not_both t x p s a b = let e : trees t ≡ refused x p = sym (spelled_is_read t s a) ∙ refused_is_read x p s b in cc

pub one_of_both : (s : List ℕ) → ((t : Tree many) × Spells t s) ⊎ ((x : Refusal) × (p : ℕ) × Refused x p s)
one_of_both s = by_answer (read s) refl
  where
    by_answer : (a : Answer) → read s ≡ a → ((t : Tree many) × Spells t s) ⊎ ((x : Refusal) × (p : ℕ) × Refused x p s)
    by_answer (trees t) e = inl (t, read_is_spelled t s e)
    by_answer (refused x p) e = inr (x, p, read_is_refused x p s e)
