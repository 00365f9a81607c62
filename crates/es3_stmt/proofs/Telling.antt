-- Of tokens just one thing is so, and the reader's answer is that.
use Rattle.std.specs.Prelude.{Result, Ok, Err}
use Rattle.std.proofs.Common.{◌≡◌, ℕ, List, [], ◌∷◌, ◌++◌, refl, sym, ap, subst, ◌∙◌, append_assoc}
use Rattle.std.proofs.lemmas.List.{append-nil}
use Rattle.es3_tree.specs.Tree as t
use Rattle.es3_tree.specs.Placed.{Placed}
use Rattle.es3_tree.specs.PlacedView as view
use Rattle.es3_tree.specs.declared.Program.{Program}
use Rattle.es3_tokens.specs.Tokens as tokens
use Rattle.es3_grammar.specs.Spots.{Spot, spots}
use Rattle.es3_grammar.specs.Grammar.{free, Spells}
use Rattle.es3_grammar.specs.Begins.{Begins}
use Rattle.es3_grammar.specs.Limit.{Within, BeginsWithin}
use Rattle.es3_grammar.specs.Within.{Reading, program, broken, refused, too_deep, read_within, RefusedAt, DeepAt}
use Rattle.es3_grammar.specs.Answers.{Answer, read, syntax, deep, answer, answer_of}
use Rattle.es3_grammar.proofs.Limits.{within_sound, within_complete, refused_at, deep_at, broken_off, refused_some}
use Rattle.es3_stmt.specs.declared.read.ReadError.{ReadError}
use Rattle.es3_stmt.specs.declared.read.ReadError.TheVariants as error
use Rattle.es3_stmt.specs.Reads.{Reads}
use Rattle.es3_stmt.specs.Told as told
use Rattle.es3_stmt.specs.Told.{NoProgram, Becomes, Tells, IsTold}

-- ---- fronts of tokens

-- the tokens before a token begin a list
abbrev Front : List Spot → Spot → List Spot → Type 0
Front x c u = (w : List Spot) × (u ≡ (x ++ c ∷ []) ++ w)

-- two tokens of a list, each with what stands before it: one stands before the other, or they are the same
data Places (x y : List Spot) (c d : Spot) : Type 0 where
  before : Front x c y → Places x y c d
  behind : Front y d x → Places x y c d
  same : x ≡ y → c ≡ d → Places x y c d

one_more : (e : Spot) (x y : List Spot) (c d : Spot) → Places x y c d → Places (e ∷ x) (e ∷ y) c d
one_more e x y c d (before f) = before (f.0, ap (λ (z : List Spot). e ∷ z) f.1)
one_more e x y c d (behind f) = behind (f.0, ap (λ (z : List Spot). e ∷ z) f.1)
one_more e x y c d (same p q) = same (ap (λ (z : List Spot). e ∷ z) p) q

head_same : (a b : Spot) (u v : List Spot) → a ∷ u ≡ b ∷ v → (a ≡ b) × (u ≡ v)
head_same a b u v e = (cc, cc)

places : (x y : List Spot) (c d : Spot) (k r : List Spot) → x ++ c ∷ k ≡ y ++ d ∷ r → Places x y c d
places [] [] c d k r e = same refl (head_same c d k r e).0
places [] (b ∷ y) c d k r e = before (y, ap (λ (a : Spot). a ∷ y) (sym (head_same c b k (y ++ d ∷ r) e).0))
places (a ∷ x) [] c d k r e = behind (x, ap (λ (b : Spot). b ∷ x) (head_same a d (x ++ c ∷ k) r e).0)
places (a ∷ x) (b ∷ y) c d k r e =
    let h = head_same a b (x ++ c ∷ k) (y ++ d ∷ r) e in
    subst (λ (z : Spot). Places (a ∷ x) (z ∷ y) c d) h.0 (one_more a x y c d (places x y c d k r h.1))

begins : (n : ℕ) (u : List Spot) → BeginsWithin n u → Begins u
begins n u b = (b.0, b.1, b.2.spelled)

-- what begins a program is begun by each of its fronts
front_begins : (x : List Spot) (c : Spot) (u : List Spot) → Front x c u → Begins u → Begins (x ++ c ∷ [])
front_begins x c u f b = (b.0, f.0 ++ b.1, subst (λ (z : List Spot). Spells t.program free 0 b.0 z) (ap (λ (z : List Spot). z ++ b.1) f.1 ∙ append_assoc (x ++ c ∷ []) f.0 b.1) b.2)

front_within : (n : ℕ) (x : List Spot) (c : Spot) (u : List Spot) → Front x c u → BeginsWithin n u → BeginsWithin n (x ++ c ∷ [])
front_within n x c u f b = (b.0, f.0 ++ b.1, subst (λ (z : List Spot). Within n b.0 z) (ap (λ (z : List Spot). z ++ b.1) f.1 ∙ append_assoc (x ++ c ∷ []) f.0 b.1) b.2)

-- all of the tokens go on behind each of them
all_of : (x : List Spot) (c : Spot) (k u : List Spot) → u ≡ x ++ c ∷ k → Front x c u
all_of x c k u e = (k, e ∙ sym (append_assoc x (c ∷ []) k))

spelled_begins : (n : ℕ) (p : Placed t.program) (u : List Spot) → Within n p u → BeginsWithin n u
spelled_begins n p u w = (p, [], subst (λ (z : List Spot). Within n p z) (sym (append-nil u)) w)

-- ---- just one thing is so

begun_not_refused : (n : ℕ) (u : List Spot) (c : Spot) (k : List Spot) → BeginsWithin n u → RefusedAt n u c k → ⊥
begun_not_refused n u c k b h = h.ends (front_begins h.front c u (all_of h.front c k u h.parts) (begins n u b))

begun_not_deep : (n : ℕ) (u : List Spot) (c : Spot) (k : List Spot) → BeginsWithin n u → DeepAt n u c k → ⊥
begun_not_deep n u c k b h = h.ends (front_within n h.front c u (all_of h.front c k u h.parts) b)

refused_once : (n : ℕ) (u : List Spot) (c d : Spot) (k r : List Spot) → RefusedAt n u c k → RefusedAt n u d r → c ≡ d
refused_once n u c d k r h i = go (places h.front i.front c d k r (sym h.parts ∙ i.parts))
  where
    go : Places h.front i.front c d → c ≡ d
    go (before f) = absurd (h.ends (front_begins h.front c i.front f (begins n i.front i.within)))
    go (behind f) = absurd (i.ends (front_begins i.front d h.front f (begins n h.front h.within)))
    go (same p q) = q

refused_not_deep : (n : ℕ) (u : List Spot) (c d : Spot) (k r : List Spot) → RefusedAt n u c k → DeepAt n u d r → ⊥
refused_not_deep n u c d k r h i = go (places h.front i.front c d k r (sym h.parts ∙ i.parts))
  where
    go : Places h.front i.front c d → ⊥
    go (before f) = h.ends (front_begins h.front c i.front f (begins n i.front i.within))
    go (behind f) = i.ends (front_within n i.front d h.front f h.within)
    go (same p q) = h.ends (subst Begins (ap (λ (x : List Spot). x ++ d ∷ []) (sym p) ∙ ap (λ (e : Spot). h.front ++ e ∷ []) (sym q)) i.begins)

-- what is read is what is so
pub becomes_read : (n end : ℕ) (u : List Spot) (r : Reading) → read_within n u ≡ r → Becomes n end u (answer_of end r)
becomes_read n end u (program p) e = told.spelled p (within_sound n p u e)
becomes_read n end u broken e = told.breaks_off (broken_off n u e) (λ p w. let f = within_complete n p u w in cc)
becomes_read n end u (refused []) e = absurd ((refused_some n u).0 e)
becomes_read n end u (refused (c ∷ k)) e = told.refused_at c k (refused_at n u c k e)
becomes_read n end u (too_deep []) e = absurd ((refused_some n u).1 e)
becomes_read n end u (too_deep (c ∷ k)) e = told.deep_at c k (deep_at n u c k e)

refused_is_read : (n end : ℕ) (u : List Spot) (c : Spot) (k : List Spot) → RefusedAt n u c k → (r : Reading) → read_within n u ≡ r → answer_of end r ≡ syntax c.1
refused_is_read n end u c k h (program p) e = absurd (begun_not_refused n u c k (spelled_begins n p u (within_sound n p u e)) h)
refused_is_read n end u c k h broken e = absurd (begun_not_refused n u c k (broken_off n u e) h)
refused_is_read n end u c k h (refused []) e = absurd ((refused_some n u).0 e)
refused_is_read n end u c k h (refused (d ∷ r)) e = ap (λ (x : Spot). syntax x.1) (sym (refused_once n u c d k r h (refused_at n u d r e)))
refused_is_read n end u c k h (too_deep []) e = absurd ((refused_some n u).1 e)
refused_is_read n end u c k h (too_deep (d ∷ r)) e = absurd (refused_not_deep n u c d k r h (deep_at n u d r e))

broken_is_read : (n end : ℕ) (u : List Spot) → BeginsWithin n u → NoProgram n u → (r : Reading) → read_within n u ≡ r → answer_of end r ≡ syntax end
broken_is_read n end u b none (program p) e = absurd (none p (within_sound n p u e))
broken_is_read n end u b none broken e = refl
broken_is_read n end u b none (refused []) e = absurd ((refused_some n u).0 e)
broken_is_read n end u b none (refused (d ∷ r)) e = absurd (begun_not_refused n u d r b (refused_at n u d r e))
broken_is_read n end u b none (too_deep []) e = absurd ((refused_some n u).1 e)
broken_is_read n end u b none (too_deep (d ∷ r)) e = absurd (begun_not_deep n u d r b (deep_at n u d r e))

deep_is_read : (n end : ℕ) (u : List Spot) (c : Spot) (k : List Spot) → DeepAt n u c k → (r : Reading) → read_within n u ≡ r → answer_of end r ≡ deep
deep_is_read n end u c k h (program p) e = absurd (begun_not_deep n u c k (spelled_begins n p u (within_sound n p u e)) h)
deep_is_read n end u c k h broken e = absurd (begun_not_deep n u c k (broken_off n u e) h)
deep_is_read n end u c k h (refused []) e = absurd ((refused_some n u).0 e)
deep_is_read n end u c k h (refused (d ∷ r)) e = absurd (refused_not_deep n u d c r k (refused_at n u d r e) h)
deep_is_read n end u c k h (too_deep r) e = refl

read_is_so : (n end : ℕ) (u : List Spot) (a : Answer) → Becomes n end u a → answer_of end (read_within n u) ≡ a
read_is_so n end u _ (told.spelled p w) = ap (answer_of end) (within_complete n p u w)
read_is_so n end u _ (told.refused_at c k h) = refused_is_read n end u c k h (read_within n u) refl
read_is_so n end u _ (told.breaks_off b none) = broken_is_read n end u b none (read_within n u) refl
read_is_so n end u _ (told.deep_at c k h) = deep_is_read n end u c k h (read_within n u) refl

-- ---- answers

pub becomes_answer : (n end : ℕ) (ts : List tokens.Placed) → Becomes n end (spots ts) (answer n end ts)
becomes_answer n end ts = becomes_read n end (spots ts) (read_within n (spots ts)) refl

pub answer_is_so : (n end : ℕ) (ts : List tokens.Placed) (a : Answer) → Becomes n end (spots ts) a → answer n end ts ≡ a
answer_is_so n end ts a h = read_is_so n end (spots ts) a h

pub one_answer : (n end : ℕ) (u : List Spot) (a b : Answer) → Becomes n end u a → Becomes n end u b → a ≡ b
one_answer n end u a b h i = sym (read_is_so n end u a h) ∙ read_is_so n end u b i

pub some_answer : (n end : ℕ) (u : List Spot) → (a : Answer) × Becomes n end u a
some_answer n end u = (answer_of end (read_within n u), becomes_read n end u (read_within n u) refl)

-- tokens that are refused spell no program
pub none_spelled : (n end : ℕ) (u : List Spot) (a : Answer) → Becomes n end u a → ((p : Placed t.program) → a ≡ read p → ⊥) → NoProgram n u
none_spelled n end u a h none p w = none p (one_answer n end u a (read p) h (told.spelled p w))

within_so : (n end : ℕ) (u : List Spot) (a : Answer) (p : Placed t.program) → Becomes n end u a → a ≡ read p → Within n p u
within_so n end u _ p (told.spelled q w) e = let same : q ≡ p = cc in subst (λ (x : Placed t.program). Within n x u) same w
within_so n end u _ p (told.refused_at c k h) e = absurd cc
within_so n end u _ p (told.breaks_off b none) e = absurd cc
within_so n end u _ p (told.deep_at c k h) e = absurd cc

only : (n end : ℕ) (u : List Spot) (a : Answer) (r : Result Program ReadError) → Becomes n end u a → Reads r a → Tells n end u r
only n end u a (Ok p) h e = within_so n end u a (view.program p) h e
only n end u a (Err (error.Syntax at)) h e = (none_spelled n end u a h (λ p f. let g : syntax at ≡ read p = sym e ∙ f in cc), subst (Becomes n end u) e h)
only n end u a (Err (error.TooDeep at)) h e = (none_spelled n end u a h (λ p f. let g : deep ≡ read p = sym e.0 ∙ f in cc), subst (Becomes n end u) e.0 h, e.1)
only n end u a (Err error.Memory) h e = tt

pub told_answer : (n end : ℕ) (ts : List tokens.Placed) (r : Result Program ReadError) → Reads r (answer n end ts) → IsTold n end (spots ts) r
told_answer n end ts r e = record {
  only = only n end (spots ts) (answer n end ts) r (becomes_answer n end ts) e;
  always = λ a h. subst (Reads r) (answer_is_so n end ts a h) e;
}

pub refused_spell_none : (n end at : ℕ) (u : List Spot) → Becomes n end u (syntax at) → NoProgram n u
refused_spell_none n end at u h = none_spelled n end u (syntax at) h (λ p f. cc)

pub deep_spell_none : (n end : ℕ) (u : List Spot) → Becomes n end u deep → NoProgram n u
deep_spell_none n end u h = none_spelled n end u deep h (λ p f. cc)
