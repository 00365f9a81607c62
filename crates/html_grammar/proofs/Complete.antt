-- A text is read as trees only where it spells them, and refused only where its front doesn't go on.
use Rattle.std.proofs.Common.{◌≡◌, ℕ, zero, suc, ◌+◌, ◌<◌, ◌≤◌, Bool, true, false, ◌&&◌, List, [], ◌∷◌, Option, None, Some, refl, sym, ap, subst, ◌∙◌, arith, nat_eq, nat_lt, length, take, drop}
use Rattle.std.specs.Prelude.{if◌then◌else◌}
use Rattle.std.specs.List.{list_all}
use Rattle.std.proofs.lemmas.List.{length-drop}
use Rattle.std.proofs.lemmas.Bool.Decides.{nat_tests}
use Rattle.caja_units.specs.Units.{same_units}
use Rattle.html_grammar.specs.Characters.{is_space}
use Rattle.html_grammar.specs.Tables.{is_in, void}
use Rattle.html_grammar.specs.Tags.{Attr, Fault, Refusal, too_deep, mismatch}
use Rattle.html_grammar.specs.Point.{Step, text, skip, start, end, refuse, point}
use Rattle.html_grammar.specs.Trees.{append, Tree, many, text_node, element, none, more, snoc, most}
use Rattle.html_grammar.specs.Document.{Reads, nothing, Front, Spells}
use Rattle.html_grammar.specs.Document as d
use Rattle.html_grammar.specs.Refusals.{width, innermost, GoesOn, begins_here, Stops, Refused}
use Rattle.html_grammar.specs.Refusals as f
use Rattle.html_grammar.specs.Reading.{Open, Answer, trees, refused, opened, closes, faulty, ended, inner_name, read_from, read}
use Rattle.html_grammar.specs.Fits.{StepFits}
use Rattle.html_grammar.proofs.PieceBounds.{point_fits}
use Rattle.html_grammar.proofs.Pieces.{append_none, append_snoc, read_text, read_skip, read_start, read_end, read_refuse, read_end_of_text}

-- the names of open elements
abbrev pub names_of : List Open → List (List ℕ)
names_of [] = []
names_of (o ∷ k) = o.name ∷ names_of k

pub same_inner : (k : List Open) → innermost (names_of k) ≡ inner_name k
same_inner [] = refl
same_inner (o ∷ k) = refl

pub length-names : (k : List Open) → length (names_of k) ≡ length k
length-names [] = refl
length-names (o ∷ k) = ap suc (length-names k)

-- whatever is read behind the trees h, from r on, is read with them from r0 on
abbrev Level : ℕ → List ℕ → Tree many → Bool → List ℕ → Bool → List ℕ → Type 0
Level d n h b r b0 r0 = (t : Tree many) (c : Bool) (q : List ℕ) → Reads d n t b r c q → Reads d n (append h t) b0 r0 c q

-- within the open elements k, the trees h stand before r, as the text s spells them
data Stack (s : List ℕ) : List Open → Tree many → Bool → List ℕ → Type 0 where
  outside : (h : Tree many) (b : Bool) (r : List ℕ) → Level 0 [] h b r true s → Stack s [] h b r
  within : (k : List Open) (o : Open) (h : Tree many) (b b1 : Bool) (r r1 : List ℕ) (n : ℕ) → Stack s k o.before b1 r1 → length k < most → is_in void o.name ≡ false
      → point b1 (inner_name k) r1 ≡ start o.name o.attrs None n → Front n r1 → Level (suc (length k)) o.name h b r false (drop n r1) → Stack s (o ∷ k) h b r

grow : {s : List ℕ} {k : List Open} {h : Tree many} {b : Bool} {r : List ℕ} → Stack s k h b r → (h' : Tree many) (b' : Bool) (r' : List ℕ) (put : Tree many → Tree many) → ((t : Tree many) → append h (put t) ≡ append h' t)
    → ((t : Tree many) (c : Bool) (q : List ℕ) → Reads (length k) (inner_name k) t b' r' c q → Reads (length k) (inner_name k) (put t) b r c q) → Stack s k h' b' r'
grow {s} (outside h b r l) h' b' r' put e g = outside h' b' r' (λ t c q y. subst (λ u. Reads 0 [] u true s c q) (e t) (l (put t) c q (g t c q y)))
grow {s} (within k o h b b1 r r1 n x lt v i f l) h' b' r' put e g =
    within k o h' b' b1 r' r1 n x lt v i f (λ t c q y. subst (λ u. Reads (suc (length k)) o.name u false (drop n r1) c q) (e t) (l (put t) c q (g t c q y)))

-- an element ends
shut : {s : List ℕ} {k : List Open} {o : Open} {h : Tree many} {b : Bool} {r : List ℕ} → Stack s (o ∷ k) h b r → (j : ℕ) → point b o.name r ≡ end o.name None j → Front j r
    → Stack s k (snoc o.before (element o.name o.attrs h)) false (drop j r)
shut {s} (within k o h b b1 r r1 n x lt v i f l) j e' f' =
    grow x (snoc o.before (element o.name o.attrs h)) false (drop j r) (more (element o.name o.attrs h)) (λ t. sym (append_snoc o.before t (element o.name o.attrs h)))
    (λ t c q y. d.an_element (length k) (inner_name k) t h b1 c b r1 r q o.name o.attrs n j lt v i f
    (subst (λ u. Reads (suc (length k)) o.name u false (drop n r1) b r) (append_none h) (l none b r (nothing (suc (length k)) o.name b r))) e' f' y)

-- what an answer says of a text
abbrev pub Says : List ℕ → Answer → Type 0
Says s (trees t) = Spells t s
Says s (refused x p) = Refused x p s

abbrev stopped : (s : List ℕ) (k : List (List ℕ)) (b : Bool) (p : ℕ) (r : List ℕ) (x : Refusal) (q : ℕ) → GoesOn s k b p r → Stops k b p r x q → Refused x q s
stopped s k b p r x q g y = record { open_names = k; is_blank = b; place = p; left = r; front = g; stops = y }

all_read : (s : List ℕ) (p : ℕ) (b : Bool) (k : List Open) (h : Tree many) → GoesOn s (names_of k) b p [] → Stack s k h b [] → Says s (ended p k h)
all_read s p b [] h g (outside _ _ _ l) = (b, subst (λ u. Reads 0 [] u true s b []) (append_none h) (l none b [] (nothing 0 [] b [])))
all_read s p b (o ∷ k) h g x = stopped s (o.name ∷ names_of k) b p [] mismatch p g (f.left_open (names_of k) b p o.name)

few : (n m : ℕ) → nat_lt n m ≡ true → n < m
few n m h = grind (arith, nat_tests)

not_few : (n m : ℕ) → nat_lt n m ≡ false → m ≤ n
not_few n m h = grind (arith, nat_tests)

same_first : (u v : ℕ) (us vs : List ℕ) (b : Bool) → nat_eq u v ≡ b → (b && same_units us vs) ≡ true → (same_units us vs ≡ true → us ≡ vs) → (u ∷ us) ≡ (v ∷ vs)
same_first u v us vs true h e f = let i : u ≡ v = grind (arith, nat_tests) in ap (λ x. x ∷ us) i ∙ ap (λ (xs : List ℕ). v ∷ xs) (f e)
same_first u v us vs false h e f = absurd cc

pub same_is : (us vs : List ℕ) → same_units us vs ≡ true → us ≡ vs
same_is [] [] e = refl
same_is [] (v ∷ vs) e = absurd cc
same_is (u ∷ us) [] e = absurd cc
same_is (u ∷ us) (v ∷ vs) e = same_first u v us vs (nat_eq u v) refl e (same_is us vs)

-- what is read further on, of shorter texts
abbrev Later : List ℕ → ℕ → Type 0
Later s m = (p : ℕ) (b : Bool) (k : List Open) (h : Tree many) (r : List ℕ) → length r ≤ m → GoesOn s (names_of k) b p r → Stack s k h b r → Says s (read_from 0 p b k h r)

shorter : (n m : ℕ) (r : List ℕ) → length r ≤ suc m → Front n r → length (drop n r) ≤ m
shorter n m r le f = let d = length-drop n r in omega (arith, d, le, f.0, f.1)

name_at : (k : List Open) (b : Bool) (r : List ℕ) (x : Step) → point b (inner_name k) r ≡ x → point b (innermost (names_of k)) r ≡ x
name_at k b r x e = ap (λ n. point b n r) (same_inner k) ∙ e

at_text : (s : List ℕ) (m p : ℕ) (b : Bool) (k : List Open) (h : Tree many) (r us : List ℕ) (n : ℕ) → Later s m → length r ≤ suc m → GoesOn s (names_of k) b p r → Stack s k h b r
    → point b (inner_name k) r ≡ text us n → Front n r → Says s (read_from 0 p b k h r)
at_text s m p b k h r us n l le g x e fr =
    let b' = b && list_all is_space (take n r) in
    subst (Says s) (sym (read_text p b k h r us n e fr))
    (l (p + width (take n r)) b' k (snoc h (text_node us)) (drop n r) (shorter n m r le fr) (f.a_text (names_of k) b p r us n g (name_at k b r (text us n) e) fr)
    (grow x (snoc h (text_node us)) b' (drop n r) (more (text_node us)) (λ t. sym (append_snoc h t (text_node us))) (λ t c q y. d.a_text (length k) (inner_name k) t b c r q us n e fr y)))

at_skip : (s : List ℕ) (m p : ℕ) (b : Bool) (k : List Open) (h : Tree many) (r : List ℕ) (n : ℕ) → Later s m → length r ≤ suc m → GoesOn s (names_of k) b p r → Stack s k h b r
    → point b (inner_name k) r ≡ skip n → Front n r → Says s (read_from 0 p b k h r)
at_skip s m p b k h r n l le g x e fr =
    subst (Says s) (sym (read_skip p b k h r n e fr))
    (l (p + width (take n r)) false k h (drop n r) (shorter n m r le fr) (f.a_comment (names_of k) b p r n g (name_at k b r (skip n) e) fr)
    (grow x h false (drop n r) (λ t. t) (λ t. refl) (λ t c q y. d.a_comment (length k) (inner_name k) t b c r q n e fr y)))

-- going on behind a tag
abbrev next : ℕ → ℕ → List ℕ → List Open → Tree many → Answer
next p n r k h = read_from 0 (p + width (take n r)) false k h (drop n r)

abbrev opening : List ℕ → List Attr → Tree many → Open
opening a xs h = record { name = a; attrs = xs; before = h }

at_start : (s : List ℕ) (m p : ℕ) (b : Bool) (k : List Open) (h : Tree many) (r a : List ℕ) (xs : List Attr) (u : Option Fault) (n : ℕ) → Later s m → length r ≤ suc m → GoesOn s (names_of k) b p r → Stack s k h b r
    → point b (inner_name k) r ≡ start a xs u n → Front n r → Says s (read_from 0 p b k h r)
at_start s m p b k h r a xs u n l le g x e fr = subst (Says s) (sym (read_start p b k h r a xs u n e fr)) (by_depth (nat_lt (length k) most) refl)
  where
    by_void : (c : Bool) → is_in void a ≡ c → length k < most → u ≡ None → Says s (if c then next p n r k (snoc h (element a xs none)) else next p n r (opening a xs h ∷ k) none)
    by_void true v lt w =
        let i : point b (inner_name k) r ≡ start a xs None n = e ∙ ap (λ w. start a xs w n) w in
        l (p + width (take n r)) false k (snoc h (element a xs none)) (drop n r) (shorter n m r le fr)
        (f.an_empty (names_of k) b p r a xs n g (let z = length-names k in omega (arith, z, lt)) v (name_at k b r (start a xs None n) i) fr)
        (grow x (snoc h (element a xs none)) false (drop n r) (more (element a xs none)) (λ t. sym (append_snoc h t (element a xs none))) (λ t c q y. d.an_empty (length k) (inner_name k) t b c r q a xs n lt v i fr y))
    by_void false v lt w =
        let i : point b (inner_name k) r ≡ start a xs None n = e ∙ ap (λ w. start a xs w n) w in
        l (p + width (take n r)) false (opening a xs h ∷ k) none (drop n r) (shorter n m r le fr)
        (f.an_open (names_of k) b p r a xs n g (let z = length-names k in omega (arith, z, lt)) v (name_at k b r (start a xs None n) i) fr)
        (within k (opening a xs h) none false b (drop n r) r n x lt v i fr (λ t c q y. y))

    by_fault : (w : Option Fault) → u ≡ w → length k < most → Says s (faulty p r w (opened (next p n r) k h a xs))
    by_fault None w lt = by_void (is_in void a) refl lt w
    by_fault (Some y) w lt =
        stopped s (names_of k) b p r y.0 (p + width (take y.1 r)) g
        (f.a_fault (names_of k) b p r a xs y.0 y.1 n (let z = length-names k in omega (arith, z, lt)) (name_at k b r (start a xs (Some y) n) (e ∙ ap (λ w. start a xs w n) w)) fr)

    by_depth : (c : Bool) → nat_lt (length k) most ≡ c → Says s (if c then faulty p r u (opened (next p n r) k h a xs) else refused too_deep p)
    by_depth true lt = by_fault u refl (few (length k) most lt)
    by_depth false ge =
        stopped s (names_of k) b p r too_deep p g (f.one_too_many (names_of k) b p r a xs u n (let z = length-names k in let y = not_few (length k) most ge in omega (arith, z, y)) (name_at k b r (start a xs u n) e) fr)

at_end : (s : List ℕ) (m p : ℕ) (b : Bool) (k : List Open) (h : Tree many) (r a : List ℕ) (u : Option Fault) (n : ℕ) → Later s m → length r ≤ suc m → GoesOn s (names_of k) b p r → Stack s k h b r
    → point b (inner_name k) r ≡ end a u n → Front n r → Says s (closes (λ k h. read_from 0 (p + width (take n r)) false k h (drop n r)) p r k h a u)
at_end s m p b [] h r a u n l le g x e fr = stopped s [] b p r mismatch p g (f.nothing_ends b p r a u n e fr)
at_end s m p b (o ∷ k) h r a u n l le g x e fr = by_name (same_units o.name a) refl
  where
    by_fault : (w : Option Fault) → u ≡ w → o.name ≡ a → Says s (faulty p r w (read_from 0 (p + width (take n r)) false k (snoc o.before (element o.name o.attrs h)) (drop n r)))
    by_fault None w i =
        let e' : point b o.name r ≡ end o.name None n = e ∙ ap (λ w. end a w n) w ∙ ap (λ a. end a None n) (sym i) in
        l (p + width (take n r)) false k (snoc o.before (element o.name o.attrs h)) (drop n r) (shorter n m r le fr) (f.an_end (names_of k) b p r o.name n g e' fr) (shut x n e' fr)
    by_fault (Some y) w i =
        stopped s (o.name ∷ names_of k) b p r y.0 (p + width (take y.1 r)) g
        (f.a_fault_at_the_end (names_of k) b p r o.name y.0 y.1 n (e ∙ ap (λ w. end a w n) w ∙ ap (λ a. end a (Some y) n) (sym i)) fr)

    by_name : (c : Bool) → same_units o.name a ≡ c → Says s (if c then faulty p r u (read_from 0 (p + width (take n r)) false k (snoc o.before (element o.name o.attrs h)) (drop n r)) else refused mismatch p)
    by_name true i = by_fault u refl (same_is o.name a i)
    by_name false i = stopped s (o.name ∷ names_of k) b p r mismatch p g (f.another_ends (names_of k) b p r o.name a u n i e fr)

at_piece : (s : List ℕ) (m p : ℕ) (b : Bool) (k : List Open) (h : Tree many) (r : List ℕ) (x : Step) → Later s m → length r ≤ suc m → 0 < length r → GoesOn s (names_of k) b p r → Stack s k h b r
    → point b (inner_name k) r ≡ x → StepFits (length r) x → Says s (read_from 0 p b k h r)
at_piece s m p b k h r (text us n) l le lt g x e fr = at_text s m p b k h r us n l le g x e fr
at_piece s m p b k h r (skip n) l le lt g x e fr = at_skip s m p b k h r n l le g x e fr
at_piece s m p b k h r (start a xs u n) l le lt g x e fr = at_start s m p b k h r a xs u n l le g x e (fr.0, fr.1)
at_piece s m p b k h r (end a u n) l le lt g x e fr = subst (Says s) (sym (read_end p b k h r a u n e (fr.0, fr.1))) (at_end s m p b k h r a u n l le g x e (fr.0, fr.1))
at_piece s m p b k h r (refuse y n) l le lt g x e fr =
    subst (Says s) (sym (read_refuse p b k h r y n e lt)) (stopped s (names_of k) b p r y (p + width (take n r)) g (f.no_piece (names_of k) b p r y n lt (name_at k b r (refuse y n) e)))

from_here : (s : List ℕ) (m : ℕ) → Later s m
from_here s m p b k h [] le g x = subst (Says s) (sym (read_end_of_text p b k h)) (all_read s p b k h g x)
from_here s zero p b k h (c ∷ r) le g x = absurd (omega arith)
from_here s (suc m) p b k h (c ∷ r) le g x = at_piece s m p b k h (c ∷ r) (point b (inner_name k) (c ∷ r)) (from_here s m) le (omega arith) g x refl (point_fits b (inner_name k) (c ∷ r) (omega arith))

-- each answer says what is so of its text
pub says : (s : List ℕ) → Says s (read s)
says s = from_here s (length s) 0 true [] none s (omega arith) begins_here (outside none true s (λ t c q y. y))
