-- What each piece does where a text is read.
use Rattle.std.proofs.Common.{◌≡◌, ℕ, zero, suc, ◌+◌, ◌-◌, ◌<◌, ◌≤◌, Bool, true, false, ◌&&◌, List, [], ◌∷◌, Option, refl, sym, ap, ◌∙◌, arith, nat_eq, nat_lt, length, take, drop}
use Rattle.std.specs.Prelude.{if◌then◌else◌}
use Rattle.std.specs.List.{list_all}
use Rattle.std.specs.Char.{len_utf8}
use Rattle.std.proofs.lemmas.List.Sums.{sum_by-cons}
use Rattle.std.proofs.lemmas.Bool.Decides.{nat_tests}
use Rattle.caja_units.specs.Units.{same_units}
use Rattle.html_grammar.specs.Characters.{is_space}
use Rattle.html_grammar.specs.Tables.{is_in, void}
use Rattle.html_grammar.specs.Tags.{Attr, Fault, Refusal}
use Rattle.html_grammar.specs.Point.{Step, text, skip, start, end, refuse, point}
use Rattle.html_grammar.specs.Trees.{append, Tree, many, one, text_node, element, none, more, snoc, most}
use Rattle.html_grammar.specs.Reading.{Open, refused, goes, opened, closes, faulty, ended, inner_name, read_from}
use Rattle.html_grammar.specs.Tags.{too_deep, mismatch}
use Rattle.html_grammar.specs.Document.{Front}
use Rattle.html_grammar.specs.Refusals.{width}

pub append_none : (h : Tree many) → append h none ≡ h
append_none none = refl
append_none (more x h) = ap (more x) (append_none h)

pub append_snoc : (h t : Tree many) (x : Tree one) → append (snoc h x) t ≡ append h (more x t)
append_snoc none t x = refl
append_snoc (more y h) t x = ap (more y) (append_snoc h t x)

wider : (p c : ℕ) (s : List ℕ) → p + len_utf8 c + width s ≡ p + width (c ∷ s)
wider p c s = omega (arith, sum_by-cons len_utf8 c s)

-- so many characters are passed
pub read_pass : (n p : ℕ) (b : Bool) (k : List Open) (h : Tree many) (s : List ℕ) → n ≤ length s → read_from n p b k h s ≡ read_from 0 (p + width (take n s)) b k h (drop n s)
unfolding read_from
read_pass zero p b k h s le = ap (λ q. read_from 0 q b k h s) (let z : p ≡ p + 0 = omega arith in z)
read_pass (suc n) p b k h [] le = absurd (omega arith)
read_pass (suc n) p b k h (c ∷ s) le = read_pass n (p + len_utf8 c) b k h s (omega arith) ∙ ap (λ q. read_from 0 q b k h (drop n s)) (wider p c (take n s))

pub same_self : (s : List ℕ) → same_units s s ≡ true
same_self [] = refl
same_self (c ∷ s) = let e : nat_eq c c ≡ true = grind (arith, nat_tests) in ap (λ b. b && same_units s s) e ∙ same_self s

-- a step, and what follows it
stepped : (p : ℕ) (b : Bool) (k : List Open) (h : Tree many) (s : List ℕ) (x : Step) → 0 < length s → point b (inner_name k) s ≡ x
    → (c : ℕ) × (r : List ℕ) × (s ≡ c ∷ r) × (read_from 0 p b k h s ≡ goes (λ n b k h. read_from n (p + len_utf8 c) b k h r) p b k h s x)
unfolding read_from
stepped p b k h [] x lt e = absurd (omega arith)
stepped p b k h (c ∷ r) x lt e = (c, r, refl, ap (goes (λ n b k h. read_from n (p + len_utf8 c) b k h r) p b k h (c ∷ r)) e)

-- what follows a step of so many characters
passed : (c p n : ℕ) (b : Bool) (k : List Open) (h : Tree many) (r s : List ℕ) → s ≡ c ∷ r → Front n s → read_from (n - 1) (p + len_utf8 c) b k h r ≡ read_from 0 (p + width (take n s)) b k h (drop n s)
passed c p n b k h r s e f =
    let le : n - 1 ≤ length r = omega (arith, ap length e, f.0, f.1) in
    let i : n ≡ suc (n - 1) = omega (arith, f.0) in
    let w : p + len_utf8 c + width (take (n - 1) r) ≡ p + width (take n s) =
    wider p c (take (n - 1) r) ∙ ap (λ q. p + q) (ap (λ j. width (take j (c ∷ r))) (sym i) ∙ ap (λ (t : List ℕ). width (take n t)) (sym e)) in
    read_pass (n - 1) (p + len_utf8 c) b k h r le ∙ ap (λ q. read_from 0 q b k h (drop (n - 1) r)) w ∙ ap (read_from 0 (p + width (take n s)) b k h) (sym (ap (drop n) e ∙ ap (λ j. drop j (c ∷ r)) i))

pub read_text : (p : ℕ) (b : Bool) (k : List Open) (h : Tree many) (s us : List ℕ) (n : ℕ) → point b (inner_name k) s ≡ text us n → Front n s
    → read_from 0 p b k h s ≡ read_from 0 (p + width (take n s)) (b && list_all is_space (take n s)) k (snoc h (text_node us)) (drop n s)
read_text p b k h s us n e f =
    let x = stepped p b k h s (text us n) (omega (arith, f.0, f.1)) e in
    x.3 ∙ passed x.0 p n (b && list_all is_space (take n s)) k (snoc h (text_node us)) x.1 s x.2 f

pub read_skip : (p : ℕ) (b : Bool) (k : List Open) (h : Tree many) (s : List ℕ) (n : ℕ) → point b (inner_name k) s ≡ skip n → Front n s
    → read_from 0 p b k h s ≡ read_from 0 (p + width (take n s)) false k h (drop n s)
read_skip p b k h s n e f =
    let x = stepped p b k h s (skip n) (omega (arith, f.0, f.1)) e in
    x.3 ∙ passed x.0 p n false k h x.1 s x.2 f

-- what a tag that begins an element does
pub read_start : (p : ℕ) (b : Bool) (k : List Open) (h : Tree many) (s m : List ℕ) (xs : List Attr) (x : Option Fault) (n : ℕ) → point b (inner_name k) s ≡ start m xs x n → Front n s
    → read_from 0 p b k h s ≡ (if nat_lt (length k) most then faulty p s x (opened (λ k h. read_from 0 (p + width (take n s)) false k h (drop n s)) k h m xs) else refused too_deep p)
read_start p b k h s m xs x n e f =
    let y = stepped p b k h s (start m xs x n) (omega (arith, f.0, f.1)) e in
    let o : Open = record { name = m; attrs = xs; before = h } in
    y.3 ∙ ap (λ a. if nat_lt (length k) most then faulty p s x a else refused too_deep p)
    (by_void (is_in void m) (passed y.0 p n false k (snoc h (element m xs none)) y.1 s y.2 f) (passed y.0 p n false (o ∷ k) none y.1 s y.2 f))
  where
    by_void : {A : Type 0} {a a' c c' : A} (b : Bool) → a ≡ a' → c ≡ c' → (if b then a else c) ≡ (if b then a' else c')
    by_void true e f = e
    by_void false e f = f

-- and one that ends an element
pub read_end : (p : ℕ) (b : Bool) (k : List Open) (h : Tree many) (s m : List ℕ) (x : Option Fault) (n : ℕ) → point b (inner_name k) s ≡ end m x n → Front n s
    → read_from 0 p b k h s ≡ closes (λ k h. read_from 0 (p + width (take n s)) false k h (drop n s)) p s k h m x
read_end p b [] h s m x n e f = let y = stepped p b [] h s (end m x n) (omega (arith, f.0, f.1)) e in y.3
read_end p b (o ∷ k) h s m x n e f =
    let y = stepped p b (o ∷ k) h s (end m x n) (omega (arith, f.0, f.1)) e in
    y.3 ∙ ap (λ a. if same_units o.name m then faulty p s x a else refused mismatch p) (passed y.0 p n false k (snoc o.before (element o.name o.attrs h)) y.1 s y.2 f)

pub read_refuse : (p : ℕ) (b : Bool) (k : List Open) (h : Tree many) (s : List ℕ) (r : Refusal) (n : ℕ) → point b (inner_name k) s ≡ refuse r n → 0 < length s → read_from 0 p b k h s ≡ refused r (p + width (take n s))
read_refuse p b k h s r n e lt = let y = stepped p b k h s (refuse r n) lt e in y.3

pub read_end_of_text : (p : ℕ) (b : Bool) (k : List Open) (h : Tree many) → read_from 0 p b k h [] ≡ ended p k h
unfolding read_from
read_end_of_text p b k h = refl
