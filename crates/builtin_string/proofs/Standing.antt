-- Where a part stands in a text, and the pieces between.
use Rattle.std.proofs.Common.{◌≡◌, ◌≢◌, ℕ, zero, suc, ◌+◌, ◌-◌, ◌≤◌, ◌<◌, Bool, true, false, not, ◌&&◌, cond, List, [], ◌∷◌, ◌++◌, map, Option, Some, None, IfSome, length, take, drop, find, get_or, nat_eq, refl, sym, ap, subst, ◌∙◌, append_assoc, append-nil, add-one, arith}
use Rattle.std.specs.Prelude.{slice_get}
use Rattle.std.specs.List.{starts_with, range_with_len, slice_range}
use Rattle.std.specs.Option.{option_eq}
use Rattle.std.proofs.lemmas.List.{drop-drop, length-drop, map-append, take_more, take_rest}
use Rattle.std.proofs.lemmas.Option.{slice_get_within, slice_get-get_or, get_or_from_slice_get}
use Rattle.caja_units.specs.Units as units
use Rattle.caja_units.specs.Units.{stands_at}
use Rattle.caja_units.proofs.Places.{first_place-found}
use Rattle.es3_objects.specs.declared.value.Value.{Value}
use Rattle.es3_objects.specs.declared.value.Value.TheVariants as v
use Rattle.rows.specs.Texts.{begins_with, first_place, last_place, pieces, split_by}

-- the units behind the first one
behind : (us rest : List ℕ) (u i : ℕ) → drop i us ≡ u ∷ rest → drop (suc i) us ≡ rest
behind [] rest u zero e = cc
behind [] rest u (suc i) e = cc
behind (w ∷ us) rest u zero e = cc
behind (w ∷ us) rest u (suc i) e = behind us rest u i e

pub behind_first : (us rest : List ℕ) (u i : ℕ) → drop i us ≡ u ∷ rest → drop (i + 1) us ≡ rest
behind_first us rest u i e = rw add-one (behind us rest u i e)

-- to begin with a part

begins_starts : (t us : List ℕ) → starts_with nat_eq us t ≡ begins_with t us
begins_starts [] us = refl
begins_starts (c ∷ t) [] = refl
begins_starts (c ∷ t) (u ∷ us) = ap (λ b. nat_eq c u && b) (begins_starts t us)

begins_fits : (t us : List ℕ) → begins_with t us ≡ true → length t ≤ length us
begins_fits [] us e = omega arith
begins_fits (c ∷ t) [] e = cc
begins_fits (c ∷ t) (u ∷ us) e = fits (nat_eq c u) e (begins_fits t us)
  where
    fits : (b : Bool) → b && begins_with t us ≡ true → (begins_with t us ≡ true → length t ≤ length us) → suc (length t) ≤ suc (length us)
    fits true more rest = omega (arith, rest more)
    fits false more rest = cc

-- a part that is longer than the units doesn't begin them
pub begins_long : (t us : List ℕ) → length us < length t → begins_with t us ≡ false
begins_long t us long = by (begins_with t us) refl
  where
    by : (b : Bool) → begins_with t us ≡ b → begins_with t us ≡ false
    by true is = absurd (omega (arith, begins_fits t us is, long))
    by false is = is

-- the first place

first_from : (t us rest : List ℕ) (i : ℕ) → drop i us ≡ rest → first_place t i rest ≡ find (stands_at us t) (range_with_len i (suc (length rest)))
first_from t us [] i e = rw (e, begins_starts t []) refl
first_from t us (u ∷ rest) i e =
    rw (e, begins_starts t (u ∷ rest)) (ap (λ o. cond (begins_with t (u ∷ rest)) (Some i) o) (first_from t us rest (i + 1) (behind_first us rest u i e)))

pub first_is : (t us : List ℕ) (i : ℕ) → i ≤ length us → units.first_place us t i ≡ first_place t i (drop i us)
first_is t us i le =
    let count : length us + 1 - i ≡ suc (length (drop i us)) = omega (arith, length-drop i us) in
    rw count (sym (first_from t us (drop i us) i refl))

-- the last place

-- where the part stands nowhere behind a place, that place is the last if any is
pub last_at : (t us : List ℕ) (i : ℕ) (b : Bool) → begins_with t (drop i us) ≡ b → (i + 1 ≤ length us → last_place t (i + 1) (drop (i + 1) us) ≡ None) → i ≤ length us → last_place t i (drop i us) ≡ cond b (Some i) None
last_at t us i b is none le = last_by t us (drop i us) i b refl is none le
  where
    last_by : (t us rest : List ℕ) (i : ℕ) (b : Bool) → drop i us ≡ rest → begins_with t rest ≡ b → (i + 1 ≤ length us → last_place t (i + 1) (drop (i + 1) us) ≡ None) → i ≤ length us → last_place t i rest ≡ cond b (Some i) None
    last_by t us [] i b there is none le = rw is refl
    last_by t us (u ∷ rest) i b there is none le =
        let count : suc (length rest) ≡ length us - i = sym (ap length there) ∙ length-drop i us in
        let behind : last_place t (i + 1) rest ≡ None = ap (last_place t (i + 1)) (sym (behind_first us rest u i there)) ∙ none (omega (arith, count)) in
        rw (behind, is) refl

-- a place that is the last from some place on is the last of all
pub last_of_all : (t us : List ℕ) (i k : ℕ) → last_place t i (drop i us) ≡ Some k → i ≤ length us → last_place t 0 us ≡ Some k
last_of_all t us zero k e le = e
last_of_all t us (suc i) k e le = last_of_all t us i k (one_before (drop i us) refl) (omega arith)
  where
    one_before : (rest : List ℕ) → drop i us ≡ rest → last_place t i rest ≡ Some k
    one_before [] there = absurd (let count = sym (length-drop i us) ∙ ap length there in omega (arith, count))
    one_before (u ∷ rest) there =
        let later : last_place t (i + 1) rest ≡ Some k = rw add-one (ap (last_place t (suc i)) (sym (behind us rest u i there)) ∙ e) in
        rw later refl

-- the pieces between

pieces_skip : (s us now : List ℕ) (n : ℕ) → pieces s n now us ≡ pieces s 0 now (drop n us)
pieces_skip s [] now zero = refl
pieces_skip s [] now (suc n) = refl
pieces_skip s (u ∷ us) now zero = refl
pieces_skip s (u ∷ us) now (suc n) = pieces_skip s us now n

-- a piece, and what is left behind the occurrence that ends it
pub record Cut (s now us : List ℕ) (i k : ℕ) : Type 0 where
  pub count : ℕ
  pub place : k ≡ i + count
  pub fits : count + length s ≤ length us
  pub pieces : pieces s 0 now us ≡ (now ++ take count us) ∷ pieces s 0 [] (drop (count + length s) us)

at_once : (c : ℕ) (s now us : List ℕ) (u i : ℕ) → begins_with (c ∷ s) (u ∷ us) ≡ true → Cut (c ∷ s) now (u ∷ us) i i
at_once c s now us u i is =
    let less : suc (length s) - 1 ≡ length s = omega arith in
    let none : 0 + suc (length s) ≡ suc (length s) = omega arith in
    record {
      count = 0;
      place = omega arith;
      fits = omega (arith, begins_fits (c ∷ s) (u ∷ us) is);
      pieces = rw (is, less, none, append-nil now) (ap (λ ps. now ∷ ps) (pieces_skip (c ∷ s) us [] (length s)));
    }

later : (c : ℕ) (s now us : List ℕ) (u i k : ℕ) → begins_with (c ∷ s) (u ∷ us) ≡ false → Cut (c ∷ s) (now ++ u ∷ []) us (i + 1) k → Cut (c ∷ s) now (u ∷ us) i k
later c s now us u i k is cut =
    let more : suc cut.count + suc (length s) ≡ suc (cut.count + suc (length s)) = omega arith in
    record {
      count = suc cut.count;
      place = omega (arith, cut.place);
      fits = omega (arith, cut.fits);
      pieces = rw (is, more) (cut.pieces ∙ ap (λ p. p ∷ pieces (c ∷ s) 0 [] (drop (cut.count + suc (length s)) us)) (append_assoc now (u ∷ []) (take cut.count us)));
    }

pub cut_at : (s us now : List ℕ) (i k : ℕ) → s ≢ [] → first_place s i us ≡ Some k → Cut s now us i k
cut_at [] us now i k some e = absurd (some refl)
cut_at (c ∷ s) [] now i k some e = cc
cut_at (c ∷ s) (u ∷ us) now i k some e = by (begins_with (c ∷ s) (u ∷ us)) refl e (cut_at (c ∷ s) us (now ++ u ∷ []) (i + 1) k some)
  where
    by : (b : Bool) → begins_with (c ∷ s) (u ∷ us) ≡ b → cond b (Some i) (first_place (c ∷ s) (i + 1) us) ≡ Some k → (first_place (c ∷ s) (i + 1) us ≡ Some k → Cut (c ∷ s) (now ++ u ∷ []) us (i + 1) k) → Cut (c ∷ s) now (u ∷ us) i k
    by true is found rest = let same : i ≡ k = cc in subst (Cut (c ∷ s) now (u ∷ us) i) same (at_once c s now us u i is)
    by false is found rest = later c s now us u i k is (rest found)

pub uncut : (s us now : List ℕ) (i : ℕ) → s ≢ [] → first_place s i us ≡ None → pieces s 0 now us ≡ (now ++ us) ∷ []
uncut s [] now i some e = ap (λ p. p ∷ []) (sym (append-nil now))
uncut s (u ∷ us) now i some e = by (begins_with s (u ∷ us)) refl e (uncut s us (now ++ u ∷ []) (i + 1) some)
  where
    by : (b : Bool) → begins_with s (u ∷ us) ≡ b → cond b (Some i) (first_place s (i + 1) us) ≡ None → (first_place s (i + 1) us ≡ None → pieces s 0 (now ++ u ∷ []) us ≡ ((now ++ u ∷ []) ++ us) ∷ []) → pieces s 0 now (u ∷ us) ≡ (now ++ u ∷ us) ∷ []
    by true is none rest = cc
    by false is none rest = rw is (rest none ∙ ap (λ p. p ∷ []) (append_assoc now (u ∷ []) us))

-- a unit more of a part

opens : (xs : List ℕ) (x i : ℕ) → slice_get xs i ≡ Some x → drop i xs ≡ x ∷ drop (suc i) xs
opens [] x zero e = cc
opens [] x (suc i) e = cc
opens (y ∷ ys) x zero e = cc
opens (y ∷ ys) x (suc i) e = opens ys x i e

ends : (xs : List ℕ) (i : ℕ) → slice_get xs i ≡ None → drop i xs ≡ []
ends [] zero e = refl
ends [] (suc i) e = refl
ends (y ∷ ys) zero e = cc
ends (y ∷ ys) (suc i) e = ends ys i e

pub begins_by : (t us : List ℕ) (i p : ℕ) → i < length t → begins_with (drop i t) (drop p us) ≡ option_eq nat_eq (slice_get t i) (slice_get us p) && begins_with (drop (i + 1) t) (drop (p + 1) us)
begins_by t us i p lt = rw (slice_get-get_or t i 0 lt) (by (slice_get us p) refl)
  where
    here : drop i t ≡ get_or t i 0 ∷ drop (suc i) t
    here = opens t (get_or t i 0) i (slice_get-get_or t i 0 lt)

    by : (o : Option ℕ) → slice_get us p ≡ o → begins_with (drop i t) (drop p us) ≡ option_eq nat_eq (Some (get_or t i 0)) o && begins_with (drop (i + 1) t) (drop (p + 1) us)
    by None none = rw (here, ends us p none) refl
    by (Some u) some = rw (add-one i, add-one p, here, opens us u p some) refl

differ : (q r : Bool) → true ≡ not q → (q && r) ≡ false
differ true r e = cc
differ false r e = refl

agree : (q r : Bool) → false ≡ not q → (q && r) ≡ r
agree true r e = refl
agree false r e = cc

-- two units were compared
pub begins_at_test : (t us : List ℕ) (i p : ℕ) (a b : Option ℕ) (whole : Bool) → i < length t → a ≡ slice_get t i → b ≡ slice_get us p → true ≡ not (option_eq nat_eq a b) → whole ≡ begins_with (drop i t) (drop p us) → false ≡ whole
begins_at_test t us i p a b whole lt one other is all =
    sym (all ∙ begins_by t us i p lt ∙ differ _ (begins_with (drop (i + 1) t) (drop (p + 1) us)) (subst (λ o. true ≡ not (option_eq nat_eq (slice_get t i) o)) other (subst (λ o. true ≡ not (option_eq nat_eq o b)) one is)))

pub begins_at_rest : (t us : List ℕ) (place i : ℕ) (a b : Option ℕ) (whole : Bool) → i < length t → a ≡ slice_get t i → b ≡ slice_get us (place + i) → false ≡ not (option_eq nat_eq a b) → whole ≡ begins_with (drop i t) (drop (place + i) us)
    → whole ≡ begins_with (drop (i + 1) t) (drop (place + (i + 1)) us)
begins_at_rest t us place i a b whole lt one other is all =
    let next : place + i + 1 ≡ place + (i + 1) = omega arith in
    all ∙ begins_by t us i (place + i) lt ∙ agree _ (begins_with (drop (i + 1) t) (drop (place + i + 1) us)) (subst (λ o. false ≡ not (option_eq nat_eq (slice_get t i) o)) other (subst (λ o. false ≡ not (option_eq nat_eq o b)) one is))
    ∙ ap (λ n. begins_with (drop (i + 1) t) (drop n us)) next

-- a place more from the right
pub last_step : (t us : List ℕ) (p : ℕ) (b : Bool) → 0 < p → p ≤ length us + 1 → begins_with t (drop (p - 1) us) ≡ b → (p ≤ length us → last_place t p (drop p us) ≡ None) → last_place t (p - 1) (drop (p - 1) us) ≡ cond b (Some (p - 1)) None
last_step t us p b some le is none =
    let e : p ≡ p - 1 + 1 = omega arith in
    last_at t us (p - 1) b is (subst (λ q. q ≤ length us → last_place t q (drop q us) ≡ None) e none) (omega arith)

pub last_found : (t us : List ℕ) (p : ℕ) → 0 < p → p ≤ length us + 1 → begins_with t (drop (p - 1) us) ≡ true → (p ≤ length us → last_place t p (drop p us) ≡ None) → last_place t 0 us ≡ Some (p - 1)
last_found t us p some le is none = last_of_all t us (p - 1) (p - 1) (last_step t us p true some le is none) (omega arith)

-- the places of a text are bounded
pub within_text : (us t : List ℕ) (i most : ℕ) (o : Option ℕ) → o ≡ units.first_place us t i → length us ≤ most → IfSome o (λ k. k ≤ most)
within_text us t i most None e le = tt
within_text us t i most (Some k) e le = omega (arith, (first_place-found us t i k (sym e)).1, le)

-- the next piece and the last one

some_length : (s : List ℕ) → s ≢ [] → 0 < length s
some_length [] some = absurd (some refl)
some_length (c ∷ s) some = omega arith

pub record Piece (s us : List ℕ) (from k : ℕ) : Type 0 where
  pub order : from ≤ k
  pub within : k + length s ≤ length us
  pub some : 0 < length s
  pub piece : pieces s 0 [] (drop from us) ≡ slice_range us from k ∷ pieces s 0 [] (drop (k + length s) us)

pub next_piece : (s us : List ℕ) (from k : ℕ) → s ≢ [] → from ≤ length us → units.first_place us s from ≡ Some k → Piece s us from k
next_piece s us from k some le e =
    let cut = cut_at s (drop from us) [] from k some (sym (first_is s us from le) ∙ e) in
    let count : k - from ≡ cut.count = omega (arith, cut.place) in
    let past : from + (cut.count + length s) ≡ k + length s = omega (arith, cut.place) in
    let on : drop (cut.count + length s) (drop from us) ≡ drop (k + length s) us = drop-drop _ _ us ∙ ap (λ n. drop n us) past in
    record {
      order = omega (arith, cut.place);
      within = omega (arith, cut.place, cut.fits, length-drop from us);
      some = some_length s some;
      piece = rw count (cut.pieces ∙ ap (λ l. take cut.count (drop from us) ∷ pieces s 0 [] l) on);
    }

pub last_piece : (s us : List ℕ) (from : ℕ) → s ≢ [] → from ≤ length us → units.first_place us s from ≡ None → pieces s 0 [] (drop from us) ≡ slice_range us from (length us) ∷ []
last_piece s us from some le e = uncut s (drop from us) [] from some (sym (first_is s us from le) ∙ e) ∙ ap (λ p. p ∷ []) (sym (take_rest us from))

-- a piece more

pub pieces_more : (before after : List Value) (pushed piece : List ℕ) (rest here : List (List ℕ)) (all : List Value) → before ++ map v.Text here ≡ all → here ≡ piece ∷ rest → after ≡ before ++ v.Text pushed ∷ [] → pushed ≡ piece → after ++ map v.Text rest ≡ all
pieces_more before after pushed piece rest here all is more behind same = rw (behind, same, append_assoc) (ap (λ l. before ++ map v.Text l) (sym more) ∙ is)

pub pieces_end : (before after : List Value) (pushed piece : List ℕ) (here : List (List ℕ)) (all : List Value) → before ++ map v.Text here ≡ all → here ≡ piece ∷ [] → after ≡ before ++ v.Text pushed ∷ [] → pushed ≡ piece → after ≡ all
pieces_end before after pushed piece here all is more behind same = sym (append-nil after) ∙ pieces_more before after pushed piece [] here all is more behind same

pub split_some : (s us : List ℕ) → s ≢ [] → pieces s 0 [] us ≡ split_by s us
split_some [] us some = absurd (some refl)
split_some (c ∷ s) us some = refl

pub unit_more : (us : List ℕ) (i u : ℕ) (before after : List Value) → before ≡ map v.Text (map (λ u. u ∷ []) (take i us)) → slice_get us i ≡ Some u → after ≡ before ++ v.Text (u ∷ []) ∷ [] → after ≡ map v.Text (map (λ u. u ∷ []) (take (i + 1) us))
unit_more us i u before after is there pushed =
    let e : take (i + 1) us ≡ take i us ++ u ∷ [] = take_more us i 0 (slice_get_within us i u there) ∙ ap (λ c. take i us ++ c ∷ []) (get_or_from_slice_get us i u 0 there) in
    rw (pushed, is, e, map-append (λ u. u ∷ []) (take i us) (u ∷ []), map-append v.Text (map (λ u. u ∷ []) (take i us)) ((u ∷ []) ∷ [])) refl
