-- What is read is valid.
use Rattle.std.proofs.Common.{◌≡◌, ℕ, zero, suc, ◌+◌, ◌<◌, ◌≤◌, Bool, true, false, true≢false, List, [], ◌∷◌, length, map, Option, Some, None, cond, Result, Ok, Err, refl, sym, ap, subst, ◌∙◌, arith}
use Rattle.std.specs.Prelude.{nat_lt, if◌then◌else◌, slice_get, All, IfOk, IsTrue, is_some, codes}
use Rattle.std.specs.List.{position_from}
use Rattle.std.specs.Result.{result_ok, is_ok}
use Rattle.std.specs.Option.{unwrap_or}
use Rattle.std.proofs.lemmas.Bool.{ltb-true, ltb-false}
use Rattle.std.proofs.lemmas.List.Elements.{All-cons, All-nil, All-head, All-tail, All-map}
use Rattle.std.proofs.lemmas.List.{length-map}
use Rattle.serde_json.specs.Data.{Data}
use Rattle.serde_json.specs.Find.{get}
use Rattle.caja_units.specs.Units.{same_units}
use Rattle.es3_tokens.specs.Tokens.{place_in}
use Rattle.event_script.specs.Events.{Asked}
use Rattle.page_manifest.specs.Faults.{Found, Fault, chain}
use Rattle.page_manifest.specs.Walk.{traverse, need, there, may, read_or, object, entries, at_most, each, all}
use Rattle.manifest_names.specs.Names.{is_name, is_grant_name}
use Rattle.url_rule.specs.Table.{Row}
use Rattle.page_manifest.specs.Page.{Style, Granted, the_result, the_plain, the_root, Module, Page}
use Rattle.page_manifest.specs.Named.{Wish, for_root, for_cell, for_module, for_plain, Told, Plan, for_call, for_click, for_input, for_tick, Manifest}
use Rattle.page_manifest.specs.Manifest as read
use Rattle.page_manifest.specs.Bound as spec
use Rattle.page_manifest.specs.Read.{json, page_of}
use Rattle.page_manifest.specs.Answers.{Answers}
use Rattle.page_manifest.specs.View.{page}
use Rattle.page_manifest.specs.declared.Page.{Page as Made}
use Rattle.page_manifest.specs.declared.PageError.{PageError}
use Rattle.page_manifest.specs.Valid.{IsGranted, AreOnce, IsModule, IsAsked, IsValid}

abbrev pub given : {A : Type 0} → A → Found A
given a = Ok a

pub ok_is : {A : Type 0} (a b : A) → given a ≡ given b → a ≡ b
ok_is a b e = ap (λ r. unwrap_or (result_ok r) a) e

pub no_ok : {A P : Type 0} (f : Fault) (b : A) → Err f ≡ Ok b → P
no_ok f b e = absurd (true≢false (sym (ap is_ok e)))

-- what a chain found, each of its steps found
pub record Steps {A B : Type 0} (x : Found A) (next : A → Found B) (b : B) : Type 0 where
  pub first : A
  pub found : x ≡ Ok first
  pub after : next first ≡ Ok b

pub steps : {A B : Type 0} (x : Found A) (next : A → Found B) (b : B) → chain x next ≡ Ok b → Steps x next b
steps (Ok a) next b e = record { first = a; found = refl; after = e }
steps (Err f) next b e = no_ok f b e

pub passed : {A : Type 0} (t : Bool) (a c : A) (f : Fault) → (if t then Ok a else Err f) ≡ Ok c → (t ≡ true) × (a ≡ c)
passed true a c f e = (refl, ok_is a c e)
passed false a c f e = no_ok f c e

pub not_passed : {A : Type 0} (t : Bool) (a c : A) (f : Fault) → (if t then Err f else Ok a) ≡ Ok c → (t ≡ false) × (a ≡ c)
not_passed true a c f e = no_ok f c e
not_passed false a c f e = (refl, ok_is a c e)

module _ {A B : Type 0} (read : ℕ → A → Found B) where
  -- each entry was read, at its index
  pub data Reads : ℕ → List A → List B → Type 0 where
    none : (i : ℕ) → Reads i [] []
    one : (i : ℕ) (a : A) (rest : List A) (b : B) (bs : List B) → read i a ≡ Ok b → Reads (i + 1) rest bs → Reads i (a ∷ rest) (b ∷ bs)

  pub reads : (i : ℕ) (xs : List A) (bs : List B) → traverse read i xs ≡ Ok bs → Reads i xs bs
  reads i [] bs e = subst (λ l. Reads i [] l) (ok_is [] bs e) (none i)
  reads i (a ∷ rest) bs e =
      let s = steps (read i a) (λ b. chain (traverse read (i + 1) rest) (λ bs. Ok (b ∷ bs))) bs e in
      let t = steps (traverse read (i + 1) rest) (λ bs. Ok (s.first ∷ bs)) bs s.after in
      subst (λ l. Reads i (a ∷ rest) l) (ok_is (s.first ∷ t.first) bs t.after) (one i a rest s.first t.first s.found (reads (i + 1) rest t.first t.found))

  pub all_read : (P : B → Type 0) → ((n : ℕ) (a : A) (b : B) → read n a ≡ Ok b → P b) → (i : ℕ) (xs : List A) (bs : List B) → Reads i xs bs → All P bs
  all_read P p i xs bs (none _) = All-nil P
  all_read P p i xs bs (one _ a rest b more e r) = All-cons P b more (p i a b e) (all_read P p (i + 1) rest more r)

  -- the same of entries of which something is known
  pub all_under : (Q : A → Type 0) (P : B → Type 0) → ((n : ℕ) (a : A) (b : B) → Q a → read n a ≡ Ok b → P b) → (i : ℕ) (xs : List A) (bs : List B) → All Q xs → Reads i xs bs → All P bs
  all_under Q P p i xs bs qs (none _) = All-nil P
  all_under Q P p i xs bs qs (one _ a rest b more e r) = All-cons P b more (p i a b (All-head Q a rest qs) e) (all_under Q P p (i + 1) rest more (All-tail Q a rest qs) r)

  pub count : (i : ℕ) (xs : List A) (bs : List B) → Reads i xs bs → length bs ≡ length xs
  count i xs bs (none _) = refl
  count i xs bs (one _ a rest b more e r) = ap suc (count (i + 1) rest more r)

  same : {C : Type 0} (g : A → C) (h : B → C) → ((n : ℕ) (a : A) (b : B) → read n a ≡ Ok b → h b ≡ g a) → (i : ℕ) (xs : List A) (bs : List B) → Reads i xs bs → map h bs ≡ map g xs
  same g h p i xs bs (none _) = refl
  same g h p i xs bs (one _ a rest b more e r) = ap (λ c. c ∷ map h more) (p i a b e) ∙ ap (λ l. g a ∷ l) (same g h p (i + 1) rest more r)

  inputs : (Q : A → Type 0) → ((n : ℕ) (a : A) (b : B) → read n a ≡ Ok b → Q a) → (i : ℕ) (xs : List A) (bs : List B) → Reads i xs bs → All Q xs
  inputs Q q i xs bs (none _) = All-nil Q
  inputs Q q i xs bs (one _ a rest b more e r) = All-cons Q a rest (q i a b e) (inputs Q q (i + 1) rest more r)

  at : (Q R : A → Type 0) (P : ℕ → B → Type 0) → ((n : ℕ) (a : A) (b : B) → Q a → R a → read n a ≡ Ok b → P n b) → (i : ℕ) (xs : List A) (bs : List B) → Reads i xs bs → All Q xs → All R xs → (k : ℕ) (c : B) → slice_get bs k ≡ Some c → P (i + k) c
  at Q R P p i xs bs (none _) qs rs k c is = absurd (true≢false (sym (ap is_some is)))
  at Q R P p i xs bs (one _ a rest b more e r) qs rs zero c is = subst (λ n. P n c) (omega arith) (subst (λ x. P i x) (ap (λ o. unwrap_or o b) is) (p i a b (All-head Q a rest qs) (All-head R a rest rs) e))
  at Q R P p i xs bs (one _ a rest b more e r) qs rs (suc k) c is = subst (λ n. P n c) (omega arith) (at Q R P p (i + 1) rest more r (All-tail Q a rest qs) (All-tail R a rest rs) k c is)

-- ---- the walk

pub need_is : {A : Type 0} (read : ℕ → Data → Found A) (key : List ℕ) (i : ℕ) (d : Data) (a : A) → need read key i d ≡ Ok a → Steps (there i (get key d)) (read i) a
need_is read key i d a e = steps (there i (get key d)) (read i) a e

pub may_is : {A : Type 0} (P : A → Type 0) (absent : A) (r : Data → Found A) (o : Option Data) (a : A) → P absent → ((d : Data) → o ≡ Some d → r d ≡ Ok a → P a) → read_or absent r o ≡ Ok a → P a
may_is P absent r None a p q e = subst P (ok_is absent a e) p
may_is P absent r (Some d) a p q e = q d refl e

few : (most i : ℕ) (d : Data) (ds : List Data) → at_most most i d ≡ Ok ds → length ds ≤ most
few most i d ds e =
    let s = steps (entries i d) (λ ds. if nat_lt most (length ds) then Err _ else Ok ds) ds e in
    let p = not_passed (nat_lt most (length s.first)) s.first ds _ s.after in
    subst (λ l. length l ≤ most) p.1 (ltb-false most (length s.first) p.0)

-- a list of at most so many, each of which was read
record Listed {A : Type 0} (P : A → Type 0) (most : ℕ) (xs : List A) : Type 0 where
  pub few : length xs ≤ most
  pub each : All P xs

listed : {A : Type 0} (P : A → Type 0) (most i : ℕ) (r : ℕ → Data → Found A) → ((n : ℕ) (d : Data) (a : A) → r n d ≡ Ok a → P a) → (d : Data) (xs : List A) → chain (at_most most i d) (traverse r 0) ≡ Ok xs → Listed P most xs
listed P most i r p d xs e =
    let s = steps (at_most most i d) (traverse r 0) xs e in
    let q = reads r 0 s.first xs s.after in
    record {
      few = subst (λ n. n ≤ most) (sym (count r 0 s.first xs q)) (few most i d s.first s.found);
      each = all_read r P p 0 s.first xs q;
    }

nothing : {A : Type 0} (P : A → Type 0) (most : ℕ) → Listed P most []
nothing P most = record { few = omega arith; each = All-nil P }

spelled : (is_right : List ℕ → Bool) (i : ℕ) (d : Data) (s : List ℕ) → read.spelled is_right i d ≡ Ok s → IsTrue (is_right s)
spelled is_right i d s e =
    let t = steps (read.text i d) (λ s. if is_right s then Ok s else Err _) s e in
    let p = passed (is_right t.first) t.first s _ t.after in
    subst (λ s. IsTrue (is_right s)) p.1 p.0

abbrev IsNamed : List ℕ → Type 0
IsNamed s = IsTrue (is_name s)

abbrev IsWish : List ℕ × Wish → Type 0
IsWish w = IsTrue (is_grant_name w.0)

record IsTold (t : Told) : Type 0 where
  pub named : IsNamed t.name
  pub wishes : Listed IsWish 64 t.wishes

record IsManifest (m : Manifest) : Type 0 where
  pub styles : length m.styles ≤ 64
  pub cells : Listed IsNamed 64 m.cells
  pub modules : Listed IsTold 64 m.modules
  pub events : Listed (λ _. Unit {0}) 10000 m.events

wish_is : (i : ℕ) (d : Data) (w : List ℕ × Wish) → read.grant i d ≡ Ok w → IsWish w
wish_is i d w e =
    let s = steps (object read.grant_forms i d) _ w e in
    let t = steps (need read.grant_name (codes "name") i d) _ w s.after in
    let n = need_is read.grant_name (codes "name") i d t.first t.found in
    let u = steps (read.wish i d) _ w t.after in
    subst IsWish (ok_is (t.first, u.first) w u.after) (spelled is_grant_name i n.first t.first n.after)

told_is : (runs : Bool) (i : ℕ) (d : Data) (t : Told) → read.told runs i d ≡ Ok t → IsTold t
told_is runs i d t e =
    let s = steps (object read.module_forms i d) _ t e in
    let n = steps (need read.name (codes "name") i d) _ t s.after in
    let l = steps (need (read.language runs) (codes "language") i d) _ t n.after in
    let b = steps (need read.text (codes "source") i d) _ t l.after in
    let w = steps (may [] (all 64 read.grant) (codes "grants") i d) _ t b.after in
    let name = need_is read.name (codes "name") i d n.first n.found in
    subst IsTold (ok_is _ t w.after) (record {
      named = spelled is_name i name.first n.first name.after;
      wishes = may_is (Listed IsWish 64) [] (all 64 read.grant i) (get (codes "grants") d) w.first (nothing IsWish 64) (λ v _. listed IsWish 64 i (λ _. read.grant i) (λ _. wish_is i) v w.first) w.found;
    })

manifest_is : (runs : Bool) (d : Data) (m : Manifest) → read.manifest runs d ≡ Ok m → IsManifest m
manifest_is runs d m e =
    let s = steps (object read.page_forms 0 d) _ m e in
    let v = steps (need read.version (codes "version") 0 d) _ m s.after in
    let h = steps (may [] read.text (codes "html") 0 d) _ m v.after in
    let u = steps (may None read.base (codes "base") 0 d) _ m h.after in
    let y = steps (may [] (each 64 read.style) (codes "styles") 0 d) _ m u.after in
    let c = steps (may [] (each 64 read.name) (codes "cells") 0 d) _ m y.after in
    let t = steps (need (each 64 (read.told runs)) (codes "modules") 0 d) _ m c.after in
    let a = steps (may [] (each 10000 read.event) (codes "events") 0 d) _ m t.after in
    let mods = need_is (each 64 (read.told runs)) (codes "modules") 0 d t.first t.found in
    subst IsManifest (ok_is _ m a.after) (record {
      styles = may_is (λ ss. length ss ≤ 64) [] (each 64 read.style 0) (get (codes "styles") d) y.first (omega arith) (λ x _ e. (listed (λ (_ : Style). Unit {0}) 64 0 read.style (λ _ _ _ _. tt) x y.first e).few) y.found;
      cells = may_is (Listed IsNamed 64) [] (each 64 read.name 0) (get (codes "cells") d) c.first (nothing IsNamed 64) (λ x _. listed IsNamed 64 0 read.name (spelled is_name) x c.first) c.found;
      modules = listed IsTold 64 0 (read.told runs) (told_is runs) mods.first t.first mods.after;
      events = may_is (Listed (λ _. Unit {0}) 10000) [] (each 10000 read.event 0) (get (codes "events") d) a.first (nothing (λ _. Unit {0}) 10000) (λ x _. listed (λ _. Unit {0}) 10000 0 read.event (λ _ _ _ _. tt) x a.first) a.found;
    })

-- ---- what names stand for

here_or_behind : (t : Bool) (i k n : ℕ) (o : Option ℕ) → (o ≡ Some k → k < i + 1 + n) → cond t (Some i) o ≡ Some k → k < i + suc n
here_or_behind true i k n o q e = let same : i ≡ k = ap (λ o. unwrap_or o i) e in omega (arith, same)
here_or_behind false i k n o q e = let h = q e in omega (arith, h)

within : (p : List ℕ → Bool) (i : ℕ) (xs : List (List ℕ)) (k : ℕ) → position_from p i xs ≡ Some k → k < i + length xs
within p i [] k e = absurd (true≢false (sym (ap is_some e)))
within p i (x ∷ xs) k e = here_or_behind (p x) i k (length xs) (position_from p (i + 1) xs) (within p (i + 1) xs k) e

found_at : (fault i k : ℕ) (o : Option ℕ) → spec.number_of fault i o ≡ Ok k → o ≡ Some k
found_at fault i k None e = no_ok (fault, i) k e
found_at fault i k (Some n) e = ap Some (ok_is n k e)

number_is : (fault i k : ℕ) (names : List (List ℕ)) (s : List ℕ) → spec.number_of fault i (place_in names s) ≡ Ok k → k < length names
number_is fault i k names s e = let h = within (same_units s) 0 names k (found_at fault i k (place_in names s) e) in omega (arith, h)

once_is : {A : Type 0} (names : List (List ℕ)) (fault : ℕ → Fault) (a b : A) → spec.unless (spec.once_each names) fault a ≡ Ok b → AreOnce names
once_is names fault a b e = unless_is (spec.once_each names) e where
  unless_is : (o : Option ℕ) → spec.unless o fault a ≡ Ok b → o ≡ None
  unless_is None e = refl
  unless_is (Some k) e = no_ok (fault k) b e

module _ (cells modules : List (List ℕ)) where
  granted_is : (i : ℕ) (w : Wish) (g : Granted) → spec.granted cells modules i w ≡ Ok g → IsGranted (length cells) i g
  granted_is i (for_root id) g e = subst (IsGranted (length cells) i) (ok_is (the_root id) g e) tt
  granted_is i (for_cell c) g e =
      let s = steps (spec.number_of _ i (place_in cells c)) _ g e in
      subst (IsGranted (length cells) i) (ok_is _ g s.after) (number_is _ i s.first cells c s.found)
  granted_is i (for_module m) g e =
      let s = steps (spec.number_of _ i (place_in modules m)) _ g e in
      let p = passed (nat_lt s.first i) (the_result s.first) g _ s.after in
      subst (IsGranted (length cells) i) p.1 (ltb-true s.first i p.0)
  granted_is i (for_plain v) g e = subst (IsGranted (length cells) i) (ok_is (the_plain v) g e) tt

  -- a grant of module i, as it was wished
  record IsBound (i : ℕ) (w : List ℕ × Wish) (g : List ℕ × Granted) : Type 0 where
    pub name : g.0 ≡ w.0
    pub granted : IsGranted (length cells) i g.1

  bound_wish_is : (i : ℕ) (w : List ℕ × Wish) (g : List ℕ × Granted) → spec.bound_wish cells modules i w ≡ Ok g → IsBound i w g
  bound_wish_is i w g e =
      let s = steps (spec.granted cells modules i w.1) _ g e in
      subst (IsBound i w) (ok_is (w.0, s.first) g s.after) (record { name = refl; granted = granted_is i w.1 s.first s.found })

  module_is : (i : ℕ) (t : Told) (m : Module) → IsTold t → AreOnce (spec.wish_names t) → spec.bound_module cells modules i t ≡ Ok m → IsModule (length cells) i m
  module_is i t m told once e =
      let s = steps (traverse (λ _. spec.bound_wish cells modules i) 0 t.wishes) _ m e in
      let r = reads (λ _. spec.bound_wish cells modules i) 0 t.wishes s.first s.found in
      let names : map (λ g. g.0) s.first ≡ spec.wish_names t = same (λ _. spec.bound_wish cells modules i) (λ w. w.0) (λ g. g.0) (λ _ w g h. (bound_wish_is i w g h).name) 0 t.wishes s.first r in
      subst (IsModule (length cells) i) (ok_is _ m s.after) (record {
        named = told.named;
        few = subst (λ n. n ≤ 64) (sym (count (λ _. spec.bound_wish cells modules i) 0 t.wishes s.first r)) told.wishes.few;
        spelled = subst (All (λ s. IsTrue (is_grant_name s))) (sym names) (All-map (λ s. IsTrue (is_grant_name s)) (λ w. w.0) t.wishes told.wishes.each);
        once = subst AreOnce (sym names) once;
        granted = all_read (λ _. spec.bound_wish cells modules i) (λ g. IsGranted (length cells) i g.1) (λ _ w g h. (bound_wish_is i w g h).granted) 0 t.wishes s.first r;
      })

asked_is : (modules : List (List ℕ)) (k : ℕ) (w : Plan) (a : Asked) → spec.bound_event modules k w ≡ Ok a → IsAsked (length modules) a
asked_is modules k (for_call m key vs) a e =
    let s = steps (spec.number_of _ k (place_in modules m)) _ a e in
    subst (IsAsked (length modules)) (ok_is _ a s.after) (number_is _ k s.first modules m s.found)
asked_is modules k (for_click id) a e = subst (IsAsked (length modules)) (ok_is _ a e) tt
asked_is modules k (for_input id us) a e = subst (IsAsked (length modules)) (ok_is _ a e) tt
asked_is modules k (for_tick m) a e =
    let s = steps (spec.number_of _ k (place_in modules m)) _ a e in
    subst (IsAsked (length modules)) (ok_is _ a s.after) (number_is _ k s.first modules m s.found)

wishes_are_once : (i : ℕ) (t : Told) (names : List (List ℕ)) → spec.wishes_once i t ≡ Ok names → AreOnce (spec.wish_names t)
wishes_are_once i t names e = once_is (spec.wish_names t) _ (spec.wish_names t) names e

module_name_is : (cells modules : List (List ℕ)) (i : ℕ) (t : Told) (m : Module) → spec.bound_module cells modules i t ≡ Ok m → m.name ≡ t.name
module_name_is cells modules i t m e =
    let s = steps (traverse (λ _. spec.bound_wish cells modules i) 0 t.wishes) _ m e in
    sym (ap (λ m. m.name) (ok_is _ m s.after))

bound_is : (rule : List Row) (m : Manifest) (p : Page) → IsManifest m → spec.bound rule m ≡ Ok p → IsValid p
bound_is rule m p is e =
    let names = spec.names_of m.modules in
    let o = steps (spec.all_once m) _ p e in
    let b = steps (traverse (spec.bound_module m.cells names) 0 m.modules) _ p o.after in
    let v = steps (traverse (spec.bound_event names) 0 m.events) _ p b.after in
    let c = steps (spec.names_once m.cells) _ o.first o.found in
    let n = steps (spec.names_once names) _ o.first c.after in
    let mods = reads (spec.bound_module m.cells names) 0 m.modules b.first b.found in
    let evs = reads (spec.bound_event names) 0 m.events v.first v.found in
    let many : length b.first ≡ length m.modules = count (spec.bound_module m.cells names) 0 m.modules b.first mods in
    let named : map (λ m. m.name) b.first ≡ names = same (spec.bound_module m.cells names) (λ t. t.name) (λ m. m.name) (module_name_is m.cells names) 0 m.modules b.first mods in
    let once = inputs spec.wishes_once (λ t. AreOnce (spec.wish_names t)) wishes_are_once 0 m.modules o.first (reads spec.wishes_once 0 m.modules o.first n.after) in
    subst IsValid (ok_is _ p v.after) (record {
      few_styles = is.styles;
      few_cells = is.cells.few;
      few_modules = subst (λ n. n ≤ 64) (sym many) is.modules.few;
      few_events = subst (λ n. n ≤ 10000) (sym (count (spec.bound_event names) 0 m.events v.first evs)) is.events.few;
      cells_named = is.cells.each;
      cells_once = once_is m.cells _ m.cells c.first c.found;
      modules_once = subst AreOnce (sym named) (once_is names _ names n.first n.found);
      modules = λ k c there. subst (λ n. IsModule (length m.cells) n c) (omega arith) (at (spec.bound_module m.cells names) IsTold (λ t. AreOnce (spec.wish_names t)) (IsModule (length m.cells)) (module_is m.cells names) 0 m.modules b.first mods is.modules.each once k c there);
      events = subst (λ n. All (IsAsked n) v.first) (length-map m.modules (λ m. m.name) ∙ sym many) (all_read (spec.bound_event names) (IsAsked (length names)) (asked_is names) 0 m.events v.first evs);
    })

-- the page of a manifest is valid
pub valid : (rule : List Row) (runs : Bool) (bytes : List ℕ) (p : Page) → page_of rule runs bytes ≡ Ok p → IsValid p
valid rule runs bytes p e =
    let d = steps (json bytes) _ p e in
    let m = steps (read.manifest runs d.first) (spec.bound rule) p d.after in
    bound_is rule m.first p (manifest_is runs d.first m.first m.found) m.after

pub valid_answer : (rule : List Row) (runs : Bool) (bytes : List ℕ) (r : Result Made PageError) → Answers page r (page_of rule runs bytes) → IfOk r (λ p. IsValid (page p))
valid_answer rule runs bytes (Ok p) h = valid rule runs bytes (page p) h
valid_answer rule runs bytes (Err e) h = tt
