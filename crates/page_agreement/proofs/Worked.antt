-- Worked pages: which agree, and which don't.
use Rattle.std.proofs.Common.{◌≡◌, ◌<◌, ℕ, zero, suc, List, [], ◌∷◌, Some, All, Contains, length, refl, sym, ap, ◌∙◌, subst, arith, ⊎_elim, inl}
use Rattle.std.specs.Prelude.{slice_get, codes}
use Rattle.std.proofs.lemmas.List.Elements.{All-head, All-tail}
use Rattle.html_grammar.specs.Trees.{many, Tree}
use Rattle.event_script.specs.Events.{Asked}
use Rattle.cell_numbers.specs.Names.{IsNamed}
use Rattle.page_manifest.specs.Page.{Granted, the_cell, the_result, the_plain, the_root, Grants, cajita, es3, Module, Page}
use Rattle.page_manifest.specs.Valid.{IsGranted, IsValid}
use Rattle.page_documents.specs.Documents.{page_doc}
use Rattle.reach_report.specs.Pages.{page_groups}
use Rattle.page_agreement.specs.Agree.{IsAt, SameGranted, AllSameGranted, IsGrantedIn, ModulesAgree, IsRootOf, root_nodes, AgreeOn}
use Rattle.page_agreement.specs.Worked.{first_module, second_module, two_modules, one_board, one_desk, desk_and_board, only_the_cell, only_the_result, only_the_root, the_first, the_second}
use Rattle.page_agreement.specs.Worked.{list_alone, menu_and_list, list_with_b, one_root, two_roots, shared_root}

-- each page agrees with itself

its_name : (names : List (List ℕ)) (k : ℕ) → k < length names → (name : List ℕ) × IsNamed names k name
its_name [] k l = absurd (omega arith)
its_name (x ∷ names) zero l = (x, refl)
its_name (x ∷ names) (suc k) l = its_name names k (omega arith)

grant_itself : (p : Page) (i : ℕ) (t : Granted) → IsGranted (length p.cells) i t → SameGranted p p t t
grant_itself p i (the_cell c) h = let n = its_name p.cells c h in (n.0, n.1, n.1)
grant_itself p i (the_result n) h = refl
grant_itself p i (the_plain v) h = refl
grant_itself p i (the_root id) h = refl

grants_themselves : (p : Page) (i : ℕ) (gs : Grants) → All (λ g. IsGranted (length p.cells) i g.1) gs → AllSameGranted p p gs gs
grants_themselves p i [] h = tt
grants_themselves p i ((x, t) ∷ gs) h = (refl, grant_itself p i t (All-head (λ g. IsGranted (length p.cells) i g.1) (x, t) gs h), grants_themselves p i gs (All-tail (λ g. IsGranted (length p.cells) i g.1) (x, t) gs h))

the_module : {m n : Module} → Some m ≡ Some n → m ≡ n
the_module e = cc

pub agrees_with_itself : (p : Page) (ts : Tree many) → IsValid p → (g : List ℕ) → Contains (page_groups p) g → AgreeOn p ts p ts g
agrees_with_itself p ts valid g is = record {
  rule = refl;
  base = refl;
  events = refl;
  names = refl;
  here = is;
  there = is;
  modules = λ i m n member at at'. subst (ModulesAgree p p m) (the_module (sym at ∙ at')) (record { language = refl; source = refl; grants = grants_themselves p i m.grants (valid.modules i m at).granted });
  nodes = λ id root. refl;
}

-- the first module of two pages

-- who is of a group of one
the_one : (x y : ℕ) → Contains (x ∷ []) y → x ≡ y
the_one x y (zero, l, e) = e
the_one x y (suc k, l, e) = absurd (omega (arith, l))

-- a group of one module agrees with itself where that does
alone_agrees : (p q : Page) (k : ℕ) (a b : Module) → IsAt p k a → IsAt q k b → ModulesAgree p q a b → (i : ℕ) (m n : Module) → Contains (k ∷ []) i → IsAt p i m → IsAt q i n → ModulesAgree p q m n
alone_agrees p q k a b here there agree i m n member at at' =
    let same : k ≡ i = the_one k i member in
    let left : a ≡ m = the_module (sym here ∙ ap (slice_get p.modules) same ∙ at) in
    let right : b ≡ n = the_module (sym there ∙ ap (slice_get q.modules) same ∙ at') in
    subst (λ x. ModulesAgree p q x n) left (subst (ModulesAgree p q a) right agree)

-- and its roots are those that the module is granted
alone_granted : (p : Page) (k : ℕ) (a : Module) → IsAt p k a → (id : List ℕ) → IsRootOf p (k ∷ []) id → IsGrantedIn (the_root id) a.grants
alone_granted p k a here id h =
    let same : k ≡ h.by = the_one k h.by h.member in
    let it : a ≡ h.its_module = the_module (sym here ∙ ap (slice_get p.modules) same ∙ h.at) in
    subst (λ (m : Module). IsGrantedIn (the_root id) m.grants) (sym it) h.granted

no_root : (p : Page) (a : Module) (c : ℕ) → IsAt p 0 a → a.grants ≡ (codes "k", the_cell c) ∷ [] → (id : List ℕ) → IsRootOf p the_first id → ⊥
no_root p a c here are id h = ⊎_elim (λ e. absurd cc) (λ none. none) (subst (IsGrantedIn (the_root id)) are (alone_granted p 0 a here id h))

pub others_differ : (ts us : Tree many) (source other another : List ℕ) (es : List Asked)
    → AgreeOn (two_modules one_board (first_module source 0) (second_module cajita other []) es) ts (two_modules desk_and_board (first_module source 1) (second_module es3 another (only_the_cell 0)) es) us the_first
others_differ ts us source other another es =
    let p = two_modules one_board (first_module source 0) (second_module cajita other []) es in
    let q = two_modules desk_and_board (first_module source 1) (second_module es3 another (only_the_cell 0)) es in
    record {
      rule = refl;
      base = refl;
      events = refl;
      names = refl;
      here = (0, omega arith, refl);
      there = (0, omega arith, refl);
      modules = alone_agrees p q 0 (first_module source 0) (first_module source 1) refl refl (record { language = refl; source = refl; grants = (refl, (codes "board", refl, refl), tt) });
      nodes = λ id root. absurd (no_root p (first_module source 0) 0 refl refl id root);
    }

-- the first module of a page, where its group has it alone
at_first : (p : Page) (ts : Tree many) (q : Page) (us : Tree many) (m n : Module) → AgreeOn p ts q us the_first → IsAt p 0 m → IsAt q 0 n → ModulesAgree p q m n
at_first p ts q us m n agree at at' = agree.modules 0 m n (0, omega arith, refl) at at'

pub another_cell : (ts us : Tree many) (source : List ℕ) (m n : Module) (es : List Asked) → AgreeOn (two_modules one_board (first_module source 0) m es) ts (two_modules one_desk (first_module source 0) n es) us the_first → ⊥
another_cell ts us source m n es agree =
    let p = two_modules one_board (first_module source 0) m es in
    let q = two_modules one_desk (first_module source 0) n es in
    let s = (at_first p ts q us (first_module source 0) (first_module source 0) agree refl refl).grants.1 in
    let both : Some (codes "board") ≡ Some (codes "desk") = s.1 ∙ sym s.2 in
    absurd cc

longer : (e : Asked) (es : List Asked) → es ≡ e ∷ es → ⊥
longer e es h = let same : length es ≡ suc (length es) = ap length h in absurd (omega arith)

pub one_event_more : (ts us : Tree many) (cells others : List (List ℕ)) (m n k l : Module) (e : Asked) (es : List Asked) (g : List ℕ) → AgreeOn (two_modules cells m n es) ts (two_modules others k l (e ∷ es)) us g → ⊥
one_event_more ts us cells others m n k l e es g agree = longer e es agree.events

-- a root of another number

its_id : (id : List ℕ) → IsGrantedIn (the_root id) (only_the_root (codes "list")) → codes "list" ≡ id
its_id id h = ⊎_elim (λ e. let same : codes "list" ≡ id = cc in same) (λ none. absurd none) h

pub another_root : (source another other : List ℕ) (es : List Asked) → AgreeOn (one_root source other es) list_alone (two_roots another other es) menu_and_list the_second
another_root source another other es =
    let p = one_root source other es in
    let q = two_roots another other es in
    let b = second_module cajita other (only_the_root (codes "list")) in
    record {
      rule = refl;
      base = refl;
      events = refl;
      names = refl;
      here = (1, omega arith, refl);
      there = (1, omega arith, refl);
      modules = alone_agrees p q 1 b b refl refl (record { language = refl; source = refl; grants = (refl, refl, tt) });
      nodes = λ id root. subst (λ x. root_nodes p (page_doc p list_alone) x ≡ root_nodes q (page_doc q menu_and_list) x) (its_id id (alone_granted p 1 b refl id root)) refl;
    }

pub another_node : (source other : List ℕ) (es : List Asked) → AgreeOn (one_root source other es) list_alone (one_root source other es) list_with_b the_second → ⊥
another_node source other es agree =
    let p = one_root source other es in
    let b = second_module cajita other (only_the_root (codes "list")) in
    let is : IsRootOf p the_second (codes "list") = record { by = 1; member = (0, omega arith, refl); its_module = b; at = refl; granted = inl refl } in
    let same : 1 ≡ 2 = ap length (agree.nodes (codes "list") is) in
    absurd (omega (arith, same))

-- a group that both modules are of
both_are_one : (q : Page) → page_groups q ≡ (0 ∷ 1 ∷ []) ∷ [] → Contains (page_groups q) the_first → ⊥
both_are_one q e c = at (subst (λ gs. Contains gs the_first) e c)
  where
    at : Contains ((0 ∷ 1 ∷ []) ∷ []) the_first → ⊥
    at (zero, l, h) = absurd cc
    at (suc k, l, h) = absurd (omega (arith, l))

pub one_cell_more : (p : Page) (ts us : Tree many) (source other : List ℕ) (es : List Asked) → AgreeOn p ts (two_modules one_board (first_module source 0) (second_module cajita other (only_the_cell 0)) es) us the_first → ⊥
one_cell_more p ts us source other es agree = both_are_one (two_modules one_board (first_module source 0) (second_module cajita other (only_the_cell 0)) es) refl agree.there

pub one_root_more : (p : Page) (ts us : Tree many) (source other : List ℕ) (es : List Asked) → AgreeOn p ts (shared_root source other es) us the_first → ⊥
one_root_more p ts us source other es agree = both_are_one (shared_root source other es) refl agree.there

pub its_result : (p : Page) (ts us : Tree many) (source other : List ℕ) (es : List Asked) → AgreeOn p ts (two_modules one_board (first_module source 0) (second_module cajita other only_the_result) es) us the_first → ⊥
its_result p ts us source other es agree = both_are_one (two_modules one_board (first_module source 0) (second_module cajita other only_the_result) es) refl agree.there
