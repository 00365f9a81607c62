-- Each change of a world is the same change of the world anew.
use Rattle.std.proofs.Common.{◌≡◌, ℕ, Bool, true, false, List, [], ◌∷◌, ◌++◌, refl, sym, ap, ◌∙◌}
use Rattle.std.specs.Prelude.{map, nat_eq, slice_get, slice_set, if◌then◌else◌}
use Rattle.std.proofs.Math.Path.{fun_ext}
use Rattle.std.proofs.lemmas.Bool.{eqb-true, eqb-false}
use Rattle.std.proofs.lemmas.List.{map-append, map-set}
use Rattle.cajita_meaning.specs.World as W
use Rattle.cajita_meaning.specs.World.{Value, Pairs, Object, Handler, World}
use Rattle.rows.specs.Document.{Node}
use Rattle.cell_numbers.specs.Renumbering.{Numbering, Renumbering, value_anew, values_anew, pairs_anew, object_anew, handler_anew, world_anew}
use Rattle.cell_numbers.proofs.Lists.{picked_mapped, declared_anew, names_anew}

-- numbers

-- two pairs of numbers of which the one is equal where the other is
same_test : (a b c d : ℕ) → (a ≡ b → c ≡ d) → (c ≡ d → a ≡ b) → nat_eq a b ≡ nat_eq c d
same_test a b c d to from = at (nat_eq a b) (nat_eq c d) refl refl
  where
    at : (p q : Bool) → nat_eq a b ≡ p → nat_eq c d ≡ q → p ≡ q
    at true true e g = refl
    at true false e g = absurd (eqb-false c d g (to (eqb-true a b e)))
    at false true e g = absurd (eqb-false a b e (from (eqb-true c d g)))
    at false false e g = refl

-- two are the same where their new numbers are the same
pub same_number : (f : Numbering) (c d : ℕ) → nat_eq (f.anew c) (f.anew d) ≡ nat_eq c d
same_number f c d = same_test (f.anew c) (f.anew d) c d (λ e. sym (f.back_anew c) ∙ ap f.back e ∙ f.back_anew d) (λ e. ap f.anew e)

moved_number : (f : Numbering) (n c : ℕ) → nat_eq n (f.anew c) ≡ nat_eq (f.back n) c
moved_number f n c = same_test n (f.anew c) (f.back n) c (λ e. ap f.back e ∙ f.back_anew c) (λ e. sym (f.anew_back n) ∙ ap f.anew e)

-- lists by their modules

last_mapped : {X Y : Type 0} (h : X → Y) (m : ℕ) (x : X) (lists : ℕ → List X) → W.with_last m (h x) (λ n. map h (lists n)) ≡ (λ n. map h (W.with_last m x lists n))
last_mapped h m x lists = fun_ext (λ n. elim (nat_eq n m) as (λ b. (if b then map h (lists n) ++ h x ∷ [] else map h (lists n)) ≡ map h (if b then lists n ++ x ∷ [] else lists n)) [ true ↦ sym (map-append h (lists n) (x ∷ [])) | false ↦ refl ])

list_mapped : {X Y : Type 0} (h : X → Y) (m : ℕ) (xs : List X) (lists : ℕ → List X) → W.with_list m (map h xs) (λ n. map h (lists n)) ≡ (λ n. map h (W.with_list m xs lists n))
list_mapped h m xs lists = fun_ext (λ n. picked_mapped (map h) (nat_eq n m) xs (lists n))

-- changes

module _ (f : Renumbering) where
  pub with_object_anew : (m : ℕ) (o : Object) (w : World) → W.with_object m (object_anew f o) (world_anew f w) ≡ world_anew f (W.with_object m o w)
  with_object_anew m o w = ap (λ (l : ℕ → List Object). record (world_anew f w) { objects = l }) (last_mapped (object_anew f) m o w.objects)

  pub with_made_anew : (m n : ℕ) (o : Object) (w : World) → W.with_made m n (object_anew f o) (world_anew f w) ≡ world_anew f (W.with_made m n o w)
  with_made_anew m n o w =
      ap (λ (l : ℕ → List Object). record (world_anew f w) { objects = l })
      (ap (λ os. W.with_list m os (world_anew f w).objects) (sym (map-set (object_anew f) (w.objects m) n o)) ∙ list_mapped (object_anew f) m (slice_set (w.objects m) n o) w.objects)

  pub with_scope_anew : (m : ℕ) (names : Pairs) (w : World) → W.with_scope m (pairs_anew f names) (world_anew f w) ≡ world_anew f (W.with_scope m names w)
  with_scope_anew m names w = ap (λ (l : ℕ → List Pairs). record (world_anew f w) { scopes = l }) (last_mapped (pairs_anew f) m names w.scopes)

  pub with_scopes_anew : (m : ℕ) (ss : List Pairs) (w : World) → W.with_scopes m (map (pairs_anew f) ss) (world_anew f w) ≡ world_anew f (W.with_scopes m ss w)
  with_scopes_anew m ss w = ap (λ (l : ℕ → List Pairs). record (world_anew f w) { scopes = l }) (list_mapped (pairs_anew f) m ss w.scopes)

  pub with_queue_anew : (m : ℕ) (vs : List Value) (w : World) → W.with_queue m (values_anew f vs) (world_anew f w) ≡ world_anew f (W.with_queue m vs w)
  with_queue_anew m vs w = ap (λ (l : ℕ → List Value). record (world_anew f w) { queues = l }) (list_mapped (value_anew f) m vs w.queues)

  pub with_handlers_anew : (r : ℕ) (hs : List Handler) (w : World) → W.with_handlers (f.roots.anew r) (map (handler_anew f) hs) (world_anew f w) ≡ world_anew f (W.with_handlers r hs w)
  with_handlers_anew r hs w =
      ap (λ (l : ℕ → List Handler). record (world_anew f w) { handlers = l })
      (fun_ext (λ n. ap (λ b. if b then map (handler_anew f) hs else map (handler_anew f) (w.handlers (f.roots.back n))) (moved_number f.roots n r) ∙ picked_mapped (map (handler_anew f)) (nat_eq (f.roots.back n) r) hs (w.handlers (f.roots.back n))))

  pub with_nodes_anew : (r : ℕ) (ns : List Node) (w : World) → W.with_nodes (f.roots.anew r) ns (world_anew f w) ≡ world_anew f (W.with_nodes r ns w)
  with_nodes_anew r ns w = ap (λ (l : ℕ → List Node). record (world_anew f w) { nodes = l }) (fun_ext (λ n. ap (λ b. if b then ns else w.nodes (f.roots.back n)) (moved_number f.roots n r)))

  pub with_cell_anew : (c : ℕ) (v : Value) (w : World) → W.with_cell (f.cells.anew c) (value_anew f v) (world_anew f w) ≡ world_anew f (W.with_cell c v w)
  with_cell_anew c v w =
      ap (λ (l : ℕ → Value). record (world_anew f w) { cells = l })
      (fun_ext (λ n. ap (λ b. if b then value_anew f v else value_anew f (w.cells (f.cells.back n))) (moved_number f.cells n c) ∙ picked_mapped (value_anew f) (nat_eq (f.cells.back n) c) v (w.cells (f.cells.back n))))

  -- a new scope, and a name that is bound in one
  pub new_scope_anew : (vars params : List (List ℕ)) (vs : List Value) (m : ℕ) (w : World) → W.with_scope m (W.with_vars vars (W.with_params params (values_anew f vs) [])) (world_anew f w) ≡ world_anew f (W.with_scope m (W.with_vars vars (W.with_params params vs [])) w)
  new_scope_anew vars params vs m w = ap (λ names. W.with_scope m names (world_anew f w)) (names_anew f vars params vs) ∙ with_scope_anew m (W.with_vars vars (W.with_params params vs [])) w

  pub declare_anew : (m n : ℕ) (x : List ℕ) (v : Value) (w : World) → W.declare m n x (value_anew f v) (world_anew f w) ≡ world_anew f (W.declare m n x v w)
  declare_anew m n x v w =
      ap (λ ss. W.with_scopes m ss (world_anew f w)) (declared_anew f n x v (w.scopes m)) ∙ with_scopes_anew m (slice_set (w.scopes m) n (W.with_value x v (W.scope_at (slice_get (w.scopes m) n)))) w
