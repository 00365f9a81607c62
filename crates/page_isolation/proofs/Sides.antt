-- A group and its others: what is the others' others' is the group's; and what is shown of a value of the group.
use Rattle.std.proofs.Common.{◌≡◌, Bool, true, false, List, [], ◌∷◌, refl, sym, ap, ◌∙◌, subst}
use Rattle.std.specs.Prelude.{not, slice_get, if◌then◌else◌}
use Rattle.acts.specs.Laws.{All}
use Rattle.acts.proofs.Keeps.{all_map}
use Rattle.page_deeds.specs.Deeds.{Grant, a_cell, a_result, a_plain, a_root, Owner, of_module, of_root, owner_of, labelled}
use Rattle.cajita_meaning.specs.World.{made_name, Value, object, World}
use Rattle.cajita_meaning.specs.Direct.{Item, made, got, touched, passed, granted, said, was_revoked, changed_node, ended, Completion, gave, threw, values_of}
use Rattle.cajita_laws.specs.Parts.{Group, others, owns, Own, OwnPairs, OwnObject, tells, side, items_of, SamePart, Closed}
use Rattle.cajita_page.specs.DirectPage.{Deed}
use Rattle.cajita_page.specs.Shown.{made_shown, shown_in, end_in}
use Rattle.page_isolation.specs.Agree.{grants_in, IsGrantOf, IsDeedOf}

pub is_not : (b : Bool) → not b ≡ true → b ≡ false
is_not true h = absurd (Rattle.std.proofs.lemmas.Bool.true≢false (sym h))
is_not false h = refl

not_not : (b : Bool) → not (not b) ≡ b
not_not true = refl
not_not false = refl

-- items

others_own : (g : Group) (o : Owner) → not (owns (others g) o) ≡ owns g o
others_own g (of_module m) = not_not (g.modules m)
others_own g (of_root root) = not_not (g.roots root)

-- what is no other's is the group's
others_owner : (g : Group) (o : Owner) → owns g o ≡ false → owns (others g) o ≡ true
others_owner g (of_module m) h = ap not h
others_owner g (of_root root) h = ap not h

-- an item that no other tells is the group's
others_tell : (g : Group) (i : Item) → side false (tells (others g) i) ≡ tells g i
others_tell g (made m o) = not_not (g.modules m)
others_tell g (got m h o) = not_not (g.modules m)
others_tell g (touched m t o k) = not_not (g.modules m)
others_tell g (passed a b o) = not_not (g.modules a)
others_tell g (granted m o) = not_not (g.modules m)
others_tell g (said m us) = not_not (g.modules m)
others_tell g (was_revoked m p) = not_not (g.modules m)
others_tell g (changed_node r k c) = not_not (g.roots r)
others_tell g (ended l e) = others_own g (labelled l)

others_items : (g : Group) (z : List Item) → items_of false (others g) z ≡ items_of true g z
others_items g [] = refl
others_items g (i ∷ z) = ap (λ b. if b then i ∷ items_of false (others g) z else items_of false (others g) z) (others_tell g i) ∙ ap (λ l. if tells g i then i ∷ l else l) (others_items g z)

-- worlds

pub others_part : (g : Group) (w v : World) (z y : List Item) → SamePart false (others g) w v z y → SamePart true g w v z y
others_part g w v z y s = record {
  objects = λ m is. s.objects m (ap not is);
  scopes = λ m is. s.scopes m (ap not is);
  cells = λ c is. s.cells c (ap not is);
  queues = λ m is. s.queues m (ap not is);
  revoked = λ m is. s.revoked m (ap not is);
  nodes = λ r is. s.nodes r (ap not is);
  handlers = λ r is. s.handlers r (ap not is);
  items = sym (others_items g z) ∙ s.items ∙ others_items g y;
}

-- the others refer to nothing of the group in each world with their part
pub others_closed : (g : Group) (w v : World) (z y : List Item) → SamePart false g w v z y → Closed (others g) w → Closed (others g) v
others_closed g w v z y s c = record {
  objects = λ m own. subst (All (OwnObject (others g))) (s.objects m (is_not (g.modules m) own)) (c.objects m own);
  scopes = λ m own. subst (All (OwnPairs (others g))) (s.scopes m (is_not (g.modules m) own)) (c.scopes m own);
  cells = λ k own. subst (Own (others g)) (s.cells k (is_not (g.cells k) own)) (c.cells k own);
  queues = λ m own. subst (All (Own (others g))) (s.queues m (is_not (g.modules m) own)) (c.queues m own);
  handlers = λ r own. subst (All (λ h. Own (others g) h.does)) (s.handlers r (is_not (g.roots r) own)) (c.handlers r own);
}

-- deeds

others_grant : (g : Group) (t : Grant) → IsGrantOf false g t → IsGrantOf true (others g) t
others_grant g (a_cell c) h = ap not h
others_grant g (a_result m) h = ap not h
others_grant g (a_plain v) h = tt
others_grant g (a_root root) h = ap not h

pub others_deed : (g : Group) (d : Deed) → IsDeedOf false g d → IsDeedOf true (others g) d
others_deed g d h = record { by = others_owner g (owner_of d) h.by; grants = all_map (λ p. IsGrantOf false g p.1) (λ p. IsGrantOf true (others g) p.1) (λ p k. others_grant g p.1 k) (grants_in d) h.grants }

-- ends of turns

-- a value of the group is shown alike in two worlds with the same part
shown_same : (g : Group) (w v : World) (z y : List Item) → SamePart true g w v z y → (t : Value) → Own g t → shown_in w t ≡ shown_in v t
shown_same g w v z y s (object (made_name m n)) own = ap (λ l. made_shown (made_name m n) (slice_get l n)) (s.objects m own)
shown_same g w v z y s (object o) own = refl
shown_same g w v z y s t own = refl

pub end_same : (g : Group) (w v : World) (z y : List Item) → SamePart true g w v z y → (e : Completion) → All (Own g) (values_of e) → end_in w e ≡ end_in v e
end_same g w v z y s (gave t) own = ap Rattle.page_deeds.specs.Shown.by_return (shown_same g w v z y s t own.0)
end_same g w v z y s (threw t) own = ap Rattle.page_deeds.specs.Shown.by_throw (shown_same g w v z y s t own.0)
end_same g w v z y s e own = refl
