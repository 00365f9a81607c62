-- Each module of a page is of a language that is wanted.
use Rattle.std.proofs.Common.{◌≡◌, ℕ, Bool, true, false, List, [], Option, None, Some, Ok, refl, subst}
use Rattle.std.specs.Prelude.{All, codes, if◌then◌else◌, IfSome}
use Rattle.serde_json.specs.Data.{Data}
use Rattle.caja_units.specs.Units.{same_units}
use Rattle.page_manifest.specs.Walk.{traverse, need, may, object, each, all, at_most}
use Rattle.url_rule.specs.Table.{Row}
use Rattle.page_manifest.specs.Page.{Language, cajita, valija, es3, as_it_stands, Module, Page}
use Rattle.page_manifest.specs.Named.{Told, Manifest}
use Rattle.page_manifest.specs.Manifest as read
use Rattle.page_manifest.specs.Manifest.{of_kind, language_named}
use Rattle.page_manifest.specs.Bound as spec
use Rattle.page_manifest.specs.Read.{json, page_of}
use Rattle.page_manifest.proofs.Validity.{ok_is, steps, reads, all_read, all_under, need_is}

-- a language that has this name is one that is wanted

of_runs : (b : Bool) → IfSome (if b then Some es3 else None) (λ l. as_it_stands l ≡ true)
of_runs true = refl
of_runs false = tt

of_cajoled : (b c : Bool) → IfSome (if b then Some cajita else if c then Some valija else None) (λ l. as_it_stands l ≡ false)
of_cajoled true c = refl
of_cajoled false true = refl
of_cajoled false false = tt

named_is : (runs : Bool) (s : List ℕ) → IfSome (language_named runs s) (λ l. as_it_stands l ≡ runs)
named_is true s = of_runs (same_units s (codes "es3"))
named_is false s = of_cajoled (same_units s (codes "cajita")) (same_units s (codes "valija"))

of_kind_is : {A : Type 0} (P : A → Type 0) (i : ℕ) (o : Option A) (a : A) → IfSome o P → of_kind i o ≡ Ok a → P a
of_kind_is P i None a h e = absurd cc
of_kind_is P i (Some b) a h e = let same : b ≡ a = cc in subst P same h

module _ (runs : Bool) where
  abbrev IsWanted : Language → Type 0
  IsWanted l = as_it_stands l ≡ runs

  language_is : (i : ℕ) (d : Data) (l : Language) → read.language runs i d ≡ Ok l → IsWanted l
  language_is i d l e =
      let s = steps (read.text i d) _ l e in
      of_kind_is IsWanted i (language_named runs s.first) l (named_is runs s.first) s.after

  told_is : (i : ℕ) (d : Data) (t : Told) → read.told runs i d ≡ Ok t → IsWanted t.language
  told_is i d t e =
      let s = steps (object read.module_forms i d) _ t e in
      let n = steps (need read.name (codes "name") i d) _ t s.after in
      let l = steps (need (read.language runs) (codes "language") i d) _ t n.after in
      let b = steps (need read.text (codes "source") i d) _ t l.after in
      let w = steps (may [] (all 64 read.grant) (codes "grants") i d) _ t b.after in
      let f = need_is (read.language runs) (codes "language") i d l.first l.found in
      subst (λ t. IsWanted t.language) (ok_is _ t w.after) (language_is i f.first l.first f.after)

  manifest_is : (d : Data) (m : Manifest) → read.manifest runs d ≡ Ok m → All (λ t. IsWanted t.language) m.modules
  manifest_is d m e =
      let s = steps (object read.page_forms 0 d) _ m e in
      let v = steps (need read.version (codes "version") 0 d) _ m s.after in
      let h = steps (may [] read.text (codes "html") 0 d) _ m v.after in
      let u = steps (may None read.base (codes "base") 0 d) _ m h.after in
      let y = steps (may [] (each 64 read.style) (codes "styles") 0 d) _ m u.after in
      let c = steps (may [] (each 64 read.name) (codes "cells") 0 d) _ m y.after in
      let t = steps (need (each 64 (read.told runs)) (codes "modules") 0 d) _ m c.after in
      let a = steps (may [] (each 10000 read.event) (codes "events") 0 d) _ m t.after in
      let f = need_is (each 64 (read.told runs)) (codes "modules") 0 d t.first t.found in
      let l = steps (at_most 64 0 f.first) (traverse (read.told runs) 0) t.first f.after in
      subst (λ m. All (λ t. IsWanted t.language) m.modules) (ok_is _ m a.after)
      (all_read (read.told runs) (λ t. IsWanted t.language) told_is 0 l.first t.first (reads (read.told runs) 0 l.first t.first l.after))

  module_is : (cells modules : List (List ℕ)) (i : ℕ) (t : Told) (m : Module) → IsWanted t.language → spec.bound_module cells modules i t ≡ Ok m → IsWanted m.language
  module_is cells modules i t m is e =
      let s = steps (traverse (λ _. spec.bound_wish cells modules i) 0 t.wishes) _ m e in
      subst (λ m. IsWanted m.language) (ok_is _ m s.after) is

  bound_is : (rule : List Row) (m : Manifest) (p : Page) → All (λ t. IsWanted t.language) m.modules → spec.bound rule m ≡ Ok p → All (λ m. IsWanted m.language) p.modules
  bound_is rule m p is e =
      let names = spec.names_of m.modules in
      let o = steps (spec.all_once m) _ p e in
      let b = steps (traverse (spec.bound_module m.cells names) 0 m.modules) _ p o.after in
      let v = steps (traverse (spec.bound_event names) 0 m.events) _ p b.after in
      subst (λ p. All (λ m. IsWanted m.language) p.modules) (ok_is _ p v.after)
      (all_under (spec.bound_module m.cells names) (λ t. IsWanted t.language) (λ m. IsWanted m.language) (module_is m.cells names) 0 m.modules b.first is (reads (spec.bound_module m.cells names) 0 m.modules b.first b.found))

pub modules_in_language : (rule : List Row) (runs : Bool) (bytes : List ℕ) (p : Page) → page_of rule runs bytes ≡ Ok p → All (λ m. as_it_stands m.language ≡ runs) p.modules
modules_in_language rule runs bytes p e =
    let d = steps (json bytes) _ p e in
    let m = steps (read.manifest runs d.first) (spec.bound rule) p d.after in
    bound_is runs rule m.first p (manifest_is runs d.first m.first m.found) m.after
