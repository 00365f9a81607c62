-- The fields of each object of a manifest, in the order in which they are read.
use Rattle.std.specs.Prelude.{ℕ, ℤ, pos, List, [], ◌∷◌, Bool, true, false, Option, None, Some, option_and_then, Result, Ok, Err, codes, if◌then◌else◌, is_some}
use Rattle.std.specs.Ordering.{int_eq}
use Rattle.std.specs.Str.{chars}
use Rattle.serde_json.specs.Data as json
use Rattle.serde_json.specs.Data.{Data}
use Rattle.serde_json.specs.Find.{get, as_number, as_str, as_i64}
use Rattle.url.specs.declared.error.ParseError.{ParseError}
use Rattle.url.specs.Parts.{Parts}
use Rattle.url.specs.Parser.{parse_url}
use Rattle.url_rule.specs.Reading.{is_web}
use Rattle.caja_num.specs.Numbers.{whole}
use Rattle.caja_units.specs.Units.{same_units}
use Rattle.caja_units.specs.Utf8.{units_of_chars}
use Rattle.page_deeds.specs.Deeds as deeds
use Rattle.page_deeds.specs.Deeds.{Plain}
use Rattle.page_manifest.specs.Faults as faults
use Rattle.page_manifest.specs.Faults.{Found, chain, wrong_kind, bad_name}
use Rattle.page_manifest.specs.Walk.{Fields, object, need, may, each, all, any_number}
use Rattle.manifest_names.specs.Names.{is_name, is_grant_name}
use Rattle.page_manifest.specs.Page.{Language, cajita, valija, es3, Style}
use Rattle.page_manifest.specs.Named.{Wish, for_root, for_cell, for_module, for_plain, Told, Plan, for_call, for_click, for_input, for_tick, Manifest}

-- what is wanted there, or something of another kind
abbrev pub of_kind : {A : Type 0} → ℕ → Option A → Found A
of_kind i None = Err (wrong_kind, i)
of_kind i (Some a) = Ok a

-- the bytes of a text
abbrev pub text : ℕ → Data → Found (List ℕ)
text i d = of_kind i (as_str d)

-- the 16-bit units of a text
abbrev pub units : ℕ → Data → Found (List ℕ)
units i d = chain (text i d) (λ s. Ok (units_of_chars (chars s)))

abbrev pub spelled : (List ℕ → Bool) → ℕ → Data → Found (List ℕ)
spelled is_right i d = chain (text i d) (λ s. if is_right s then Ok s else Err (bad_name, i))

-- the name of a cell or a module
abbrev pub name : ℕ → Data → Found (List ℕ)
name i d = spelled is_name i d

abbrev pub grant_name : ℕ → Data → Found (List ℕ)
grant_name i d = spelled is_grant_name i d

-- a number of the language
abbrev pub number : ℕ → Data → Found ℤ
number i d = of_kind i (option_and_then whole (option_and_then as_i64 (as_number d)))

abbrev pub version : ℕ → Data → Found ℤ
version i d = chain (number i d) (λ n. if int_eq n (pos 1) then Ok n else Err (faults.version, i))

-- the language of this name: that of texts which run as they stand, or one of those that are cajoled
abbrev pub language_named : Bool → List ℕ → Option Language
language_named true s = if same_units s (codes "es3") then Some es3 else None
language_named false s = if same_units s (codes "cajita") then Some cajita else if same_units s (codes "valija") then Some valija else None

abbrev pub language : Bool → ℕ → Data → Found Language
language runs i d = chain (text i d) (λ s. of_kind i (language_named runs s))

abbrev pub plain : ℕ → Data → Found Plain
plain i json.null = Ok deeds.null
plain i (json.boolean b) = Ok (deeds.truth b)
plain i (json.number n) = chain (number i (json.number n)) (λ z. Ok (deeds.number z))
plain i (json.string s) = Ok (deeds.text (units_of_chars (chars s)))
plain i (json.array ds) = Err (wrong_kind, i)
plain i (json.object ms) = Err (wrong_kind, i)

-- a grant: `name`, and one of `root`, `cell`, `module` and `value`
abbrev pub grant_forms : List Fields
grant_forms =
    (codes "name" ∷ codes "root" ∷ [])
    ∷ (codes "name" ∷ codes "cell" ∷ [])
    ∷ (codes "name" ∷ codes "module" ∷ [])
    ∷ (codes "name" ∷ codes "value" ∷ [])
    ∷ []

abbrev pub wish : ℕ → Data → Found Wish
wish i d =
    if is_some (get (codes "root") d) then chain (need units (codes "root") i d) (λ id. Ok (for_root id))
    else if is_some (get (codes "cell") d) then chain (need name (codes "cell") i d) (λ s. Ok (for_cell s))
    else if is_some (get (codes "module") d) then chain (need name (codes "module") i d) (λ s. Ok (for_module s))
    else chain (need plain (codes "value") i d) (λ v. Ok (for_plain v))

abbrev pub grant : ℕ → Data → Found (List ℕ × Wish)
grant i d =
    chain (object grant_forms i d) (λ _.
    chain (need grant_name (codes "name") i d) (λ s.
    chain (wish i d) (λ w.
    Ok (s, w))))

-- a module: `name`, `language`, `source`, and maybe `grants`, at most 64
abbrev pub module_forms : List Fields
module_forms = (codes "name" ∷ codes "language" ∷ codes "source" ∷ codes "grants" ∷ []) ∷ []

abbrev pub told : Bool → ℕ → Data → Found Told
told runs i d =
    chain (object module_forms i d) (λ _.
    chain (need name (codes "name") i d) (λ n.
    chain (need (language runs) (codes "language") i d) (λ l.
    chain (need text (codes "source") i d) (λ s.
    chain (may [] (all 64 grant) (codes "grants") i d) (λ ws.
    Ok (record { name = n; language = l; source = s; wishes = ws }))))))

-- an event: `call`, `key`, and maybe `args`; or `click`; or `input` and `text`; or `tick`
abbrev pub event_forms : List Fields
event_forms =
    (codes "call" ∷ codes "key" ∷ codes "args" ∷ [])
    ∷ (codes "click" ∷ [])
    ∷ (codes "input" ∷ codes "text" ∷ [])
    ∷ (codes "tick" ∷ [])
    ∷ []

abbrev pub call : ℕ → Data → Found Plan
call i d =
    chain (need name (codes "call") i d) (λ m.
    chain (need units (codes "key") i d) (λ k.
    chain (may [] (any_number plain) (codes "args") i d) (λ vs.
    Ok (for_call m k vs))))

abbrev pub click : ℕ → Data → Found Plan
click i d = chain (need units (codes "click") i d) (λ id. Ok (for_click id))

abbrev pub input : ℕ → Data → Found Plan
input i d =
    chain (need units (codes "input") i d) (λ id.
    chain (need units (codes "text") i d) (λ us.
    Ok (for_input id us)))

abbrev pub tick : ℕ → Data → Found Plan
tick i d = chain (need name (codes "tick") i d) (λ m. Ok (for_tick m))

-- an event without the first field of its form is read as a call, in which one is missing
abbrev pub asked : ℕ → Data → Found Plan
asked i d =
    if is_some (get (codes "click") d) then click i d
    else if is_some (get (codes "input") d) then input i d
    else if is_some (get (codes "tick") d) then tick i d
    else call i d

abbrev pub event : ℕ → Data → Found Plan
event i d = chain (object event_forms i d) (λ _. asked i d)

-- a URL by `http` or `https` (URL Standard, 4.4)
abbrev pub of_web : ℕ → Result Parts ParseError → Found Parts
of_web i (Ok u) = if is_web u.scheme then Ok u else Err (bad_name, i)
of_web i (Err e) = Err (bad_name, i)

abbrev pub web : ℕ → Data → Found Parts
web i d = chain (text i d) (λ s. of_web i (parse_url None s))

abbrev pub base : ℕ → Data → Found (Option Parts)
base i d = chain (web i d) (λ u. Ok (Some u))

-- a sheet: `root` and `css`
abbrev pub style_forms : List Fields
style_forms = (codes "root" ∷ codes "css" ∷ []) ∷ []

abbrev pub style : ℕ → Data → Found Style
style i d =
    chain (object style_forms i d) (λ _.
    chain (need units (codes "root") i d) (λ id.
    chain (need text (codes "css") i d) (λ s.
    Ok (record { root = id; css = s }))))

-- a page: `version`, maybe `html`, maybe `base`, maybe `styles`, maybe `cells`, `modules`, and maybe `events`
abbrev pub page_forms : List Fields
page_forms = (codes "version" ∷ codes "html" ∷ codes "base" ∷ codes "styles" ∷ codes "cells" ∷ codes "modules" ∷ codes "events" ∷ []) ∷ []

abbrev pub manifest : Bool → Data → Found Manifest
manifest runs d =
    chain (object page_forms 0 d) (λ _.
    chain (need version (codes "version") 0 d) (λ _.
    chain (may [] text (codes "html") 0 d) (λ h.
    chain (may None base (codes "base") 0 d) (λ b.
    chain (may [] (each 64 style) (codes "styles") 0 d) (λ ss.
    chain (may [] (each 64 name) (codes "cells") 0 d) (λ cs.
    chain (need (each 64 (told runs)) (codes "modules") 0 d) (λ ms.
    chain (may [] (each 10000 event) (codes "events") 0 d) (λ es.
    Ok (record { html = h; base = b; styles = ss; cells = cs; modules = ms; events = es })))))))))
