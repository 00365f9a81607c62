-- A URL that is read of a text with a scheme has that scheme.
use Rattle.std.proofs.Common.{◌≡◌, ℕ, Bool, true, false, not, ◌&&◌, ◌==◌, List, [], drop, take, Option, Some, None, Ok, Err, refl, sym, subst, ◌∙◌}
use Rattle.std.specs.Prelude.{IfOk, IfSome, option_map, codes, bytes_eq, unwrap_or, if◌then◌else◌}
use Rattle.std.specs.Option.{option_or}
use Rattle.std.proofs.lemmas.Bool.{cond_both, and_parts}
use Rattle.std.proofs.lemmas.Slice.Eq.{bytes_eq-Decides}
use Rattle.url.specs.Input.{is_empty, lowercase, split_once, rsplit_once, trim_c0_control_and_space, strip_tabs_and_new_lines}
use Rattle.url.specs.Scheme.{scheme_type, is_special, is_file}
use Rattle.percent_encoding.specs.Percent.{percent_encode}
use Rattle.url.specs.declared.sets.TheConstants.{OPAQUE_PATH}
use Rattle.url.specs.declared.error.ParseError.TheVariants.{EmptyHost}
use Rattle.url.specs.declared.host.Host.{Host}
use Rattle.url.specs.declared.host.Host.TheVariants.{Domain}
use Rattle.url.specs.declared.scheme.SchemeType.TheVariants.{File, NotSpecial}
use Rattle.url.specs.Host.{parse_host, parse_file_host}
use Rattle.url.specs.Head.{scheme_only, with_authority}
use Rattle.url.specs.Path.{is_windows_drive_letter, parse_path, parse_path_start, escape_end, segment_len}
use Rattle.url.specs.Parts.{Parts, kind_of}
use Rattle.url.specs.Parser.{Parsed, and_then, with_path, leading_slashes, skip_slashes, after_slashes, split_port, parse_port, lacks_host, parse_authority, after_double_slash, parse_non_special, parse_relative, file_with_host, after_file_double_slash, inherit, inherit_file, file_start, parse_file, parse_not_file, parse_body, with_tail, end_path, parse_all, parse_parts, base_for_scheme, split_scheme, parse_by_scheme, parse_url}
use Rattle.url.proofs.SchemeLemmas.{file_from_is_file, file_from_scheme_type}

-- what is read, where it is a URL, has this scheme
pub record Of (s : List ℕ) (r : Parsed Parts) : Type 0 where
  pub is : IfOk r (λ u. u.scheme ≡ s)

next : {T : Type 0} (s : List ℕ) (r : Parsed T) (f : T → Parsed Parts) → ((x : T) → Of s (f x)) → Of s (and_then r f)
next s (Ok x) f h = h x
next s (Err e) f h = record { is = tt }

-- the same, where what comes first has it
after : (s : List ℕ) (r : Parsed Parts) (f : Parts → Parsed Parts) → Of s r → ((u : Parts) → u.scheme ≡ s → Of s (f u)) → Of s (and_then r f)
after s (Ok u) f h k = k u h.is
after s (Err e) f h k = record { is = tt }

either : (s : List ℕ) (b : Bool) (x y : Parsed Parts) → (b ≡ true → Of s x) → (b ≡ false → Of s y) → Of s (if b then x else y)
either s b x y h k = cond_both b x y (Of s) h k

authority : (s bytes : List ℕ) → Of s (parse_authority s bytes)
unfolding parse_authority
authority s bytes =
    let at = rsplit_once 64 bytes in
    let split = split_port at.1 in
    let user = split_once 58 (unwrap_or at.0 []) in
    let made : Host (List ℕ) → Option ℕ → Parsed Parts = λ host port. Ok (with_authority s user.0 (unwrap_or user.1 []) host port) in
    let read : Host (List ℕ) → Parsed Parts = λ host. and_then (parse_port s (unwrap_or split.1 [])) (made host) in
    either s (lacks_host at.0 split.0 split.1) (Err EmptyHost) (and_then (parse_host (scheme_type s) split.0) read)
    (λ _. record { is = tt })
    (λ _. next s (parse_host (scheme_type s) split.0) read (λ host. next s (parse_port s (unwrap_or split.1 [])) (made host) (λ port. record { is = refl })))

double_slash : (s bytes : List ℕ) → Of s (after_double_slash s bytes)
unfolding after_double_slash
double_slash s bytes = after s (parse_authority s (take (segment_len (scheme_type s) bytes) bytes)) _ (authority s _) (λ u h. record { is = h })

non_special : (s body : List ℕ) → Of s (parse_non_special s body)
unfolding parse_non_special
non_special s body =
    let slashes = leading_slashes NotSpecial body in
    let rooted : Parsed Parts = Ok (with_path (scheme_only s) (parse_path NotSpecial [] (drop 1 body))) in
    let opaque : Parsed Parts = Ok (with_path (scheme_only s) (percent_encode OPAQUE_PATH body)) in
    either s (slashes == 2) (after_double_slash s (drop 2 body)) (if slashes == 1 then rooted else opaque) (λ _. double_slash s (drop 2 body))
    (λ _. either s (slashes == 1) rooted opaque (λ _. record { is = refl }) (λ _. record { is = refl }))

relative : (b : Parts) (body : List ℕ) → Of b.scheme (parse_relative b body)
unfolding parse_relative
relative b body =
    let slashes = leading_slashes (kind_of b) body in
    let from = inherit b (slashes == 0) in
    let rest = after_slashes (kind_of b) body in
    either b.scheme (slashes == 2) (after_double_slash b.scheme rest) (Ok (with_path from (parse_path (kind_of b) from.path (drop slashes body)))) (λ _. double_slash b.scheme rest)
    (λ _. record { is = refl })

file_slashes : (bytes : List ℕ) → Of (codes "file") (after_file_double_slash bytes)
unfolding after_file_double_slash
file_slashes bytes =
    let len = segment_len File bytes in
    let made : Host (List ℕ) → Parsed Parts = λ host. Ok (with_path (file_with_host host) (parse_path_start File [] (drop len bytes))) in
    either (codes "file") (is_windows_drive_letter (take len bytes)) (Ok (with_path (file_with_host (Domain [])) (parse_path File [] bytes))) (and_then (parse_file_host (take len bytes)) made)
    (λ _. record { is = refl }) (λ _. next (codes "file") (parse_file_host (take len bytes)) made (λ host. record { is = refl }))

abbrev pub HasScheme : List ℕ → Option Parts → Type 0
HasScheme s base = IfSome base (λ b. b.scheme ≡ s)

start : (base : Option Parts) (r : Bool) (p : List ℕ) → HasScheme (codes "file") base → (file_start base r p).scheme ≡ codes "file"
unfolding inherit_file
start (Some b) r p h = h
start None r p h = refl

file : (base : Option Parts) (body : List ℕ) → HasScheme (codes "file") base → Of (codes "file") (parse_file base body)
unfolding parse_file
file base body h =
    let slashes = leading_slashes File body in
    let rest = drop slashes body in
    let from = file_start base (slashes == 0) rest in
    either (codes "file") (slashes == 2) (after_file_double_slash rest) (Ok (with_path from (parse_path File from.path rest))) (λ _. file_slashes rest)
    (λ _. record { is = start base (slashes == 0) rest h })

not_file : (s : List ℕ) (base : Option Parts) (body : List ℕ) → HasScheme s base → Of s (parse_not_file s base body)
not_file s (Some b) body h = subst (λ x. Of x (parse_relative b body)) h (relative b body)
not_file s None body h =
    either s (is_special (scheme_type s)) (after_double_slash s (skip_slashes body)) (parse_non_special s body) (λ _. double_slash s (skip_slashes body)) (λ _. non_special s body)

body_of : (s : List ℕ) (base : Option Parts) (body : List ℕ) → HasScheme s base → Of s (parse_body s base body)
unfolding parse_body
body_of s base body h =
    either s (is_file (scheme_type s)) (parse_file base body) (parse_not_file s base body)
    (λ f.
    let e = file_from_scheme_type s (file_from_is_file (scheme_type s) f) in
    subst (λ x. Of x (parse_file base body)) (sym e) (file base body (subst (λ x. HasScheme x base) e h)))
    (λ _. not_file s base body h)

ended : (t : Bool) (u : Parts) → (end_path t u).scheme ≡ u.scheme
ended t u = cond_both (not (is_special (kind_of u)) && t) (with_path u (escape_end u.path)) u (λ v. v.scheme ≡ u.scheme) (λ _. refl) (λ _. refl)

all : (s : List ℕ) (base : Option Parts) (body : List ℕ) (q f : Option (List ℕ)) → HasScheme s base → Of s (parse_all s base body q f)
all s base body q f h = after s (parse_body s base body) _ (body_of s base body h) (λ u e. record { is = ended _ u ∙ e })

parts : (s : List ℕ) (base : Option Parts) (body : List ℕ) (q f : Option (List ℕ)) → HasScheme s base → Of s (parse_parts s base body q f)
unfolding parse_parts
parts s None body q f h = all s None body q f tt
parts s (Some b) body q f h =
    either s (is_empty body) (Ok (with_tail b (option_or q b.query) f)) (parse_all s (Some b) body q f) (λ _. record { is = h }) (λ _. all s (Some b) body q f h)

fitting : (base : Option Parts) (s : List ℕ) → HasScheme s (base_for_scheme base s)
fitting None s = tt
fitting (Some b) s =
    cond_both (is_special (kind_of b) && bytes_eq b.scheme s) (Some b) None (HasScheme s)
    (λ test. (bytes_eq-Decides b.scheme s).0 (and_parts (is_special (kind_of b)) (bytes_eq b.scheme s) test).1) (λ _. tt)

abbrev pub scheme_in : Option (List ℕ × List ℕ) → Option (List ℕ)
scheme_in o = option_map (λ s. lowercase s.0) o

by_scheme : (o : Option (List ℕ × List ℕ)) (s : List ℕ) (base : Option Parts) (body : List ℕ) (q f : Option (List ℕ)) → scheme_in o ≡ Some s → Of s (parse_by_scheme o base body q f)
by_scheme None s base body q f e = absurd cc
by_scheme (Some x) s base body q f e =
    let same : lowercase x.0 ≡ s = cc in
    subst (λ y. Of y (parse_parts (lowercase x.0) (base_for_scheme base (lowercase x.0)) x.1 q f)) same (parts (lowercase x.0) (base_for_scheme base (lowercase x.0)) x.1 q f (fitting base (lowercase x.0)))

abbrev pub before : List ℕ → List ℕ
before input = (split_once 63 (split_once 35 (strip_tabs_and_new_lines (trim_c0_control_and_space input))).0).0

pub parsed_scheme : (base : Option Parts) (input s : List ℕ) → scheme_in (split_scheme (before input)) ≡ Some s → IfOk (parse_url base input) (λ u. u.scheme ≡ s)
unfolding parse_url
parsed_scheme base input s e = (by_scheme (split_scheme (before input)) s base _ _ _ e).is

-- without a scheme and without a base no URL is read
by_none : (o : Option (List ℕ × List ℕ)) (body : List ℕ) (q f : Option (List ℕ)) → scheme_in o ≡ None → IfOk (parse_by_scheme o None body q f) (λ u. ⊥)
by_none None body q f e = tt
by_none (Some x) body q f e = absurd cc

pub parsed_none : (input : List ℕ) → scheme_in (split_scheme (before input)) ≡ None → IfOk (parse_url None input) (λ u. ⊥)
unfolding parse_url
parsed_none input e = by_none (split_scheme (before input)) _ _ _ e
