use Rattle.std.proofs.Common.{◌≡◌, ◌∙◌, ap, map, subst, string_bytes, Option, Some, None, true}
use Rattle.clap.specs.Simple.{App, app_of, app_of_fields}
use Rattle.clap.specs.Words.{is_simple_and_free}
use Rattle.clap.specs.declared.parser.matches.ArgMatches.{ArgMatches}
use Rattle.command_words.specs.Matched.{IsMatched}
use Rattle.command_words.proofs.Agrees.{plain_none, plain_some}
use Rattle.command_words.proofs.Walks.{plain_app, unhelped, unnamed}
use Rattle.command_words.proofs.alone.Goals as goal

pub returns-in-Some : goal.returns-in-Some
returns-in-Some c =
    let made : app_of c.disable_help_flag-plain.result ≡ plain_app =
    ap app_of_fields c.disable_help_flag-plain.ensures ∙ ap unhelped (ap app_of_fields c.no_binary_name.ensures ∙ ap unnamed c.new.ensures.app) in
    let simple : is_simple_and_free (app_of c.disable_help_flag-plain.result) ≡ true = ap is_simple_and_free made in
    let words = map string_bytes c.args.words.now in
    let is = subst (λ (o : Option ArgMatches). IsMatched (app_of c.disable_help_flag-plain.result) words o) c.in-Some.is (c.in_ok-_matches.ensures simple) in
    plain_some c.args.command words (subst (λ (a : App). IsMatched a words (Some c.in-Some._matches)) made is).0

pub returns-in-None : goal.returns-in-None
returns-in-None c =
    let made : app_of c.disable_help_flag-plain.result ≡ plain_app =
    ap app_of_fields c.disable_help_flag-plain.ensures ∙ ap unhelped (ap app_of_fields c.no_binary_name.ensures ∙ ap unnamed c.new.ensures.app) in
    let simple : is_simple_and_free (app_of c.disable_help_flag-plain.result) ≡ true = ap is_simple_and_free made in
    let words = map string_bytes c.args.words.now in
    let is = subst (λ (o : Option ArgMatches). IsMatched (app_of c.disable_help_flag-plain.result) words o) c.in-None.is (c.in_ok-_matches.ensures simple) in
    plain_none c.args.command words (subst (λ (a : App). IsMatched a words None) made is)
