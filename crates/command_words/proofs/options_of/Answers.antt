use Rattle.std.proofs.Common.{◌≡◌, ◌∙◌, ap, ap₂, map, subst, rules, string_bytes, Option, Some, None, true, codes, option_map}
use Rattle.clap.specs.Simple.{App, app_of, app_of_fields, with_rule}
use Rattle.clap.specs.Walk.{rows_of, rule_of}
use Rattle.clap.specs.Matches.{found_of}
use Rattle.clap.specs.Words.{is_simple_and_free}
use Rattle.clap.specs.declared.parser.matches.ArgMatches.{ArgMatches}
use Rattle.clap.proofs.WalkLemmas.{first_value-rows, one_text-rows}
use Rattle.command_words.specs.Words.{options}
use Rattle.command_words.specs.Matched.{IsMatched, steps_in}
use Rattle.command_words.proofs.Agrees.{none_told, some_told}
use Rattle.command_words.proofs.Walks.{app, plain_app, steps_rule, touch_rule, unhelped, unnamed}
use Rattle.command_words.proofs.options_of.Goals as goal

pub returns-in-Some : goal.returns-in-Some
returns-in-Some c =
    let plain : app_of c.disable_help_flag.result ≡ plain_app =
    ap app_of_fields c.disable_help_flag.ensures ∙ ap unhelped (ap app_of_fields c.no_binary_name.ensures ∙ ap unnamed c.new-3.ensures.app) in
    let steps_is : rule_of c.long-steps.result ≡ steps_rule = search rules in
    let touch_is : rule_of c.action-touch.result ≡ touch_rule = search rules in
    let made : app_of c.in_ok-command.command ≡ app =
    c.in_ok-command.ensures.shape (search rules) ∙ ap₂ with_rule (c.in_ok-arg.ensures.shape (search rules) ∙ ap₂ with_rule plain steps_is) touch_is in
    let simple : is_simple_and_free (app_of c.in_ok-command.command) ≡ true = ap is_simple_and_free made in
    let words = map string_bytes c.args.words.now in
    let is = subst (λ (o : Option ArgMatches). IsMatched (app_of c.in_ok-command.command) words o) c.in-Some.is (c.in_ok-matches.ensures simple) in
    let matched = subst (λ (a : App). IsMatched a words (Some c.in-Some.matches)) made is in
    let found = found_of c.in-Some.matches in
    some_told words (rows_of found) c.options_in.result matched.0 matched.1
    (λ touch is_touch. c.options_in.ensures touch (one_text-rows found (codes "touch") ∙ is_touch)
    ∙ ap (λ o. option_map (λ n. options n touch) (steps_in o)) (first_value-rows found (codes "steps")))

pub returns-in-None : goal.returns-in-None
returns-in-None c =
    let plain : app_of c.disable_help_flag.result ≡ plain_app =
    ap app_of_fields c.disable_help_flag.ensures ∙ ap unhelped (ap app_of_fields c.no_binary_name.ensures ∙ ap unnamed c.new-3.ensures.app) in
    let steps_is : rule_of c.long-steps.result ≡ steps_rule = search rules in
    let touch_is : rule_of c.action-touch.result ≡ touch_rule = search rules in
    let made : app_of c.in_ok-command.command ≡ app =
    c.in_ok-command.ensures.shape (search rules) ∙ ap₂ with_rule (c.in_ok-arg.ensures.shape (search rules) ∙ ap₂ with_rule plain steps_is) touch_is in
    let simple : is_simple_and_free (app_of c.in_ok-command.command) ≡ true = ap is_simple_and_free made in
    let words = map string_bytes c.args.words.now in
    let is = subst (λ (o : Option ArgMatches). IsMatched (app_of c.in_ok-command.command) words o) c.in-None.is (c.in_ok-matches.ensures simple) in
    none_told words (subst (λ (a : App). IsMatched a words None) made is)
