use Rattle.std.proofs.Common.{rules, ap, ap₂, ◌≡◌, ◌∙◌, codes, true}
use Rattle.clap.specs.Words.{App, app_of, with_rule, new_app}
use Rattle.clap.specs.Simple.{app_of_fields}
use Rattle.shell_words.specs.Program.{our_app, bare}
use Rattle.shell_words.proofs.options.command.Goals as goal

pub returns : goal.returns
returns c =
    let named : app_of c.no_binary_name.result ≡ record (app_of c.new.result) { top = record (app_of c.new.result).top { no_binary_name = true } } =
    ap app_of_fields c.no_binary_name.ensures in
    let bare_is : app_of c.no_binary_name.result ≡ bare = named ∙ ap (λ (a : App). record a { top = record a.top { no_binary_name = true } }) c.new.ensures.app in
    c.in_ok-command.ensures.shape (search rules)
    ∙ ap₂ with_rule (c.in_ok-arg-2.ensures.shape (search rules)
    ∙ ap₂ with_rule (c.in_ok-arg.ensures.shape (search rules) ∙ ap₂ with_rule bare_is c.nodes_arg-nodes.ensures.rule) c.notary_arg-notary.ensures.rule) c.dir_arg-dir.ensures.rule
