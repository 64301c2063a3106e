use Rattle.std.proofs.Common.{ap, subst, refl, ◌∙◌, ◌≡◌, true, map, string_bytes}
use Rattle.std.proofs.lemmas.Result.{IfOk-weaker}
use Rattle.clap.specs.Words.{App, FailsBy, fault_of, is_simple_and_free}
use Rattle.clap.proofs.OnLiterals.{clap_on_literals}
use Rattle.shell_words.specs.Program.{our_app}
use Rattle.shell_words.proofs.OptionValues.{nodes_hold, notary_holds}
use Rattle.shell_words.proofs.program.parsed.Goals as goal

is_free : is_simple_and_free our_app ≡ true
unfolding clap_on_literals
is_free = refl

pub returns-clause-fails : goal.returns-clause-fails
returns-clause-fails c =
    let same = c.in_ok-command.ensures in
    let P : App → Type 0 = λ a. FailsBy (fault_of a (map (λ s. string_bytes s) c.args.words.now)) c.try_get_matches_from_mut.result in
    subst P same (c.try_get_matches_from_mut.ensures.kinds (ap is_simple_and_free same ∙ is_free))

pub returns-clause-nodes : goal.returns-clause-nodes
returns-clause-nodes c =
    IfOk-weaker c.try_get_matches_from_mut.result _ _
    (λ m h. nodes_hold _ _ m c.in_ok-command.ensures h.0 h.1) c.try_get_matches_from_mut.ensures.ok

pub returns-clause-notary : goal.returns-clause-notary
returns-clause-notary c =
    IfOk-weaker c.try_get_matches_from_mut.result _ _
    (λ m h. notary_holds _ _ m c.in_ok-command.ensures h.0 h.1) c.try_get_matches_from_mut.ensures.ok
