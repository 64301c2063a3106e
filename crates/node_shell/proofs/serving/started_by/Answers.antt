use Rattle.std.proofs.Common.{◌≡◌, map, string_bytes, sym, ◌∙◌, subst, [], take, drop, length, ◌-◌}
use Rattle.node_shell.specs.Lines.{put_in}
use Rattle.node_shell.specs.Responds.{recorded_seen}
use Rattle.node_shell.proofs.Filling.{starts_as, unmarked_stay, none_put_in}
use Rattle.node_shell.proofs.serving.started_by.Goals as goal

pub returns-then-not-has_mark : goal.returns-then-not-has_mark
returns-then-not-has_mark g c =
    let recorded = recorded_seen g.F.Spelt.reading c.args.net.now c.args.place in
    let args = map (λ s. string_bytes s) (take (length c.args.words.now - 3) (drop 3 c.args.words.now)) in
    starts_as g.F.FlowSet.machine (λ s. string_bytes s) c.args.words.now recorded args _ c.index-words-2.result c.as_str.result.now c.named_by.result c.requires c.index-words-2.is c.as_str.ensures.value
    (sym (unmarked_stay recorded args (sym c.has_mark.ensures ∙ c.if-not-has_mark.true))) c.named_by.ensures

pub returns-in-None : goal.returns-in-None
returns-in-None g c =
    let recorded = recorded_seen g.F.Spelt.reading c.args.net.now c.args.place in
    let args = map (λ s. string_bytes s) (take (length c.args.words.now - 3) (drop 3 c.args.words.now)) in
    let none : [] ≡ recorded = rw c.in-None.is at c.store_of.ensures in
    starts_as g.F.FlowSet.machine (λ s. string_bytes s) c.args.words.now recorded args _ c.index-words-2-in-None.result c.as_str-in-None.result.now c.named_by-in-None.result c.requires c.index-words-2-in-None.is c.as_str-in-None.ensures.value
    (subst (λ r. args ≡ map (put_in r) args) none (sym (none_put_in args))) c.named_by-in-None.ensures
