use Rattle.net_model.specs.Environment.{meaning}
use Rattle.std.proofs.Common.{◌≡◌, ◌∙◌, ◌+◌, refl, arith, ap, length, rules, add-one, take, ◌++◌, ◌∷◌, [], length-append, true, false}
use Rattle.std.proofs.lemmas.Option.{slice_get_read}
use Rattle.network_core.proofs.Pairing.{links_all, links_count, nets_end, nets_more, pairs_none, pairs_more, pairs_end, pairs_all, pairs_worlds, split_there}
use Rattle.network_core.specs.Answers.{said}
use Rattle.network_core.specs.Following.{NetServe, none}
use Rattle.network_core.proofs.net.Net.apply_all.Goals as goal

pub steps-init : goal.steps-init
steps-init g c = record { pairs = pairs_none (meaning g.F.FlowSet.machine g.F.Spelt.reading (g.J.Judge.judges c.args.contracts.now)) _ _ c.requires.0; answers = none refl c.requires.0 refl; nodes = refl; count = omega (arith, c.args.outcomes.now.ok.0, ap length c.requires.0); spare = c.requires.1 }

pub returns-in_default-clause-pairs : goal.returns-in_default-clause-pairs
returns-in_default-clause-pairs g c =
    let steps = c.args.steps.now in
    let at = slice_get_read steps (length steps) c.steps.step-index c.step-item.result refl (omega arith) c.step-item.is in
    pairs_end (meaning g.F.FlowSet.machine g.F.Spelt.reading (g.J.Judge.judges c.args.contracts.now)) _ _ _ steps _ _ _ c.step-item.result c.steps.invariant.pairs (rw c.in_default.is at c.apply.ensures.pairs) (split_there steps c.steps.step-index c.step-item.result at).0

pub returns-in_default-clause-worlds : goal.returns-in_default-clause-worlds
returns-in_default-clause-worlds g c = pairs_worlds (meaning g.F.FlowSet.machine g.F.Spelt.reading (g.J.Judge.judges c.args.contracts.now)) _ _ c.args.steps.now _ false (returns-in_default-clause-pairs g c)

pub returns-in_default-clause-answers : goal.returns-in_default-clause-answers
returns-in_default-clause-answers g c =
    let steps = c.args.steps.now in
    let at = slice_get_read steps (length steps) c.steps.step-index c.step-item.result refl (omega arith) c.step-item.is in
    nets_end (meaning g.F.FlowSet.machine g.F.Spelt.reading (g.J.Judge.judges c.args.contracts.now)) c.args.self.now c.steps.self c.apply.new.self c.apply.result steps _ _ _ c.step-item.result c.steps.invariant.answers c.apply.ensures.answers (ap said c.in_default.is) (split_there steps c.steps.step-index c.step-item.result at).0

pub returns-in_default-clause-count : goal.returns-in_default-clause-count
returns-in_default-clause-count g c = c.apply.ensures.count ∙ c.steps.invariant.nodes

pub steps-preserved : goal.steps-preserved
steps-preserved g c =
    let steps = c.args.steps.now in
    let i = c.steps.step-index in
    let at = slice_get_read steps (length steps) i c.step-item.result refl (omega arith) c.step-item.is in
    let two = split_there steps i c.step-item.result at in
    let pushed : c.push.new.self.items ≡ c.steps.outcomes.items ++ c.in-Ok.outcome ∷ [] = rw c.unwrap.ensures at c.push.ensures.items in
    let longer : take (i + 1) steps ≡ take i steps ++ c.step-item.result ∷ [] = rw add-one two.1 in
    record {
      pairs = pairs_more (meaning g.F.FlowSet.machine g.F.Spelt.reading (g.J.Judge.judges c.args.contracts.now)) _ _ _ _ _ _ _ c.step-item.result c.in-Ok.outcome c.steps.invariant.pairs (rw c.in-Ok.is at c.apply.ensures.pairs) longer pushed;
      answers = nets_more (meaning g.F.FlowSet.machine g.F.Spelt.reading (g.J.Judge.judges c.args.contracts.now)) c.args.self.now c.steps.self c.apply.new.self c.apply.result _ _ _ _ c.step-item.result c.in-Ok.outcome c.steps.invariant.answers c.apply.ensures.answers c.in-Ok.is longer pushed;
      nodes = c.apply.ensures.count ∙ c.steps.invariant.nodes;
      count = omega (arith, c.steps.invariant.count, c.push.new.self.ok.0, c.steps.outcomes.ok.0, length-append c.steps.outcomes.items (c.in-Ok.outcome ∷ []), ap length pushed);
      spare = search rules;
    }

pub returns-clause-pairs : goal.returns-clause-pairs
returns-clause-pairs g c = pairs_all (meaning g.F.FlowSet.machine g.F.Spelt.reading (g.J.Judge.judges c.args.contracts.now)) _ _ c.args.steps.now c.steps.step-index _ c.steps-test.false c.steps.invariant.pairs

pub returns-clause-worlds : goal.returns-clause-worlds
returns-clause-worlds g c = pairs_worlds (meaning g.F.FlowSet.machine g.F.Spelt.reading (g.J.Judge.judges c.args.contracts.now)) _ _ c.args.steps.now _ true (returns-clause-pairs g c)

pub returns-clause-answers : goal.returns-clause-answers
returns-clause-answers g c = links_all (NetServe (meaning g.F.FlowSet.machine g.F.Spelt.reading (g.J.Judge.judges c.args.contracts.now))) c.args.steps.now c.steps.step-index c.steps.outcomes.items c.args.self.now c.steps.self c.steps-test.false c.steps.invariant.answers

pub returns-clause-all : goal.returns-clause-all
returns-clause-all g c is = links_count (NetServe (meaning g.F.FlowSet.machine g.F.Spelt.reading (g.J.Judge.judges c.args.contracts.now))) c.args.steps.now c.steps.outcomes.items c.args.self.now c.steps.self (returns-clause-answers g c)
