use Rattle.std.proofs.Common.{◌≤◌, sym, ap, subst, arith, List, length, map}
use Rattle.session_table.specs.Owned.{pair_of, keys_owned, IsFlowIndex}
use Rattle.session_table.specs.declared.owned.FlowPlace.{FlowPlace}
use Rattle.net_base.specs.declared.names.Key.{Key}
use Rattle.session_table.proofs.Owning.{few_owned, index_more, flow_place_free}
use Rattle.session_table.proofs.owned.Owned.push.Goals as goal

pub count_one-number-requires-clause-few : goal.count_one-number-requires-clause-few
count_one-number-requires-clause-few c =
    let s = c.self.inside in
    let count = c.self.invariant.counted c.args.flow in
    let few : length (keys_owned c.args.flow (map pair_of s.keys.entries)) ≤ length (map pair_of s.keys.entries) = few_owned c.args.flow (map pair_of s.keys.entries) in
    let same = ap (λ t. length t.list) c.self.view_is in
    omega (arith, count, few, same, c.requires.few)

pub put_key-requires-clause-free : goal.put_key-requires-clause-free
put_key-requires-clause-free c =
    let s = c.self.inside in
    flow_place_free s.keys.entries s.counts.entries c.args.flow c.count_one-number.result c.self.invariant c.count_one-number.ensures.number

pub invariant_of-self : goal.invariant_of-self
invariant_of-self c =
    let s = c.self.inside in
    subst (λ (l : List (FlowPlace × Key)). IsFlowIndex l c.count_one-number.new.counts.entries) (sym c.put_key.ensures.entries) (index_more s.keys.entries s.counts.entries c.count_one-number.new.counts.entries c.args.flow c.count_one-number.result c.args.key c.self.invariant c.count_one-number.ensures.number c.count_one-number.ensures.counts)
