use Rattle.std.proofs.Common.{◌&&◌, ℕ, filter, slice_get, rules, tests, arith, ap, sym, ◌∙◌}
use Rattle.std.specs.List.{range_with_len}
use Rattle.std.proofs.lemmas.Iterator.{YieldsList-from_range}
use Rattle.std.proofs.lemmas.Iterator.Adapters.{option_map_id}
use Rattle.std.proofs.lemmas.Iterator.Consumers.{nth_from_yields_List, YieldsList-from_filter}
use Rattle.net_base.specs.Parties.{has_party}
use Rattle.finality_flows.specs.Finality.{is_neither}
use Rattle.finality_flows.proofs.signers.nth_other.Goals as goal

pub returns : goal.returns
returns c =
    let test = λ (p : ℕ). has_party c.args.signers p && is_neither c.args.me c.args.notary p in
    sym (option_map_id c.nth.result)
    ∙ nth_from_yields_List c.nth.result _ _ c.nth.ensures.ran (YieldsList-from_filter _ test (YieldsList-from_range 0 c.args.count c.args.count c.filter.ensures.source (omega arith)) c.filter.ensures.closure (λ x r q k. search (rules, tests)))
    ∙ ap (λ (n : ℕ). slice_get (filter test (range_with_len 0 c.args.count)) n) c.from.ensures
