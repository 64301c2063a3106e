use Rattle.std.proofs.Common.{filter, slice_get, ℕ, List, ap, ◌∙◌}
use Rattle.std.specs.List.{range_with_len}
use Rattle.net_base.specs.Parties.{has_party, members}
use Rattle.finality_flows.specs.Finality.{is_neither, others}
use Rattle.finality_flows.proofs.Filters.{filter_both}
use Rattle.finality_flows.proofs.signers.next_signer.Goals as goal

pub returns : goal.returns
unfolding others members
returns c =
    let here = c.args.here.now in
    let signers = c.needed_signers.result in
    c.nth_other.ensures
    ∙ ap (λ (l : List ℕ). slice_get l c.args.asked) (filter_both (λ p. has_party signers p) (is_neither here.me here.notary) (range_with_len 0 16) ∙ ap (λ (l : List ℕ). filter (is_neither here.me here.notary) l) c.needed_signers.ensures.all)
