-- The contract of IOUs accepts a debt.
use Rattle.std.specs.Prelude.{◌≡◌, ◌==◌, not, nat_lt, [], ◌∷◌, Bool, true, false, None, refl}
use Rattle.std.proofs.Common.{arith}
use Rattle.std.proofs.lemmas.Bool.{and_parts, ne_eqb}
use Rattle.ledger_types.specs.Names.{party_eq}
use Rattle.ledger_types.specs.Rules.{first_true}
use Rattle.net_base.specs.Parties.{has_party}
use Rattle.small_contracts.specs.Ious.{has_senseless_iou, has_disputed_iou, ious_say}
use Rattle.flow_forms.specs.Shared.{peer_is_party}
use Rattle.flow_txs.specs.Making.{both}
use Rattle.flow_txs.proofs.Signers.{both_have_first, both_have_second}
use Rattle.deal_flows.specs.Iou.{debt}
use Rattle.deal_flows.specs.IouAccepted.{IouIsAccepted}

-- where no clause refuses
none_refuses : (a b c d : Bool) → a ≡ false → b ≡ false → c ≡ false → d ≡ false → first_true ((1, a) ∷ (2, b) ∷ (3, c) ∷ (4, d) ∷ []) ≡ None
none_refuses a b c d ha hb hc hd = rw (ha, hb, hc, hd) refl

is_not : (b : Bool) → not b ≡ true → b ≡ false
is_not true h = absurd cc
is_not false h = refl

pub iou_is_accepted : IouIsAccepted
unfolding ious_say
iou_is_accepted i here place peer some =
    let tx = debt i here in
    let other : party_eq i.lender here.me ≡ false = is_not (i.lender.0 == here.me.0) (and_parts (nat_lt i.lender.0 here.nodes) (not (i.lender.0 == here.me.0)) peer).1 in
    let worth : (i.amount == 0) ≡ false = ne_eqb i.amount 0 (λ e. omega (arith, some, e)) in
    let lender : has_party (both i.lender here.me) i.lender.0 ≡ true = both_have_first i.lender here.me (peer_is_party i.lender.0 here peer place) in
    let borrower : has_party (both i.lender here.me) here.me.0 ≡ true = both_have_second i.lender here.me place.me in
    none_refuses (has_senseless_iou tx) (has_disputed_iou tx) false false (rw (worth, other) refl) (rw (lender, borrower) refl) refl refl
