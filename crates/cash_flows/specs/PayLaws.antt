-- The laws of the payment.
use Rattle.std.specs.Prelude.{◌≡◌, ◌≤◌, ◌<◌, ◌^◌, ◌&&◌, ◌==◌, not, nat_lt, List, [], ◌++◌, length, Bool, true, false, refl, Option, Some, None, IfSome, if◌then◌else◌}
use Rattle.std.specs.List.{AllByRecursion}
use Rattle.std.specs.Int.{w64}
use Rattle.std.proofs.Common.{arith, subst}
use Rattle.std.proofs.lemmas.Bool.{ltb-true, and_parts}
use Rattle.std.proofs.lemmas.List.{length-map}
use Rattle.net_base.specs.declared.names.StateRef.{StateRef}
use Rattle.net_base.specs.Reading.{number}
use Rattle.net_base.specs.Forms.{option_of, ListWithin}
use Rattle.net_base.specs.Laws.{Laws}
use Rattle.net_base.specs.Combining.{pair_laws, iso_laws}
use Rattle.net_base.specs.Fields.{u64_laws, option_laws}
use Rattle.net_base.specs.Names.{IsStateRef, state_ref, state_ref_laws, token, token_laws}
use Rattle.net_base.specs.Values.{IsHash, hash, hash_laws, party, party_laws}
use Rattle.ledger_types.specs.declared.held.Held.{Held}
use Rattle.ledger_types.specs.Txs.{IsWindow, window, window_laws, IsTx}
use Rattle.ledger_types.specs.Vaults.{IsHeld}
use Rattle.ledger_types.proofs.Sizes.{joined, code_fits, number64_fits}
use Rattle.flow_machine.specs.declared.acts.Resumed.TheVariants as resumed
use Rattle.flow_machine.specs.Limits.{IsPlace}
use Rattle.flow_forms.specs.declared.forms.At.TheVariants as stands
use Rattle.flow_forms.specs.Shared.{stops_owes}
use Rattle.flow_forms.specs.Sizes.{option_fits, hash_fits}
use Rattle.flow_forms.specs.Usual.{Place, Resumed, Owes, IsForm, Numbers, places_of, IsAt, unnamed_owes, is_peer, Kept}
use Rattle.flow_forms.specs.Ways.{BeginsWithin}
use Rattle.cash_flows.specs.declared.pay.Pay.{Pay}
use Rattle.cash_flows.specs.declared.pay.PayPlace.{PayPlace}
use Rattle.cash_flows.specs.declared.pay.PayPlace.TheVariants.{Reserving, Paying}
use Rattle.flow_txs.specs.Words.{IsCurrency}
use Rattle.flow_txs.specs.Kinds.{reference_fits}
use Rattle.cash_flows.specs.Options.{ArePayOptions, window_fits}
use Rattle.cash_flows.specs.Making.{worth}
use Rattle.cash_flows.specs.Payment.{listed, payment}
use Rattle.flow_txs.specs.MakingLaws.{salt_is, alone_is}
use Rattle.flow_txs.specs.ConcludingLaws.{concluded_owes}
use Rattle.cash_flows.specs.MakingLaws.{references_are, rest_is}
use Rattle.cash_flows.specs.Pay.{PayArgs, is_in_range, fields_of, begins, reserved, with_id, moves, weight, form, IsPay, pay, pay_of, pay_at, place_number, places}

-- its fields' laws
pub pay_laws : Laws IsPay pay pay_at
unfolding pay_at
pay_laws = iso_laws pay_of (λ p. (p.to, (p.token, (p.amount, (p.window, (p.reference, p.id)))))) (λ _. refl) (λ _. refl) (pair_laws party_laws (pair_laws token_laws (pair_laws u64_laws (pair_laws (option_laws window_laws) (pair_laws (option_laws state_ref_laws) (option_laws hash_laws))))))

-- its places' laws
pub told : (callable : Bool) (p : PayPlace) → IsAt (places_of callable places place_number) (stands.Asking p)
told callable Reserving = refl
told callable other = refl

abbrev pub numbers : Numbers PayPlace
numbers = record { all = places; number = place_number; told = told; few = refl }

-- its fields have at most 102 bytes, so that a frame has at most 104
pub few : (p : Pay) → IsPay p → length (pay p) ≤ 102
few p h =
    let ids = joined (option_of state_ref p.reference) (option_of hash p.id) 37 33 (option_fits IsStateRef state_ref 36 reference_fits p.reference h.1.1.1.1.0) (option_fits IsHash hash 32 hash_fits p.id h.1.1.1.1.1) in
    let windowed = joined (option_of window p.window) (option_of state_ref p.reference ++ option_of hash p.id) 19 70 (option_fits IsWindow window 18 window_fits p.window h.1.1.1.0) ids in
    let counted = joined (number w64 p.amount) (option_of window p.window ++ (option_of state_ref p.reference ++ option_of hash p.id)) 8 89 (number64_fits p.amount) windowed in
    let held = joined (token p.token) (number w64 p.amount ++ (option_of window p.window ++ (option_of state_ref p.reference ++ option_of hash p.id))) 4 97 (joined (party p.token.issuer) p.token.code 1 3 (omega arith) (code_fits p.token.code h.1.0.1)) counted in
    joined (party p.to) (token p.token ++ (number w64 p.amount ++ (option_of window p.window ++ (option_of state_ref p.reference ++ option_of hash p.id)))) 1 101 (omega arith) held

pub short : (p : Pay) → IsPay p → length (pay p) ≤ 32766
short p h = omega (arith, few p h)

-- what it keeps
abbrev pub kept : Kept Pay
kept = record { exact = Unit {0}; within = IsPay; spelling = pay; reading = pay_at; laws = pay_laws; short = short }

-- ---- how it begins

-- the limits of its arguments
abbrev pub ArePayArgs : PayArgs → Type 0
ArePayArgs a = (a.first < 256) × (IsCurrency a.rest.first × ((a.rest.rest.first < 256) × ((a.rest.rest.rest.first < 2 ^ 64) × ArePayOptions a.rest.rest.rest.rest)))

begins_by : (a : PayArgs) (here : Place) (p : Pay) (test : Bool) → is_in_range a here ≡ test → (if test then Some (fields_of a) else None) ≡ Some p → (ArePayArgs a → IsPlace here → IsPay p) × (form.tags p ≡ [])
begins_by a here p true is e =
    let peer = and_parts (is_peer a.first here) (nat_lt a.rest.rest.first 16 && nat_lt 0 a.rest.rest.rest.first) is in
    let near = and_parts (nat_lt a.first here.nodes) (not (a.first == here.me.0)) peer.0 in
    let issuer = and_parts (nat_lt a.rest.rest.first 16) (nat_lt 0 a.rest.rest.rest.first) peer.1 in
    let same : fields_of a ≡ p = cc in
    subst (λ (x : Pay). (ArePayArgs a → IsPlace here → IsPay x) × (form.tags x ≡ [])) same (
      (λ h place. (
        omega (arith, ltb-true a.first here.nodes near.0, place.nodes),
        ((ltb-true a.rest.rest.first 16 issuer.0, h.1.0), (h.1.1.1.0, (h.1.1.1.1.0, (h.1.1.1.1.1, tt)))),
      )),
      refl,
    )
begins_by a here p false is e = absurd cc

pub begins_within : BeginsWithin ArePayArgs IsPay form.tags begins
begins_within a here p e = begins_by a here p (is_in_range a here) refl e

-- ---- the transaction

listed_is : (r : Option StateRef) → IfSome r IsStateRef → ListWithin 16 IsStateRef (listed r)
listed_is None h = (omega arith, tt)
listed_is (Some r) h = (omega arith, (h, tt))

-- the transaction of coins within their limits is within its own
payment_within : (p : Pay) (coins : List Held) (here : Place) → IsPay p → (length coins ≤ 64) × AllByRecursion IsHeld coins → IsPlace here → IsTx (payment p coins here)
payment_within p coins here h held place =
    let rest = rest_is here p.token p.amount (worth coins) (nat_lt p.amount (worth coins)) h.1.0 place in (
      salt_is here,
      (
        (omega (arith, held.0, length-map coins (λ (c : Held). c.reference)), references_are coins held.1),
        (
          (omega (arith, rest.0), (((h.1.0, (h.1.1.0, h.0)), (place.notary, tt)), rest.1)),
          (
            (omega arith, ((tt, alone_is here.me), tt)),
            ((omega arith, tt), (place.notary, (h.1.1.1.0, listed_is p.reference h.1.1.1.1.0))),
          ),
        ),
      ),
    )

-- ---- what it owes

reserved_owes : (p : Pay) (with : Resumed) (here : Place) → Owes form IsPay 4873 p with here (reserved p with here)
reserved_owes p (resumed.Coins coins) here = record {
  limits = λ h small place. (h, (payment_within p coins here h small place, (omega arith, (h.0, tt))));
  tags = λ test old given. (refl, refl);
  falls = omega arith;
  asks = refl;
}
reserved_owes p (resumed.Short sum) here = stops_owes form IsPay 4873 p p (resumed.Short sum) here 47 (omega arith) (omega arith) (λ h small. h) (λ test old. old)
reserved_owes p other here = unnamed_owes form IsPay 4873 p other here (omega arith)

moves_owe : (place : PayPlace) (p : Pay) (with : Resumed) (here : Place) → Owes form IsPay (weight place p) p with here (moves place p with here)
moves_owe Reserving p with here = reserved_owes p with here
moves_owe Paying p with here = concluded_owes form IsPay with_id p with here (λ x h small. (h.0, (h.1.0, (h.1.1.0, (h.1.1.1.0, (h.1.1.1.1.0, small)))))) (λ _. refl)

-- the machine owes nothing more
pub is_form : IsForm IsPay form
is_form = record {
  starts = λ p here. record { limits = λ h small place. (h, (h.1.0, h.1.1.0)); tags = λ test old given. (refl, refl); falls = omega arith; asks = refl };
  moves = moves_owe;
}
