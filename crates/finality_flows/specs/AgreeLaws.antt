-- The laws of agreeing.
use Rattle.std.specs.Prelude.{◌≡◌, Option, Some, None, option_map, refl}
use Rattle.ledger_types.specs.declared.tx.Tx.{Tx}
use Rattle.ledger_types.specs.declared.value.Value.TheVariants as value
use Rattle.ledger_types.specs.declared.verdict.Verdict.TheVariants as verdict
use Rattle.ledger_types.specs.Signatures.{tx_id}
use Rattle.ledger_types.specs.Txs.{IsTx}
use Rattle.flow_machine.specs.declared.acts.Resumed.TheVariants as resumed
use Rattle.flow_forms.specs.declared.forms.Goes.TheVariants.{Stops}
use Rattle.flow_forms.specs.Usual.{Place, Resumed, Owes, IsForm, unnamed_owes, owes_if, same, fails_owes, there_within, AnswersWithin, arith}
use Rattle.finality_flows.specs.declared.agree.Agree.{Agree}
use Rattle.finality_flows.specs.declared.agree.AgreePlace.{AgreePlace}
use Rattle.finality_flows.specs.declared.agree.AgreePlace.TheVariants.{Receiving, Verifying, Signing, Sending}
use Rattle.finality_flows.specs.Agree.{only_lends, fresh, judges, signs, received, verified, signed, sent, moves, weight, form, kept}
use Rattle.finality_flows.specs.FinalityLaws.{id_long}

received_owes : (a : Agree) (with : Resumed) (here : Place) → Owes form kept.within 5 a with here (received a with here)
received_owes a (resumed.Got (value.Tx stx)) here =
    let with : Resumed = resumed.Got (value.Tx stx) in
    owes_if form kept.within 5 a with here (only_lends here.me stx.tx) (judges stx.tx a) (Stops a 56)
    (λ _. record { limits = λ h small place. ((h.0, (small.0, h.1.1)), small.0); tags = λ test old given. (old, refl); falls = omega arith; asks = refl })
    (λ _. fails_owes form kept.within 5 a a with here 56 (same form kept.within a with here) (omega arith) (omega arith))
received_owes a other here = unnamed_owes form kept.within 5 a other here (omega arith)

signs_owes : (a : Agree) (with : Resumed) (here : Place) (o : Option Tx) → a.tx ≡ o → Owes form kept.within 4 a with here (signs (option_map tx_id o) a)
signs_owes a with here None is = fails_owes form kept.within 4 a a with here 54 (same form kept.within a with here) (omega arith) (omega arith)
signs_owes a with here (Some t) is = record { limits = λ h small place. (h, id_long t (there_within IsTx a.tx t is h.1.0)); tags = λ test old given. (old, refl); falls = omega arith; asks = refl }

verified_owes : (a : Agree) (with : Resumed) (here : Place) → Owes form kept.within 4 a with here (verified a with)
verified_owes a (resumed.Verdict verdict.Accepted) here = signs_owes a (resumed.Verdict verdict.Accepted) here a.tx refl
verified_owes a other here = unnamed_owes form kept.within 4 a other here (omega arith)

signed_owes : (a : Agree) (with : Resumed) (here : Place) → Owes form kept.within 3 a with here (signed a with)
signed_owes a (resumed.Tagged t) here = record { limits = λ h small place. ((h.0, (h.1.0, small)), (h.0, (omega arith, ((small, tt), (omega arith, tt))))); tags = λ test old given. (given, given); falls = omega arith; asks = refl }
signed_owes a other here = unnamed_owes form kept.within 3 a other here (omega arith)

sent_owes : (a : Agree) (with : Resumed) (here : Place) → Owes form kept.within 1 a with here (sent a with)
sent_owes a resumed.Sent here = record { limits = λ h small place. (h, tt); tags = λ test old given. (old, refl); falls = omega arith; asks = refl }
sent_owes a other here = unnamed_owes form kept.within 1 a other here (omega arith)

moves_owe : (p : AgreePlace) (a : Agree) (with : Resumed) (here : Place) → Owes form kept.within (weight p a) a with here (moves p a with here)
moves_owe Receiving a with here = received_owes a with here
moves_owe Verifying a with here = verified_owes a with here
moves_owe Signing a with here = signed_owes a with here
moves_owe Sending a with here = sent_owes a with here

-- the machine owes nothing more
pub is_form : IsForm kept.within form
is_form = record { starts = λ a here. record { limits = λ h small place. (h, h.0); tags = λ test old given. (old, refl); falls = omega arith; asks = refl }; moves = moves_owe }

-- it answers an Init of class 22 within the load of the class
pub answers_within : AnswersWithin kept.within form 22 fresh
answers_within k = ((λ h. (h, (tt, tt))), (refl, omega arith))
