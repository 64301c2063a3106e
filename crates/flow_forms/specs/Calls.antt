-- The subflows that flows call: their limits, their tags, and what they and the flows of a class may cause at most.
use Rattle.std.specs.Prelude.{ℕ, ◌+◌, ◌*◌, ◌==◌, if◌then◌else◌, List, [], ◌∷◌, length, Bool, true, false}
use Rattle.net_base.specs.declared.names.Tag.{Tag}
use Rattle.net_base.specs.Forms.{ListWithin}
use Rattle.net_base.specs.Values.{IsParty}
use Rattle.net_base.specs.Names.{IsKey}
use Rattle.ledger_types.specs.Txs.{IsTx, IsSignedTx}
use Rattle.ledger_types.specs.Requests.{IsRequest}
use Rattle.ledger_types.specs.Vaults.{IsHeld}
use Rattle.flow_machine.specs.declared.acts.Act.{Act}
use Rattle.flow_machine.specs.declared.acts.Act.TheVariants as act
use Rattle.flow_forms.specs.declared.calls.Call.{Call}
use Rattle.flow_forms.specs.declared.calls.Call.TheVariants as call

-- the limits of a call
abbrev pub IsCall : Call → Type 0
IsCall (call.Client request) = IsRequest request
IsCall (call.Resolve key stx) = IsKey key × IsSignedTx stx
IsCall (call.Finality tx peers) = IsTx tx × ListWithin 255 IsParty peers
IsCall (call.Give key coins) = IsKey key × ListWithin 64 IsHeld coins
IsCall (call.Take key) = IsKey key

-- the tags of a call
abbrev pub call_tags : Call → List Tag
call_tags (call.Client request) = request.tag ∷ []
call_tags (call.Resolve key stx) = stx.tags
call_tags (call.Finality tx peers) = []
call_tags (call.Give key coins) = []
call_tags (call.Take key) = []

-- the most that the called frame may cause
abbrev pub call_weight : Call → ℕ
call_weight (call.Client request) = 37
call_weight (call.Resolve key stx) = 2563
call_weight (call.Finality tx peers) = 2298 + 2573 * length peers
call_weight (call.Give key coins) = 2307
call_weight (call.Take key) = 164290

-- the most that an Init of a class may cause: 2 is the echo's, 20 the notary service's, 21 the receiver's, 22 the signer's
abbrev pub load_of : ℕ → ℕ
load_of class = if class == 2 then 3002 else if class == 20 then 5 else if class == 21 then 2566 else if class == 22 then 6 else 0

-- what an act costs
abbrev pub price : Act Call → ℕ
price (act.Open to class first) = load_of class + 6
price (act.Send key value) = 2
price (act.Sub child) = call_weight child + 1
price other = 1

-- whether it is an act after which the flow goes on
abbrev pub is_asking : {F : Type 0} → Act F → Bool
is_asking (act.Return value) = false
is_asking (act.Fail code) = false
is_asking other = true
