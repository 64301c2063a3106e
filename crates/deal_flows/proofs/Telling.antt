-- The contract of facts accepts a statement and a change.
use Rattle.std.specs.Prelude.{◌≡◌, ℕ, ◌||◌, not, [], ◌∷◌, Bool, false, Some, None, refl}
use Rattle.std.proofs.Common.{ap, ◌∙◌}
use Rattle.net_base.specs.declared.values.Party.{Party}
use Rattle.ledger_types.specs.declared.state.StateData.{StateData}
use Rattle.ledger_types.specs.declared.state.StateData.TheVariants as state
use Rattle.ledger_types.specs.declared.tx.Resolved.{Resolved}
use Rattle.ledger_types.specs.Names.{party_eq}
use Rattle.ledger_types.specs.Rules.{first_true}
use Rattle.small_contracts.specs.Facts.{has_unclaimed_fact, is_replaced, replaces_fact, tells_twice, facts_say}
use Rattle.flow_forms.specs.Ways.{if_some}
use Rattle.flow_txs.specs.Finding.{said_freely}
use Rattle.flow_txs.specs.FindingLaws.{taken_of, freely_says}
use Rattle.flow_txs.proofs.Signers.{same_party, alone_has}
use Rattle.deal_flows.specs.Fact.{statement}
use Rattle.deal_flows.specs.FactAccepted.{FactIsAccepted}
use Rattle.deal_flows.specs.Refact.{own_name, change}
use Rattle.deal_flows.specs.RefactAccepted.{RefactIsAccepted}

-- where no clause refuses
none_refuses : (a b c : Bool) → a ≡ false → b ≡ false → c ≡ false → first_true ((1, a) ∷ (2, b) ∷ (3, c) ∷ []) ≡ None
none_refuses a b c ha hb hc = rw (ha, hb, hc) refl

pub fact_is_accepted : FactIsAccepted
unfolding facts_say
fact_is_accepted f here me = let tx = statement f here in none_refuses (has_unclaimed_fact tx) false (tells_twice tx) (ap (λ (b : Bool). not (b || false) || false) (alone_has here.me me)) refl refl

-- what has an own name is a fact of the party
name_is : (me : Party) (body : StateData) (name : ℕ) → own_name me body ≡ Some name → (value : ℕ) × (body ≡ state.Fact me name value)
name_is me (state.Fact issuer other value) name e =
    let is = if_some (party_eq issuer me) e in
    let mine = same_party issuer me is.0 in
    (value, λ i. state.Fact (mine i) (is.1 i) value)
name_is me other name e = absurd cc

pub refact_is_accepted : RefactIsAccepted
unfolding facts_say
refact_is_accepted r found name here me is =
    let tx = change r name here in
    let resolved : Resolved = record { inputs = found ∷ []; references = [] } in
    let said = taken_of (own_name here.me) (said_freely found) name is in
    let fact = name_is here.me said.0 name said.1.1 in
    let signed : is_replaced tx found.body ≡ false = ap (is_replaced tx) (freely_says found said.0 said.1.0 ∙ fact.1) ∙ ap (λ (b : Bool). not (b || false)) (alone_has here.me me) in
    none_refuses (has_unclaimed_fact tx) (replaces_fact tx resolved) (tells_twice tx) (ap (λ (b : Bool). not (b || false) || false) (alone_has here.me me)) (rw signed refl) refl
