-- How a flow ends that has its transaction made final.
use Rattle.net_base.specs.declared.values.Hash32.{Hash32}
use Rattle.ledger_types.specs.declared.value.Value.TheVariants as value
use Rattle.flow_machine.specs.declared.acts.Resumed.TheVariants as resumed
use Rattle.flow_forms.specs.declared.forms.Goes.{Goes}
use Rattle.flow_forms.specs.declared.forms.Goes.TheVariants.{Ends}
use Rattle.flow_forms.specs.Usual.{Resumed, unnamed}

-- the id that finality returns is kept and returned
abbrev pub concluded : {P S : Type 0} → (S → Hash32 → S) → S → Resumed → Goes P S
concluded with_id s (resumed.Returned (value.Id x)) = Ends (with_id s x) (value.Id x)
concluded with_id s other = unnamed s other
