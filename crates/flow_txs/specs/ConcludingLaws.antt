-- What a flow owes that ends so.
use Rattle.std.specs.Prelude.{◌≡◌, [], refl}
use Rattle.net_base.specs.declared.values.Hash32.{Hash32}
use Rattle.net_base.specs.Values.{IsHash}
use Rattle.ledger_types.specs.declared.value.Value.TheVariants as value
use Rattle.flow_machine.specs.declared.acts.Resumed.TheVariants as resumed
use Rattle.flow_forms.specs.Usual.{Place, Resumed, Form, Owes, unnamed_owes, arith}
use Rattle.flow_txs.specs.Concluding.{concluded}

-- The limits of its fields let it keep an id, and they have no tag.
pub concluded_owes : {P S : Type 0} (form : Form P S) (within : S → Type 0) (with_id : S → Hash32 → S) (s : S) (with : Resumed) (here : Place) → ((x : Hash32) → within s → IsHash x → within (with_id s x)) → ((t : S) → form.tags t ≡ []) → Owes form within 1 s with here (concluded with_id s with)
concluded_owes form within with_id s (resumed.Returned (value.Id x)) here keeps bare = record {
  limits = λ h small place. (keeps x h small, small);
  tags = λ test old given. let none = bare (with_id s x) in (rw none refl, refl);
  falls = omega arith;
  asks = refl;
}
concluded_owes form within with_id s other here keeps bare = unnamed_owes form within 1 s other here (omega arith)
