use Rattle.std.proofs.Common.{◌≡◌, ◌≤◌, ◌+◌, ◌++◌, [], take, filter, vec_len, vec_capacity}
use Rattle.ledger_types.specs.Vaults.{is_relevant, outputs_from}
use Rattle.vault.proofs.states.add_relevant.Given as goal

abbrev pub invariant-loop-i : goal.invariant-loop-i
invariant-loop-i l = record {
  items : l.states.items ≡ l.fn.states.items ++ filter (λ h. is_relevant l.me h.state.body) (outputs_from [] l.id 0 (take l.i l.outputs));
  bound : vec_len l.states ≤ vec_len l.fn.states + l.i;
  capacity : vec_capacity l.fn.states ≤ vec_capacity l.states;
}
