-- How many bytes the fields of frames have at most.
use Rattle.std.specs.Prelude.{ℕ, ◌+◌, ◌*◌, ◌≤◌, List, length, Option, Some, None, IfSome}
use Rattle.std.specs.Int.{w32}
use Rattle.std.proofs.Common.{arith}
use Rattle.std.proofs.Math.Nat.{mul-le-mul_right}
use Rattle.net_base.specs.declared.names.Key.{Key}
use Rattle.net_base.specs.declared.values.Hash32.{Hash32}
use Rattle.net_base.specs.Reading.{number}
use Rattle.net_base.specs.Forms.{option_of, list8, ListWithin}
use Rattle.net_base.specs.Values.{IsHash, hash, party}
use Rattle.net_base.specs.Names.{IsKey, key}
use Rattle.ledger_types.proofs.Sizes.{items_fit, joined, number32_fits}

-- a value that may lack
pub option_fits : {V : Type 0} (within : V → Type 0) (spelling : V → List ℕ) (n : ℕ) → ((v : V) → within v → length (spelling v) ≤ n) → (o : Option V) → IfSome o within → length (option_of spelling o) ≤ 1 + n
option_fits within spelling n fits None h = omega arith
option_fits within spelling n fits (Some v) h = omega (arith, fits v h)

-- items of at most n bytes, behind a byte of count
pub list_fits : {V : Type 0} (within : V → Type 0) (spelling : V → List ℕ) (n limit : ℕ) → ((v : V) → within v → length (spelling v) ≤ n) → (vs : List V) → ListWithin limit within vs → length (list8 spelling vs) ≤ 1 + limit * n
list_fits within spelling n limit fits vs h =
    let items = items_fit within spelling n fits vs h.1 in
    let few : length vs * n ≤ limit * n = mul-le-mul_right n h.0 in
    omega (arith, items, few)

pub key_fits : (k : Key) → IsKey k → length (key k) ≤ 5
key_fits k h = joined (party k.initiator) (number w32 k.number) 1 4 (omega arith) (number32_fits k.number)

pub hash_fits : (x : Hash32) → IsHash x → length (hash x) ≤ 32
hash_fits x h = omega (arith, h)
