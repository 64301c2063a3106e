-- A stamp of which no byte is there.
use Rattle.std.proofs.Common.{ℕ, List, [], ◌∷◌}
use Rattle.net_base.specs.declared.fault.PartFault.{PartFault}
use Rattle.net_base.specs.declared.fault.PartFault.TheVariants as faults
use Rattle.net_base.specs.Parts.{Fails}
use Rattle.net_base.specs.Forms.{byte_at, number_at}
use Rattle.net_base.specs.Tested.{positive_at, headed_at, stamp_at}

pub no_byte : (e : PartFault) (bytes : List ℕ) → Fails e (byte_at bytes) → Fails e (stamp_at bytes)
unfolding stamp_at headed_at positive_at number_at
no_byte faults.Memory bytes h = tt
no_byte (faults.Left n) [] h = h
no_byte (faults.Left n) (b ∷ bytes) h = absurd cc
