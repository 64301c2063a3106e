-- What the tables of a node keep is what its next step asks of its sessions.
use Rattle.std.proofs.Common.{ℕ, ◌-◌, ◌<◌, ◌≤◌, ◌^◌, List, [], ◌∷◌, length, arith}
use Rattle.std.specs.List.{AllByRecursion}
use Rattle.net_base.specs.declared.values.Party.{Party}
use Rattle.net_base.specs.Names.{IsKey}
use Rattle.session_wire.specs.Rules.{sessions_of, IsHeld}
use Rattle.net_model.specs.State.{NodeState}
use Rattle.net_model.specs.Fits.{IsSound}
use Rattle.flow_steps.specs.Ready.{AreKept}

pub kept_of : {F : Type 0} (me : Party) (s : NodeState F) → IsSound me.0 s → AllByRecursion (λ session. IsKey session.key) s.sessions → ((f : ℕ) → length (sessions_of f s.sessions) ≤ 64) → AllByRecursion IsHeld s.sessions → AreKept me s.sessions
kept_of me s sound keys owned arrived = record { sound = record { begun = sound.begun; counted = sound.counted; keys = sound.keys }; keys = keys; owned = owned; held = arrived }

-- fewer steps than an Act may make
pub all_below : {X : Type 0} (size : X → ℕ) (m : ℕ) (xs : List X) → m ≤ 65536 → AllByRecursion (λ x. size x ≤ m) xs → AllByRecursion (λ x. size x < 2 ^ 32 - 1) xs
all_below size m [] few h = tt
all_below size m (x ∷ xs) few h = (let here = h.0 in omega (arith, here, few), all_below size m xs few h.1)
