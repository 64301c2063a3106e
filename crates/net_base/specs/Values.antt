-- The spelling of the values of this crate.
use Rattle.std.proofs.Common.{◌≡◌, ◌<◌, ◌^◌, ℕ, List, [], ◌∷◌, length, Result, refl, arith}
use Rattle.std.specs.Int.{w64}
use Rattle.net_base.specs.Reading.{number}
use Rattle.net_base.specs.declared.values.Hash32.{Hash32}
use Rattle.net_base.specs.declared.values.Party.{Party}
use Rattle.net_base.specs.declared.values.Moment.{Moment}
use Rattle.net_base.specs.Forms.{bytes_at, below_at, number_at}
use Rattle.net_base.specs.Laws.{Laws}
use Rattle.net_base.specs.Combining.{mapped_at, mapped_laws}
use Rattle.net_base.specs.Fields.{bytes_laws, below_laws, u64_laws}

-- 32 bytes
abbrev pub IsHash : Hash32 → Type 0
IsHash h = length h.0 ≡ 32

-- a digest is spelt by its bytes
abbrev pub hash : Hash32 → List ℕ
hash h = h.0

-- reading a digest
unfoldable pub hash_at : List ℕ → Result (Hash32 × List ℕ) ℕ
hash_at = mapped_at (λ b. record { 0 = b }) (bytes_at 32)

-- the laws of digests
pub hash_laws : Laws IsHash hash hash_at
unfolding hash_at
hash_laws = mapped_laws (λ b. record { 0 = b }) (bytes_laws 32) (record { keeps = λ a h. (h, refl); from = λ b h. (b.0, (h, refl)) })

-- a party is below 16
abbrev pub IsParty : Party → Type 0
IsParty p = p.0 < 16

-- a party is spelt by one byte
abbrev pub party : Party → List ℕ
party p = p.0 ∷ []

-- reading a party
unfoldable pub party_at : List ℕ → Result (Party × List ℕ) ℕ
party_at = mapped_at (λ n. record { 0 = n }) (below_at 16)

-- the laws of parties
pub party_laws : Laws IsParty party party_at
unfolding party_at
party_laws = mapped_laws (λ n. record { 0 = n }) (below_laws 16 (omega arith)) (record { keeps = λ a h. (h, refl); from = λ b h. (b.0, (h, refl)) })

-- a moment has 64 bits
abbrev pub IsMoment : Moment → Type 0
IsMoment m = m.0 < 2 ^ 64

-- a moment is spelt by its number
abbrev pub moment : Moment → List ℕ
moment m = number w64 m.0

-- reading a moment
unfoldable pub moment_at : List ℕ → Result (Moment × List ℕ) ℕ
moment_at = mapped_at (λ n. record { 0 = n }) (number_at w64)

-- the laws of moments
pub moment_laws : Laws IsMoment moment moment_at
unfolding moment_at
moment_laws = mapped_laws (λ n. record { 0 = n }) u64_laws (record { keeps = λ a h. (h, refl); from = λ b h. (b.0, (h, refl)) })
