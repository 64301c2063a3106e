-- What a reader and a writer do.
use Rattle.std.specs.Int.{Width, to_be_bytes}
use Rattle.std.specs.Prelude.{◌≡◌, ◌+◌, ◌<◌, ◌≤◌, ℕ, List, ◌++◌, length, drop, get_or, Result, Ok, Err}

-- the bytes that are left, and how many were read
pub record Reading : Type 0 where
  pub left : List ℕ
  pub place : ℕ

-- n bytes further on
abbrev pub past : ℕ → Reading → Reading
past n r = record { left = drop n r.left; place = r.place + n }

-- n bytes were there and are read
abbrev pub Took : ℕ → Reading → Reading → Type 0
Took n old new = (n ≤ length old.left) × (new ≡ past n old)

-- n bytes aren't there, and nothing is read
abbrev pub IsShort : ℕ → ℕ → Reading → Reading → Type 0
IsShort n at old new = (length old.left < n) × (at ≡ old.place) × (new ≡ old)

-- each is a byte
abbrev pub IsBytes : List ℕ → Type 0
IsBytes bytes = (i : ℕ) → get_or bytes i 0 < 256

-- written at the end, or nothing is
abbrev pub Puts : {U E : Type 0} → List ℕ → Result U E → List ℕ → List ℕ → Type 0
Puts bytes (Ok done) old new = new ≡ old ++ bytes
Puts bytes (Err e) old new = new ≡ old

-- The big-endian spelling of a number. It stays closed in goals, so that no number is taken apart into bytes.
unfoldable pub number : Width → ℕ → List ℕ
number w n = to_be_bytes w n
