-- The spelling of values, and reading them from the left.
use Rattle.std.specs.Prelude.{◌≤◌, ℕ, zero, suc, List, [], ◌∷◌, ◌++◌, length, take, drop, Option, Some, None, Result, Ok, Err, if◌then◌else◌, nat_lt, ◌==◌}
use Rattle.std.specs.List.{flat_map, AllByRecursion}
use Rattle.std.specs.Int.{Width, w16, byte_len, from_be_bytes}
use Rattle.net_base.specs.Reading.{number}

-- ---- how values are spelt

-- a flag, and the value where there is one
abbrev pub option_of : {V : Type 0} → (V → List ℕ) → Option V → List ℕ
option_of spell None = 0 ∷ []
option_of spell (Some v) = 1 ∷ spell v

-- a byte of count, and the items
abbrev pub list8 : {V : Type 0} → (V → List ℕ) → List V → List ℕ
list8 spell vs = length vs ∷ flat_map spell vs

-- two bytes of length, and the bytes
abbrev pub bytes16 : List ℕ → List ℕ
bytes16 bytes = number w16 (length bytes) ++ bytes

-- at most a given number of items, each within its limits
abbrev pub ListWithin : {V : Type 0} → ℕ → (V → Type 0) → List V → Type 0
ListWithin limit within vs = (length vs ≤ limit) × AllByRecursion within vs

-- ---- reading from the left: the value and the bytes after it, or how many bytes are left where no spelling goes on

-- what is read after what was read, where that succeeded
infixl 10 ◌>>=◌
abbrev pub ◌>>=◌ : {A B : Type 0} → Result A ℕ → (A → Result B ℕ) → Result B ℕ
(Ok x) >>= f = f x
(Err e) >>= f = Err e

-- reading a byte
abbrev pub byte_at : List ℕ → Result (ℕ × List ℕ) ℕ
byte_at [] = Err 0
byte_at (b ∷ rest) = Ok (b, rest)

-- reading bytes of a length
unfoldable pub bytes_at : ℕ → List ℕ → Result (List ℕ × List ℕ) ℕ
bytes_at n bytes = if nat_lt (length bytes) n then Err 0 else Ok (take n bytes, drop n bytes)

-- reading a big-endian number of a width
unfoldable pub number_at : Width → List ℕ → Result (ℕ × List ℕ) ℕ
number_at w bytes = if nat_lt (length bytes) (byte_len w) then Err 0 else Ok (from_be_bytes w (take (byte_len w) bytes), drop (byte_len w) bytes)

-- a byte below a limit
unfoldable pub below_at : ℕ → List ℕ → Result (ℕ × List ℕ) ℕ
below_at limit bytes = byte_at bytes >>= λ x. if nat_lt x.0 limit then Ok x else Err (length bytes)

-- reading a flag, and the value where there is one
unfoldable pub option_at : {V : Type 0} → (List ℕ → Result (V × List ℕ) ℕ) → List ℕ → Result (Option V × List ℕ) ℕ
option_at read bytes = below_at 2 bytes >>= λ flag. if flag.0 == 0 then Ok (None, flag.1) else (read flag.1 >>= λ x. Ok (Some x.0, x.1))

-- reading n items
unfoldable pub items_at : {V : Type 0} → (List ℕ → Result (V × List ℕ) ℕ) → ℕ → List ℕ → Result (List V × List ℕ) ℕ
items_at read zero bytes = Ok ([], bytes)
items_at read (suc n) bytes = read bytes >>= λ x. items_at read n x.1 >>= λ xs. Ok (x.0 ∷ xs.0, xs.1)

-- reading a byte of count of at most the limit, and the items
unfoldable pub list8_at : {V : Type 0} → ℕ → (List ℕ → Result (V × List ℕ) ℕ) → List ℕ → Result (List V × List ℕ) ℕ
list8_at limit read bytes = below_at (suc limit) bytes >>= λ n. items_at read n.0 n.1
