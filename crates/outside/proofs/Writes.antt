-- What a write leaves of the bytes that were there.
use Rattle.std.proofs.Common.{◌≡◌, ℕ, ◌+◌, ◌≤◌, max, List, ◌++◌, length, take, drop, ◌∙◌, ap, arith, append_assoc, length-append, length-drop}
use Rattle.std.proofs.lemmas.List.{length-take-le, take_at, drop_at}
use Rattle.outside.specs.Disk.{overwritten}

module _ (old bytes : List ℕ) (at : ℕ) (within : at ≤ length old) where
  front : length (take at old) ≡ at
  front = length-take-le at old within

  pub length-overwritten : length (overwritten old at bytes) ≡ max (length old) (at + length bytes)
  length-overwritten = omega (arith, length-append (take at old ++ bytes) (drop (at + length bytes) old), length-append (take at old) bytes, front, length-drop (at + length bytes) old, within)

  pub front-overwritten : take at (overwritten old at bytes) ≡ take at old
  front-overwritten = ap (take at) (append_assoc (take at old) bytes (drop (at + length bytes) old)) ∙ take_at (take at old) (bytes ++ drop (at + length bytes) old) at front

  pub back-overwritten : drop at (overwritten old at bytes) ≡ bytes ++ drop (at + length bytes) old
  back-overwritten = ap (drop at) (append_assoc (take at old) bytes (drop (at + length bytes) old)) ∙ drop_at (take at old) (bytes ++ drop (at + length bytes) old) at front
