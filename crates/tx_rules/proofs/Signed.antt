-- Who is missing among those who have to sign.
use Rattle.std.proofs.Common.{◌≡◌, ℕ, Bool, true, false, cond, not, ◌&&◌, List, [], ◌∷◌, filter, refl, ◌∙◌, ap}
use Rattle.std.specs.List.{list_all, range_with_len}
use Rattle.net_base.specs.declared.values.Hash32.{Hash32}
use Rattle.net_base.specs.declared.values.Party.{Party}
use Rattle.ledger_types.specs.declared.tx.SignedTx.{SignedTx}
use Rattle.ledger_types.specs.Rules.{is_empty}
use Rattle.ledger_types.specs.Signatures.{needs, has_signed, missing_signers, is_signed}

-- all of those that pass a test pass a second one exactly where none passes the first and not the second
all_or_missing : (p q : ℕ → Bool) (xs : List ℕ) → list_all q (filter p xs) ≡ is_empty (filter (λ x. p x && not (q x)) xs)
all_or_missing p q [] = refl
all_or_missing p q (x ∷ xs) = by (p x) (q x) refl (all_or_missing p q xs)
  where
    have : List ℕ
    have = filter p xs

    lack : List ℕ
    lack = filter (λ y. p y && not (q y)) xs

    by : (a b : Bool) → q x ≡ b → list_all q have ≡ is_empty lack → list_all q (cond a (x ∷ have) have) ≡ is_empty (cond (a && not b) (x ∷ lack) lack)
    by true true e rest = ap (λ c. c && list_all q have) e ∙ rest
    by true false e rest = ap (λ c. c && list_all q have) e
    by false b e rest = rest

-- a transaction is signed exactly where nobody who has to sign it is missing
pub signed_is : (mark : Party → Hash32 → Hash32) (stx : SignedTx) → is_signed mark stx ≡ is_empty (missing_signers mark stx)
signed_is mark stx = all_or_missing (needs stx.tx) (has_signed mark stx) (range_with_len 0 16)
