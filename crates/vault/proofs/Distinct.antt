-- A vault holds no state twice.
use Rattle.std.proofs.Common.{◌≡◌, false, ◌||◌, List, [], ◌∷◌, ◌++◌, refl, ◌∙◌, ap}
use Rattle.std.proofs.lemmas.Bool.{or_parts, not-true}
use Rattle.std.proofs.lemmas.List.Folds.{list_any-append}
use Rattle.net_base.specs.declared.values.Hash32.{Hash32}
use Rattle.net_base.specs.declared.values.Party.{Party}
use Rattle.ledger_types.specs.declared.tx.Tx.{Tx}
use Rattle.ledger_types.specs.declared.held.Held.{Held}
use Rattle.ledger_types.specs.Names.{hash_eq, ref_eq, has_repeat}
use Rattle.ledger_types.specs.Vaults.{Lock}
use Rattle.ledger_types.proofs.Names.{hash_swapped}
use Rattle.ledger_types.proofs.Once.{once_vault}
use Rattle.vault.specs.Holdings.{references_of, is_noted, IsVault}

abbrev Noted : Type 0
Noted = Hash32 × Tx

-- one more transaction of a new id
pub once_more : (recorded : List Noted) (t : Noted) → has_repeat (λ u v. hash_eq v.0 u.0) recorded ≡ false → is_noted recorded t.0 ≡ false → has_repeat (λ u v. hash_eq v.0 u.0) (recorded ++ t ∷ []) ≡ false
once_more [] t once none = refl
once_more (x ∷ recorded) t once none =
    let both = or_parts (is_noted recorded x.0) (has_repeat (λ u v. hash_eq v.0 u.0) recorded) once in
    let new = or_parts (hash_eq t.0 x.0) (is_noted recorded t.0) none in
    let here : is_noted (recorded ++ t ∷ []) x.0 ≡ false =
    list_any-append (λ (u : Noted). hash_eq x.0 u.0) recorded (t ∷ []) ∙ ap (λ b. b || (hash_eq x.0 t.0 || false)) both.0 ∙ ap (λ b. b || false) (hash_swapped x.0 t.0 ∙ new.0) in
    ap (λ b. b || has_repeat (λ u v. hash_eq v.0 u.0) (recorded ++ t ∷ [])) here ∙ once_more recorded t both.1 new.1

-- a vault over recorded transactions holds no state twice
pub vault_once : (me : Party) (recorded : List Noted) (locks : List Lock) (held : List Held) → IsVault me recorded locks held → has_repeat ref_eq (references_of held) ≡ false
vault_once me recorded locks held v = ap (λ (l : List Held). has_repeat ref_eq (references_of l)) v.states ∙ once_vault me recorded locks (not-true _ v.once)
