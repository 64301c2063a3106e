-- Who has to sign a transaction, and who has. A mark is what a signer gives a party under an id.
use Rattle.std.specs.Prelude.{ℕ, ◌==◌, ◌&&◌, ◌||◌, not, Bool, List, filter}
use Rattle.std.specs.List.{list_any, list_all, range_with_len}
use Rattle.net_base.specs.declared.values.Hash32.{Hash32}
use Rattle.net_base.specs.declared.values.Party.{Party}
use Rattle.net_base.specs.declared.names.Tag.{Tag}
use Rattle.net_base.specs.Parties.{has_party}
use Rattle.ledger_types.specs.declared.tx.Tx.{Tx}
use Rattle.ledger_types.specs.declared.tx.SignedTx.{SignedTx}
use Rattle.ledger_types.specs.Ids.{id_of}
use Rattle.ledger_types.specs.Names.{hash_eq, is_party}
use Rattle.ledger_types.specs.Rules.{asks_notary}

-- the id of a transaction
abbrev pub tx_id : Tx → Hash32
tx_id tx = record { 0 = id_of tx }

-- whether a party signs a command of the transaction
abbrev pub signs_command : Tx → ℕ → Bool
signs_command tx p = list_any (λ c. has_party c.signers p) tx.commands

-- whether the party is the notary of a transaction that has an input, a reference or a window
abbrev pub signs_as_notary : Tx → ℕ → Bool
signs_as_notary tx p = asks_notary tx && is_party (record { 0 = p }) tx.notary

-- whether a party has to sign: it signs a command, or it is the notary that is asked
abbrev pub needs : Tx → ℕ → Bool
needs tx p = signs_command tx p || signs_as_notary tx p

-- the parties that have to sign, ascending
abbrev pub needed : Tx → List ℕ
needed tx = filter (needs tx) (range_with_len 0 16)

-- whether a tag's mark is the one that its party has under its id
abbrev pub checks : (Party → Hash32 → Hash32) → Tag → Bool
checks mark tag = hash_eq tag.mark (mark tag.by tag.of)

-- whether a tag is by the party, over the id, and checks
abbrev pub is_tag : (Party → Hash32 → Hash32) → Hash32 → ℕ → Tag → Bool
is_tag mark id p tag = (tag.by.0 == p) && (hash_eq tag.of id && checks mark tag)

-- whether the party has a tag over the transaction's id that checks
abbrev pub has_signed : (Party → Hash32 → Hash32) → SignedTx → ℕ → Bool
has_signed mark stx p = list_any (is_tag mark (tx_id stx.tx) p) stx.tags

-- whether the party has to sign and has not
abbrev pub is_missing : (Party → Hash32 → Hash32) → SignedTx → ℕ → Bool
is_missing mark stx p = needs stx.tx p && not (has_signed mark stx p)

-- the parties that have to sign and have not, ascending
abbrev pub missing_signers : (Party → Hash32 → Hash32) → SignedTx → List ℕ
missing_signers mark stx = filter (is_missing mark stx) (range_with_len 0 16)

-- whether each party that has to sign has
abbrev pub is_signed : (Party → Hash32 → Hash32) → SignedTx → Bool
is_signed mark stx = list_all (has_signed mark stx) (needed stx.tx)
