-- Fields of the frames of these flows.
use Rattle.std.specs.Prelude.{◌≤◌, length}
use Rattle.std.specs.Int.{w32}
use Rattle.std.proofs.Common.{arith}
use Rattle.net_base.specs.declared.names.StateRef.{StateRef}
use Rattle.net_base.specs.declared.names.Token.{Token}
use Rattle.net_base.specs.declared.values.Hash32.{Hash32}
use Rattle.net_base.specs.Names.{IsStateRef, state_ref, state_ref_at, state_ref_laws, IsToken, token, token_at, token_laws}
use Rattle.net_base.specs.Reading.{number}
use Rattle.net_base.specs.Values.{IsHash, hash, hash_at, hash_laws, party}
use Rattle.ledger_types.proofs.Sizes.{code_fits, joined, number32_fits}
use Rattle.flow_forms.specs.Kept.{Field}
use Rattle.flow_forms.specs.Sizes.{hash_fits}
use Rattle.flow_txs.specs.declared.words.Code.{Code}
use Rattle.flow_txs.specs.Words.{IsCurrency, code, code_at, code_laws}

-- a currency code
abbrev pub code_field : Field Code
code_field = record { exact = Unit {0}; within = IsCurrency; spelling = code; reading = code_at; laws = code_laws; most = 3; few = λ c h. code_fits c.0 h }

pub token_few : (t : Token) → IsToken t → length (token t) ≤ 4
token_few t h = joined (party t.issuer) t.code 1 3 (omega arith) (code_fits t.code h.1)

-- a token
abbrev pub token_field : Field Token
token_field = record { exact = Unit {0}; within = IsToken; spelling = token; reading = token_at; laws = token_laws; most = 4; few = token_few }

-- the id of a transaction
abbrev pub hash_field : Field Hash32
hash_field = record { exact = Unit {0}; within = IsHash; spelling = hash; reading = hash_at; laws = hash_laws; most = 32; few = hash_fits }

pub reference_fits : (r : StateRef) → IsStateRef r → length (state_ref r) ≤ 36
reference_fits r h = joined (hash r.id) (number w32 r.index) 32 4 (hash_fits r.id h.0) (number32_fits r.index)

-- a reference to an output
abbrev pub reference_field : Field StateRef
reference_field = record { exact = Unit {0}; within = IsStateRef; spelling = state_ref; reading = state_ref_at; laws = state_ref_laws; most = 36; few = reference_fits }
