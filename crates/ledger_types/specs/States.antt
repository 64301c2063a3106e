-- The spelling of states.
use Rattle.std.proofs.Common.{◌<◌, ◌^◌, ℕ, List, [], ◌∷◌, ◌++◌, Option, Result, refl, arith}
use Rattle.std.specs.Prelude.{IfSome}
use Rattle.std.specs.Int.{w64}
use Rattle.net_base.specs.declared.values.Party.{Party}
use Rattle.net_base.specs.declared.values.Moment.{Moment}
use Rattle.net_base.specs.declared.names.Token.{Token}
use Rattle.net_base.specs.Reading.{number}
use Rattle.net_base.specs.Forms.{byte_at, number_at, option_of, option_at}
use Rattle.net_base.specs.Laws.{Laws}
use Rattle.net_base.specs.Combining.{mapped_at, mapped_laws, pair_at, pair_laws, iso_laws}
use Rattle.net_base.specs.Fields.{byte_laws, u64_laws, option_laws}
use Rattle.net_base.specs.Kinds.{cases_at, cases_laws}
use Rattle.net_base.specs.Values.{IsParty, party, party_at, party_laws, IsMoment, moment, moment_at, moment_laws}
use Rattle.net_base.specs.Names.{IsToken, token, token_at, token_laws}
use Rattle.ledger_types.specs.declared.state.StateData.{StateData}
use Rattle.ledger_types.specs.declared.state.StateData.TheVariants.{Cash, TimeLock, Fact, Iou}
use Rattle.ledger_types.specs.declared.state.TxState.{TxState}

-- ---- StateData: u8 kind, and its fields

-- the limits of what a state says
abbrev pub IsStateData : StateData → Type 0
IsStateData (Cash t amount owner) = IsToken t × ((amount < 2 ^ 64) × IsParty owner)
IsStateData (TimeLock owner until) = IsParty owner × IsMoment until
IsStateData (Fact issuer name value) = IsParty issuer × ((name < 2 ^ 64) × (value < 2 ^ 64))
IsStateData (Iou lender borrower t amount) = IsParty lender × (IsParty borrower × (IsToken t × (amount < 2 ^ 64)))

-- the spelling of what a state says
abbrev pub state_data : StateData → List ℕ
state_data (Cash t amount owner) = 1 ∷ (token t ++ (number w64 amount ++ party owner))
state_data (TimeLock owner until) = 2 ∷ (party owner ++ moment until)
state_data (Fact issuer name value) = 3 ∷ (party issuer ++ (number w64 name ++ number w64 value))
state_data (Iou lender borrower t amount) = 4 ∷ (party lender ++ (party borrower ++ (token t ++ number w64 amount)))

-- the byte of kind
abbrev state_kind : StateData → ℕ
state_kind (Cash t amount owner) = 1
state_kind (TimeLock owner until) = 2
state_kind (Fact issuer name value) = 3
state_kind (Iou lender borrower t amount) = 4

-- what stands behind the kind
abbrev state_fields : StateData → List ℕ
state_fields (Cash t amount owner) = token t ++ (number w64 amount ++ party owner)
state_fields (TimeLock owner until) = party owner ++ moment until
state_fields (Fact issuer name value) = party issuer ++ (number w64 name ++ number w64 value)
state_fields (Iou lender borrower t amount) = party lender ++ (party borrower ++ (token t ++ number w64 amount))

-- cash of its fields
abbrev cash_of : Token × (ℕ × Party) → StateData
cash_of p = Cash p.0 p.1.0 p.1.1

-- a time lock of its fields
abbrev lock_of : Party × Moment → StateData
lock_of p = TimeLock p.0 p.1

-- a fact of its fields
abbrev fact_of : Party × (ℕ × ℕ) → StateData
fact_of p = Fact p.0 p.1.0 p.1.1

-- an IOU of its fields
abbrev iou_of : Party × (Party × (Token × ℕ)) → StateData
iou_of p = Iou p.0 p.1.0 p.1.1.0 p.1.1.1

-- what is read behind each kind
abbrev state_arms : List (ℕ × (List ℕ → Result (StateData × List ℕ) ℕ))
state_arms =
    (1, mapped_at cash_of (pair_at token_at (pair_at (number_at w64) party_at)))
    ∷ (2, mapped_at lock_of (pair_at party_at moment_at))
    ∷ (3, mapped_at fact_of (pair_at party_at (pair_at (number_at w64) (number_at w64))))
    ∷ (4, mapped_at iou_of (pair_at party_at (pair_at party_at (pair_at token_at (number_at w64)))))
    ∷ []

-- reading what a state says
unfoldable pub state_data_at : List ℕ → Result (StateData × List ℕ) ℕ
state_data_at = cases_at state_arms

-- the laws of what a state says
pub state_data_laws : Laws IsStateData state_data state_data_at
unfolding state_data_at
state_data_laws =
    cases_laws {kind = state_kind} {body = state_fields} state_arms 1 refl (elim [ Cash t a o ↦ λ h. (refl, refl) | TimeLock o u ↦ λ h. (refl, refl) | Fact i n v ↦ λ h. (refl, refl) | Iou l b t a ↦ λ h. (refl, refl) ]) (
      mapped_laws cash_of (pair_laws token_laws (pair_laws u64_laws party_laws)) (record { keeps = λ p h. ((h, refl), refl); from = elim [ Cash t a o ↦ λ h. ((t, (a, o)), (h.0, refl)) | TimeLock o u ↦ λ h. absurd (omega (arith, h.1)) | Fact i n v ↦ λ h. absurd (omega (arith, h.1)) | Iou l b t a ↦ λ h. absurd (omega (arith, h.1)) ] }),
      (
        mapped_laws lock_of (pair_laws party_laws moment_laws) (record { keeps = λ p h. ((h, refl), refl); from = elim [ Cash t a o ↦ λ h. absurd (omega (arith, h.1)) | TimeLock o u ↦ λ h. ((o, u), (h.0, refl)) | Fact i n v ↦ λ h. absurd (omega (arith, h.1)) | Iou l b t a ↦ λ h. absurd (omega (arith, h.1)) ] }),
        (
          mapped_laws fact_of (pair_laws party_laws (pair_laws u64_laws u64_laws)) (record { keeps = λ p h. ((h, refl), refl); from = elim [ Cash t a o ↦ λ h. absurd (omega (arith, h.1)) | TimeLock o u ↦ λ h. absurd (omega (arith, h.1)) | Fact i n v ↦ λ h. ((i, (n, v)), (h.0, refl)) | Iou l b t a ↦ λ h. absurd (omega (arith, h.1)) ] }),
          (
            mapped_laws iou_of (pair_laws party_laws (pair_laws party_laws (pair_laws token_laws u64_laws))) (record { keeps = λ p h. ((h, refl), refl); from = elim [ Cash t a o ↦ λ h. absurd (omega (arith, h.1)) | TimeLock o u ↦ λ h. absurd (omega (arith, h.1)) | Fact i n v ↦ λ h. absurd (omega (arith, h.1)) | Iou l b t a ↦ λ h. ((l, (b, (t, a))), (h.0, refl)) ] }),
            tt,
          ),
        ),
      ),
    )

-- ---- TxState: StateData, party notary, option u8 encumbrance

-- the limits of a state
abbrev pub IsTxState : TxState → Type 0
IsTxState s = IsStateData s.body × (IsParty s.notary × IfSome s.encumbrance (λ n. n < 256))

-- the spelling of a state
abbrev pub tx_state : TxState → List ℕ
tx_state s = state_data s.body ++ (party s.notary ++ option_of (λ n. n ∷ []) s.encumbrance)

-- a state of its fields
abbrev tx_state_of : StateData × (Party × Option ℕ) → TxState
tx_state_of p = record { body = p.0; notary = p.1.0; encumbrance = p.1.1 }

-- reading a state
unfoldable pub tx_state_at : List ℕ → Result (TxState × List ℕ) ℕ
tx_state_at = mapped_at tx_state_of (pair_at state_data_at (pair_at party_at (option_at byte_at)))

-- the laws of states
pub tx_state_laws : Laws IsTxState tx_state tx_state_at
unfolding tx_state_at
tx_state_laws = iso_laws tx_state_of (λ s. (s.body, (s.notary, s.encumbrance))) (λ _. refl) (λ _. refl) (pair_laws state_data_laws (pair_laws party_laws (option_laws byte_laws)))
