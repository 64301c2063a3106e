-- The spelling of transactions.
use Rattle.std.proofs.Common.{◌≡◌, ◌<◌, ◌^◌, ℕ, true, List, [], ◌∷◌, ◌++◌, Option, Result, refl, arith}
use Rattle.std.specs.Prelude.{IfSome, nat_eq}
use Rattle.std.specs.List.{list_any}
use Rattle.std.specs.Int.{w64}
use Rattle.net_base.specs.declared.values.Hash32.{Hash32}
use Rattle.net_base.specs.declared.values.Party.{Party}
use Rattle.net_base.specs.declared.values.Moment.{Moment}
use Rattle.net_base.specs.declared.names.StateRef.{StateRef}
use Rattle.net_base.specs.declared.names.Tag.{Tag}
use Rattle.net_base.specs.declared.names.Token.{Token}
use Rattle.net_base.specs.declared.parties.PartySet.{PartySet}
use Rattle.net_base.specs.Reading.{number}
use Rattle.net_base.specs.Forms.{number_at, option_of, option_at, list8, list8_at, ListWithin}
use Rattle.net_base.specs.Laws.{Laws, done}
use Rattle.net_base.specs.Combining.{mapped_at, mapped_laws, pair_at, pair_laws, iso_laws}
use Rattle.net_base.specs.Fields.{u64_laws, option_laws, list8_laws}
use Rattle.net_base.specs.Kinds.{kinds_of, cases_at, cases_laws, bare_laws}
use Rattle.net_base.specs.Runs.{AscendingWithin, ascending8_at, ascending8_laws}
use Rattle.net_base.specs.Values.{IsHash, hash, hash_at, hash_laws, IsParty, party, party_at, party_laws, IsMoment, moment, moment_at, moment_laws}
use Rattle.net_base.specs.Names.{IsStateRef, state_ref, state_ref_at, state_ref_laws, IsTag, tag, by_of, tag_between_at, tag_between_laws, IsToken, token, token_at, token_laws}
use Rattle.net_base.specs.Parties.{IsPartySet, party_set, party_set_at, party_set_laws}
use Rattle.ledger_types.specs.declared.state.TxState.{TxState}
use Rattle.ledger_types.specs.declared.tx.Deed.{Deed}
use Rattle.ledger_types.specs.declared.tx.Deed.TheVariants.{CashIssue, CashMove, CashExit, LockMake, LockOpen, FactIssue, FactChange, IouMake, IouSettle}
use Rattle.ledger_types.specs.declared.tx.Command.{Command}
use Rattle.ledger_types.specs.declared.tx.Window.{Window}
use Rattle.ledger_types.specs.declared.tx.Tx.{Tx}
use Rattle.ledger_types.specs.declared.tx.SignedTx.{SignedTx}
use Rattle.ledger_types.specs.States.{IsTxState, tx_state, tx_state_at, tx_state_laws}

-- ---- Deed: u8 kind, and a token and an amount behind CashIssue and CashExit

-- the limits of a deed
abbrev pub IsDeed : Deed → Type 0
IsDeed (CashIssue t amount) = IsToken t × (amount < 2 ^ 64)
IsDeed (CashExit t amount) = IsToken t × (amount < 2 ^ 64)
IsDeed other = Unit {0}

-- the byte of kind
abbrev pub deed_kind : Deed → ℕ
deed_kind (CashIssue t amount) = 1
deed_kind CashMove = 2
deed_kind (CashExit t amount) = 3
deed_kind LockMake = 4
deed_kind LockOpen = 5
deed_kind FactIssue = 6
deed_kind FactChange = 7
deed_kind IouMake = 8
deed_kind IouSettle = 9

-- what stands behind the kind
abbrev pub deed_fields : Deed → List ℕ
deed_fields (CashIssue t amount) = token t ++ number w64 amount
deed_fields (CashExit t amount) = token t ++ number w64 amount
deed_fields other = []

-- the spelling of a deed
abbrev pub deed : Deed → List ℕ
deed d = deed_kind d ∷ deed_fields d

-- an issue of its fields
abbrev issue_of : Token × ℕ → Deed
issue_of p = CashIssue p.0 p.1

-- an exit of its fields
abbrev exit_of : Token × ℕ → Deed
exit_of p = CashExit p.0 p.1

-- a deed without fields
abbrev bare : Deed → List ℕ → Result (Deed × List ℕ) ℕ
bare d bytes = done (d, bytes)

-- what is read behind each kind
abbrev deed_arms : List (ℕ × (List ℕ → Result (Deed × List ℕ) ℕ))
deed_arms =
    (1, mapped_at issue_of (pair_at token_at (number_at w64)))
    ∷ (2, bare CashMove)
    ∷ (3, mapped_at exit_of (pair_at token_at (number_at w64)))
    ∷ (4, bare LockMake)
    ∷ (5, bare LockOpen)
    ∷ (6, bare FactIssue)
    ∷ (7, bare FactChange)
    ∷ (8, bare IouMake)
    ∷ (9, bare IouSettle)
    ∷ []

-- reading a deed
unfoldable pub deed_at : List ℕ → Result (Deed × List ℕ) ℕ
deed_at = cases_at deed_arms

-- 1 comes with a token and an amount
issue_from : (d : Deed) → IsDeed d × (deed_kind d ≡ 1) → (p : Token × ℕ) × ((IsToken p.0 × (p.1 < 2 ^ 64)) × (issue_of p ≡ d))
issue_from (CashIssue t a) h = ((t, a), (h.0, refl))
issue_from other h = absurd (omega (arith, h.1))

-- 3 comes with a token and an amount
exit_from : (d : Deed) → IsDeed d × (deed_kind d ≡ 3) → (p : Token × ℕ) × ((IsToken p.0 × (p.1 < 2 ^ 64)) × (exit_of p ≡ d))
exit_from (CashExit t a) h = ((t, a), (h.0, refl))
exit_from other h = absurd (omega (arith, h.1))

-- 2 is one deed alone
only_move : (d : Deed) → IsDeed d × (deed_kind d ≡ 2) → d ≡ CashMove
only_move CashMove h = refl
only_move other h = absurd (omega (arith, h.1))

-- 4 is one deed alone
only_lock_make : (d : Deed) → IsDeed d × (deed_kind d ≡ 4) → d ≡ LockMake
only_lock_make LockMake h = refl
only_lock_make other h = absurd (omega (arith, h.1))

-- 5 is one deed alone
only_lock_open : (d : Deed) → IsDeed d × (deed_kind d ≡ 5) → d ≡ LockOpen
only_lock_open LockOpen h = refl
only_lock_open other h = absurd (omega (arith, h.1))

-- 6 is one deed alone
only_fact_issue : (d : Deed) → IsDeed d × (deed_kind d ≡ 6) → d ≡ FactIssue
only_fact_issue FactIssue h = refl
only_fact_issue other h = absurd (omega (arith, h.1))

-- 7 is one deed alone
only_fact_change : (d : Deed) → IsDeed d × (deed_kind d ≡ 7) → d ≡ FactChange
only_fact_change FactChange h = refl
only_fact_change other h = absurd (omega (arith, h.1))

-- 8 is one deed alone
only_iou_make : (d : Deed) → IsDeed d × (deed_kind d ≡ 8) → d ≡ IouMake
only_iou_make IouMake h = refl
only_iou_make other h = absurd (omega (arith, h.1))

-- 9 is one deed alone
only_iou_settle : (d : Deed) → IsDeed d × (deed_kind d ≡ 9) → d ≡ IouSettle
only_iou_settle IouSettle h = refl
only_iou_settle other h = absurd (omega (arith, h.1))

-- each kind is among the arms
deed_covered : (d : Deed) → (list_any (λ y. nat_eq y (deed_kind d)) (kinds_of deed_arms) ≡ true) × (deed d ≡ deed_kind d ∷ deed_fields d)
deed_covered (CashIssue t a) = (refl, refl)
deed_covered other = (refl, refl)

-- the laws of deeds
pub deed_laws : Laws IsDeed deed deed_at
unfolding deed_at
deed_laws =
    cases_laws {kind = deed_kind} {body = deed_fields} deed_arms 1 refl (λ d h. deed_covered d) (
      mapped_laws issue_of (pair_laws token_laws u64_laws) (record { keeps = λ p h. ((h, refl), refl); from = issue_from }),
      (
        bare_laws CashMove (tt, refl) refl only_move,
        (
          mapped_laws exit_of (pair_laws token_laws u64_laws) (record { keeps = λ p h. ((h, refl), refl); from = exit_from }),
          (
            bare_laws LockMake (tt, refl) refl only_lock_make,
            (
              bare_laws LockOpen (tt, refl) refl only_lock_open,
              (
                bare_laws FactIssue (tt, refl) refl only_fact_issue,
                (
                  bare_laws FactChange (tt, refl) refl only_fact_change,
                  (
                    bare_laws IouMake (tt, refl) refl only_iou_make,
                    (
                      bare_laws IouSettle (tt, refl) refl only_iou_settle,
                      tt,
                    ),
                  ),
                ),
              ),
            ),
          ),
        ),
      ),
    )

-- ---- Command: Deed, PartySet

-- the limits of a command
abbrev pub IsCommand : Command → Type 0
IsCommand c = IsDeed c.deed × IsPartySet c.signers

-- the spelling of a command
abbrev pub command : Command → List ℕ
command c = deed c.deed ++ party_set c.signers

-- a command of its fields
abbrev command_of : Deed × PartySet → Command
command_of p = record { deed = p.0; signers = p.1 }

-- reading a command
unfoldable pub command_at : List ℕ → Result (Command × List ℕ) ℕ
command_at = mapped_at command_of (pair_at deed_at party_set_at)

-- the laws of commands
pub command_laws : Laws IsCommand command command_at
unfolding command_at
command_laws = iso_laws command_of (λ c. (c.deed, c.signers)) (λ _. refl) (λ _. refl) (pair_laws deed_laws party_set_laws)

-- ---- Window: option u64 from, option u64 until

-- the limits of a window
abbrev pub IsWindow : Window → Type 0
IsWindow w = IfSome w.from IsMoment × IfSome w.until IsMoment

-- the spelling of a window
abbrev pub window : Window → List ℕ
window w = option_of moment w.from ++ option_of moment w.until

-- a window of its fields
abbrev window_of : Option Moment × Option Moment → Window
window_of p = record { from = p.0; until = p.1 }

-- reading a window
unfoldable pub window_at : List ℕ → Result (Window × List ℕ) ℕ
window_at = mapped_at window_of (pair_at (option_at moment_at) (option_at moment_at))

-- the laws of windows
pub window_laws : Laws IsWindow window window_at
unfolding window_at
window_laws = iso_laws window_of (λ w. (w.from, w.until)) (λ _. refl) (λ _. refl) (pair_laws (option_laws moment_laws) (option_laws moment_laws))

-- ---- Tx: hash salt; list8 StateRef (64); list8 TxState (64); list8 Command (16); list8 hash (8); option party; option Window; list8 StateRef (16)

-- the limits of a transaction
abbrev pub IsTx : Tx → Type 0
IsTx t = IsHash t.salt × (ListWithin 64 IsStateRef t.inputs × (ListWithin 64 IsTxState t.outputs × (ListWithin 16 IsCommand t.commands × (ListWithin 8 IsHash t.attachments × (IfSome t.notary IsParty × (IfSome t.window IsWindow × ListWithin 16 IsStateRef t.references))))))

-- the spelling of a transaction
abbrev pub tx : Tx → List ℕ
tx t = hash t.salt ++ (list8 state_ref t.inputs ++ (list8 tx_state t.outputs ++ (list8 command t.commands ++ (list8 hash t.attachments ++ (option_of party t.notary ++ (option_of window t.window ++ list8 state_ref t.references))))))

-- a transaction of its fields
abbrev tx_of : Hash32 × (List StateRef × (List TxState × (List Command × (List Hash32 × (Option Party × (Option Window × List StateRef)))))) → Tx
tx_of p = record { salt = p.0; inputs = p.1.0; outputs = p.1.1.0; commands = p.1.1.1.0; attachments = p.1.1.1.1.0; notary = p.1.1.1.1.1.0; window = p.1.1.1.1.1.1.0; references = p.1.1.1.1.1.1.1 }

-- reading a transaction
unfoldable pub tx_at : List ℕ → Result (Tx × List ℕ) ℕ
tx_at = mapped_at tx_of (pair_at hash_at (pair_at (list8_at 64 state_ref_at) (pair_at (list8_at 64 tx_state_at) (pair_at (list8_at 16 command_at) (pair_at (list8_at 8 hash_at) (pair_at (option_at party_at) (pair_at (option_at window_at) (list8_at 16 state_ref_at))))))))

-- the laws of transactions
pub tx_laws : Laws IsTx tx tx_at
unfolding tx_at
tx_laws =
    iso_laws tx_of (λ t. (t.salt, (t.inputs, (t.outputs, (t.commands, (t.attachments, (t.notary, (t.window, t.references)))))))) (λ _. refl) (λ _. refl)
    (pair_laws hash_laws (pair_laws (list8_laws 64 state_ref_laws) (pair_laws (list8_laws 64 tx_state_laws) (pair_laws (list8_laws 16 command_laws) (pair_laws (list8_laws 8 hash_laws) (pair_laws (option_laws party_laws) (pair_laws (option_laws window_laws) (list8_laws 16 state_ref_laws))))))))

-- ---- SignedTx: Tx; list8 Tag (16), strictly ascending by by

-- a list of tags, strictly ascending by their parties
abbrev pub IsTagList : List Tag → Type 0
IsTagList tags = AscendingWithin 16 by_of IsTag tags

-- the limits of a transaction with tags
abbrev pub IsSignedTx : SignedTx → Type 0
IsSignedTx s = IsTx s.tx × IsTagList s.tags

-- the spelling of a transaction with tags
abbrev pub signed_tx : SignedTx → List ℕ
signed_tx s = tx s.tx ++ list8 tag s.tags

-- reading a list of tags
abbrev pub tag_list_at : List ℕ → Result (List Tag × List ℕ) ℕ
tag_list_at = ascending8_at by_of 16 tag_between_at

-- a transaction with tags of its fields
abbrev signed_tx_of : Tx × List Tag → SignedTx
signed_tx_of p = record { tx = p.0; tags = p.1 }

-- reading a transaction with tags
unfoldable pub signed_tx_at : List ℕ → Result (SignedTx × List ℕ) ℕ
signed_tx_at = mapped_at signed_tx_of (pair_at tx_at tag_list_at)

-- the laws of lists of tags
pub tag_list_laws : Laws IsTagList (λ (tags : List Tag). list8 tag tags) tag_list_at
tag_list_laws = ascending8_laws by_of 16 (λ t h. h.0) tag_between_laws

-- the laws of transactions with tags
pub signed_tx_laws : Laws IsSignedTx signed_tx signed_tx_at
unfolding signed_tx_at
signed_tx_laws = iso_laws signed_tx_of (λ s. (s.tx, s.tags)) (λ _. refl) (λ _. refl) (pair_laws tx_laws tag_list_laws)
