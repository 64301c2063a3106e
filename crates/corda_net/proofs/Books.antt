-- A book's verdicts are those of the contracts that its objects are.
use Rattle.std.proofs.Common.{List, [], ◌∷◌, ◌≡◌, refl, ap, subst, ◌∙◌, ℕ, Option, Some, Result}
use Rattle.std.specs.Prelude.{◌==◌, if◌then◌else◌}
use Rattle.ledger_types.specs.declared.tx.Tx.{Tx}
use Rattle.ledger_types.specs.declared.tx.Resolved.{Resolved}
use Rattle.ledger_types.specs.Verdicts.{told_by, verdict_of}
use Rattle.outside.specs.Disk.{DiskSeen}
use Rattle.flow_machine.specs.Machine.{Machine}
use Rattle.net_model.specs.Environment.{Judgement, meaning}
use Rattle.node_shell.specs.Runs.{IsRun, Ran}
use Rattle.cash_contract.specs.Clauses.{cash_says}
use Rattle.small_contracts.specs.Locks.{locks_say}
use Rattle.small_contracts.specs.Facts.{facts_say}
use Rattle.small_contracts.specs.Ious.{ious_say}
use Rattle.corda_net.specs.Book.{Contract, contracts_of, shipped_contracts, shipped}

abbrev Says : Type 0
Says = Tx → Resolved → Option ℕ

-- what the first contract of a number says is that of the first such object
told_of : {C : Type 0} (number : C → ℕ) (says : C → Says) (cs : List C) (id : ℕ) (tx : Tx) (r : Resolved)
    → told_by number says cs id tx r ≡ told_by (λ c. c.number) (λ c. c.says) (contracts_of number says cs) id tx r
told_of number says [] id tx r = refl
told_of number says (c ∷ cs) id tx r = ap (λ next. if number c == id then Some (says c tx r) else next) (told_of number says cs id tx r)

-- a book of the program's contracts judges as they do
pub as_shipped : {C : Type 0} (number : C → ℕ) (says : C → Says) (cs : List C) → contracts_of number says cs ≡ shipped_contracts
    → verdict_of (told_by number says cs) ≡ shipped
as_shipped number says cs same =
    let told : told_by number says cs ≡ told_by (λ c. c.number) (λ c. c.says) (contracts_of number says cs) = λ i id tx r. told_of number says cs id tx r i in
    ap verdict_of told ∙ ap (λ them. verdict_of (told_by (λ c. c.number) (λ c. c.says) them)) same

-- four with these numbers and meanings are the program's
pub are_shipped : (a b c d : Contract) → a.number ≡ 1 → a.says ≡ cash_says → b.number ≡ 2 → b.says ≡ locks_say
    → c.number ≡ 3 → c.says ≡ facts_say → d.number ≡ 4 → d.says ≡ ious_say → (a ∷ b ∷ c ∷ d ∷ []) ≡ shipped_contracts
are_shipped a b c d a_number a_says b_number b_says c_number c_says d_number d_says =
    let four : (a ∷ b ∷ c ∷ d ∷ []) ≡ record { number = a.number; says = a.says } ∷ record { number = b.number; says = b.says }
    ∷ record { number = c.number; says = c.says } ∷ record { number = d.number; says = d.says } ∷ [] = refl in
    four ∙ rw a_number (rw a_says (rw b_number (rw b_says (rw c_number (rw c_says (rw d_number (rw d_says refl)))))))

-- a run by a judgement is one by a judgement that is equal
pub run_by : {F B : Type 0} (m : Machine F) (frame_at : List ℕ → Result (F × List ℕ) ℕ) (seen : B → DiskSeen) {r : Ran B} {j k : Judgement}
    → j ≡ k → IsRun (meaning m frame_at j) seen r → IsRun (meaning m frame_at k) seen r
run_by m frame_at seen {r = r} same = subst (λ i. IsRun (meaning m frame_at i) seen r) same
