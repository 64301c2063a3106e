-- What is read has its lengths, whatever numbers it is read from.
use Rattle.std.proofs.Common.{◌≡◌, ℕ, zero, suc, ◌≤◌, ◌<◌, ◌==◌, Bool, true, false, cond, List, [], ◌∷◌, length, take, drop, Option, Some, None, Result, Ok, Err, nat_lt, nat_eq, refl, subst, arith}
use Rattle.std.specs.Prelude.{IfSome, ⊤}
use Rattle.std.specs.List.{AllByRecursion}
use Rattle.std.proofs.lemmas.Bool.Decides.{nat_tests}
use Rattle.std.proofs.lemmas.List.{length-take}
use Rattle.std.specs.Int.{w32}
use Rattle.net_base.specs.Forms.{◌>>=◌, number_at, byte_at, bytes_at, below_at, option_at, items_at, list8_at}
use Rattle.net_base.specs.Laws.{done, stopped, ok_is, bind_ok}
use Rattle.net_base.specs.Combining.{mapped_at, pair_at}
use Rattle.net_base.specs.Framing.{both_at, bytes16_at}
use Rattle.net_base.specs.Kinds.{kind_at, kinds_of, arms_at, cases_at}
use Rattle.net_base.specs.Runs.{run_at}
use Rattle.net_base.specs.Values.{hash_at, party_at}
use Rattle.net_base.specs.Names.{state_ref_at, tag_at}
use Rattle.net_base.specs.declared.values.Hash32.{Hash32}
use Rattle.net_base.specs.declared.values.Party.{Party}
use Rattle.net_base.specs.declared.names.StateRef.{StateRef}
use Rattle.net_base.specs.declared.names.Tag.{Tag}
use Rattle.net_base.specs.declared.causes.Cause.{Cause}
use Rattle.ledger_types.specs.declared.state.TxState.{TxState}
use Rattle.ledger_types.specs.declared.tx.Command.{Command}
use Rattle.ledger_types.specs.declared.tx.Window.{Window}
use Rattle.ledger_types.specs.declared.notary.NotaryAnswer.{NotaryAnswer}
use Rattle.session_wire.specs.declared.effect.FlowPart.{FlowPart}
use Rattle.session_wire.specs.declared.change.SessionChange.{SessionChange}
use Rattle.ledger_types.specs.declared.tx.Tx.{Tx}
use Rattle.ledger_types.specs.declared.tx.SignedTx.{SignedTx}
use Rattle.ledger_types.specs.declared.torn.TornPart.{TornPart}
use Rattle.ledger_types.specs.declared.torn.TornGroup.TheVariants.{Hidden, Shown}
use Rattle.ledger_types.specs.declared.torn.TornTx.{TornTx}
use Rattle.ledger_types.specs.declared.notary.Request.{Request}
use Rattle.ledger_types.specs.declared.notary.Entry.{Entry}
use Rattle.ledger_types.specs.declared.change.LedgerChange.{LedgerChange}
use Rattle.ledger_types.specs.Txs.{command_at, window_at, tx_at, tag_list_at, signed_tx_at}
use Rattle.ledger_types.specs.States.{tx_state_at}
use Rattle.ledger_types.specs.Torn.{torn_part_at, group_at, group_step, group_next, groups_at, torn_tx_at}
use Rattle.ledger_types.specs.Requests.{request_at, notary_answer_at, entry_at}
use Rattle.tx_tear.proofs.Places.{IsSized}
use Rattle.transition_record.specs.Changes.{part_at, session_at, part_flow, part_over, ledger_at}
use Rattle.transition_record.specs.Causes.{cause_at, came_key_of}
use Rattle.transition_record.specs.Records.{record_at}
use Rattle.flow_records.specs.Records.{whole}
use Rattle.net_model.proofs.Basics.{from_some}

-- whatever is read is so
pub record Reads {V : Type 0} (P : V → Type 0) (reading : List ℕ → Result (V × List ℕ) ℕ) : Type 0 where
  pub of : (bytes : List ℕ) (x : V × List ℕ) → reading bytes ≡ Ok x → P x.0

-- ---- of readings in general

anything : {V : Type 0} (reading : List ℕ → Result (V × List ℕ) ℕ) → Reads (λ (v : V). ⊤) reading
anything reading = record { of = λ bytes x e. tt }

mapped_reads : {A B : Type 0} {P : A → Type 0} {Q : B → Type 0} {reading : List ℕ → Result (A × List ℕ) ℕ} (to : A → B) → Reads P reading → ((a : A) → P a → Q (to a)) → Reads Q (mapped_at to reading)
mapped_reads {A} {B} {P} {Q} {reading} to one so = record {
  of = λ bytes x e.
      let a = bind_ok (reading bytes) (λ y. Ok (to y.0, y.1)) x e in
      subst (λ (z : B × List ℕ). Q z.0) (ok_is (to a.0.0, a.0.1) x a.1.1) (so a.0.0 (one.of bytes a.0 a.1.0));
}

both_reads : {A B : Type 0} {P : A → Type 0} {Q : A → B → Type 0} {ra : List ℕ → Result (A × List ℕ) ℕ} {rb : A → List ℕ → Result (B × List ℕ) ℕ}
    → Reads P ra → ((a : A) → Reads (Q a) (rb a)) → Reads (λ (p : A × B). P p.0 × Q p.0 p.1) (both_at ra rb)
both_reads {A} {B} {P} {Q} {ra} {rb} one two = record {
  of = λ bytes x e.
      let a = bind_ok (ra bytes) (λ u. rb u.0 u.1 >>= λ y. Ok ((u.0, y.0), y.1)) x e in
      let b = bind_ok (rb a.0.0 a.0.1) (λ y. Ok ((a.0.0, y.0), y.1)) x a.1.1 in
      subst (λ (z : (A × B) × List ℕ). P z.0.0 × Q z.0.0 z.0.1) (ok_is ((a.0.0, b.0.0), b.0.1) x b.1.1) (one.of bytes a.0 a.1.0, (two a.0.0).of a.0.1 b.0 b.1.0);
}

pair_reads : {A B : Type 0} {P : A → Type 0} {Q : B → Type 0} {ra : List ℕ → Result (A × List ℕ) ℕ} {rb : List ℕ → Result (B × List ℕ) ℕ} → Reads P ra → Reads Q rb → Reads (λ (p : A × B). P p.0 × Q p.1) (pair_at ra rb)
pair_reads {A} {B} {P} {Q} {ra} {rb} one two = both_reads {P = P} {Q = λ a. Q} {ra = ra} {rb = λ a. rb} one (λ a. two)

then_reads : {A B : Type 0} {P : A → Type 0} {Q : B → Type 0} {ra : List ℕ → Result (A × List ℕ) ℕ} {rb : A → List ℕ → Result (B × List ℕ) ℕ} → Reads P ra → ((a : A) → P a → Reads Q (rb a)) → Reads Q (λ bytes. ra bytes >>= λ u. rb u.0 u.1)
then_reads {A} {B} {P} {Q} {ra} {rb} one two = record {
  of = λ bytes x e.
      let a = bind_ok (ra bytes) (λ u. rb u.0 u.1) x e in
      (two a.0.0 (one.of bytes a.0 a.1.0)).of a.0.1 x a.1.1;
}

bytes_reads : (n : ℕ) → Reads (λ (b : List ℕ). length b ≡ n) (bytes_at n)
unfolding bytes_at
bytes_reads n = record { of = λ bytes x e. by bytes x (nat_lt (length bytes) n) refl e }
  where
    by : (bytes : List ℕ) (x : List ℕ × List ℕ) (b : Bool) → nat_lt (length bytes) n ≡ b → cond b (stopped 0) (done (take n bytes, drop n bytes)) ≡ Ok x → length x.0 ≡ n
    by bytes x true short e = absurd cc
    by bytes x false long e =
        let enough : n ≤ length bytes = grind (arith, nat_tests) in
        subst (λ (z : List ℕ × List ℕ). length z.0 ≡ n) (ok_is (take n bytes, drop n bytes) x e) (omega (arith, enough, length-take n bytes))

below_reads : (limit : ℕ) → Reads (λ (n : ℕ). n < limit) (below_at limit)
unfolding below_at
below_reads limit = record {
  of = λ bytes x e.
      let a = bind_ok (byte_at bytes) (λ y. cond (nat_lt y.0 limit) (Ok y) (Err (length bytes))) x e in
      by a.0 x (length bytes) (nat_lt a.0.0 limit) refl a.1.1;
}
  where
    by : (y x : ℕ × List ℕ) (n : ℕ) (b : Bool) → nat_lt y.0 limit ≡ b → cond b (done y) (stopped n) ≡ Ok x → x.0 < limit
    by y x n true less e = subst (λ (z : ℕ × List ℕ). z.0 < limit) (ok_is y x e) (grind (arith, nat_tests))
    by y x n false more e = absurd cc

option_reads : {V : Type 0} {P : V → Type 0} {reading : List ℕ → Result (V × List ℕ) ℕ} → Reads P reading → Reads (λ (o : Option V). IfSome o P) (option_at reading)
unfolding option_at
option_reads {V} {P} {reading} one = then_reads {rb = λ n rest. cond (n == 0) (Ok (None, rest)) (reading rest >>= λ y. Ok (Some y.0, y.1))} (below_reads 2) (λ n few. record { of = λ rest x e. by rest x (n == 0) e })
  where
    by : (rest : List ℕ) (x : Option V × List ℕ) (b : Bool) → cond b (done (None, rest)) (reading rest >>= λ y. Ok (Some y.0, y.1)) ≡ Ok x → IfSome x.0 P
    by rest x true e = subst (λ (z : Option V × List ℕ). IfSome z.0 P) (ok_is (None, rest) x e) tt
    by rest x false e =
        let a = bind_ok (reading rest) (λ y. Ok (Some y.0, y.1)) x e in
        subst (λ (z : Option V × List ℕ). IfSome z.0 P) (ok_is (Some a.0.0, a.0.1) x a.1.1) (one.of rest a.0 a.1.0)

from_ok : {V : Type 0} (P : V → Type 0) (v : V) (rest : List ℕ) (x : V × List ℕ) → done (v, rest) ≡ done x → P v → P x.0
from_ok {V} P v rest x e h = subst (λ (z : V × List ℕ). P z.0) (ok_is (v, rest) x e) h

-- this number of values, each of which is so
abbrev Many : {V : Type 0} → ℕ → (V → Type 0) → List V → Type 0
Many n P vs = (length vs ≡ n) × AllByRecursion P vs

run_reads : {S V : Type 0} {P : V → Type 0} (step : ℕ → S → List ℕ → Result (V × List ℕ) ℕ) (next : S → V → S) → ((k : ℕ) (s : S) → Reads P (step k s)) → (n : ℕ) (s : S) → Reads (Many n P) (run_at step next n s)
unfolding run_at
run_reads {S} {V} {P} step next each zero s = record { of = λ bytes x e. subst (λ (z : List V × List ℕ). Many 0 P z.0) (ok_is ([], bytes) x e) (refl, tt) }
run_reads {S} {V} {P} step next each (suc n) s = record {
  of = λ bytes x e.
      let a = bind_ok (step n s bytes) (λ y. run_at step next n (next s y.0) y.1 >>= λ ys. Ok (y.0 ∷ ys.0, ys.1)) x e in
      let b = bind_ok (run_at step next n (next s a.0.0) a.0.1) (λ ys. Ok (a.0.0 ∷ ys.0, ys.1)) x a.1.1 in
      let h = (run_reads step next each n (next s a.0.0)).of a.0.1 b.0 b.1.0 in
      from_ok (Many (suc n) P) (a.0.0 ∷ b.0.0) b.0.1 x b.1.1 (omega (arith, h.0), ((each n s).of bytes a.0 a.1.0, h.1));
}

items_reads : {V : Type 0} {P : V → Type 0} {reading : List ℕ → Result (V × List ℕ) ℕ} → Reads P reading → (n : ℕ) → Reads (Many n P) (items_at reading n)
unfolding items_at
items_reads {V} {P} {reading} one zero = record { of = λ bytes x e. subst (λ (z : List V × List ℕ). Many 0 P z.0) (ok_is ([], bytes) x e) (refl, tt) }
items_reads {V} {P} {reading} one (suc n) = record {
  of = λ bytes x e.
      let a = bind_ok (reading bytes) (λ y. items_at reading n y.1 >>= λ ys. Ok (y.0 ∷ ys.0, ys.1)) x e in
      let b = bind_ok (items_at reading n a.0.1) (λ ys. Ok (a.0.0 ∷ ys.0, ys.1)) x a.1.1 in
      let h = (items_reads one n).of a.0.1 b.0 b.1.0 in
      from_ok (Many (suc n) P) (a.0.0 ∷ b.0.0) b.0.1 x b.1.1 (omega (arith, h.0), (one.of bytes a.0 a.1.0, h.1));
}

-- at most this number of values, each of which is so
abbrev Few : {V : Type 0} → ℕ → (V → Type 0) → List V → Type 0
Few n P vs = (length vs ≤ n) × AllByRecursion P vs

few_reads : {V : Type 0} {P : V → Type 0} {reading : List ℕ → Result (List V × List ℕ) ℕ} (n limit : ℕ) → n < suc limit → Reads (Many n P) reading → Reads (Few limit P) reading
few_reads n limit lt one = record { of = λ bytes x e. let h = one.of bytes x e in (omega (arith, lt, h.0), h.1) }

list8_reads : {V : Type 0} {P : V → Type 0} {reading : List ℕ → Result (V × List ℕ) ℕ} (limit : ℕ) → Reads P reading → Reads (Few limit P) (list8_at limit reading)
unfolding list8_at
list8_reads {V} {P} {reading} limit one = then_reads {rb = λ n rest. items_at reading n rest} (below_reads (suc limit)) (λ n lt. few_reads n limit lt (items_reads one n))

arms_reads : {V : Type 0} {P : V → Type 0} (arms : List (ℕ × (List ℕ → Result (V × List ℕ) ℕ))) → AllByRecursion (λ (a : ℕ × (List ℕ → Result (V × List ℕ) ℕ)). Reads P a.1) arms → (k : ℕ) → Reads P (arms_at arms k)
arms_reads [] all k = record { of = λ bytes x e. absurd cc }
arms_reads (a ∷ []) all k = record { of = λ bytes x e. all.0.of bytes x e }
arms_reads {V} {P} (a ∷ b ∷ more) all k = record { of = λ bytes x e. by (arms_reads (b ∷ more) all.1 k) bytes x (nat_eq a.0 k) e }
  where
    by : Reads P (arms_at (b ∷ more) k) → (bytes : List ℕ) (x : V × List ℕ) (t : Bool) → cond t (a.1 bytes) (arms_at (b ∷ more) k bytes) ≡ Ok x → P x.0
    by later bytes x true e = all.0.of bytes x e
    by later bytes x false e = later.of bytes x e

cases_reads : {V : Type 0} {P : V → Type 0} (arms : List (ℕ × (List ℕ → Result (V × List ℕ) ℕ))) → AllByRecursion (λ (a : ℕ × (List ℕ → Result (V × List ℕ) ℕ)). Reads P a.1) arms → Reads P (cases_at arms)
cases_reads arms all = then_reads {rb = λ k rest. arms_at arms k rest} (anything (kind_at (kinds_of arms))) (λ k any. arms_reads arms all k)

-- ---- of tear-offs

hash_reads : Reads (λ (h : Hash32). length h.0 ≡ 32) hash_at
unfolding hash_at
hash_reads = mapped_reads (λ b. record { 0 = b }) (bytes_reads 32) (λ b h. h)

part_reads : Reads (λ (p : TornPart). length p.nonce.0 ≡ 32) torn_part_at
unfolding torn_part_at
part_reads = mapped_reads (λ p. record { nonce = p.0; bytes = p.1 }) (pair_reads hash_reads (anything (bytes16_at 64))) (λ p h. h.0)

group_reads : (room : ℕ) → Reads IsSized (group_at room)
unfolding group_at
group_reads room =
    cases_reads ((0, mapped_at (λ h. Hidden h) hash_at) ∷ (1, mapped_at (λ parts. Shown parts) (list8_at (cond (nat_lt room 64) room 64) torn_part_at)) ∷ [])
    (mapped_reads (λ h. Hidden h) hash_reads (λ h k. k), (mapped_reads (λ parts. Shown parts) (list8_reads (cond (nat_lt room 64) room 64) part_reads) (λ parts k. k.1), tt))

-- nine groups at most, whose hashes and nonces have 32 bytes
abbrev pub IsSizedTorn : TornTx → Type 0
IsSizedTorn torn = Few 9 IsSized torn.groups

groups_read : Reads (Few 9 IsSized) groups_at
unfolding groups_at
groups_read = then_reads {rb = λ n rest. run_at group_step group_next n 96 rest} (below_reads 10) (λ n lt. few_reads n 9 lt (run_reads group_step group_next (λ k room. group_reads room) n 96))

torn_reads : Reads IsSizedTorn torn_tx_at
unfolding torn_tx_at
torn_reads = mapped_reads (λ p. record { id = p.0; groups = p.1 }) (pair_reads (anything hash_at) groups_read) (λ p h. h.1)

request_reads : Reads (λ (r : Request). IsSizedTorn r.torn) request_at
unfolding request_at
request_reads = mapped_reads (λ (p : Party × (ℕ × (TornTx × Tag))). record { party = p.0; flow = p.1.0; torn = p.1.1.0; tag = p.1.1.1 }) (pair_reads (anything party_at) (pair_reads (anything (number_at w32)) (pair_reads torn_reads (anything tag_at)))) (λ p h. h.1.1.0)

-- an entry over such a tear-off
abbrev pub IsSizedEntry : Entry → Type 0
IsSizedEntry entry = IsSizedTorn entry.request.torn

entry_reads : Reads IsSizedEntry entry_at
unfolding entry_at
entry_reads = mapped_reads (λ (p : Request × (List StateRef × NotaryAnswer)). record { request = p.0; inputs = p.1.0; answer = p.1.1 }) (pair_reads request_reads (anything (pair_at (list8_at 64 state_ref_at) notary_answer_at))) (λ p h. h.0)

-- ---- of transactions

-- a transaction with 64 outputs at most
abbrev pub HasFewOutputs : SignedTx → Type 0
HasFewOutputs stx = length stx.tx.outputs ≤ 64

tx_reads : Reads (λ (tx : Tx). length tx.outputs ≤ 64) tx_at
unfolding tx_at
tx_reads =
    mapped_reads (λ (p : Hash32 × (List StateRef × (List TxState × (List Command × (List Hash32 × (Option Party × (Option Window × List StateRef))))))). record { salt = p.0; inputs = p.1.0; outputs = p.1.1.0; commands = p.1.1.1.0; attachments = p.1.1.1.1.0; notary = p.1.1.1.1.1.0; window = p.1.1.1.1.1.1.0; references = p.1.1.1.1.1.1.1 })
    (pair_reads (anything hash_at) (pair_reads (anything (list8_at 64 state_ref_at)) (pair_reads (list8_reads 64 (anything tx_state_at)) (anything
    (pair_at (list8_at 16 command_at) (pair_at (list8_at 8 hash_at) (pair_at (option_at party_at) (pair_at (option_at window_at) (list8_at 16 state_ref_at)))))))))
    (λ p h. h.1.1.0.0)

signed_tx_reads : Reads HasFewOutputs signed_tx_at
unfolding signed_tx_at
signed_tx_reads = mapped_reads (λ (p : Tx × List Tag). record { tx = p.0; tags = p.1 }) (pair_reads tx_reads (anything tag_list_at)) (λ p h. h.0)

-- ---- of records

-- what a change of the ledger records and books
abbrev pub IsSizedChange : LedgerChange → Type 0
IsSizedChange l = IfSome l.recorded HasFewOutputs × IfSome l.booked IsSizedEntry

ledger_reads : (owner : ℕ) (ended : Bool) → Reads IsSizedChange (ledger_at owner ended)
unfolding ledger_at
ledger_reads owner ended = mapped_reads (λ (p : Option SignedTx × (List StateRef × Option Entry)). record { recorded = p.0; locked = p.1.0; owner = owner; ended = ended; booked = p.1.1 }) (pair_reads (option_reads signed_tx_reads) (pair_reads (anything (list8_at 255 state_ref_at)) (option_reads entry_reads))) (λ p h. (h.0, h.1.1))

-- a fact of what a reading gives
abbrev pub Given : {V : Type 0} → (List ℕ → Result (V × List ℕ) ℕ) → (V → Type 0) → Type 0
Given reading P = Reads P reading

pub record_reads : Given record_at (λ r. IsSizedChange r.effect.ledger)
unfolding record_at
record_reads =
    mapped_reads (λ (p : Cause × (FlowPart × (SessionChange × LedgerChange))). record { cause = p.0; effect = record { flow = p.1.0; session = p.1.1.0; ledger = p.1.1.1 } })
    (both_reads (anything cause_at) (λ cause. both_reads (anything part_at) (λ flow. pair_reads (anything (session_at (part_flow flow) (came_key_of cause.event))) (ledger_reads (part_flow flow) (part_over flow))))) (λ p h. h.1.1.1)

-- what is read whole is so
pub whole_reads : {V : Type 0} {P : V → Type 0} {reading : List ℕ → Result (V × List ℕ) ℕ} → Reads P reading → (bytes : List ℕ) (v : V) → whole (reading bytes) ≡ Some v → P v
whole_reads {V} {P} {reading} one bytes v is = by (reading bytes) refl is
  where
    by : (o : Result (V × List ℕ) ℕ) → reading bytes ≡ o → whole o ≡ Some v → P v
    by (Ok (w, [])) e is = from_some P is (one.of bytes (w, []) e)
    by (Ok (w, b ∷ rest)) e is = absurd cc
    by (Err n) e is = absurd cc
