-- A recorded transaction that asks the notary is signed in its book.
use Rattle.std.proofs.Common.{◌&&◌, ◌||◌, ◌≡◌, ℕ, zero, suc, ◌+◌, ◌<◌, ◌≤◌, ⊎_elim, List, [], ◌∷◌, Option, Some, None, Bool, true, false, cond, ◌==◌, not, filter, is_some, slice_get, refl, sym, subst, arith}
use Rattle.std.specs.List.{list_all, list_any, range_with_len}
use Rattle.std.proofs.lemmas.Bool.{and_parts, and_from, or_cases, or_right, not-false, both_ways, eqb-true, eq-eqb}
use Rattle.net_base.specs.declared.values.Hash32.{Hash32}
use Rattle.net_base.specs.declared.values.Party.{Party}
use Rattle.net_base.proofs.Lists.{all_get}
use Rattle.net_base.proofs.Options.{some_eq}
use Rattle.ledger_types.specs.declared.tx.SignedTx.{SignedTx}
use Rattle.ledger_types.specs.declared.notary.Entry.{Entry}
use Rattle.ledger_types.specs.Names.{hash_eq, party_eq, is_party}
use Rattle.net_model.specs.Environment.{Environment}
use Rattle.ledger_types.specs.Rules.{asks_notary, is_other_notary}
use Rattle.ledger_types.specs.Signatures.{tx_id, signs_command, needs, is_tag, checks, has_signed}
use Rattle.ledger_types.specs.Notary.{signs}
use Rattle.ledger_types.proofs.Names.{hash_exact}
use Rattle.net_model.specs.State.{NodeState}
use Rattle.net_model.specs.Stores.{IsProven, AreProven, NamesNotary, StoredIsSigned}
use Rattle.net_model.specs.Tags.{is_good, Passes, book_of}
use Rattle.net_model.proofs.HoldsKept.{run_holds}
use Rattle.net_model.proofs.Proven.{run_proven}

-- what holds of each number of a range that passes a test holds of one that does
range_at : (need test : ℕ → Bool) (a n p : ℕ) → list_all test (filter need (range_with_len a n)) ≡ true → a ≤ p → p < a + n → need p ≡ true → test p ≡ true
range_at need test a zero p h l k holds = absurd (omega arith)
range_at need test a (suc n) p h l k holds =
    (elim (a == p) as (λ b. (a == p) ≡ b → test p ≡ true) [
      | true ↦ λ e.
          let same = eqb-true a p e in
          let here : need a ≡ true = subst (λ (x : ℕ). need x ≡ true) (sym same) holds in
          let all : list_all test (a ∷ filter need (range_with_len (a + 1) n)) ≡ true = rw here at h in
          subst (λ (x : ℕ). test x ≡ true) same (and_parts (test a) (list_all test (filter need (range_with_len (a + 1) n))) all).0
      | false ↦ λ e. let ne : a ≡ p → ⊥ = λ z. both_ways (a == p) e (eq-eqb a p z) in range_at need test (a + 1) n p (tail (need a) h) (omega arith) (omega arith) holds
    ]) refl
  where
    tail : (b : Bool) → list_all test (cond b (a ∷ filter need (range_with_len (a + 1) n)) (filter need (range_with_len (a + 1) n))) ≡ true → list_all test (filter need (range_with_len (a + 1) n)) ≡ true
    tail true k = (and_parts (test a) (list_all test (filter need (range_with_len (a + 1) n))) k).1
    tail false k = k

-- an element that passes both
record Both {X : Type 0} (P Q : X → Bool) : Type 0 where
  it : X
  first : P it ≡ true
  second : Q it ≡ true

both_of : {X : Type 0} (P Q : X → Bool) (xs : List X) → list_any P xs ≡ true → list_all Q xs ≡ true → Both P Q
both_of P Q [] h k = cc
both_of P Q (x ∷ xs) h k = let q = and_parts (Q x) (list_all Q xs) k in ⊎_elim (λ l. record { it = x; first = l; second = q.0 }) (λ l. both_of P Q xs l q.1) (or_cases (P x) (list_any P xs) h)

kept : (a b : Bool) → a ≡ true → not a || b ≡ true → b ≡ true
kept true b h k = k
kept false b h k = cc

module _ {F : Type 0} (w : Environment F) (book : List Entry) where
  near_party : (o : Option Party) → is_some o ≡ true → is_other_notary o w.notary ≡ false → is_party (record { 0 = w.notary.0 }) o ≡ true
  near_party None h k = cc
  near_party (Some q) h k = eq-eqb w.notary.0 q.0 (sym (eqb-true q.0 w.notary.0 (not-false (q.0 == w.notary.0) k)))

  pub stored_signed : NamesNotary w → w.notary.0 < 16 → (s : NodeState F) (stx : SignedTx) (n : ℕ) → AreProven w s.stored → Passes w.machine (is_good w book) s → slice_get s.stored n ≡ Some stx → asks_notary stx.tx ≡ true → list_any (signs (tx_id stx.tx)) book ≡ true
  stored_signed names small s stx n proven passes is asks =
      let p = all_get (IsProven w s.stored) s.stored n stx proven is in
      let named = names stx.tx p.states p.accepted asks in
      let need : needs stx.tx w.notary.0 ≡ true = or_right (signs_command stx.tx w.notary.0) _ (and_from _ _ asks (near_party stx.tx.notary named p.near)) in
      let tagged = range_at (needs stx.tx) (has_signed w.mark stx) 0 16 w.notary.0 p.signed (omega arith) (omega arith) need in
      let good = tags_good s.stored n stx passes.stored is in
      let b = both_of (is_tag w.mark (tx_id stx.tx) w.notary.0) (is_good w book) stx.tags tagged good in
      let t = and_parts (b.it.by.0 == w.notary.0) (hash_eq b.it.of (tx_id stx.tx) && checks w.mark b.it) b.first in let u = and_parts (hash_eq b.it.of (tx_id stx.tx)) (checks w.mark b.it) t.1 in
      let own = kept (party_eq b.it.by w.notary) (checks w.mark b.it && list_any (signs b.it.of) book) t.0 b.second in
      let v = and_parts (checks w.mark b.it) (list_any (signs b.it.of) book) own in
      subst (λ (h : Hash32). list_any (signs h) book ≡ true) (hash_exact b.it.of (tx_id stx.tx) u.0) v.1
    where
      tags_good : (xs : List SignedTx) (k : ℕ) (x : SignedTx) → list_all (λ y. list_all (is_good w book) y.tags) xs ≡ true → slice_get xs k ≡ Some x → list_all (is_good w book) x.tags ≡ true
      tags_good [] k x h e = cc
      tags_good (y ∷ ys) zero x h e = subst (λ (z : SignedTx). list_all (is_good w book) z.tags ≡ true) (some_eq e) (and_parts (list_all (is_good w book) y.tags) (list_all (λ z. list_all (is_good w book) z.tags) ys) h).0
      tags_good (y ∷ ys) (suc k) x h e = tags_good ys k x (and_parts (list_all (is_good w book) y.tags) (list_all (λ z. list_all (is_good w book) z.tags) ys) h).1 e

pub stored_is_signed : {F : Type 0} → StoredIsSigned F
stored_is_signed w causes net p n s stx keeps bare names small run is there asks = stored_signed w (book_of w net) names small s stx n (run_proven w causes net run p s is) (run_holds w keeps bare causes net run p s is) there asks
