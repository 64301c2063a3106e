-- Recorded transactions of different ids, told apart, consume no state twice.
use Rattle.std.proofs.Common.{◌≡◌, ℕ, zero, suc, ◌||◌, not, Bool, true, false, List, [], ◌∷◌, ◌++◌, Some, None, slice_get, true≢false, refl, sym, ap, ◌∙◌, arith}
use Rattle.std.specs.List.{AllByRecursion, Contains, list_any}
use Rattle.std.proofs.lemmas.Bool.{and_parts, or_parts, or_from, not-true}
use Rattle.std.proofs.lemmas.List.Folds.{list_any-append}
use Rattle.net_base.specs.declared.values.Hash32.{Hash32}
use Rattle.net_base.specs.declared.names.StateRef.{StateRef}
use Rattle.net_base.proofs.Lists.{all_from_get}
use Rattle.net_base.proofs.Options.{some_eq}
use Rattle.ledger_types.specs.declared.tx.Tx.{Tx}
use Rattle.ledger_types.specs.declared.tx.Resolved.{Resolved}
use Rattle.ledger_types.specs.declared.tx.SignedTx.{SignedTx}
use Rattle.ledger_types.specs.Names.{hash_eq, ref_eq, has_ref, has_repeat}
use Rattle.ledger_types.specs.Rules.{first_broken, rules}
use Rattle.ledger_types.specs.Signatures.{tx_id}
use Rattle.ledger_types.specs.Stores.{is_stored, has_dependencies, untagged}
use Rattle.ledger_types.proofs.Names.{hash_same, hash_exact, ref_exact}
use Rattle.tx_tear.specs.Hashed.{AreApart}
use Rattle.tx_store.specs.Stored.{may_follow, may_all_follow}
use Rattle.net_model.specs.Environment.{Environment}
use Rattle.net_model.specs.State.{NodeState}
use Rattle.net_model.specs.Tags.{book_of}
use Rattle.ledger_laws.specs.Ledgers.{HasNoneSpentTwice, Spends, hashed_to_sign}
use Rattle.contract_laws.specs.Supply.{without_tags, IsAtNode}
use Rattle.contract_laws.proofs.Lawful.{all_false}
use Rattle.contract_laws.proofs.Outputs.{inputs_of}

-- ---- what was recorded in order has each id once

later_new : (first list : List (Hash32 × SignedTx)) (id : Hash32) → may_all_follow first list ≡ true → is_stored first id ≡ true → list_any (λ t. hash_eq id t.0) (untagged list) ≡ false
later_new first [] id follow there = refl
later_new first (p ∷ ps) id follow there =
    let both = and_parts (may_follow first p) (may_all_follow (first ++ p ∷ []) ps) follow in
    let new : is_stored first p.0 ≡ false = not-true _ (and_parts (not (is_stored first p.0)) (has_dependencies first p.1.tx) (and_parts (hash_eq p.0 (tx_id p.1.tx)) _ both.0).1).0 in
    or_from _ _ (other (hash_eq id p.0) refl new) (later_new (first ++ p ∷ []) ps id both.1 (list_any-append (λ q. hash_eq id q.0) first (p ∷ []) ∙ ap (λ b. b || (hash_eq id p.0 || false)) there))
  where
    other : (b : Bool) → hash_eq id p.0 ≡ b → is_stored first p.0 ≡ false → b ≡ false
    other true e new = sym there ∙ ap (λ (x : Hash32). is_stored first x) (hash_exact id p.0 e) ∙ new
    other false e new = refl

pub each_once : (first list : List (Hash32 × SignedTx)) → may_all_follow first list ≡ true → has_repeat (λ u t. hash_eq t.0 u.0) (untagged list) ≡ false
each_once first [] follow = refl
each_once first (p ∷ ps) follow =
    let both = and_parts (may_follow first p) (may_all_follow (first ++ p ∷ []) ps) follow in
    let here : is_stored (first ++ p ∷ []) p.0 ≡ true = list_any-append (λ q. hash_eq p.0 q.0) first (p ∷ []) ∙ ap (λ b. is_stored first p.0 || (b || false)) (hash_same p.0) ∙ last (is_stored first p.0) in
    or_from _ _ (later_new (first ++ p ∷ []) ps p.0 both.1 here) (each_once (first ++ p ∷ []) ps both.1)
  where
    last : (b : Bool) → (b || true) ≡ true
    last true = refl
    last false = refl

-- ---- no state is consumed twice

-- what keeps the rules names no input twice
pub inputs_once : (tx : Tx) (states : Resolved) → first_broken tx states ≡ None → has_repeat ref_eq tx.inputs ≡ false
unfolding first_broken
inputs_once tx states kept = (all_false (rules tx states) kept).1.1.1.1.0

-- lists of which neither repeats an item, nor has one of the other's, repeat none together
pub apart_once : {A : Type 0} (same : A → A → Bool) (xs ys : List A) → has_repeat same xs ≡ false → has_repeat same ys ≡ false → AllByRecursion (λ x. list_any (λ y. same y x) ys ≡ false) xs → has_repeat same (xs ++ ys) ≡ false
apart_once same [] ys one other apart = other
apart_once same (x ∷ xs) ys one other apart =
    let both = or_parts (list_any (λ y. same y x) xs) (has_repeat same xs) one in
    or_from _ _ (list_any-append (λ y. same y x) xs ys ∙ or_from _ _ both.0 apart.0) (apart_once same xs ys both.1 other apart.1)

-- what stands at a place is contained, and so is a reference that is one of these
pub contained : {X : Type 0} (xs : List X) (n : ℕ) (x : X) → slice_get xs n ≡ Some x → Contains xs x
contained [] n x at = absurd cc
contained (y ∷ ys) zero x at = (zero, omega arith, some_eq at)
contained (y ∷ ys) (suc n) x at = let h = contained ys n x at in let lt = h.1 in (suc h.0, omega (arith, lt), h.2)

one_of : (refs : List StateRef) (r : StateRef) → has_ref r refs ≡ true → Contains refs r
one_of [] r has = absurd cc
one_of (x ∷ xs) r has = by (ref_eq x r) refl has (one_of xs r)
  where
    by : (b : Bool) → ref_eq x r ≡ b → (b || has_ref r xs) ≡ true → (has_ref r xs ≡ true → Contains xs r) → Contains (x ∷ xs) r
    by true e h more = (zero, omega arith, ref_exact x r e)
    by false e h more = let c = more h in let lt = c.1 in (suc c.0, omega (arith, lt), c.2)

module _ {F : Type 0} (e : Environment F) (net : List (NodeState F)) (spent : HasNoneSpentTwice e net) where
  -- a recorded transaction whose digests are told apart, and which names no input twice
  pub record Item (stx : SignedTx) : Type 0 where
    pub there : IsAtNode net stx
    pub apart : AreApart (hashed_to_sign (book_of e net) stx.tx)
    pub once : has_repeat ref_eq stx.tx.inputs ≡ false

  spends : (r : StateRef) (stx : SignedTx) → Item stx → Contains stx.tx.inputs r → Spends e net r stx
  spends r stx i has = record { node = i.there.node; state = i.there.state; up = i.there.up; place = i.there.place; there = i.there.there; input = has; apart = i.apart }

  -- no other recorded transaction has an input of this one
  free : (x : SignedTx) → Item x → (r : StateRef) → Contains x.tx.inputs r → (ys : List SignedTx) → AllByRecursion Item ys → list_any (λ t. hash_eq (tx_id x.tx) t.0) (without_tags ys) ≡ false
      → has_ref r (inputs_of (without_tags ys)) ≡ false
  free x i r has [] items others = refl
  free x i r has (y ∷ ys) items others =
      let both = or_parts (hash_eq (tx_id x.tx) (tx_id y.tx)) (list_any (λ t. hash_eq (tx_id x.tx) t.0) (without_tags ys)) others in
      list_any-append (λ q. ref_eq q r) y.tx.inputs (inputs_of (without_tags ys)) ∙ or_from _ _ (by both.0 (has_ref r y.tx.inputs) refl) (free x i r has ys items.1 both.1)
    where
      by : hash_eq (tx_id x.tx) (tx_id y.tx) ≡ false → (b : Bool) → has_ref r y.tx.inputs ≡ b → b ≡ false
      by other true e =
          absurd (spent.once r x y (λ same. true≢false (sym (hash_same (tx_id x.tx)) ∙ (ap (λ (id : Hash32). hash_eq (tx_id x.tx) id) same ∙ other)))
          (spends r x i has) (spends r y items.0 (one_of y.tx.inputs r e)))
      by other false e = refl

  pub none_twice : (xs : List SignedTx) → AllByRecursion Item xs → has_repeat (λ u t. hash_eq t.0 u.0) (without_tags xs) ≡ false → has_repeat ref_eq (inputs_of (without_tags xs)) ≡ false
  none_twice [] items differ = refl
  none_twice (x ∷ xs) items differ =
      let both = or_parts (list_any (λ t. hash_eq (tx_id x.tx) t.0) (without_tags xs)) (has_repeat (λ u t. hash_eq t.0 u.0) (without_tags xs)) differ in
      apart_once ref_eq x.tx.inputs (inputs_of (without_tags xs)) items.0.once (none_twice xs items.1 both.1)
      (all_from_get (λ r. has_ref r (inputs_of (without_tags xs)) ≡ false) x.tx.inputs (λ n r there. free x items.0 r (contained x.tx.inputs n r there) xs items.1 both.0))
