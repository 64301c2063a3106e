-- The outputs of recorded transactions: what a reference names is one of them, and what of a token is left once references are consumed.
use Rattle.std.proofs.Common.{◌≡◌, ℕ, zero, suc, ◌+◌, ◌<◌, ◌≤◌, ◌==◌, ◌&&◌, ◌||◌, not, Bool, true, false, cond, List, [], ◌∷◌, Option, Some, None, filter, sum_by, flat_map, slice_get, refl, sym, ap, subst, ◌∙◌, arith}
use Rattle.std.specs.List.{list_any}
use Rattle.std.proofs.lemmas.Bool.{and_left, and_right, or_parts, and_from, ne_eqb}
use Rattle.std.proofs.lemmas.Bool.Decides.{Decides-eqb}
use Rattle.std.proofs.lemmas.List.Folds.{list_any-append}
use Rattle.std.proofs.lemmas.List.Sums.{sum_by-cons, sum_by-append, sum_by-le-sum_by}
use Rattle.net_base.specs.declared.values.Hash32.{Hash32}
use Rattle.net_base.specs.declared.values.Party.{Party}
use Rattle.net_base.specs.declared.names.StateRef.{StateRef}
use Rattle.net_base.specs.declared.names.Token.{Token}
use Rattle.net_base.proofs.Options.{some_eq}
use Rattle.ledger_types.specs.declared.state.StateData.{StateData}
use Rattle.ledger_types.specs.declared.state.StateData.TheVariants.{Cash, TimeLock, Fact, Iou}
use Rattle.ledger_types.specs.declared.state.TxState.{TxState}
use Rattle.ledger_types.specs.declared.tx.Tx.{Tx}
use Rattle.ledger_types.specs.declared.tx.SignedTx.{SignedTx}
use Rattle.ledger_types.specs.declared.held.Held.{Held}
use Rattle.ledger_types.specs.Names.{hash_eq, ref_eq, has_ref, has_repeat, party_eq, token_eq}
use Rattle.ledger_types.specs.Stores.{state_of, states_of, untagged}
use Rattle.ledger_types.specs.Tears.{joined}
use Rattle.ledger_types.specs.Vaults.{Lock, held, outputs_from, is_consumed, all_outputs, is_relevant, vault_of, is_cash_of, cash_amount, balance_of}
use Rattle.ledger_types.proofs.Names.{hash_exact, hash_swapped, ref_exact, ref_swapped}
use Rattle.cash_contract.specs.Clauses.{amount_in, value_in}
use Rattle.contract_laws.proofs.Sums.{sum_filter, sum_both, sum_same, sum_none}

-- ---- what is consumed

-- the inputs of all these transactions
abbrev pub inputs_of : List (Hash32 × Tx) → List StateRef
inputs_of recorded = flat_map (λ t. t.1.inputs) recorded

consumed_is : (recorded : List (Hash32 × Tx)) (r : StateRef) → is_consumed recorded r ≡ has_ref r (inputs_of recorded)
consumed_is [] r = refl
consumed_is (t ∷ ts) r = ap (λ b. has_ref r t.1.inputs || b) (consumed_is ts r) ∙ sym (list_any-append (λ s. ref_eq s r) t.1.inputs (inputs_of ts))

-- ---- a balance is a sum

number_swapped : (m n : ℕ) → (m == n) ≡ (n == m)
number_swapped m n = ref_swapped (record { id = record { 0 = [] }; index = m }) (record { id = record { 0 = [] }; index = n })

token_swapped : (a b : Token) → token_eq a b ≡ token_eq b a
token_swapped a b =
    let issuer = number_swapped a.issuer.0 b.issuer.0 in
    let code = hash_swapped (record { 0 = a.code }) (record { 0 = b.code }) in
    λ i. issuer i && code i

amount_is : (token : Token) (d : StateData) → amount_in token d ≡ cond (is_cash_of token d) (cash_amount d) 0
amount_is token (Cash other amount owner) = ap (λ b. cond b amount 0) (token_swapped other token)
amount_is token (TimeLock owner until) = refl
amount_is token (Fact issuer name value) = refl
amount_is token (Iou lender borrower owed amount) = refl

module _ (token : Token) where
  abbrev pub amount : Held → ℕ
  amount h = amount_in token h.state.body

  balance_is : (hs : List Held) → balance_of token hs ≡ sum_by amount hs
  balance_is hs = sum_filter (λ h. cash_amount h.state.body) (λ h. is_cash_of token h.state.body) hs ∙ sum_same _ amount hs (λ h. sym (amount_is token h.state.body))

  -- the amount of an output unless one of these references names it, and if this one does
  abbrev left : List StateRef → Held → ℕ
  left refs h = cond (not (has_ref h.reference refs)) (amount h) 0

  abbrev pub hit : StateRef → Held → ℕ
  hit r h = cond (ref_eq h.reference r) (amount h) 0

  -- ---- one more reference

  one_more : (r : StateRef) (refs : List StateRef) → has_ref r refs ≡ false → (h : Held) → left (r ∷ refs) h + hit r h ≡ left refs h
  one_more r refs new h = by (ref_eq r h.reference) (has_ref h.reference refs) refl refl
    where
      by : (b c : Bool) → ref_eq r h.reference ≡ b → has_ref h.reference refs ≡ c → cond (not (b || c)) (amount h) 0 + cond (ref_eq h.reference r) (amount h) 0 ≡ cond (not c) (amount h) 0
      by true true e k = absurd (let no : has_ref h.reference refs ≡ false = subst (λ (s : StateRef). has_ref s refs ≡ false) (ref_exact r h.reference e) new in cc)
      by true false e k = ap (λ b. 0 + cond b (amount h) 0) (ref_swapped h.reference r ∙ e) ∙ omega arith
      by false true e k = ap (λ b. 0 + cond b (amount h) 0) (ref_swapped h.reference r ∙ e)
      by false false e k = ap (λ b. amount h + cond b (amount h) 0) (ref_swapped h.reference r ∙ e) ∙ omega arith

  -- what is left behind references of which none stands twice, and what these name, is all
  pub all_left : (hs : List Held) (refs : List StateRef) → has_repeat ref_eq refs ≡ false → sum_by (left refs) hs + sum_by (λ r. sum_by (hit r) hs) refs ≡ sum_by amount hs
  all_left hs [] once = omega arith
  all_left hs (r ∷ refs) once =
      let both = or_parts (has_ref r refs) (has_repeat ref_eq refs) once in
      omega (arith, sum_by-cons (λ s. sum_by (hit s) hs) r refs, sum_both (left (r ∷ refs)) (hit r) (left refs) hs (one_more r refs both.0), all_left hs refs both.1)

  -- ---- what a reference names

  module _ (r : StateRef) where
    hits_other : (id : Hash32) (n : ℕ) (states : List TxState) → hash_eq id r.id ≡ false → sum_by (hit r) (outputs_from [] id n states) ≡ 0
    hits_other id n [] other = refl
    hits_other id n (x ∷ xs) other =
        let here : hit r (held [] (record { id = id; index = n }) x) ≡ 0 = ap (λ b. cond b (amount_in token x.body) 0) (and_left (hash_eq id r.id) (n == r.index) other) in
        omega (arith, sum_by-cons (hit r) (held [] (record { id = id; index = n }) x) (outputs_from [] id (n + 1) xs), here, hits_other id (n + 1) xs other)

    hits_below : (id : Hash32) (n : ℕ) (states : List TxState) → r.index < n → sum_by (hit r) (outputs_from [] id n states) ≡ 0
    hits_below id n [] below = refl
    hits_below id n (x ∷ xs) below =
        let here : hit r (held [] (record { id = id; index = n }) x) ≡ 0 = ap (λ b. cond b (amount_in token x.body) 0) (and_right (hash_eq id r.id) (n == r.index) (ne_eqb n r.index (λ e. omega (arith, below, e)))) in
        omega (arith, sum_by-cons (hit r) (held [] (record { id = id; index = n }) x) (outputs_from [] id (n + 1) xs), here, hits_below id (n + 1) xs (omega (arith, below)))

    hits_at : (id : Hash32) (n k : ℕ) (states : List TxState) (s : TxState) → hash_eq id r.id ≡ true → slice_get states k ≡ Some s → r.index ≡ n + k → sum_by (hit r) (outputs_from [] id n states) ≡ amount_in token s.body
    hits_at id n k [] s same at is = absurd cc
    hits_at id n zero (x ∷ xs) s same at is =
        let here : hit r (held [] (record { id = id; index = n }) x) ≡ amount_in token x.body =
        ap (λ b. cond b (amount_in token x.body) 0) (and_from (hash_eq id r.id) (n == r.index) same ((Decides-eqb n r.index).1 (omega (arith, is)))) in
        let one : x ≡ s = some_eq at in
        omega (arith, sum_by-cons (hit r) (held [] (record { id = id; index = n }) x) (outputs_from [] id (n + 1) xs), here, hits_below id (n + 1) xs (omega (arith, is))) ∙ ap (λ (y : TxState). amount_in token y.body) one
    hits_at id n (suc k) (x ∷ xs) s same at is =
        let here : hit r (held [] (record { id = id; index = n }) x) ≡ 0 = ap (λ b. cond b (amount_in token x.body) 0) (and_right (hash_eq id r.id) (n == r.index) (ne_eqb n r.index (λ e. omega (arith, is, e)))) in
        omega (arith, sum_by-cons (hit r) (held [] (record { id = id; index = n }) x) (outputs_from [] id (n + 1) xs), here, hits_at id (n + 1) k xs s same at (omega (arith, is)))

    none_there : (store : List (Hash32 × SignedTx)) → list_any (λ t. hash_eq r.id t.0) (untagged store) ≡ false → sum_by (hit r) (all_outputs [] (untagged store)) ≡ 0
    none_there [] none = refl
    none_there (p ∷ ps) none =
        let both = or_parts (hash_eq r.id p.0) (list_any (λ t. hash_eq r.id t.0) (untagged ps)) none in
        omega (arith, sum_by-append (hit r) (outputs_from [] p.0 0 p.1.tx.outputs) (all_outputs [] (untagged ps)), hits_other p.0 0 p.1.tx.outputs (hash_swapped p.0 r.id ∙ both.0), none_there ps both.1)

    pub named : (store : List (Hash32 × SignedTx)) (s : TxState) → has_repeat (λ u t. hash_eq t.0 u.0) (untagged store) ≡ false → state_of store r ≡ Some s → sum_by (hit r) (all_outputs [] (untagged store)) ≡ amount_in token s.body
    named [] s once is = absurd cc
    named (p ∷ ps) s once is = by (hash_eq r.id p.0) refl (λ later. named ps s both.1 later)
      where
        both : (list_any (λ t. hash_eq p.0 t.0) (untagged ps) ≡ false) × (has_repeat (λ u t. hash_eq t.0 u.0) (untagged ps) ≡ false)
        both = or_parts _ _ once

        split : sum_by (hit r) (all_outputs [] (untagged (p ∷ ps))) ≡ sum_by (hit r) (outputs_from [] p.0 0 p.1.tx.outputs) + sum_by (hit r) (all_outputs [] (untagged ps))
        split = sum_by-append (hit r) (outputs_from [] p.0 0 p.1.tx.outputs) (all_outputs [] (untagged ps))

        by : (b : Bool) → hash_eq r.id p.0 ≡ b → (state_of ps r ≡ Some s → sum_by (hit r) (all_outputs [] (untagged ps)) ≡ amount_in token s.body) → sum_by (hit r) (all_outputs [] (untagged (p ∷ ps))) ≡ amount_in token s.body
        by true e more =
            let at : slice_get p.1.tx.outputs r.index ≡ Some s = sym (rw e refl) ∙ is in
            let rest = none_there ps (subst (λ (id : Hash32). list_any (λ t. hash_eq id t.0) (untagged ps) ≡ false) (sym (hash_exact r.id p.0 e)) both.0) in
            omega (arith, split, hits_at p.0 0 r.index p.1.tx.outputs s (hash_swapped p.0 r.id ∙ e) at (omega arith), rest)
        by false e more =
            let later : state_of ps r ≡ Some s = sym (rw e refl) ∙ is in
            omega (arith, split, hits_other p.0 0 p.1.tx.outputs (hash_swapped p.0 r.id ∙ e), more later)

  -- the value of the states that references name
  pub all_named : (store : List (Hash32 × SignedTx)) → has_repeat (λ u t. hash_eq t.0 u.0) (untagged store) ≡ false → (refs : List StateRef) (states : List TxState) → states_of store refs ≡ Some states
      → value_in token states ≡ sum_by (λ r. sum_by (hit r) (all_outputs [] (untagged store))) refs
  all_named store once [] states is = let none : [] ≡ states = some_eq is in subst (λ (l : List TxState). value_in token l ≡ 0) none refl
  all_named store once (r ∷ refs) states is = by (state_of store r) (states_of store refs) refl refl is (λ rest k. all_named store once refs rest k)
    where
      worth : StateRef → ℕ
      worth q = sum_by (hit q) (all_outputs [] (untagged store))

      by : (o : Option TxState) (os : Option (List TxState)) → state_of store r ≡ o → states_of store refs ≡ os → joined o os ≡ Some states
          → ((rest : List TxState) → states_of store refs ≡ Some rest → value_in token rest ≡ sum_by worth refs) → value_in token states ≡ sum_by worth (r ∷ refs)
      by None os e k j more = absurd cc
      by (Some s) None e k j more = absurd cc
      by (Some s) (Some rest) e k j more =
          let whole : s ∷ rest ≡ states = some_eq j in
          subst (λ (l : List TxState). value_in token l ≡ sum_by worth (r ∷ refs)) whole
          (omega (arith, sum_by-cons (λ (x : TxState). amount_in token x.body) s rest, sum_by-cons worth r refs, named r store s once e, more rest k))

  -- ---- all outputs

  pub made : (id : Hash32) (n : ℕ) (states : List TxState) → sum_by amount (outputs_from [] id n states) ≡ value_in token states
  made id n [] = refl
  made id n (x ∷ xs) =
      omega (arith, sum_by-cons amount (held [] (record { id = id; index = n }) x) (outputs_from [] id (n + 1) xs), sum_by-cons (λ (y : TxState). amount_in token y.body) x xs, made id (n + 1) xs)

  -- ---- what no recorded transaction consumes

  pub unconsumed_is : (recorded : List (Hash32 × Tx)) → balance_of token (filter (λ h. not (is_consumed recorded h.reference)) (all_outputs [] recorded)) ≡ sum_by (left (inputs_of recorded)) (all_outputs [] recorded)
  unconsumed_is recorded =
      let free : Held → Bool = λ h. not (is_consumed recorded h.reference) in
      balance_is (filter free (all_outputs [] recorded)) ∙ sum_filter amount free (all_outputs [] recorded)
      ∙ sum_same _ (left (inputs_of recorded)) (all_outputs [] recorded) (λ h. ap (λ b. cond (not b) (amount h) 0) (consumed_is recorded h.reference))

  -- ---- a balance goes by no lock

  unlocked_from : (f : StateRef → TxState → ℕ) (locks : List Lock) (id : Hash32) (n : ℕ) (states : List TxState) → sum_by (λ h. f h.reference h.state) (outputs_from locks id n states) ≡ sum_by (λ h. f h.reference h.state) (outputs_from [] id n states)
  unlocked_from f locks id n [] = refl
  unlocked_from f locks id n (x ∷ xs) =
      omega (
        arith,
        sum_by-cons (λ (h : Held). f h.reference h.state) (held locks (record { id = id; index = n }) x) (outputs_from locks id (n + 1) xs),
        sum_by-cons (λ (h : Held). f h.reference h.state) (held [] (record { id = id; index = n }) x) (outputs_from [] id (n + 1) xs),
        unlocked_from f locks id (n + 1) xs,
      )

  unlocked : (f : StateRef → TxState → ℕ) (locks : List Lock) (recorded : List (Hash32 × Tx)) → sum_by (λ h. f h.reference h.state) (all_outputs locks recorded) ≡ sum_by (λ h. f h.reference h.state) (all_outputs [] recorded)
  unlocked f locks [] = refl
  unlocked f locks (t ∷ ts) =
      omega (
        arith,
        sum_by-append (λ (h : Held). f h.reference h.state) (outputs_from locks t.0 0 t.1.outputs) (all_outputs locks ts),
        sum_by-append (λ (h : Held). f h.reference h.state) (outputs_from [] t.0 0 t.1.outputs) (all_outputs [] ts),
        unlocked_from f locks t.0 0 t.1.outputs,
        unlocked f locks ts,
      )

  -- what of an output is a party's
  abbrev own : List (Hash32 × Tx) → Party → StateRef → TxState → ℕ
  own recorded me r s = cond (is_relevant me s.body && not (is_consumed recorded r)) (amount_in token s.body) 0

  balance_own : (me : Party) (locks : List Lock) (recorded : List (Hash32 × Tx)) → balance_of token (vault_of me recorded locks) ≡ sum_by (λ h. own recorded me h.reference h.state) (all_outputs [] recorded)
  unfolding vault_of
  balance_own me locks recorded =
      let mine : Held → Bool = λ h. is_relevant me h.state.body && not (is_consumed recorded h.reference) in
      balance_is (filter mine (all_outputs locks recorded)) ∙ sum_filter amount mine (all_outputs locks recorded) ∙ unlocked (own recorded me) locks recorded

  -- ---- the balances of several parties

  none_owns : (owner : Party) (free : Bool) (n : ℕ) (them : List Party) → list_any (λ p. party_eq p owner) them ≡ false → sum_by (λ me. cond (party_eq owner me && free) n 0) them ≡ 0
  none_owns owner free n [] none = refl
  none_owns owner free n (p ∷ them) none =
      let both = or_parts (party_eq p owner) (list_any (λ q. party_eq q owner) them) none in
      let here : cond (party_eq owner p && free) n 0 ≡ 0 = ap (λ b. cond (b && free) n 0) (number_swapped owner.0 p.0 ∙ both.0) in
      omega (arith, sum_by-cons (λ (me : Party). cond (party_eq owner me && free) n 0) p them, here, none_owns owner free n them both.1)

  one_owns : (owner : Party) (free : Bool) (n : ℕ) (them : List Party) → has_repeat party_eq them ≡ false → sum_by (λ me. cond (party_eq owner me && free) n 0) them ≤ cond free n 0
  one_owns owner free n [] once = omega arith
  one_owns owner free n (p ∷ them) once =
      let both = or_parts (list_any (λ q. party_eq q p) them) (has_repeat party_eq them) once in
      by (party_eq owner p) refl both.0 (one_owns owner free n them both.1)
    where
      by : (b : Bool) → party_eq owner p ≡ b → list_any (λ q. party_eq q p) them ≡ false → sum_by (λ me. cond (party_eq owner me && free) n 0) them ≤ cond free n 0
          → sum_by (λ me. cond (party_eq owner me && free) n 0) (p ∷ them) ≤ cond free n 0
      by true e none rest =
          let here : cond (party_eq owner p && free) n 0 ≡ cond free n 0 = ap (λ b. cond (b && free) n 0) e in
          let others = none_owns owner free n them (subst (λ m. list_any (λ (q : Party). q.0 == m) them ≡ false) (sym ((Decides-eqb owner.0 p.0).0 e)) none) in
          omega (arith, sum_by-cons (λ (me : Party). cond (party_eq owner me && free) n 0) p them, here, others)
      by false e none rest =
          let here : cond (party_eq owner p && free) n 0 ≡ 0 = ap (λ b. cond (b && free) n 0) e in
          omega (arith, sum_by-cons (λ (me : Party). cond (party_eq owner me && free) n 0) p them, here, rest)

  -- a state with no amount is nobody's
  nothing : (f : Party → Bool) (them : List Party) → sum_by (λ me. cond (f me) 0 0) them ≡ 0
  nothing f them = sum_none (λ me. cond (f me) 0 0) them (λ me. zero_either (f me))
    where
      zero_either : (b : Bool) → cond {A = ℕ} b 0 0 ≡ 0
      zero_either true = refl
      zero_either false = refl

  owned : (d : StateData) (free : Bool) (them : List Party) → has_repeat party_eq them ≡ false → sum_by (λ me. cond (is_relevant me d && free) (amount_in token d) 0) them ≤ cond free (amount_in token d) 0
  owned (Cash other amount owner) free them once = one_owns owner free (amount_in token (Cash other amount owner)) them once
  owned (TimeLock owner until) free them once = omega (arith, nothing (λ me. is_relevant me (TimeLock owner until) && free) them)
  owned (Fact issuer name value) free them once = omega (arith, nothing (λ me. is_relevant me (Fact issuer name value) && free) them)
  owned (Iou lender borrower owed amount) free them once = omega (arith, nothing (λ me. is_relevant me (Iou lender borrower owed amount) && free) them)

  module _ (recorded : List (Hash32 × Tx)) (locks : Party → List Lock) where
    -- what of an output is theirs
    abbrev theirs : List Party → Held → ℕ
    theirs them h = sum_by (λ me. own recorded me h.reference h.state) them

    balances_are : (them : List Party) → sum_by (λ me. balance_of token (vault_of me recorded (locks me))) them ≡ sum_by (theirs them) (all_outputs [] recorded)
    balances_are [] = sym (sum_none (theirs []) (all_outputs [] recorded) (λ h. refl))
    balances_are (p ∷ them) =
        omega (
          arith,
          sum_by-cons (λ me. balance_of token (vault_of me recorded (locks me))) p them,
          balance_own p (locks p) recorded,
          balances_are them,
          sum_both (λ h. own recorded p h.reference h.state) (theirs them) (theirs (p ∷ them)) (all_outputs [] recorded) (λ h. sym (sum_by-cons (λ me. own recorded me h.reference h.state) p them)),
        )

    pub balances_within : (them : List Party) → has_repeat party_eq them ≡ false
        → sum_by (λ me. balance_of token (vault_of me recorded (locks me))) them ≤ balance_of token (filter (λ h. not (is_consumed recorded h.reference)) (all_outputs [] recorded))
    balances_within them once =
        let free : Held → Bool = λ h. not (is_consumed recorded h.reference) in
        let all : balance_of token (filter free (all_outputs [] recorded)) ≡ sum_by (λ h. cond (free h) (amount h) 0) (all_outputs [] recorded) =
        balance_is (filter free (all_outputs [] recorded)) ∙ sum_filter amount free (all_outputs [] recorded) in
        let less = sum_by-le-sum_by (theirs them) (λ h. cond (free h) (amount h) 0) (all_outputs [] recorded) (λ h. owned h.state.body (free h) them once) in
        omega (arith, balances_are them, all, less)
