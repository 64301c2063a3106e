-- Deliveries that commit nothing, at one place and at all.
use Rattle.std.proofs.Common.{◌≡◌, ℕ, zero, suc, ◌<◌, ◌⊎◌, inl, inr, ⊎_elim, List, Some, Bool, true, false, length, slice_get, slice_set, refl, sym, ◌∙◌, ap, subst, arith}
use Rattle.std.proofs.lemmas.Option.{slice_get_within}
use Rattle.net_base.proofs.Lists.{set_length}
use Rattle.session_frames.specs.declared.sending.Outgoing.{Outgoing}
use Rattle.net_model.specs.Environment.{Environment}
use Rattle.network_core.specs.declared.refusal.Refusal.{Refusal}
use Rattle.network_core.specs.declared.refusal.Refusal.TheVariants as refusal
use Rattle.network_core.specs.declared.steps.Outcome.{Outcome}
use Rattle.network_core.specs.declared.steps.Outcome.TheVariants as outcome
use Rattle.network_core.specs.Worlds.{NodeWorld, World}
use Rattle.network_core.specs.WorldSteps.{WorldTakes, waits_on, handed_over, without, sent_all}
use Rattle.network_core.specs.Drains.{HandAt, world_steps}
use Rattle.network_core.specs.Rounds.{InOrder, Hands, DeliversAt, IsTaken, committed}
use Rattle.network_core.proofs.QuietingFrames.{Has, Keeps, keeps_same, keeps_then, all_grown, get_set}
use Rattle.network_core.proofs.QuietingSteps.{order_all, Still, Stayed, stayed_same, stayed_then, waits_taken, rest_has, none_first, handed, same_node, down_not_up, IsNextFor, hears_still, takes_none, hears_refused}

-- where a delivery ends those at its place
abbrev pub IsOver : Outcome → Type 0
IsOver o = (o ≡ outcome.Refused refusal.NoFrame) ⊎ (o ≡ outcome.Refused refusal.NodeDown)

commits_none : (o : Outcome) → IsOver o → committed o ≡ 0
commits_none o (inl is) = ap committed is
commits_none o (inr is) = ap committed is

-- it is a refusal, and not by a full journal
over_why : (o : Outcome) → IsOver o → (why : Refusal) × (o ≡ outcome.Refused why) × (why ≡ refusal.Full → ⊥)
over_why o (inl is) = (refusal.NoFrame, is, λ full. cc)
over_why o (inr is) = (refusal.NodeDown, is, λ full. cc)

module _ {F : Type 0} (e : Environment F) where
  -- a frame was handed to the node at a place
  pub record Takes (r : ℕ) (w : World) (o : Outcome) (v : World) : Type 0 where
    pub x : NodeWorld
    pub there : slice_get w.nodes r ≡ Some x
    pub up : x.up ≡ true
    pub bytes : List ℕ
    pub y : NodeWorld
    pub sent : List Outgoing
    pub first : slice_get x.waiting 0 ≡ Some bytes
    pub takes : WorldTakes e r w.now bytes x (Some o) y sent
    pub after : v ≡ record { nodes = sent_all sent (slice_set w.nodes r (handed_over (waits_on false (Some o)) 0 y)); now = w.now }

  -- a delivery left the world as it was, or handed a frame over
  hand_parts : (r : ℕ) (w v : World) (o : Outcome) → HandAt e r w (Some o) v → (v ≡ w) ⊎ Takes r w o v
  hand_parts r w v o (inl (past, is, same)) = inl same
  hand_parts r w v o (inr (x, there, inl (down, is, same))) = inl same
  hand_parts r w v o (inr (x, there, inr (up, inl (none, is, same)))) = inl same
  hand_parts r w v o (inr (x, there, inr (up, inr (bytes, y, sent, first, takes, same)))) = inr (record { x = x; there = there; up = up; bytes = bytes; y = y; sent = sent; first = first; takes = takes; after = same })

  module _ (r : ℕ) (w v : World) (o : Outcome) (t : Takes r w o v) where
    abbrev over : NodeWorld
    over = handed_over (waits_on false (Some o)) 0 t.y

    abbrev middle : List NodeWorld
    middle = slice_set w.nodes r over

    count_after : length v.nodes ≡ length w.nodes
    count_after = ap (λ (a : World). length a.nodes) t.after ∙ (all_grown t.sent middle).count ∙ set_length w.nodes r over

    -- what stands at a place came by what was sent
    behind : (q : ℕ) (z : NodeWorld) → slice_get v.nodes q ≡ Some z → (u : NodeWorld) × (slice_get middle q ≡ Some u) × Keeps u z
    behind q z h = (all_grown t.sent middle).back q z (ap (λ (a : World). slice_get a.nodes q) (sym t.after) ∙ h)

    others_after : (q : ℕ) (z : NodeWorld) → (q ≡ r → ⊥) → slice_get v.nodes q ≡ Some z → (x : NodeWorld) × (slice_get w.nodes q ≡ Some x) × Keeps x z
    others_after q z other h =
        let u = behind q z h in
        ⊎_elim (λ s. absurd (other s.0)) (λ s. (u.0, s.1, u.2)) (get_set w.nodes r over q u.0 u.1)

    still_of : (u z : NodeWorld) → u ≡ over → Keeps u z → committed o ≡ 0 → z.up ≡ true → Still t.x z
    still_of u z is keeps nothing up =
        let h = handed (waits_on false (Some o)) 0 t.y in
        let k = subst (λ (a : NodeWorld). Keeps a z) is keeps in
        let q = hears_still e r w.now t.takes.0 t.x o t.y t.sent t.takes.3 nothing (sym h.up ∙ sym k.up ∙ up) in
        record { up = t.up; journal = k.journal ∙ h.journal ∙ q.journal; other = k.other ∙ h.other ∙ q.other }

    stayed_after : committed o ≡ 0 → Stayed w v
    stayed_after nothing = record {
      now = ap (λ (a : World). a.now) t.after;
      count = count_after;
      back = λ q z h up.
          let u = behind q z h in
          ⊎_elim
          (λ s. (t.x, ap (slice_get w.nodes) s.0 ∙ t.there, still_of u.0 z s.1 u.2 nothing up))
          (λ s. (u.0, s.1, record { up = sym u.2.up ∙ up; journal = u.2.journal; other = u.2.other }))
          (get_set w.nodes r over q u.0 u.1);
    }

    -- a frame that waits, and is to be committed where it is handed over, waits on
    waits_after : (b : List ℕ) (z : NodeWorld) → IsTaken o → committed o ≡ 0 → IsNextFor e r t.x.journal b → Has b t.x.waiting → slice_get v.nodes r ≡ Some z → z.up ≡ true → Has b z.waiting
    waits_after b z taken nothing next has h up =
        let u = behind r z h in
        let is : u.0 ≡ over = ⊎_elim (λ s. s.1) (λ s. absurd (s.0 refl)) (get_set w.nodes r over r u.0 u.1) in
        let same = handed (waits_on false (Some o)) 0 t.y in
        let k = subst (λ (a : NodeWorld). Keeps a z) is u.2 in
        let lit : t.y.up ≡ true = sym same.up ∙ sym k.up ∙ up in
        let q = hears_still e r w.now t.takes.0 t.x o t.y t.sent t.takes.3 nothing lit in
        ⊎_elim
        (λ front. absurd (takes_none e r w.now b t.x o t.y t.sent next (subst (λ (c : List ℕ). WorldTakes e r w.now c t.x (Some o) t.y t.sent) front t.takes) taken nothing lit))
        (λ rest.
        let left : Has b (without 0 t.y.waiting) = rw q.waiting rest in
        let there : Has b over.waiting = subst (λ (f : Bool). Has b (handed_over f 0 t.y).waiting) (sym (waits_taken o taken)) left in
        k.waits b there)
        (rest_has b t.bytes t.x.waiting t.first has)

  -- ---- one delivery

  pub hand_stayed : (r : ℕ) (w v : World) (o : Outcome) → committed o ≡ 0 → HandAt e r w (Some o) v → Stayed w v
  hand_stayed r w v o nothing h = ⊎_elim (λ same. subst (Stayed w) (sym same) (stayed_same w)) (λ t. stayed_after r w v o t nothing) (hand_parts r w v o h)

  hand_others : (r q : ℕ) (w v : World) (o : Outcome) (z : NodeWorld) → (q ≡ r → ⊥) → HandAt e r w (Some o) v → slice_get v.nodes q ≡ Some z → (x : NodeWorld) × (slice_get w.nodes q ≡ Some x) × Keeps x z
  hand_others r q w v o z other h at = ⊎_elim (λ same. (z, ap (λ (a : World). slice_get a.nodes q) (sym same) ∙ at, keeps_same z)) (λ t. others_after r w v o t q z other at) (hand_parts r w v o h)

  hand_waits : (r : ℕ) (w v : World) (o : Outcome) (b : List ℕ) (z : NodeWorld) → IsTaken o → committed o ≡ 0 → HandAt e r w (Some o) v → IsNextFor e r z.journal b → ((x : NodeWorld) → slice_get w.nodes r ≡ Some x → Has b x.waiting) → slice_get v.nodes r ≡ Some z → z.up ≡ true → Has b z.waiting
  hand_waits r w v o b z taken nothing h next has at up = ⊎_elim
      (λ same. has z (ap (λ (a : World). slice_get a.nodes r) (sym same) ∙ at))
      (λ t.
      let x = (stayed_after r w v o t nothing).back r z at up in
      let one : x.0 ≡ t.x = same_node w.nodes r x.0 t.x x.1 t.there in
      let kept : z.journal ≡ t.x.journal = x.2.journal ∙ ap (λ (a : NodeWorld). a.journal) one in
      waits_after r w v o t b z taken nothing (subst (λ (l : List (List ℕ)). IsNextFor e r l b) kept next) (has t.x t.there) at up)
      (hand_parts r w v o h)

  -- no frame waits once the deliveries at a place are over, where the node is up
  over_none : (r : ℕ) (w v : World) (o : Outcome) (b : List ℕ) (x : NodeWorld) → IsOver o → HandAt e r w (Some o) v → slice_get w.nodes r ≡ Some x → x.up ≡ true → Has b x.waiting → ⊥
  over_none r w v o b x over (inl (past, is, same)) at up has = let k = slice_get_within w.nodes r x at in omega (arith, past, k)
  over_none r w v o b x over (inr (z, there, inl (down, is, same))) at up has =
      let one = same_node w.nodes r z x there at in
      down_not_up x up (ap (λ (a : NodeWorld). a.up) (sym one) ∙ down)
  over_none r w v o b x over (inr (z, there, inr (on, inl (none, is, same)))) at up has =
      let one = same_node w.nodes r z x there at in
      none_first b x.waiting (ap (λ (a : NodeWorld). slice_get a.waiting 0) (sym one) ∙ none) has
  over_none r w v o b x over (inr (z, there, inr (on, inr (bytes, y, sent, first, takes, same)))) at up has =
      let why = over_why o over in
      why.2 (hears_refused e r w.now takes.0 z o y sent why.0 why.1 takes.3)

  -- ---- the deliveries at a place

  hands_stayed : (r d n : ℕ) (w v : World) → n ≡ 0 → Hands (world_steps e) r d n w v → Stayed w v
  hands_stayed r zero n w v nil (is, same) = subst (Stayed w) (sym same) (stayed_same w)
  hands_stayed r (suc d) n w v nil (u, k, o, before, hand, taken, sum) =
      let first : k ≡ 0 = omega (arith, nil, sum) in
      let last : committed o ≡ 0 = omega (arith, nil, sum) in
      stayed_then w u v (hands_stayed r d k w u first before) (hand_stayed r u v o last hand)

  hands_others : (r q d n : ℕ) (w v : World) (z : NodeWorld) → (q ≡ r → ⊥) → Hands (world_steps e) r d n w v → slice_get v.nodes q ≡ Some z → (x : NodeWorld) × (slice_get w.nodes q ≡ Some x) × Keeps x z
  hands_others r q zero n w v z other (is, same) at = (z, ap (λ (a : World). slice_get a.nodes q) (sym same) ∙ at, keeps_same z)
  hands_others r q (suc d) n w v z other (u, k, o, before, hand, taken, sum) at =
      let y = hand_others r q u v o z other hand at in
      let x = hands_others r q d k w u y.0 other before y.1 in
      (x.0, x.1, keeps_then x.0 y.0 z x.2 y.2)

  hands_wait : (r d n : ℕ) (w v : World) (b : List ℕ) (z : NodeWorld) → n ≡ 0 → Hands (world_steps e) r d n w v → IsNextFor e r z.journal b → ((x : NodeWorld) → slice_get w.nodes r ≡ Some x → Has b x.waiting) → slice_get v.nodes r ≡ Some z → z.up ≡ true → Has b z.waiting
  hands_wait r zero n w v b z nil (is, same) next has at up = has z (ap (λ (a : World). slice_get a.nodes r) (sym same) ∙ at)
  hands_wait r (suc d) n w v b z nil (u, k, o, before, hand, taken, sum) next has at up =
      let first : k ≡ 0 = omega (arith, nil, sum) in
      let last : committed o ≡ 0 = omega (arith, nil, sum) in
      let y = (hand_stayed r u v o last hand).back r z at up in
      let there = hands_wait r d k w u b y.0 first before (subst (λ (l : List (List ℕ)). IsNextFor e r l b) y.2.journal next) has y.1 y.2.up in
      hand_waits r u v o b z taken last hand next (λ x k. subst (λ (a : NodeWorld). Has b a.waiting) (same_node u.nodes r y.0 x y.1 k) there) at up

  pub delivers_stayed : (r n : ℕ) (w v : World) → n ≡ 0 → DeliversAt (world_steps e) r n w v → Stayed w v
  delivers_stayed r n w v nil (d, u, hands, (o, hand, over)) = stayed_then w u v (hands_stayed r d n w u nil hands) (hand_stayed r u v o (commits_none o over) hand)

  delivers_others : (r q n : ℕ) (w v : World) (z : NodeWorld) → (q ≡ r → ⊥) → DeliversAt (world_steps e) r n w v → slice_get v.nodes q ≡ Some z → (x : NodeWorld) × (slice_get w.nodes q ≡ Some x) × Keeps x z
  delivers_others r q n w v z other (d, u, hands, (o, hand, over)) at =
      let y = hand_others r q u v o z other hand at in
      let x = hands_others r q d n w u y.0 other hands y.1 in
      (x.0, x.1, keeps_then x.0 y.0 z x.2 y.2)

  -- no frame waited that is to be committed where it is handed over
  pub delivers_none : (r n : ℕ) (w v : World) (b : List ℕ) (z : NodeWorld) → n ≡ 0 → DeliversAt (world_steps e) r n w v → IsNextFor e r z.journal b → ((x : NodeWorld) → slice_get w.nodes r ≡ Some x → Has b x.waiting) → slice_get v.nodes r ≡ Some z → z.up ≡ true → ⊥
  delivers_none r n w v b z nil (d, u, hands, (o, hand, over)) next has at up =
      let y = (hand_stayed r u v o (commits_none o over) hand).back r z at up in
      let there = hands_wait r d n w u b y.0 nil hands (subst (λ (l : List (List ℕ)). IsNextFor e r l b) y.2.journal next) has y.1 y.2.up in
      over_none r u v o b y.0 over hand y.1 y.2.up there

  -- ---- the deliveries at other places

  -- what stands at a place is the same, and what waited waits
  abbrev Same : ℕ → World → World → Type 0
  Same q w v = (z : NodeWorld) → slice_get v.nodes q ≡ Some z → (x : NodeWorld) × (slice_get w.nodes q ≡ Some x) × Keeps x z

  pub before_keeps : (q : ℕ) (w v : World) → InOrder (DeliversAt (world_steps e)) q 0 w v → Same q w v
  before_keeps q w v h =
      order_all (DeliversAt (world_steps e)) (Same q) q (λ a z at. (z, at, keeps_same z))
      (λ p a b c lt k here z at.
      let y = delivers_others p q 0 b c z (λ is. omega (arith, lt, is)) here at in
      let x = k y.0 y.1 in
      (x.0, x.1, keeps_then x.0 y.0 z x.2 y.2))
      q 0 w v refl (omega arith) h
