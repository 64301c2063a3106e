-- Two lists of groups that give one id, group by group, where no digests collide.
use Rattle.std.proofs.Common.{◌≡◌, inl, inr, ℕ, zero, suc, ◌+◌, ◌-◌, ◌<◌, ◌≤◌, ◌^◌, List, [], ◌∷◌, ◌++◌, length, take, drop, replicate, map, Option, Some, None, refl, sym, ◌∙◌, ap, subst, arith}
use Rattle.std.specs.Prelude.{slice_index_or, IfSome}
use Rattle.std.specs.List.{AllByRecursion, Contains, flat_map, slice_get}
use Rattle.std.proofs.lemmas.Bool.{cases_lt}
use Rattle.std.proofs.lemmas.List.{length-map}
use Rattle.net_base.proofs.Lists.{all_drop, all_take, all_front}
use Rattle.sha2.specs.Sha256.{sha256}
use Rattle.component_merkle.specs.Merkle.{halves, padded, depth, root_of, group_of, zeros}
use Rattle.component_merkle.proofs.Rooted.{length-padded}
use Rattle.ledger_types.specs.declared.torn.TornPart.{TornPart}
use Rattle.ledger_types.specs.declared.torn.TornGroup.{TornGroup}
use Rattle.ledger_types.specs.declared.torn.TornGroup.TheVariants.{Hidden, Shown}
use Rattle.ledger_types.specs.Tears.{group_value, parts_of}
use Rattle.tx_tear.specs.Agreement.{Are32}
use Rattle.tx_tear.specs.Hashed.{AreApart, hashed_by_halves, hashed_for_root, hashed_for_group, leaf}
use Rattle.tx_tear.proofs.Lengths.{fits, length_digest, length_left, length_right, long_padded, long_group, root_halves}
use Rattle.tx_tear.proofs.Collisions.{Inside, Nonces32, bytes_of, all_right, long_leaves, in_left, in_right, long_left, long_right, node_same, not_node, one_root, parts_same, some_not_zeros, some_not_pads}

-- ---- the group at a place

-- the value at a place of the padded values of groups
abbrev value_at : Option TornGroup → List ℕ
value_at None = zeros
value_at (Some g) = group_value g

padded_at : (gs : List TornGroup) (m k : ℕ) → k < length gs + m → slice_index_or (map group_value gs ++ replicate m zeros) k [] ≡ value_at (slice_get gs k)
padded_at [] zero k lt = absurd (omega arith)
padded_at [] (suc m) zero lt = refl
padded_at [] (suc m) (suc k) lt = padded_at [] m k (omega arith)
padded_at (g ∷ gs) m zero lt = refl
padded_at (g ∷ gs) m (suc k) lt = padded_at gs m k (omega arith)

at_place : (gs : List TornGroup) (d k : ℕ) → depth (length (map group_value gs)) ≡ d → k < 2 ^ d → slice_index_or (padded (depth (length (map group_value gs))) (map group_value gs)) k [] ≡ value_at (slice_get gs k)
at_place gs d k is lt =
    let n = length (map group_value gs) in
    let wide : 2 ^ depth n ≡ 2 ^ d = ap (λ (e : ℕ). 2 ^ e) is in
    padded_at gs (2 ^ depth n - n) k (omega (arith, fits n, wide, length-map gs group_value))

if_at : {A : Type 0} (P : A → Type 0) (xs : List A) (k : ℕ) → AllByRecursion P xs → IfSome (slice_get xs k) P
if_at P [] k h = tt
if_at P (x ∷ xs) zero h = h.0
if_at P (x ∷ xs) (suc k) h = if_at P xs k h.1

-- ---- sound groups

-- hashes and nonces have 32 bytes
abbrev pub IsSized : TornGroup → Type 0
IsSized (Hidden root) = length root.0 ≡ 32
IsSized (Shown parts) = Nonces32 parts

-- a group of that size, with all that is hashed for its value
pub record IsSound (hashed : List (List ℕ)) (g : TornGroup) : Type 0 where
  pub sized : IsSized g
  pub all : Inside hashed (hashed_for_group g)

pub sound : (hashed : List (List ℕ)) (gs : List TornGroup) → AllByRecursion IsSized gs → Inside hashed (flat_map hashed_for_group gs) → AllByRecursion (IsSound hashed) gs
sound hashed [] sized all = tt
sound hashed (g ∷ gs) sized all = (
  record { sized = sized.0; all = all_front (Contains hashed) (hashed_for_group g) (flat_map hashed_for_group gs) all },
  sound hashed gs sized.1 (all_right (Contains hashed) (hashed_for_group g) (flat_map hashed_for_group gs) all),
)

long_value : (g : TornGroup) → IsSized g → length (group_value g) ≡ 32
long_value (Hidden root) sized = sized
long_value (Shown parts) sized = long_group (map leaf parts) (long_leaves parts)

long_values : (gs : List TornGroup) → AllByRecursion IsSized gs → Are32 (map group_value gs)
long_values [] sized = tt
long_values (g ∷ gs) sized = (long_value g sized.0, long_values gs sized.1)

sizes : (hashed : List (List ℕ)) (gs : List TornGroup) → AllByRecursion (IsSound hashed) gs → AllByRecursion IsSized gs
sizes hashed [] s = tt
sizes hashed (g ∷ gs) s = (s.0.sized, sizes hashed gs s.1)

-- ---- depths

-- five to eight groups are padded to eight
depth_low : (n : ℕ) → 4 < n → n < 9 → depth n ≡ 3
depth_low (suc (suc (suc (suc (suc zero))))) a b = refl
depth_low (suc (suc (suc (suc (suc (suc zero)))))) a b = refl
depth_low (suc (suc (suc (suc (suc (suc (suc zero))))))) a b = refl
depth_low (suc (suc (suc (suc (suc (suc (suc (suc zero)))))))) a b = refl
depth_low n a b = absurd (omega arith)

low_depth : (gs : List TornGroup) → 4 < length gs → length gs < 9 → depth (length (map group_value gs)) ≡ 3
low_depth gs a b = depth_low (length (map group_value gs)) (omega (arith, length-map gs group_value)) (omega (arith, length-map gs group_value))

nine_depth : (gs : List TornGroup) → length gs ≡ 9 → depth (length (map group_value gs)) ≡ 4
nine_depth gs n = ap depth (length-map gs group_value ∙ n)

-- nine are padded to sixteen, the last seven of which are padding
nine_padded : (vs : List (List ℕ)) → length vs ≡ 9 → drop 4 (drop 8 (padded 4 vs)) ≡ zeros ∷ zeros ∷ zeros ∷ zeros ∷ []
nine_padded (a ∷ b ∷ c ∷ d ∷ e ∷ f ∷ g ∷ h ∷ i ∷ []) n = refl
nine_padded vs n = absurd (omega arith)

seventh : (xs : List (List ℕ)) → length xs ≡ 8 → slice_index_or (take 1 (drop 2 (drop 4 xs))) 0 [] ≡ slice_index_or xs 6 []
seventh (a ∷ b ∷ c ∷ d ∷ e ∷ f ∷ g ∷ xs) n = refl
seventh xs n = absurd (omega arith)

fifth : (xs : List (List ℕ)) → length xs ≡ 8 → slice_index_or (take 1 (take 2 (drop 4 xs))) 0 [] ≡ slice_index_or xs 4 []
fifth (a ∷ b ∷ c ∷ d ∷ e ∷ xs) n = refl
fifth xs n = absurd (omega arith)

-- one leaf is the value of its group
single : (x : List ℕ) → group_of (x ∷ []) ≡ x
unfolding group_of root_of
single x = refl

module _ (hashed : List (List ℕ)) (h : AreApart hashed) where
  -- groups with one value show the same bytes, and one that isn't there shows what padding does
  at_same : (a b : Option TornGroup) (ps qs : List TornPart) → IfSome a (IsSound hashed) → IfSome b (IsSound hashed) → parts_of a ≡ Some ps → parts_of b ≡ Some qs → value_at a ≡ value_at b → bytes_of ps ≡ bytes_of qs
  at_same None None ps qs sa sb ea eb e = let x : ps ≡ [] = cc in let y : qs ≡ [] = cc in ap bytes_of (x ∙ sym y)
  at_same None (Some (Hidden root)) ps qs sa sb ea eb e = absurd cc
  at_same None (Some (Shown [])) ps qs sa sb ea eb e = let x : ps ≡ [] = cc in let y : qs ≡ [] = cc in ap bytes_of (x ∙ sym y)
  at_same None (Some (Shown (r ∷ rs))) ps qs sa sb ea eb e = absurd (some_not_zeros hashed h r rs sb.all (sym e))
  at_same (Some (Hidden root)) b ps qs sa sb ea eb e = absurd cc
  at_same (Some (Shown [])) None ps qs sa sb ea eb e = let x : ps ≡ [] = cc in let y : qs ≡ [] = cc in ap bytes_of (x ∙ sym y)
  at_same (Some (Shown (r ∷ rs))) None ps qs sa sb ea eb e = absurd (some_not_zeros hashed h r rs sa.all e)
  at_same (Some (Shown us)) (Some (Hidden root)) ps qs sa sb ea eb e = absurd cc
  at_same (Some (Shown us)) (Some (Shown vs)) ps qs sa sb ea eb e =
      let x : us ≡ ps = cc in
      let y : vs ≡ qs = cc in
      ap bytes_of (sym x) ∙ parts_same hashed h us vs sa.sized sb.sized sa.all sb.all e ∙ ap bytes_of y

  -- the right half of a tree of eight, where its root is one of sixteen
  right_half : (xs ys : List (List ℕ)) → length xs ≡ 8 → length ys ≡ 16 → Are32 xs → Are32 ys → Inside hashed (hashed_by_halves 3 xs) → Inside hashed (hashed_by_halves 4 ys) → halves 3 xs ≡ halves 4 ys
      → (halves 1 (take 2 (drop 4 xs)) ≡ halves 2 (take 4 (drop 8 ys))) × (halves 1 (drop 2 (drop 4 xs)) ≡ halves 2 (drop 4 (drop 8 ys)))
  right_half xs ys n m lx ly ix iy e =
      let first = node_same hashed h (halves 2 (take 4 xs)) (halves 2 (drop 4 xs)) (halves 3 (take 8 ys)) (halves 3 (drop 8 ys)) (long_left hashed h 2 xs n lx) (long_left hashed h 3 ys m ly) ix.0 iy.0 e in
      node_same hashed h (halves 1 (take 2 (drop 4 xs))) (halves 1 (drop 2 (drop 4 xs))) (halves 2 (take 4 (drop 8 ys))) (halves 2 (drop 4 (drop 8 ys)))
      (long_left hashed h 1 (drop 4 xs) (length_right 2 xs n) (all_drop _ 4 xs lx)) (long_left hashed h 2 (drop 8 ys) (length_right 3 ys m) (all_drop _ 8 ys ly)) (in_right hashed h 2 xs ix).0 (in_right hashed h 3 ys iy).0 first.1

  -- the fifth of eight hashes that have a root with sixteen is no leaf
  fifth_no_leaf : (xs ys : List (List ℕ)) (m : List ℕ) → length xs ≡ 8 → length ys ≡ 16 → Are32 xs → Are32 ys → Inside hashed (hashed_by_halves 3 xs) → Inside hashed (hashed_by_halves 4 ys) → halves 3 xs ≡ halves 4 ys
      → Contains hashed m → length m ≡ 32 → slice_index_or xs 4 [] ≡ sha256 m → ⊥
  fifth_no_leaf xs ys k n m lx ly ix iy e has long is =
      let xs' = take 2 (drop 4 xs) in
      let ys' = take 4 (drop 8 ys) in
      let two : length xs' ≡ 2 = length_left 1 (drop 4 xs) (length_right 2 xs n) in
      let four : length ys' ≡ 4 = length_left 2 (drop 8 ys) (length_right 3 ys m) in
      let lx' = all_take _ 2 (drop 4 xs) (all_drop _ 4 xs lx) in
      let ly' = all_take _ 4 (drop 8 ys) (all_drop _ 8 ys ly) in
      let ix' = in_left hashed h 1 (drop 4 xs) (in_right hashed h 2 xs ix) in
      let iy' = in_left hashed h 2 (drop 8 ys) (in_right hashed h 3 ys iy) in
      let both = node_same hashed h (halves 0 (take 1 xs')) (halves 0 (drop 1 xs')) (halves 1 (take 2 ys')) (halves 1 (drop 2 ys')) (long_left hashed h 0 xs' two lx') (long_left hashed h 1 ys' four ly') ix'.0 iy'.0 (right_half xs ys n m lx ly ix iy e).0 in
      let in_node = in_left hashed h 1 ys' iy' in
      let pair = take 2 ys' in
      let long_pair : length pair ≡ 2 = length_left 1 ys' four in
      not_node hashed h k (halves 0 (take 1 pair)) (halves 0 (drop 1 pair)) long (long_left hashed h 0 pair long_pair (all_take _ 2 ys' ly')) (long_right hashed h 0 pair long_pair (all_take _ 2 ys' ly')) has in_node.0 (sym is ∙ sym (fifth xs n) ∙ both.0)

  -- the seventh of eight hashes that have a root with nine is the node above two paddings
  seventh_pads : (xs vs : List (List ℕ)) → length xs ≡ 8 → length vs ≡ 9 → Are32 xs → Are32 vs → Inside hashed (hashed_by_halves 3 xs) → Inside hashed (hashed_by_halves 4 (padded 4 vs)) → halves 3 xs ≡ halves 4 (padded 4 vs)
      → (slice_index_or xs 6 [] ≡ sha256 (zeros ++ zeros)) × Contains hashed (zeros ++ zeros)
  seventh_pads xs vs n m lx ly ix iy e =
      let pads = nine_padded vs m in
      let ys = padded 4 vs in
      let wide : length ys ≡ 16 = length-padded 4 vs (omega arith) in
      let long = long_padded 4 vs ly in
      let inner = in_right hashed h 3 ys iy in
      let last : Inside hashed (hashed_by_halves 2 (drop 4 (drop 8 ys))) = in_right hashed h 2 (drop 8 ys) inner in
      let four : Inside hashed (hashed_by_halves 2 (zeros ∷ zeros ∷ zeros ∷ zeros ∷ [])) = subst (λ (l : List (List ℕ)). Inside hashed (hashed_by_halves 2 l)) pads last in
      let one : List ℕ = sha256 (zeros ++ zeros) in
      let right : sha256 (halves 0 (take 1 (drop 2 (drop 4 xs))) ++ halves 0 (drop 1 (drop 2 (drop 4 xs)))) ≡ sha256 (one ++ one) = (right_half xs ys n wide lx long ix iy e).1 ∙ ap (halves 2) pads in
      let long_seventh : length (halves 0 (take 1 (drop 2 (drop 4 xs)))) ≡ 32 = long_left hashed h 0 (drop 2 (drop 4 xs)) (length_right 1 (drop 4 xs) (length_right 2 xs n)) (all_drop _ 2 (drop 4 xs) (all_drop _ 4 xs lx)) in
      let both = node_same hashed h (halves 0 (take 1 (drop 2 (drop 4 xs)))) (halves 0 (drop 1 (drop 2 (drop 4 xs)))) one one long_seventh (length_digest (zeros ++ zeros)) (in_right hashed h 1 (drop 4 xs) (in_right hashed h 2 xs ix)).0 four.0 right in
      (sym (seventh xs n) ∙ both.0, four.1.0)

  -- groups at one place have one value, where both lists are padded to one length
  places_same : (gs hs : List TornGroup) (d : ℕ) → AllByRecursion (IsSound hashed) gs → AllByRecursion (IsSound hashed) hs → Inside hashed (hashed_for_root (map group_value gs)) → Inside hashed (hashed_for_root (map group_value hs))
      → depth (length (map group_value gs)) ≡ d → depth (length (map group_value hs)) ≡ d → root_of (map group_value gs) ≡ root_of (map group_value hs) → (k : ℕ) → k < 2 ^ d → value_at (slice_get gs k) ≡ value_at (slice_get hs k)
  places_same gs hs d sg sh ig ih dg dh same k lt =
      let all = one_root hashed h (map group_value gs) (map group_value hs) ig ih (long_values gs (sizes hashed gs sg)) (long_values hs (sizes hashed hs sh)) (dg ∙ sym dh) same in
      sym (at_place gs d k dg lt) ∙ ap (λ (l : List (List ℕ)). slice_index_or l k []) all ∙ at_place hs d k dh lt

  -- groups that are shown at one place of such lists show the same bytes
  bytes_at : (gs hs : List TornGroup) (d : ℕ) → AllByRecursion (IsSound hashed) gs → AllByRecursion (IsSound hashed) hs → Inside hashed (hashed_for_root (map group_value gs)) → Inside hashed (hashed_for_root (map group_value hs))
      → depth (length (map group_value gs)) ≡ d → depth (length (map group_value hs)) ≡ d → root_of (map group_value gs) ≡ root_of (map group_value hs)
      → (k : ℕ) (ps qs : List TornPart) → k < 2 ^ d → parts_of (slice_get gs k) ≡ Some ps → parts_of (slice_get hs k) ≡ Some qs → bytes_of ps ≡ bytes_of qs
  bytes_at gs hs d sg sh ig ih dg dh same k ps qs lt eg eh =
      at_same (slice_get gs k) (slice_get hs k) ps qs (if_at (IsSound hashed) gs k sg) (if_at (IsSound hashed) hs k sh) eg eh (places_same gs hs d sg sh ig ih dg dh same k lt)

  -- lists that are padded to eight and to sixteen and have one root
  record Uneven (gs hs : List TornGroup) : Type 0 where
    sound_gs : AllByRecursion (IsSound hashed) gs
    eight : length (padded 3 (map group_value gs)) ≡ 8
    sixteen : length (padded 4 (map group_value hs)) ≡ 16
    long_gs : Are32 (map group_value gs)
    long_hs : Are32 (map group_value hs)
    in_gs : Inside hashed (hashed_by_halves 3 (padded 3 (map group_value gs)))
    in_hs : Inside hashed (hashed_by_halves 4 (padded 4 (map group_value hs)))
    same : halves 3 (padded 3 (map group_value gs)) ≡ halves 4 (padded 4 (map group_value hs))
    at : (k : ℕ) → k < 8 → slice_index_or (padded 3 (map group_value gs)) k [] ≡ value_at (slice_get gs k)

  uneven : (gs hs : List TornGroup) → AllByRecursion (IsSound hashed) gs → AllByRecursion (IsSound hashed) hs → Inside hashed (hashed_for_root (map group_value gs)) → Inside hashed (hashed_for_root (map group_value hs))
      → depth (length (map group_value gs)) ≡ 3 → depth (length (map group_value hs)) ≡ 4 → root_of (map group_value gs) ≡ root_of (map group_value hs) → Uneven gs hs
  uneven gs hs sg sh ig ih dg dh same =
      let vs = map group_value gs in
      let ws = map group_value hs in
      let low : length vs ≤ 2 ^ 3 = subst (λ (d : ℕ). length vs ≤ 2 ^ d) dg (fits (length vs)) in
      let low' : length ws ≤ 2 ^ 4 = subst (λ (d : ℕ). length ws ≤ 2 ^ d) dh (fits (length ws)) in
      record {
        sound_gs = sg;
        eight = length-padded 3 vs low;
        sixteen = length-padded 4 ws low';
        long_gs = long_values gs (sizes hashed gs sg);
        long_hs = long_values hs (sizes hashed hs sh);
        in_gs = subst (λ (d : ℕ). Inside hashed (hashed_by_halves d (padded d vs))) dg ig;
        in_hs = subst (λ (d : ℕ). Inside hashed (hashed_by_halves d (padded d ws))) dh ih;
        same = ap (λ (d : ℕ). halves d (padded d vs)) (sym dg) ∙ sym (root_halves vs) ∙ same ∙ root_halves ws ∙ ap (λ (d : ℕ). halves d (padded d ws)) dh;
        at = λ k lt. ap (λ (d : ℕ). slice_index_or (padded d vs) k []) (sym dg) ∙ at_place gs 3 k dg lt;
      }

  -- nine groups don't have the root of seven or eight, of which the seventh shows a part
  not_nine : (gs hs : List TornGroup) (p : TornPart) (ps : List TornPart) → length hs ≡ 9 → slice_get gs 6 ≡ Some (Shown (p ∷ ps)) → Uneven gs hs → ⊥
  not_nine gs hs p ps count shown u =
      let vs = map group_value gs in
      let ws = map group_value hs in
      let pads = seventh_pads (padded 3 vs) ws u.eight (length-map hs group_value ∙ count) (long_padded 3 vs u.long_gs) u.long_hs u.in_gs u.in_hs u.same in
      let value : group_value (Shown (p ∷ ps)) ≡ sha256 (zeros ++ zeros) = ap value_at (sym shown) ∙ sym (u.at 6 (omega arith)) ∙ pads.0 in
      let is_sound : IsSound hashed (Shown (p ∷ ps)) = subst (λ (o : Option TornGroup). IfSome o (IsSound hashed)) shown (if_at (IsSound hashed) gs 6 u.sound_gs) in
      some_not_pads hashed h p ps is_sound.all pads.1 value

  -- nor of five to eight, of which the fifth shows one part
  not_nine_named : (gs hs : List TornGroup) (p : TornPart) → slice_get gs 4 ≡ Some (Shown (p ∷ [])) → Uneven gs hs → ⊥
  not_nine_named gs hs p shown u =
      let vs = map group_value gs in
      let ws = map group_value hs in
      let is_sound : IsSound hashed (Shown (p ∷ [])) = subst (λ (o : Option TornGroup). IfSome o (IsSound hashed)) shown (if_at (IsSound hashed) gs 4 u.sound_gs) in
      let value : slice_index_or (padded 3 vs) 4 [] ≡ leaf p = u.at 4 (omega arith) ∙ ap value_at shown ∙ single (leaf p) in
      fifth_no_leaf (padded 3 vs) (padded 4 ws) (sha256 (p.nonce.0 ++ p.bytes)) u.eight u.sixteen (long_padded 3 vs u.long_gs) (long_padded 4 ws u.long_hs) u.in_gs u.in_hs u.same is_sound.all.1.0 (length_digest (p.nonce.0 ++ p.bytes)) value

  -- seven or eight groups, of which the seventh shows a part, and five to nine others with their root show the same bytes where both are shown
  pub same_bytes : (gs hs : List TornGroup) (p : TornPart) (parts : List TornPart) → AllByRecursion (IsSound hashed) gs → AllByRecursion (IsSound hashed) hs → Inside hashed (hashed_for_root (map group_value gs)) → Inside hashed (hashed_for_root (map group_value hs))
      → 6 < length gs → length gs < 9 → slice_get gs 6 ≡ Some (Shown (p ∷ parts)) → 4 < length hs → length hs < 10 → root_of (map group_value gs) ≡ root_of (map group_value hs)
      → (k : ℕ) (ps qs : List TornPart) → k < 8 → parts_of (slice_get gs k) ≡ Some ps → parts_of (slice_get hs k) ≡ Some qs → bytes_of ps ≡ bytes_of qs
  same_bytes gs hs p parts sg sh ig ih seven eight shown five ten same k ps qs lt eg eh =
      elim (cases_lt (length hs) 9) [
        | inl few ↦ bytes_at gs hs 3 sg sh ig ih (low_depth gs (omega arith) eight) (low_depth hs five few) same k ps qs lt eg eh
        | inr many ↦
            let count : length hs ≡ 9 = omega arith in
            absurd (not_nine gs hs p parts count shown (uneven gs hs sg sh ig ih (low_depth gs (omega arith) eight) (nine_depth hs count) same))
      ]

  -- five to nine groups of which the fifth shows one part, and others of that kind with their root show the same bytes where both are shown
  pub same_bytes_named : (gs hs : List TornGroup) (p q : TornPart) → AllByRecursion (IsSound hashed) gs → AllByRecursion (IsSound hashed) hs → Inside hashed (hashed_for_root (map group_value gs)) → Inside hashed (hashed_for_root (map group_value hs))
      → 4 < length gs → length gs < 10 → 4 < length hs → length hs < 10 → slice_get gs 4 ≡ Some (Shown (p ∷ [])) → slice_get hs 4 ≡ Some (Shown (q ∷ [])) → root_of (map group_value gs) ≡ root_of (map group_value hs)
      → (k : ℕ) (ps qs : List TornPart) → k < 8 → parts_of (slice_get gs k) ≡ Some ps → parts_of (slice_get hs k) ≡ Some qs → bytes_of ps ≡ bytes_of qs
  same_bytes_named gs hs p q sg sh ig ih five ten five' ten' named named' same k ps qs lt eg eh =
      elim (cases_lt (length gs) 9) [
        | inl few ↦ elim (cases_lt (length hs) 9) [
          | inl few' ↦ bytes_at gs hs 3 sg sh ig ih (low_depth gs five few) (low_depth hs five' few') same k ps qs lt eg eh
          | inr many' ↦ absurd (not_nine_named gs hs p named (uneven gs hs sg sh ig ih (low_depth gs five few) (nine_depth hs (omega arith)) same))
        ]
        | inr many ↦ elim (cases_lt (length hs) 9) [
          | inl few' ↦ absurd (not_nine_named hs gs q named' (uneven hs gs sh sg ih ig (low_depth hs five' few') (nine_depth gs (omega arith)) (sym same)))
          | inr many' ↦ bytes_at gs hs 4 sg sh ig ih (nine_depth gs (omega arith)) (nine_depth hs (omega arith)) same k ps qs (omega arith) eg eh
        ]
      ]
