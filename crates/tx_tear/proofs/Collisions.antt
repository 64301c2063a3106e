-- Roots and values of groups, where no digests collide.
use Rattle.std.proofs.Common.{◌≡◌, inl, inr, ℕ, zero, suc, ◌-◌, ◌<◌, ◌≤◌, ◌^◌, List, [], ◌∷◌, ◌++◌, length, take, drop, replicate, map, refl, sym, ◌∙◌, ap, subst, arith}
use Rattle.std.specs.Prelude.{slice_index_or}
use Rattle.std.specs.List.{AllByRecursion, Contains, flat_map}
use Rattle.std.proofs.lemmas.Bool.{cases_lt}
use Rattle.std.proofs.lemmas.Nat.{pow_pos}
use Rattle.std.proofs.lemmas.List.{length-append, take_at, drop_at, take-append-drop, get_or-take}
use Rattle.net_base.proofs.Lists.{all_drop, all_take, all_front}
use Rattle.sha2.specs.Sha256.{sha256}
use Rattle.component_merkle.specs.Merkle.{halves, padded, depth, root_of, group_of, zeros}
use Rattle.component_merkle.proofs.Rooted.{length-padded}
use Rattle.ledger_types.specs.declared.torn.TornPart.{TornPart}
use Rattle.tx_tear.specs.Agreement.{Are32}
use Rattle.ledger_types.specs.declared.torn.TornGroup.TheVariants.{Shown}
use Rattle.tx_tear.specs.Hashed.{AreApart, Includes, hashed_by_halves, hashed_for_root, hashed_for_leaf, hashed_for_group, leaf}
use Rattle.tx_tear.proofs.Lengths.{fits, length_digest, length_left, length_right, long_padded, long_halves, root_halves}

-- ---- lists

pub all_right : {A : Type 0} (P : A → Type 0) (xs ys : List A) → AllByRecursion P (xs ++ ys) → AllByRecursion P ys
all_right P [] ys h = h
all_right P (x ∷ xs) ys h = all_right P xs ys h.1

-- two byte lists of which the first parts are as long as one another
pub parted : (a b c d : List ℕ) → length a ≡ 32 → length c ≡ 32 → a ++ b ≡ c ++ d → (a ≡ c) × (b ≡ d)
parted a b c d long long' e =
    (sym (take_at a b 32 long) ∙ ap (take 32) e ∙ take_at c d 32 long', sym (drop_at a b 32 long) ∙ ap (drop 32) e ∙ drop_at c d 32 long')

-- a padded list without its padding
unpadded : (z : List ℕ) (xs ys : List (List ℕ)) (m n : ℕ) → AllByRecursion (λ x. x ≡ z → ⊥) xs → AllByRecursion (λ x. x ≡ z → ⊥) ys → xs ++ replicate m z ≡ ys ++ replicate n z → xs ≡ ys
unpadded z [] [] m n hx hy e = refl
unpadded z [] (y ∷ ys) zero n hx hy e = absurd cc
unpadded z [] (y ∷ ys) (suc m) n hx hy e = let same : y ≡ z = cc in absurd (hy.0 same)
unpadded z (x ∷ xs) [] m zero hx hy e = absurd cc
unpadded z (x ∷ xs) [] m (suc n) hx hy e = let same : x ≡ z = cc in absurd (hx.0 same)
unpadded z (x ∷ xs) (y ∷ ys) m n hx hy e =
    let head : x ≡ y = cc in
    let tail : xs ++ replicate m z ≡ ys ++ replicate n z = cc in
    let rest = unpadded z xs ys m n hx.1 hy.1 tail in
    λ i. head i ∷ rest i

-- each of these is hashed
abbrev pub Inside : List (List ℕ) → List (List ℕ) → Type 0
Inside hashed these = AllByRecursion (Contains hashed) these

contains_first : (x : List ℕ) (xs : List (List ℕ)) → Contains (x ∷ xs) x
contains_first x xs = (0, omega arith, refl)

contains_more : (x y : List ℕ) (xs : List (List ℕ)) → Contains xs y → Contains (x ∷ xs) y
contains_more x y xs c = (suc c.0, omega (arith, c.1), c.2)

pub inside : (hashed these : List (List ℕ)) → Includes hashed these → Inside hashed these
inside hashed [] h = tt
inside hashed (x ∷ xs) h = (h x (contains_first x xs), inside hashed xs (λ y c. h y (contains_more x y xs c)))

-- the nonces have 32 bytes
abbrev pub Nonces32 : List TornPart → Type 0
Nonces32 parts = AllByRecursion (λ p. length p.nonce.0 ≡ 32) parts

-- the bytes that are shown
abbrev pub bytes_of : List TornPart → List (List ℕ)
bytes_of parts = map (λ p. p.bytes) parts

-- 2 ^ d hashes, of which the first is the digest of these 32 bytes, and all that is hashed for their root
record IsTree (hashed : List (List ℕ)) (d : ℕ) (xs : List (List ℕ)) (m : List ℕ) : Type 0 where
  wide : length xs ≡ 2 ^ d
  long : Are32 xs
  all : Inside hashed (hashed_by_halves d xs)
  has : Contains hashed m
  is_digest : length m ≡ 32
  first : slice_index_or xs 0 [] ≡ sha256 m

pub long_leaves : (ps : List TornPart) → Are32 (map leaf ps)
long_leaves [] = tt
long_leaves (p ∷ ps) = (length_digest _, long_leaves ps)

group_none : group_of [] ≡ replicate 32 255
unfolding group_of
group_none = refl

group_some : (x : List ℕ) (xs : List (List ℕ)) → group_of (x ∷ xs) ≡ halves (depth (length (x ∷ xs))) (padded (depth (length (x ∷ xs))) (x ∷ xs))
unfolding group_of
group_some x xs = root_halves (x ∷ xs)

module _ (hashed : List (List ℕ)) (h : AreApart hashed) where
  -- ---- nodes

  -- equal nodes stand over equal halves
  pub node_same : (a b c d : List ℕ) → length a ≡ 32 → length c ≡ 32 → Contains hashed (a ++ b) → Contains hashed (c ++ d) → sha256 (a ++ b) ≡ sha256 (c ++ d) → (a ≡ c) × (b ≡ d)
  node_same a b c d long long' has has' e = parted a b c d long long' (h.apart (a ++ b) (c ++ d) has has' e)

  -- what is hashed for the halves
  pub in_left : (d : ℕ) (xs : List (List ℕ)) → Inside hashed (hashed_by_halves (suc d) xs) → Inside hashed (hashed_by_halves d (take (2 ^ d) xs))
  in_left d xs i = all_front (Contains hashed) (hashed_by_halves d (take (2 ^ d) xs)) (hashed_by_halves d (drop (2 ^ d) xs)) i.1

  pub in_right : (d : ℕ) (xs : List (List ℕ)) → Inside hashed (hashed_by_halves (suc d) xs) → Inside hashed (hashed_by_halves d (drop (2 ^ d) xs))
  in_right d xs i = all_right (Contains hashed) (hashed_by_halves d (take (2 ^ d) xs)) (hashed_by_halves d (drop (2 ^ d) xs)) i.1

  pub long_left : (d : ℕ) (xs : List (List ℕ)) → length xs ≡ 2 ^ suc d → Are32 xs → length (halves d (take (2 ^ d) xs)) ≡ 32
  long_left d xs n l = long_halves d (take (2 ^ d) xs) (length_left d xs n) (all_take _ (2 ^ d) xs l)

  pub long_right : (d : ℕ) (xs : List (List ℕ)) → length xs ≡ 2 ^ suc d → Are32 xs → length (halves d (drop (2 ^ d) xs)) ≡ 32
  long_right d xs n l = long_halves d (drop (2 ^ d) xs) (length_right d xs n) (all_drop _ (2 ^ d) xs l)

  -- equal roots over as many hashes stand over equal hashes
  halves_same : (d : ℕ) (xs ys : List (List ℕ)) → length xs ≡ 2 ^ d → length ys ≡ 2 ^ d → Are32 xs → Are32 ys → Inside hashed (hashed_by_halves d xs) → Inside hashed (hashed_by_halves d ys) → halves d xs ≡ halves d ys → xs ≡ ys
  halves_same zero [] ys n m lx ly ix iy e = absurd (omega arith)
  halves_same zero (x ∷ xs) [] n m lx ly ix iy e = absurd (omega arith)
  halves_same zero (x ∷ a ∷ xs) ys n m lx ly ix iy e = absurd (omega arith)
  halves_same zero (x ∷ []) (y ∷ b ∷ ys) n m lx ly ix iy e = absurd (omega arith)
  halves_same zero (x ∷ []) (y ∷ []) n m lx ly ix iy e = ap (λ (z : List ℕ). z ∷ []) e
  halves_same (suc d) xs ys n m lx ly ix iy e =
      let w = 2 ^ d in
      let both = node_same (halves d (take w xs)) (halves d (drop w xs)) (halves d (take w ys)) (halves d (drop w ys)) (long_left d xs n lx) (long_left d ys m ly) ix.0 iy.0 e in
      let left = halves_same d (take w xs) (take w ys) (length_left d xs n) (length_left d ys m) (all_take _ w xs lx) (all_take _ w ys ly) (in_left d xs ix) (in_left d ys iy) both.0 in
      let right = halves_same d (drop w xs) (drop w ys) (length_right d xs n) (length_right d ys m) (all_drop _ w xs lx) (all_drop _ w ys ly) (in_right d xs ix) (in_right d ys iy) both.1 in
      sym (take-append-drop w xs) ∙ (λ i. left i ++ right i) ∙ take-append-drop w ys

  -- ---- trees over leaves: the first hash is the digest of a digest

  -- the first hash of the left half
  first_left : (d : ℕ) (xs : List (List ℕ)) → slice_index_or (take (2 ^ d) xs) 0 [] ≡ slice_index_or xs 0 []
  first_left d xs = get_or-take (2 ^ d) xs 0 [] (pow_pos d)

  -- the digest of 32 bytes is no node
  pub not_node : (m a b : List ℕ) → length m ≡ 32 → length a ≡ 32 → length b ≡ 32 → Contains hashed m → Contains hashed (a ++ b) → sha256 m ≡ sha256 (a ++ b) → ⊥
  not_node m a b lm la lb has has' e = absurd (omega (arith, ap length (h.apart m (a ++ b) has has' e), length-append a b))

  -- a tree over leaves isn't deeper than another with its root
  not_deeper : (d e : ℕ) (xs ys : List (List ℕ)) (m : List ℕ) → d < e → length xs ≡ 2 ^ d → length ys ≡ 2 ^ e → Are32 xs → Are32 ys → Inside hashed (hashed_by_halves d xs) → Inside hashed (hashed_by_halves e ys)
      → Contains hashed m → length m ≡ 32 → slice_index_or xs 0 [] ≡ sha256 m → halves d xs ≡ halves e ys → ⊥
  not_deeper d zero xs ys m lt n k lx ly ix iy has long first same = absurd (omega arith)
  not_deeper zero (suc e) xs ys m lt n k lx ly ix iy has long first same =
      not_node m (halves e (take (2 ^ e) ys)) (halves e (drop (2 ^ e) ys)) long (long_left e ys k ly) (long_right e ys k ly) has iy.0 (sym first ∙ same)
  not_deeper (suc d) (suc e) xs ys m lt n k lx ly ix iy has long first same =
      let both = node_same (halves d (take (2 ^ d) xs)) (halves d (drop (2 ^ d) xs)) (halves e (take (2 ^ e) ys)) (halves e (drop (2 ^ e) ys)) (long_left d xs n lx) (long_left e ys k ly) ix.0 iy.0 same in
      not_deeper d e (take (2 ^ d) xs) (take (2 ^ e) ys) m (omega arith) (length_left d xs n) (length_left e ys k) (all_take _ (2 ^ d) xs lx) (all_take _ (2 ^ e) ys ly) (in_left d xs ix) (in_left e ys iy) has long (first_left d xs ∙ first) both.0

  -- the root over leaves is the digest of something that is hashed
  root_hashed : (d : ℕ) (xs : List (List ℕ)) (m : List ℕ) → Contains hashed m → slice_index_or xs 0 [] ≡ sha256 m → Inside hashed (hashed_by_halves d xs) → (x : List ℕ) × (Contains hashed x × (halves d xs ≡ sha256 x))
  root_hashed zero xs m has first ix = (m, (has, first))
  root_hashed (suc d) xs m has first ix = (halves d (take (2 ^ d) xs) ++ halves d (drop (2 ^ d) xs), (ix.0, refl))

  -- the root over leaves isn't the node above two paddings
  not_pads : (d : ℕ) (xs : List (List ℕ)) (m : List ℕ) → length xs ≡ 2 ^ d → Are32 xs → Contains hashed m → length m ≡ 32 → slice_index_or xs 0 [] ≡ sha256 m → Inside hashed (hashed_by_halves d xs) → Contains hashed (zeros ++ zeros) → halves d xs ≡ sha256 (zeros ++ zeros) → ⊥
  not_pads zero xs m n lx has long first ix pads same = not_node m zeros zeros long refl refl has pads (sym first ∙ same)
  not_pads (suc d) xs m n lx has long first ix pads same =
      let w = 2 ^ d in
      let both = node_same (halves d (take w xs)) (halves d (drop w xs)) zeros zeros (long_left d xs n lx) refl ix.0 pads same in
      let left = root_hashed d (take w xs) m has (first_left d xs ∙ first) (in_left d xs ix) in
      h.not_zeros left.0 left.1.0 (sym left.1.1 ∙ both.0)

  -- trees over leaves with one root have the same leaves
  trees_same : (d e : ℕ) (xs ys : List (List ℕ)) (m k : List ℕ) → IsTree hashed d xs m → IsTree hashed e ys k → halves d xs ≡ halves e ys → xs ≡ ys
  trees_same d e xs ys m k t u same =
      elim (cases_lt d e) [
        | inl lt ↦ absurd (not_deeper d e xs ys m lt t.wide u.wide t.long u.long t.all u.all t.has t.is_digest t.first same)
        | inr ge ↦ elim (cases_lt e d) [
          | inl lt ↦ absurd (not_deeper e d ys xs k lt u.wide t.wide u.long t.long u.all t.all u.has u.is_digest u.first (sym same))
          | inr le ↦
              let equal : e ≡ d = omega arith in
              let at_one : (v : IsTree hashed d ys k) → halves d xs ≡ halves d ys → xs ≡ ys = λ v s. halves_same d xs ys t.wide v.wide t.long v.long t.all v.all s in
              subst (λ (n : ℕ). IsTree hashed n ys k → halves d xs ≡ halves n ys → xs ≡ ys) (sym equal) at_one u same
        ]
      ]

  -- equal roots over lists of hashes that are padded alike stand over equal padded lists
  pub one_root : (xs ys : List (List ℕ)) → Inside hashed (hashed_for_root xs) → Inside hashed (hashed_for_root ys) → Are32 xs → Are32 ys → depth (length xs) ≡ depth (length ys) → root_of xs ≡ root_of ys → padded (depth (length xs)) xs ≡ padded (depth (length ys)) ys
  one_root xs ys ix iy lx ly alike same =
      let e = depth (length ys) in
      let halves_are : halves (depth (length xs)) (padded (depth (length xs)) xs) ≡ halves e (padded e ys) = sym (root_halves xs) ∙ same ∙ root_halves ys in
      let wide : length xs ≤ 2 ^ depth (length xs) = fits (length xs) in
      let at_one : (n : ℕ) → n ≡ e → length xs ≤ 2 ^ n → Inside hashed (hashed_by_halves n (padded n xs)) → halves n (padded n xs) ≡ halves e (padded e ys) → padded n xs ≡ padded e ys =
      λ n is. subst (λ (k : ℕ). length xs ≤ 2 ^ k → Inside hashed (hashed_by_halves k (padded k xs)) → halves k (padded k xs) ≡ halves e (padded e ys) → padded k xs ≡ padded e ys) (sym is)
      (λ w i s. halves_same e (padded e xs) (padded e ys) (length-padded e xs w) (length-padded e ys (fits (length ys))) (long_padded e xs lx) (long_padded e ys ly) i iy s) in
      at_one (depth (length xs)) alike wide ix halves_are

  -- ---- leaves and groups

  leaves_same : (ps qs : List TornPart) → Nonces32 ps → Nonces32 qs → Inside hashed (flat_map hashed_for_leaf ps) → Inside hashed (flat_map hashed_for_leaf qs) → map leaf ps ≡ map leaf qs → bytes_of ps ≡ bytes_of qs
  leaves_same [] [] np nq ip iq e = refl
  leaves_same [] (q ∷ qs) np nq ip iq e = absurd cc
  leaves_same (p ∷ ps) [] np nq ip iq e = absurd cc
  leaves_same (p ∷ ps) (q ∷ qs) np nq ip iq e =
      let head : leaf p ≡ leaf q = cc in
      let tail : map leaf ps ≡ map leaf qs = cc in
      let inner = h.apart (sha256 (p.nonce.0 ++ p.bytes)) (sha256 (q.nonce.0 ++ q.bytes)) ip.1.0 iq.1.0 head in
      let outer = h.apart (p.nonce.0 ++ p.bytes) (q.nonce.0 ++ q.bytes) ip.0 iq.0 inner in
      let bytes = (parted p.nonce.0 p.bytes q.nonce.0 q.bytes np.0 nq.0 outer).1 in
      let rest = leaves_same ps qs np.1 nq.1 ip.1.1 iq.1.1 tail in
      λ i. bytes i ∷ rest i

  leaves_not_zero : (ps : List TornPart) → Inside hashed (flat_map hashed_for_leaf ps) → AllByRecursion (λ x. x ≡ zeros → ⊥) (map leaf ps)
  leaves_not_zero [] i = tt
  leaves_not_zero (p ∷ ps) i = (λ e. h.not_zeros (sha256 (p.nonce.0 ++ p.bytes)) i.1.0 e, leaves_not_zero ps i.1.1)

  in_leaves : (ps : List TornPart) → Inside hashed (hashed_for_group (Shown ps)) → Inside hashed (flat_map hashed_for_leaf ps)
  in_leaves ps i = all_front (Contains hashed) (flat_map hashed_for_leaf ps) (hashed_for_root (map leaf ps)) i

  -- the tree over the leaves of a group that has a part
  tree_over : (p : TornPart) (ps : List TornPart) → Inside hashed (hashed_for_group (Shown (p ∷ ps)))
      → IsTree hashed (depth (length (map leaf (p ∷ ps)))) (padded (depth (length (map leaf (p ∷ ps)))) (map leaf (p ∷ ps))) (sha256 (p.nonce.0 ++ p.bytes))
  tree_over p ps i =
      let xs = map leaf (p ∷ ps) in
      let leaves = in_leaves (p ∷ ps) i in
      record {
        wide = length-padded (depth (length xs)) xs (fits (length xs));
        long = long_padded (depth (length xs)) xs (long_leaves (p ∷ ps));
        all = all_right (Contains hashed) (flat_map hashed_for_leaf (p ∷ ps)) (hashed_for_root xs) i;
        has = leaves.1.0;
        is_digest = length_digest _;
        first = refl;
      }

  -- the value of a group that has a part is the digest of something that is hashed
  some_hashed : (p : TornPart) (ps : List TornPart) → Inside hashed (hashed_for_group (Shown (p ∷ ps))) → (x : List ℕ) × (Contains hashed x × (group_of (map leaf (p ∷ ps)) ≡ sha256 x))
  some_hashed p ps i =
      let t = tree_over p ps i in
      let root = root_hashed (depth (length (map leaf (p ∷ ps)))) (padded (depth (length (map leaf (p ∷ ps)))) (map leaf (p ∷ ps))) (sha256 (p.nonce.0 ++ p.bytes)) t.has t.first t.all in
      (root.0, (root.1.0, group_some (leaf p) (map leaf ps) ∙ root.1.1))

  some_not_ones : (p : TornPart) (ps : List TornPart) → Inside hashed (hashed_for_group (Shown (p ∷ ps))) → group_of (map leaf (p ∷ ps)) ≡ group_of [] → ⊥
  some_not_ones p ps i e = let x = some_hashed p ps i in h.not_ones x.0 x.1.0 (sym x.1.1 ∙ e ∙ group_none)

  pub some_not_zeros : (p : TornPart) (ps : List TornPart) → Inside hashed (hashed_for_group (Shown (p ∷ ps))) → group_of (map leaf (p ∷ ps)) ≡ zeros → ⊥
  some_not_zeros p ps i e = let x = some_hashed p ps i in h.not_zeros x.0 x.1.0 (sym x.1.1 ∙ e)

  pub some_not_pads : (p : TornPart) (ps : List TornPart) → Inside hashed (hashed_for_group (Shown (p ∷ ps))) → Contains hashed (zeros ++ zeros) → group_of (map leaf (p ∷ ps)) ≡ sha256 (zeros ++ zeros) → ⊥
  some_not_pads p ps i pads e =
      let t = tree_over p ps i in
      not_pads (depth (length (map leaf (p ∷ ps)))) (padded (depth (length (map leaf (p ∷ ps)))) (map leaf (p ∷ ps))) (sha256 (p.nonce.0 ++ p.bytes)) t.wide t.long t.has t.is_digest t.first t.all pads (sym (group_some (leaf p) (map leaf ps)) ∙ e)

  -- shown groups with one value show the same bytes
  pub parts_same : (ps qs : List TornPart) → Nonces32 ps → Nonces32 qs → Inside hashed (hashed_for_group (Shown ps)) → Inside hashed (hashed_for_group (Shown qs)) → group_of (map leaf ps) ≡ group_of (map leaf qs) → bytes_of ps ≡ bytes_of qs
  parts_same [] [] np nq ip iq e = refl
  parts_same [] (q ∷ qs) np nq ip iq e = absurd (some_not_ones q qs iq (sym e))
  parts_same (p ∷ ps) [] np nq ip iq e = absurd (some_not_ones p ps ip e)
  parts_same (p ∷ ps) (q ∷ qs) np nq ip iq e =
      let xs = map leaf (p ∷ ps) in
      let ys = map leaf (q ∷ qs) in
      let d = depth (length xs) in
      let k = depth (length ys) in
      let same : halves d (padded d xs) ≡ halves k (padded k ys) = sym (group_some (leaf p) (map leaf ps)) ∙ e ∙ group_some (leaf q) (map leaf qs) in
      let all = trees_same d k (padded d xs) (padded k ys) (sha256 (p.nonce.0 ++ p.bytes)) (sha256 (q.nonce.0 ++ q.bytes)) (tree_over p ps ip) (tree_over q qs iq) same in
      let ip' = in_leaves (p ∷ ps) ip in
      let iq' = in_leaves (q ∷ qs) iq in
      let leaves = unpadded zeros xs ys (2 ^ d - length xs) (2 ^ k - length ys) (leaves_not_zero (p ∷ ps) ip') (leaves_not_zero (q ∷ qs) iq') all in
      leaves_same (p ∷ ps) (q ∷ qs) np nq ip' iq' leaves
