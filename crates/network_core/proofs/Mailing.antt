-- Frames that are sent, in a world and among those that wait.
use Rattle.std.proofs.Common.{◌≡◌, ⊎_elim, ℕ, zero, suc, ◌+◌, Bool, true, false, not, if◌then◌else◌, List, [], ◌∷◌, ◌++◌, length, map, take, drop, remove, slice_set, Option, Some, None, refl, sym, ◌∙◌, ap, subst, arith}
use Rattle.std.specs.List.{slice_get}
use Rattle.std.specs.Option.{option_map}
use Rattle.std.proofs.lemmas.List.{length-map}
use Rattle.std.proofs.lemmas.Option.{slice_get-map}
use Rattle.net_base.proofs.Lists.{map_set, set_length, get_set}
use Rattle.session_frames.specs.declared.sending.Outgoing.{Outgoing}
use Rattle.network_core.specs.Worlds.{NodeWorld}
use Rattle.waiting_frames.specs.Waiting.{is_waiting, joined}
use Rattle.network_core.specs.Answers.{mailed, mailed_once, mailed_to, fresh_at, count_fresh, parted}
use Rattle.network_core.specs.WorldSteps.{with_frame, without, sent_to, sent_once, sent_all, new_at, count_new}

-- the frames that wait at each node of a world
abbrev pub waits_in : List NodeWorld → List (List (List ℕ))
waits_in nodes = map (λ (x : NodeWorld). x.waiting) nodes

pub map_set_same : {X Y : Type 0} (g : X → Y) (xs : List X) (i : ℕ) (x y : X) → slice_get xs i ≡ Some x → g y ≡ g x → map g (slice_set xs i y) ≡ map g xs
map_set_same g [] i x y at same = cc
map_set_same g (z ∷ xs) zero x y at same = let is : z ≡ x = cc in ap (λ a. a ∷ map g xs) (same ∙ ap g (sym is))
map_set_same g (z ∷ xs) (suc i) x y at same = ap (λ l. g z ∷ l) (map_set_same g xs i x y at same)

sent_to_waits : (o : Outgoing) (nodes : List NodeWorld) (r : Option NodeWorld) → waits_in (sent_to o nodes r) ≡ mailed_to o (waits_in nodes) (option_map (λ (x : NodeWorld). x.waiting) r)
sent_to_waits o nodes None = refl
sent_to_waits o nodes (Some x) = map_set (λ (z : NodeWorld). z.waiting) nodes o.to.0 (with_frame o.bytes x)

sent_once_waits : (o : Outgoing) (nodes : List NodeWorld) → waits_in (sent_once o nodes) ≡ mailed_once o (waits_in nodes)
sent_once_waits o nodes = sent_to_waits o nodes (slice_get nodes o.to.0) ∙ ap (mailed_to o (waits_in nodes)) (sym (slice_get-map (λ (x : NodeWorld). x.waiting) nodes o.to.0))

-- frames that are sent in a world are sent among those that wait
pub sent_all_waits : (os : List Outgoing) (nodes : List NodeWorld) → waits_in (sent_all os nodes) ≡ mailed os (waits_in nodes)
sent_all_waits [] nodes = refl
sent_all_waits (o ∷ os) nodes = sent_all_waits os (sent_once o nodes) ∙ ap (mailed os) (sent_once_waits o nodes)

new_is_fresh : (bytes : List ℕ) (r : Option NodeWorld) → new_at bytes r ≡ fresh_at bytes (option_map (λ (x : NodeWorld). x.waiting) r)
new_is_fresh bytes None = refl
new_is_fresh bytes (Some x) = refl

-- as many of them are new
pub count_is : (os : List Outgoing) (nodes : List NodeWorld) → count_new os nodes ≡ count_fresh os (waits_in nodes)
count_is [] nodes = refl
count_is (o ∷ os) nodes =
    let one : new_at o.bytes (slice_get nodes o.to.0) ≡ fresh_at o.bytes (slice_get (waits_in nodes) o.to.0) = new_is_fresh o.bytes (slice_get nodes o.to.0) ∙ ap (fresh_at o.bytes) (sym (slice_get-map (λ (x : NodeWorld). x.waiting) nodes o.to.0)) in
    let rest : count_new os (sent_once o nodes) ≡ count_fresh os (mailed_once o (waits_in nodes)) = count_is os (sent_once o nodes) ∙ ap (count_fresh os) (sent_once_waits o nodes) in
    omega (arith, one, rest)

-- ---- all but the waiting frames stays

-- a node is another but for the frames that wait there
abbrev pub IsBut : NodeWorld → NodeWorld → Type 0
IsBut z y = (frames : List (List ℕ)) × (z ≡ record y { waiting = frames })

sent_to_length : (o : Outgoing) (nodes : List NodeWorld) (r : Option NodeWorld) → length (sent_to o nodes r) ≡ length nodes
sent_to_length o nodes None = refl
sent_to_length o nodes (Some x) = set_length nodes o.to.0 (with_frame o.bytes x)

pub sent_all_length : (os : List Outgoing) (nodes : List NodeWorld) → length (sent_all os nodes) ≡ length nodes
sent_all_length [] nodes = refl
sent_all_length (o ∷ os) nodes = sent_all_length os (sent_once o nodes) ∙ sent_to_length o nodes (slice_get nodes o.to.0)

sent_to_get : (o : Outgoing) (nodes : List NodeWorld) (r : Option NodeWorld) → slice_get nodes o.to.0 ≡ r → (q : ℕ) (z : NodeWorld) → slice_get (sent_to o nodes r) q ≡ Some z → (y : NodeWorld) × (slice_get nodes q ≡ Some y) × IsBut z y
sent_to_get o nodes None is q z at = (z, at, (z.waiting, refl))
sent_to_get o nodes (Some x) is q z at =
    ⊎_elim
    (λ s. (x, subst (λ (i : ℕ). slice_get nodes i ≡ Some x) (sym s.0) is, ((with_frame o.bytes x).waiting, s.1)))
    (λ s. (z, s, (z.waiting, refl)))
    (get_set nodes o.to.0 (with_frame o.bytes x) q z at)

pub sent_all_get : (os : List Outgoing) (nodes : List NodeWorld) (q : ℕ) (z : NodeWorld) → slice_get (sent_all os nodes) q ≡ Some z → (y : NodeWorld) × (slice_get nodes q ≡ Some y) × IsBut z y
sent_all_get [] nodes q z at = (z, at, (z.waiting, refl))
sent_all_get (o ∷ os) nodes q z at =
    let last = sent_all_get os (sent_once o nodes) q z at in
    let first = sent_to_get o nodes (slice_get nodes o.to.0) refl q last.0 last.1 in
    (first.0, first.1, (last.2.0, last.2.1 ∙ ap (λ (y : NodeWorld). record y { waiting = last.2.0 }) first.2.1))

-- ---- among those that wait

module _ {W : Type 0} (g : W → List (List ℕ)) (items : List W) (o : Outgoing) where
  -- a frame joins at its addressee
  pub joins_at : (a b : W) → slice_get items o.to.0 ≡ Some a → g b ≡ joined o.bytes (g a) → map g (slice_set items o.to.0 b) ≡ mailed_once o (map g items)
  joins_at a b at is =
      let there : slice_get (map g items) o.to.0 ≡ Some (g a) = slice_get-map g items o.to.0 ∙ ap (option_map g) at in
      map_set g items o.to.0 b ∙ ap (slice_set (map g items) o.to.0) is ∙ sym (ap (mailed_to o (map g items)) there)

  abbrev one_if : Bool → ℕ
  one_if b = if b then 1 else 0

  flip : (b : Bool) → ◌≡◌ {A = ℕ} (if not b then 1 else 0) (if b then 0 else 1)
  flip true = refl
  flip false = refl

  -- and is new there, or not
  pub fresh_there : (a : W) (b : Bool) → slice_get items o.to.0 ≡ Some a → b ≡ not (is_waiting o.bytes (g a)) → ◌≡◌ {A = ℕ} (if b then 1 else 0) (fresh_at o.bytes (slice_get (map g items) o.to.0))
  fresh_there a b at is =
      let there : slice_get (map g items) o.to.0 ≡ Some (g a) = slice_get-map g items o.to.0 ∙ ap (option_map g) at in
      ap (λ (c : Bool). one_if c) is ∙ flip (is_waiting o.bytes (g a)) ∙ sym (ap (fresh_at o.bytes) there)

-- the frame at a place of a node is taken away
pub parts_at : {W : Type 0} (g : W → List (List ℕ)) (items : List W) (place at : ℕ) (a b : W) → slice_get items place ≡ Some a → g b ≡ without at (g a) → map g (slice_set items place b) ≡ parted false place at (g a) (map g items)
parts_at g items place at a b there is = map_set g items place b ∙ ap (slice_set (map g items) place) is

pub removed_is : {X : Type 0} (xs : List X) (i : ℕ) → remove xs i ≡ take i xs ++ drop (i + 1) xs
removed_is xs i =
    let next : suc i ≡ i + 1 = omega arith in
    ap (λ k. take i xs ++ drop k xs) next

-- ---- as many lists

to_length : (o : Outgoing) (waiting : List (List (List ℕ))) (r : Option (List (List ℕ))) → length (mailed_to o waiting r) ≡ length waiting
to_length o waiting None = refl
to_length o waiting (Some frames) = set_length waiting o.to.0 (joined o.bytes frames)

mailed_length : (os : List Outgoing) (waiting : List (List (List ℕ))) → length (mailed os waiting) ≡ length waiting
mailed_length [] waiting = refl
mailed_length (o ∷ os) waiting = mailed_length os (mailed_once o waiting) ∙ to_length o waiting (slice_get waiting o.to.0)

parted_length : (b : Bool) (place at : ℕ) (frames : List (List ℕ)) (waiting : List (List (List ℕ))) → length (parted b place at frames waiting) ≡ length waiting
parted_length true place at frames waiting = refl
parted_length false place at frames waiting = set_length waiting place (without at frames)

module _ {W : Type 0} (g : W → List (List ℕ)) (old new : List W) where
  pub same_lists : map g new ≡ map g old → length new ≡ length old
  same_lists is = sym (length-map new g) ∙ ap length is ∙ length-map old g

  pub mailed_lists : (os : List Outgoing) → map g new ≡ mailed os (map g old) → length new ≡ length old
  mailed_lists os is = sym (length-map new g) ∙ ap length is ∙ mailed_length os (map g old) ∙ length-map old g

  pub settled_lists : (os : List Outgoing) (b : Bool) (place at : ℕ) (frames : List (List ℕ)) → map g new ≡ mailed os (parted b place at frames (map g old)) → length new ≡ length old
  settled_lists os b place at frames is = sym (length-map new g) ∙ ap length is ∙ mailed_length os (parted b place at frames (map g old)) ∙ parted_length b place at frames (map g old) ∙ length-map old g

-- taking away what isn't there changes nothing
pub without_none : {X : Type 0} (xs : List X) (i : ℕ) → slice_get xs i ≡ None → remove xs i ≡ xs
without_none [] zero none = refl
without_none [] (suc i) none = refl
without_none (x ∷ xs) zero none = cc
without_none (x ∷ xs) (suc i) none = ap (λ l. x ∷ l) (without_none xs i none)

-- ---- one frame after another

module _ (o : Outgoing) (rest all : List Outgoing) (before after : List (List (List ℕ))) where
  pub mailed_more : all ≡ o ∷ rest → after ≡ mailed_once o before → mailed rest after ≡ mailed all before
  mailed_more is sent = ap (mailed rest) sent ∙ sym (ap (λ l. mailed l before) is)

  fresh_next : (n k : ℕ) → all ≡ o ∷ rest → after ≡ mailed_once o before → n + count_fresh all before ≡ k → n + (fresh_at o.bytes (slice_get before o.to.0) + count_fresh rest after) ≡ k
  fresh_next n k is sent so =
      let one : count_fresh all before ≡ fresh_at o.bytes (slice_get before o.to.0) + count_fresh rest (mailed_once o before) = ap (λ l. count_fresh l before) is in
      let two : count_fresh rest after ≡ count_fresh rest (mailed_once o before) = ap (count_fresh rest) sent in
      omega (arith, one, two, so)

  pub fresh_more : (n k : ℕ) → all ≡ o ∷ rest → after ≡ mailed_once o before → (b : Bool) → ◌≡◌ {A = ℕ} (if b then 1 else 0) (fresh_at o.bytes (slice_get before o.to.0)) → b ≡ true → n + count_fresh all before ≡ k → n + 1 + count_fresh rest after ≡ k
  fresh_more n k is sent true new sure so = omega (arith, fresh_next n k is sent so, new)
  fresh_more n k is sent false new sure so = cc

  pub fresh_same : (n k : ℕ) → all ≡ o ∷ rest → after ≡ mailed_once o before → (b : Bool) → ◌≡◌ {A = ℕ} (if b then 1 else 0) (fresh_at o.bytes (slice_get before o.to.0)) → b ≡ false → n + count_fresh all before ≡ k → n + count_fresh rest after ≡ k
  fresh_same n k is sent true new sure so = cc
  fresh_same n k is sent false new sure so = omega (arith, fresh_next n k is sent so, new)
