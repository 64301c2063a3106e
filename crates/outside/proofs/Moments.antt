-- What a power cut might have left since a moment.
use Rattle.std.proofs.Common.{Result, Ok, Err, OnOk, OnErr, true, ◌≡◌, ◌⊎◌, inl, inr, ⊎_elim, ℕ, ◌<◌, List, [], ◌∷◌, ◌++◌, length, drop, refl, sym, ◌∙◌, ap, subst, arith, append_assoc}
use Rattle.std.proofs.lemmas.List.{drop_at, append-nil}
use Rattle.std.proofs.lemmas.List.Elements.{Contains-push_cases, Contains-append_cases, Contains-append_left, Contains-push}
use Rattle.std.proofs.lemmas.Grind.{same_number_lists}
use Rattle.std.specs.List.{Contains}
use Rattle.outside.specs.Disk.{DiskState, DiskSeen, Durable, IsImage, EachImage, KeepsImage, Syncs, LosesPower, CutsPower, FailsSyncing, FailsWriting, moment, clean, overwritten, with_range, written, flushed}

none : {X : Type 0} (x : X) → Contains [] x → ⊥
none x c = absurd (omega (arith, c.1))

pub only : {X : Type 0} (a x : X) → Contains (a ∷ []) x → a ≡ x
only a x c = ⊎_elim (λ n. absurd (none x n)) (λ e. e) (Contains-push_cases [] a x c)

-- where nothing was written, a power cut leaves what is there
pub clean_image : (x c : List ℕ) → IsImage (clean x) c → c ≡ x
clean_image x c image =
    let len : length c ≡ length x = omega (arith, image.no_shorter, image.no_longer) in
    same_number_lists c x len (λ k lt.
    let there : k < length x = omega (arith, len, lt) in
    image.elsewhere k there tt)

-- the moments since d are those after its past
since_of : (d e : DiskState) (tail : List Durable) → e.past ≡ d.past ++ tail → drop (moment d) (e.past ++ e.now ∷ []) ≡ tail ++ e.now ∷ []
since_of d e tail is =
    let all : e.past ++ e.now ∷ [] ≡ d.past ++ (tail ++ e.now ∷ []) = ap (λ l. l ++ e.now ∷ []) is ∙ append_assoc d.past tail (e.now ∷ []) in
    ap (λ l. drop (length d.past) l) all ∙ drop_at d.past (tail ++ e.now ∷ []) (length d.past) refl

-- by durables: each of those since, and the one now, allows only images with P
pub leaves : (d e : DiskState) (P : List ℕ → Type 0) (tail : List Durable) → e.past ≡ d.past ++ tail → ((s : Durable) → Contains tail s → (c : List ℕ) → IsImage s c → P c) → ((c : List ℕ) → IsImage e.now c → P c) → EachImage d e P
leaves d e P tail is each now = record {
  since = tail;
  past = is;
  each = λ c image.
      let there = subst (λ (l : List Durable). Contains l image.0) (since_of d e tail is) image.1 in
      ⊎_elim
      (λ before. each image.0 before c image.2)
      (λ last. now c (subst (λ (s : Durable). IsImage s c) (sym last) image.2))
      (Contains-push_cases tail e.now image.0 there);
}

pub at_moment : (d e : DiskState) (P : List ℕ → Type 0) (l : EachImage d e P) (s : Durable) → Contains l.since s → (c : List ℕ) → IsImage s c → P c
at_moment d e P l s has c image =
    let there = subst (λ (x : List Durable). Contains x s) (sym (since_of d e l.since l.past)) (Contains-append_left l.since (e.now ∷ []) s has) in
    l.each c (s, there, image)

pub at_now : (d e : DiskState) (P : List ℕ → Type 0) → EachImage d e P → (c : List ℕ) → IsImage e.now c → P c
at_now d e P l c image =
    let there = subst (λ (x : List Durable). Contains x e.now) (sym (since_of d e l.since l.past)) (Contains-push l.since e.now) in
    l.each c (e.now, there, image)

-- what is kept is one of the images of now, in both ways of saying it
pub kept_image : (v : DiskSeen) → KeepsImage v → v.tells ≡ true → IsImage v.state.now v.state.kept
kept_image v keeps tells =
    let d = v.state in
    let image = (keeps d.kept (record { tells = tells; kept = refl })).image in
    let there = subst (λ (l : List Durable). Contains l image.0) (since_of d d [] (sym (append-nil d.past))) image.1 in
    subst (λ (s : Durable). IsImage s d.kept) (sym (only d.now image.0 there)) image.2

pub keeps_image : (v : DiskSeen) → (v.tells ≡ true → IsImage v.state.now v.state.kept) → KeepsImage v
keeps_image v image bytes kept =
    let d = v.state in
    let there = subst (λ (l : List Durable). Contains l d.now) (sym (since_of d d [] (sym (append-nil d.past)))) (Contains-push [] d.now) in
    record {
      tells = kept.tells;
      image = (d.now, there, subst (IsImage d.now) (sym kept.kept) (image kept.tells));
    }

-- nothing since
pub started : (d : DiskState) (P : List ℕ → Type 0) → ((c : List ℕ) → IsImage d.now c → P c) → EachImage d d P
started d P now = leaves d d P [] (sym (append-nil d.past)) (λ s has. absurd (none s has)) now

pub weaker : (d e : DiskState) (P Q : List ℕ → Type 0) → ((c : List ℕ) → P c → Q c) → EachImage d e P → EachImage d e Q
weaker d e P Q to l = record { since = l.since; past = l.past; each = λ c image. to c (l.each c image) }

-- one run after another
pub then : (d m e : DiskState) (P : List ℕ → Type 0) → EachImage d m P → EachImage m e P → EachImage d e P
then d m e P first next =
    leaves d e P (first.since ++ next.since)
    (next.past ∙ ap (λ l. l ++ next.since) first.past ∙ append_assoc d.past first.since next.since)
    (λ s has c image. ⊎_elim (λ early. at_moment d m P first s early c image) (λ late. at_moment m e P next s late c image) (Contains-append_cases first.since next.since s has))
    (λ c image. at_now m e P next c image)

-- one moment more
pub one_more : (m e : DiskState) (P : List ℕ → Type 0) → e.past ≡ m.past ++ m.now ∷ [] → ((c : List ℕ) → IsImage m.now c → P c) → ((c : List ℕ) → IsImage e.now c → P c) → EachImage m e P
one_more m e P is before now =
    leaves m e P (m.now ∷ []) is (λ s has c image. before c (subst (λ (x : Durable). IsImage x c) (sym (only m.now s has)) image)) now

pub two_more : (m e : DiskState) (a : Durable) (P : List ℕ → Type 0) → e.past ≡ m.past ++ m.now ∷ [] ++ a ∷ [] → ((c : List ℕ) → IsImage m.now c → P c) → ((c : List ℕ) → IsImage a c → P c) → ((c : List ℕ) → IsImage e.now c → P c) → EachImage m e P
two_more m e a P is before mid now =
    leaves m e P (m.now ∷ a ∷ []) (is ∙ append_assoc m.past (m.now ∷ []) (a ∷ []))
    (λ s has c image. ⊎_elim
    (λ first. before c (subst (λ (x : Durable). IsImage x c) (sym (only m.now s first)) image))
    (λ second. mid c (subst (λ (x : Durable). IsImage x c) (sym second) image))
    (Contains-push_cases (m.now ∷ []) a s has))
    now

-- the power went when the disk could leave what s says, and s is one of its last moments
left_now : (s : Durable) (past : List Durable) (e : DiskState) (P : List ℕ → Type 0) → LosesPower past s e → ((c : List ℕ) → IsImage s c → P c) → (c : List ℕ) → IsImage e.now c → P c
left_now s past e P lost now c image =
    let is : c ≡ e.kept = clean_image e.kept c (subst (λ (x : Durable). IsImage x c) lost.clean_now image) in
    now c (subst (λ (b : List ℕ). IsImage s b) (sym is) lost.left)

-- a cut
pub after_cut : (d e : DiskState) (P : List ℕ → Type 0) → ((c : List ℕ) → IsImage d.now c → P c) → CutsPower d e → EachImage d e P
after_cut d e P now (inl lost) = one_more d e P lost.history now (left_now d.now d.past e P lost now)
after_cut d e P now (inr same) = subst (λ (x : DiskState). EachImage d x P) (sym same.0) (started d P now)

-- a sync that failed
pub after_failed_sync : (d e : DiskState) (P : List ℕ → Type 0) → ((c : List ℕ) → IsImage d.now c → P c) → FailsSyncing d e → EachImage d e P
after_failed_sync d e P now (inl same) = subst (λ (x : DiskState). EachImage d x P) (sym same) (started d P now)
after_failed_sync d e P now (inr (inl stays)) =
    leaves d e P [] (stays.history ∙ sym (append-nil d.past)) (λ s has. absurd (none s has)) (λ c image. now c (subst (λ (s : Durable). IsImage s c) stays.now image))
after_failed_sync d e P now (inr (inr lost)) = one_more d e P lost.history now (left_now d.now d.past e P lost now)

-- a write that failed
pub after_failed_write : (d e : DiskState) (at n : ℕ) (P : List ℕ → Type 0) → ((c : List ℕ) → IsImage d.now c → P c) → ((c : List ℕ) → IsImage (with_range d.now at n) c → P c) → FailsWriting d at n e → EachImage d e P
after_failed_write d e at n P now torn (inl same) = subst (λ (x : DiskState). EachImage d x P) (sym same) (started d P now)
after_failed_write d e at n P now torn (inr (inl pending)) = one_more d e P pending.history now (λ c image. torn c (subst (λ (s : Durable). IsImage s c) pending.now image))
after_failed_write d e at n P now torn (inr (inr lost)) =
    two_more d e (with_range d.now at n) P lost.history now torn (left_now (with_range d.now at n) (d.past ++ d.now ∷ []) e P lost torn)

pub after_write : (d e : DiskState) (at : ℕ) (bytes : List ℕ) (P : List ℕ → Type 0) → e ≡ written d at bytes → ((c : List ℕ) → IsImage d.now c → P c) → ((c : List ℕ) → IsImage (with_range d.now at (length bytes)) c → P c) → EachImage d e P
after_write d e at bytes P is now pending = subst (λ (x : DiskState). EachImage d x P) (sym is) (one_more d (written d at bytes) P refl now pending)

pub after_sync : (d e : DiskState) (P : List ℕ → Type 0) → Syncs d e → ((c : List ℕ) → IsImage d.now c → P c) → P d.kept → EachImage d e P
after_sync d e P (inl is) now kept =
    subst (λ (x : DiskState). EachImage d x P) (sym is) (one_more d (flushed d) P refl now (λ c image. subst P (sym (clean_image d.kept c image)) kept))
after_sync d e P (inr same) now kept = subst (λ (x : DiskState). EachImage d x P) (sym same.0) (started d P now)

pub settled_kept : (d e : DiskState) → Syncs d e → (e.kept ≡ d.kept) × (e.now ≡ clean e.kept)
settled_kept d e (inl is) = (ap (λ x. x.kept) is, ap (λ x. x.now) is ∙ ap (λ x. clean x.kept) (sym is))
settled_kept d e (inr same) = (ap (λ x. x.kept) same.0, ap (λ x. x.now) same.0 ∙ same.1 ∙ ap (λ x. clean x.kept) (sym same.0))

-- what a write and a sync leave at each moment
abbrev pub Either : DiskState → ℕ → List ℕ → List ℕ → Type 0
Either d at bytes c = IsImage d.now c ⊎ (IsImage (with_range d.now at (length bytes)) c ⊎ (c ≡ overwritten d.kept at bytes))

pub failed_write : (d e : DiskState) (at : ℕ) (bytes : List ℕ) → FailsWriting d at (length bytes) e → EachImage d e (Either d at bytes)
failed_write d e at bytes failed = after_failed_write d e at (length bytes) (Either d at bytes) (λ c i. inl i) (λ c i. inr (inl i)) failed

to_written : (d : DiskState) (at : ℕ) (bytes : List ℕ) → EachImage d (written d at bytes) (Either d at bytes)
to_written d at bytes = after_write d (written d at bytes) at bytes (Either d at bytes) refl (λ c i. inl i) (λ c i. inr (inl i))

pub sync_leaves : {T E : Type 0} (d m e : DiskState) (at : ℕ) (bytes : List ℕ) → m ≡ written d at bytes → (r : Result T E) → OnOk r (Syncs m e) → OnErr r (FailsSyncing m e) → EachImage d e (Either d at bytes)
sync_leaves d m e at bytes is (Ok u) done failed =
    let w = written d at bytes in
    then d w e (Either d at bytes) (to_written d at bytes) (after_sync w e (Either d at bytes) (subst (λ (x : DiskState). Syncs x e) is done) (λ c i. inr (inl i)) (inr (inr refl)))
sync_leaves d m e at bytes is (Err u) done failed =
    let w = written d at bytes in
    then d w e (Either d at bytes) (to_written d at bytes) (after_failed_sync w e (Either d at bytes) (λ c i. inr (inl i)) (subst (λ (x : DiskState). FailsSyncing x e) is failed))

pub sync_kept : (d : DiskState) (at : ℕ) (bytes : List ℕ) → IsImage (written d at bytes).now (written d at bytes).kept → (e : DiskState) → FailsSyncing (written d at bytes) e → (e.kept ≡ d.kept) ⊎ IsImage (with_range d.now at (length bytes)) e.kept
sync_kept d at bytes image e (inl same) = inr (subst (λ (x : DiskState). IsImage (with_range d.now at (length bytes)) x.kept) (sym same) image)
sync_kept d at bytes image e (inr (inl stays)) = inr stays.left
sync_kept d at bytes image e (inr (inr lost)) = inr lost.left
