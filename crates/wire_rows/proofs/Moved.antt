-- Passes that move on.
use Rattle.std.proofs.lemmas.List.{length-map}
use Rattle.std.proofs.Common.{get_or, ◌≡◌, ◌⊎◌, inl, inr, ⊎_elim, ℕ, ◌<◌, List, [], ◌∷◌, ◌++◌, length, map, slice_get, slice_set, take, zero, suc, Option, Some, None, IfSome, IfNone, refl, sym, ap, subst, ◌∙◌, arith}
use Rattle.std.proofs.lemmas.Bool.{cases_eq}
use Rattle.net_base.proofs.Lists.{get_there, get_other, set_length, set_own, map_set, get_beside, get_map}
use Rattle.net_base.proofs.Options.{some_eq}
use Rattle.atomic_table.specs.Seated.{TableId}
use Rattle.wire_queue.specs.declared.rule.Seen.{Seen}
use Rattle.wire_queue.specs.declared.inbox.InboxPass.{InboxPass}
use Rattle.wire_queue.specs.Wire.{Frame, IsIn, posted, pulled_one, FromOrigins}
use Rattle.wire_queue.proofs.Wires.{in_append, in_left, in_right, posted_from, copied_from, posted_pulled, posted_shares}
use Rattle.session_frames.specs.declared.sending.Outgoing.{Outgoing}
use Rattle.wire_rows.specs.Exchanges.{Exchanges}
use Rattle.wire_rows.specs.Exchanges.{SentTo}

-- what stands in a list of which a place was set
pub in_set : {X : Type 0} (xs : List X) (p : ℕ) (x y : X) (q : ℕ) (z : X) → slice_get xs p ≡ Some x → slice_get (slice_set xs p y) q ≡ Some z → ((q ≡ p) × (z ≡ y)) ⊎ ((q ≡ p → ⊥) × (slice_get xs q ≡ Some z))
in_set {X} xs p x y q z there at = ⊎_elim
    (λ is. inl (is, some_eq (sym at ∙ ap (slice_get (slice_set xs p y)) is ∙ get_there xs p x y there)))
    (λ other. inr (other, sym (get_other xs p y q other) ∙ at))
    (cases_eq q p)

pub sent_left : (q : ℕ) (x : Frame) (a b : List Outgoing) → SentTo q x a → SentTo q x (a ++ b)
sent_left q x [] b h = absurd h
sent_left q x (o ∷ os) b (inl here) = inl here
sent_left q x (o ∷ os) b (inr there) = inr (sent_left q x os b there)

pub sent_right : (q : ℕ) (x : Frame) (a b : List Outgoing) → SentTo q x b → SentTo q x (a ++ b)
sent_right q x [] b h = h
sent_right q x (o ∷ os) b h = inr (sent_right q x os b h)

pub sent_take : (n q : ℕ) (x : Frame) (a : List Outgoing) → SentTo q x (take n a) → SentTo q x a
sent_take zero q x a h = absurd h
sent_take (suc n) q x [] h = absurd h
sent_take (suc n) q x (o ∷ os) (inl here) = inl here
sent_take (suc n) q x (o ∷ os) (inr there) = inr (sent_take n q x os there)

-- the passes stay
pub moves_same : (at : ℕ) (sent : List Outgoing) (old : List Seen) → Exchanges at [] sent old old
moves_same at sent old = record {
  count = refl;
  shares = λ q s t is be. ap (λ (z : Seen). z.shares) (some_eq (sym be ∙ is));
  pulled = λ q s t is be x h. subst (λ (z : Seen). IsIn x z.pulled) (some_eq (sym is ∙ be)) h;
  posted = λ q s t is be x h. inl (subst (λ (z : Seen). IsIn x z.origins) (some_eq (sym be ∙ is)) h);
  taken = λ t be x h. absurd h;
}

-- one pass goes on
pub record Goes (to : ℕ) (sent : List Outgoing) (s t : Seen) : Type 0 where
  pub shares : t.shares ≡ s.shares
  pub pulled : (x : Frame) → IsIn x s.pulled → IsIn x t.pulled
  pub posted : (x : Frame) → IsIn x t.origins → IsIn x s.origins ⊎ SentTo to x sent

pub moves_set : (at to : ℕ) (took : List Frame) (sent : List Outgoing) (old : List Seen) (s t : Seen) → slice_get old to ≡ Some s → Goes to sent s t → ((r : Seen) → slice_get (slice_set old to t) at ≡ Some r → (x : Frame) → IsIn x took → IsIn x r.pulled)
    → Exchanges at took sent old (slice_set old to t)
moves_set at to took sent old s t there goes taken = record {
  count = set_length old to t;
  shares = λ q a b is be. ⊎_elim
      (λ h. let same : a ≡ s = some_eq (sym is ∙ ap (slice_get old) h.0 ∙ there) in ap (λ (z : Seen). z.shares) h.1 ∙ goes.shares ∙ ap (λ (z : Seen). z.shares) (sym same))
      (λ h. ap (λ (z : Seen). z.shares) (some_eq (sym h.1 ∙ is)))
      (in_set old to s t q b there be);
  pulled = λ q a b is be x has. ⊎_elim
      (λ h. let same : a ≡ s = some_eq (sym is ∙ ap (slice_get old) h.0 ∙ there) in subst (λ (z : Seen). IsIn x z.pulled) (sym h.1) (goes.pulled x (subst (λ (z : Seen). IsIn x z.pulled) same has)))
      (λ h. subst (λ (z : Seen). IsIn x z.pulled) (some_eq (sym is ∙ h.1)) has)
      (in_set old to s t q b there be);
  posted = λ q a b is be x has. ⊎_elim
      (λ h.
      let same : s ≡ a = some_eq (sym there ∙ ap (slice_get old) (sym h.0) ∙ is) in
      ⊎_elim (λ old_one. inl (subst (λ (z : Seen). IsIn x z.origins) same old_one)) (λ new_one. inr (subst (λ (j : ℕ). SentTo j x sent) (sym h.0) new_one)) (goes.posted x (subst (λ (z : Seen). IsIn x z.origins) h.1 has)))
      (λ h. inl (subst (λ (z : Seen). IsIn x z.origins) (some_eq (sym h.1 ∙ is)) has))
      (in_set old to s t q b there be);
  taken = taken;
}

pub moves_then : (at : ℕ) (a b : List Frame) (sa sb : List Outgoing) (old mid new : List Seen) → Exchanges at a sa old mid → Exchanges at b sb mid new → Exchanges at (a ++ b) (sa ++ sb) old new
moves_then at a b sa sb old mid new h k = record {
  count = k.count ∙ h.count;
  shares = λ q s t is be. let m = between q s is in k.shares q m.0 t m.1 be ∙ h.shares q s m.0 is m.1;
  pulled = λ q s t is be x has. let m = between q s is in k.pulled q m.0 t m.1 be x (h.pulled q s m.0 is m.1 x has);
  posted = λ q s t is be x has.
      let m = between q s is in
      ⊎_elim
      (λ there. ⊎_elim (λ first. inl first) (λ was. inr (sent_left q x sa sb was)) (h.posted q s m.0 is m.1 x there))
      (λ was. inr (sent_right q x sa sb was))
      (k.posted q m.0 t m.1 be x has);
  taken = λ t be x has.
      let m = get_beside new mid at t k.count be in
      ⊎_elim (λ first. k.pulled at m.0 t m.1 be x (h.taken m.0 m.1 x first)) (λ last. k.taken t be x last) (in_append x a b has);
}
  where
    between : (q : ℕ) (s : Seen) → slice_get old q ≡ Some s → (m : Seen) × (slice_get mid q ≡ Some m)
    between q s is = get_beside old mid q s (sym h.count) is

-- fewer are said to be taken, more to be sent
pub moves_wider : (at : ℕ) (took : List Frame) (sa sb : List Outgoing) (old new : List Seen) → ((q : ℕ) (x : Frame) → SentTo q x sa → SentTo q x sb) → Exchanges at took sa old new → Exchanges at took sb old new
moves_wider at took sa sb old new wider h = record {
  count = h.count;
  shares = h.shares;
  pulled = h.pulled;
  posted = λ q s t is be x has. ⊎_elim (λ a. inl a) (λ b. inr (wider q x b)) (h.posted q s t is be x has);
  taken = h.taken;
}

-- ---- posts and pulls

-- a post, as the inbox answers it
pub goes_posted : (to : ℕ) (o : Outgoing) (s t : Seen) → o.to.0 ≡ to → t ≡ posted s o.bytes → Goes to (o ∷ []) s t
goes_posted to o s t is be = record {
  shares = ap (λ (z : Seen). z.shares) be ∙ posted_shares s o.bytes;
  pulled = λ x h. subst (λ (l : List Frame). IsIn x l) (sym (ap (λ (z : Seen). z.pulled) be ∙ posted_pulled s o.bytes)) h;
  posted = λ x h. ⊎_elim (λ a. inl a) (λ same. inr (inl (is, sym same))) (posted_from s o.bytes x (subst (λ (z : Seen). IsIn x z.origins) be h));
}

pub goes_refused : (to : ℕ) (sent : List Outgoing) (s t : Seen) → t ≡ s → Goes to sent s t
goes_refused to sent s t be = record {
  shares = ap (λ (z : Seen). z.shares) be;
  pulled = λ x h. subst (λ (z : Seen). IsIn x z.pulled) (sym be) h;
  posted = λ x h. inl (subst (λ (z : Seen). IsIn x z.origins) be h);
}

-- a copy of what was pulled
pub goes_copied : (to : ℕ) (bytes : Frame) (s t : Seen) → IsIn bytes s.pulled → t ≡ posted s bytes → Goes to [] s t
goes_copied to bytes s t had be = record {
  shares = ap (λ (z : Seen). z.shares) be ∙ posted_shares s bytes;
  pulled = λ x h. subst (λ (l : List Frame). IsIn x l) (sym (ap (λ (z : Seen). z.pulled) be ∙ posted_pulled s bytes)) h;
  posted = λ x h. inl (copied_from s bytes x had (subst (λ (z : Seen). IsIn x z.origins) be h));
}

pub goes_pulled : (to : ℕ) (bytes : Frame) (s t : Seen) → t ≡ pulled_one s bytes → Goes to [] s t × IsIn bytes t.pulled
goes_pulled to bytes s t be = (
  record {
    shares = ap (λ (z : Seen). z.shares) be;
    pulled = λ x h. subst (λ (z : Seen). IsIn x z.pulled) (sym be) (in_left x s.pulled (bytes ∷ []) h);
    posted = λ x h. inl (subst (λ (z : Seen). IsIn x z.origins) be h);
  },
  subst (λ (z : Seen). IsIn bytes z.pulled) (sym be) (in_right bytes s.pulled (bytes ∷ []) (inl refl)),
)

-- a pass of the list moved on in its place
pub moved_in : (at to : ℕ) (took : List Frame) (sent : List Outgoing) (passes : List InboxPass) (pass new : InboxPass) → slice_get passes to ≡ Some pass → Goes to sent pass.seen new.seen
    → ((r : Seen) → slice_get (slice_set (map (λ (p : InboxPass). p.seen) passes) to new.seen) at ≡ Some r → (x : Frame) → IsIn x took → IsIn x r.pulled)
    → Exchanges at took sent (map (λ (p : InboxPass). p.seen) passes) (map (λ (p : InboxPass). p.seen) (slice_set passes to new))
moved_in at to took sent passes pass new there goes taken =
    subst (λ (l : List Seen). Exchanges at took sent (map (λ (p : InboxPass). p.seen) passes) l) (sym (map_set (λ (p : InboxPass). p.seen) passes to new))
    (moves_set at to took sent (map (λ (p : InboxPass). p.seen) passes) pass.seen new.seen (get_map (λ (p : InboxPass). p.seen) passes to pass there) goes taken)

-- and the passes are of the same inboxes
pub same_inboxes : (to : ℕ) (passes : List InboxPass) (pass new : InboxPass) → slice_get passes to ≡ Some pass → new.of ≡ pass.of → map (λ (p : InboxPass). p.of) (slice_set passes to new) ≡ map (λ (p : InboxPass). p.of) passes
same_inboxes to passes pass new there same =
    map_set (λ (p : InboxPass). p.of) passes to new ∙ ap (slice_set (map (λ (p : InboxPass). p.of) passes) to) same ∙ set_own (map (λ (p : InboxPass). p.of) passes) to pass.of (get_map (λ (p : InboxPass). p.of) passes to pass there)

pub goes_post : (r : Option Frame) (to : ℕ) (o : Outgoing) (s t : Seen) → o.to.0 ≡ to → IfNone r (t ≡ posted s o.bytes) → IfSome r (λ x. t ≡ s) → Goes to (o ∷ []) s t
goes_post None to o s t is put same = goes_posted to o s t is put
goes_post (Some x) to o s t is put same = goes_refused to (o ∷ []) s t same

pub goes_copy : (r : Option Frame) (to : ℕ) (bytes : Frame) (s t : Seen) → IsIn bytes s.pulled → IfNone r (t ≡ posted s bytes) → IfSome r (λ x. t ≡ s) → Goes to [] s t
goes_copy None to bytes s t had put same = goes_copied to bytes s t had put
goes_copy (Some x) to bytes s t had put same = goes_refused to [] s t same

pub got : {X : Type 0} (xs : List X) (n : ℕ) (x : X) → n < length xs → x ≡ get_or xs n x → slice_get xs n ≡ Some x
got [] n x below is = absurd (omega (arith, below))
got (y ∷ xs) zero x below is = ap Some (sym is)
got (y ∷ xs) (suc n) x below is = got xs n x (omega (arith, below)) is

-- the pass of a place that has an inbox
pub pass_at : (passes : List InboxPass) (inboxes : List TableId) (n : ℕ) (x : InboxPass) → map (λ (p : InboxPass). p.of) passes ≡ inboxes → n < length inboxes → x ≡ get_or passes n x → slice_get passes n ≡ Some x
pass_at passes inboxes n x of below is = got passes n x (omega (arith, below, ap (λ (l : List TableId). length l) of, length-map passes (λ (p : InboxPass). p.of))) is

-- the pass of the place has the frame then
has_now : (at : ℕ) (passes : List InboxPass) (pass new : InboxPass) (x : Frame) → slice_get passes at ≡ Some pass → IsIn x new.seen.pulled → (r : Seen) → slice_get (slice_set (map (λ (p : InboxPass). p.seen) passes) at new.seen) at ≡ Some r → IsIn x r.pulled
has_now at passes pass new x there had r be =
    let now = get_there (map (λ (p : InboxPass). p.seen) passes) at pass.seen new.seen (get_map (λ (p : InboxPass). p.seen) passes at pass there) in
    subst (λ (z : Seen). IsIn x z.pulled) (some_eq (sym now ∙ be)) had

pub pulled_has : (r : Option Frame) (at : ℕ) (passes : List InboxPass) (pass new : InboxPass) → slice_get passes at ≡ Some pass → IfSome r (λ x. new.seen ≡ pulled_one pass.seen x)
    → IfSome r (λ x. (s : Seen) → slice_get (map (λ (p : InboxPass). p.seen) (slice_set passes at new)) at ≡ Some s → IsIn x s.pulled)
pulled_has None at passes pass new there h = tt
pulled_has (Some x) at passes pass new there h = λ s be.
    has_now at passes pass new x there (goes_pulled at x pass.seen new.seen h).1 s (subst (λ (l : List Seen). slice_get l at ≡ Some s) (map_set (λ (p : InboxPass). p.seen) passes at new) be)

pub shift : {X : Type 0} (a b : List X) (x : X) → (a ++ x ∷ []) ++ b ≡ a ++ x ∷ b
shift [] b x = refl
shift (y ∷ a) b x = ap (λ (l : List _). y ∷ l) (shift a b x)

-- the frames so far are a front of those that are first
pub moves_front : (at : ℕ) (so_far rest frames : List Outgoing) (n : ℕ) (old new : List Seen) → so_far ++ rest ≡ take n frames → Exchanges at [] so_far old new → Exchanges at [] frames old new
moves_front at so_far rest frames n old new front moves =
    moves_wider at [] so_far frames old new (λ q x h. sent_take n q x frames (subst (λ (l : List Outgoing). SentTo q x l) front (sent_left q x so_far rest h))) moves

pub pulled_whole : (at : ℕ) (passes : List InboxPass) (pass new : InboxPass) → slice_get passes at ≡ Some pass → FromOrigins new.seen
    → (s : Seen) → slice_get (map (λ (p : InboxPass). p.seen) (slice_set passes at new)) at ≡ Some s → FromOrigins s
pulled_whole at passes pass new there from s be = subst FromOrigins (some_eq (sym now ∙ be)) from
  where
    now : slice_get (map (λ (p : InboxPass). p.seen) (slice_set passes at new)) at ≡ Some new.seen
    now = get_map (λ (p : InboxPass). p.seen) (slice_set passes at new) at new (get_there passes at pass new there)
