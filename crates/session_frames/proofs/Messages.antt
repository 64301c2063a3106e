-- The messages of items that are sent.
use Rattle.std.proofs.Common.{◌≡◌, ◌⊎◌, inl, inr, ◌<◌, ◌+◌, ℕ, suc, Bool, true, false, cond, List, [], ◌∷◌, Some, refl, ap, sym, subst, nat_le, arith, map, slice_get}
use Rattle.std.proofs.lemmas.Option.{slice_get_within}
use Rattle.std.specs.List.{AllByRecursion}
use Rattle.std.proofs.lemmas.Bool.{eqb-true}
use Rattle.net_base.specs.declared.values.Party.{Party}
use Rattle.net_base.proofs.Lists.{all_append, all_kept}
use Rattle.session_wire.specs.Frames.{IsFrame}
use Rattle.session_wire.specs.Rules.{is_opened_by, direction_out}
use Rattle.session_wire.specs.Sessions.{Session, Sent}
use Rattle.session_table.specs.Tables.{item_of, items_from, unacked_in, unacked}
use Rattle.session_table.specs.declared.resent.Item.{Item}
use Rattle.session_frames.specs.Sending.{message_of, outgoing, AreMessages, IsAddressed}
use Rattle.session_frames.specs.Lawful.{IsLawful, AreLawful}
use Rattle.session_frames.proofs.Routes.{IsRoute, goes_of}

-- the route of what a node sends in a session
pub sent_route : (me : Party) (s : Session) → me.0 < 16 → IsLawful me s → IsRoute me s.peer s.key (direction_out me s.key) me s.peer
sent_route me s node h = (
  record {
    from_is = node;
    to_is = h.peer;
    differ = λ e. h.other (ap (λ (p : Party). p.0) (sym e));
    key_is = (elim (by (is_opened_by me s.key) refl) [ inl x ↦ subst (λ (n : ℕ). n < 16) (sym x.1) node | inr x ↦ subst (λ (n : ℕ). n < 16) (sym x.1) h.peer ], h.number);
  },
  goes_of s.key (direction_out me s.key) me s.peer (by (is_opened_by me s.key) refl),
)
  where
    way : Bool → ℕ
    way b = cond b 0 1

    by : (b : Bool) → is_opened_by me s.key ≡ b → ((way b ≡ 0) × (s.key.initiator.0 ≡ me.0)) ⊎ ((way b ≡ 1) × (s.key.initiator.0 ≡ s.peer.0))
    by true is = inl (refl, eqb-true _ _ is)
    by false is = inr (refl, ap (λ (p : Party). p.0) (sym (h.answered is).peer))

-- the message of an item that was sent is a frame
pub is_message : (me : Party) (s : Session) (n : ℕ) (x : Sent) → me.0 < 16 → IsLawful me s → slice_get s.sent n ≡ Some x → IsFrame (message_of me (item_of me s n x))
is_message me s n x node h there =
    let at = h.items n x there in
    let route = sent_route me s node h in
    (route.0, (route.1, (omega (arith, h.few, slice_get_within s.sent n x there), (at.stamped, at.lawful))))

-- the items of a session
pub all_items : (P : Item → Type 0) (me : Party) (s : Session) (n : ℕ) (xs : List Sent) → ((k : ℕ) (x : Sent) → slice_get xs k ≡ Some x → P (item_of me s (n + k) x)) → AllByRecursion P (items_from me s n xs)
all_items P me s n [] h = tt
all_items P me s n (x ∷ xs) h =
    let first : n + 0 ≡ n = omega arith in (
      subst (λ (j : ℕ). P (item_of me s j x)) first (h 0 x refl),
      all_items P me s (n + 1) xs (λ k y there.
          let place : n + suc k ≡ n + 1 + k = omega arith in
          subst (λ (j : ℕ). P (item_of me s j y)) place (h (suc k) y there)),
    )

-- the messages of all items that aren't acknowledged are frames
pub are_messages : (me : Party) (sessions : List Session) (acked : List ℕ) → AreLawful me sessions → AreMessages me (unacked me sessions acked)
are_messages me [] acked h = tt
are_messages me (s ∷ ss) [] h = tt
are_messages me (s ∷ ss) (n ∷ ns) h =
    let P : Item → Type 0 = λ item. IsFrame (message_of me item) in
    all_append P (unacked_in me (s, n)) (unacked me ss ns)
    (all_kept P (λ item. nat_le n item.number) (items_from me s 0 s.sent) (all_items P me s 0 s.sent (λ k x there.
    let at : k ≡ 0 + k = omega arith in
    subst (λ (j : ℕ). P (item_of me s j x)) at (is_message me s k x h.node h.each.0 there))))
    (are_messages me ss ns (record { node = h.node; each = h.each.1 }))

-- what is sent of them are frames to their addressees
pub are_addressed : (me : Party) (items : List Item) → AreMessages me items → AllByRecursion IsAddressed (map (outgoing me) items)
are_addressed me [] h = tt
are_addressed me (item ∷ items) h = (record { carried = message_of me item; lawful = h.0; whole = refl; to = refl }, are_addressed me items h.1)
