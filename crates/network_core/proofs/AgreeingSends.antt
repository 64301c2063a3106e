-- Frames that tell what is may be sent, and those of a post do.
use Rattle.std.proofs.Common.{◌≡◌, ℕ, suc, ◌+◌, inl, ⊎_elim, List, [], ◌∷◌, ◌++◌, Option, Some, None, Bool, true, false, cond, map, option_map, nat_le, slice_get, slice_set, refl, sym, ap, subst, ◌∙◌, arith, eq-eqb}
use Rattle.std.specs.List.{AllByRecursion}
use Rattle.std.proofs.lemmas.Option.{slice_get-map}
use Rattle.std.proofs.lemmas.Bool.{cases_eq}
use Rattle.net_base.specs.declared.values.Party.{Party}
use Rattle.net_base.proofs.Lists.{all_append, all_kept, get_there, all_weaken, set_length, get_beside, get_other}
use Rattle.net_base.proofs.Options.{some_eq}
use Rattle.session_wire.specs.Frames.{IsFrame}
use Rattle.session_wire.specs.Sessions.{Session, Sent, session_of}
use Rattle.session_table.specs.declared.resent.Item.{Item}
use Rattle.session_table.specs.Tables.{item_of, items_from, unacked_in, unacked}
use Rattle.session_frames.specs.declared.sending.Outgoing.{Outgoing}
use Rattle.session_frames.specs.Sending.{message_of, outgoing}
use Rattle.session_frames.proofs.Messages.{all_items}
use Rattle.waiting_frames.specs.Waiting.{is_waiting, joined}
use Rattle.net_model.specs.Environment.{Environment, party}
use Rattle.net_model.specs.Runs.{item_from}
use Rattle.node_tables.specs.Journals.{state_of}
use Rattle.network_core.specs.declared.steps.Outcome.{Outcome}
use Rattle.network_core.specs.declared.steps.Outcome.TheVariants as outcome
use Rattle.network_core.specs.Worlds.{NodeWorld, World, MaySpell, Choice, states_of, WaitsAt, Coherent}
use Rattle.network_core.specs.WorldSteps.{with_frame, sent_to, sent_once, sent_all, PostsFrom}
use Rattle.network_core.proofs.AgreeingLists.{all_map}
use Rattle.network_core.proofs.AgreeingKeys.{sound_keys, found_by_key}
use Rattle.network_core.proofs.AgreeingOnce.{goes_coherent}

joined_all : (P : List ℕ → Type 0) (bytes : List ℕ) (frames : List (List ℕ)) → P bytes → AllByRecursion P frames → AllByRecursion P (joined bytes frames)
joined_all P bytes frames one all = by (is_waiting bytes frames)
  where
    by : (b : Bool) → AllByRecursion P (cond b frames (frames ++ bytes ∷ []))
    by true = all
    by false = all_append P frames (bytes ∷ []) all (one, tt)

module _ {F : Type 0} (e : Environment F) where
  -- a frame to its node that tells what is, whichever journals a power cut leaves
  abbrev pub Told : World → Outgoing → Type 0
  Told u o = (lists : List (List (List ℕ))) → Choice u lists → WaitsAt (states_of e lists) o.to.0 o.bytes

  abbrev pub after : World → Outgoing → World
  after u o = record { nodes = sent_once o u.nodes; now = u.now }

  send_coherent : (u : World) (o : Outgoing) → Coherent e u → Told u o → Coherent e (after u o)
  send_coherent u o coherent told = by (slice_get u.nodes o.to.0) refl
    where
      by : (x : Option NodeWorld) → slice_get u.nodes o.to.0 ≡ x → Coherent e (record { nodes = sent_to o u.nodes x; now = u.now })
      by None is = coherent
      by (Some x) is = goes_coherent e u o.to.0 x (with_frame o.bytes x) coherent is (record {
        one = (coherent.each o.to.0 x is).one;
        lists = λ l may. (l, may, inl refl);
        waits = λ old choice h. joined_all (WaitsAt (states_of e old) o.to.0) o.bytes x.waiting (told old choice) h;
        numbers = coherent.numbers o.to.0 x is;
        acks = λ up net frames known. known up;
      })

  -- a choice once a frame was sent is one of before
  choice_before : (u : World) (o : Outgoing) (lists : List (List (List ℕ))) → Choice (after u o) lists → Choice u lists
  choice_before u o lists = by (slice_get u.nodes o.to.0) refl
    where
      by : (x : Option NodeWorld) → slice_get u.nodes o.to.0 ≡ x → Choice (record { nodes = sent_to o u.nodes x; now = u.now }) lists → Choice u lists
      by None is choice = choice
      by (Some x) is choice = record {
        count = choice.count ∙ set_length u.nodes o.to.0 (with_frame o.bytes x);
        each = λ q z l at there. ⊎_elim
            (λ here.
            let same : x ≡ z = some_eq (sym is ∙ ap (slice_get u.nodes) (sym here) ∙ at) in
            let may : MaySpell (with_frame o.bytes x) l = choice.each q (with_frame o.bytes x) l (ap (slice_get (slice_set u.nodes o.to.0 (with_frame o.bytes x))) here ∙ get_there u.nodes o.to.0 x (with_frame o.bytes x) is) there in
            subst (λ (k : NodeWorld). MaySpell k l) same may)
            (λ other. choice.each q z l (get_other u.nodes o.to.0 (with_frame o.bytes x) q other ∙ at) there)
            (cases_eq q o.to.0);
      }

  told_after : (u : World) (o next : Outgoing) → Told u next → Told (after u o) next
  told_after u o next told lists choice = told lists (choice_before u o lists choice)

  pub sends_coherent : (frames : List Outgoing) (u : World) → Coherent e u → AllByRecursion (Told u) frames → Coherent e (record { nodes = sent_all frames u.nodes; now = u.now })
  sends_coherent [] u coherent told = coherent
  sends_coherent (o ∷ os) u coherent told = sends_coherent os (after u o) (send_coherent u o coherent told.0) (all_weaken (Told u) (Told (after u o)) os (told_after u o) told.1)

-- ---- where items that aren't acknowledged come from

pub record Origin (me : Party) (ss : List Session) (item : Item) : Type 0 where
  pub place : ℕ
  pub session : Session
  pub number : ℕ
  pub sent : Sent
  pub at : slice_get ss place ≡ Some session
  pub there : slice_get session.sent number ≡ Some sent
  pub is : item ≡ item_of me session number sent

later : (me : Party) (s : Session) (ss : List Session) (item : Item) → Origin me ss item → Origin me (s ∷ ss) item
later me s ss item o = record { place = suc o.place; session = o.session; number = o.number; sent = o.sent; at = o.at; there = o.there; is = o.is }

origins : (me : Party) (ss : List Session) (acked : List ℕ) → AllByRecursion (Origin me ss) (unacked me ss acked)
origins me [] acked = tt
origins me (s ∷ ss) [] = tt
origins me (s ∷ ss) (n ∷ ns) =
    let P : Item → Type 0 = Origin me (s ∷ ss) in
    all_append P (unacked_in me (s, n)) (unacked me ss ns)
    (all_kept P (λ item. nat_le n item.number) (items_from me s 0 s.sent) (all_items P me s 0 s.sent (λ k x there.
    let at : 0 + k ≡ k = omega arith in
    record { place = 0; session = s; number = k; sent = x; at = refl; there = there; is = ap (λ (j : ℕ). item_of me s j x) at })))
    (all_weaken (Origin me ss) P (unacked me ss ns) (later me s ss) (origins me ss ns))

all_both : {X : Type 0} (P Q R : X → Type 0) (xs : List X) → ((x : X) → P x → Q x → R x) → AllByRecursion P xs → AllByRecursion Q xs → AllByRecursion R xs
all_both P Q R [] f h k = tt
all_both P Q R (x ∷ xs) f h k = (f x h.0 k.0, all_both P Q R xs f h.1 k.1)

-- ---- a node that is up

module _ {F : Type 0} (e : Environment F) (w : World) (p : ℕ) (x : NodeWorld) (coherent : Coherent e w) (there : slice_get w.nodes p ≡ Some x) (up : x.up ≡ true) where
  -- each choice has its journal
  pub list_here : (lists : List (List (List ℕ))) → Choice w lists → slice_get lists p ≡ Some x.journal
  list_here lists choice =
      let mine = get_beside w.nodes lists p x (sym choice.count) there in
      let is : mine.0 ≡ x.journal = ⊎_elim (λ same. same) (λ other. absurd (let no : None ≡ Some mine.0 = sym ((coherent.each p x there).one up) ∙ other in cc)) (choice.each p x mine.0 there mine.1) in
      mine.1 ∙ ap Some is

  pub state_here : (lists : List (List (List ℕ))) → Choice w lists → slice_get (states_of e lists) p ≡ Some (state_of e.frame_at x.journal)
  state_here lists choice = slice_get-map (state_of e.frame_at) lists p ∙ ap (option_map (state_of e.frame_at)) (list_here lists choice)

  abbrev pub sessions : List Session
  sessions = (state_of e.frame_at x.journal).sessions

  -- a session of the node is found by its key
  pub keyed : (i : ℕ) (s : Session) → slice_get sessions i ≡ Some s → session_of s.key sessions ≡ Some s
  keyed i s at = found_by_key sessions i s (sound_keys e p w.now x.journal ((coherent.each p x there).every x.journal (inl refl))) at

  item_told : (item : Item) → Origin (party p) sessions item → IsFrame (message_of (party p) item) → Told e w (outgoing (party p) item)
  unfolding item_from
  item_told item o lawful lists choice = record {
    carried = message_of (party p) item;
    lawful = lawful;
    whole = refl;
    to = refl;
    true_is = subst (λ (k : Item). item_from (states_of e lists) k.peer.0 p k.key k.number ≡ Some (record { body = k.body; stamp = k.stamp })) (sym o.is) (rw (state_here lists choice, keyed o.place o.session o.at, eq-eqb o.session.peer.0 o.session.peer.0 refl) o.there);
  }

  posted_coherent : (count : ℕ) (v : World) → PostsFrom e p w x (Some (outcome.Posted count)) v → Coherent e v
  posted_coherent count v h =
      let items = unacked (party p) sessions x.acked in
      let told = all_both (Origin (party p) sessions) (λ item. IsFrame (message_of (party p) item)) (λ item. Told e w (outgoing (party p) item)) items item_told (origins (party p) sessions x.acked) h.3 in
      subst (Coherent e) (sym h.2) (sends_coherent e (map (outgoing (party p)) items) w coherent (all_map (Told e w) (outgoing (party p)) items told))

module _ {F : Type 0} (e : Environment F) (w : World) (p : ℕ) (x : NodeWorld) (coherent : Coherent e w) (there : slice_get w.nodes p ≡ Some x) where
  pub posts_coherent : (o : Option Outcome) (v : World) → PostsFrom e p w x o v → Coherent e v
  posts_coherent None v h = subst (Coherent e) (sym h.1) coherent
  posts_coherent (Some (outcome.Posted count)) v h = posted_coherent e w p x coherent there h.0 count v h
  posts_coherent (Some (outcome.Refused why)) v h = subst (Coherent e) (sym h.2) coherent
  posts_coherent (Some other) v h = absurd h
