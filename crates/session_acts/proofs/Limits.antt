-- What is sent, accepted and taken is within the limits of a record.
use Rattle.std.proofs.Common.{◌≡◌, ℕ, ◌<◌, ◌≤◌, Bool, true, false, ◌==◌, nat_le, List, [], ◌∷◌, ◌++◌, Option, Some, None, refl, sym, subst, cond, length, arith}
use Rattle.std.specs.Prelude.{IfSome}
use Rattle.std.specs.List.{AllByRecursion}
use Rattle.std.proofs.lemmas.Bool.{or_parts, leb-false}
use Rattle.net_base.specs.declared.names.Key.{Key}
use Rattle.net_base.specs.declared.values.Party.{Party}
use Rattle.net_base.specs.Values.{IsParty}
use Rattle.net_base.specs.Names.{IsKey}
use Rattle.session_wire.specs.declared.body.Body.{Body}
use Rattle.session_wire.specs.declared.body.Body.TheVariants as body_of
use Rattle.session_wire.specs.declared.change.SentItem.{SentItem}
use Rattle.session_wire.specs.Sessions.{Session, key_eq, session_of}
use Rattle.session_wire.specs.Bodies.{IsBody}
use Rattle.session_wire.specs.Rules.{is_no_peer}
use Rattle.transition_record.specs.Changes.{IsSentItem, IsTaken, IsSession}
use Rattle.session_acts.specs.Parts.{unchanged}
use Rattle.session_acts.proofs.Owning.{key_found}

-- no change is within them
pub unchanged_within : (f : ℕ) → IsSession f None (unchanged f)
unchanged_within f = ((tt, ((omega arith, tt), (tt, tt))), (refl, refl))

-- a party of the network is below 16
pub peer_within : (nodes : ℕ) (me to : Party) → nodes < 17 → is_no_peer nodes me to ≡ false → IsParty to
peer_within nodes me to few h = let below = leb-false nodes to.0 (or_parts (to.0 == me.0) (nat_le nodes to.0) h).1 in omega arith

-- a session that is opened, with its Init
pub opening_within : (f : ℕ) (key : Key) (to : Party) (item : SentItem) (sent : List SentItem) → IsKey key → IsParty to → IsSentItem item → sent ≡ item ∷ [] → IsSession f None (record { opened = Some (key, to); owner = f; sent = sent; came = None; came_key = None; taken = None })
opening_within f key to item sent k p i is =
    subst (λ (items : List SentItem). IsSession f None (record { opened = Some (key, to); owner = f; sent = items; came = None; came_key = None; taken = None })) (sym is) (((k, p), ((omega arith, (i, tt)), (tt, tt))), (refl, refl))

-- items that are sent
pub sending_within : (f : ℕ) (sent : List SentItem) → length sent ≤ 255 → AllByRecursion IsSentItem sent → IsSession f None (record { opened = None; owner = f; sent = sent; came = None; came_key = None; taken = None })
sending_within f sent few h = ((tt, ((few, h), (tt, tt))), (refl, refl))

-- one item
pub one_within : (f : ℕ) (item : SentItem) (sent : List SentItem) → IsSentItem item → sent ≡ item ∷ [] → IsSession f None (record { opened = None; owner = f; sent = sent; came = None; came_key = None; taken = None })
one_within f item sent i is = subst (λ (items : List SentItem). IsSession f None (record { opened = None; owner = f; sent = items; came = None; came_key = None; taken = None })) (sym is) (sending_within f (item ∷ []) (omega arith) (i, tt))

-- items that are taken
pub taking_within : (f : ℕ) (sent : List SentItem) (taken : Option (Key × ℕ)) → sent ≡ [] → IfSome taken IsTaken → IsSession f None (record { opened = None; owner = f; sent = sent; came = None; came_key = None; taken = taken })
taking_within f sent taken none t = subst (λ (items : List SentItem). IsSession f None (record { opened = None; owner = f; sent = items; came = None; came_key = None; taken = taken })) (sym none) ((tt, ((omega arith, tt), (tt, t))), (refl, refl))

-- an item that is accepted, and what is sent then
pub accepting_within : (f : ℕ) (key : Key) (body : Body) (sent : List SentItem) → length sent ≤ 255 → AllByRecursion IsSentItem sent → IsBody body → IsSession f (Some key) (record { opened = None; owner = f; sent = sent; came = Some body; came_key = Some key; taken = None })
accepting_within f key body sent few h b = ((tt, ((few, h), (b, tt))), (refl, refl))

pub answer_within : (begins : Bool) → IsBody (cond begins body_of.Confirm (body_of.Reject 5))
answer_within true = tt
answer_within false = omega arith

pub answering_within : (f : ℕ) (key : Key) (init : Body) (item : SentItem) (sent : List SentItem) → IsSentItem item → IsBody init → sent ≡ item ∷ [] → IsSession f (Some key) (record { opened = None; owner = f; sent = sent; came = Some init; came_key = Some key; taken = None })
answering_within f key init item sent i b is = subst (λ (items : List SentItem). IsSession f (Some key) (record { opened = None; owner = f; sent = items; came = Some init; came_key = Some key; taken = None })) (sym is) (accepting_within f key init (item ∷ []) (omega arith) (i, tt) b)

-- one more item within the limits
pub all_more : (items new : List SentItem) (item : SentItem) → new ≡ items ++ item ∷ [] → AllByRecursion IsSentItem items → IsSentItem item → AllByRecursion IsSentItem new
all_more items new item e h i = subst (AllByRecursion IsSentItem) (sym e) (by items h)
  where
    by : (xs : List SentItem) → AllByRecursion IsSentItem xs → AllByRecursion IsSentItem (xs ++ item ∷ [])
    by [] k = (i, tt)
    by (x ∷ xs) k = (k.0, by xs k.1)

-- the key of a session is within them where those of all are
pub key_within : (list : List Session) (key : Key) (s : Session) → AllByRecursion (λ session. IsKey session.key) list → session_of key list ≡ Some s → IsKey key
key_within list key s h there = subst IsKey (sym (key_found key list s there)) (by list h there)
  where
    by : (xs : List Session) → AllByRecursion (λ session. IsKey session.key) xs → session_of key xs ≡ Some s → IsKey s.key
    by [] k e = cc
    by (x ∷ xs) k e = on (key_eq key x.key) e (by xs k.1)
      where
        on : (b : Bool) → cond b (Some x) (session_of key xs) ≡ Some s → (session_of key xs ≡ Some s → IsKey s.key) → IsKey s.key
        on true f rest = let one : x ≡ s = cc f in subst (λ (y : Session). IsKey y.key) one k.0
        on false f rest = rest f
