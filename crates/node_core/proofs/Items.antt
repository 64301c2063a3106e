-- Items that come next of their sessions.
use Rattle.std.proofs.Common.{◌≡◌, inl, inr, ℕ, ◌+◌, ◌<◌, ◌≤◌, ◌^◌, ◌==◌, ◌&&◌, not, is_none, is_some, option_map, List, length, Option, Some, None, true, refl, ◌∙◌, ap, subst, arith}
use Rattle.std.specs.List.{AllByRecursion}
use Rattle.std.proofs.lemmas.Bool.{and_parts, eqb-true}
use Rattle.net_base.specs.declared.names.Identity.{Identity}
use Rattle.net_base.specs.declared.names.Key.{Key}
use Rattle.net_base.specs.declared.values.Party.{Party}
use Rattle.net_base.proofs.Options.{none_of}
use Rattle.net_base.proofs.Lists.{all_find}
use Rattle.session_wire.specs.declared.body.Body.{Body}
use Rattle.session_wire.specs.Rules.{direction_in, is_init, is_lawful, is_no_peer}
use Rattle.session_wire.specs.Sessions.{Session, session_of}
use Rattle.session_frames.specs.Items.{BeginsSession, GoesOn, IsNextItem}

module _ (id : Identity) (sessions : List Session) (from : Party) (key : Key) (direction number stamp : ℕ) (body : Body) (next : IsNextItem id sessions from key direction number stamp body) where
  -- its number has another one behind it
  pub next_small : (m : ℕ) → m ≤ 65536 → AllByRecursion (λ session. length session.came ≤ m) sessions → number + 1 < 2 ^ 32
  next_small m few all = elim next.place [ inl b ↦ (let first = b.first in omega (arith, first)) | inr g ↦ later g ]
    where
      later : GoesOn id sessions from key direction number body → number + 1 < 2 ^ 32
      later g =
          let came : length g.session.came ≤ m = all_find (λ s. length s.came ≤ m) _ sessions g.session all g.stands in
          let p = and_parts (direction == direction_in id.party key) ((number == length g.session.came) && (is_lawful direction number body && not (is_init body))) g.next in
          let q = and_parts (number == length g.session.came) (is_lawful direction number body && not (is_init body)) p.1 in
          let at = eqb-true number (length g.session.came) q.0 in
          omega (arith, came, at, few)

  new_none : BeginsSession id sessions from key direction number body → session_of key sessions ≡ None
  new_none b = none_of (session_of key sessions) (and_parts (is_none (session_of key sessions)) (not (is_no_peer id.nodes id.party key.initiator)) b.is_new).0

  -- where its session stands it goes on there, and else begins it
  pub next_there : (s : Session) → session_of key sessions ≡ Some s → GoesOn id sessions from key direction number body
  next_there s is = elim next.place [ inl b ↦ (let none = new_none b in absurd (cc (none, is))) | inr g ↦ g ]

-- a session whose other side is known stands
pub session_there : (sessions : List Session) (key : Key) (peer : Option Party) → peer ≡ option_map (λ s. s.peer) (session_of key sessions) → is_some peer ≡ true → (s : Session) × (session_of key sessions ≡ Some s)
session_there sessions key peer is some = by (session_of key sessions) refl
  where
    by : (o : Option Session) → session_of key sessions ≡ o → (s : Session) × (session_of key sessions ≡ Some s)
    by None none =
        let gone : peer ≡ None = is ∙ ap (option_map (λ s. s.peer)) none in
        let nothing : Option Party = None in
        let lost : is_some nothing ≡ true = subst (λ (p : Option Party). is_some p ≡ true) gone some in
        absurd (cc lost)
    by (Some s) stands = (s, stands)
