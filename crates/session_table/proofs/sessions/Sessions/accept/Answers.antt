use Rattle.std.proofs.Common.{◌≡◌, ℕ, ◌+◌, ◌<◌, ◌≤◌, sym, ◌∙◌, ap, subst, rules, arith, refl, Some, None, Option, List, ◌++◌, length, append-nil}
use Rattle.std.specs.Option.{IsSome}
use Rattle.net_base.specs.declared.names.Key.{Key}
use Rattle.net_base.specs.declared.values.Party.{Party}
use Rattle.session_wire.specs.declared.body.Body.{Body}
use Rattle.session_wire.specs.declared.change.SessionChange.{SessionChange}
use Rattle.session_wire.specs.Sessions.{Session}
use Rattle.session_table.specs.Changes.{came_on, acks_of_came, FitsCame, AcceptsItem, arrived_in}
use Rattle.session_table.proofs.Stepping.{none_came, none_acked}
use Rattle.session_table.proofs.sessions.Sessions.accept.Goals as goal

-- an item that is accepted has a session
named : (me : Party) (list : List Session) (change : SessionChange) (k : Option Key) (o : Option Body) (b : Body) → o ≡ Some b → FitsCame me list change k o → (key : Key) × ((k ≡ Some key) × AcceptsItem me list change key b)
named me list change None None b is fits = absurd (cc is)
named me list change None (Some x) b is fits = absurd fits
named me list change (Some k) None b is fits = absurd fits
named me list change (Some k) (Some x) b is fits = let one : x ≡ b = cc is in (k, (refl, subst (AcceptsItem me list change k) one fits))

some_is : (o : Option Key) (k : Key) → o ≡ Some k → IsSome o
some_is None k e = absurd (cc e)
some_is (Some x) k e = search rules

pub unwrap-requires : goal.unwrap-requires
unwrap-requires c =
    let n = named c.args.self.now.party c.args.self.now.list c.requires.fits.0 c.args.came_key c.args.came c.in-Some.body c.in-Some.is c.requires.fits.1 in
    some_is c.args.came_key n.0 n.1.0

pub accept_item-requires-clause-fits : goal.accept_item-requires-clause-fits
accept_item-requires-clause-fits c =
    let n = named c.args.self.now.party c.args.self.now.list c.requires.fits.0 c.args.came_key c.args.came c.in-Some.body c.in-Some.is c.requires.fits.1 in
    let e : Some n.0 ≡ Some c.unwrap.result = sym n.1.0 ∙ c.unwrap.ensures in
    let one : n.0 ≡ c.unwrap.result = cc e in
    (c.requires.fits.0, subst (λ (q : Key). AcceptsItem c.args.self.now.party c.args.self.now.list c.requires.fits.0 q c.in-Some.body) one n.1.1)

pub accept_item-requires-clause-few_came : goal.accept_item-requires-clause-few_came
accept_item-requires-clause-few_came c = subst (λ (n : ℕ). n + 1 < 4294967296) (ap (λ k. arrived_in k c.args.self.now.list) c.unwrap.ensures) c.requires.few_came

pub returns-in-Some-clause-list : goal.returns-in-Some-clause-list
returns-in-Some-clause-list c = c.accept_item.ensures.list ∙ sym (λ i. came_on (c.unwrap.ensures i) (c.in-Some.is i) c.args.owner c.args.self.now.list)

pub returns-in-Some-clause-acked : goal.returns-in-Some-clause-acked
returns-in-Some-clause-acked c = c.accept_item.ensures.acked ∙ sym (λ i. c.args.self.now.acked ++ acks_of_came (c.unwrap.ensures i) (c.in-Some.is i))

room_of : (old new m n : ℕ) → m ≡ n → old ≤ new + (1 + n) → old ≤ new + (1 + m)
room_of old new m n e h = omega (arith, e, h)

pub returns-in-Some-clause-room : goal.returns-in-Some-clause-room
returns-in-Some-clause-room c = room_of _ _ _ _ (λ i. length (acks_of_came (c.unwrap.ensures i) (c.in-Some.is i))) c.accept_item.ensures.room

pub returns-in_default-clause-list : goal.returns-in_default-clause-list
returns-in_default-clause-list c = sym (ap (λ (o : Option Body). came_on c.args.came_key o c.args.owner c.args.self.now.list) c.in_default.is ∙ none_came c.args.came_key c.args.owner c.args.self.now.list)

pub returns-in_default-clause-acked : goal.returns-in_default-clause-acked
returns-in_default-clause-acked c = sym (ap (λ (o : Option Body). c.args.self.now.acked ++ acks_of_came c.args.came_key o) c.in_default.is ∙ ap (λ (l : List ℕ). c.args.self.now.acked ++ l) (none_acked c.args.came_key) ∙ append-nil c.args.self.now.acked)

pub returns-in_default-clause-room : goal.returns-in_default-clause-room
returns-in_default-clause-room c = omega arith
