use Rattle.std.proofs.Common.{◌≡◌, ℕ, ◌+◌, ◌≤◌, sym, ◌∙◌, ap, subst, arith, Some, Option, ◌++◌, length, true≢false, append-nil}
use Rattle.net_base.specs.declared.names.Key.{Key}
use Rattle.net_base.specs.declared.values.Party.{Party}
use Rattle.session_wire.specs.Sessions.{opened_on}
use Rattle.session_table.specs.Changes.{acks_of_opened, FitsOpened}
use Rattle.session_table.proofs.Stepping.{own_key}
use Rattle.session_table.proofs.sessions.Sessions.open.Goals as goal

room_of : (old new m n : ℕ) → m ≡ n → old ≤ new + n → old ≤ new + m
room_of old new m n e h = omega (arith, e, h)

pub begin-requires-clause-new : goal.begin-requires-clause-new
begin-requires-clause-new c =
    let fits : FitsOpened c.args.self.now.party c.args.self.now.list c.requires.fits.0 (Some (c.in-Some.key, c.in-Some.peer)) = subst (λ (o : Option (Key × Party)). FitsOpened c.args.self.now.party c.args.self.now.list c.requires.fits.0 o) c.in-Some.is c.requires.fits.1 in
    λ other. absurd (true≢false (sym (own_key c.args.self.now.party c.args.self.now.list c.in-Some.key fits.next) ∙ other))

pub begin-requires-clause-next : goal.begin-requires-clause-next
begin-requires-clause-next c =
    let fits : FitsOpened c.args.self.now.party c.args.self.now.list c.requires.fits.0 (Some (c.in-Some.key, c.in-Some.peer)) = subst (λ (o : Option (Key × Party)). FitsOpened c.args.self.now.party c.args.self.now.list c.requires.fits.0 o) c.in-Some.is c.requires.fits.1 in
    λ _. ap (λ (k : Key). k.number) fits.next

pub returns-in-Some-clause-list : goal.returns-in-Some-clause-list
returns-in-Some-clause-list c = c.begin.ensures.list ∙ sym (ap (λ (o : Option (Key × Party)). opened_on o (Some c.args.owner) c.args.self.now.list) c.in-Some.is)

pub returns-in-Some-clause-acked : goal.returns-in-Some-clause-acked
returns-in-Some-clause-acked c = c.begin.ensures.acked ∙ sym (ap (λ (o : Option (Key × Party)). c.args.self.now.acked ++ acks_of_opened o) c.in-Some.is)

pub returns-in-Some-clause-room : goal.returns-in-Some-clause-room
returns-in-Some-clause-room c = room_of _ _ _ _ (ap (λ (o : Option (Key × Party)). length (acks_of_opened o)) c.in-Some.is) c.begin.ensures.room

pub returns-in_default-clause-list : goal.returns-in_default-clause-list
returns-in_default-clause-list c = sym (ap (λ (o : Option (Key × Party)). opened_on o (Some c.args.owner) c.args.self.now.list) c.in_default.is)

pub returns-in_default-clause-acked : goal.returns-in_default-clause-acked
returns-in_default-clause-acked c = sym (ap (λ (o : Option (Key × Party)). c.args.self.now.acked ++ acks_of_opened o) c.in_default.is ∙ append-nil c.args.self.now.acked)

pub returns-in_default-clause-room : goal.returns-in_default-clause-room
returns-in_default-clause-room c = omega arith
