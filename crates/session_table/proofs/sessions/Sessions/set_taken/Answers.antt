use Rattle.std.proofs.Common.{sym, ◌∙◌, ap, arith, refl, Option, List}
use Rattle.session_wire.specs.declared.body.Body.{Body}
use Rattle.session_wire.specs.Sessions.{Session, with_taken, changed_at}
use Rattle.session_table.specs.Kept.{session_at, taken_to}
use Rattle.session_table.proofs.Found.{present}
use Rattle.session_table.proofs.Keeping.{kept_same}
use Rattle.session_table.proofs.Stepping.{list_set, acks_set, stands_at}
use Rattle.session_table.specs.Kept.{owner_of}
use Rattle.session_table.specs.Owned.{owners}
use Rattle.session_table.proofs.Owning.{map_rewritten}
use Rattle.session_table.proofs.Listing.{listed_same}
use Rattle.session_table.proofs.sessions.Sessions.set_taken.Goals as goal

pub invariant_of-self : goal.invariant_of-self
invariant_of-self c = let s = c.self.inside in (
  kept_same s.party s.opened s.lines.entries c.set_taken.new.lines.entries s.sent.entries s.came.entries c.args.key (taken_to c.args.taken c.ending_at-ending.result) (λ v. refl) (λ v. refl) c.self.invariant.0 c.set_taken.ensures.lines,
  c.self.invariant.1 ∙ sym (ap owners (map_rewritten owner_of c.args.key (taken_to c.args.taken c.ending_at-ending.result) s.lines.entries c.set_taken.new.lines.entries (λ q v. refl) c.set_taken.ensures.lines)),
  listed_same c.args.key (taken_to c.args.taken c.ending_at-ending.result) s.lines.entries c.set_taken.new.lines.entries s.waiting.list (λ q v. refl) c.set_taken.ensures.lines c.self.invariant.2,
)

pub returns-clause-party : goal.returns-clause-party
returns-clause-party c = ap (λ t. t.party) c.self.view_is

pub returns-clause-list : goal.returns-clause-list
returns-clause-list c =
    let s = c.self.inside in
    let same = ap (λ t. t.list) c.self.view_is in
    let at = stands_at s.sent.entries s.came.entries s.lines.entries c.args.self.now.list c.args.key same c.requires in
    let stands = present s.sent.entries s.came.entries s.lines.entries c.args.self.now.list c.args.key at.0 same at.1 in
    let ending = c.ending_at-ending.ensures (session_at s.sent.entries s.came.entries (c.args.key, at.0)) stands in
    list_set s.sent.entries s.came.entries s.lines.entries c.set_taken.new.lines.entries c.args.key (taken_to c.args.taken c.ending_at-ending.result) (with_taken c.args.taken) at.0 (ap (λ (e : Option Body). session_at s.sent.entries s.came.entries (c.args.key, taken_to c.args.taken e at.0)) ending) at.1 c.set_taken.ensures.lines
    ∙ ap (λ (l : List Session). changed_at c.args.key (with_taken c.args.taken) l) same

pub returns-clause-acked : goal.returns-clause-acked
returns-clause-acked c =
    let s = c.self.inside in
    let same = ap (λ t. t.list) c.self.view_is in
    let at = stands_at s.sent.entries s.came.entries s.lines.entries c.args.self.now.list c.args.key same c.requires in
    acks_set s.lines.entries c.set_taken.new.lines.entries c.args.key (taken_to c.args.taken c.ending_at-ending.result) at.0 (λ v. refl) at.1 c.set_taken.ensures.lines ∙ ap (λ t. t.acked) c.self.view_is

pub returns-clause-room : goal.returns-clause-room
returns-clause-room c = let room = ap (λ t. t.room) c.self.view_is in omega (arith, room, c.set_taken.ensures.room)
