use Rattle.std.proofs.Common.{◌≡◌, ℕ, sym, ◌∙◌, ap, subst, arith, refl, List, [], ◌∷◌, ◌++◌, map}
use Rattle.session_wire.specs.declared.body.Body.{Body}
use Rattle.session_wire.specs.Sessions.{Session, with_came, changed_at}
use Rattle.session_table.specs.Kept.{session_at, place_of, one_came, IsKept}
use Rattle.session_table.specs.declared.standing.Place.{Place}
use Rattle.session_table.proofs.Found.{present, count_is}
use Rattle.session_table.proofs.Items.{place_free}
use Rattle.session_table.proofs.Keeping.{kept_came}
use Rattle.session_table.proofs.Stepping.{list_came, acks_set, stands_at}
use Rattle.session_table.specs.Kept.{owner_of}
use Rattle.session_table.specs.Owned.{owners}
use Rattle.session_table.proofs.Owning.{map_rewritten}
use Rattle.session_table.proofs.Listing.{listed_same}
use Rattle.session_table.proofs.sessions.Sessions.add_came.Goals as goal

pub count_came-number-requires : goal.count_came-number-requires
count_came-number-requires c = λ v there.
    let s = c.self.inside in
    let same = ap (λ t. t.list) c.self.view_is in
    let stands = present s.sent.entries s.came.entries s.lines.entries c.args.self.now.list c.args.key v same there in
    let few = c.requires.few (session_at s.sent.entries s.came.entries (c.args.key, v)) stands in
    let count = count_is (λ v. v.came) s.lines.entries s.came.entries c.args.key v c.self.invariant.0.came_counted there in
    omega (arith, few, count)

pub put_item-requires-clause-room : goal.put_item-requires-clause-room
put_item-requires-clause-room c = let room = ap (λ t. t.room) c.self.view_is in omega (arith, room, c.requires.room)

pub put_item-requires-clause-free : goal.put_item-requires-clause-free
put_item-requires-clause-free c =
    let s = c.self.inside in
    let same = ap (λ t. t.list) c.self.view_is in
    let at = stands_at s.sent.entries s.came.entries s.lines.entries c.args.self.now.list c.args.key same c.requires.stands in
    place_free s.came.entries c.args.key c.count_came-number.result c.self.invariant.0.came_numbered (c.count_came-number.ensures.number at.0 at.1 ∙ sym (count_is (λ v. v.came) s.lines.entries s.came.entries c.args.key at.0 c.self.invariant.0.came_counted at.1))

pub invariant_of-self : goal.invariant_of-self
invariant_of-self c =
    let s = c.self.inside in
    let same = ap (λ t. t.list) c.self.view_is in
    let at = stands_at s.sent.entries s.came.entries s.lines.entries c.args.self.now.list c.args.key same c.requires.stands in
    let entries : c.put_item.new.items.entries ≡ s.came.entries ++ (place_of c.args.key at.0.came, c.args.body) ∷ [] = c.put_item.ensures.entries ∙ ap (λ (n : ℕ). s.came.entries ++ (place_of c.args.key n, c.args.body) ∷ []) (c.count_came-number.ensures.number at.0 at.1) in (
      subst (λ (l : List (Place × Body)). IsKept s.party s.opened c.count_came-number.new.lines.entries s.sent.entries l) (sym entries) (kept_came s.party s.opened s.lines.entries c.count_came-number.new.lines.entries s.sent.entries s.came.entries c.args.key at.0 c.args.body c.self.invariant.0 at.1 c.count_came-number.ensures.lines),
      c.self.invariant.1 ∙ sym (ap owners (map_rewritten owner_of c.args.key one_came s.lines.entries c.count_came-number.new.lines.entries (λ q v. refl) c.count_came-number.ensures.lines)),
      listed_same c.args.key one_came s.lines.entries c.count_came-number.new.lines.entries s.waiting.list (λ q v. refl) c.count_came-number.ensures.lines c.self.invariant.2,
    )

pub returns-clause-party : goal.returns-clause-party
returns-clause-party c = ap (λ t. t.party) c.self.view_is

pub returns-clause-list : goal.returns-clause-list
returns-clause-list c =
    let s = c.self.inside in
    let same = ap (λ t. t.list) c.self.view_is in
    let at = stands_at s.sent.entries s.came.entries s.lines.entries c.args.self.now.list c.args.key same c.requires.stands in
    ap (λ (l : List (Place × Body)). map (session_at s.sent.entries l) c.count_came-number.new.lines.entries) c.put_item.ensures.entries
    ∙ list_came s.sent.entries s.came.entries s.lines.entries c.count_came-number.new.lines.entries c.args.key c.count_came-number.result c.args.body at.0 at.1 c.count_came-number.ensures.lines
    ∙ ap (λ (l : List Session). changed_at c.args.key (with_came (c.args.body ∷ [])) l) same

pub returns-clause-acked : goal.returns-clause-acked
returns-clause-acked c =
    let s = c.self.inside in
    let same = ap (λ t. t.list) c.self.view_is in
    let at = stands_at s.sent.entries s.came.entries s.lines.entries c.args.self.now.list c.args.key same c.requires.stands in
    acks_set s.lines.entries c.count_came-number.new.lines.entries c.args.key one_came at.0 (λ v. refl) at.1 c.count_came-number.ensures.lines ∙ ap (λ t. t.acked) c.self.view_is

pub returns-clause-room : goal.returns-clause-room
returns-clause-room c = let room = ap (λ t. t.room) c.self.view_is in omega (arith, room, c.count_came-number.ensures.room, c.put_item.ensures.room)
