use Rattle.std.proofs.Common.{◌+◌, sym, ◌∙◌, ap, subst, arith, refl, List, length, nat_lt, ◌^◌}
use Rattle.std.specs.List.{list_all}
use Rattle.std.proofs.lemmas.Bool.{and_parts, ltb-true}
use Rattle.net_base.specs.declared.values.Party.{Party}
use Rattle.session_wire.specs.declared.change.SentItem.{SentItem}
use Rattle.session_wire.specs.Sessions.{Session, sent_on}
use Rattle.session_wire.specs.Rules.{FitsSent}
use Rattle.session_table.proofs.Stepping.{no_items}
use Rattle.session_table.proofs.sessions.Sessions.send.Goals as goal

pub loop-item-init : goal.loop-item-init
loop-item-init c =
    let all = c.into_iter-item-iterator.ensures.into_iter_gives.0 ∙ c.into_vec-item-items.ensures in
    let size = ap length all in
    record {
      party = refl;
      fits = subst (λ (l : List SentItem). FitsSent c.args.self.now.party c.args.stamp c.args.self.now.list l) (sym all) c.requires.fits;
      list = ap (λ (l : List SentItem). sent_on c.args.stamp l c.args.self.now.list) all;
      acked = refl;
      enough = omega (arith, size, c.requires.room);
      room = omega (arith, size);
      few = ap (list_all (λ i. nat_lt (i.seq + 1) (2 ^ 32))) all ∙ c.requires.few;
    }

pub add_sent-requires-clause-continues : goal.add_sent-requires-clause-continues
add_sent-requires-clause-continues c =
    let steps = c.in-Some.ensures.steps.0 in
    let v = c.loop-item.invariant in
    let fits = subst (λ (l : List SentItem). FitsSent c.loop-item.self.party c.args.stamp c.loop-item.self.list l) steps v.fits in
    let few = and_parts (nat_lt (c.in-Some.item.seq + 1) (2 ^ 32)) (list_all (λ i. nat_lt (i.seq + 1) (2 ^ 32)) c.next.new.self.rest.items) (sym (ap (list_all (λ i. nat_lt (i.seq + 1) (2 ^ 32))) steps) ∙ v.few) in
    let one = ap length steps in
    fits.0

pub add_sent-requires-clause-room : goal.add_sent-requires-clause-room
add_sent-requires-clause-room c =
    let steps = c.in-Some.ensures.steps.0 in
    let v = c.loop-item.invariant in
    let fits = subst (λ (l : List SentItem). FitsSent c.loop-item.self.party c.args.stamp c.loop-item.self.list l) steps v.fits in
    let few = and_parts (nat_lt (c.in-Some.item.seq + 1) (2 ^ 32)) (list_all (λ i. nat_lt (i.seq + 1) (2 ^ 32)) c.next.new.self.rest.items) (sym (ap (list_all (λ i. nat_lt (i.seq + 1) (2 ^ 32))) steps) ∙ v.few) in
    let one = ap length steps in
    omega (arith, one, v.enough)

pub add_sent-requires-clause-few : goal.add_sent-requires-clause-few
add_sent-requires-clause-few c =
    let steps = c.in-Some.ensures.steps.0 in
    let v = c.loop-item.invariant in
    let fits = subst (λ (l : List SentItem). FitsSent c.loop-item.self.party c.args.stamp c.loop-item.self.list l) steps v.fits in
    let few = and_parts (nat_lt (c.in-Some.item.seq + 1) (2 ^ 32)) (list_all (λ i. nat_lt (i.seq + 1) (2 ^ 32)) c.next.new.self.rest.items) (sym (ap (list_all (λ i. nat_lt (i.seq + 1) (2 ^ 32))) steps) ∙ v.few) in
    let one = ap length steps in
    ltb-true _ _ few.0

pub loop-item-preserved : goal.loop-item-preserved
loop-item-preserved c =
    let steps = c.in-Some.ensures.steps.0 in
    let v = c.loop-item.invariant in
    let fits = subst (λ (l : List SentItem). FitsSent c.loop-item.self.party c.args.stamp c.loop-item.self.list l) steps v.fits in
    let few = and_parts (nat_lt (c.in-Some.item.seq + 1) (2 ^ 32)) (list_all (λ i. nat_lt (i.seq + 1) (2 ^ 32)) c.next.new.self.rest.items) (sym (ap (list_all (λ i. nat_lt (i.seq + 1) (2 ^ 32))) steps) ∙ v.few) in
    let one = ap length steps in
    record {
      party = c.add_sent.ensures.party ∙ v.party;
      fits = subst (λ (p : Party). FitsSent p c.args.stamp c.add_sent.new.self.list c.next.new.self.rest.items) (sym c.add_sent.ensures.party) (subst (λ (l : List Session). FitsSent c.loop-item.self.party c.args.stamp l c.next.new.self.rest.items) (sym c.add_sent.ensures.list) fits.1);
      list = ap (sent_on c.args.stamp c.next.new.self.rest.items) c.add_sent.ensures.list ∙ ap (λ (l : List SentItem). sent_on c.args.stamp l c.loop-item.self.list) (sym steps) ∙ v.list;
      acked = c.add_sent.ensures.acked ∙ v.acked;
      enough = omega (arith, one, v.enough, c.add_sent.ensures.room);
      room = omega (arith, one, v.room, c.add_sent.ensures.room);
      few = few.1;
    }

pub returns-clause-party : goal.returns-clause-party
returns-clause-party c = c.loop-item.invariant.party

pub returns-clause-list : goal.returns-clause-list
returns-clause-list c = sym (no_items c.args.stamp c.loop-item.item-iterator.rest.items c.loop-item.self.list (sym c.loop-item.item-iterator.rest.ok.0 ∙ c.in-None.ensures.steps.0)) ∙ c.loop-item.invariant.list

pub returns-clause-acked : goal.returns-clause-acked
returns-clause-acked c = c.loop-item.invariant.acked

pub returns-clause-room : goal.returns-clause-room
returns-clause-room c = omega (arith, c.loop-item.invariant.room)
