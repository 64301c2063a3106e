use Rattle.std.proofs.Common.{◌≡◌, ℕ, sym, ◌∙◌, ap, subst, arith, Some, Option, List, ◌++◌, is_some}
use Rattle.net_base.specs.declared.names.Key.{Key}
use Rattle.net_base.specs.declared.values.Party.{Party}
use Rattle.session_wire.specs.Sessions.{Session, session_of, opened_on, sent_on, taken_on}
use Rattle.session_wire.specs.Rules.{opened_by, FitsSent, FitsTaken}
use Rattle.session_table.specs.Changes.{came_on, acks_of_opened, FitsOpened, begun_on, answered_for}
use Rattle.session_table.proofs.Stepping.{opened_came, opens_next, few_acks, few_opened, stands_sent}
use Rattle.session_table.proofs.Fitting.{stands_begun}
use Rattle.session_table.proofs.sessions.Sessions.apply.Goals as goal

pub accept-requires-clause-fits : goal.accept-requires-clause-fits
accept-requires-clause-fits c = (c.args.change, c.requires.fits.came)

pub accept-requires-clause-room : goal.accept-requires-clause-room
accept-requires-clause-room c = omega (arith, c.requires.room)

pub accept-requires-clause-few : goal.accept-requires-clause-few
accept-requires-clause-few c = omega (arith, c.requires.few_sessions)

pub accept-requires-clause-few_came : goal.accept-requires-clause-few_came
accept-requires-clause-few_came c = c.requires.few_came

pub open-requires-clause-fits : goal.open-requires-clause-fits
open-requires-clause-fits c =
    let me = c.args.self.now.party in
    let list = c.args.self.now.list in
    let same = ap (opened_by me) c.accept.ensures.list ∙ opened_came me c.args.change c.args.change.came_key c.args.change.came c.owner_of_answer-owner.result list c.requires.fits.came in
    (c.args.change.sent, subst (λ (p : Party). FitsOpened p c.accept.new.self.list c.args.change.sent c.args.change.opened) (sym c.accept.ensures.party) (opens_next me list c.accept.new.self.list c.args.change.sent c.args.change.opened same c.requires.fits.opened))

pub open-requires-clause-room : goal.open-requires-clause-room
open-requires-clause-room c = let few = few_acks c.args.change.came_key c.args.change.came in omega (arith, few, c.accept.ensures.room, c.requires.room)

pub open-requires-clause-few : goal.open-requires-clause-few
open-requires-clause-few c = omega (arith, c.accept.ensures.few, c.requires.few_sessions)

pub send-requires-clause-fits : goal.send-requires-clause-fits
send-requires-clause-fits c =
    let owner = c.owner_of_answer-owner.ensures ∙ ap (answered_for c.args.change.owner) c.as_slice.ensures in
    let came = c.accept.ensures.list ∙ ap (λ (o : Option ℕ). came_on c.args.change.came_key c.args.change.came o c.args.self.now.list) owner in
    let begun : c.open.new.self.list ≡ begun_on c.args.change c.args.self.now.list = c.open.ensures.list ∙ ap (opened_on c.args.change.opened (Some c.args.change.owner)) came in
    subst (λ (p : Party). FitsSent p c.args.stamp c.open.new.self.list c.args.change.sent) (sym (c.open.ensures.party ∙ c.accept.ensures.party)) (subst (λ (l : List Session). FitsSent c.args.self.now.party c.args.stamp l c.args.change.sent) (sym begun) c.requires.fits.sent)

pub send-requires-clause-room : goal.send-requires-clause-room
send-requires-clause-room c =
    let few = few_acks c.args.change.came_key c.args.change.came in
    let one = few_opened c.args.change.opened in
    omega (arith, few, one, c.accept.ensures.room, c.open.ensures.room, c.requires.room)

pub send-requires-clause-few : goal.send-requires-clause-few
send-requires-clause-few c = c.requires.few_sent

pub take-requires : goal.take-requires
take-requires c = λ key n is.
    let owner = c.owner_of_answer-owner.ensures ∙ ap (answered_for c.args.change.owner) c.as_slice.ensures in
    let came = c.accept.ensures.list ∙ ap (λ (o : Option ℕ). came_on c.args.change.came_key c.args.change.came o c.args.self.now.list) owner in
    let begun : c.open.new.self.list ≡ begun_on c.args.change c.args.self.now.list = c.open.ensures.list ∙ ap (opened_on c.args.change.opened (Some c.args.change.owner)) came in
    let taken = subst (λ (o : Option (Key × ℕ)). FitsTaken c.args.self.now.list o) is c.requires.fits.taken in
    ap (λ (l : List Session). is_some (session_of key l)) c.send.ensures.list ∙ stands_sent key c.args.stamp c.args.change.sent c.open.new.self.list ∙ ap (λ (l : List Session). is_some (session_of key l)) begun
    ∙ stands_begun key c.args.change c.args.self.now.list taken.session taken.stands

pub returns-clause-party : goal.returns-clause-party
returns-clause-party c = c.take.ensures.party ∙ c.send.ensures.party ∙ c.open.ensures.party ∙ c.accept.ensures.party

pub returns-clause-list : goal.returns-clause-list
returns-clause-list c =
    let owner = c.owner_of_answer-owner.ensures ∙ ap (answered_for c.args.change.owner) c.as_slice.ensures in
    let came = c.accept.ensures.list ∙ ap (λ (o : Option ℕ). came_on c.args.change.came_key c.args.change.came o c.args.self.now.list) owner in
    let begun : c.open.new.self.list ≡ begun_on c.args.change c.args.self.now.list = c.open.ensures.list ∙ ap (opened_on c.args.change.opened (Some c.args.change.owner)) came in
    c.take.ensures.list ∙ ap (taken_on c.args.change.taken) (c.send.ensures.list ∙ ap (sent_on c.args.stamp c.args.change.sent) begun)

pub returns-clause-acked : goal.returns-clause-acked
returns-clause-acked c = c.take.ensures.acked ∙ c.send.ensures.acked ∙ c.open.ensures.acked ∙ ap (λ (l : List ℕ). l ++ acks_of_opened c.args.change.opened) c.accept.ensures.acked

pub returns-clause-room : goal.returns-clause-room
returns-clause-room c =
    let few = few_acks c.args.change.came_key c.args.change.came in
    let one = few_opened c.args.change.opened in
    omega (arith, few, one, c.accept.ensures.room, c.open.ensures.room, c.send.ensures.room, c.take.ensures.room)
