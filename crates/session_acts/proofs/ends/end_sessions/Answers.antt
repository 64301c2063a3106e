use Rattle.std.proofs.Common.{◌≡◌, ◌+◌, sym, ◌∙◌, ap, subst, arith, length}
use Rattle.std.specs.List.{AllByRecursion}
use Rattle.session_wire.specs.Bodies.{IsBody}
use Rattle.transition_record.specs.Changes.{IsSentItem}
use Rattle.std.specs.Prelude.{is_some}
use Rattle.std.proofs.lemmas.List.{length-map}
use Rattle.session_wire.specs.Rules.{sessions_of, item_on}
use Rattle.net_model.specs.State.{nothing}
use Rattle.session_acts.proofs.Fitting.{ending_made}
use Rattle.session_acts.proofs.Limits.{sending_within, all_more, key_within}
use Rattle.session_acts.proofs.Owning.{found_nth, there_nth, told_more, told_all}
use Rattle.session_acts.proofs.ends.end_sessions.Goals as goal

pub unwrap-key-requires : goal.unwrap-key-requires
unwrap-key-requires c = ap is_some c.of_flow.ensures ∙ there_nth c.args.flow c.loop-place.place c.args.sessions.now.list (omega (arith, c.count_of_flow-place-end.ensures, c.loop-place-test.true))

pub item_on-item-requires : goal.item_on-item-requires
item_on-item-requires c =
    let found = found_nth c.args.flow c.loop-place.place c.args.sessions.now.list c.unwrap-key.result c.requires.keys (sym c.unwrap-key.ensures ∙ c.of_flow.ensures) in
    ap is_some found.1

pub loop-place-preserved : goal.loop-place-preserved
loop-place-preserved c =
    let list = c.args.sessions.now.list in
    let me = c.args.identity.now.party in
    let found = found_nth c.args.flow c.loop-place.place list c.unwrap-key.result c.requires.keys (sym c.unwrap-key.ensures ∙ c.of_flow.ensures) in
    let told = told_more (λ s. item_on me s c.args.last.now) (sessions_of c.args.flow list) c.loop-place.place found.0 c.loop-place.items.items c.push.new.self.items c.item_on-item.result c.in_ok-push.ensures.items (c.item_on-item.ensures.item found.0 found.1 ∙ ap (item_on me found.0) c.in_ok-copy.ensures) found.2 c.loop-place.invariant.told in
    record {
      told = told;
      within = λ keys last. all_more c.loop-place.items.items c.push.new.self.items c.item_on-item.result c.in_ok-push.ensures.items (c.loop-place.invariant.within keys last)
          (c.item_on-item.ensures.limits (key_within list c.unwrap-key.result found.0 keys found.1) (subst IsBody (sym c.in_ok-copy.ensures) last));
    }

pub returns-clause-change : goal.returns-clause-change
returns-clause-change c =
    let list = c.args.sessions.now.list in
    let me = c.args.identity.now.party in
    let all = told_all (λ s. item_on me s c.args.last.now) (sessions_of c.args.flow list) c.loop-place.place c.loop-place.items.items (omega (arith, c.count_of_flow-place-end.ensures, c.loop-place-test.false)) c.loop-place.invariant.told in
    λ i. record nothing { sent = (c.from_vec.ensures ∙ all) i }

pub returns-clause-fits : goal.returns-clause-fits
returns-clause-fits c = λ stamp sound last.
    let list = c.args.sessions.now.list in
    let me = c.args.identity.now.party in
    let all = told_all (λ s. item_on me s c.args.last.now) (sessions_of c.args.flow list) c.loop-place.place c.loop-place.items.items (omega (arith, c.count_of_flow-place-end.ensures, c.loop-place-test.false)) c.loop-place.invariant.told in
    ending_made me stamp list c.args.flow c.args.last.now c.from_vec.result sound last (c.from_vec.ensures ∙ all)

pub returns-clause-limits : goal.returns-clause-limits
returns-clause-limits c = λ keys few last.
    let list = c.args.sessions.now.list in
    let me = c.args.identity.now.party in
    let all = told_all (λ s. item_on me s c.args.last.now) (sessions_of c.args.flow list) c.loop-place.place c.loop-place.items.items (omega (arith, c.count_of_flow-place-end.ensures, c.loop-place-test.false)) c.loop-place.invariant.told in
    let count : length c.from_vec.result ≡ length (sessions_of c.args.flow list) = ap length (c.from_vec.ensures ∙ all) ∙ length-map (sessions_of c.args.flow list) (λ s. item_on me s c.args.last.now) in
    sending_within c.args.flow c.from_vec.result (omega (arith, count, few)) (subst (AllByRecursion IsSentItem) (sym c.from_vec.ensures) (c.loop-place.invariant.within keys last))

pub returns-clause-room : goal.returns-clause-room
returns-clause-room c =
    let list = c.args.sessions.now.list in
    let me = c.args.identity.now.party in
    let all = told_all (λ s. item_on me s c.args.last.now) (sessions_of c.args.flow list) c.loop-place.place c.loop-place.items.items (omega (arith, c.count_of_flow-place-end.ensures, c.loop-place-test.false)) c.loop-place.invariant.told in
    let count : length c.from_vec.result ≡ length (sessions_of c.args.flow list) = ap length (c.from_vec.ensures ∙ all) ∙ length-map (sessions_of c.args.flow list) (λ s. item_on me s c.args.last.now) in
    ap (λ n. n + 3) count
