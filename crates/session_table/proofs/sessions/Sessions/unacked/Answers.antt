use Rattle.std.proofs.Common.{◌≡◌, ℕ, sym, ◌∙◌, ap, List, ◌++◌, get_or, append-nil}
use Rattle.std.specs.Prelude.{flat_map}
use Rattle.std.proofs.lemmas.Option.{slice_get-get_or}
use Rattle.std.proofs.lemmas.List.{drop_all}
use Rattle.session_table.specs.Tables.{unacked, unacked_at}
use Rattle.session_table.specs.declared.resent.Item.{Item}
use Rattle.session_table.proofs.Gathering.{gathered_is}
use Rattle.session_table.proofs.Resending.{appended}
use Rattle.session_table.proofs.sessions.Sessions.unacked.Goals as goal

pub loop-place-init : goal.loop-place-init
loop-place-init c =
    let s = c.self.inside in
    let t = c.args.self.now in
    let gathered : flat_map (unacked_at t.party t.list t.acked) c.in_ok-places.places.items ≡ unacked t.party t.list t.acked =
    ap (λ p. flat_map (unacked_at p.party p.list p.acked) c.in_ok-places.places.items) (sym c.self.view_is)
    ∙ gathered_is s.party s.lines.entries s.sent.entries s.came.entries c.self.invariant.0.sent_counted c.self.invariant.0.unique s.waiting.list c.in_ok-places.places.items c.self.invariant.2 c.in_ok-places.ensures
    ∙ ap (λ p. unacked p.party p.list p.acked) c.self.view_is in
    ap (λ (l : List Item). l ++ flat_map (unacked_at t.party t.list t.acked) c.deref-place-items.result.now) c.new-items.ensures.items
    ∙ ap (flat_map (unacked_at t.party t.list t.acked)) c.deref-place-items.ensures.value
    ∙ gathered

pub loop-place-preserved : goal.loop-place-preserved
loop-place-preserved c =
    let t = c.args.self.now in
    let places = c.deref-place-items.result.now in
    let n = c.loop-place.place-index in
    appended (unacked_at t.party t.list t.acked) places n (get_or places n 0) c.loop-place.items.items c.add_unacked.new.items.items _ (slice_get-get_or places n 0 c.loop-place-test.true) c.in_ok-add_unacked.ensures c.loop-place.invariant

pub returns : goal.returns
returns c =
    let t = c.args.self.now in
    let end = drop_all c.loop-place.place-index c.deref-place-items.result.now c.loop-place-test.false in
    c.from_vec.ensures
    ∙ sym (append-nil c.loop-place.items.items)
    ∙ ap (λ (l : List ℕ). c.loop-place.items.items ++ flat_map (unacked_at t.party t.list t.acked) l) (sym end)
    ∙ c.loop-place.invariant
