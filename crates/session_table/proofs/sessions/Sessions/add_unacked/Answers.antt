use Rattle.std.proofs.Common.{◌≡◌, ℕ, sym, ◌∙◌, ap, refl, Option, Some, None, List, [], drop, slice_get, ◌++◌, append-nil}
use Rattle.std.specs.Prelude.{zip}
use Rattle.std.proofs.lemmas.List.{length-map}
use Rattle.session_table.specs.Kept.{session_at}
use Rattle.std.specs.Option.{option_map_or}
use Rattle.std.proofs.lemmas.Result.{on_ok_weaker}
use Rattle.session_wire.specs.Sessions.{Session}
use Rattle.session_table.specs.Tables.{items_from, unacked_at, unacked_in}
use Rattle.session_table.specs.declared.resent.Item.{Item}
use Rattle.session_table.proofs.Found.{present, count_is}
use Rattle.session_table.proofs.Resending.{no_pair, pair_at, unacked_is}
use Rattle.session_table.proofs.sessions.Sessions.add_unacked.Goals as goal

pub add_sent_items-requires : goal.add_sent_items-requires
add_sent_items-requires c =
    let s = c.self.inside in
    let key = c.in-Some.key.now in
    let v = c.in-Some.standing.now in
    let there = sym c.in-Some.ensures.value in
    let found = present s.sent.entries s.came.entries s.lines.entries c.args.self.now.list key v (ap (λ t. t.list) c.self.view_is) there in
    (session_at s.sent.entries s.came.entries (key, v), found, refl, length-map _ _ ∙ count_is (λ v. v.sent) s.lines.entries s.sent.entries key v c.self.invariant.0.sent_counted there)

pub returns-in-Some : goal.returns-in-Some
returns-in-Some c =
    let s = c.self.inside in
    let key = c.in-Some.key.now in
    let v = c.in-Some.standing.now in
    let session = session_at s.sent.entries s.came.entries (key, v) in
    let found = present s.sent.entries s.came.entries s.lines.entries c.args.self.now.list key v (ap (λ t. t.list) c.self.view_is) (sym c.in-Some.ensures.value) in
    let pair : slice_get (zip c.args.self.now.list c.args.self.now.acked) c.args.place ≡ Some (session, v.acked) = sym (ap (λ t. slice_get (zip t.list t.acked) c.args.place) c.self.view_is) ∙ pair_at (session_at s.sent.entries s.came.entries) (λ e. e.1.acked) s.lines.entries c.args.place (key, v) (sym c.in-Some.ensures.entry) in
    let items : items_from c.args.self.now.party session v.acked (drop v.acked session.sent) ≡ unacked_at c.args.self.now.party c.args.self.now.list c.args.self.now.acked c.args.place = unacked_is c.args.self.now.party session v.acked ∙ ap (λ (o : Option (Session × ℕ)). option_map_or (unacked_in c.args.self.now.party) o []) (sym pair) in
    on_ok_weaker c.add_sent_items.result (λ h. h session found ∙ ap (λ (l : List Item). c.args.items.now.items ++ l) items) c.add_sent_items.ensures

pub returns-in-None : goal.returns-in-None
returns-in-None c =
    let s = c.self.inside in
    let none : slice_get (zip c.args.self.now.list c.args.self.now.acked) c.args.place ≡ None = sym (ap (λ t. slice_get (zip t.list t.acked) c.args.place) c.self.view_is) ∙ no_pair (session_at s.sent.entries s.came.entries) (λ e. e.1.acked) s.lines.entries c.args.place (sym c.in-None.ensures.entry) in
    sym (append-nil c.args.items.now.items) ∙ ap (λ (o : Option (Session × ℕ)). c.args.items.now.items ++ option_map_or (unacked_in c.args.self.now.party) o []) (sym none)
