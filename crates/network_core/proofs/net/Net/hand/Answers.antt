use Rattle.std.proofs.Common.{◌≡◌, ◌<◌, inl, inr, refl, sym, ◌∙◌, ap, arith, length, map, slice_get, Some, None}
use Rattle.std.specs.Option.{option_map}
use Rattle.std.proofs.lemmas.Option.{slice_get_read, slice_get_past, slice_get-map}
use Rattle.std.proofs.lemmas.Grind.{common_steps}
use Rattle.net_base.proofs.Lists.{get_below}
use Rattle.waiting_frames.specs.Waiting.{WaitingSeen}
use Rattle.network_core.specs.Worlds.{NetSeen}
use Rattle.network_core.proofs.net.Net.hand.Goals as goal

pub returns-then-not-is_up : goal.returns-then-not-is_up
returns-then-not-is_up g c =
    let items = c.self.inside.nodes.items in
    let lists = c.self.inside.waiting.items in
    let p = c.args.place in
    let inside : p < length items = omega (arith, c.if-place-len.false, c.len.ensures, c.self.inside.nodes.ok.0) in
    let within : p < length lists = omega (arith, inside, c.self.invariant.4) in
    let at = slice_get_read items (length items) p c.index.result.now refl inside c.index.ensures in
    let found = get_below lists p within in
    let there : slice_get (map (λ (w : WaitingSeen). w.frames) lists) p ≡ Some found.0.frames = slice_get-map (λ (w : WaitingSeen). w.frames) lists p ∙ ap (λ o. option_map (λ (w : WaitingSeen). w.frames) o) found.1 in
    let down : c.index.result.now.journal ≡ None = grind (arith, common_steps, c.is_up.ensures, c.if-not-is_up.true) in
    rw (← c.self.view_is) (inr (c.index.result.now, found.0.frames, at, there, inl (down, refl, refl)))

pub returns-then-at-len : goal.returns-then-at-len
returns-then-at-len g c =
    let items = c.self.inside.nodes.items in
    let lists = c.self.inside.waiting.items in
    let p = c.args.place in
    let inside : p < length items = omega (arith, c.if-place-len.false, c.len.ensures, c.self.inside.nodes.ok.0) in
    let within : p < length lists = omega (arith, inside, c.self.invariant.4) in
    let at = slice_get_read items (length items) p c.index.result.now refl inside c.index.ensures in
    let here = slice_get_read lists (length lists) p c.index-2.result.now refl within c.index-2.ensures in
    let there : slice_get (map (λ (w : WaitingSeen). w.frames) lists) p ≡ Some c.index-2.result.now.frames = slice_get-map (λ (w : WaitingSeen). w.frames) lists p ∙ ap (λ o. option_map (λ (w : WaitingSeen). w.frames) o) here in
    let none = slice_get_past c.index-2.result.now.frames c.args.at (omega (arith, c.if-at-len.true, c.len-2.ensures)) in
    rw (← c.self.view_is) (inr (c.index.result.now, c.index-2.result.now.frames, at, there, inr (c.is_up.ensures.0 c.if-not-is_up.false, inl (none, refl, refl))))

pub hand_over-requires-clause-node : goal.hand_over-requires-clause-node
hand_over-requires-clause-node g c =
    let items = c.self.inside.nodes.items in
    let lists = c.self.inside.waiting.items in
    let p = c.args.place in
    let inside : p < length items = omega (arith, c.if-place-len.false, c.len.ensures, c.self.inside.nodes.ok.0) in
    let within : p < length lists = omega (arith, inside, c.self.invariant.4) in
    let at = slice_get_read items (length items) p c.index.result.now refl inside c.index.ensures in
    (c.index.result.now, ap (λ (z : NetSeen). slice_get z.nodes p) (sym c.self.view_is) ∙ at, c.is_up.ensures.0 c.if-not-is_up.false)

pub hand_over-requires-clause-frame : goal.hand_over-requires-clause-frame
hand_over-requires-clause-frame g c =
    let items = c.self.inside.nodes.items in
    let lists = c.self.inside.waiting.items in
    let p = c.args.place in
    let inside : p < length items = omega (arith, c.if-place-len.false, c.len.ensures, c.self.inside.nodes.ok.0) in
    let within : p < length lists = omega (arith, inside, c.self.invariant.4) in
    let at = slice_get_read items (length items) p c.index.result.now refl inside c.index.ensures in
    let here = slice_get_read lists (length lists) p c.index-2.result.now refl within c.index-2.ensures in
    let there : slice_get (map (λ (w : WaitingSeen). w.frames) lists) p ≡ Some c.index-2.result.now.frames = slice_get-map (λ (w : WaitingSeen). w.frames) lists p ∙ ap (λ o. option_map (λ (w : WaitingSeen). w.frames) o) here in
    (c.index-2.result.now.frames, ap (λ (z : NetSeen). slice_get z.waiting p) (sym c.self.view_is) ∙ there, omega (arith, c.if-at-len.false, c.len-2.ensures))
