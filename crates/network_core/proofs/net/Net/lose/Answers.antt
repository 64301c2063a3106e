use Rattle.std.proofs.Common.{◌≡◌, ◌<◌, ◌∙◌, inl, inr, refl, sym, ap, arith, length, map, slice_get, Some}
use Rattle.std.proofs.lemmas.Option.{slice_get_read, slice_get-map}
use Rattle.std.specs.Option.{option_map}
use Rattle.waiting_frames.specs.Waiting.{WaitingSeen}
use Rattle.network_core.specs.Answers.{said}
use Rattle.network_core.proofs.Mailing.{map_set_same, parts_at, removed_is, without_none}
use Rattle.network_core.proofs.net.Net.lose.Goals.{in-Some, in-None}
use Rattle.network_core.proofs.net.Net.lose.Goals as goal

pub returns : goal.returns
returns g c =
    let items = c.self.inside.waiting.items in
    let p = c.args.place in
    let inside : p < length items = omega (arith, c.if-place-len.false, c.len.ensures, c.self.inside.waiting.ok.0) in
    let at = slice_get_read items (length items) p c.index_mut.result.now refl inside c.index_mut.ensures.value in
    let frames = c.index_mut.result.now.frames in
    let there : slice_get (map (λ (w : WaitingSeen). w.frames) items) p ≡ Some frames = slice_get-map (λ (w : WaitingSeen). w.frames) items p ∙ ap (λ o. option_map (λ (w : WaitingSeen). w.frames) o) at in
    let gone = c.remove.ensures.frames ∙ removed_is frames c.args.at in
    rw (← c.self.view_is)
    (inr (
      frames,
      there,
      elim c.match-remove.branch [
        | in-Some w ↦ inr (w.in-Some.field-0, sym c.remove.ensures.frame ∙ w.in-Some.is, ap said w.result-is, ap (λ l. record { nodes = c.self.inside.nodes.items; waiting = l; now = c.self.inside.now.0 }) (parts_at (λ (z : WaitingSeen). z.frames) items p c.args.at c.index_mut.result.now c.remove.new.self at gone))
        | in-None w ↦ inl (sym c.remove.ensures.frame ∙ w.in-None.is, ap said w.result-is, ap (λ l. record { nodes = c.self.inside.nodes.items; waiting = l; now = c.self.inside.now.0 }) (map_set_same (λ (z : WaitingSeen). z.frames) items p c.index_mut.result.now c.remove.new.self at (c.remove.ensures.frames ∙ without_none frames c.args.at (sym c.remove.ensures.frame ∙ w.in-None.is))))
      ],
    ))
