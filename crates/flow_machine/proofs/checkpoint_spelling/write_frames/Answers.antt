use Rattle.std.proofs.Common.{sym, subst}
use Rattle.std.specs.Arc.{arc_value}
use Rattle.flow_machine.proofs.Sharing.{seen_at}
use Rattle.flow_machine.proofs.checkpoint_spelling.write_frames.Goals as goal

pub write_part-requires : goal.write_part-requires
write_part-requires g c =
    let within = g.F.Spelt.within in
    subst within (sym c.deref.ensures) (seen_at (λ frame. arc_value frame) within c.args.frames.now c.loop-frame.frame-index c.frame-item.result c.loop-frame-test.true c.requires c.frame-item.is)
