use Rattle.std.proofs.Common.{◌∙◌, sym}
use Rattle.flow_forms.proofs.flows.FrameFlows.initiated.Goals as goal

pub begin-requires : goal.begin-requires
begin-requires g c = (g.met.W.Begins.is_way.begun c.args.class c.args.key.now c.in-Some.fields (sym c.initiated.ensures ∙ c.in-Some.is)).0 c.requires
