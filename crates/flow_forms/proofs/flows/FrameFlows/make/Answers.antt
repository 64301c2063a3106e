use Rattle.std.proofs.Common.{subst}
use Rattle.net_base.specs.Reading.{IsBytes}
use Rattle.flow_forms.proofs.Given.{made_is}
use Rattle.flow_forms.proofs.flows.FrameFlows.make.Goals as goal

pub begin-requires : goal.begin-requires
begin-requires g c = (g.met.W.Begins.is_way.made c.args.class c.args.args.now c.args.here.now c.in_ok-fields.fields (made_is _ _ c.in_ok-fields.fields c.make.ensures c.in_ok-fields.was)).0 (subst IsBytes c.as_slice.ensures c.law_known_bytes.ensures) c.requires
