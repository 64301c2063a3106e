use Rattle.flow_forms.proofs.Again.{begins_again}
use Rattle.flow_forms.proofs.words.begins_by_its_words.Goals as goal

pub returns : goal.returns
returns g c = begins_again g.S.Worded.name g.S.Worded.CLASS g.S.Args.Arguments.most g.S.Args.Arguments.worded g.S.Args.Spelt.spelling g.S.Args.Spelt.reading g.S.Worded.begins g.met.S.Args.Spelt.laws g.met.S.Args.Arguments.worded_within g.met.S.Args.Arguments.few g.met.S.Worded.args_fit
