use Rattle.std.proofs.Common.{◌+◌}
use Rattle.std.proofs.lemmas.List.{get_or-drop}
use Rattle.net_base.proofs.reader.Reader.place.Goals as goal

pub returns-clause-bytes : goal.returns-clause-bytes
returns-clause-bytes c = λ i. rw (← c.self.view_is, get_or-drop) (c.self.invariant.1 (c.self.inside.place + i))
