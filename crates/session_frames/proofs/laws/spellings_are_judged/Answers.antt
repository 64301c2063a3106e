use Rattle.session_frames.proofs.Spelled.{spelled}
use Rattle.session_frames.proofs.laws.spellings_are_judged.Goals as goal

pub returns : goal.returns
returns c = spelled
