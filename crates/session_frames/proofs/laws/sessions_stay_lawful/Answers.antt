use Rattle.session_frames.proofs.Stays.{arriving, sending, taking}
use Rattle.session_frames.proofs.laws.sessions_stay_lawful.Goals as goal

pub returns-clause-arrived : goal.returns-clause-arrived
returns-clause-arrived c = arriving

pub returns-clause-sent : goal.returns-clause-sent
returns-clause-sent c = sending

pub returns-clause-taken : goal.returns-clause-taken
returns-clause-taken c = taking
