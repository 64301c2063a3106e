-- What is said of the spelling of a frame.
use Rattle.std.proofs.Common.{◌≡◌, ℕ, List, [], ◌++◌, refl, ap, sym, ◌∙◌}
use Rattle.net_base.specs.Laws.{cancels}
use Rattle.net_base.specs.declared.names.Identity.{Identity}
use Rattle.session_wire.specs.Frames.{IsFrame, frame, frame_laws}
use Rattle.session_wire.specs.Sessions.{Session}
use Rattle.session_wire.specs.declared.frame.Frame.{Frame}
use Rattle.session_frames.specs.declared.judged.Judged.{Judged}
use Rattle.session_frames.specs.declared.judged.Judged.TheVariants.{Garbled}
use Rattle.session_frames.specs.Judging.{judge, JudgesFrame}
use Rattle.session_frames.specs.Agreement.{SpellingsAreJudged}

of_frame : (node : Identity) (sessions : List Session) (f : Frame) (judged : Judged) → IsFrame f → JudgesFrame node sessions (frame f) judged → judged ≡ judge node sessions f
of_frame node sessions f judged lawful told =
    let same : f ≡ told.0 = (cancels frame_laws f told.0 [] [] lawful told.1 (ap (λ (l : List ℕ). l ++ []) told.2)).0 in
    told.3 ∙ ap (judge node sessions) (sym same)

pub spelled : SpellingsAreJudged
spelled node sessions f Garbled lawful told = absurd (told f lawful refl)
spelled node sessions f other lawful told = of_frame node sessions f other lawful told
