-- That the words of this crate are those of the network's definitions.
use Rattle.std.proofs.Common.{◌≡◌, true, false, Some, None, cond, refl, sym, ap}
use Rattle.std.specs.Prelude.{is_some}
use Rattle.session_wire.specs.Rules.{is_next}
use Rattle.net_model.specs.Environment.{party}
use Rattle.net_model.specs.State.{no_flow, Effect}
use Rattle.net_model.specs.Steps.{answering}
use Rattle.session_acts.specs.Parts.{AnswersAsMeant, ArrivesAsMeant, SoundSessions, answer_to, arrival}

pub answers_as_meant : (F : Type 0) → AnswersAsMeant F
answers_as_meant F = λ key f class init made. (elim made as (λ m. (answering key f class init m).change ≡ answer_to key init (is_some m)) [ Some x ↦ refl | None ↦ refl ])

pub arrives_as_meant : (F : Type 0) → ArrivesAsMeant F
arrives_as_meant F = λ me key direction number body session e h.
    (elim (is_next (party me) key direction number body session) as (λ b. cond b (Some (record { flow = no_flow; change = arrival body })) None ≡ Some e → e.change ≡ arrival body)
    [ true ↦ λ k. let one : record { flow = no_flow; change = arrival body } ≡ e = cc k in sym (ap (λ (x : Effect F). x.change) one) | false ↦ λ k. cc ]) h

pub sound_sessions : (F : Type 0) → SoundSessions F
sound_sessions F = λ p s h. record { begun = h.begun; counted = h.counted; keys = h.keys }
