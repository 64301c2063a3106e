-- What a node has recorded and booked has its lengths, whatever numbers its journal is of.
use Rattle.std.proofs.Common.{◌≡◌, ℕ, List, [], ◌∷◌, ◌++◌, length, Option, Some, None, nat_le, option_and_then, option_to_list, refl}
use Rattle.std.specs.Prelude.{IfSome}
use Rattle.std.specs.List.{AllByRecursion}
use Rattle.net_base.proofs.Lists.{all_append}
use Rattle.transition_record.specs.Records.{record_at}
use Rattle.flow_records.specs.Records.{whole, flow_part, record_over, record_of}
use Rattle.net_model.specs.State.{NodeState, Change, Record, apply_effect, fresh, replay, replay_from}
use Rattle.net_model.proofs.Basics.{from_map, from_then, from_cond}
use Rattle.node_tables.specs.Journals.{Reads, records_of}
use Rattle.ledger_laws.proofs.Reading.{HasFewOutputs, IsSizedEntry, record_reads, whole_reads}

-- what a change records and books
abbrev Within : Change → Type 0
Within c = IfSome c.recorded HasFewOutputs × IfSome c.booked IsSizedEntry

module _ {F : Type 0} (frame_at : Reads F) where
  record_within : (body : List ℕ) (r : Record F) → record_of frame_at body ≡ Some r → Within r.effect.change
  unfolding record_of
  record_within body r is =
      from_cond (Within r.effect.change) (nat_le (length body) 524288) (option_and_then (λ x. record_over frame_at x.cause x.effect) (whole (record_at body))) r is (λ few over.
      from_then (Within r.effect.change) (λ x. record_over frame_at x.cause x.effect) (whole (record_at body)) r over (λ x reads made.
      let sized = whole_reads record_reads body x reads in
      from_map (λ (y : Record F). Within y.effect.change) _ (flow_part frame_at x.effect.flow) r made (λ flow part. sized)))

  all_within : (bodies : List (List ℕ)) → AllByRecursion (λ (r : Record F). Within r.effect.change) (records_of frame_at bodies)
  all_within [] = tt
  all_within (body ∷ bodies) = all_append (λ (r : Record F). Within r.effect.change) (option_to_list (record_of frame_at body)) (records_of frame_at bodies) (by (record_of frame_at body) refl) (all_within bodies)
    where
      by : (o : Option (Record F)) → record_of frame_at body ≡ o → AllByRecursion (λ (r : Record F). Within r.effect.change) (option_to_list o)
      by None is = tt
      by (Some r) is = (record_within body r is, tt)

-- a node whose recorded transactions and booked entries have their lengths
pub record IsWithin {F : Type 0} (s : NodeState F) : Type 0 where
  pub stored : AllByRecursion HasFewOutputs s.stored
  pub entries : AllByRecursion IsSizedEntry s.entries

one_more : {X : Type 0} (P : X → Type 0) (xs : List X) (o : Option X) → AllByRecursion P xs → IfSome o P → AllByRecursion P (xs ++ option_to_list o)
one_more P xs None all h = all_append P xs [] all tt
one_more P xs (Some x) all h = all_append P xs (x ∷ []) all (h, tt)

module _ {F : Type 0} where
  after_within : (s : NodeState F) (r : Record F) → IsWithin s → Within r.effect.change → IsWithin (apply_effect s r.cause r.effect)
  unfolding apply_effect
  after_within s r is more = record { stored = one_more HasFewOutputs s.stored r.effect.change.recorded is.stored more.0; entries = one_more IsSizedEntry s.entries r.effect.change.booked is.entries more.1 }

  replay_within : (s : NodeState F) (rs : List (Record F)) → IsWithin s → AllByRecursion (λ (r : Record F). Within r.effect.change) rs → IsWithin (replay_from s rs)
  replay_within s [] is all = is
  replay_within s (r ∷ rs) is all = replay_within (apply_effect s r.cause r.effect) rs (after_within s r is all.0) all.1

  pub state_within : (frame_at : Reads F) (bodies : List (List ℕ)) → IsWithin (replay (records_of frame_at bodies))
  unfolding replay
  state_within frame_at bodies = replay_within fresh (records_of frame_at bodies) (record { stored = tt; entries = tt }) (all_within frame_at bodies)
