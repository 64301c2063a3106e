-- The names that the definitions of a machine use.
pub use Rattle.flow_machine.specs.declared.acts.Place.{Place}
pub use Rattle.flow_machine.specs.declared.acts.Resumed.{Resumed}
pub use Rattle.flow_forms.specs.Forms.{Form, unnamed, Owes, IsForm}
pub use Rattle.flow_forms.specs.FormLaws.{Way, IsWay, unnamed_owes}
pub use Rattle.flow_forms.specs.Bytes.{Numbers, IsAt, places_of}
pub use Rattle.flow_forms.specs.Shared.{raised, tags_in, owes_if, joined_pass, parts_pass, needs, needs_owes, Keeps, same, fails_owes, stops_owes, is_peer, peer_is_party, there_within}
pub use Rattle.flow_forms.specs.Calls.{price, load_of, is_asking}
pub use Rattle.flow_forms.specs.Ways.{BeginsWithin, AnswersWithin, if_some}
pub use Rattle.flow_forms.specs.Kept.{Kept, kept_as, before, option_field, u16_field, u32_field, u64_field, party_field, key_field}
pub use Rattle.net_base.specs.declared.values.Party.{Party}
pub use Rattle.net_base.specs.declared.names.Key.{Key}
pub use Rattle.net_base.specs.Names.{IsKey}
pub use Rattle.std.proofs.Common.{arith, subst}
pub use Rattle.std.proofs.lemmas.Bool.{eqb-false, leb-true, and_parts}
