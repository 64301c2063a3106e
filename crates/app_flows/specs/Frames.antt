-- The frames of the calls: the notary client, resolving and finality.
use Rattle.std.specs.Prelude.{List, [], true, false, refl}
use Rattle.std.proofs.Common.{arith}
use Rattle.net_base.specs.declared.names.Key.{Key}
use Rattle.net_base.specs.declared.values.Party.{Party}
use Rattle.ledger_types.specs.declared.notary.Request.{Request}
use Rattle.ledger_types.specs.declared.tx.SignedTx.{SignedTx}
use Rattle.ledger_types.specs.declared.tx.Tx.{Tx}
use Rattle.flow_forms.specs.declared.calls.Call.{Call}
use Rattle.flow_forms.specs.declared.calls.Call.TheVariants as call
use Rattle.flow_forms.specs.declared.forms.At.TheVariants as stands
use Rattle.flow_forms.specs.declared.forms.Sum.{Sum}
use Rattle.flow_forms.specs.Bytes.{placed}
use Rattle.flow_forms.specs.Frames.{Frame}
use Rattle.flow_forms.specs.Shared.{joined_pass}
use Rattle.shipped_flows.specs.declared.count.Count.{Count}
use Rattle.shipped_flows.specs.declared.count.CountPlace.{CountPlace}
use Rattle.shipped_flows.specs.declared.count.CountPlace.TheVariants.{Sleeping}
use Rattle.shipped_flows.specs.Count as count
use Rattle.shipped_flows.specs.Shipped.{calls_cost}
use Rattle.notary_flows.specs.declared.client.Client.{Client}
use Rattle.notary_flows.specs.declared.client.ClientPlace.{ClientPlace}
use Rattle.notary_flows.specs.Client as client
use Rattle.notary_flows.specs.ClientLaws as client_laws
use Rattle.resolve_flows.specs.declared.resolve.Resolve.{Resolve}
use Rattle.resolve_flows.specs.declared.resolve.ResolvePlace.{ResolvePlace}
use Rattle.resolve_flows.specs.Resolve as resolve
use Rattle.resolve_flows.specs.ResolveLaws as resolve_laws
use Rattle.finality_flows.specs.declared.finality.Finality.{Finality}
use Rattle.finality_flows.specs.declared.finality.FinalityPlace.{FinalityPlace}
use Rattle.finality_flows.specs.Finality as finality
use Rattle.finality_flows.specs.FinalityLaws as finality_laws
use Rattle.app_flows.specs.Opening.{OpensOf, see_by, called_opens}

-- ---- what a call calls

-- for a call that no machine makes there stands a counting flow that waits to wake
abbrev pub none : Frame CountPlace Count
none = record { at = stands.Asking Sleeping; fields = record { left = 0; all = 0 } }

-- the notary client of a request, before its first try
abbrev pub asks : Request → Frame ClientPlace Client
asks r = record { at = stands.Called; fields = client.fresh r }

-- resolving of a transaction in a session, before it asked
abbrev pub resolves : Key → SignedTx → Frame ResolvePlace Resolve
resolves k stx = record { at = stands.Called; fields = resolve.fresh k stx }

-- finality of a transaction without a tag, nobody asked or told
abbrev pub ends : Tx → List Party → Frame FinalityPlace Finality
ends tx peers = record { at = stands.Called; fields = finality.first tx peers }

-- the frame of each call
abbrev pub see : Call → Sum (Frame CountPlace Count) (Sum (Frame ClientPlace Client) (Sum (Frame ResolvePlace Resolve) (Frame FinalityPlace Finality)))
see = see_by none asks resolves ends

-- ---- its laws

pub none_opens : (c : Call) → OpensOf (placed false count.numbers) count.kept.within count.form c none
none_opens c = record { costs = calls_cost c; goes = refl; passes = λ test h. refl; limits = λ h. (refl, (omega arith, omega arith)) }

pub asks_opens : (r : Request) → OpensOf (placed true client_laws.numbers) client_laws.kept.within client.form (call.Client r) (asks r)
asks_opens r = called_opens (placed true client_laws.numbers) client_laws.kept.within client.form (call.Client r) (client.fresh r) refl (omega arith) (λ test h. h) (λ h. (h, (omega arith, (tt, tt))))

pub resolves_opens : (k : Key) (stx : SignedTx) → OpensOf (placed true resolve_laws.numbers) resolve_laws.kept.within resolve.form (call.Resolve k stx) (resolves k stx)
resolves_opens k stx = called_opens (placed true resolve_laws.numbers) resolve_laws.kept.within resolve.form (call.Resolve k stx) (resolve.fresh k stx) refl (omega arith) (λ test h. joined_pass test stx.tags [] h refl)
    (λ h. (h.0, (h.1, ((omega arith, tt), (omega arith, (omega arith, tt))))))

pub ends_opens : (tx : Tx) (peers : List Party) → OpensOf (placed true finality_laws.numbers) finality_laws.kept.within finality.form (call.Finality tx peers) (ends tx peers)
ends_opens tx peers = called_opens (placed true finality_laws.numbers) finality_laws.kept.within finality.form (call.Finality tx peers) (finality.first tx peers) refl (omega arith) (λ test h. refl) (finality_laws.call_fits tx peers)
