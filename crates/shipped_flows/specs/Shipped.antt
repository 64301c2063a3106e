-- The flow set of the four machines: counting, ping, probe and echo.
use Rattle.std.specs.Prelude.{ℕ, ◌≤◌, ◌^◌, false, List, [], ◌∷◌, ◌++◌, Result, codes}
use Rattle.std.proofs.Common.{arith}
use Rattle.std.specs.Int.{w16, w32}
use Rattle.net_base.specs.Reading.{number}
use Rattle.net_base.specs.Forms.{byte_at, number_at}
use Rattle.net_base.specs.Combining.{mapped_at, pair_at}
use Rattle.flow_machine.specs.Machine.{Machine}
use Rattle.flow_forms.specs.declared.arguments.End.{End}
use Rattle.flow_forms.specs.declared.arguments.Then.{Then}
use Rattle.flow_forms.specs.declared.calls.Call.{Call}
use Rattle.flow_forms.specs.declared.calls.Call.TheVariants as call
use Rattle.flow_forms.specs.Calls.{call_weight}
use Rattle.flow_forms.specs.Arguments.{word_below, no_words, then_words, then_of, end_at}
use Rattle.flow_forms.specs.Ways.{by_words, by_init}
use Rattle.flow_forms.specs.FormLaws.{Way, part_of}
use Rattle.flow_forms.specs.Parts.{Part}
use Rattle.flow_forms.specs.Sums.{sum}
use Rattle.flow_forms.specs.Bytes.{Numbers, placed, content_of, body_of}
use Rattle.flow_forms.specs.Kept.{Kept}
use Rattle.flow_forms.specs.Closing.{closed}
use Rattle.shipped_flows.specs.Count as count
use Rattle.shipped_flows.specs.Ping as ping
use Rattle.shipped_flows.specs.Probe as probe
use Rattle.shipped_flows.specs.Echo as echo
use Rattle.flow_forms.specs.declared.forms.At.TheVariants as stands
use Rattle.flow_forms.specs.declared.forms.Sum.{Sum}
use Rattle.flow_forms.specs.declared.forms.Sum.TheVariants as of
use Rattle.flow_forms.specs.Frames.{Frame}
use Rattle.shipped_flows.specs.declared.count.Count.{Count}
use Rattle.shipped_flows.specs.declared.count.CountPlace.{CountPlace}
use Rattle.shipped_flows.specs.declared.count.CountPlace.TheVariants.{Sleeping}
use Rattle.shipped_flows.specs.declared.ping.Ping.{Ping}
use Rattle.shipped_flows.specs.declared.ping.PingPlace.{PingPlace}
use Rattle.shipped_flows.specs.declared.probe.Probe.{Probe}
use Rattle.shipped_flows.specs.declared.probe.ProbePlace.{ProbePlace}
use Rattle.shipped_flows.specs.declared.echo.Echo.{Echo}
use Rattle.shipped_flows.specs.declared.echo.EchoPlace.{EchoPlace}

-- the frames
abbrev pub Shipped : Type 0
Shipped = Sum (Frame CountPlace Count) (Sum (Frame PingPlace Ping) (Sum (Frame ProbePlace Probe) (Frame EchoPlace Echo)))

-- what stands for a call, which none of the machines makes
abbrev pub no_call : Call → Shipped
no_call c = of.First (record { at = stands.Asking Sleeping; fields = record { left = 0; all = 0 } })

-- a call costs something
pub calls_cost : (c : Call) → 1 ≤ call_weight c
calls_cost (call.Client request) = omega arith
calls_cost (call.Resolve key stx) = omega arith
calls_cost (call.Finality tx peers) = omega arith
calls_cost (call.Give key coins) = omega arith
calls_cost (call.Take key) = omega arith

-- ---- what the set means

-- the bytes that a machine's frames are spelt by
abbrev pub text : {P S : Type 0} → ℕ → Numbers P → Kept S → Frame P S → List ℕ
text machine numbers kept = content_of (λ f. machine) (body_of (placed false numbers) kept.spelling)

-- `count K` is class 1
abbrev pub count_way : Way Count
count_way = by_words (codes "count") 1 (then_words (word_below (2 ^ 32)) no_words) (λ t. number w32 t.first ++ []) (mapped_at then_of (pair_at (number_at w32) end_at)) count.begins

-- reading a party and a count
abbrev pub ping_args_at : List ℕ → Result (Then ℕ (Then ℕ End) × List ℕ) ℕ
ping_args_at = mapped_at then_of (pair_at byte_at (mapped_at then_of (pair_at (number_at w32) end_at)))

-- `ping P K` is class 2
abbrev pub ping_way : Way Ping
ping_way = by_words (codes "ping") 2 (then_words (word_below (2 ^ 8)) (then_words (word_below (2 ^ 32)) no_words)) (λ t. (t.first ∷ []) ++ (number w32 t.rest.first ++ [])) ping_args_at ping.begins

-- `probe P CLASS` is class 10
abbrev pub probe_way : Way Probe
probe_way = by_words (codes "probe") 10 (then_words (word_below (2 ^ 8)) (then_words (word_below (2 ^ 16)) no_words)) (λ t. (t.first ∷ []) ++ (number w16 t.rest.first ++ [])) (mapped_at then_of (pair_at byte_at (mapped_at then_of (pair_at (number_at w16) end_at)))) probe.begins

-- what the flows mean
abbrev pub part : Part Shipped
part = sum (part_of count.form count_way (text 1 count.numbers count.kept)) (sum (part_of ping.form ping_way (text 2 ping.numbers ping.kept)) (sum (part_of probe.form probe_way (text 10 probe.numbers probe.kept)) (part_of echo.form (by_init 2 echo.answers) (text 11 echo.numbers echo.kept))))

-- what the flow set means
abbrev pub machine : Machine Shipped
machine = closed part no_call
