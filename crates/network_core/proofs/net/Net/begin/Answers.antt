use Rattle.net_model.specs.Environment.{meaning}
use Rattle.std.proofs.Common.{◌≡◌, refl, arith, ap, length, map, Some, ◌∙◌, subst, List, ℕ}
use Rattle.std.specs.List.{slice_get}
use Rattle.std.proofs.lemmas.List.{length-map}
use Rattle.net_base.proofs.Lists.{map_twice}
use Rattle.node_core.specs.Disks.{roomless}
use Rattle.node_core.specs.Seen.{NodeSeen}
use Rattle.network_core.specs.Begins.{nodes_over, BootsUpTo, BootStops}
use Rattle.network_core.specs.Parts.{net_of}
use Rattle.network_core.proofs.Beginning.{begins_world, refused_world, refused_early, over_down, over_length, all_by_last}
use Rattle.waiting_frames.specs.Waiting.{WaitingSeen}
use Rattle.network_core.proofs.Loops.{none_wait}
use Rattle.network_core.proofs.net.Net.begin.Goals as goal

pub returns-in_default-clause-refused : goal.returns-in_default-clause-refused
returns-in_default-clause-refused g c judge = refused_early (meaning g.F.FlowSet.machine g.F.Spelt.reading judge) c.args.nodes c.args.notary (map g.D.Disk.seen c.args.disks.items)

pub returns-in_default-with_capacity-clause-refused : goal.returns-in_default-with_capacity-clause-refused
returns-in_default-with_capacity-clause-refused g c judge = refused_early (meaning g.F.FlowSet.machine g.F.Spelt.reading judge) c.args.nodes c.args.notary (map g.D.Disk.seen c.args.disks.items)

pub boot_all-requires-clause-few : goal.boot_all-requires-clause-few
boot_all-requires-clause-few g c =
    let ds = map g.D.Disk.seen c.args.disks.items in
    omega (arith, ap length c.nodes_over-places.ensures, over_length c.args.nodes c.args.notary 0 ds, length-map c.args.disks.items g.D.Disk.seen, c.requires.disks, c.requires.nodes)

pub boot_all-requires-clause-down : goal.boot_all-requires-clause-down
boot_all-requires-clause-down g c p n at =
    over_down c.args.nodes c.args.notary 0 (map g.D.Disk.seen c.args.disks.items) p n (subst (λ (l : List NodeSeen). slice_get l p ≡ Some n) c.nodes_over-places.ensures at)

pub disks_of-requires-clause-room : goal.disks_of-requires-clause-room
disks_of-requires-clause-room g c =
    let ds = map g.D.Disk.seen c.args.disks.items in
    omega (arith, c.in-Err.ensures.err.count, ap length c.nodes_over-places.ensures, over_length c.args.nodes c.args.notary 0 ds, length-map c.args.disks.items g.D.Disk.seen, c.len-2.ensures, c.args.disks.ok.0, c.in-Ok-with_capacity.ensures.capacity)

pub returns-in-Ok-boot_all-clause-waiting : goal.returns-in-Ok-boot_all-clause-waiting
returns-in-Ok-boot_all-clause-waiting g c =
    let ds = map g.D.Disk.seen c.args.disks.items in
    rw c.from_parts.ensures (none_wait (λ (w : WaitingSeen). w.frames) c.no_frames.result.items c.boot_all.new.nodes.items (omega (arith, c.no_frames.ensures.count, c.in-Ok-boot_all.ensures.ok.count, ap length c.nodes_over-places.ensures, over_length c.args.nodes c.args.notary 0 ds, length-map c.args.disks.items g.D.Disk.seen, c.requires.disks)) c.no_frames.ensures.none)

pub returns-in-Ok-boot_all-clause-ok : goal.returns-in-Ok-boot_all-clause-ok
returns-in-Ok-boot_all-clause-ok g c =
    let ds = map g.D.Disk.seen c.args.disks.items in
    let olds = nodes_over c.args.nodes c.args.notary 0 ds in
    let count : length c.nodes_over-places.result.items ≡ length ds = ap length c.nodes_over-places.ensures ∙ over_length c.args.nodes c.args.notary 0 ds in
    let booted : BootsUpTo g.F.Spelt.reading (length ds) c.in-Ok-boot_all.now.0 c.nodes_over-places.result.items c.boot_all.new.nodes.items = subst (λ (i : ℕ). BootsUpTo g.F.Spelt.reading i c.in-Ok-boot_all.now.0 c.nodes_over-places.result.items c.boot_all.new.nodes.items) count c.in-Ok-boot_all.ensures.ok in
    let none = none_wait (λ (w : WaitingSeen). w.frames) c.no_frames.result.items c.boot_all.new.nodes.items (omega (arith, c.no_frames.ensures.count, c.in-Ok-boot_all.ensures.ok.count, ap length c.nodes_over-places.ensures, over_length c.args.nodes c.args.notary 0 ds, length-map c.args.disks.items g.D.Disk.seen, c.requires.disks)) c.no_frames.ensures.none in
    rw c.from_parts.ensures (λ judge. begins_world (meaning g.F.FlowSet.machine g.F.Spelt.reading judge) c.args.nodes c.args.notary ds (net_of c.boot_all.new.nodes.items c.no_frames.result.items c.in-Ok-boot_all.now.0) (subst (λ (l : List NodeSeen). BootsUpTo g.F.Spelt.reading (length ds) c.in-Ok-boot_all.now.0 l c.boot_all.new.nodes.items) c.nodes_over-places.ensures booted)
    none)

pub returns-in-Err-clause-refused : goal.returns-in-Err-clause-refused
returns-in-Err-clause-refused g c =
    let ds = map g.D.Disk.seen c.args.disks.items in
    let stops = subst (λ (l : List NodeSeen). BootStops g.F.Spelt.reading c.in-Err.stopped.place c.in-Err.stopped.why l c.boot_all.new.nodes.items) c.nodes_over-places.ensures c.in-Err.ensures.err in
    let handed = map_twice roomless g.D.Disk.seen (λ d. roomless (g.D.Disk.seen d)) c.disks_of.result.items (λ d. refl) ∙ c.disks_of.ensures in
    λ judge. refused_world (meaning g.F.FlowSet.machine g.F.Spelt.reading judge) c.args.nodes c.args.notary ds c.in-Err.stopped.place c.in-Err.stopped.why c.boot_all.new.nodes.items stops (map g.D.Disk.seen c.disks_of.result.items) handed

pub from_parts-requires-clause-whole : goal.from_parts-requires-clause-whole
from_parts-requires-clause-whole g c =
    let ds = map g.D.Disk.seen c.args.disks.items in
    let frames = length-map c.no_frames.result.items (λ (w : WaitingSeen). w.frames) in
    record {
      by = all_by_last g.F.Spelt.reading c.nodes_over-places.result.items c.boot_all.new.nodes.items c.in-Ok-boot_all.now.0 c.in-Ok-boot_all.ensures.ok;
      few = omega (arith, c.in-Ok-boot_all.ensures.ok.count, ap length c.nodes_over-places.ensures, over_length c.args.nodes c.args.notary 0 ds, length-map c.args.disks.items g.D.Disk.seen, c.requires.disks, c.requires.nodes);
      each = omega (arith, frames, c.no_frames.ensures.count, c.in-Ok-boot_all.ensures.ok.count, ap length c.nodes_over-places.ensures, over_length c.args.nodes c.args.notary 0 ds, length-map c.args.disks.items g.D.Disk.seen, c.requires.disks);
    }

pub from_parts-requires-clause-room : goal.from_parts-requires-clause-room
from_parts-requires-clause-room g c =
    let ds = map g.D.Disk.seen c.args.disks.items in
    omega (arith, c.in-Ok-boot_all.ensures.ok.count, ap length c.nodes_over-places.ensures, over_length c.args.nodes c.args.notary 0 ds, length-map c.args.disks.items g.D.Disk.seen, c.len-2.ensures, c.args.disks.ok.0, c.in-Ok-with_capacity.ensures.capacity)

pub returns-in-Ok-boot_all-clause-count : goal.returns-in-Ok-boot_all-clause-count
returns-in-Ok-boot_all-clause-count g c =
    let ds = map g.D.Disk.seen c.args.disks.items in
    rw c.from_parts.ensures (omega (arith, c.in-Ok-boot_all.ensures.ok.count, ap length c.nodes_over-places.ensures, over_length c.args.nodes c.args.notary 0 ds, length-map c.args.disks.items g.D.Disk.seen, c.requires.disks))

pub returns-in-Ok-boot_all-clause-boots : goal.returns-in-Ok-boot_all-clause-boots
returns-in-Ok-boot_all-clause-boots g c =
    let ds = map g.D.Disk.seen c.args.disks.items in
    let count : length c.nodes_over-places.result.items ≡ c.args.nodes = ap length c.nodes_over-places.ensures ∙ over_length c.args.nodes c.args.notary 0 ds ∙ length-map c.args.disks.items g.D.Disk.seen ∙ c.requires.disks in
    rw c.from_parts.ensures (subst (λ (l : List NodeSeen). BootsUpTo g.F.Spelt.reading c.args.nodes c.in-Ok-boot_all.now.0 l c.boot_all.new.nodes.items) c.nodes_over-places.ensures
    (subst (λ (i : ℕ). BootsUpTo g.F.Spelt.reading i c.in-Ok-boot_all.now.0 c.nodes_over-places.result.items c.boot_all.new.nodes.items) count c.in-Ok-boot_all.ensures.ok))

pub returns-in_default-with_capacity-2-clause-refused : goal.returns-in_default-with_capacity-2-clause-refused
returns-in_default-with_capacity-2-clause-refused g c judge = refused_early (meaning g.F.FlowSet.machine g.F.Spelt.reading judge) c.args.nodes c.args.notary (map g.D.Disk.seen c.args.disks.items)
