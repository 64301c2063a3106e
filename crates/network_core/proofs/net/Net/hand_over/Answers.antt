use Rattle.net_model.specs.Environment.{unjudged}
use Rattle.std.proofs.Common.{◌≡◌, ◌<◌, refl, sym, ◌∙◌, ap, arith, length, map, slice_get, slice_set, Some, subst}
use Rattle.std.specs.Option.{option_map, option_to_list}
use Rattle.std.proofs.lemmas.Option.{slice_get_read, same_Some, slice_get_within}
use Rattle.std.specs.contracts.alloc.AllocError.{the_row}
use Rattle.net_base.proofs.Lists.{all_get, set_length, all_set}
use Rattle.node_core.specs.Seen.{NodeSeen, IsBy}
use Rattle.waiting_frames.specs.Waiting.{WaitingSeen}
use Rattle.network_core.specs.Worlds.{NetSeen}
use Rattle.network_core.specs.Answers.{TakeServes, mailed, parted}
use Rattle.network_core.proofs.Delivering.{got_some, handed_done, handed_err, handed_short, list_there}
use Rattle.network_core.proofs.Mailing.{same_lists, settled_lists}
use Rattle.network_core.proofs.net.Net.hand_over.Goals as goal

pub returns-in_err-make_room : goal.returns-in_err-make_room
returns-in_err-make_room g c =
    let frames_of = λ (w : WaitingSeen). w.frames in
    let items = c.self.inside.nodes.items in
    let lists = c.self.inside.waiting.items in
    let p = c.args.place in
    let n = c.requires.node.0 in
    let frames = c.requires.frame.0 in
    let at : slice_get items p ≡ Some n = ap (λ (z : NetSeen). slice_get z.nodes p) c.self.view_is ∙ c.requires.node.1 in
    let waits : slice_get (map frames_of lists) p ≡ Some frames = ap (λ (z : NetSeen). slice_get z.waiting p) c.self.view_is ∙ c.requires.frame.1 in
    let inside : p < length items = slice_get_within items p n at in
    let count : length c.make_room.new.waiting.items ≡ length lists = same_lists frames_of lists c.make_room.new.waiting.items c.make_room.ensures.frames in
    let within : p < length c.make_room.new.waiting.items = omega (arith, inside, count, c.self.invariant.4) in
    rw (← c.self.view_is)
    (handed_short (unjudged g.F.FlowSet.machine g.F.Spelt.reading) c.args.repeated p c.args.at (record { nodes = items; waiting = map frames_of lists; now = c.self.inside.now.0 }) (record { nodes = items; waiting = map frames_of c.make_room.new.waiting.items; now = c.self.inside.now.0 }) n frames at c.requires.node.2 waits c.from_residual.result c.from_residual.ensures.0 c.requires.frame.2
    (ap (λ l. record { nodes = items; waiting = l; now = c.self.inside.now.0 }) c.make_room.ensures.frames))

pub index-requires : goal.index-requires
index-requires g c =
    let frames_of = λ (w : WaitingSeen). w.frames in
    let items = c.self.inside.nodes.items in
    let lists = c.self.inside.waiting.items in
    let p = c.args.place in
    let n = c.requires.node.0 in
    let frames = c.requires.frame.0 in
    let at : slice_get items p ≡ Some n = ap (λ (z : NetSeen). slice_get z.nodes p) c.self.view_is ∙ c.requires.node.1 in
    let waits : slice_get (map frames_of lists) p ≡ Some frames = ap (λ (z : NetSeen). slice_get z.waiting p) c.self.view_is ∙ c.requires.frame.1 in
    let inside : p < length items = slice_get_within items p n at in
    let count : length c.make_room.new.waiting.items ≡ length lists = same_lists frames_of lists c.make_room.new.waiting.items c.make_room.ensures.frames in
    let within : p < length c.make_room.new.waiting.items = omega (arith, inside, count, c.self.invariant.4) in
    omega (arith, within, c.make_room.new.waiting.ok.0)

pub unwrap-bytes-requires : goal.unwrap-bytes-requires
unwrap-bytes-requires g c =
    let frames_of = λ (w : WaitingSeen). w.frames in
    let items = c.self.inside.nodes.items in
    let lists = c.self.inside.waiting.items in
    let p = c.args.place in
    let n = c.requires.node.0 in
    let frames = c.requires.frame.0 in
    let at : slice_get items p ≡ Some n = ap (λ (z : NetSeen). slice_get z.nodes p) c.self.view_is ∙ c.requires.node.1 in
    let waits : slice_get (map frames_of lists) p ≡ Some frames = ap (λ (z : NetSeen). slice_get z.waiting p) c.self.view_is ∙ c.requires.frame.1 in
    let inside : p < length items = slice_get_within items p n at in
    let count : length c.make_room.new.waiting.items ≡ length lists = same_lists frames_of lists c.make_room.new.waiting.items c.make_room.ensures.frames in
    let within : p < length c.make_room.new.waiting.items = omega (arith, inside, count, c.self.invariant.4) in
    let room : slice_get (map frames_of c.make_room.new.waiting.items) p ≡ Some frames = ap (λ l. slice_get l p) c.make_room.ensures.frames ∙ waits in
    let here = slice_get_read c.make_room.new.waiting.items (length c.make_room.new.waiting.items) p c.index.result.now refl within c.index.ensures in
    let list_is : c.index.result.now.frames ≡ frames = list_there frames_of c.make_room.new.waiting.items p c.index.result.now frames here room in
    got_some (λ f. f.now) c.get.result c.index.result.now.frames c.args.at c.get.ensures (omega (arith, c.requires.frame.2, ap length list_is))

pub index_mut-node-requires : goal.index_mut-node-requires
index_mut-node-requires g c =
    let frames_of = λ (w : WaitingSeen). w.frames in
    let items = c.self.inside.nodes.items in
    let lists = c.self.inside.waiting.items in
    let p = c.args.place in
    let n = c.requires.node.0 in
    let frames = c.requires.frame.0 in
    let at : slice_get items p ≡ Some n = ap (λ (z : NetSeen). slice_get z.nodes p) c.self.view_is ∙ c.requires.node.1 in
    let waits : slice_get (map frames_of lists) p ≡ Some frames = ap (λ (z : NetSeen). slice_get z.waiting p) c.self.view_is ∙ c.requires.frame.1 in
    let inside : p < length items = slice_get_within items p n at in
    let count : length c.make_room.new.waiting.items ≡ length lists = same_lists frames_of lists c.make_room.new.waiting.items c.make_room.ensures.frames in
    let within : p < length c.make_room.new.waiting.items = omega (arith, inside, count, c.self.invariant.4) in
    omega (arith, inside, c.self.inside.nodes.ok.0)

pub take_at-requires : goal.take_at-requires
take_at-requires g c =
    let frames_of = λ (w : WaitingSeen). w.frames in
    let items = c.self.inside.nodes.items in
    let lists = c.self.inside.waiting.items in
    let p = c.args.place in
    let n = c.requires.node.0 in
    let frames = c.requires.frame.0 in
    let at : slice_get items p ≡ Some n = ap (λ (z : NetSeen). slice_get z.nodes p) c.self.view_is ∙ c.requires.node.1 in
    let waits : slice_get (map frames_of lists) p ≡ Some frames = ap (λ (z : NetSeen). slice_get z.waiting p) c.self.view_is ∙ c.requires.frame.1 in
    let inside : p < length items = slice_get_within items p n at in
    let count : length c.make_room.new.waiting.items ≡ length lists = same_lists frames_of lists c.make_room.new.waiting.items c.make_room.ensures.frames in
    let within : p < length c.make_room.new.waiting.items = omega (arith, inside, count, c.self.invariant.4) in
    let node_at = slice_get_read items (length items) p c.index_mut-node.result.now refl inside c.index_mut-node.ensures.value in
    all_get (λ (k : NodeSeen). IsBy g.F.Spelt.reading k.journal c.self.inside.now.0) items p c.index_mut-node.result.now c.self.invariant.0 node_at

pub invariant_of-self-in_err-delivery : goal.invariant_of-self-in_err-delivery
invariant_of-self-in_err-delivery g c =
    let frames_of = λ (w : WaitingSeen). w.frames in
    let items = c.self.inside.nodes.items in
    let lists = c.self.inside.waiting.items in
    let p = c.args.place in
    let n = c.requires.node.0 in
    let frames = c.requires.frame.0 in
    let at : slice_get items p ≡ Some n = ap (λ (z : NetSeen). slice_get z.nodes p) c.self.view_is ∙ c.requires.node.1 in
    let waits : slice_get (map frames_of lists) p ≡ Some frames = ap (λ (z : NetSeen). slice_get z.waiting p) c.self.view_is ∙ c.requires.frame.1 in
    let inside : p < length items = slice_get_within items p n at in
    let count : length c.make_room.new.waiting.items ≡ length lists = same_lists frames_of lists c.make_room.new.waiting.items c.make_room.ensures.frames in
    let within : p < length c.make_room.new.waiting.items = omega (arith, inside, count, c.self.invariant.4) in
    let i = c.self.invariant in
    let long = set_length items p c.take_at.new.node in
    (all_set (λ (k : NodeSeen). IsBy g.F.Spelt.reading k.journal c.self.inside.now.0) items p c.take_at.new.node i.0 c.take_at.ensures.by, i.1, omega (arith, i.2, long), omega (arith, i.3, long), omega (arith, i.4, long, count))

pub returns-in_err-delivery : goal.returns-in_err-delivery
returns-in_err-delivery g c =
    let frames_of = λ (w : WaitingSeen). w.frames in
    let items = c.self.inside.nodes.items in
    let lists = c.self.inside.waiting.items in
    let p = c.args.place in
    let n = c.requires.node.0 in
    let frames = c.requires.frame.0 in
    let at : slice_get items p ≡ Some n = ap (λ (z : NetSeen). slice_get z.nodes p) c.self.view_is ∙ c.requires.node.1 in
    let waits : slice_get (map frames_of lists) p ≡ Some frames = ap (λ (z : NetSeen). slice_get z.waiting p) c.self.view_is ∙ c.requires.frame.1 in
    let inside : p < length items = slice_get_within items p n at in
    let count : length c.make_room.new.waiting.items ≡ length lists = same_lists frames_of lists c.make_room.new.waiting.items c.make_room.ensures.frames in
    let within : p < length c.make_room.new.waiting.items = omega (arith, inside, count, c.self.invariant.4) in
    let room : slice_get (map frames_of c.make_room.new.waiting.items) p ≡ Some frames = ap (λ l. slice_get l p) c.make_room.ensures.frames ∙ waits in
    let here = slice_get_read c.make_room.new.waiting.items (length c.make_room.new.waiting.items) p c.index.result.now refl within c.index.ensures in
    let list_is : c.index.result.now.frames ≡ frames = list_there frames_of c.make_room.new.waiting.items p c.index.result.now frames here room in
    let node_at = slice_get_read items (length items) p c.index_mut-node.result.now refl inside c.index_mut-node.ensures.value in
    let same : c.index_mut-node.result.now ≡ n = same_Some _ _ (sym node_at ∙ at) in
    let found : slice_get frames c.args.at ≡ Some c.unwrap-bytes.result.now = sym (ap (λ l. slice_get l c.args.at) list_is) ∙ sym c.get.ensures ∙ ap (λ o. option_map (λ f. f.now) o) c.unwrap-bytes.ensures in
    let serves : TakeServes (unjudged g.F.FlowSet.machine g.F.Spelt.reading) c.self.inside.now.0 c.unwrap-bytes.result.now n c.take_at.result c.take_at.new.node = subst (λ (z : NodeSeen). TakeServes (unjudged g.F.FlowSet.machine g.F.Spelt.reading) c.self.inside.now.0 c.unwrap-bytes.result.now z c.take_at.result c.take_at.new.node) same c.take_at.ensures.serves in
    let old : NetSeen = record { nodes = items; waiting = map frames_of lists; now = c.self.inside.now.0 } in
    let new : NetSeen = record { nodes = slice_set items p c.take_at.new.node; waiting = map frames_of c.make_room.new.waiting.items; now = c.self.inside.now.0 } in
    rw (← c.self.view_is)
    (handed_err (unjudged g.F.FlowSet.machine g.F.Spelt.reading) c.args.repeated p c.args.at old new n frames at c.requires.node.2 waits c.from_residual-in_err-delivery.result c.take_at.result _ c.unwrap-bytes.result.now c.take_at.new.node c.from_residual-in_err-delivery.ensures.0 c.in_err-delivery.was found serves refl c.make_room.ensures.frames refl)

pub settle-requires-clause-place : goal.settle-requires-clause-place
settle-requires-clause-place g c =
    let frames_of = λ (w : WaitingSeen). w.frames in
    let items = c.self.inside.nodes.items in
    let lists = c.self.inside.waiting.items in
    let p = c.args.place in
    let n = c.requires.node.0 in
    let frames = c.requires.frame.0 in
    let at : slice_get items p ≡ Some n = ap (λ (z : NetSeen). slice_get z.nodes p) c.self.view_is ∙ c.requires.node.1 in
    let waits : slice_get (map frames_of lists) p ≡ Some frames = ap (λ (z : NetSeen). slice_get z.waiting p) c.self.view_is ∙ c.requires.frame.1 in
    let inside : p < length items = slice_get_within items p n at in
    let count : length c.make_room.new.waiting.items ≡ length lists = same_lists frames_of lists c.make_room.new.waiting.items c.make_room.ensures.frames in
    let within : p < length c.make_room.new.waiting.items = omega (arith, inside, count, c.self.invariant.4) in
    within

pub invariant_of-self-2 : goal.invariant_of-self-2
invariant_of-self-2 g c =
    let frames_of = λ (w : WaitingSeen). w.frames in
    let items = c.self.inside.nodes.items in
    let lists = c.self.inside.waiting.items in
    let p = c.args.place in
    let n = c.requires.node.0 in
    let frames = c.requires.frame.0 in
    let at : slice_get items p ≡ Some n = ap (λ (z : NetSeen). slice_get z.nodes p) c.self.view_is ∙ c.requires.node.1 in
    let waits : slice_get (map frames_of lists) p ≡ Some frames = ap (λ (z : NetSeen). slice_get z.waiting p) c.self.view_is ∙ c.requires.frame.1 in
    let inside : p < length items = slice_get_within items p n at in
    let count : length c.make_room.new.waiting.items ≡ length lists = same_lists frames_of lists c.make_room.new.waiting.items c.make_room.ensures.frames in
    let within : p < length c.make_room.new.waiting.items = omega (arith, inside, count, c.self.invariant.4) in
    let room : slice_get (map frames_of c.make_room.new.waiting.items) p ≡ Some frames = ap (λ l. slice_get l p) c.make_room.ensures.frames ∙ waits in
    let here = slice_get_read c.make_room.new.waiting.items (length c.make_room.new.waiting.items) p c.index.result.now refl within c.index.ensures in
    let list_is : c.index.result.now.frames ≡ frames = list_there frames_of c.make_room.new.waiting.items p c.index.result.now frames here room in
    let i = c.self.invariant in
    let long = set_length items p c.take_at.new.node in
    let settled = c.settle.ensures c.index.result.now here in
    let lists_long = settled_lists frames_of c.make_room.new.waiting.items c.settle.new.waiting.items (option_to_list c.in_ok-delivery.delivery.ack) c.waits_on-waits.result p c.args.at c.index.result.now.frames settled in
    (all_set (λ (k : NodeSeen). IsBy g.F.Spelt.reading k.journal c.self.inside.now.0) items p c.take_at.new.node i.0 c.take_at.ensures.by, i.1, omega (arith, i.2, long), omega (arith, i.3, long), omega (arith, i.4, long, count, lists_long))

pub returns : goal.returns
returns g c =
    let frames_of = λ (w : WaitingSeen). w.frames in
    let items = c.self.inside.nodes.items in
    let lists = c.self.inside.waiting.items in
    let p = c.args.place in
    let n = c.requires.node.0 in
    let frames = c.requires.frame.0 in
    let at : slice_get items p ≡ Some n = ap (λ (z : NetSeen). slice_get z.nodes p) c.self.view_is ∙ c.requires.node.1 in
    let waits : slice_get (map frames_of lists) p ≡ Some frames = ap (λ (z : NetSeen). slice_get z.waiting p) c.self.view_is ∙ c.requires.frame.1 in
    let inside : p < length items = slice_get_within items p n at in
    let count : length c.make_room.new.waiting.items ≡ length lists = same_lists frames_of lists c.make_room.new.waiting.items c.make_room.ensures.frames in
    let within : p < length c.make_room.new.waiting.items = omega (arith, inside, count, c.self.invariant.4) in
    let room : slice_get (map frames_of c.make_room.new.waiting.items) p ≡ Some frames = ap (λ l. slice_get l p) c.make_room.ensures.frames ∙ waits in
    let here = slice_get_read c.make_room.new.waiting.items (length c.make_room.new.waiting.items) p c.index.result.now refl within c.index.ensures in
    let list_is : c.index.result.now.frames ≡ frames = list_there frames_of c.make_room.new.waiting.items p c.index.result.now frames here room in
    let node_at = slice_get_read items (length items) p c.index_mut-node.result.now refl inside c.index_mut-node.ensures.value in
    let same : c.index_mut-node.result.now ≡ n = same_Some _ _ (sym node_at ∙ at) in
    let found : slice_get frames c.args.at ≡ Some c.unwrap-bytes.result.now = sym (ap (λ l. slice_get l c.args.at) list_is) ∙ sym c.get.ensures ∙ ap (λ o. option_map (λ f. f.now) o) c.unwrap-bytes.ensures in
    let serves : TakeServes (unjudged g.F.FlowSet.machine g.F.Spelt.reading) c.self.inside.now.0 c.unwrap-bytes.result.now n c.take_at.result c.take_at.new.node = subst (λ (z : NodeSeen). TakeServes (unjudged g.F.FlowSet.machine g.F.Spelt.reading) c.self.inside.now.0 c.unwrap-bytes.result.now z c.take_at.result c.take_at.new.node) same c.take_at.ensures.serves in
    let old : NetSeen = record { nodes = items; waiting = map frames_of lists; now = c.self.inside.now.0 } in
    let new : NetSeen = record { nodes = slice_set items p c.take_at.new.node; waiting = map frames_of c.settle.new.waiting.items; now = c.self.inside.now.0 } in
    let b = c.waits_on-waits.result in
    let ack = option_to_list c.in_ok-delivery.delivery.ack in
    let waiting = c.settle.ensures c.index.result.now here ∙ ap (λ l. mailed ack (parted b p c.args.at l (map frames_of c.make_room.new.waiting.items))) list_is ∙ ap (λ ws. mailed ack (parted b p c.args.at frames ws)) c.make_room.ensures.frames in
    rw (← c.self.view_is)
    (handed_done (unjudged g.F.FlowSet.machine g.F.Spelt.reading) c.args.repeated p c.args.at old new n frames at c.requires.node.2 waits the_row.Denot c.take_at.result c.in_ok-delivery.delivery c.unwrap-bytes.result.now c.take_at.new.node b c.in_ok-delivery.was found serves c.waits_on-waits.ensures refl waiting refl)

pub invariant_of-self : goal.invariant_of-self
invariant_of-self g c =
    let i = c.self.invariant in
    (i.0, i.1, i.2, i.3, same_lists (λ (w : WaitingSeen). w.frames) c.self.inside.waiting.items c.make_room.new.waiting.items c.make_room.ensures.frames ∙ i.4)
