use Rattle.std.proofs.Common.{ℕ, ◌≡◌, ◌⊎◌, inl, inr, ⊎_elim, ◌≤◌, ◌<◌, ◌+◌, ◌-◌, ◌/◌, List, min, max, take, drop, length, get_or, arith, sym, ◌∙◌, ap, length-drop, length-take}
use Rattle.std.proofs.lemmas.List.{get_or-take, take_rest, take-take, length-take-le}
use Rattle.disk_mem.specs.Mem.{durable_of}
use Rattle.outside.specs.Disk.{overwritten}
use Rattle.disk_mem.proofs.Putting.{halved}
use Rattle.disk_mem.proofs.Ranges.{image_of, untouched_at}
use Rattle.disk_mem.proofs.lay.halve.Goals as goal

pub returns-clause-image : goal.returns-clause-image
returns-clause-image c =
    let last = c.requires.last in
    let n = c.max.result in
    let mid = c.put_over.new.content.items in
    let new = c.truncate.new.self.items in
    let is : new ≡ take n mid = c.truncate.ensures.items in
    let len : length new ≡ min n (length mid) = ap (λ (l : List ℕ). length l) is ∙ length-take n mid in
    let low : length c.args.medium.now.synced.items ≤ length new = omega (arith, len, c.max.ensures, c.put_over.ensures.len, last.before, last.no_longer, c.requires.image.no_shorter) in
    image_of (durable_of c.args.medium.now) c.args.content.now.items new c.requires.image low (omega (arith, len, c.put_over.ensures.len))
    (λ i lt u.
    let out = untouched_at c.args.medium.now.pending.items (c.args.last.now.at, c.args.last.now.count) i last.range u in
    let first : get_or new i 0 ≡ get_or mid i 0 = ap (λ (l : List ℕ). get_or l i 0) is ∙ get_or-take n mid i 0 (omega (arith, c.max.ensures, last.before, lt)) in
    let from = c.min-from.result in
    let bytes = take (length c.deref.result.now - from) (drop from c.deref.result.now) in
    let len_bytes : length bytes ≡ length c.args.last.now.covered.items - from = ap (λ (l : List ℕ). length (take (length l - from) (drop from l))) c.deref.ensures.value ∙ ap (λ (l : List ℕ). length l) (take_rest c.args.last.now.covered.items from) ∙ length-drop from c.args.last.now.covered.items in
    let beside : (i < c.args.last.now.at + from) ⊎ (c.args.last.now.at + from + length bytes ≤ i) =
    ⊎_elim (λ before. inl (omega (arith, before))) (λ past. inr (omega (arith, past, last.over, c.min-from.ensures, len_bytes, c.args.last.now.covered.ok.0))) out in
    first ∙ c.put_over.ensures.beside i beside)

pub returns-clause-half : goal.returns-clause-half
returns-clause-half c =
    let last = c.requires.last in
    let at = c.args.last.now.at in
    let count = c.args.last.now.count in
    let h = count / 2 in
    let content = c.args.content.now.items in
    let was = c.args.last.now.was.value.items in
    let bytes : List ℕ = take count (drop at content) in
    let covered = c.args.last.now.covered.items in
    let from = c.min-from.result in
    let len : length bytes ≡ count = length-take-le count (drop at content) (omega (arith, length-drop at content, last.end)) in
    let h_le : h ≤ count = omega arith in
    let under : covered ≡ take (min (length bytes) (length was - at)) (drop at was) = last.under ∙ (λ i. take (min (sym len i) (last.length_before i - at)) (drop at was)) in
    let first : from ≡ min h (length covered) = omega (arith, c.min-from.ensures, c.args.last.now.covered.ok.0) in
    let place : at ≤ length was = omega (arith, last.place, last.length_before) in
    let slice : take (length c.deref.result.now - from) (drop from c.deref.result.now) ≡ drop from covered = ap (λ (l : List ℕ). take (length l - from) (drop from l)) c.deref.ensures.value ∙ take_rest covered from in
    let mid : c.put_over.new.content.items ≡ overwritten (overwritten was at bytes) (at + from) (drop from covered) = c.put_over.ensures.items ∙ (λ i. overwritten (last.was i) (at + from) (slice i)) in
    let end : c.max.result ≡ max (length was) (at + h) = c.max.ensures ∙ ap (λ (k : ℕ). max k (at + h)) last.length_before in
    c.truncate.ensures.items ∙ (λ i. take (end i) (mid i)) ∙ halved was bytes covered at h from place (omega (arith, len, h_le)) under first ∙ ap (λ (l : List ℕ). overwritten was at l) (take-take h count (drop at content) h_le)
