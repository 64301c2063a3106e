use Rattle.std.proofs.Common.{◌≡◌, ◌∙◌, ap, sym, ◌≤◌, ◌-◌, List, ℕ, min, length, take, drop, subst, arith, length-drop}
use Rattle.std.proofs.lemmas.List.{length-take-le}
use Rattle.std.proofs.lemmas.List.Elements.{Contains-push}
use Rattle.std.specs.List.{Contains}
use Rattle.outside.specs.Disk.{IsImage, overwritten}
use Rattle.disk_mem.specs.Mem.{durable_of}
use Rattle.outside.proofs.Writes.{length-overwritten}
use Rattle.disk_mem.proofs.Putting.{image_put, written-overwritten}
use Rattle.disk_mem.proofs.mem.MemDisk.write.Goals as goal

pub cover-requires-clause-place : goal.cover-requires-clause-place
cover-requires-clause-place c =
    let at = c.requires.place in
    omega (arith, at, ap (λ v. length v.state.kept) c.self.view_is)

pub put_bytes-requires-clause-place : goal.put_bytes-requires-clause-place
put_bytes-requires-clause-place c =
    let at = c.requires.place in
    omega (arith, at, ap (λ v. length v.state.kept) c.self.view_is, c.self.inside.content.ok.0)

pub invariant_of-self : goal.invariant_of-self
invariant_of-self c =
    let inv = c.self.invariant in
    let end = ap (λ v. v.room_end) c.self.view_is in
    let writes = ap (λ v. v.room_writes) c.self.view_is in
    let content = c.self.inside.content.items in
    let n = length c.args.from.now in
    let place_is = c.requires.place in
    let within : c.args.at ≤ length content = omega (arith, place_is, ap (λ v. length v.state.kept) c.self.view_is) in
    let put_len = ap (λ (l : List ℕ). length l) c.put_bytes.ensures.items ∙ length-overwritten content c.args.from.now c.args.at within in
    let image = image_put content c.args.from.now c.args.at within (durable_of c.self.inside.medium) inv.image in
    let P : List (ℕ × ℕ) × List ℕ → Type 0 = λ x. IsImage (record { synced = c.self.inside.medium.synced.items; pending = x.0 }) x.1 in
    let covered : length c.cover.new.last.covered.items ≡ min n (length content - c.args.at) =
    ap (λ (l : List ℕ). length l) c.cover.ensures.covered ∙ length-take-le (min n (length content - c.args.at)) (drop c.args.at content) (omega (arith, length-drop c.args.at content)) in
    let place = c.cover.ensures.place in
    let kept_write : c.args.from.now ≡ take c.cover.new.last.count (drop c.cover.new.last.at c.put_bytes.new.content.items) =
    sym (written-overwritten content c.args.from.now c.args.at within) ∙ (λ i. take (sym place.1 i) (drop (sym place.0 i) (sym c.put_bytes.ensures.items i))) in
    record {
      content_room = omega (arith, inv.content_room, c.put_bytes.ensures.capacity);
      synced = inv.synced;
      covered = omega (arith, inv.covered, c.cover.ensures.capacity);
      pending = omega (arith, inv.pending, c.note.ensures.len, c.note.ensures.capacity, c.requires.writes, writes);
      past_room = omega (arith, inv.past_room, c.remember.ensures.len, c.remember.ensures.capacity, c.note.ensures.len, c.requires.writes, writes);
      within = omega (arith, inv.within, put_len, c.requires.end, end, c.put_bytes.new.content.ok.0, c.self.inside.content.ok.0);
      image = subst P (λ i. (sym c.note.ensures.items i, sym c.put_bytes.ensures.items i)) image;
      last_write = λ some. record {
        range = subst (λ (x : List (ℕ × ℕ) × (ℕ × ℕ)). Contains x.0 x.1) (λ i. (sym c.note.ensures.items i, (sym place.0 i, sym place.1 i))) (Contains-push c.self.inside.medium.pending.items (c.args.at, n));
        place = omega (arith, place, within);
        end = omega (arith, place, put_len);
        covered = omega (arith, place, covered, within);
        over = omega (arith, place, covered);
        before = omega (arith, place, inv.image.no_shorter);
        no_longer = omega (arith, place, put_len);
        length_before = place.2 ∙ ap (λ v. length v.items) (sym c.cover.ensures.was);
        under = c.cover.ensures.covered ∙ (λ i. take (min (sym place.1 i) (sym place.2 i - sym place.0 i)) (drop (sym place.0 i) ((sym c.cover.ensures.was i).items)));
        was = c.put_bytes.ensures.items ∙ (λ i. overwritten ((sym c.cover.ensures.was i).items) (sym place.0 i) (kept_write i));
      };
    }
