use Rattle.std.proofs.Common.{◌≡◌, ◌∙◌, ap, sym, refl, inl, inr, List, [], ℕ, map, length, arith, subst}
use Rattle.std.proofs.lemmas.Bool.Decides.{nat_tests}
use Rattle.outside.specs.Disk.{DiskState, clean, LosesPower, IsFilled, LeavesBy}
use Rattle.disk_mem.specs.Mem.{state_of, durable_of}
use Rattle.disk_mem.proofs.Putting.{clean_now, past_push}
use Rattle.disk_mem.proofs.mem.MemDisk.lose.Goals as goal

pub returns-then-is_empty-clause-state : goal.returns-then-is_empty-clause-state
returns-then-is_empty-clause-state c =
    let none : length c.self.inside.medium.pending.items ≡ 0 = grind (arith, nat_tests, c.is_empty.ensures, c.if-is_empty.true) in
    let same = ap (λ v. v.state) c.self.view_is in
    let whole = clean_now c.self.inside.medium.synced.items c.self.inside.medium.pending.items c.self.inside.content.items none c.self.invariant.image in
    let P : DiskState → Type 0 = λ s. s.now ≡ clean s.kept in
    inr (same, subst P same whole)

pub returns-clause-state : goal.returns-clause-state
returns-clause-state c =
    let same = ap (λ v. v.state) c.self.view_is in
    let e = state_of c.leave.new.content.items c.settle.new.medium c.remember.new.past.items in
    let past = c.remember.ensures.items in
    let history = ap (λ l. map (λ s. durable_of s.value) l) past.2 ∙ past_push c.self.inside.past.items past.0 c.self.inside.medium past.1 in
    let lost : LosesPower (state_of c.self.inside.content.items c.self.inside.medium c.self.inside.past.items).past (durable_of c.self.inside.medium) e = record {
      left = c.leave.ensures.image;
      clean_now = c.settle.ensures.durable ∙ ap (λ (l : List ℕ). clean l) c.deref.ensures.value;
      history = history;
    } in
    inl (subst (λ (x : DiskState). LosesPower x.past x.now e) same lost)

pub returns-then-is_empty-clause-outcome : goal.returns-then-is_empty-clause-outcome
returns-then-is_empty-clause-outcome c =
    let none : length c.self.inside.medium.pending.items ≡ 0 = grind (arith, nat_tests, c.is_empty.ensures, c.if-is_empty.true) in
    let same = ap (λ v. v.state) c.self.view_is in
    let content = c.self.inside.content.items in
    let whole = clean_now c.self.inside.medium.synced.items c.self.inside.medium.pending.items content none c.self.invariant.image in
    let filled : IsFilled [] content content = record { len = refl; within = λ i lt touched. absurd touched; beside = λ i out. refl } in
    let left : LeavesBy c.args.outcome (state_of content c.self.inside.medium c.self.inside.past.items) (state_of content c.self.inside.medium c.self.inside.past.items) = record {
      nothing = λ z. sym (ap (λ x. x.synced) whole);
      everything = λ z. refl;
      half = λ z some. absurd (omega (arith, some, none));
      filled = λ z. subst (λ (l : List (ℕ × ℕ)). IsFilled l content content) (sym (ap (λ x. x.pending) whole)) filled;
    } in
    subst (λ (x : DiskState). LeavesBy c.args.outcome x (state_of content c.self.inside.medium c.self.inside.past.items)) same left

pub returns-clause-outcome : goal.returns-clause-outcome
returns-clause-outcome c =
    let same = ap (λ v. v.state) c.self.view_is in
    let e = state_of c.leave.new.content.items c.settle.new.medium c.remember.new.past.items in
    let by = c.leave.ensures.left in
    let last = c.self.inside.last in
    let left : LeavesBy c.args.outcome (state_of c.self.inside.content.items c.self.inside.medium c.self.inside.past.items) e = record {
      nothing = by.nothing;
      everything = by.everything;
      half = λ two some.
          let write = c.self.invariant.last_write (omega (arith, some, c.self.inside.medium.pending.ok.0)) in
          record { at = last.at; count = last.count; range = write.range; was = last.was.value.items; written = write.was; half = by.half two };
      filled = by.filled;
    } in
    subst (λ (x : DiskState). LeavesBy c.args.outcome x e) same left
