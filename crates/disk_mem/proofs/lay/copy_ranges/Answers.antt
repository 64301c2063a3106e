use Rattle.std.proofs.Common.{rules, ℕ, ◌≡◌, ◌++◌, List, drop, length, get_or, arith, ◌∙◌, ap, length-drop, length-append}
use Rattle.std.proofs.lemmas.Grind.{same_number_lists}
use Rattle.std.proofs.lemmas.List.{take_at, take_rest}
use Rattle.disk_mem.proofs.Ranges.{extended}
use Rattle.disk_mem.proofs.lay.copy_ranges.Goals as goal

pub returns-clause-items : goal.returns-clause-items
returns-clause-items c =
    let old = c.args.synced.now.items in
    let content = c.args.content.now in
    let ext : c.extend_from_slice.new.self.items ≡ old ++ drop (length old) content = search (rules, take_rest) in
    let low = c.requires.image.no_shorter in
    let len : length c.copy_pending.new.synced ≡ length content = omega (arith, ap (λ (l : List ℕ). length l) ext, length-append old (drop (length old) content), length-drop (length old) content) in
    let all : c.copy_pending.new.synced ≡ content =
    same_number_lists c.copy_pending.new.synced content len (λ i lt. c.copy_pending.ensures i (λ u. ap (λ (l : List ℕ). get_or l i 0) (c.deref_mut.ensures.value ∙ ext) ∙ extended old content c.args.pending.now c.requires.image i u)) in
    take_at c.copy_pending.new.synced _ c.extend_from_slice.new.self.len (omega (arith, c.extend_from_slice.new.self.ok.0)) ∙ all
