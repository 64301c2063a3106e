use Rattle.std.proofs.Common.{◌≡◌, ℕ, List, ◌+◌, ◌-◌, ◌++◌, ◌∷◌, [], drop, length, ap, ◌∙◌, sym, arith, Bool, Some, None, if◌then◌else◌}
use Rattle.std.proofs.lemmas.List.{append-nil}
use Rattle.disk_journal.specs.Journal.{placed, size_of, extent, bodies}
use Rattle.disk_journal.proofs.Sizes.{length-placed, size-placed}
use Rattle.disk_journal.proofs.Scans.{is_next, stops, within, extent_next, damage_next, count_next, list_next}
use Rattle.disk_journal.proofs.scan.read_records.Goals as goal

pub body_at-requires : goal.body_at-requires
body_at-requires c =
    let is = is_next c.records.left (drop c.records.at c.args.bytes.now) c.in-Some.n (sym c.next_at.ensures ∙ c.in-Some.is) in
    omega (arith, within c.records.left c.records.at c.in-Some.n c.args.bytes.now is)

pub overflow_add-at : goal.overflow_add-at
overflow_add-at c =
    let is = is_next c.records.left (drop c.records.at c.args.bytes.now) c.in-Some.n (sym c.next_at.ensures ∙ c.in-Some.is) in
    omega (arith, within c.records.left c.records.at c.in-Some.n c.args.bytes.now is)

pub overflow_add-at-in-Some : goal.overflow_add-at-in-Some
overflow_add-at-in-Some c =
    let is = is_next c.records.left (drop c.records.at c.args.bytes.now) c.in-Some.n (sym c.next_at.ensures ∙ c.in-Some.is) in
    omega (arith, within c.records.left c.records.at c.in-Some.n c.args.bytes.now is)

pub records-preserved : goal.records-preserved
records-preserved c =
    let left = c.records.left in
    let at = c.records.at in
    let bytes = c.args.bytes.now in
    let inv = c.records.invariant in
    let is = is_next left (drop at bytes) c.in-Some.n (sym c.next_at.ensures ∙ c.in-Some.is) in
    record {
      from = omega (arith, inv.from);
      within = within left at c.in-Some.n bytes is;
      fewer = omega (arith, inv.fewer);
      list = inv.list ∙ list_next left at c.in-Some.n bytes is c.records.list ∙ ap (λ (l : List (ℕ × List ℕ)). l ++ placed (at + (5 + c.in-Some.n)) (bodies (left - 1) (drop (at + (5 + c.in-Some.n)) bytes))) (ap (λ (b : List ℕ). c.records.list ++ (at, b) ∷ []) (sym c.in_ok-body_at.ensures) ∙ sym c.in_ok-push.ensures.ok);
      count = omega (arith, inv.count, count_next left at c.in-Some.n bytes is, is.more);
      gate = omega (arith, inv.gate, extent_next left at c.in-Some.n bytes is);
      harm = inv.harm ∙ damage_next left at c.in-Some.n bytes is;
    }

pub returns-clause-list : goal.returns-clause-list
returns-clause-list c =
    let end = stops c.records.left c.records.at (drop c.records.at c.args.bytes.now) (sym c.next_at.ensures ∙ c.in_default.is) in
    sym (c.records.invariant.list ∙ ap (λ (l : List (List ℕ)). c.records.list ++ placed c.records.at l) end.0 ∙ append-nil c.records.list)

pub returns-clause-count : goal.returns-clause-count
returns-clause-count c =
    let end = stops c.records.left c.records.at (drop c.records.at c.args.bytes.now) (sym c.next_at.ensures ∙ c.in_default.is) in
    omega (arith, c.records.invariant.count, ap (λ (l : List (List ℕ)). length l) end.0)

pub returns-clause-gate : goal.returns-clause-gate
returns-clause-gate c =
    let end = stops c.records.left c.records.at (drop c.records.at c.args.bytes.now) (sym c.next_at.ensures ∙ c.in_default.is) in
    omega (arith, c.records.invariant.gate, end.1)

pub returns-clause-closed : goal.returns-clause-closed
returns-clause-closed c =
    let end = stops c.records.left c.records.at (drop c.records.at c.args.bytes.now) (sym c.next_at.ensures ∙ c.in_default.is) in
    c.records.invariant.harm ∙ end.2 ∙ ap (λ (b : Bool). if b then None else Some c.records.at) (sym c.closed_at.ensures)

pub returns-clause-sizes : goal.returns-clause-sizes
returns-clause-sizes c =
    let limit = c.args.limit in
    let rest = drop c.args.start c.args.bytes.now in
    let list : c.records.list ≡ placed c.args.start (bodies limit rest) = returns-clause-list c in
    let count : limit - c.records.left ≡ length (bodies limit rest) = returns-clause-count c in
    let gate : c.records.at ≡ c.args.start + extent limit rest = returns-clause-gate c in (
      count ∙ sym (length-placed c.args.start (bodies limit rest)) ∙ ap (λ (l : List (ℕ × List ℕ)). length l) (sym list),
      gate ∙ ap (λ (k : ℕ). c.args.start + k) (sym (size-placed limit c.args.start rest) ∙ ap size_of (sym list)),
      omega arith,
    )
