use Rattle.std.proofs.Common.{◌≡◌, inr, ℕ, List, ◌+◌, length, drop, Option, Some, None, Bool, true, false, not, if◌then◌else◌, sym, ◌∙◌, ap, arith}
use Rattle.net_base.specs.declared.names.Identity.{Identity}
use Rattle.disk_journal.specs.Journal.{record_limit, bodies, extent, damage, damaged, placed}
use Rattle.disk_journal.proofs.Crash.{found_long, journal_by}
use Rattle.disk_journal.proofs.Fresh.{same_identity, limit_is, refused_foreign, refused_node, refused_harm}
use Rattle.disk_journal.proofs.open.judge.Goals as goal

pub returns-in_default-clause-refused : goal.returns-in_default-clause-refused
returns-in_default-clause-refused c = inr (refused_foreign c.args.id.now c.args.bytes.now c.requires (sym c.found.ensures ∙ c.in_default.is))

pub returns-then-not-is_same-clause-refused : goal.returns-then-not-is_same-clause-refused
returns-then-not-is_same-clause-refused c = inr (refused_node c.args.id.now c.args.bytes.now c.requires c.in-Some.node (sym c.found.ensures ∙ c.in-Some.is) (sym c.is_same.ensures ∙ c.if-not-is_same.true))

pub read_records-requires : goal.read_records-requires
read_records-requires c = omega (arith, found_long c.in-Some.node c.args.bytes.now (sym c.found.ensures ∙ c.in-Some.is))

harm_closed : (harm : Option ℕ) (closed : Bool) (at : ℕ) → harm ≡ (if closed then None else Some at) → not closed ≡ false → harm ≡ None
harm_closed harm true at is e = is
harm_closed harm false at is e = absurd (cc e)

harm_broken : (harm : Option ℕ) (closed : Bool) (at : ℕ) → harm ≡ (if closed then None else Some at) → not closed ≡ true → harm ≡ Some at
harm_broken harm true at is e = absurd (cc e)
harm_broken harm false at is e = is

pub returns-then-not-reading-clause-refused : goal.returns-then-not-reading-clause-refused
returns-then-not-reading-clause-refused c =
    let harm = ap (λ (n : ℕ). damage n 16 (drop 16 c.args.bytes.now)) limit_is ∙ c.in_ok-reading.ensures.closed in
    let at = harm_broken (damage record_limit 16 (drop 16 c.args.bytes.now)) c.in_ok-reading.reading.is_closed c.in_ok-reading.reading.gate harm c.if-not-reading.true in
    inr (refused_harm c.args.id.now c.args.bytes.now c.requires c.in-Some.node (sym c.found.ensures ∙ c.in-Some.is) (sym c.is_same.ensures ∙ c.if-not-is_same.false) ∙ ap damaged at)

pub returns-clause-opened : goal.returns-clause-opened
returns-clause-opened c =
    let harm = ap (λ (n : ℕ). damage n 16 (drop 16 c.args.bytes.now)) limit_is ∙ c.in_ok-reading.ensures.closed in
    let none = harm_closed (damage record_limit 16 (drop 16 c.args.bytes.now)) c.in_ok-reading.reading.is_closed c.in_ok-reading.reading.gate harm c.if-not-reading.false in
    refused_harm c.args.id.now c.args.bytes.now c.requires c.in-Some.node (sym c.found.ensures ∙ c.in-Some.is) (sym c.is_same.ensures ∙ c.if-not-is_same.false) ∙ ap damaged none

pub returns-clause-sound : goal.returns-clause-sound
returns-clause-sound c =
    let harm = ap (λ (n : ℕ). damage n 16 (drop 16 c.args.bytes.now)) limit_is ∙ c.in_ok-reading.ensures.closed in
    let same = same_identity c.in-Some.node c.args.id.now (sym c.is_same.ensures ∙ c.if-not-is_same.false) in
    record {
      named = sym c.found.ensures ∙ c.in-Some.is ∙ ap (λ (x : Identity). Some x) same;
      ends = harm_closed (damage record_limit 16 (drop 16 c.args.bytes.now)) c.in_ok-reading.reading.is_closed c.in_ok-reading.reading.gate harm c.if-not-reading.false;
    }

pub returns-clause-list : goal.returns-clause-list
returns-clause-list c = c.in_ok-reading.ensures.list ∙ ap (λ (n : ℕ). placed 16 (bodies n (drop 16 c.args.bytes.now))) (sym limit_is) ∙ ap (placed 16) (sym (journal_by c.in-Some.node c.args.bytes.now (sym c.found.ensures ∙ c.in-Some.is)))

pub returns-clause-count : goal.returns-clause-count
returns-clause-count c = c.in_ok-reading.ensures.count ∙ ap (λ (n : ℕ). length (bodies n (drop 16 c.args.bytes.now))) (sym limit_is) ∙ ap (λ (l : List (List ℕ)). length l) (sym (journal_by c.in-Some.node c.args.bytes.now (sym c.found.ensures ∙ c.in-Some.is)))

pub returns-clause-gate : goal.returns-clause-gate
returns-clause-gate c = c.in_ok-reading.ensures.gate ∙ ap (λ (n : ℕ). 16 + extent n (drop 16 c.args.bytes.now)) (sym limit_is)
