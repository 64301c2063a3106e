use Rattle.std.proofs.Common.{◌≡◌, rules, arith, [], ◌∷◌, ◌++◌}
use Rattle.node_shell.proofs.Stories.{progress_byte, progress_kept, run_unread, run_long, run_unkept}
use Rattle.node_shell.proofs.session.take_byte.Goals as goal

pub returns-in-Ok-None-clause-err : goal.returns-in-Ok-None-clause-err
returns-in-Ok-None-clause-err g c start left0 written0 h =
    let end = rw c.in-Ok-None.field-0-is at c.in-Ok-None.ensures.bytes in
    (rw c.as_slice.ensures.value at c.answer_last-status.ensures.ended) start left0 _ written0 _ c.requires.within end.1 (progress_kept h end.0)

pub returns-in-Err-clause-err : goal.returns-in-Err-clause-err
returns-in-Err-clause-err g c start left0 written0 h = run_unread h c.in-Err.ensures.bytes c.requires.within

pub returns-then-count-eq-MOST_BYTES-clause-err : goal.returns-then-count-eq-MOST_BYTES-clause-err
returns-then-count-eq-MOST_BYTES-clause-err g c start left0 written0 h =
    run_long h c.in-Ok-Some.byte (rw c.in-Ok-Some.field-0-is at c.in-Ok-Some.ensures.bytes) c.if-count-eq-MOST_BYTES.true

pub returns-then-is_err-clause-err : goal.returns-then-is_err-clause-err
returns-then-is_err-clause-err g c start left0 written0 h =
    run_unkept h c.in-Ok-Some.byte (rw c.in-Ok-Some.field-0-is at c.in-Ok-Some.ensures.bytes) c.if-byte-ne10.true (omega arith)

pub returns-then-byte-ne10-clause-ok : goal.returns-then-byte-ne10-clause-ok
returns-then-byte-ne10-clause-ok g c start left0 written0 h =
    let pushed : c.push.new.self.items ≡ c.args.line.now.items ++ c.in-Ok-Some.byte ∷ [] = search rules in
    rw pushed (progress_byte h c.in-Ok-Some.byte (rw c.in-Ok-Some.field-0-is at c.in-Ok-Some.ensures.bytes) c.if-byte-ne10.true)

pub returns-in-Err-answer_line-clause-err : goal.returns-in-Err-answer_line-clause-err
returns-in-Err-answer_line-clause-err g c start left0 written0 h =
    let feed : c.in-Ok-Some.byte ≡ 10 = c.if-byte-ne10.false in
    (rw c.as_slice-2.ensures.value at c.in-Err-answer_line.ensures.err) start left0 _ _ written0 _ (omega arith) (rw (c.in-Ok-Some.field-0-is, feed) at c.in-Ok-Some.ensures.bytes) h

pub returns-clause-ok : goal.returns-clause-ok
returns-clause-ok g c start left0 written0 h =
    let feed : c.in-Ok-Some.byte ≡ 10 = c.if-byte-ne10.false in
    rw c.clear.ensures.items ((rw c.as_slice-2.ensures.value at c.in_default.ensures.ok) start left0 _ _ written0 _ (omega arith) (rw (c.in-Ok-Some.field-0-is, feed) at c.in-Ok-Some.ensures.bytes) h)
