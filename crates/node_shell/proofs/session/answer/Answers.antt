use Rattle.std.proofs.Common.{◌∙◌, sym, refl, inl, inr}
use Rattle.node_shell.specs.Replies.{reply_text}
use Rattle.node_shell.proofs.session.answer.Goals as goal

pub returns-in_default-clause-comes : goal.returns-in_default-clause-comes
returns-in_default-clause-comes g c = (inl (record { responds = c.in_default.ensures.responds; worlds = c.in_default.ensures.replies }), refl)

pub returns-in_default-to_string-clause-comes : goal.returns-in_default-to_string-clause-comes
returns-in_default-to_string-clause-comes g c = (inr (reply_text c.in-Ok.reply, record { reply = c.in-Ok.reply; responds = c.in-Ok.ensures.responds; spelt = refl; worlds = c.in-Ok.ensures.replies }), refl)

pub returns-in-Ok-write_all-clause-comes : goal.returns-in-Ok-write_all-clause-comes
returns-in-Ok-write_all-clause-comes g c =
    let spelt = c.as_bytes.ensures.value ∙ c.in-Ok-to_string.ensures.ok in
    (c.as_bytes.result.now, record { reply = c.in-Ok.reply; responds = c.in-Ok.ensures.responds; spelt = spelt; worlds = c.in-Ok.ensures.replies }, c.in-Ok-write_all.ensures.ok)

pub returns-clause-comes : goal.returns-clause-comes
returns-clause-comes g c =
    let why = c.in-Err.ensures.err in
    let spelt = sym why.2 ∙ c.as_bytes.ensures.value ∙ c.in-Ok-to_string.ensures.ok in
    (why.0, why.1, record { reply = c.in-Ok.reply; responds = c.in-Ok.ensures.responds; spelt = spelt; worlds = c.in-Ok.ensures.replies }, why.3, why.4)
