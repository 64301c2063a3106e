-- Requests of one id agree where no digests collide.
use Rattle.std.proofs.Common.{◌≡◌, ℕ, List, [], ◌∷◌, ◌++◌, Option, Some, None, is_some, true, refl}
use Rattle.std.specs.List.{AllByRecursion}
use Rattle.net_base.specs.declared.values.Party.{Party}
use Rattle.net_base.proofs.Lists.{all_push}
use Rattle.ledger_types.specs.declared.notary.Request.{Request}
use Rattle.ledger_types.specs.declared.notary.Entry.{Entry}
use Rattle.ledger_types.specs.Names.{is_party}
use Rattle.tx_tear.specs.Hashed.{AreApart}
use Rattle.tx_tear.proofs.Sights.{two_sights}
use Rattle.notary_book.specs.Agreement.{Agree, AgreesWith, AgreeAfter, AllAgree, IsHashedAmong}

-- who names me names a notary
named : (me : Party) (o : Option Party) → is_party me o ≡ true → is_some o ≡ true
named me None e = e
named me (Some p) e = refl

agree : (hashed : List (List ℕ)) (me : Party) (p q : Request) → AreApart hashed → IsHashedAmong hashed p → IsHashedAmong hashed q → Agree me p q
agree hashed me p q apart one other same v w sees_one sees_other mine_one mine_other =
    two_sights hashed p.torn q.torn v w apart one.1 other.1 one.0 other.0 same sees_one sees_other (named me v.notary mine_one) (named me w.notary mine_other)

pub agrees_with : (hashed : List (List ℕ)) (me : Party) (q : Request) (entries : List Entry) → AreApart hashed → IsHashedAmong hashed q → AllByRecursion (λ e. IsHashedAmong hashed e.request) entries → AgreesWith me q entries
agrees_with hashed me q [] apart one all = tt
agrees_with hashed me q (e ∷ entries) apart one all = (agree hashed me q e.request apart one all.0, agrees_with hashed me q entries apart one all.1)

agree_after : (hashed : List (List ℕ)) (me : Party) (before es : List Entry) → AreApart hashed → AllByRecursion (λ e. IsHashedAmong hashed e.request) before → AllByRecursion (λ e. IsHashedAmong hashed e.request) es → AgreeAfter me before es
agree_after hashed me before [] apart there all = tt
agree_after hashed me before (e ∷ es) apart there all =
    (agrees_with hashed me e.request before apart all.0 there, agree_after hashed me (before ++ e ∷ []) es apart (all_push (λ d. IsHashedAmong hashed d.request) before e there all.0) all.1)

pub entries_agree : (hashed : List (List ℕ)) (me : Party) (book : List Entry) → AreApart hashed → AllByRecursion (λ e. IsHashedAmong hashed e.request) book → AllAgree me book
entries_agree hashed me book apart all = agree_after hashed me [] book apart tt all
