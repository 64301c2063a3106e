-- How many sessions there are after a change, and that small numbers are within their range.
use Rattle.std.proofs.Common.{◌≡◌, ℕ, ◌+◌, ◌≤◌, List, [], ◌∷◌, Option, Some, None, refl, ◌∙◌, cond, length, arith, length-append}
use Rattle.std.proofs.lemmas.List.{length-map}
use Rattle.net_base.specs.declared.names.Key.{Key}
use Rattle.net_base.specs.declared.values.Party.{Party}
use Rattle.session_wire.specs.declared.change.SentItem.{SentItem}
use Rattle.session_wire.specs.Sessions.{Session, key_eq, changed_at, new_session, with_sent, with_taken, opened_on, sent_on, taken_on}

pub opened_count : (o : Option (Key × Party)) (owner : Option ℕ) (list : List Session) → length (opened_on o owner list) ≤ length list + 1
opened_count None owner list = omega arith
opened_count (Some o) owner list = let more = length-append list (new_session o.0 o.1 owner [] ∷ []) in omega (arith, more)

pub sent_count : (stamp : ℕ) (items : List SentItem) (list : List Session) → length (sent_on stamp items list) ≡ length list
sent_count stamp [] list = refl
sent_count stamp (x ∷ xs) list = sent_count stamp xs (changed_at x.key (with_sent (record { body = x.body; stamp = stamp })) list) ∙ length-map list (λ s. cond (key_eq x.key s.key) (with_sent (record { body = x.body; stamp = stamp }) s) s)

pub taken_count : (o : Option (Key × ℕ)) (list : List Session) → length (taken_on o list) ≡ length list
taken_count None list = refl
taken_count (Some t) list = length-map list (λ s. cond (key_eq t.0 s.key) (with_taken t.1 s) s)
