-- The acknowledged numbers over sessions of which some are new.
use Rattle.std.proofs.Common.{◌≡◌, ℕ, ◌+◌, List, [], ◌∷◌, ◌++◌, length, Option, Some, None, Bool, true, false, cond, refl, sym, ◌∙◌, ap, arith, length-append, append_assoc}
use Rattle.std.specs.List.{AllByRecursion}
use Rattle.std.proofs.lemmas.List.{length-map}
use Rattle.net_base.specs.declared.names.Key.{Key}
use Rattle.net_base.specs.declared.values.Party.{Party}
use Rattle.session_wire.specs.declared.body.Body.{Body}
use Rattle.session_wire.specs.declared.change.SessionChange.{SessionChange}
use Rattle.session_wire.specs.Sessions.{Session, key_eq, changed_at, new_session, with_came, opened_on, sent_on}
use Rattle.session_wire.specs.Rules.{is_init}
use Rattle.session_table.specs.Changes.{answered_for, came_on, begun_on, changed_by, acks_of_came, acks_of_opened, acks_after}
use Rattle.session_table.specs.Tables.{raised}
use Rattle.session_table.proofs.Few.{sent_count, taken_count}
use Rattle.node_tables.specs.Seen.{padded}

-- ---- numbers of new sessions

abbrev AreZero : List ℕ → Type 0
AreZero ns = AllByRecursion (λ n. n ≡ 0) ns

zeros_more : (ms ns : List ℕ) → AreZero ms → AreZero ns → AreZero (ms ++ ns)
zeros_more [] ns h k = k
zeros_more (m ∷ ms) ns h k = (h.0, zeros_more ms ns h.1 k)

-- those of the new sessions are zeros behind the earlier ones
padded_behind : (acked more : List ℕ) (ss : List Session) → length acked + length more ≡ length ss → AreZero more → padded acked ss ≡ acked ++ more
padded_behind [] [] [] is zero = refl
padded_behind [] [] (s ∷ ss) is zero = absurd (omega (arith, is))
padded_behind [] (m ∷ ms) [] is zero = absurd (omega (arith, is))
padded_behind [] (m ∷ ms) (s ∷ ss) is zero = ap (λ (l : List ℕ). 0 ∷ l) (padded_behind [] ms ss (omega (arith, is)) zero.1) ∙ ap (λ (n : ℕ). n ∷ ms) (sym zero.0)
padded_behind (n ∷ ns) more [] is zero = absurd (omega (arith, is))
padded_behind (n ∷ ns) more (s ∷ ss) is zero = ap (λ (l : List ℕ). n ∷ l) (padded_behind ns more ss (omega (arith, is)) zero)

came_zeros : (key : Option Key) (came : Option Body) → AreZero (acks_of_came key came)
came_zeros None None = tt
came_zeros None (Some body) = tt
came_zeros (Some key) None = tt
came_zeros (Some key) (Some body) = elim (is_init body) as (λ b. AreZero (cond b (0 ∷ []) [])) [ true ↦ (refl, tt) | false ↦ tt ]

came_grows : (key : Option Key) (came : Option Body) (owner : Option ℕ) (ss : List Session) → length (came_on key came owner ss) ≡ length ss + length (acks_of_came key came)
came_grows None None owner ss = omega arith
came_grows None (Some body) owner ss = omega arith
came_grows (Some key) None owner ss = omega arith
came_grows (Some key) (Some body) owner ss = by (is_init body)
  where
    by : (b : Bool) → length (cond b (ss ++ new_session key key.initiator owner (body ∷ []) ∷ []) (changed_at key (with_came (body ∷ [])) ss)) ≡ length ss + length {A = ℕ} (cond b (0 ∷ []) [])
    by true = let longer = length-append ss (new_session key key.initiator owner (body ∷ []) ∷ []) in omega (arith, longer)
    by false = let same = length-map ss (λ s. cond (key_eq key s.key) (with_came (body ∷ []) s) s) in omega (arith, same)

opened_zeros : (opened : Option (Key × Party)) → AreZero (acks_of_opened opened)
opened_zeros None = tt
opened_zeros (Some opened) = (refl, tt)

opened_grows : (opened : Option (Key × Party)) (owner : Option ℕ) (ss : List Session) → length (opened_on opened owner ss) ≡ length ss + length (acks_of_opened opened)
opened_grows None owner ss = omega arith
opened_grows (Some opened) owner ss = let longer = length-append ss (new_session opened.0 opened.1 owner [] ∷ []) in omega (arith, longer)

-- a change makes as many numbers as sessions
changed_grows : (stamp : ℕ) (change : SessionChange) (ss : List Session) → length (changed_by stamp change ss) ≡ length ss + length (acks_of_came change.came_key change.came) + length (acks_of_opened change.opened)
changed_grows stamp change ss =
    let came = came_on change.came_key change.came (answered_for change.owner change.sent) ss in
    let begun = begun_on change ss in
    let one = came_grows change.came_key change.came (answered_for change.owner change.sent) ss in
    let two = opened_grows change.opened (Some change.owner) came in
    let three = sent_count stamp change.sent begun in
    let four = taken_count change.taken (sent_on stamp change.sent begun) in
    omega (arith, one, two, three, four)

module _ (stamp : ℕ) (change : SessionChange) (acked : List ℕ) (ss : List Session) (same : length acked ≡ length ss) where
  -- the numbers after a change are those before, and zeros
  pub acks_padded : acks_after change acked ≡ padded acked (changed_by stamp change ss)
  acks_padded =
      let came = acks_of_came change.came_key change.came in
      let opened = acks_of_opened change.opened in
      let grows = changed_grows stamp change ss in
      let both = length-append came opened in
      append_assoc acked came opened ∙ sym (padded_behind acked (came ++ opened) (changed_by stamp change ss) (omega (arith, grows, both, same)) (zeros_more came opened (came_zeros change.came_key change.came) (opened_zeros change.opened)))

  -- and there are as many as sessions
  pub acks_length : length (acks_after change acked) ≡ length (changed_by stamp change ss)
  acks_length =
      let came = acks_of_came change.came_key change.came in
      let opened = acks_of_opened change.opened in
      let grows = changed_grows stamp change ss in
      let one = length-append acked came in
      let two = length-append (acked ++ came) opened in
      omega (arith, grows, one, two, same)

-- what is acknowledged leaves as many numbers as sessions
pub raised_length : (me : Party) (key : Key) (direction upto : ℕ) (ss : List Session) (ns : List ℕ) → length ns ≡ length ss → length (raised me key direction upto ss ns) ≡ length ss
raised_length me key direction upto [] ns same = refl
raised_length me key direction upto (s ∷ ss) [] same = same
raised_length me key direction upto (s ∷ ss) (n ∷ ns) same = let rest = raised_length me key direction upto ss ns (omega (arith, same)) in omega (arith, rest)

-- ---- nothing is acknowledged

padded_again : (a b : List Session) → padded (padded [] a) b ≡ padded [] b
padded_again [] [] = refl
padded_again (x ∷ xs) [] = refl
padded_again [] (y ∷ ys) = refl
padded_again (x ∷ xs) (y ∷ ys) = ap (λ (l : List ℕ). 0 ∷ l) (padded_again xs ys)

-- nor is it once sessions were added
pub none_more : (a b : List Session) (old new : List ℕ) → old ≡ padded [] a → new ≡ padded old b → new ≡ padded [] b
none_more a b old new none is = is ∙ ap (λ (l : List ℕ). padded l b) none ∙ padded_again a b
