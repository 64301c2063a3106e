-- What always holds of a table's parts is kept.
use Rattle.std.proofs.Common.{◌≡◌, ℕ, ◌+◌, ◌<◌, Bool, true, false, not, ◌||◌, List, [], ◌∷◌, ◌++◌, Option, Some, None, refl, sym, ◌∙◌, ap, subst, cond, length, filter, arith, is_some, nat_lt}
use Rattle.std.proofs.lemmas.Bool.{and_parts, and_from, ltb-true, lt-ltb}
use Rattle.std.proofs.lemmas.Cmp.{nat_eq_equiv, on_equiv, and_equiv}
use Rattle.std.proofs.lemmas.List.{map-append}
use Rattle.std.proofs.lemmas.Map.Keys.{IsDistinct-push}
use Rattle.std.proofs.lemmas.Map.Made.{is_some-lookup}
use Rattle.std.specs.Cmp.{IsEquivalence}
use Rattle.std.specs.List.{IsDistinct, list_all}
use Rattle.std.specs.Map.{lookup, set_value, keys_of}
use Rattle.net_base.specs.declared.names.Key.{Key}
use Rattle.net_base.specs.declared.values.Party.{Party}
use Rattle.session_wire.specs.declared.body.Body.{Body}
use Rattle.session_wire.specs.Sessions.{key_eq}
use Rattle.session_wire.specs.Rules.{is_opened_by}
use Rattle.session_table.specs.Kept.{place_of, is_below, IsKept, Rewrites, one_came, one_sent}
use Rattle.session_table.specs.declared.standing.Standing.{Standing}
use Rattle.session_table.specs.declared.standing.Place.{Place}
use Rattle.session_table.specs.declared.standing.Posted.{Posted}
use Rattle.session_table.proofs.Found.{count_is}
use Rattle.session_table.proofs.Written.{map_set}
use Rattle.session_table.proofs.Items.{numbered_more, counted_more, counted_same, counted_begun}

-- no two keys are equal that aren't one
pub key_laws : IsEquivalence key_eq
key_laws = and_equiv (on_equiv (λ (k : Key). k.initiator.0) nat_eq_equiv) (on_equiv (λ (k : Key). k.number) nat_eq_equiv)

-- the keys stay where one session stands otherwise
pub keys_set : (k : Key) (lines : List (Key × Standing)) (v w : Standing) → Some v ≡ lookup (key_eq k) lines → keys_of (set_value (key_eq k) lines w) ≡ keys_of lines
keys_set k lines v w there = map_set (λ e. e.0) k lines v w (sym there) (λ q. refl)

-- another item arrived
pub kept_came : (me : Party) (opened : ℕ) (lines after : List (Key × Standing)) (sent : List (Place × Posted)) (came : List (Place × Body)) (k : Key) (v : Standing) (x : Body)
    → IsKept me opened lines sent came → Some v ≡ lookup (key_eq k) lines → Rewrites k one_came lines after → IsKept me opened after sent (came ++ (place_of k v.came, x) ∷ [])
kept_came me opened lines after sent came k v x kept there rewrites =
    let w = one_came v in
    let keys = keys_set k lines v w there in
    subst (λ (l : List (Key × Standing)). IsKept me opened l sent (came ++ (place_of k v.came, x) ∷ [])) (sym (rewrites.found v there)) (record {
      sent_numbered = kept.sent_numbered;
      came_numbered = numbered_more came k v.came x kept.came_numbered (sym (count_is (λ s. s.came) lines came k v kept.came_counted there));
      sent_counted = counted_same (λ s. s.sent) lines sent k v w there refl kept.sent_counted;
      came_counted = counted_more (λ s. s.came) lines came k v.came x v w there refl kept.came_counted;
      opened_is = kept.opened_is ∙ ap (λ (l : List Key). length (filter (is_opened_by me) l)) (sym keys);
      below = ap (list_all (is_below me opened)) keys ∙ kept.below;
      unique = subst (IsDistinct key_eq) (sym keys) kept.unique;
    })

-- another item was sent
pub kept_sent : (me : Party) (opened : ℕ) (lines after : List (Key × Standing)) (sent : List (Place × Posted)) (came : List (Place × Body)) (k : Key) (v : Standing) (n : ℕ) (x : Posted)
    → IsKept me opened lines sent came → Some v ≡ lookup (key_eq k) lines → n ≡ v.sent → Rewrites k one_sent lines after → IsKept me opened after (sent ++ (place_of k n, x) ∷ []) came
kept_sent me opened lines after sent came k v n x kept there at rewrites =
    let w = one_sent v in
    let keys = keys_set k lines v w there in
    subst (λ (l : List (Key × Standing)). IsKept me opened l (sent ++ (place_of k n, x) ∷ []) came) (sym (rewrites.found v there)) (record {
      sent_numbered = numbered_more sent k n x kept.sent_numbered (at ∙ sym (count_is (λ s. s.sent) lines sent k v kept.sent_counted there));
      came_numbered = kept.came_numbered;
      sent_counted = counted_more (λ s. s.sent) lines sent k n x v w there refl kept.sent_counted;
      came_counted = counted_same (λ s. s.came) lines came k v w there refl kept.came_counted;
      opened_is = kept.opened_is ∙ ap (λ (l : List Key). length (filter (is_opened_by me) l)) (sym keys);
      below = ap (list_all (is_below me opened)) keys ∙ kept.below;
      unique = subst (IsDistinct key_eq) (sym keys) kept.unique;
    })

-- neither an item arrived nor was one sent
pub kept_same : (me : Party) (opened : ℕ) (lines after : List (Key × Standing)) (sent : List (Place × Posted)) (came : List (Place × Body)) (k : Key) (change : Standing → Standing)
    → ((v : Standing) → (change v).sent ≡ v.sent) → ((v : Standing) → (change v).came ≡ v.came) → IsKept me opened lines sent came → Rewrites k change lines after → IsKept me opened after sent came
kept_same me opened lines after sent came k change sends comes kept rewrites = by (lookup (key_eq k) lines) refl
  where
    by : (o : Option Standing) → lookup (key_eq k) lines ≡ o → IsKept me opened after sent came
    by None is = subst (λ (l : List (Key × Standing)). IsKept me opened l sent came) (sym (rewrites.lost (sym is))) kept
    by (Some v) is =
        let w = change v in
        let keys = keys_set k lines v w (sym is) in
        subst (λ (l : List (Key × Standing)). IsKept me opened l sent came) (sym (rewrites.found v (sym is))) (record {
          sent_numbered = kept.sent_numbered;
          came_numbered = kept.came_numbered;
          sent_counted = counted_same (λ s. s.sent) lines sent k v w (sym is) (sends v) kept.sent_counted;
          came_counted = counted_same (λ s. s.came) lines came k v w (sym is) (comes v) kept.came_counted;
          opened_is = kept.opened_is ∙ ap (λ (l : List Key). length (filter (is_opened_by me) l)) (sym keys);
          below = ap (list_all (is_below me opened)) keys ∙ kept.below;
          unique = subst (IsDistinct key_eq) (sym keys) kept.unique;
        })

-- how many were opened, with one session more
opened_more : (me : Party) (lines : List (Key × Standing)) (k : Key) (w : Standing) → length (filter (is_opened_by me) (keys_of (lines ++ (k, w) ∷ []))) ≡ length (filter (is_opened_by me) (keys_of lines)) + cond (is_opened_by me k) 1 0
opened_more me [] k w = by (is_opened_by me k)
  where
    by : (b : Bool) → length (cond b (k ∷ []) []) ≡ 0 + cond b 1 0
    by true = refl
    by false = refl
opened_more me (e ∷ es) k w = by (is_opened_by me e.0) (opened_more me es k w)
  where
    by : (b : Bool) → length (filter (is_opened_by me) (keys_of (es ++ (k, w) ∷ []))) ≡ length (filter (is_opened_by me) (keys_of es)) + cond (is_opened_by me k) 1 0 → length (cond b (e.0 ∷ filter (is_opened_by me) (keys_of (es ++ (k, w) ∷ []))) (filter (is_opened_by me) (keys_of (es ++ (k, w) ∷ [])))) ≡ length (cond b (e.0 ∷ filter (is_opened_by me) (keys_of es)) (filter (is_opened_by me) (keys_of es))) + cond (is_opened_by me k) 1 0
    by true rest = omega (arith, rest)
    by false rest = rest

below_lift : (me : Party) (n m : ℕ) (q : Key) → n < m + 1 → is_below me n q ≡ true → is_below me m q ≡ true
below_lift me n m q less h = by (is_opened_by me q) refl
  where
    by : (b : Bool) → is_opened_by me q ≡ b → is_below me m q ≡ true
    by false is = rw is refl
    by true is =
        let small : nat_lt q.number n ≡ true = subst (λ (b : Bool). (not b || nat_lt q.number n) ≡ true) is h in
        rw is (lt-ltb _ _ (omega (arith, ltb-true _ _ small, less)))

below_more : (me : Party) (n m : ℕ) (lines : List (Key × Standing)) (k : Key) (w : Standing) → n < m + 1 → (is_opened_by me k ≡ true → k.number < m) → list_all (is_below me n) (keys_of lines) ≡ true → list_all (is_below me m) (keys_of (lines ++ (k, w) ∷ [])) ≡ true
below_more me n m [] k w less own all = and_from _ _ (by (is_opened_by me k) refl) refl
  where
    by : (b : Bool) → is_opened_by me k ≡ b → is_below me m k ≡ true
    by false is = rw is refl
    by true is = rw is (lt-ltb _ _ (own is))
below_more me n m (e ∷ es) k w less own all =
    let both = and_parts (is_below me n e.0) (list_all (is_below me n) (keys_of es)) all in
    and_from _ _ (below_lift me n m e.0 less both.0) (below_more me n m es k w less own both.1)

-- a session without items was made
pub kept_begun : (me : Party) (opened : ℕ) (lines : List (Key × Standing)) (sent : List (Place × Posted)) (came : List (Place × Body)) (k : Key) (w : Standing)
    → IsKept me opened lines sent came → lookup (key_eq k) lines ≡ None → (is_opened_by me k ≡ true → k.number ≡ opened) → w.sent ≡ 0 → w.came ≡ 0 → IsKept me (opened + cond (is_opened_by me k) 1 0) (lines ++ (k, w) ∷ []) sent came
kept_begun me opened lines sent came k w kept free next none_sent none_came = record {
  sent_numbered = kept.sent_numbered;
  came_numbered = kept.came_numbered;
  sent_counted = counted_begun (λ s. s.sent) lines sent k w none_sent kept.sent_counted;
  came_counted = counted_begun (λ s. s.came) lines came k w none_came kept.came_counted;
  opened_is = ap (λ (n : ℕ). n + cond (is_opened_by me k) 1 0) kept.opened_is ∙ sym (opened_more me lines k w);
  below = below_more me opened (opened + cond (is_opened_by me k) 1 0) lines k w (omega arith) (λ own. let at = next own in rw own (omega (arith, at))) kept.below;
  unique = subst (IsDistinct key_eq) (sym (map-append (λ (e : Key × Standing). e.0) lines ((k, w) ∷ []))) (IsDistinct-push key_laws (keys_of lines) k kept.unique (sym (is_some-lookup (key_eq k) lines) ∙ ap is_some free));
}
