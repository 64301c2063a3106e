-- The sessions of a flow among those of all.
use Rattle.std.proofs.Common.{◌≡◌, ℕ, ◌+◌, ◌≤◌, Bool, true, false, ◌&&◌, List, [], ◌∷◌, ◌++◌, Option, Some, None, refl, sym, ◌∙◌, ap, cond, map, length, slice_get, arith, nat_eq, eq-eqb, length-append, true≢false, append-nil}
use Rattle.std.proofs.lemmas.Bool.{eqb-true, ne_eqb}
use Rattle.std.proofs.lemmas.List.{append_assoc, map-append}
use Rattle.std.specs.Map.{lookup}
use Rattle.std.specs.Option.{option_or, unwrap_or}
use Rattle.net_base.specs.declared.names.Key.{Key}
use Rattle.session_wire.specs.declared.body.Body.{Body}
use Rattle.session_wire.specs.Sessions.{Session, key_eq}
use Rattle.session_table.specs.Kept.{session_at, owner_of, Rewrites}
use Rattle.session_table.specs.Owned.{flow_place, flow_place_eq, pair_of, keys_owned, IsFlowIndex, owner_pair, owners}
use Rattle.session_wire.specs.Rules.{is_owner, sessions_of}
use Rattle.session_table.specs.declared.owned.FlowPlace.{FlowPlace}
use Rattle.session_table.specs.declared.standing.Standing.{Standing}
use Rattle.session_table.specs.declared.standing.Place.{Place}
use Rattle.session_table.specs.declared.standing.Posted.{Posted}
use Rattle.session_table.proofs.Items.{lookup_more, at_end, past_end, or_none}
use Rattle.session_table.proofs.Written.{map_set}

-- one more session joins those of its flow
pub owned_more : (flow : ℕ) (ps : List (ℕ × Key)) (p : ℕ × Key) → keys_owned flow (ps ++ p ∷ []) ≡ keys_owned flow ps ++ cond (nat_eq flow p.0) (p.1 ∷ []) []
owned_more flow [] p = by (nat_eq flow p.0)
  where
    by : (b : Bool) → cond b (p.1 ∷ []) [] ≡ [] ++ cond b (p.1 ∷ []) []
    by true = refl
    by false = refl
owned_more flow (q ∷ qs) p = by (nat_eq flow q.0) (owned_more flow qs p)
  where
    by : (b : Bool) → keys_owned flow (qs ++ p ∷ []) ≡ keys_owned flow qs ++ cond (nat_eq flow p.0) (p.1 ∷ []) [] → cond b (q.1 ∷ keys_owned flow (qs ++ p ∷ [])) (keys_owned flow (qs ++ p ∷ [])) ≡ cond b (q.1 ∷ keys_owned flow qs) (keys_owned flow qs) ++ cond (nat_eq flow p.0) (p.1 ∷ []) []
    by true rest = ap (λ l. q.1 ∷ l) rest
    by false rest = rest

-- a flow owns no more than there are
pub few_owned : (flow : ℕ) (ps : List (ℕ × Key)) → length (keys_owned flow ps) ≤ length ps
few_owned flow [] = omega arith
few_owned flow (p ∷ ps) = by (nat_eq flow p.0) (few_owned flow ps)
  where
    by : (b : Bool) → length (keys_owned flow ps) ≤ length ps → length (cond b (p.1 ∷ keys_owned flow ps) (keys_owned flow ps)) ≤ length (p ∷ ps)
    by true rest = omega (arith, rest)
    by false rest = omega (arith, rest)

-- the index with one more session of a flow, whose number is how many it owned
pub index_more : (keys : List (FlowPlace × Key)) (counts after : List (ℕ × ℕ)) (f n : ℕ) (key : Key)
    → IsFlowIndex keys counts → n ≡ unwrap_or (lookup (nat_eq f) counts) 0 → ((q : ℕ) → lookup (nat_eq q) after ≡ cond (nat_eq f q) (Some (n + 1)) (lookup (nat_eq q) counts)) → IsFlowIndex (keys ++ (flow_place f n, key) ∷ []) after
index_more keys counts after f n key kept at steps = record { numbered = numbered; counted = counted }
  where
    ps : List (ℕ × Key)
    ps = map pair_of keys

    pairs : map pair_of (keys ++ (flow_place f n, key) ∷ []) ≡ ps ++ (f, key) ∷ []
    pairs = map-append pair_of keys ((flow_place f n, key) ∷ [])

    more : (q : ℕ) → keys_owned q (map pair_of (keys ++ (flow_place f n, key) ∷ [])) ≡ keys_owned q ps ++ cond (nat_eq q f) (key ∷ []) []
    more q = ap (keys_owned q) pairs ∙ owned_more q ps (f, key)

    numbered : (q m : ℕ) → lookup (flow_place_eq (flow_place q m)) (keys ++ (flow_place f n, key) ∷ []) ≡ slice_get (keys_owned q (map pair_of (keys ++ (flow_place f n, key) ∷ []))) m
    numbered q m =
        lookup_more (flow_place_eq (flow_place q m)) keys (flow_place f n) key
        ∙ ap (λ (o : Option Key). option_or o (cond (flow_place_eq (flow_place q m) (flow_place f n)) (Some key) None)) (kept.numbered q m)
        ∙ by (nat_eq q f) refl
        ∙ ap (λ (l : List Key). slice_get l m) (sym (more q))
      where
        by : (b : Bool) → nat_eq q f ≡ b → option_or (slice_get (keys_owned q ps) m) (cond (nat_eq q f && nat_eq m n) (Some key) None) ≡ slice_get (keys_owned q ps ++ cond (nat_eq q f) (key ∷ []) []) m
        by true is =
            let end : n ≡ length (keys_owned q ps) = at ∙ kept.counted f ∙ ap (λ (r : ℕ). length (keys_owned r ps)) (sym (eqb-true q f is)) in
            rw is (rw end (at_end (keys_owned q ps) key m))
        by false is = rw is (or_none (slice_get (keys_owned q ps) m) ∙ ap (λ (l : List Key). slice_get l m) (sym (append-nil (keys_owned q ps))))

    counted : (q : ℕ) → unwrap_or (lookup (nat_eq q) after) 0 ≡ length (keys_owned q (map pair_of (keys ++ (flow_place f n, key) ∷ [])))
    counted q = ap (λ (o : Option ℕ). unwrap_or o 0) (steps q) ∙ by (nat_eq f q) refl ∙ ap length (sym (more q))
      where
        by : (b : Bool) → nat_eq f q ≡ b → unwrap_or (cond (nat_eq f q) (Some (n + 1)) (lookup (nat_eq q) counts)) 0 ≡ length (keys_owned q ps ++ cond (nat_eq q f) (key ∷ []) [])
        by true is =
            let same : nat_eq q f ≡ true = eq-eqb q f (sym (eqb-true f q is)) in
            let here : length (keys_owned q ps) ≡ n = sym (at ∙ kept.counted f ∙ ap (λ (r : ℕ). length (keys_owned r ps)) (eqb-true f q is)) in
            rw is (rw same (omega (arith, here, length-append (keys_owned q ps) (key ∷ []))))
        by false is =
            let apart : nat_eq q f ≡ false = ne_eqb q f (λ e. true≢false (sym (eq-eqb f q (sym e)) ∙ is)) in
            rw is (rw apart (kept.counted q ∙ ap length (sym (append-nil (keys_owned q ps)))))

-- the place of the next session of a flow is free
pub flow_place_free : (keys : List (FlowPlace × Key)) (counts : List (ℕ × ℕ)) (f n : ℕ) → IsFlowIndex keys counts → n ≡ unwrap_or (lookup (nat_eq f) counts) 0 → lookup (flow_place_eq (flow_place f n)) keys ≡ None
flow_place_free keys counts f n kept at = kept.numbered f n ∙ past_end (keys_owned f (map pair_of keys)) n (at ∙ kept.counted f)

-- the sessions that flows own, with one session more
pub owners_push : (es : List (Key × Option ℕ)) (e : Key × Option ℕ) → owners (es ++ e ∷ []) ≡ owners es ++ owner_pair e.0 e.1
owners_push [] e = append-nil (owner_pair e.0 e.1)
owners_push (d ∷ ds) e = ap (λ (l : List (ℕ × Key)). owner_pair d.0 d.1 ++ l) (owners_push ds e) ∙ sym (append_assoc (owner_pair d.0 d.1) (owners ds) (owner_pair e.0 e.1))

-- they are no more than all
pub few_owners : (es : List (Key × Option ℕ)) → length (owners es) ≤ length es
few_owners [] = omega arith
few_owners (e ∷ es) = by e.1 (few_owners es)
  where
    by : (o : Option ℕ) → length (owners es) ≤ length es → length (owner_pair e.0 o ++ owners es) ≤ length (e ∷ es)
    by None rest = omega (arith, rest)
    by (Some f) rest = omega (arith, rest)

-- those of one flow are that flow's sessions
pub flow_keys : (flow : ℕ) (sent : List (Place × Posted)) (came : List (Place × Body)) (lines : List (Key × Standing))
    → keys_owned flow (owners (map owner_of lines)) ≡ map (λ s. s.key) (sessions_of flow (map (session_at sent came) lines))
flow_keys flow sent came [] = refl
flow_keys flow sent came (e ∷ es) = by e.1.owner (flow_keys flow sent came es)
  where
    rest_of : List Session
    rest_of = sessions_of flow (map (session_at sent came) es)

    inner : (b : Bool) → keys_owned flow (owners (map owner_of es)) ≡ map (λ s. s.key) rest_of → cond b (e.0 ∷ keys_owned flow (owners (map owner_of es))) (keys_owned flow (owners (map owner_of es))) ≡ map (λ s. s.key) (cond b (session_at sent came e ∷ rest_of) rest_of)
    inner true rest = ap (λ (l : List Key). e.0 ∷ l) rest
    inner false rest = rest

    by : (o : Option ℕ) → keys_owned flow (owners (map owner_of es)) ≡ map (λ s. s.key) rest_of → keys_owned flow (owner_pair e.0 o ++ owners (map owner_of es)) ≡ map (λ s. s.key) (cond (is_owner flow o) (session_at sent came e ∷ rest_of) rest_of)
    by None rest = rest
    by (Some f) rest = inner (nat_eq flow f) rest

-- what a change of how a session stands leaves as it is
pub map_rewritten : {X : Type 0} (f : Key × Standing → X) (k : Key) (change : Standing → Standing) (old new : List (Key × Standing)) → ((q : Key) (v : Standing) → f (q, change v) ≡ f (q, v)) → Rewrites k change old new → map f new ≡ map f old
map_rewritten f k change old new same rewrites = by (lookup (key_eq k) old) refl
  where
    by : (o : Option Standing) → lookup (key_eq k) old ≡ o → map f new ≡ map f old
    by None is = ap (map f) (rewrites.lost (sym is))
    by (Some v) is = ap (map f) (rewrites.found v (sym is)) ∙ map_set f k old v (change v) is (λ q. same q v)
