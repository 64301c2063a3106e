-- In the sessions of a node's own steps each key stands once, so a session is found by its key.
use Rattle.std.proofs.Common.{◌≡◌, ℕ, zero, suc, List, [], ◌∷◌, Some, Bool, true, false, cond, not, slice_get, refl, sym, ap, subst}
use Rattle.std.specs.List.{list_any}
use Rattle.std.proofs.lemmas.Bool.{and_parts, or_parts, not-true}
use Rattle.net_base.specs.declared.names.Key.{Key}
use Rattle.net_base.proofs.Options.{some_eq}
use Rattle.session_wire.specs.Sessions.{Session, key_eq, session_of}
use Rattle.session_wire.proofs.Keys.{key_exact, key_same}
use Rattle.net_model.specs.Environment.{Environment}
use Rattle.net_model.specs.State.{NodeState, Record, apply_effect, fresh, replay, replay_from}
use Rattle.net_model.specs.Runs.{IsLocalFrom}
use Rattle.net_model.specs.Fits.{IsSound, keys_differ}
use Rattle.net_model.proofs.Effects.{step_taken}
use Rattle.net_model.proofs.Fitting.{step_fits}
use Rattle.net_model.proofs.Sound.{fresh_is_sound, fits_keep_sound}
use Rattle.node_tables.specs.Journals.{records_of, state_of}
use Rattle.network_core.specs.Worlds.{Sound}

local_sound : {F : Type 0} (e : Environment F) (p : ℕ) (s : NodeState F) (rs : List (Record F)) → IsSound p s → IsLocalFrom e p s rs → IsSound p (replay_from s rs)
local_sound e p s [] sound local = sound
local_sound {F} e p s (r ∷ rs) sound local =
    let fits = step_fits e p s local.1 r.cause _ r.effect sound local.2 in
    let taken = step_taken e p s local.1 r.cause _ r.effect local.2 in
    local_sound e p (apply_effect s r.cause r.effect) rs (fits_keep_sound e p s r.cause r.effect sound fits) (subst (λ (z : NodeState F). IsLocalFrom e p z rs) taken.state local.3)

-- the keys of a sound journal's sessions differ
pub sound_keys : {F : Type 0} (e : Environment F) (p now : ℕ) (bodies : List (List ℕ)) → Sound e p now bodies → keys_differ (state_of e.frame_at bodies).sessions ≡ true
unfolding state_of replay
sound_keys e p now bodies sound = (local_sound e p fresh (records_of e.frame_at bodies) (fresh_is_sound p) sound.local).keys

-- no other session has the key
none_equal : (key : Key) (ss : List Session) (i : ℕ) (s : Session) → list_any (λ other. key_eq key other.key) ss ≡ false → slice_get ss i ≡ Some s → key_eq key s.key ≡ false
none_equal key [] i s none at = cc
none_equal key (t ∷ ss) zero s none at = subst (λ (x : Session). key_eq key x.key ≡ false) (some_eq at) (or_parts (key_eq key t.key) (list_any (λ other. key_eq key other.key) ss) none).0
none_equal key (t ∷ ss) (suc i) s none at = none_equal key ss i s (or_parts (key_eq key t.key) (list_any (λ other. key_eq key other.key) ss) none).1 at

-- a session is the one of its key
pub found_by_key : (ss : List Session) (i : ℕ) (s : Session) → keys_differ ss ≡ true → slice_get ss i ≡ Some s → session_of s.key ss ≡ Some s
found_by_key [] i s differ at = cc
found_by_key (t ∷ ss) zero s differ at =
    let same : t ≡ s = some_eq at in
    let here : key_eq s.key t.key ≡ true = subst (λ (x : Session). key_eq s.key x.key ≡ true) (sym same) (key_same s.key) in
    rw here (ap Some same)
found_by_key (t ∷ ss) (suc i) s differ at =
    let parts = and_parts (not (list_any (λ other. key_eq t.key other.key) ss)) (keys_differ ss) differ in
    let rest = found_by_key ss i s parts.1 at in
    let apart = none_equal t.key ss i s (not-true (list_any (λ other. key_eq t.key other.key) ss) parts.0) at in
    by (key_eq s.key t.key) refl apart rest
  where
    by : (b : Bool) → key_eq s.key t.key ≡ b → key_eq t.key s.key ≡ false → session_of s.key ss ≡ Some s → cond b (Some t) (session_of s.key ss) ≡ Some s
    by true is apart rest =
        let same : s.key ≡ t.key = key_exact s.key t.key is in
        let yes : key_eq t.key s.key ≡ true = subst (λ (k : Key). key_eq t.key k ≡ true) (sym same) (key_same t.key) in
        absurd (no (key_eq t.key s.key) yes apart)
      where
        no : (c : Bool) → c ≡ true → c ≡ false → ⊥
        no c a b = cc
    by false is apart rest = rest
