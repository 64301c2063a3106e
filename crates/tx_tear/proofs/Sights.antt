-- A good tear-off that has a transaction's id shows what the transaction's own tear-off shows.
use Rattle.std.proofs.Common.{◌≡◌, ℕ, zero, suc, ◌+◌, ◌<◌, Bool, true, false, cond, List, [], ◌∷◌, length, map, Option, Some, None, Result, option_map, option_and_then, option_to_list, bytes_eq, refl, sym, ◌∙◌, ap, subst, arith}
use Rattle.std.specs.Prelude.{is_some}
use Rattle.std.specs.List.{AllByRecursion, Contains, flat_map, slice_get}
use Rattle.std.proofs.lemmas.List.Elements.{Contains-append_left, Contains-append_right}
use Rattle.std.proofs.lemmas.Option.{slice_get_within}
use Rattle.std.proofs.lemmas.Slice.Eq.{bytes_eq-Decides}
use Rattle.net_base.specs.declared.values.Hash32.{Hash32}
use Rattle.net_base.specs.declared.values.Party.{Party}
use Rattle.net_base.specs.Values.{party_at, party_laws}
use Rattle.net_base.specs.Names.{state_ref_at, state_ref_laws}
use Rattle.net_base.proofs.Lists.{all_front}
use Rattle.component_merkle.specs.Merkle.{root_of}
use Rattle.ledger_types.specs.declared.tx.Command.{Command}
use Rattle.ledger_types.specs.declared.tx.Tx.{Tx}
use Rattle.ledger_types.specs.declared.torn.TornPart.{TornPart}
use Rattle.ledger_types.specs.declared.torn.TornGroup.{TornGroup}
use Rattle.ledger_types.specs.declared.torn.TornGroup.TheVariants.{Hidden, Shown}
use Rattle.ledger_types.specs.declared.torn.TornTx.{TornTx}
use Rattle.ledger_types.specs.declared.torn.Visible.{Visible}
use Rattle.ledger_types.specs.Txs.{IsTx, window_at, window_laws}
use Rattle.ledger_types.specs.Torn.{IsTornPart, IsTornGroup, IsTornTx}
use Rattle.ledger_types.specs.Ids.{groups, present, id_of, values_from}
use Rattle.ledger_types.specs.Rules.{is_empty, has_no_command}
use Rattle.ledger_types.specs.Signatures.{tx_id}
use Rattle.ledger_types.specs.Tears.{group_value, torn_root, parts_of, parts_at, whole, joined, spelt_by, at_most_one, shown_refs, shown_notary, shown_window, shown_by, visible_of}
use Rattle.tx_tear.specs.Tearing.{parts_from, shown_group, seen_of}
use Rattle.tx_tear.specs.Hashed.{AreApart, Includes, hashed_for_root, hashed_for_group, hashed_for_groups, shown_from, hashed_for_tx, hashed_for_torn, hashed_for_all}
use Rattle.tx_tear.proofs.Groups.{value_shown, components_of, present_at}
use Rattle.tx_tear.proofs.Spelling.{spelt_of}
use Rattle.tx_tear.proofs.Shows.{one_of, all_of, together, shown_together}
use Rattle.tx_tear.proofs.Lengths.{length_digest}
use Rattle.tx_tear.proofs.Collisions.{Inside, Nonces32, bytes_of, inside, all_right}
use Rattle.tx_tear.proofs.Places.{IsSized, IsSound, sound, same_bytes, same_bytes_named}

-- ---- a transaction's groups, each shown

values_shown : (salt : List ℕ) (group : ℕ) (gs : List (List (List ℕ))) → map group_value (shown_from salt group gs) ≡ values_from salt group gs
values_shown salt group [] = refl
values_shown salt group (bs ∷ gs) = λ i. value_shown salt group bs i ∷ values_shown salt (group + 1) gs i

nonces_parts : (salt : List ℕ) (group place : ℕ) (bs : List (List ℕ)) → Nonces32 (parts_from salt group place bs)
nonces_parts salt group place [] = tt
nonces_parts salt group place (b ∷ bs) = (length_digest _, nonces_parts salt group (place + 1) bs)

sized_shown : (salt : List ℕ) (group : ℕ) (gs : List (List (List ℕ))) → AllByRecursion IsSized (shown_from salt group gs)
sized_shown salt group [] = tt
sized_shown salt group (bs ∷ gs) = (nonces_parts salt group 0 bs, sized_shown salt (group + 1) gs)

length_shown : (salt : List ℕ) (group : ℕ) (gs : List (List (List ℕ))) → length (shown_from salt group gs) ≡ length gs
length_shown salt group [] = refl
length_shown salt group (bs ∷ gs) = omega (arith, length_shown salt (group + 1) gs)

bytes_parts : (salt : List ℕ) (group place : ℕ) (bs : List (List ℕ)) → bytes_of (parts_from salt group place bs) ≡ bs
bytes_parts salt group place [] = refl
bytes_parts salt group place (b ∷ bs) = ap (λ (l : List (List ℕ)). b ∷ l) (bytes_parts salt group (place + 1) bs)

shown_get : (salt : List ℕ) (group j k : ℕ) (gs : List (List (List ℕ))) (bs : List (List ℕ)) → group + j ≡ k → slice_get gs j ≡ Some bs → slice_get (shown_from salt group gs) j ≡ Some (shown_group salt k bs)
shown_get salt group j k [] bs is e = absurd cc
shown_get salt group zero k (cs ∷ gs) bs is e =
    let same : group ≡ k = omega (arith, is) in
    let components : cs ≡ bs = cc in
    λ i. Some (shown_group salt (same i) (components i))
shown_get salt group (suc j) k (cs ∷ gs) bs is e = shown_get salt (group + 1) j k gs bs (omega (arith, is)) e

shown_parts : (salt : List ℕ) (group j k : ℕ) (gs : List (List (List ℕ))) → group + j ≡ k → parts_of (slice_get (shown_from salt group gs) j) ≡ Some (parts_from salt k 0 (components_of (slice_get gs j)))
shown_parts salt group j k [] is = refl
shown_parts salt group zero k (bs ∷ gs) is = let same : group ≡ k = omega (arith, is) in ap (λ (n : ℕ). Some (parts_from salt n 0 bs)) same
shown_parts salt group (suc j) k (bs ∷ gs) is = shown_parts salt (group + 1) j k gs (omega (arith, is))

-- a transaction with a command has seven groups or eight, and the seventh has a component
record Listed (gs : List (List (List ℕ))) : Type 0 where
  first : List ℕ
  more : List (List ℕ)
  seventh : slice_get gs 6 ≡ Some (first ∷ more)
  seven : 6 < length gs
  eight : length gs < 9

listed : (a b c d e f g h : List (List ℕ)) (x : List ℕ) → Listed (present (a ∷ b ∷ c ∷ d ∷ e ∷ f ∷ (x ∷ g) ∷ h ∷ []))
listed a b c d e f g [] x = record { first = x; more = g; seventh = refl; seven = omega arith; eight = omega arith }
listed a b c d e f g (y ∷ h) x = record { first = x; more = g; seventh = refl; seven = omega arith; eight = omega arith }

listed_by : (deeds signers : Command → List ℕ) (a b d e f h : List (List ℕ)) (commands : List Command) → is_empty commands ≡ false → Listed (present (a ∷ b ∷ map deeds commands ∷ d ∷ e ∷ f ∷ map signers commands ∷ h ∷ []))
listed_by deeds signers a b d e f h [] some = absurd cc
listed_by deeds signers a b d e f h (c ∷ cs) some = listed a b (map deeds (c ∷ cs)) d e f (map signers cs) h (signers c)

-- ---- a good tear-off

if_some : {A : Type 0} (b : Bool) (o : Option A) (x : A) → cond b o None ≡ Some x → (b ≡ true) × (o ≡ Some x)
if_some true o x e = (refl, e)
if_some false o x e = absurd cc

then_some : {A B : Type 0} (f : A → Option B) (o : Option A) (y : B) → option_and_then f o ≡ Some y → (x : A) × ((o ≡ Some x) × (f x ≡ Some y))
then_some f None y e = absurd cc
then_some f (Some x) y e = (x, (refl, e))

map_some : {A B : Type 0} (f : A → B) (o : Option A) (y : B) → option_map f o ≡ Some y → (x : A) × ((o ≡ Some x) × (f x ≡ y))
map_some f None y e = absurd cc
map_some f (Some x) y e = (x, (refl, cc))

joined_some : {V : Type 0} (o : Option V) (rest : Option (List V)) (vs : List V) → joined o rest ≡ Some vs → (v : V) × ((ws : List V) × ((rest ≡ Some ws) × (v ∷ ws ≡ vs)))
joined_some None rest vs e = absurd cc
joined_some (Some v) None vs e = absurd cc
joined_some (Some v) (Some ws) vs e = (v, (ws, (refl, cc)))

-- parts that spell one value at most are one at most
notary_there : (o : Option TornGroup) (parts : List TornPart) (ps : List Party) (n : Option Party) → parts_of o ≡ Some parts → spelt_by party_at parts ≡ Some ps → at_most_one ps ≡ Some n → is_some n ≡ true → (p : TornPart) × (o ≡ Some (Shown (p ∷ [])))
notary_there o [] ps n a b c d =
    let no_parties : ps ≡ [] = cc in
    let told : at_most_one {V = Party} [] ≡ Some n = ap at_most_one (sym no_parties) ∙ c in
    let no_notary : n ≡ None = cc in
    absurd cc
notary_there None (p ∷ parts) ps n a b c d = absurd cc
notary_there (Some (Hidden root)) (p ∷ parts) ps n a b c d = absurd cc
notary_there (Some (Shown us)) (p ∷ []) ps n a b c d = let same : us ≡ p ∷ [] = cc in (p, ap (λ (l : List TornPart). Some (Shown l)) same)
notary_there (Some (Shown us)) (p ∷ q ∷ parts) ps n a b c d =
    let first = joined_some (whole (party_at p.bytes)) (spelt_by party_at (q ∷ parts)) ps b in
    let second = joined_some (whole (party_at q.bytes)) (spelt_by party_at parts) first.1.0 first.1.1.0 in
    let two : first.0 ∷ second.0 ∷ second.1.0 ≡ ps = ap (λ (l : List Party). first.0 ∷ l) second.1.1.1 ∙ first.1.1.1 in
    let told : at_most_one (first.0 ∷ second.0 ∷ second.1.0) ≡ Some n = ap at_most_one two ∙ c in
    absurd cc

-- what a good tear-off has
record IsGood (torn : TornTx) (seen : Visible) : Type 0 where
  root : torn_root torn ≡ torn.id.0
  shows : shown_by torn ≡ Some seen
  inputs : (parts : List TornPart) × (parts_at torn 0 ≡ Some parts)
  notary : (parts : List TornPart) × (parts_at torn 4 ≡ Some parts)
  window : (parts : List TornPart) × (parts_at torn 5 ≡ Some parts)
  references : (parts : List TornPart) × (parts_at torn 7 ≡ Some parts)
  named : (p : TornPart) × (slice_get torn.groups 4 ≡ Some (Shown (p ∷ [])))

good : (torn : TornTx) (seen : Visible) → visible_of torn ≡ Some seen → is_some seen.notary ≡ true → IsGood torn seen
unfolding visible_of
good torn seen e named =
    let both = if_some (bytes_eq (torn_root torn) torn.id.0) (shown_by torn) seen e in
    let inputs = then_some _ (shown_refs torn 0) seen both.1 in
    let notary = then_some _ (shown_notary torn) seen inputs.1.1 in
    let window = then_some _ (shown_window torn) seen notary.1.1 in
    let references = map_some _ (shown_refs torn 7) seen window.1.1 in
    let input_parts = then_some (spelt_by state_ref_at) (parts_at torn 0) inputs.0 inputs.1.0 in
    let parties = then_some at_most_one (option_and_then (spelt_by party_at) (parts_at torn 4)) notary.0 notary.1.0 in
    let notary_parts = then_some (spelt_by party_at) (parts_at torn 4) parties.0 parties.1.0 in
    let windows = then_some at_most_one (option_and_then (spelt_by window_at) (parts_at torn 5)) window.0 window.1.0 in
    let window_parts = then_some (spelt_by window_at) (parts_at torn 5) windows.0 windows.1.0 in
    let reference_parts = then_some (spelt_by state_ref_at) (parts_at torn 7) references.0 references.1.0 in
    let is_named : is_some notary.0 ≡ true = ap (λ (v : Visible). is_some v.notary) references.1.1 ∙ named in
    let there = notary_there (slice_get torn.groups 4) notary_parts.0 parties.0 notary.0 notary_parts.1.0 notary_parts.1.1 parties.1.1 is_named in
    record {
      root = (bytes_eq-Decides (torn_root torn) torn.id.0).0 both.0;
      shows = both.1;
      inputs = (input_parts.0, input_parts.1.0);
      notary = (notary_parts.0, notary_parts.1.0);
      window = (window_parts.0, window_parts.1.0);
      references = (reference_parts.0, reference_parts.1.0);
      named = there;
    }

five : (torn : TornTx) (seen : Visible) → IsGood torn seen → 4 < length torn.groups
five torn seen is_good = slice_get_within torn.groups 4 (Shown (is_good.named.0 ∷ [])) is_good.named.1

nonces_torn : (parts : List TornPart) → AllByRecursion IsTornPart parts → Nonces32 parts
nonces_torn [] h = tt
nonces_torn (p ∷ parts) h = (h.0.0, nonces_torn parts h.1)

sized_group : (g : TornGroup) → IsTornGroup g → IsSized g
sized_group (Hidden root) h = h
sized_group (Shown parts) h = nonces_torn parts h.1

sized_torn : (gs : List TornGroup) → AllByRecursion IsTornGroup gs → AllByRecursion IsSized gs
sized_torn [] h = tt
sized_torn (g ∷ gs) h = (sized_group g h.0, sized_torn gs h.1)

-- ---- both

in_tx : (tx : Tx) (hashed : List (List ℕ)) → Includes hashed (hashed_for_tx tx) → Inside hashed (hashed_for_groups (shown_from tx.salt.0 0 (present (groups tx))))
unfolding hashed_for_tx
in_tx tx hashed h = inside hashed (hashed_for_groups (shown_from tx.salt.0 0 (present (groups tx)))) h

in_torn : (torn : TornTx) (hashed : List (List ℕ)) → Includes hashed (hashed_for_torn torn) → Inside hashed (hashed_for_groups torn.groups)
unfolding hashed_for_torn
in_torn torn hashed h = inside hashed (hashed_for_groups torn.groups) h

root_shown : (tx : Tx) → root_of (map group_value (shown_from tx.salt.0 0 (present (groups tx)))) ≡ id_of tx
unfolding id_of
root_shown tx = ap root_of (values_shown tx.salt.0 0 (present (groups tx)))

-- the groups of a tear-off are sound, and all that is hashed for their root is there
sound_torn : (hashed : List (List ℕ)) (torn : TornTx) → Includes hashed (hashed_for_torn torn) → IsTornTx torn → AllByRecursion (IsSound hashed) torn.groups
sound_torn hashed torn has within =
    sound hashed torn.groups (sized_torn torn.groups within.1.0.1) (all_front (Contains hashed) (flat_map hashed_for_group torn.groups) (hashed_for_root (map group_value torn.groups)) (in_torn torn hashed has))

root_torn : (hashed : List (List ℕ)) (torn : TornTx) → Includes hashed (hashed_for_torn torn) → Inside hashed (hashed_for_root (map group_value torn.groups))
root_torn hashed torn has = all_right (Contains hashed) (flat_map hashed_for_group torn.groups) (hashed_for_root (map group_value torn.groups)) (in_torn torn hashed has)

-- a good tear-off of a transaction's id has the components' bytes where it shows them
components_same : (hashed : List (List ℕ)) (tx : Tx) (torn : TornTx) (seen : Visible) → AreApart hashed → Includes hashed (hashed_for_tx tx) → Includes hashed (hashed_for_torn torn) → has_no_command tx ≡ false → IsTornTx torn → torn.id ≡ tx_id tx → IsGood torn seen
    → (k : ℕ) (parts : List TornPart) → k < 8 → parts_at torn k ≡ Some parts → bytes_of parts ≡ components_of (slice_get (groups tx) k)
components_same hashed tx torn seen apart has_tx has_torn command within same is_good k parts lt shown =
    let salt = tx.salt.0 in
    let gs = shown_from salt 0 (present (groups tx)) in
    let list : Listed (present (groups tx)) = listed_by _ _ _ _ _ _ _ _ tx.commands command in
    let in_gs = in_tx tx hashed has_tx in
    let values_gs = flat_map hashed_for_group gs in
    let sound_gs = sound hashed gs (sized_shown salt 0 (present (groups tx))) (all_front (Contains hashed) values_gs (hashed_for_root (map group_value gs)) in_gs) in
    let count : length gs ≡ length (present (groups tx)) = length_shown salt 0 (present (groups tx)) in
    let seventh = shown_get salt 0 6 6 (present (groups tx)) (list.first ∷ list.more) (omega arith) list.seventh in
    let roots : root_of (map group_value gs) ≡ root_of (map group_value torn.groups) = root_shown tx ∙ ap (λ (id : Hash32). id.0) (sym same) ∙ sym is_good.root in
    let bytes =
    same_bytes hashed apart gs torn.groups _ _ sound_gs (sound_torn hashed torn has_torn within) (all_right (Contains hashed) values_gs (hashed_for_root (map group_value gs)) in_gs) (root_torn hashed torn has_torn)
    (omega (arith, count, list.seven)) (omega (arith, count, list.eight)) seventh (five torn seen is_good) (omega (arith, within.1.0.0)) roots k (parts_from salt k 0 (components_of (slice_get (present (groups tx)) k))) parts lt (shown_parts salt 0 k k (present (groups tx)) (omega arith)) shown in
    sym bytes ∙ bytes_parts salt k 0 (components_of (slice_get (present (groups tx)) k)) ∙ present_at (groups tx) k

-- the same inputs, references, notary and window
pub one_sight : (hashed : List (List ℕ)) (tx : Tx) (torn : TornTx) (seen : Visible) → AreApart hashed → Includes hashed (hashed_for_tx tx) → Includes hashed (hashed_for_torn torn) → IsTx tx → has_no_command tx ≡ false → IsTornTx torn
    → torn.id ≡ tx_id tx → visible_of torn ≡ Some seen → is_some seen.notary ≡ true → seen ≡ seen_of tx
one_sight hashed tx torn seen apart has_tx has_torn limits command within same sees named =
    let is_good = good torn seen sees named in
    let at = components_same hashed tx torn seen apart has_tx has_torn command within same is_good in
    let inputs = ap (option_and_then (spelt_by state_ref_at)) is_good.inputs.1 ∙ spelt_of state_ref_laws is_good.inputs.0 tx.inputs limits.1.0.1 (at 0 is_good.inputs.0 (omega arith) is_good.inputs.1) in
    let notaries = ap (option_and_then (spelt_by party_at)) is_good.notary.1 ∙ spelt_of party_laws is_good.notary.0 (option_to_list tx.notary) (all_of _ tx.notary limits.1.1.1.1.1.0) (at 4 is_good.notary.0 (omega arith) is_good.notary.1) in
    let windows = ap (option_and_then (spelt_by window_at)) is_good.window.1 ∙ spelt_of window_laws is_good.window.0 (option_to_list tx.window) (all_of _ tx.window limits.1.1.1.1.1.1.0) (at 5 is_good.window.0 (omega arith) is_good.window.1) in
    let references = ap (option_and_then (spelt_by state_ref_at)) is_good.references.1 ∙ spelt_of state_ref_laws is_good.references.0 tx.references limits.1.1.1.1.1.1.1.1 (at 7 is_good.references.0 (omega arith) is_good.references.1) in
    let together = shown_together torn tx.inputs tx.references tx.notary tx.window inputs (ap (option_and_then at_most_one) notaries ∙ one_of tx.notary) (ap (option_and_then at_most_one) windows ∙ one_of tx.window) references in
    let both : Some seen ≡ Some (seen_of tx) = sym is_good.shows ∙ together ∙ ap (λ id. Some (record { id = id; inputs = tx.inputs; references = tx.references; notary = tx.notary; window = tx.window })) same in
    cc

-- ---- two tear-offs

spelt_same : {V : Type 0} (reading : List ℕ → Result (V × List ℕ) ℕ) (ps qs : List TornPart) → bytes_of ps ≡ bytes_of qs → spelt_by reading ps ≡ spelt_by reading qs
spelt_same reading [] [] e = refl
spelt_same reading [] (q ∷ qs) e = absurd cc
spelt_same reading (p ∷ ps) [] e = absurd cc
spelt_same reading (p ∷ ps) (q ∷ qs) e =
    let first : p.bytes ≡ q.bytes = cc in
    let more : bytes_of ps ≡ bytes_of qs = cc in
    let rest = spelt_same reading ps qs more in
    λ i. joined (whole (reading (first i))) (rest i)

-- what two tear-offs of one id spell at one place
spelt_at : {V : Type 0} (reading : List ℕ → Result (V × List ℕ) ℕ) (one other : TornTx) (k : ℕ) (ps qs : List TornPart) → parts_at one k ≡ Some ps → parts_at other k ≡ Some qs → bytes_of ps ≡ bytes_of qs
    → option_and_then (spelt_by reading) (parts_at one k) ≡ option_and_then (spelt_by reading) (parts_at other k)
spelt_at reading one other k ps qs a b e = ap (option_and_then (spelt_by reading)) a ∙ spelt_same reading ps qs e ∙ sym (ap (option_and_then (spelt_by reading)) b)

pub two_sights : (hashed : List (List ℕ)) (one other : TornTx) (v w : Visible) → AreApart hashed → Includes hashed (hashed_for_torn one) → Includes hashed (hashed_for_torn other) → IsTornTx one → IsTornTx other
    → one.id ≡ other.id → visible_of one ≡ Some v → visible_of other ≡ Some w → is_some v.notary ≡ true → is_some w.notary ≡ true → v ≡ w
two_sights hashed one other v w apart has_one has_other within_one within_other same sees_one sees_other named_one named_other =
    let a = good one v sees_one named_one in
    let b = good other w sees_other named_other in
    let roots : root_of (map group_value one.groups) ≡ root_of (map group_value other.groups) = a.root ∙ ap (λ (id : Hash32). id.0) same ∙ sym b.root in
    let bytes =
    same_bytes_named hashed apart one.groups other.groups a.named.0 b.named.0 (sound_torn hashed one has_one within_one) (sound_torn hashed other has_other within_other) (root_torn hashed one has_one) (root_torn hashed other has_other)
    (five one v a) (omega (arith, within_one.1.0.0)) (five other w b) (omega (arith, within_other.1.0.0)) a.named.1 b.named.1 roots in
    let inputs = spelt_at state_ref_at one other 0 a.inputs.0 b.inputs.0 a.inputs.1 b.inputs.1 (bytes 0 a.inputs.0 b.inputs.0 (omega arith) a.inputs.1 b.inputs.1) in
    let notaries = ap (option_and_then at_most_one) (spelt_at party_at one other 4 a.notary.0 b.notary.0 a.notary.1 b.notary.1 (bytes 4 a.notary.0 b.notary.0 (omega arith) a.notary.1 b.notary.1)) in
    let windows = ap (option_and_then at_most_one) (spelt_at window_at one other 5 a.window.0 b.window.0 a.window.1 b.window.1 (bytes 5 a.window.0 b.window.0 (omega arith) a.window.1 b.window.1)) in
    let references = spelt_at state_ref_at one other 7 a.references.0 b.references.0 a.references.1 b.references.1 (bytes 7 a.references.0 b.references.0 (omega arith) a.references.1 b.references.1) in
    let both : shown_by one ≡ shown_by other = λ i. together (same i) (inputs i) (notaries i) (windows i) (references i) in
    let equal : Some v ≡ Some w = sym a.shows ∙ both ∙ b.shows in
    cc

-- ---- all together

contains_each : {A B : Type 0} (f : A → List B) (xs : List A) (x : A) (y : B) → Contains xs x → Contains (f x) y → Contains (flat_map f xs) y
contains_each f [] x y (k, lt, is) has = absurd (omega (arith, lt))
contains_each {A} {B} f (z ∷ zs) x y (zero, lt, is) has = Contains-append_left (f z) (flat_map f zs) y (subst (λ (a : A). Contains (f a) y) (sym is) has)
contains_each f (z ∷ zs) x y (suc k, lt, is) has = Contains-append_right (f z) (flat_map f zs) y (contains_each f zs x y (k, omega (arith, lt), is) has)

pub tx_included : (txs : List Tx) (torns : List TornTx) (tx : Tx) → Contains txs tx → Includes (hashed_for_all txs torns) (hashed_for_tx tx)
unfolding hashed_for_all
tx_included txs torns tx among x has = Contains-append_left (flat_map hashed_for_tx txs) (flat_map hashed_for_torn torns) x (contains_each hashed_for_tx txs tx x among has)

pub tear_included : (txs : List Tx) (torns : List TornTx) (torn : TornTx) → Contains torns torn → Includes (hashed_for_all txs torns) (hashed_for_torn torn)
unfolding hashed_for_all
tear_included txs torns torn among x has = Contains-append_right (flat_map hashed_for_tx txs) (flat_map hashed_for_torn torns) x (contains_each hashed_for_torn torns torn x among has)
