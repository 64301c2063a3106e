-- Changing how a session stands.
use Rattle.std.proofs.Common.{◌≡◌, Bool, true, false, List, [], ◌∷◌, Option, Some, None, refl, sym, ◌∙◌, ap, subst, cond, map, if◌then◌else◌}
use Rattle.std.specs.List.{IsDistinct, AllByRecursion}
use Rattle.std.specs.Map.{lookup, keys_of, set_value}
use Rattle.net_base.specs.declared.names.Key.{Key}
use Rattle.session_wire.specs.Sessions.{Session, key_eq, changed_at}
use Rattle.session_wire.proofs.Keys.{key_exact}
use Rattle.session_table.specs.Kept.{Rewrites}
use Rattle.session_table.specs.declared.standing.Standing.{Standing}

abbrev Lines : Type 0
Lines = List (Key × Standing)

-- what the change doesn't touch stays
pub map_set : {X : Type 0} (f : Key × Standing → X) (k : Key) (lines : Lines) (v w : Standing) → lookup (key_eq k) lines ≡ Some v → ((q : Key) → f (q, w) ≡ f (q, v)) → map f (set_value (key_eq k) lines w) ≡ map f lines
map_set f k [] v w found same = refl
map_set f k (e ∷ es) v w found same = by (key_eq k e.0) refl (λ there. map_set f k es v w there same)
  where
    by : (b : Bool) → key_eq k e.0 ≡ b → (lookup (key_eq k) es ≡ Some v → map f (set_value (key_eq k) es w) ≡ map f es) → map f (cond b ((e.0, w) ∷ es) (e ∷ set_value (key_eq k) es w)) ≡ map f (e ∷ es)
    by true is rest =
        let one : Some e.1 ≡ Some v = rw is at found in
        let at : e.1 ≡ v = cc one in
        ap (λ y. y ∷ map f es) (same e.0 ∙ ap (λ (x : Standing). f (e.0, x)) (sym at))
    by false is rest = ap (λ ys. f e ∷ ys) (rest (rw is at found))

module _ (k : Key) (f g : Key × Standing → Session) (change : Session → Session) (keys : (q : Key × Standing) → (f q).key ≡ q.0) (others : (q : Key × Standing) → key_eq k q.0 ≡ false → g q ≡ f q) where
  -- a session of another key stays
  one_other : (q : Key × Standing) → key_eq k q.0 ≡ false → g q ≡ (if key_eq k (f q).key then change (f q) else f q)
  one_other q apart = others q apart ∙ sym (let is : key_eq k (f q).key ≡ false = ap (key_eq k) (keys q) ∙ apart in rw is refl)

  -- and so do all of other keys
  all_others : (lines : Lines) → AllByRecursion (λ q. key_eq k q ≡ false) (keys_of lines) → map g lines ≡ changed_at k change (map f lines)
  all_others [] h = refl
  all_others (e ∷ es) h = λ i. one_other e h.0 i ∷ all_others es h.1 i

  -- the one of the key is changed
  pub written : (lines : Lines) (v w : Standing) → IsDistinct key_eq (keys_of lines) → lookup (key_eq k) lines ≡ Some v → g (k, w) ≡ change (f (k, v)) → map g (set_value (key_eq k) lines w) ≡ changed_at k change (map f lines)
  unfolding IsDistinct
  written [] v w distinct found one = refl
  written (e ∷ es) v w distinct found one = by (key_eq k e.0) refl (λ there. written es v w distinct.1 there one)
    where
      by : (b : Bool) → key_eq k e.0 ≡ b → (lookup (key_eq k) es ≡ Some v → map g (set_value (key_eq k) es w) ≡ changed_at k change (map f es)) → map g (cond b ((e.0, w) ∷ es) (e ∷ set_value (key_eq k) es w)) ≡ changed_at k change (map f (e ∷ es))
      by true is rest =
          let same : k ≡ e.0 = key_exact k e.0 is in
          let there : Some e.1 ≡ Some v = rw is at found in
          let at : e.1 ≡ v = cc there in
          let here : key_eq k (f e).key ≡ true = ap (key_eq k) (keys e) ∙ is in
          let head : g (e.0, w) ≡ change (f e) = ap (λ (q : Key). g (q, w)) (sym same) ∙ one ∙ ap change ((λ i. f (same i, v)) ∙ ap (λ (x : Standing). f (e.0, x)) (sym at)) in
          let changed : change (f e) ≡ (if key_eq k (f e).key then change (f e) else f e) = sym (rw here refl) in
          let apart : AllByRecursion (λ q. key_eq k q ≡ false) (keys_of es) = subst (λ (x : Key). AllByRecursion (λ q. key_eq x q ≡ false) (keys_of es)) (sym same) distinct.0 in
          λ i. (head ∙ changed) i ∷ all_others es apart i
      by false is rest = λ i. one_other e is i ∷ rest (rw is at found) i

-- a session stands in one way
pub same_value : {o : Option Standing} (x y : Standing) → Some x ≡ o → Some y ≡ o → x ≡ y
same_value x y a b = let same : Some x ≡ Some y = a ∙ sym b in cc same

pub rewrites_some : (k : Key) (change : Standing → Standing) (old new : Lines) (v : Standing) → Some v ≡ lookup (key_eq k) old → new ≡ set_value (key_eq k) old (change v) → IsDistinct key_eq (keys_of old) → Rewrites k change old new
rewrites_some k change old new v there is distinct = record {
  found = λ u here. is ∙ ap (λ x. set_value (key_eq k) old (change x)) (same_value v u there here);
  lost = λ gone. absurd (let same : None ≡ Some v = gone ∙ sym there in cc same);
  unique = distinct;
}

pub rewrites_none : (k : Key) (change : Standing → Standing) (old new : Lines) → None ≡ lookup (key_eq k) old → new ≡ old → IsDistinct key_eq (keys_of old) → Rewrites k change old new
rewrites_none k change old new gone is distinct = record {
  found = λ u here. absurd (let same : None ≡ Some u = gone ∙ sym here in cc same);
  lost = λ _. is;
  unique = distinct;
}
