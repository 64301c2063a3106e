-- Short images, and a fresh journal.
use Rattle.std.proofs.Common.{◌≡◌, ◌⊎◌, inl, inr, ℕ, zero, suc, ◌≤◌, nat_lt, nat_le, true, false, List, [], ◌∷◌, ◌++◌, length, get_or, take, drop, Option, Some, None, refl, sym, ◌∙◌, ap, arith, length-drop}
use Rattle.std.specs.Str.{bytes_eq}
use Rattle.std.proofs.lemmas.Bool.Decides.{nat_tests}
use Rattle.net_base.specs.Names.{IsIdentity}
use Rattle.net_base.specs.declared.names.Identity.{Identity}
use Rattle.disk_journal.specs.declared.fault.OpenFault.TheVariants.{NotAJournal, WrongNode}
use Rattle.disk_journal.specs.Journal.{record_limit, is_whole, bodies, extent, damage, magic, identity_of, named, found, header, bodies_of, journal_of, IsSound, is_unformatted, is_same, damaged, refusal_of, refusal}
use Rattle.disk_journal.proofs.Records.{whole, bodies_shut, bodies_closed}
use Rattle.disk_journal.proofs.Crash.{journal_by, found_long}
use Rattle.std.proofs.lemmas.List.{get_or-take}
use Rattle.std.proofs.lemmas.Slice.Eq.{bytes_eq-Decides}
use Rattle.std.proofs.lemmas.Bool.{cases_Bool}

bodies_short : (n : ℕ) (x : List ℕ) → length x ≤ 5 → bodies n x ≡ []
bodies_short zero x short = refl
bodies_short (suc n) x short = by (cases_Bool (is_whole x))
  where
    by : (is_whole x ≡ true) ⊎ (is_whole x ≡ false) → bodies (suc n) x ≡ []
    by (inl is_open) = absurd (omega (arith, (whole x is_open).fits, short))
    by (inr not_open) = bodies_shut n x not_open

-- 17 bytes have no room for a record
pub short_spells : (c : List ℕ) → length c ≤ 17 → journal_of c ≡ []
unfolding journal_of
short_spells c short = by (found c)
  where
    by : (o : Option Identity) → bodies_of o (drop 16 c) ≡ []
    by None = refl
    by (Some id) = bodies_short record_limit (drop 16 c) (omega (arith, length-drop 16 c, short))

identity_spelt : (id : Identity) → IsIdentity id → identity_of id.party.0 id.nodes id.notary.0 ≡ Some id
identity_spelt id s =
    let a : nat_lt id.party.0 16 ≡ true = grind (arith, nat_tests, s.0) in
    let b : nat_lt 0 id.nodes ≡ true = grind (arith, nat_tests, s.1.0.0) in
    let c : nat_le id.nodes 16 ≡ true = grind (arith, nat_tests, s.1.0.1) in
    let d : nat_lt id.notary.0 16 ≡ true = grind (arith, nat_tests, s.1.1) in
    rw (a, b, c, d) refl

abbrev pub fresh : Identity → List ℕ
fresh id = header id ++ 0 ∷ []

fresh_found : (id : Identity) → IsIdentity id → found (fresh id) ≡ Some id
unfolding found named header
fresh_found id s = identity_spelt id s

fresh_end : (id : Identity) → drop 16 (fresh id) ≡ 0 ∷ []
unfolding header
fresh_end id = refl

pub fresh_sound : (id : Identity) → IsIdentity id → IsSound id (fresh id) × (journal_of (fresh id) ≡ []) × (extent record_limit (drop 16 (fresh id)) ≡ 0)
fresh_sound id s =
    let none = bodies_closed record_limit (0 ∷ []) (omega arith) (omega arith) in (
      record { named = fresh_found id s; ends = ap (damage record_limit 16) (fresh_end id) ∙ none.1 16 },
      journal_by id (fresh id) (fresh_found id s) ∙ ap (bodies record_limit) (fresh_end id) ∙ none.0,
      ap (extent record_limit) (fresh_end id) ∙ none.2,
    )

pub unformatted_short : (x : List ℕ) → is_unformatted x ≡ true → length x ≤ 17
unfolding is_unformatted
unformatted_short x is = grind (arith, nat_tests)

named_byte : (id : Identity) (h : List ℕ) → named h ≡ Some id → get_or h 0 0 ≡ 1
unfolding named
named_byte id h is = by (cases_Bool (bytes_eq (take 10 h) magic))
  where
    by : (bytes_eq (take 10 h) magic ≡ true) ⊎ (bytes_eq (take 10 h) magic ≡ false) → get_or h 0 0 ≡ 1
    by (inl e) = sym (get_or-take 10 h 0 0 (omega arith)) ∙ ap (λ (l : List ℕ). get_or l 0 0) ((bytes_eq-Decides (take 10 h) magic).0 e)
    by (inr e) = absurd (cc (rw e at is))

pub first_byte : (id : Identity) (x : List ℕ) → found x ≡ Some id → get_or x 0 0 ≡ 1
unfolding found
first_byte id x is = by (cases_Bool (nat_le 17 (length x)))
  where
    by : (nat_le 17 (length x) ≡ true) ⊎ (nat_le 17 (length x) ≡ false) → get_or x 0 0 ≡ 1
    by (inl le) = sym (get_or-take 16 x 0 0 (omega arith)) ∙ named_byte id (take 16 x) (rw le at is)
    by (inr gt) = absurd (cc (rw gt at is))

-- a formatted image isn't unformatted
pub found_formatted : (id : Identity) (x : List ℕ) → found x ≡ Some id → is_unformatted x ≡ true → ⊥
unfolding is_unformatted
found_formatted id x is not_yet = grind (arith, nat_tests, first_byte id x is, found_long id x is)

pub same_identity : (x y : Identity) → is_same x y ≡ true → x ≡ y
same_identity x y is =
    let a : x.party.0 ≡ y.party.0 = grind (arith, nat_tests) in
    let b : x.nodes ≡ y.nodes = grind (arith, nat_tests) in
    let c : x.notary.0 ≡ y.notary.0 = grind (arith, nat_tests) in
    λ i. record { party = record { 0 = a i }; nodes = b i; notary = record { 0 = c i } }

pub limit_is : record_limit ≡ 65536
unfolding record_limit
limit_is = refl

pub refusal_unformatted : (id : Identity) (x : List ℕ) → is_unformatted x ≡ true → refusal id x ≡ None
unfolding refusal
refusal_unformatted id x is = rw is refl

pub refusal_formatted : (id : Identity) (x : List ℕ) → is_unformatted x ≡ false → refusal id x ≡ refusal_of id (found x) (damage record_limit 16 (drop 16 x))
unfolding refusal
refusal_formatted id x is = rw is refl

module _ (id : Identity) (x : List ℕ) (formatted : is_unformatted x ≡ false) where
  pub refused_foreign : found x ≡ None → refusal id x ≡ Some NotAJournal
  refused_foreign none = refusal_formatted id x formatted ∙ ap (λ (o : Option Identity). refusal_of id o (damage record_limit 16 (drop 16 x))) none

  pub refused_node : (node : Identity) → found x ≡ Some node → is_same node id ≡ false → refusal id x ≡ Some (WrongNode node)
  refused_node node is other = refusal_formatted id x formatted ∙ ap (λ (o : Option Identity). refusal_of id o (damage record_limit 16 (drop 16 x))) is ∙ rw other refl

  pub refused_harm : (node : Identity) → found x ≡ Some node → is_same node id ≡ true → refusal id x ≡ damaged (damage record_limit 16 (drop 16 x))
  refused_harm node is same = refusal_formatted id x formatted ∙ ap (λ (o : Option Identity). refusal_of id o (damage record_limit 16 (drop 16 x))) is ∙ rw same refl
