-- What frames keep: the limits of each field, its bytes, how these are read, and how many there are at most.
use Rattle.std.specs.Prelude.{◌≡◌, ℕ, ◌+◌, ◌<◌, ◌≤◌, ◌^◌, nat_le, true, List, [], ◌++◌, length, Option, IfSome, Result}
use Rattle.std.specs.Int.{w16, w32, w64}
use Rattle.std.proofs.Common.{arith}
use Rattle.std.proofs.lemmas.Bool.{leb-true}
use Rattle.net_base.specs.declared.names.Key.{Key}
use Rattle.net_base.specs.declared.values.Party.{Party}
use Rattle.net_base.specs.Reading.{number}
use Rattle.net_base.specs.Forms.{number_at, option_of, option_at}
use Rattle.net_base.specs.Laws.{LawsIf}
use Rattle.net_base.specs.Combining.{mapped_at, pair_at, pair_laws, iso_laws}
use Rattle.net_base.specs.Fields.{u16_laws, u32_laws, u64_laws, option_laws}
use Rattle.net_base.specs.Values.{IsParty, party, party_at, party_laws}
use Rattle.net_base.specs.Names.{IsKey, key, key_at, key_laws}
use Rattle.ledger_types.proofs.Sizes.{joined}
use Rattle.flow_forms.specs.Bytes.{under}
use Rattle.flow_forms.specs.Sizes.{option_fits, key_fits}
use Rattle.flow_forms.specs.Arguments.{few16, few32, few64}

-- A field. Where exact holds, a fault of reading is the first place where no spelling goes on.
pub record Field (A : Type 0) : Type 1 where
  pub exact : Type 0
  pub within : A → Type 0
  pub spelling : A → List ℕ
  pub reading : List ℕ → Result (A × List ℕ) ℕ
  pub laws : LawsIf exact within spelling reading
  pub most : ℕ
  pub few : (a : A) → within a → length (spelling a) ≤ most

-- All fields of a frame, which are short.
pub record Kept (S : Type 0) : Type 1 where
  pub exact : Type 0
  pub within : S → Type 0
  pub spelling : S → List ℕ
  pub reading : List ℕ → Result (S × List ℕ) ℕ
  pub laws : LawsIf exact within spelling reading
  pub short : (s : S) → within s → length (spelling s) ≤ 32766

-- ---- fields of a few bytes

-- numbers of two, four and eight bytes
abbrev pub u16_field : Field ℕ
u16_field = record { exact = Unit {0}; within = λ n. n < 2 ^ 16; spelling = λ n. number w16 n; reading = number_at w16; laws = u16_laws; most = 2; few = few16 }

abbrev pub u32_field : Field ℕ
u32_field = record { exact = Unit {0}; within = λ n. n < 2 ^ 32; spelling = λ n. number w32 n; reading = number_at w32; laws = u32_laws; most = 4; few = few32 }

abbrev pub u64_field : Field ℕ
u64_field = record { exact = Unit {0}; within = λ n. n < 2 ^ 64; spelling = λ n. number w64 n; reading = number_at w64; laws = u64_laws; most = 8; few = few64 }

pub party_few : (p : Party) → IsParty p → length (party p) ≤ 1
party_few p h = omega arith

-- a party
abbrev pub party_field : Field Party
party_field = record { exact = Unit {0}; within = IsParty; spelling = party; reading = party_at; laws = party_laws; most = 1; few = party_few }

-- a session's key
abbrev pub key_field : Field Key
key_field = record { exact = Unit {0}; within = IsKey; spelling = key; reading = key_at; laws = key_laws; most = 5; few = key_fits }

-- ---- fields of others

-- a field that may be absent
abbrev pub option_field : {A : Type 0} → Field A → Field (Option A)
option_field field = record {
  exact = field.exact;
  within = λ o. IfSome o field.within;
  spelling = option_of field.spelling;
  reading = option_at field.reading;
  laws = option_laws field.laws;
  most = 1 + field.most;
  few = option_fits field.within field.spelling field.most field.few;
}

pub two_few : {A B : Type 0} (one : Field A) (two : Field B) (p : A × B) → one.within p.0 × two.within p.1 → length (one.spelling p.0 ++ two.spelling p.1) ≤ one.most + two.most
two_few one two p h = joined (one.spelling p.0) (two.spelling p.1) one.most two.most (one.few p.0 h.0) (two.few p.1 h.1)

-- one field, and others behind it
abbrev pub before : {A B : Type 0} → Field A → Field B → Field (A × B)
before one two = record {
  exact = one.exact × two.exact;
  within = λ p. one.within p.0 × two.within p.1;
  spelling = λ p. one.spelling p.0 ++ two.spelling p.1;
  reading = pair_at one.reading two.reading;
  laws = pair_laws (under (λ e. e.0) one.laws) (under (λ e. e.1) two.laws);
  most = one.most + two.most;
  few = two_few one two;
}

pub all_short : {A : Type 0} (field : Field A) → nat_le field.most 32766 ≡ true → (a : A) → field.within a → length (field.spelling a) ≤ 32766
all_short field short a h = omega (arith, field.few a h, leb-true field.most 32766 short)

-- the fields of a frame, as they are made of these and taken apart
abbrev pub kept_as : {A S : Type 0} → (field : Field A) → (to : A → S) → (from : S → A) → ((s : S) → to (from s) ≡ s) → ((a : A) → from (to a) ≡ a) → nat_le field.most 32766 ≡ true → Kept S
kept_as field to from there back short = record {
  exact = field.exact;
  within = λ s. field.within (from s);
  spelling = λ s. field.spelling (from s);
  reading = mapped_at to field.reading;
  laws = iso_laws to from there back field.laws;
  short = λ s h. all_short field short (from s) h;
}
