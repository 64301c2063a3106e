-- Options are taken exactly where they stand in order.
use Rattle.std.specs.Prelude.{◌≡◌, ℕ, List, [], ◌∷◌, ◌++◌, codes, Option, Some, None, IfSome, Bool, true, false, refl, if◌then◌else◌}
use Rattle.std.specs.Str.{bytes_eq}
use Rattle.std.proofs.Common.{ap, sym, ◌∙◌}
use Rattle.std.proofs.lemmas.Slice.Eq.{bytes_eq-Decides}
use Rattle.net_base.specs.declared.values.Moment.{Moment}
use Rattle.net_base.specs.declared.names.StateRef.{StateRef}
use Rattle.cash_flows.specs.declared.options.PayOptions.{PayOptions}
use Rattle.flow_txs.specs.Words.{reference_of}
use Rattle.cash_flows.specs.Words.{moment_of}
use Rattle.cash_flows.specs.Options.{window_between, options_with, named, using_of, ends_at, until_of, starts_at, options_of}
use Rattle.cash_flows.specs.Orders.{timed, referred, value_of, Stand, TakenInOrder}

-- ---- what stands so is taken

abbrev IsTime : Option (List ℕ × Moment) → Type 0
IsTime t = IfSome t (λ x. moment_of x.0 ≡ Some x.1)

abbrev IsReference : Option ((List ℕ × List ℕ) × StateRef) → Type 0
IsReference r = IfSome r (λ x. reference_of x.0.0 x.0.1 ≡ Some x.1)

using_reads : (r : Option ((List ℕ × List ℕ) × StateRef)) → IsReference r → using_of (referred r) ≡ Some (value_of r)
using_reads None h = refl
using_reads (Some x) h = ap named h

until_reads : (f : Option Moment) (u : Option (List ℕ × Moment)) (r : Option ((List ℕ × List ℕ) × StateRef)) → IsTime u → IsReference r → until_of f (timed (codes "until") u ++ referred r) ≡ options_with f (value_of u) (Some (value_of r))
until_reads f None None hu hr = refl
until_reads f None (Some x) hu hr = ap (options_with f None) (using_reads (Some x) hr)
until_reads f (Some t) r hu hr = ap (λ (m : Option Moment). ends_at f m (referred r)) hu ∙ ap (options_with f (Some t.1)) (using_reads r hr)

-- without a start
none_starts : (u : Option (List ℕ × Moment)) (r : Option ((List ℕ × List ℕ) × StateRef)) → options_of (timed (codes "until") u ++ referred r) ≡ until_of None (timed (codes "until") u ++ referred r)
none_starts None None = refl
none_starts None (Some x) = refl
none_starts (Some t) r = refl

options_read : (f u : Option (List ℕ × Moment)) (r : Option ((List ℕ × List ℕ) × StateRef)) → IsTime f → IsTime u → IsReference r
    → options_of (timed (codes "from") f ++ (timed (codes "until") u ++ referred r)) ≡ options_with (value_of f) (value_of u) (Some (value_of r))
options_read None u r hf hu hr = none_starts u r ∙ until_reads None u r hu hr
options_read (Some t) u r hf hu hr = ap (λ (m : Option Moment). starts_at m (timed (codes "until") u ++ referred r)) hf ∙ until_reads (Some t.1) u r hu hr

stand_taken : (words : List (List ℕ)) (o : PayOptions) → Stand words o → options_of words ≡ Some o
stand_taken words o s = ap options_of s.are_words ∙ options_read s.from s.until s.using s.is_from s.is_until s.is_using ∙ ap (λ (x : PayOptions). Some x) (sym s.are_options)

-- ---- what is taken stands so

-- a name that was found
is_name : (word name : List ℕ) → bytes_eq word name ≡ true → word ≡ name
is_name word name h = (bytes_eq-Decides word name).0 h

-- what was read of a reference
record Used (words : List (List ℕ)) (x : Option StateRef) : Type 0 where
  using : Option ((List ℕ × List ℕ) × StateRef)
  is_using : IsReference using
  are_words : words ≡ referred using
  is : x ≡ value_of using

named_used : (word id index : List ℕ) (read x : Option StateRef) (some : Option (Option StateRef)) → word ≡ codes "using" → reference_of id index ≡ read → named read ≡ Some x → Used (word ∷ id ∷ index ∷ []) x
named_used word id index None x some w is e = absurd cc
named_used word id index (Some r) x some w is e =
    let same : Some r ≡ x = cc in
    record { using = Some ((id, index), r); is_using = is; are_words = ap (λ (y : List ℕ). y ∷ id ∷ index ∷ []) w; is = sym same }

used_by : (word id index : List ℕ) (x : Option StateRef) (test : Bool) → bytes_eq word (codes "using") ≡ test → (if test then named (reference_of id index) else None) ≡ Some x → Used (word ∷ id ∷ index ∷ []) x
used_by word id index x true is e = named_used word id index (reference_of id index) x None (is_name word (codes "using") is) refl e
used_by word id index x false is e = absurd cc

used : (words : List (List ℕ)) (x : Option StateRef) → using_of words ≡ Some x → Used words x
used [] x e = let same : None ≡ x = cc in record { using = None; is_using = tt; are_words = refl; is = sym same }
used (word ∷ id ∷ index ∷ []) x e = used_by word id index x (bytes_eq word (codes "using")) refl e
used other x e = absurd cc

-- what was read of an end and a reference
record Behind (f : Option Moment) (words : List (List ℕ)) (o : PayOptions) : Type 0 where
  until : Option (List ℕ × Moment)
  using : Option ((List ℕ × List ℕ) × StateRef)
  is_until : IsTime until
  is_using : IsReference using
  are_words : words ≡ timed (codes "until") until ++ referred using
  are_options : o ≡ record { window = window_between f (value_of until); reference = value_of using }

with_used : (f u : Option Moment) (read : Option (Option StateRef)) (o : PayOptions) → options_with f u read ≡ Some o → (x : Option StateRef) × ((read ≡ Some x) × (o ≡ record { window = window_between f u; reference = x }))
with_used f u None o e = absurd cc
with_used f u (Some x) o e = let given : PayOptions = record { window = window_between f u; reference = x } in let same : given ≡ o = cc in (x, (refl, sym same))

-- the options with the value that was read
again : (f u : Option Moment) (x y : Option StateRef) (o : PayOptions) → o ≡ record { window = window_between f u; reference = x } → x ≡ y → o ≡ record { window = window_between f u; reference = y }
again f u x y o e same = e ∙ ap (λ (z : Option StateRef). the_options f u z) same where
  the_options : Option Moment → Option Moment → Option StateRef → PayOptions
  the_options f u z = record { window = window_between f u; reference = z }

none_behind : (f : Option Moment) (words : List (List ℕ)) (o : PayOptions) → options_with f None (using_of words) ≡ Some o → Behind f words o
none_behind f words o e =
    let w = with_used f None (using_of words) o e in
    let r = used words w.0 w.1.0 in
    record { until = None; using = r.using; is_until = tt; is_using = r.is_using; are_words = r.are_words; are_options = again f None w.0 (value_of r.using) o w.1.1 r.is }

ends_behind : (f : Option Moment) (word time : List ℕ) (more : List (List ℕ)) (read : Option Moment) (o : PayOptions) → word ≡ codes "until" → moment_of time ≡ read → ends_at f read more ≡ Some o → Behind f (word ∷ time ∷ more) o
ends_behind f word time more None o w is e = absurd cc
ends_behind f word time more (Some m) o w is e =
    let u = with_used f (Some m) (using_of more) o e in
    let r = used more u.0 u.1.0 in
    record {
      until = Some (time, m);
      using = r.using;
      is_until = is;
      is_using = r.is_using;
      are_words = ap (λ (y : List ℕ). y ∷ time ∷ more) w ∙ ap (λ (l : List (List ℕ)). codes "until" ∷ time ∷ l) r.are_words;
      are_options = again f (Some m) u.0 (value_of r.using) o u.1.1 r.is;
    }

behind_by : (f : Option Moment) (word time : List ℕ) (more : List (List ℕ)) (o : PayOptions) (test : Bool) → bytes_eq word (codes "until") ≡ test → (if test then ends_at f (moment_of time) more else options_with f None (using_of (word ∷ time ∷ more))) ≡ Some o → Behind f (word ∷ time ∷ more) o
behind_by f word time more o true is e = ends_behind f word time more (moment_of time) o (is_name word (codes "until") is) refl e
behind_by f word time more o false is e = none_behind f (word ∷ time ∷ more) o e

behind : (f : Option Moment) (words : List (List ℕ)) (o : PayOptions) → until_of f words ≡ Some o → Behind f words o
behind f (word ∷ time ∷ more) o e = behind_by f word time more o (bytes_eq word (codes "until")) refl e
behind f other o e = none_behind f other o e

-- without a start
none_stand : (words : List (List ℕ)) (o : PayOptions) → until_of None words ≡ Some o → Stand words o
none_stand words o e =
    let b = behind None words o e in
    record { from = None; until = b.until; using = b.using; are_words = b.are_words; is_from = tt; is_until = b.is_until; is_using = b.is_using; are_options = b.are_options }

starts_stand : (word time : List ℕ) (more : List (List ℕ)) (read : Option Moment) (o : PayOptions) → word ≡ codes "from" → moment_of time ≡ read → starts_at read more ≡ Some o → Stand (word ∷ time ∷ more) o
starts_stand word time more None o w is e = absurd cc
starts_stand word time more (Some m) o w is e =
    let b = behind (Some m) more o e in
    record {
      from = Some (time, m);
      until = b.until;
      using = b.using;
      are_words = ap (λ (y : List ℕ). y ∷ time ∷ more) w ∙ ap (λ (l : List (List ℕ)). codes "from" ∷ time ∷ l) b.are_words;
      is_from = is;
      is_until = b.is_until;
      is_using = b.is_using;
      are_options = b.are_options;
    }

stand_by : (word time : List ℕ) (more : List (List ℕ)) (o : PayOptions) (test : Bool) → bytes_eq word (codes "from") ≡ test → (if test then starts_at (moment_of time) more else until_of None (word ∷ time ∷ more)) ≡ Some o → Stand (word ∷ time ∷ more) o
stand_by word time more o true is e = starts_stand word time more (moment_of time) o (is_name word (codes "from") is) refl e
stand_by word time more o false is e = none_stand (word ∷ time ∷ more) o e

taken_stand : (words : List (List ℕ)) (o : PayOptions) → options_of words ≡ Some o → Stand words o
taken_stand (word ∷ time ∷ more) o e = stand_by word time more o (bytes_eq word (codes "from")) refl e
taken_stand other o e = none_stand other o e

pub taken_in_order : TakenInOrder
taken_in_order words o = (taken_stand words o, stand_taken words o)
