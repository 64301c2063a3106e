-- What may follow the amount of a payment: `from T`, `until T` and `using ID INDEX`, in this order, each at most once.
use Rattle.std.specs.Prelude.{◌≡◌, ℕ, ◌≤◌, List, [], ◌∷◌, ◌++◌, length, codes, Option, Some, None, IfSome, Result, Bool, true, false, refl, if◌then◌else◌}
use Rattle.std.specs.Str.{bytes_eq}
use Rattle.std.proofs.Common.{subst}
use Rattle.net_base.specs.declared.values.Moment.{Moment}
use Rattle.net_base.specs.declared.names.StateRef.{StateRef}
use Rattle.net_base.specs.Forms.{option_of, option_at}
use Rattle.net_base.specs.Laws.{Laws}
use Rattle.net_base.specs.Combining.{mapped_at, pair_at, pair_laws, iso_laws}
use Rattle.net_base.specs.Fields.{option_laws}
use Rattle.net_base.specs.Names.{IsStateRef, state_ref, state_ref_at, state_ref_laws}
use Rattle.net_base.specs.Values.{IsMoment, moment}
use Rattle.ledger_types.specs.declared.tx.Window.{Window}
use Rattle.ledger_types.specs.Txs.{IsWindow, window, window_at, window_laws}
use Rattle.ledger_types.proofs.Sizes.{joined, number64_fits}
use Rattle.flow_forms.specs.Sizes.{option_fits}
use Rattle.flow_txs.specs.Kinds.{reference_fits}
use Rattle.flow_txs.specs.Words.{reference_of, reference_within}
use Rattle.cash_flows.specs.Words.{moment_of, moment_within}
use Rattle.cash_flows.specs.declared.options.PayOptions.{PayOptions}

-- ---- words

-- the window between two moments, where one of them is named
abbrev pub window_between : Option Moment → Option Moment → Option Window
window_between None None = None
window_between None (Some until) = Some (record { from = None; until = Some until })
window_between (Some from) until = Some (record { from = Some from; until = until })

-- the options of a window and of what is said of the reference
abbrev pub options_with : Option Moment → Option Moment → Option (Option StateRef) → Option PayOptions
options_with from until None = None
options_with from until (Some reference) = Some (record { window = window_between from until; reference = reference })

-- a reference that is named
abbrev pub named : Option StateRef → Option (Option StateRef)
named None = None
named (Some r) = Some (Some r)

-- `using ID INDEX`, or nothing
abbrev pub using_of : List (List ℕ) → Option (Option StateRef)
using_of [] = Some None
using_of (word ∷ id ∷ index ∷ []) = if bytes_eq word (codes "using") then named (reference_of id index) else None
using_of other = None

-- an end, and the reference behind it
abbrev pub ends_at : Option Moment → Option Moment → List (List ℕ) → Option PayOptions
ends_at from None more = None
ends_at from (Some until) more = options_with from (Some until) (using_of more)

-- `until T`, or nothing, and then `using ID INDEX`, or nothing
abbrev pub until_of : Option Moment → List (List ℕ) → Option PayOptions
until_of from (word ∷ time ∷ more) = if bytes_eq word (codes "until") then ends_at from (moment_of time) more else options_with from None (using_of (word ∷ time ∷ more))
until_of from other = options_with from None (using_of other)

-- a start, and the end and the reference behind it
abbrev pub starts_at : Option Moment → List (List ℕ) → Option PayOptions
starts_at None more = None
starts_at (Some from) more = until_of (Some from) more

-- `from T`, or nothing, and then the others
abbrev pub options_of : List (List ℕ) → Option PayOptions
options_of (word ∷ time ∷ more) = if bytes_eq word (codes "from") then starts_at (moment_of time) more else until_of None (word ∷ time ∷ more)
options_of other = until_of None other

-- ---- bytes

-- the limits of the options
abbrev pub ArePayOptions : PayOptions → Type 0
ArePayOptions o = IfSome o.window IsWindow × IfSome o.reference IsStateRef

-- the window and the reference
abbrev pub pay_options : PayOptions → List ℕ
pay_options o = option_of window o.window ++ option_of state_ref o.reference

-- options of their parts
abbrev pub pay_options_of : Option Window × Option StateRef → PayOptions
pay_options_of p = record { window = p.0; reference = p.1 }

-- reading them
unfoldable pub pay_options_at : List ℕ → Result (PayOptions × List ℕ) ℕ
pay_options_at = mapped_at pay_options_of (pair_at (option_at window_at) (option_at state_ref_at))

-- their laws
pub pay_options_laws : Laws ArePayOptions pay_options pay_options_at
unfolding pay_options_at
pay_options_laws = iso_laws pay_options_of (λ o. (o.window, o.reference)) (λ _. refl) (λ _. refl) (pair_laws (option_laws window_laws) (option_laws state_ref_laws))

pub window_fits : (w : Window) → IsWindow w → length (window w) ≤ 18
window_fits w h = joined (option_of moment w.from) (option_of moment w.until) 9 9 (option_fits IsMoment moment 8 (λ m is. number64_fits m.0) w.from h.0) (option_fits IsMoment moment 8 (λ m is. number64_fits m.0) w.until h.1)

-- they have at most 56 bytes
pub options_few : (o : PayOptions) → ArePayOptions o → length (pay_options o) ≤ 56
options_few o h = joined (option_of window o.window) (option_of state_ref o.reference) 19 37 (option_fits IsWindow window 18 window_fits o.window h.0) (option_fits IsStateRef state_ref 36 reference_fits o.reference h.1)

-- ---- words give options within their limits

window_is : (from until : Option Moment) → IfSome from IsMoment → IfSome until IsMoment → IfSome (window_between from until) IsWindow
window_is None None f u = tt
window_is None (Some until) f u = (tt, u)
window_is (Some from) until f u = (f, u)

with_is : (from until : Option Moment) (reference : Option (Option StateRef)) (o : PayOptions) → IfSome from IsMoment → IfSome until IsMoment → IfSome reference (λ r. IfSome r IsStateRef) → options_with from until reference ≡ Some o → ArePayOptions o
with_is from until None o f u r e = absurd cc
with_is from until (Some reference) o f u r e =
    let given : PayOptions = record { window = window_between from until; reference = reference } in
    let same : given ≡ o = cc in
    subst ArePayOptions same (window_is from until f u, r)

named_is : (reference : Option StateRef) → ((r : StateRef) → reference ≡ Some r → IsStateRef r) → IfSome (named reference) (λ r. IfSome r IsStateRef)
named_is None h = tt
named_is (Some r) h = h r refl

using_by : (id index : List ℕ) (test : Bool) → IfSome (if test then named (reference_of id index) else None) (λ r. IfSome r IsStateRef)
using_by id index true = named_is (reference_of id index) (reference_within id index)
using_by id index false = tt

using_is : (words : List (List ℕ)) → IfSome (using_of words) (λ r. IfSome r IsStateRef)
using_is [] = tt
using_is (word ∷ id ∷ index ∷ []) = using_by id index (bytes_eq word (codes "using"))
using_is other = tt

ends_is : (from until : Option Moment) (more : List (List ℕ)) (o : PayOptions) → IfSome from IsMoment → ((m : Moment) → until ≡ Some m → IsMoment m) → ends_at from until more ≡ Some o → ArePayOptions o
ends_is from None more o f u e = absurd cc
ends_is from (Some until) more o f u e = with_is from (Some until) (using_of more) o f (u until refl) (using_is more) e

until_by : (from : Option Moment) (word time : List ℕ) (more : List (List ℕ)) (o : PayOptions) (test : Bool) → IfSome from IsMoment → (if test then ends_at from (moment_of time) more else options_with from None (using_of (word ∷ time ∷ more))) ≡ Some o → ArePayOptions o
until_by from word time more o true f e = ends_is from (moment_of time) more o f (moment_within time) e
until_by from word time more o false f e = with_is from None (using_of (word ∷ time ∷ more)) o f tt (using_is (word ∷ time ∷ more)) e

until_is : (from : Option Moment) (words : List (List ℕ)) (o : PayOptions) → IfSome from IsMoment → until_of from words ≡ Some o → ArePayOptions o
until_is from (word ∷ time ∷ more) o f e = until_by from word time more o (bytes_eq word (codes "until")) f e
until_is from other o f e = with_is from None (using_of other) o f tt (using_is other) e

starts_is : (from : Option Moment) (more : List (List ℕ)) (o : PayOptions) → ((m : Moment) → from ≡ Some m → IsMoment m) → starts_at from more ≡ Some o → ArePayOptions o
starts_is None more o f e = absurd cc
starts_is (Some from) more o f e = until_is (Some from) more o (f from refl) e

options_by : (word time : List ℕ) (more : List (List ℕ)) (o : PayOptions) (test : Bool) → (if test then starts_at (moment_of time) more else until_of None (word ∷ time ∷ more)) ≡ Some o → ArePayOptions o
options_by word time more o true e = starts_is (moment_of time) more o (moment_within time) e
options_by word time more o false e = until_is None (word ∷ time ∷ more) o tt e

pub options_within : (words : List (List ℕ)) (o : PayOptions) → options_of words ≡ Some o → ArePayOptions o
options_within (word ∷ time ∷ more) o e = options_by word time more o (bytes_eq word (codes "from")) e
options_within other o e = until_is None other o tt e
