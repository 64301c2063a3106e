-- Reading parts one after the other.
use Rattle.std.proofs.Common.{◌≡◌, ℕ, ◌+◌, ◌<◌, ◌≤◌, List, [], ◌∷◌, ◌++◌, length, drop, get_or, map, Option, Some, None, Result, Ok, Err, option_map, refl, sym, ap, ◌∙◌, append_assoc, append-nil}
use Rattle.std.specs.List.{AllByRecursion}
use Rattle.std.proofs.lemmas.List.{at_drop_more, at_drop_all}
use Rattle.net_base.specs.Laws.{Laws}
use Rattle.ledger_types.specs.declared.torn.TornPart.{TornPart}
use Rattle.ledger_types.specs.Tears.{whole, joined, spelt_by}
use Rattle.tx_tear.specs.declared.reading.TearFault.{TearFault}
use Rattle.tx_tear.specs.declared.reading.TearFault.TheVariants.{BadTear, Memory}
use Rattle.tx_tear.specs.Tearing.{parts_from}
use Rattle.tx_tear.specs.Telling.{Tells}

-- values before others, where there are others
abbrev pub after : {V : Type 0} → List V → Option (List V) → Option (List V)
after items o = option_map (λ vs. items ++ vs) o

after_joined : {V : Type 0} (items : List V) (v : V) (o : Option (List V)) → after items (joined (Some v) o) ≡ after (items ++ v ∷ []) o
after_joined items v None = refl
after_joined {V} items v (Some vs) = ap (λ (l : List V). Some l) (sym (append_assoc items (v ∷ []) vs))

one_on : {V : Type 0} (reading : List ℕ → Result (V × List ℕ) ℕ) (items : List V) (parts : List TornPart) (i : ℕ) (part : TornPart) → i < length parts → part ≡ get_or parts i part
    → after items (spelt_by reading (drop i parts)) ≡ after items (joined (whole (reading part.bytes)) (spelt_by reading (drop (i + 1) parts)))
one_on reading items parts i part lt is =
    at_drop_more (λ (l : List TornPart). after items (spelt_by reading l)) parts i part lt
    ∙ ap (λ (p : TornPart). after items (joined (whole (reading p.bytes)) (spelt_by reading (drop (i + 1) parts)))) (sym is)

pub goes_on : {V : Type 0} (reading : List ℕ → Result (V × List ℕ) ℕ) (items : List V) (parts : List TornPart) (i : ℕ) (part : TornPart) (v : V) (all : Option (List V)) → i < length parts → part ≡ get_or parts i part
    → whole (reading part.bytes) ≡ Some v → after items (spelt_by reading (drop i parts)) ≡ all → after (items ++ v ∷ []) (spelt_by reading (drop (i + 1) parts)) ≡ all
goes_on {V} reading items parts i part v all lt is read so_far =
    sym (after_joined items v (spelt_by reading (drop (i + 1) parts)))
    ∙ ap (λ (o : Option V). after items (joined o (spelt_by reading (drop (i + 1) parts)))) (sym read)
    ∙ sym (one_on reading items parts i part lt is) ∙ so_far

pub stops : {V : Type 0} (reading : List ℕ → Result (V × List ℕ) ℕ) (items : List V) (parts : List TornPart) (i : ℕ) (part : TornPart) (all : Option (List V)) → i < length parts → part ≡ get_or parts i part
    → whole (reading part.bytes) ≡ None → after items (spelt_by reading (drop i parts)) ≡ all → all ≡ None
stops {V} reading items parts i part all lt is read so_far =
    sym so_far ∙ one_on reading items parts i part lt is ∙ ap (λ (o : Option V). after items (joined o (spelt_by reading (drop (i + 1) parts)))) read

pub ends : {V : Type 0} (reading : List ℕ → Result (V × List ℕ) ℕ) (items : List V) (parts : List TornPart) (i : ℕ) (all : Option (List V)) → length parts ≤ i → after items (spelt_by reading (drop i parts)) ≡ all → all ≡ Some items
ends {V} reading items parts i all le so_far =
    sym so_far ∙ at_drop_all (λ (l : List TornPart). after items (spelt_by reading l)) parts i le ∙ ap (λ (l : List V). Some l) (append-nil items)

-- what is spelt in parts is read from them
pub spelt_all : {V : Type 0} {within : V → Type 0} {spelling : V → List ℕ} {reading : List ℕ → Result (V × List ℕ) ℕ} (laws : Laws within spelling reading) (salt : List ℕ) (group place : ℕ) (vs : List V) → AllByRecursion within vs
    → spelt_by reading (parts_from salt group place (map spelling vs)) ≡ Some vs
spelt_all laws salt group place [] h = refl
spelt_all {V} {within} {spelling} {reading} laws salt group place (v ∷ vs) h =
    let one : reading (spelling v) ≡ Ok (v, []) = ap reading (sym (append-nil (spelling v))) ∙ laws.again v [] h.0 in
    ap (λ (r : Result (V × List ℕ) ℕ). joined (whole r) (spelt_by reading (parts_from salt group (place + 1) (map spelling vs)))) one
    ∙ ap (λ (o : Option (List V)). joined (Some v) o) (spelt_all laws salt group (place + 1) vs h.1)

-- a fault of a part is one of the whole
pub fails : {V W : Type 0} (e : TearFault) (a : Option V) (b : Option W) → (a ≡ None → b ≡ None) → Tells {V = V} (Err e) a → Tells {V = W} (Err e) b
fails BadTear a b f h = f h
fails Memory a b f h = tt

-- parts with the bytes of values spell these values
pub spelt_of : {V : Type 0} {within : V → Type 0} {spelling : V → List ℕ} {reading : List ℕ → Result (V × List ℕ) ℕ} (laws : Laws within spelling reading) (parts : List TornPart) (vs : List V) → AllByRecursion within vs → map (λ (p : TornPart). p.bytes) parts ≡ map spelling vs
    → spelt_by reading parts ≡ Some vs
spelt_of laws [] [] h e = refl
spelt_of laws [] (v ∷ vs) h e = absurd cc
spelt_of laws (p ∷ parts) [] h e = absurd cc
spelt_of {V} {within} {spelling} {reading} laws (p ∷ parts) (v ∷ vs) h e =
    let bytes : p.bytes ≡ spelling v = cc in
    let rest : map (λ (q : TornPart). q.bytes) parts ≡ map spelling vs = cc in
    let one : reading p.bytes ≡ Ok (v, []) = ap reading (bytes ∙ sym (append-nil (spelling v))) ∙ laws.again v [] h.0 in
    ap (λ (r : Result (V × List ℕ) ℕ). joined (whole r) (spelt_by reading parts)) one ∙ ap (λ (o : Option (List V)). joined (Some v) o) (spelt_of laws parts vs h.1 rest)
