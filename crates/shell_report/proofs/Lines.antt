-- The lines of flows, one more of them written.
use Rattle.std.proofs.Common.{◌≡◌, ◌++◌, ◌∷◌, [], List, ℕ, zero, suc, ◌+◌, ◌<◌, length, Option, Some, None, MatchOption, slice_get, drop, ◌∙◌, ap, sym, append_assoc, arith}
use Rattle.net_base.proofs.Lists.{drop_get}
use Rattle.flow_machine.specs.declared.flows.FlowState.{FlowState}
use Rattle.net_model.specs.Print.{flow_line, flow_lines}

-- there is something at every place within a list
got : {X : Type 0} (xs : List X) (i : ℕ) → i < length xs → slice_get xs i ≡ None → ⊥
got [] i h e = omega (arith, h)
got (y ∷ ys) zero h e = cc
got (y ∷ ys) (suc i) h e = got ys i (omega (arith, h)) e

-- once the line of a flow is written, the lines behind it are left
one_more : {F : Type 0} (out line all : List ℕ) (flows : List (FlowState F)) (n : ℕ) (flow : FlowState F) → slice_get flows n ≡ Some flow → line ≡ flow_line n flow ++ 10 ∷ []
    → out ++ flow_lines n (drop n flows) ≡ all → (out ++ line) ++ flow_lines (n + 1) (drop (n + 1) flows) ≡ all
one_more out line all flows n flow e is before =
    let next : suc n ≡ n + 1 = omega arith in
    let left : drop n flows ≡ flow ∷ drop (n + 1) flows = drop_get flows n flow e ∙ ap (λ k. flow ∷ drop k flows) next in
    append_assoc out line _
    ∙ ap (λ rest. out ++ rest) (ap (λ text. text ++ flow_lines (n + 1) (drop (n + 1) flows)) is ∙ append_assoc (flow_line n flow) (10 ∷ []) _ ∙ ap (flow_lines n) (sym left))
    ∙ before

-- what is known of the line of a flow, where there is one
abbrev pub Said : {F : Type 0} {S : Type 0} → (S → List ℕ) → List (FlowState F) → ℕ → Option S → Type 0
Said {F} bytes flows n found = MatchOption found (slice_get flows n ≡ None) (λ text. (flow : FlowState F) × (slice_get flows n ≡ Some flow) × (bytes text ≡ flow_line n flow ++ 10 ∷ []))

-- once the line that was found is written, the lines behind it are left
pub some_more : {F : Type 0} {S : Type 0} (bytes : S → List ℕ) (found : Option S) (line : S) (out all : List ℕ) (flows : List (FlowState F)) (n : ℕ) → Said bytes flows n found → found ≡ Some line
    → out ++ flow_lines n (drop n flows) ≡ all → (out ++ bytes line) ++ flow_lines (n + 1) (drop (n + 1) flows) ≡ all
some_more bytes None line out all flows n said e before = cc
some_more bytes (Some text) line out all flows n said e before =
    let same : text ≡ line = cc in
    one_more out (bytes line) all flows n said.0 said.1 (ap bytes (sym same) ∙ said.2) before

-- a line is found at every place within the flows
pub none_found : {F : Type 0} {S : Type 0} (bytes : S → List ℕ) (found : Option S) (flows : List (FlowState F)) (n : ℕ) → Said bytes flows n found → found ≡ None → n < length flows → ⊥
none_found bytes None flows n said e h = got flows n h said
none_found bytes (Some text) flows n said e h = cc
