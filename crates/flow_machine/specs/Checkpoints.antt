-- The spelling of stacks and checkpoints, by the spelling of frames.
use Rattle.std.proofs.Common.{◌≡◌, ◌-◌, ◌<◌, ◌^◌, ℕ, suc, List, [], ◌∷◌, ◌++◌, length, Result, refl, sym, ap, ◌∙◌, arith}
use Rattle.std.specs.Prelude.{map, reverse}
use Rattle.std.specs.List.{flat_map, AllByRecursion}
use Rattle.std.specs.Int.{w16, w32}
use Rattle.std.proofs.lemmas.List.{reverse-append, reverse-reverse, length-reverse, length-map, map-append, flat_map_more}
use Rattle.std.proofs.lemmas.List.Concat.{flat_map-cons}
use Rattle.net_base.specs.Reading.{number}
use Rattle.net_base.specs.Forms.{◌>>=◌, number_at, items_at, list8}
use Rattle.net_base.specs.Laws.{LawsIf, weaker}
use Rattle.net_base.specs.Combining.{bind_laws, mapped_at, mapped_laws, pair_at, pair_laws, iso_laws}
use Rattle.net_base.specs.Fields.{u16_laws, u32_laws, items_laws}
use Rattle.net_base.specs.Kinds.{between_at, between_laws}
use Rattle.net_base.proofs.Lists.{all_reverse}
use Rattle.flow_machine.specs.declared.acts.Act.{Act}
use Rattle.flow_machine.specs.declared.flows.Checkpoint.{Checkpoint}
use Rattle.flow_machine.specs.Stacks.{Frames}
use Rattle.flow_machine.specs.Limits.{IsAct, IsStack}
use Rattle.flow_machine.specs.Acts.{act_text, act_at, act_laws, act_with, SameBytes, act_same}

-- ---- the frames of a stack: u8 depth (1 to 8), each frame, the bottom first

-- the frames, the bottom first
abbrev pub bottom_up : {F : Type 0} → Frames F → List F
bottom_up s = reverse (s.top ∷ s.below)

-- the spelling of a stack, by that of frames
abbrev pub stack_text : {F : Type 0} → (F → List ℕ) → Frames F → List ℕ
stack_text frame_text s = list8 frame_text (bottom_up s)

-- the stack of the frames below, the bottom first, and the top
abbrev stack_of : {F : Type 0} → List F × F → Frames F
stack_of p = record { top = p.1; below = reverse p.0 }

-- reading a stack, by how frames are read
unfoldable pub stack_at : {F : Type 0} → (List ℕ → Result (F × List ℕ) ℕ) → List ℕ → Result (Frames F × List ℕ) ℕ
stack_at frame_at bytes = between_at 1 9 bytes >>= λ n. mapped_at stack_of (pair_at (items_at frame_at (n.0 - 1)) frame_at) n.1

-- one more at the front is one more at the end of the reverse
reverse_cons : {F : Type 0} (x : F) (xs : List F) → reverse (x ∷ xs) ≡ reverse xs ++ x ∷ []
reverse_cons x xs = reverse-append (x ∷ []) xs

-- the spelling of a stack, the top apart
stack_parts : {F : Type 0} (frame_text : F → List ℕ) (s : Frames F) → stack_text frame_text s ≡ suc (length s.below) ∷ (flat_map frame_text (reverse s.below) ++ frame_text s.top)
stack_parts frame_text s =
    let depth : length (bottom_up s) ≡ suc (length s.below) = length-reverse (s.top ∷ s.below) in
    let items : flat_map frame_text (bottom_up s) ≡ flat_map frame_text (reverse s.below) ++ frame_text s.top = ap (flat_map frame_text) (reverse_cons s.top s.below) ∙ sym (flat_map_more frame_text [] (reverse s.below) s.top) in
    λ i. depth i ∷ items i

-- the laws of stacks, by those of frames
pub stack_laws : {F : Type 0} {is_frame : F → Type 0} {frame_text : F → List ℕ} {frame_at : List ℕ → Result (F × List ℕ) ℕ} {exact : Type 0} → LawsIf exact is_frame frame_text frame_at → LawsIf exact (IsStack is_frame) (stack_text frame_text) (stack_at frame_at)
unfolding stack_at
stack_laws {F} {is_frame} {frame_text} {frame_at} {exact} frames =
    bind_laws {second = λ n (s : Frames F). (suc (length s.below) ≡ n) × (is_frame s.top × AllByRecursion is_frame s.below)} {second_spelling = λ n (s : Frames F). flat_map frame_text (reverse s.below) ++ frame_text s.top} {second_reading = λ n bytes. mapped_at stack_of (pair_at (items_at frame_at (n - 1)) frame_at) bytes} (weaker exact (between_laws 1 9 (omega arith)))
    (λ n h. mapped_laws stack_of (pair_laws (items_laws frames (n - 1)) frames) (record {
      keeps = λ p hp.
          ((omega (arith, h.0, hp.0.0, length-reverse p.0), (hp.1, all_reverse is_frame p.0 hp.0.1)), ap (λ (l : List F). flat_map frame_text l ++ frame_text p.1) (reverse-reverse p.0));
      from = λ s hs.
          ((reverse s.below, s.top), (((omega (arith, hs.0, length-reverse s.below), all_reverse is_frame s.below hs.1.1), hs.1.0), λ i. record { top = s.top; below = reverse-reverse s.below i }));
    }))
    (record {
      join = λ n s hn hs. ((hs.1.0, (omega (arith, hn.1, hs.0), hs.1.1)), stack_parts frame_text s ∙ ap (λ (k : ℕ). k ∷ (flat_map frame_text (reverse s.below) ++ frame_text s.top)) hs.0);
      split = λ s hs. (suc (length s.below), ((omega arith, omega (arith, hs.1.0)), (refl, (hs.0, hs.1.1))));
    })

-- ---- Checkpoint: u32 flow, u32 step, u16 class, the act, the stack

-- the limits of a checkpoint, by those of frames
abbrev pub IsCheckpoint : {F : Type 0} → (F → Type 0) → Checkpoint F → Type 0
IsCheckpoint is_frame c = (c.flow < 2 ^ 32) × ((c.step < 2 ^ 32) × ((c.class < 2 ^ 16) × (IsAct is_frame c.waiting × IsStack is_frame c.stack)))

-- the spelling of a checkpoint, by that of frames
abbrev pub checkpoint_text : {F : Type 0} → (F → List ℕ) → Checkpoint F → List ℕ
checkpoint_text frame_text c = number w32 c.flow ++ (number w32 c.step ++ (number w16 c.class ++ (act_text frame_text c.waiting ++ stack_text frame_text c.stack)))

-- a checkpoint of its fields
abbrev checkpoint_of : {F : Type 0} → ℕ × (ℕ × (ℕ × (Act F × Frames F))) → Checkpoint F
checkpoint_of p = record { flow = p.0; step = p.1.0; class = p.1.1.0; waiting = p.1.1.1.0; stack = p.1.1.1.1 }

-- reading a checkpoint, by how frames are read
unfoldable pub checkpoint_at : {F : Type 0} → (List ℕ → Result (F × List ℕ) ℕ) → List ℕ → Result (Checkpoint F × List ℕ) ℕ
checkpoint_at frame_at = mapped_at checkpoint_of (pair_at (number_at w32) (pair_at (number_at w32) (pair_at (number_at w16) (pair_at (act_at frame_at) (stack_at frame_at)))))

-- the laws of checkpoints, by those of frames
pub checkpoint_laws : {F : Type 0} {is_frame : F → Type 0} {frame_text : F → List ℕ} {frame_at : List ℕ → Result (F × List ℕ) ℕ} {exact : Type 0} → LawsIf exact is_frame frame_text frame_at → LawsIf exact (IsCheckpoint is_frame) (checkpoint_text frame_text) (checkpoint_at frame_at)
unfolding checkpoint_at
checkpoint_laws {exact = exact} frames =
    iso_laws checkpoint_of (λ c. (c.flow, (c.step, (c.class, (c.waiting, c.stack))))) (λ _. refl) (λ _. refl) (pair_laws (weaker exact u32_laws) (pair_laws (weaker exact u32_laws) (pair_laws (weaker exact u16_laws) (pair_laws (act_laws frames) (stack_laws frames)))))

-- ---- the same with frames seen as another type's

-- the stack with each frame replaced
abbrev pub stack_with : {F G : Type 0} → (F → G) → Frames F → Frames G
stack_with see s = record { top = see s.top; below = map see s.below }

-- the checkpoint with each frame replaced
abbrev pub checkpoint_with : {F G : Type 0} → (F → G) → Checkpoint F → Checkpoint G
checkpoint_with see c = record { flow = c.flow; step = c.step; class = c.class; waiting = act_with see c.waiting; stack = stack_with see c.stack }

-- the reverse of what is replaced
reverse_map : {F G : Type 0} (see : F → G) (xs : List F) → reverse (map see xs) ≡ map see (reverse xs)
reverse_map see [] = refl
reverse_map see (x ∷ xs) = reverse_cons (see x) (map see xs) ∙ ap (λ (l : List _). l ++ see x ∷ []) (reverse_map see xs) ∙ sym (map-append see (reverse xs) (x ∷ [])) ∙ ap (map see) (sym (reverse_cons x xs))

-- frames one after the other have the same bytes
items_same : {F G : Type 0} (is_f : F → Type 0) (f : F → List ℕ) (is_g : G → Type 0) (g : G → List ℕ) (see : F → G) → SameBytes is_f f is_g g see → (xs : List F) → AllByRecursion is_f xs → AllByRecursion is_g (map see xs) × (flat_map g (map see xs) ≡ flat_map f xs)
items_same is_f f is_g g see same [] h = (tt, refl)
items_same is_f f is_g g see same (x ∷ xs) h =
    let one = same x h.0 in
    let rest = items_same is_f f is_g g see same xs h.1 in
    ((one.0, rest.0), flat_map-cons g (see x) (map see xs) ∙ (λ i. one.1 i ++ rest.1 i) ∙ sym (flat_map-cons f x xs))

-- the stack has the same bytes, and keeps its limits
pub stack_same : {F G : Type 0} (is_f : F → Type 0) (f : F → List ℕ) (is_g : G → Type 0) (g : G → List ℕ) (see : F → G) → SameBytes is_f f is_g g see → SameBytes (IsStack is_f) (stack_text f) (IsStack is_g) (stack_text g) (stack_with see)
stack_same is_f f is_g g see same s h =
    let below = items_same is_f f is_g g see same s.below h.1.1 in
    let upward = items_same is_f f is_g g see same (bottom_up s) (all_reverse is_f (s.top ∷ s.below) (h.0, h.1.1)) in
    let seen : bottom_up (stack_with see s) ≡ map see (bottom_up s) = reverse_map see (s.top ∷ s.below) in
    let count : length (bottom_up (stack_with see s)) ≡ length (bottom_up s) = ap length seen ∙ length-map (bottom_up s) see in
    let items : flat_map g (bottom_up (stack_with see s)) ≡ flat_map f (bottom_up s) = ap (flat_map g) seen ∙ upward.1 in
    (((same s.top h.0).0, (omega (arith, h.1.0, length-map s.below see), below.0)), λ i. count i ∷ items i)

-- the checkpoint has the same bytes, and keeps its limits
pub checkpoint_same : {F G : Type 0} (is_f : F → Type 0) (f : F → List ℕ) (is_g : G → Type 0) (g : G → List ℕ) (see : F → G) → SameBytes is_f f is_g g see → SameBytes (IsCheckpoint is_f) (checkpoint_text f) (IsCheckpoint is_g) (checkpoint_text g) (checkpoint_with see)
checkpoint_same is_f f is_g g see same c h =
    let waiting = act_same is_f f is_g g see same c.waiting h.1.1.1.0 in
    let stack = stack_same is_f f is_g g see same c.stack h.1.1.1.1 in
    ((h.0, (h.1.0, (h.1.1.0, (waiting.0, stack.0)))), λ i. number w32 c.flow ++ (number w32 c.step ++ (number w16 c.class ++ (waiting.1 i ++ stack.1 i))))
