-- The bytes between the places before and behind a checkpoint are the checkpoint's.
use Rattle.std.proofs.Common.{◌≡◌, ◌-◌, ◌≤◌, ℕ, List, ◌++◌, length, take, Ok, refl, sym, ap, ◌∙◌, arith}
use Rattle.std.proofs.lemmas.List.{take_at, length-append}
use Rattle.net_base.specs.Reading.{Reading, IsBytes}
use Rattle.net_base.specs.Laws.{done}
use Rattle.net_base.specs.Parts.{SameEnd}
use Rattle.flow_machine.specs.declared.act_spelling.FrameBytes.{FrameBytes}
use Rattle.flow_machine.specs.declared.flows.Checkpoint.{Checkpoint}
use Rattle.flow_machine.specs.Acts.{frame_bytes_at, frame_bytes_laws}
use Rattle.flow_machine.specs.Checkpoints.{checkpoint_at, checkpoint_laws}
use Rattle.transition_record.specs.Changes.{bytes_of, checkpoint_bytes_at}

-- a checkpoint is read onwards
pub no_earlier : (old new : Reading) (c : Checkpoint FrameBytes) → IsBytes old.left → checkpoint_at frame_bytes_at old.left ≡ Ok (c, new.left) → SameEnd old new → old.place ≤ new.place
no_earlier old new c fits e same =
    let t = (checkpoint_laws frame_bytes_laws).takes old.left (c, new.left) fits e in
    let count : length old.left ≡ length (bytes_of c ++ new.left) = ap length t.0 in
    omega (arith, same, count, length-append (bytes_of c) new.left)

-- and its bytes are those between
pub bytes_between : (old new : Reading) (c : Checkpoint FrameBytes) → IsBytes old.left → checkpoint_at frame_bytes_at old.left ≡ Ok (c, new.left) → SameEnd old new → checkpoint_bytes_at old.left ≡ Ok (take (new.place - old.place) old.left, new.left)
unfolding checkpoint_bytes_at
bytes_between old new c fits e same =
    let t = (checkpoint_laws frame_bytes_laws).takes old.left (c, new.left) fits e in
    let whole : length old.left ≡ length (bytes_of c ++ new.left) = ap length t.0 in
    let count : new.place - old.place ≡ length (bytes_of c) = omega (arith, same, whole, length-append (bytes_of c) new.left) in
    let front : take (new.place - old.place) old.left ≡ bytes_of c = (λ i. take (count i) (t.0 i)) ∙ take_at (bytes_of c) new.left (length (bytes_of c)) refl in
    let read : checkpoint_bytes_at old.left ≡ done (bytes_of c, new.left) = rw e refl in
    read ∙ ap (λ (l : List ℕ). done (l, new.left)) (sym front)
