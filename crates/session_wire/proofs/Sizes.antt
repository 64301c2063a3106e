-- How many bytes items and frames have at most.
use Rattle.std.proofs.Common.{◌≤◌, ℕ, [], ◌∷◌, ◌++◌, length, arith}
use Rattle.std.specs.Int.{w16, w32, w64}
use Rattle.net_base.specs.declared.values.Party.{Party}
use Rattle.net_base.specs.declared.names.Key.{Key}
use Rattle.net_base.specs.Reading.{number}
use Rattle.ledger_types.specs.Values.{value}
use Rattle.ledger_types.proofs.Sizes.{Fits, number16_fits, number32_fits, number64_fits, joined, value_fits}
use Rattle.session_wire.specs.declared.body.Body.TheVariants.{Init, Confirm, Reject, Data, Error, End}
use Rattle.session_wire.specs.declared.frame.Frame.TheVariants.{Message, Ack}
use Rattle.session_wire.specs.Bodies.{IsBody, body_text}
use Rattle.session_wire.specs.Frames.{IsFrame, frame, route_text}

-- an item of a session in at most 9,812
pub body_fits : Fits IsBody body_text 9812
body_fits (Init class first) h = let fits = joined (number w16 class) (value first) 2 9809 (number16_fits class) (value_fits first h.1) in omega (arith, fits)
body_fits (Reject code) h = omega (arith, number16_fits code)
body_fits (Data x) h = let fits = value_fits x h in omega (arith, fits)
body_fits (Error code) h = omega (arith, number16_fits code)
body_fits Confirm h = omega arith
body_fits End h = omega arith

-- sides, session and direction
route_fits : (from to : Party) (key : Key) (direction : ℕ) → length (route_text from to key direction) ≤ 8
route_fits from to key direction =
    let number_part = joined (number w32 key.number) (direction ∷ []) 4 1 (number32_fits key.number) (omega arith) in
    omega (arith, number_part)

-- each frame fits into 32,768 bytes
pub frame_fits : Fits IsFrame frame 32768
frame_fits (Message from to key direction seq stamp body) h =
    let parts =
    joined (route_text from to key direction) (number w32 seq ++ (number w64 stamp ++ body_text body)) 8 9824 (route_fits from to key direction)
    (joined (number w32 seq) (number w64 stamp ++ body_text body) 4 9820 (number32_fits seq)
    (joined (number w64 stamp) (body_text body) 8 9812 (number64_fits stamp) (body_fits body h.1.1.1.1.0))) in
    omega (arith, parts)
frame_fits (Ack from to key direction upto) h =
    let parts = joined (route_text from to key direction) (number w32 upto) 8 4 (route_fits from to key direction) (number32_fits upto) in
    omega (arith, parts)
