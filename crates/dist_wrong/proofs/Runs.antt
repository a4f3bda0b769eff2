-- Pieces of runs.
-- Assumes nothing.
use Prim.Native.Nat.{ℕ, zero, suc}
use mathlib.Core.Bool.{true}
use mathlib.Core.List.{List, [], ◌∷◌, ◌++◌}
use lib.Dec.{T}
use lib.ListN.{replicate}
use Rattle.promises.specs.Run.{Block, are_bytes, Load, Event, submit, reset, frame, arrive, told_done, deliver}

-- a block with Verified Length
abbrev pub sure : (b : Block) → T (are_bytes b) → Load
sure b bytes = record { verified = true; block = b; bytes = bytes }

-- a block of one byte, with Verified Length
abbrev pub byte : (n : ℕ) → T (are_bytes (n ∷ [])) → Load
byte n bytes = sure (n ∷ []) bytes

-- the message asked for is done
abbrev pub done : List Event
done = arrive ∷ told_done ∷ []

-- two frames, and the read of 27T is done
abbrev pub read : List Event
read = frame ∷ frame ∷ done

-- a Reset, accepted
abbrev pub sync : List Event
sync = reset ∷ done ++ read

-- a take with room for n bytes
abbrev pub takes : ℕ → List Event
takes n = deliver (replicate n 0) ∷ []

-- a block of one message, taken and confirmed
abbrev pub whole : Load → List Event
whole b = submit b ∷ done ++ done ++ takes 64 ++ read

abbrev pub times : ℕ → List Event → List Event
times zero es = []
times (suc n) es = es ++ times n es
