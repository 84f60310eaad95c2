-- How the call that reads from any bit on ends. Assumes nothing.
use mathlib.Core.Path.{◌≡◌, refl}
use mathlib.Core.List.{List}
use Prim.Native.Nat.{ℕ, ◌+◌, ◌*◌}
use lib.ListN.{length}
use Rattle.packing.specs.declared.reader.Cursor.{Cursor}
use Rattle.packing.specs.Reading.{Read}
use Rattle.packing.proofs.Reading.{cursor_parts}
use Rattle.ring_calls.specs.Outcome.{Outcome}
use Rattle.ring_calls.specs.From.{Reachable, UnpackedFrom}

-- Done: the arguments fit.
finish : {A Fit : Type 0} {exit entry wanted : A} → Fit → exit ≡ wanted → Outcome Fit 0 exit entry wanted
finish fit e = record { done = λ _. (refl, e); refused = λ not. absurd (not fit) }

-- Done: what is read is the coefficients, and the cursor after them has the byte and the bit.
pub finish_from : {w byte bit : ℕ} {src entry : List ℕ} {byte₀ bit₀ : ℕ} {next : Cursor} {exit : List ℕ}
    → Reachable w byte bit (length entry) (length src) → Read w (length entry) src (record { byte = byte; bit = bit }) next exit
    → UnpackedFrom w byte bit src 0 entry exit byte₀ next.byte bit₀ next.bit
finish_from {w} {byte} {bit} {entry = entry} fit r =
    let parts = cursor_parts (8 * byte + bit + w * length entry) r.place in
    record {
      coefficients = finish fit r.coefficients;
      byte_after = finish fit parts.0;
      bit_after = finish fit parts.1;
    }
