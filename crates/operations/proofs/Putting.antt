-- A record put into the answer buffer, where it has room.
-- Assumes nothing.
use Prim.Native.Nat.{ℕ, ◌+◌, ◌*◌, ◌≤◌, ◌<◌}
use mathlib.Core.Path.{◌≡◌}
use mathlib.Core.List.{List}
use native.Mathlib.Omega.{arith}
use borrow.Author.Tests.{lt-ltb, le-ltb}
use lib.ListN.{length}
use Rattle.std.proofs.Common.{Ok, Err}
use Rattle.model.specs.declared.Block.{Block}
use Rattle.model.specs.declared.Refusal.TheVariants.{Room}
use Rattle.model.specs.Refusal.{accepted}
use Rattle.records.specs.Bytes.{over}
use Rattle.records.proofs.Checks.{on, off}
use Rattle.records.specs.Written.{mask_bytes}
use Rattle.records.proofs.RoundTrip.{length_mask}
use Rattle.operations.specs.Buffer.{Puts}

-- blocks, and a buffer
module _ (xs : List Block) (old : List ℕ) where
  -- the buffer is shorter than their record
  pub put_short : length old < 6 + 12 * length xs → Puts (mask_bytes xs) old old (Err Room)
  put_short h =
      let refused = on _ Room accepted (lt-ltb (length old) (length (mask_bytes xs)) (omega (arith, length_mask xs))) in
      record { answer = rw refused; buffer = rw refused }

  -- it has room for it
  pub put_written : (new : List ℕ) (r : ℕ) → 6 + 12 * length xs ≤ length old → r ≡ 6 + 12 * length xs → new ≡ over (mask_bytes xs) old
      → Puts (mask_bytes xs) old new (Ok r)
  put_written new r h e w =
      let passes = off _ Room accepted (le-ltb (length old) (length (mask_bytes xs)) (omega (arith, length_mask xs))) in
      record { answer = rw (passes, e, length_mask xs); buffer = rw passes w }
