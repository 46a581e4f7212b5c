-- Where all blocks have room, so has each alone, and the normal form of the last of them.
-- Assumes nothing.
use Rattle.std.proofs.Common.{ℕ, zero, suc, ◌<◌, ◌≤◌, List, [], ◌∷◌, length, drop, arith}
use lib.Seq.{drop-cons}
use Rattle.model.specs.declared.Block.{Block}
use Rattle.model.specs.DashedString.{block, block_at}
use Rattle.model.specs.Size.{Room}
use Rattle.model.specs.NormalForm.{normal}
use Rattle.model.proofs.Room.{normal_room}

module _ (xs : List Block) where
  -- the blocks from i on have room where all have
  room_from : Room 64 xs → (i : ℕ) → i ≤ length xs → Room 64 (drop i xs)
  room_from r zero h = r
  room_from r (suc i) h =
      let more = rw (drop-cons xs i (block 0 0 0) h) at (room_from r i (omega arith)) in
      record { each = more.each.1; sum = omega (arith, more.sum) }

  -- so has block i alone
  pub room_at : Room 64 xs → (i : ℕ) → i < length xs → Room 64 (block_at xs i ∷ [])
  room_at r i h =
      let more = rw (drop-cons xs i (block 0 0 0) h) at (room_from r i (omega arith)) in
      record { each = (more.each.0, tt); sum = omega (arith, more.sum) }

  -- and the normal form of those from i on
  pub room_normal : Room 64 xs → (i : ℕ) → i ≤ length xs → Room 64 (normal (drop i xs))
  room_normal r i h = normal_room 64 (drop i xs) (room_from r i h)
