-- A normal form that is given block by block: its last block, and how many they are.
-- Assumes nothing.
use Rattle.std.proofs.Common.{ℕ, ◌≡◌, ◌≤◌, ◌<◌, Option, Some, None, List, [], length, ap, sym, arith}
use Rattle.std.specs.Iterator.{YieldsFirst, item_count, MakesProgress, Drains}
use Rattle.std.proofs.lemmas.Iterator.Consumers.{YieldsList-from_first, count_from_yields_List}
use Rattle.model.specs.NormalForm.{normal}
use Rattle.model.proofs.Room.{normal_shorter}
use Rattle.operations.specs.declared.joined.Joined.{Joined}
use Rattle.model.specs.declared.Block.{Block}
use Rattle.normal_form.specs.Joining.{perhaps}

-- what is given when no block is left is the last of an iterator's list, or there was none
module _ {S : Type 0} (rest : S → List Block) (s : S) (r : Option Block) (t : S) (none : rest t ≡ []) (last : perhaps r [] ≡ rest s) where
  pub last_steps : YieldsFirst rest s r t
  last_steps = go r last
    where
      go : (r : Option Block) → perhaps r [] ≡ rest s → YieldsFirst rest s r t
      go None e = (sym e, none)
      go (Some x) e = rw none (sym e)

  pub last_goes : (can : S → Type 0) → can t → MakesProgress can (item_count rest) s r t
  last_goes can c = go r last
    where
      go : (r : Option Block) → perhaps r [] ≡ rest s → MakesProgress can (item_count rest) s r t
      go None e = record { on = λ f. tt; keeps = tt; rests = λ f. tt }
      go (Some x) e = let more : length (rest t) < length (rest s) = rw (none, ← e) (omega arith) in record { on = λ f. (c, tt, more); keeps = c; rests = λ f. tt }

-- what is still to come
abbrev pub to_come : Joined → List Block
to_come s = normal (perhaps s.joiner.held s.blocks)

-- all blocks of the normal form are still to come
module _ (xs : List Block) (s : Joined) (all : perhaps s.joiner.held s.blocks ≡ xs) where
  -- they are no more than the blocks
  pub joined_few : length (to_come s) ≤ length xs
  joined_few = rw all (normal_shorter xs)

  -- so many come
  pub joined_counted : (r : ℕ) → ((ys : List Block) × Drains (YieldsFirst to_come) s ys × (r ≡ length ys)) → r ≡ length (normal xs)
  joined_counted r ran = count_from_yields_List s r ran (YieldsList-from_first (λ x. x) to_come (normal xs) (ap normal all))
