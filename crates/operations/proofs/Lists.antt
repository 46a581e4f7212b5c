-- A mask that is lent as a list of blocks: its own checks, and what narrow promises of it.
-- Assumes nothing.
use Rattle.std.proofs.Common.{◌≡◌, ℕ, false, ◌+◌, ◌^◌, ◌≤◌, ◌<◌, Some, Result, Ok, Err, List, [], ◌∷◌, length, take, ap, ◌∙◌, arith, lt-ltb, le-ltb}
use Rattle.std.proofs.lemmas.Nat.{le_or_l, le_or_r}
use Rattle.model.specs.declared.Block.{Block}
use Rattle.model.specs.declared.Refusal.{Refusal}
use Rattle.model.specs.declared.Refusal.TheVariants.{OutOfRange, Foreign}
use Rattle.model.specs.Refusal.{accepted, refuse}
use Rattle.model.specs.Set.{either, some_from}
use Rattle.model.specs.DashedString.{Each}
use Rattle.model.specs.Size.{Fits, uppers}
use Rattle.records.specs.declared.totals.Totals.{Totals}
use Rattle.records.specs.declared.book.Book.{Book}
use Rattle.records.specs.Mask.{blocks_refusal, totals_of, with_letters, read_blocks, foreign}
use Rattle.records.specs.Read.{automaton, ReadsBook}
use Rattle.records.proofs.Answers.{unless_ok, unless_err}
use Rattle.records.proofs.Checks.{on, off, peel}
use Rattle.records.proofs.Taking.{used_foreign}
use Rattle.records.proofs.WellFormed.{Wide, blocks_fit}
use Rattle.operations.specs.declared.Narrowed.{Narrowed}
use Rattle.operations.specs.Pair.{list_refusal, from_list, given_refusal}
use Rattle.operations.specs.Narrow.{Narrows, NarrowsGiven}
use Rattle.operations.proofs.Pairs.{refused_book, refused_mask, letters_decide}
use Rattle.operations.proofs.NarrowPromise.{narrow_refused}

-- the letters that some set has are a number of 8 bytes, and so each set is
wide_sets : (s : ℕ) (xs : List Block) → with_letters s xs < 2 ^ 64 → (s ≤ with_letters s xs) × Each Wide xs
unfolding with_letters
wide_sets s [] h = (omega arith, tt)
wide_sets s (x ∷ xs) h =
    let (more, all) = wide_sets (either s x.base) xs h in
    (omega (arith, more, le_or_l s x.base), (omega (arith, more, le_or_r s x.base), all))

-- a list of at most 1,024 blocks, with a book that was read
module _ (bs : List ℕ) (xs : List Block) (few : length xs ≤ 1024) (b : Book) (read : ReadsBook bs (Ok b)) where
  -- its own checks are 7 and 8
  list_checks : list_refusal xs ≡ blocks_refusal xs
  unfolding list_refusal
  list_checks = off _ OutOfRange _ (le-ltb 1024 (length xs) few)

  -- these refuse it
  pub list_refused : (r : Refusal) → read_blocks xs ≡ Err r → given_refusal (from_list bs xs) ≡ Some r
  unfolding read_blocks
  list_refused r e = refused_mask (from_list bs xs) read.0 r (list_checks ∙ unless_err (blocks_refusal xs) _ r e)

  -- they don't: check 9 decides, by the totals of the list
  module _ (t : Totals) (totals : read_blocks xs ≡ Ok t) where
    passed : (blocks_refusal xs ≡ accepted) × (t ≡ totals_of xs)
    unfolding read_blocks
    passed = unless_ok (blocks_refusal xs) _ t totals

    pub list_read : given_refusal (from_list bs xs) ≡ refuse (some_from t.used b.table.letters) Foreign accepted
    list_read = letters_decide (from_list bs xs) read.0 (list_checks ∙ passed.0) b read.1 t passed.1

    -- nothing refuses it
    module _ (own : refuse (some_from t.used b.table.letters) Foreign accepted ≡ accepted) where
      -- where its sets are numbers of 8 bytes, it is ready for the passes
      pub list_ready : (blocks_refusal xs ≡ accepted) × (t ≡ totals_of xs) × (foreign b.table.letters xs ≡ false)
          × (t.used < 2 ^ 64 → Fits b.table.letters xs)
      list_ready =
          let same = ap (λ (x : Totals). x.used) passed.1 in
          let letters = rw (same, used_foreign) at (peel _ _ _ own).0 in
          (passed.0, passed.1, letters, λ small. blocks_fit b.table.letters xs (wide_sets 0 xs (rw same at small)).1 few passed.0 letters)

      -- a room begins with it
      module _ (room : List Block) (copied : take (length xs) room ≡ xs) where
        -- what narrow promises of these blocks it promises of the list
        pub copy_promised : (old new : List ℕ) (a : Result Narrowed Refusal)
            → NarrowsGiven (automaton b) (take (length xs) room) old new a → Narrows (from_list bs xs) old new a
        copy_promised old new a h = h (from_list bs xs) (list_read ∙ own) read.1 copied

        -- they are ready for the passes too
        pub copy_ready : t.used < 2 ^ 64 → Fits b.table.letters (take (length xs) room)
        copy_ready small = rw copied (list_ready.3 small)

        -- and a room of the largest size is large enough for them
        pub copy_lent : t.used < 2 ^ 64 → (sets : List ℕ) → length room ≡ 2048 → 1024 ≤ length sets
            → (uppers (take (length xs) room) + length xs ≤ length room) × (uppers (take (length xs) room) ≤ length sets)
        copy_lent small sets h l =
            let sum = (list_ready.3 small).room.sum in
            rw copied (omega (arith, few, sum, h), omega (arith, sum, l))

-- ---- the checks that come before its own 7 and 8

module _ (bs : List ℕ) (xs : List Block) (old : List ℕ) where
  -- the book is refused
  pub list_book : (r : Refusal) → ReadsBook bs (Err r) → Narrows (from_list bs xs) old old (Err r)
  list_book r e = narrow_refused (from_list bs xs) old r (refused_book (from_list bs xs) r e)

  -- there are more than 1,024 blocks
  pub list_long : (b : Book) → ReadsBook bs (Ok b) → 1024 < length xs → Narrows (from_list bs xs) old old (Err OutOfRange)
  unfolding list_refusal
  list_long b read h =
      let fails = on _ OutOfRange (blocks_refusal xs) (lt-ltb 1024 (length xs) h) in
      narrow_refused (from_list bs xs) old OutOfRange (refused_mask (from_list bs xs) read.0 OutOfRange fails)
