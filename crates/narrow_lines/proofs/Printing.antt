-- The loop that prints the lines: what is printed so far, and what remains for the bytes held and those that come.
use Rattle.std.proofs.Common.{◌≡◌, ℕ, Bool, List, ◌++◌, take, drop, Option, None, Some, refl, ◌∙◌, sym, ap, subst, append-nil, append_assoc}
use Rattle.std.specs.Io.KnownBytes.{Appends, Consumes}
use Rattle.std.proofs.KnownBytes.{Appends-trans}
use Rattle.lines.specs.declared.Pause.{Pause}
use Rattle.lines.specs.declared.Pause.TheVariants.{Full, More, Done}
use Rattle.lines.specs.declared.Progress.{Progress}
use Rattle.lines.specs.Output.{lines_from}
use Rattle.lines.specs.Parts.{remaining, Later, Advances}
use Rattle.narrow_lines.specs.Held.{Ends}
use Rattle.narrow_lines.specs.Prints.{PrintsMasks}

-- of the lines of what was held and left at first, some text is printed; the rest are the lines of what is held and left now
pub record Owes (bs : List ℕ) (n₀ : ℕ) (held₀ xs : List ℕ) (w₀ : Option (List ℕ)) (n : ℕ) (held : List ℕ) (a w : Option (List ℕ)) : Type 0 where
  pub left : List ℕ
  pub left_is : a ≡ Some left
  pub text : List ℕ
  pub printed : Appends w₀ w text
  pub lines : lines_from bs n₀ (held₀ ++ xs) ≡ text ++ lines_from bs n (held ++ left)

-- the same where it is known what the reader had left at first, and whether nothing is left
pub record Going (bs : List ℕ) (n₀ : ℕ) (held₀ : List ℕ) (a₀ w₀ : Option (List ℕ)) (n : ℕ) (held : List ℕ) (ended : Bool) (a w : Option (List ℕ)) : Type 0 where
  pub ends : Ends ended a
  pub owes : (xs : List ℕ) → a₀ ≡ Some xs → Owes bs n₀ held₀ xs w₀ n held a w

-- what a read leaves of known bytes
lost : (b : Option (List ℕ)) (ys more : List ℕ) → Consumes (Some ys) b more → (zs : List ℕ) × (b ≡ Some zs) × (ys ≡ more ++ zs)
lost None ys more c = absurd c
lost (Some zs) ys more c = (zs, refl, c)

-- bytes that are read are held behind the others
pub going_read : (bs : List ℕ) (n₀ : ℕ) (held₀ : List ℕ) (a₀ w₀ : Option (List ℕ)) (n : ℕ) (held : List ℕ) (ended : Bool) (a w b : Option (List ℕ))
    (more : List ℕ) (ended' : Bool) → Going bs n₀ held₀ a₀ w₀ n held ended a w → Consumes a b more → Ends ended' b
    → Going bs n₀ held₀ a₀ w₀ n (held ++ more) ended' b w
going_read bs n₀ held₀ a₀ w₀ n held ended a w b more ended' g c e = record {
  ends = e;
  owes = λ xs is.
      let o = g.owes xs is in
      let (zs, b-is, split) = lost b o.left more (rw o.left_is at c) in
      record {
        left = zs;
        left_is = b-is;
        text = o.text;
        printed = o.printed;
        lines = o.lines ∙ ap (λ l. o.text ++ lines_from bs n l) (ap (λ l. held ++ l) split ∙ sym (append_assoc held more zs));
      };
}

-- before the end all that remains is still to be printed
remains : (p : Pause) (lines : List ℕ) → (p ≡ Done → ⊥) → remaining p lines ≡ lines
remains Full lines h = refl
remains More lines h = refl
remains Done lines h = absurd (h refl)

module _ (bs : List ℕ) (n₀ : ℕ) (held₀ : List ℕ) (a₀ w₀ : Option (List ℕ)) (n : ℕ) (held : List ℕ) (ended : Bool) (a w v : Option (List ℕ))
    (out : List ℕ) (p : Progress) (g : Going bs n₀ held₀ a₀ w₀ n held ended a w) (step : Advances bs held ended n out p) (wrote : Appends w v (take p.size out)) where
  -- a turn's text, and what remains behind it
  turn : (xs : List ℕ) (o : Owes bs n₀ held₀ xs w₀ n held a w)
      → lines_from bs n₀ (held₀ ++ xs) ≡ (o.text ++ take p.size out) ++ remaining p.pause (lines_from bs p.number (drop p.taken held ++ o.left))
  turn xs o =
      let later : Later ended o.left = λ t. rw o.left_is at (g.ends t) in
      o.lines ∙ ap (λ l. o.text ++ l) (step.lines o.left later) ∙ sym (append_assoc o.text (take p.size out) _)

  -- a turn that goes on
  pub going_on : (p.pause ≡ Done → ⊥) → Going bs n₀ held₀ a₀ w₀ p.number (drop p.taken held) ended a v
  going_on further = record {
    ends = g.ends;
    owes = λ xs is.
        let o = g.owes xs is in
        record {
          left = o.left;
          left_is = o.left_is;
          text = o.text ++ take p.size out;
          printed = Appends-trans w₀ w v o.text (take p.size out) o.printed wrote;
          lines = turn xs o ∙ ap (λ l. (o.text ++ take p.size out) ++ l) (remains p.pause _ further);
        };
  }

  -- the last turn
  pub last : (xs : List ℕ) → a₀ ≡ Some xs → p.pause ≡ Done → Appends w₀ v (lines_from bs n₀ (held₀ ++ xs))
  last xs is done =
      let o = g.owes xs is in
      let whole : lines_from bs n₀ (held₀ ++ xs) ≡ o.text ++ take p.size out =
      turn xs o ∙ rw (done, append-nil) in
      subst (Appends w₀ v) (sym whole) (Appends-trans w₀ w v o.text (take p.size out) o.printed wrote)

-- nothing is claimed where it is not known what the reader had left
pub prints : (bs : List ℕ) (n : ℕ) (held : List ℕ) (a w v : Option (List ℕ)) → ((xs : List ℕ) → a ≡ Some xs → Appends w v (lines_from bs n (held ++ xs)))
    → PrintsMasks bs n held a w v
prints bs n held None w v h = tt
prints bs n held (Some xs) w v h = h xs refl
